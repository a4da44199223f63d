-- Each list stays in rising order of its keys.
use Rattle.std.proofs.Common.{◌≡◌, ℕ, zero, suc, ◌+◌, ◌<◌, List, [], ◌∷◌, map, Some, None, Option, refl, sym, arith}
use Rattle.std.specs.declared.cmp.Ordering.TheVariants.{Less}
use Rattle.std.specs.Ordering.{nat_cmp}
use Rattle.std.specs.Cmp.{nat_cmp_is}
use Rattle.std.specs.List.{AllByRecursion}
use Rattle.std.specs.List.Sorted.{IsStrictlySortedBy}
use Rattle.std.specs.Map.{keys_of}
use Rattle.std.proofs.lemmas.Cmp.{nat_cmp_total}
use Rattle.cp_ops.specs.declared.entry.Entry.{Entry}
use Rattle.cp_group_state.specs.Rows.{put, without}
use Rattle.cp_group_state.specs.Invariants.{IsRising}
use Rattle.cp_group_state.proofs.Keyed.{number_key}
use Rattle.cp_group_state.proofs.Rising.{rising-put, rising-without}
use Rattle.cp_meta_state.specs.declared.rows.Standing.TheVariants as standing
use Rattle.cp_meta_state.specs.MetaState.{MetaState, Groups, GroupRow, numbers, first_state, group_at}
use Rattle.cp_meta_state.specs.Moving.{configured}
use Rattle.cp_meta_state.specs.Apply.{apply, state_after}
use Rattle.cp_meta_state.specs.Ranges.{IsOrdered}
use Rattle.cp_meta_state.proofs.Walk.{Kept, walk}

pub put-rises : {X : Type 0} (rows : List (ℕ × X)) (n : ℕ) (x : X) → IsRising nat_cmp rows → IsRising nat_cmp (put nat_cmp rows n x)
put-rises rows n x h = rising-put nat_cmp number_key nat_cmp_total rows n x h

pub without-rises : {X : Type 0} (rows : List (ℕ × X)) (n : ℕ) → IsRising nat_cmp rows → IsRising nat_cmp (without nat_cmp rows n)
without-rises rows n h = rising-without nat_cmp number_key nat_cmp_total rows n h

configured-rises : (o : Option GroupRow) (group at : ℕ) (members : List ℕ) (rows : Groups) → IsRising nat_cmp rows → IsRising nat_cmp (configured o group at members rows)
configured-rises None group at members rows h = h
configured-rises (Some row) group at members rows h = put-rises rows group _ h

-- any numbers
abbrev pub Any : ℕ → Type 0
Any n = Unit {0}

pub each-any : (ms : List ℕ) → AllByRecursion Any ms
each-any [] = tt
each-any (m ∷ ms) = (tt, each-any ms)

pub order_kept : (i : ℕ) (e : Entry) → Kept i e IsOrdered IsOrdered Any
order_kept i e = record {
  later = λ s h. h;
  numbered = λ s h. each-any (keys_of s.members);
  stands = λ s m how r h. record { members = put-rises s.members m how h.members; groups = h.groups; destroyed = h.destroyed; moves = h.moves };
  moves = λ s g add remove there a r h. record { members = h.members; groups = h.groups; destroyed = h.destroyed; moves = put-rises s.moves g.0 _ h.moves };
  makes = λ s call name size is enough room h. record { members = h.members; groups = put-rises s.groups i _ h.groups; destroyed = h.destroyed; moves = without-rises s.moves i h.moves };
  begins = λ s g there room h. record { members = h.members; groups = put-rises s.groups g.0 _ h.groups; destroyed = h.destroyed; moves = without-rises s.moves g.0 h.moves };
  ends = λ s group row is going h. record { members = h.members; groups = without-rises s.groups group h.groups; destroyed = put-rises s.destroyed group tt h.destroyed; moves = without-rises s.moves group h.moves };
  settles = λ s group at members is h. record { members = h.members; groups = configured-rises (group_at s group.0) group.0 at members s.groups h.groups; destroyed = h.destroyed; moves = without-rises s.moves group.0 h.moves };
}

-- ---- at first

numbers-above : (b n from : ℕ) → b < from → AllByRecursion (λ y. nat_cmp b y ≡ Less) (keys_of (map (λ m. (m, standing.Active)) (numbers n from)))
numbers-above b zero from h = tt
numbers-above b (suc n) from h = (sym (nat_cmp_is b from Less h), numbers-above b n (from + 1) (omega (arith, h)))

pub numbers_rise : (n from : ℕ) → IsRising nat_cmp (map (λ m. (m, standing.Active)) (numbers n from))
unfolding IsStrictlySortedBy
numbers_rise zero from = tt
numbers_rise (suc n) from = (numbers-above from n (from + 1) (omega arith), numbers_rise n (from + 1))

pub order-first : (members size : ℕ) → IsOrdered (first_state members size)
unfolding IsStrictlySortedBy
order-first members size = record { members = numbers_rise members 1; groups = ((refl, tt), (tt, tt)); destroyed = tt; moves = tt }

order-after : (i : ℕ) (es : List Entry) (s : MetaState) → IsOrdered s → IsOrdered (state_after i es s)
order-after i [] s h = h
order-after i (e ∷ es) s h = order-after (i + 1) es (apply i e s).state (walk i e IsOrdered IsOrdered Any (order_kept i e) s h)

pub always-ordered : (members size : ℕ) (history : List Entry) → IsOrdered (state_after 1 history (first_state members size))
always-ordered members size history = order-after 1 history (first_state members size) (order-first members size)
