-- No group that has ended has a row.
use Rattle.std.proofs.Common.{◌≡◌, ℕ, ◌+◌, ◌≤◌, ◌⊎◌, inl, inr, true, false, List, [], ◌∷◌, Some, None, Option, refl, sym, ap, subst, arith}
use Rattle.std.specs.Prelude.{is_some}
use Rattle.std.specs.Ordering.{nat_cmp}
use Rattle.std.specs.BTreeMap.{is_at}
use Rattle.std.proofs.lemmas.Cmp.{nat_cmp_total}
use Rattle.cp_ops.specs.declared.entry.Entry.{Entry}
use Rattle.cp_group_state.specs.Rows.{find, put, without}
use Rattle.cp_group_state.specs.Invariants.{IsRising}
use Rattle.cp_base.proofs.Tests.{no_true}
use Rattle.cp_group_state.proofs.Keyed.{number_key}
use Rattle.cp_group_state.proofs.Rising.{find-without_same}
use Rattle.cp_meta_state.specs.MetaState.{MetaState, GroupRow, first_state}
use Rattle.std.specs.Map.{keys_of}
use Rattle.cp_meta_state.specs.Moving.{configured}
use Rattle.cp_meta_state.specs.Apply.{apply, state_after}
use Rattle.cp_meta_state.specs.Ranges.{IsOrdered}
use Rattle.cp_meta_state.specs.Laws.{IsApart}
use Rattle.cp_meta_state.proofs.Among.{there-among}
use Rattle.cp_meta_state.proofs.Walk.{Kept, walk}
use Rattle.cp_meta_state.proofs.Lookups.{same-or, not_both, put-there, without-there, without-none, put-none}
use Rattle.cp_meta_state.proofs.Ordered.{Any, each-any, order_kept, order-first}

abbrev IsThere : List (ℕ × GroupRow) → ℕ → Type 0
IsThere rows group = is_some (find nat_cmp rows group) ≡ true

-- After so many entries: numbers of groups are indexes, and no number is that of a row and of a group that has ended.
record Apart (j : ℕ) (groups : List (ℕ × GroupRow)) (gone : List (ℕ × Unit {0})) : Type 0 where
  rows : (g : ℕ) → IsThere groups g → (g ≤ j) ⊎ (g ≤ 1)
  ended : (g : ℕ) → is_some (find nat_cmp gone g) ≡ true → g ≤ j
  apart : (g : ℕ) → is_some (find nat_cmp gone g) ≡ true → find nat_cmp groups g ≡ None

within : (j g : ℕ) → (g ≤ j) ⊎ (g ≤ 1) → g ≤ j + 1
within j g (inl h) = omega (arith, h)
within j g (inr h) = omega (arith, h)

apart-later : (j : ℕ) (groups : List (ℕ × GroupRow)) (gone : List (ℕ × Unit {0})) → Apart j groups gone → Apart (j + 1) groups gone
apart-later j groups gone h = record {
  rows = λ g there. inl (within j g (h.rows g there));
  ended = λ g end. let low = h.ended g end in omega (arith, low);
  apart = h.apart;
}

apart-new : (j : ℕ) (groups : List (ℕ × GroupRow)) (gone : List (ℕ × Unit {0})) (row : GroupRow) → Apart j groups gone → Apart (j + 1) (put nat_cmp groups (j + 1) row) gone
apart-new j groups gone row h = record {
  rows = λ g there. inl (low g (put-there groups (j + 1) g row there));
  ended = λ g end. let l = h.ended g end in omega (arith, l);
  apart = λ g end. put-none groups (j + 1) g row (λ same. let l = h.ended g end in absurd (omega (arith, l, same))) (h.apart g end);
} where
  low : (g : ℕ) → (g ≡ j + 1) ⊎ IsThere groups g → g ≤ j + 1
  low g (inl same) = omega (arith, same)
  low g (inr there) = within j g (h.rows g there)

apart-put : (j : ℕ) (groups : List (ℕ × GroupRow)) (gone : List (ℕ × Unit {0})) (group : ℕ) (row : GroupRow) → IsThere groups group → Apart j groups gone → Apart j (put nat_cmp groups group row) gone
apart-put j groups gone group row there h = record {
  rows = λ g now. h.rows g (before g (put-there groups group g row now));
  ended = h.ended;
  apart = λ g end. put-none groups group g row (λ same. not_both groups g (before g (inl same)) (h.apart g end)) (h.apart g end);
} where
  before : (g : ℕ) → (g ≡ group) ⊎ IsThere groups g → IsThere groups g
  before g (inl same) = subst (λ (n : ℕ). IsThere groups n) (sym same) there
  before g (inr was) = was

apart-end : (j : ℕ) (groups : List (ℕ × GroupRow)) (gone : List (ℕ × Unit {0})) (group : ℕ) → IsRising nat_cmp groups → IsThere groups group
    → Apart (j + 1) groups gone → Apart (j + 1) (without nat_cmp groups group) (put nat_cmp gone group tt)
apart-end j groups gone group rising there h = record {
  rows = λ g now. h.rows g (without-there groups group g rising now);
  ended = λ g end. low g (put-there gone group g tt end);
  apart = λ g end. none g (put-there gone group g tt end);
} where
  first : (g : ℕ) → (g ≤ j + 1) ⊎ (g ≤ 1) → g ≤ j + 1
  first g (inl l) = l
  first g (inr l) = omega (arith, l)

  low : (g : ℕ) → (g ≡ group) ⊎ (is_some (find nat_cmp gone g) ≡ true) → g ≤ j + 1
  low g (inl same) = first g (h.rows g (subst (λ (n : ℕ). IsThere groups n) (sym same) there))
  low g (inr was) = h.ended g was

  none : (g : ℕ) → (g ≡ group) ⊎ (is_some (find nat_cmp gone g) ≡ true) → find nat_cmp (without nat_cmp groups group) g ≡ None
  none g (inl same) = subst (λ (n : ℕ). find nat_cmp (without nat_cmp groups group) n ≡ None) (sym same) (find-without_same nat_cmp number_key nat_cmp_total groups group rising)
  none g (inr was) = without-none groups group g rising (λ apart. h.apart g was)

apart-configured : (j : ℕ) (groups : List (ℕ × GroupRow)) (gone : List (ℕ × Unit {0})) (group at : ℕ) (members : List ℕ) → Apart j groups gone → Apart j (configured (find nat_cmp groups group) group at members groups) gone
apart-configured j groups gone group at members h = by (find nat_cmp groups group) refl where
  by : (o : Option GroupRow) → is_some (find nat_cmp groups group) ≡ is_some o → Apart j (configured o group at members groups) gone
  by None there = h
  by (Some row) there = apart-put j groups gone group _ there h

-- ---- histories

record Holds (j : ℕ) (s : MetaState) : Type 0 where
  ordered : IsOrdered s
  apart : Apart j s.groups s.destroyed

apart_kept : (j : ℕ) (e : Entry) → Kept (j + 1) e (Holds j) (Holds (j + 1)) Any
apart_kept j e = let o = order_kept (j + 1) e in record {
  later = λ s h. record { ordered = h.ordered; apart = apart-later j s.groups s.destroyed h.apart };
  numbered = λ s h. each-any (keys_of s.members);
  stands = λ s m how r h. record { ordered = o.stands s m how r h.ordered; apart = h.apart };
  moves = λ s g add remove there a r h. record { ordered = o.moves s g add remove there a r h.ordered; apart = h.apart };
  makes = λ s call name size is enough room h. record { ordered = o.makes s call name size is enough room h.ordered; apart = apart-new j s.groups s.destroyed _ h.apart };
  begins = λ s g there room h. record { ordered = o.begins s g there room h.ordered; apart = apart-put (j + 1) s.groups s.destroyed g.0 _ (there-among s.groups g there) h.apart };
  ends = λ s group row is going h. record { ordered = o.ends s group row is going h.ordered; apart = apart-end j s.groups s.destroyed group h.ordered.groups (ap is_some is) h.apart };
  settles = λ s group at members is h. record { ordered = o.settles s group at members is h.ordered; apart = apart-configured (j + 1) s.groups s.destroyed group.0 at members h.apart };
}

apart-first : (members size : ℕ) → Holds 0 (first_state members size)
apart-first members size = record { ordered = order-first members size; apart = record { rows = λ g there. by g (same-or g 0) (same-or g 1) there; ended = λ g end. absurd (no_true (sym end)); apart = λ g end. absurd (no_true (sym end)) } } where
  by : (g : ℕ) → (g ≡ 0) ⊎ (is_at (nat_cmp g) 0 ≡ false) → (g ≡ 1) ⊎ (is_at (nat_cmp g) 1 ≡ false) → IsThere (first_state members size).groups g → (g ≤ 0) ⊎ (g ≤ 1)
  by g (inl same) b there = inr (omega (arith, same))
  by g (inr a) (inl same) there = inr (omega (arith, same))
  by g (inr a) (inr b) there = absurd (none (sym there)) where
    none : true ≡ is_some (find nat_cmp (first_state members size).groups g) → ⊥
    none = rw (a, b) no_true

apart-after : (j : ℕ) (es : List Entry) (s : MetaState) → Holds j s → IsApart (state_after (j + 1) es s)
apart-after j [] s h = h.apart.apart
apart-after j (e ∷ es) s h = apart-after (j + 1) es (apply (j + 1) e s).state (walk (j + 1) e (Holds j) (Holds (j + 1)) Any (apart_kept j e) s h)

pub always-apart : (members size : ℕ) (history : List Entry) → IsApart (state_after 1 history (first_state members size))
always-apart members size history = apart-after 0 history (first_state members size) (apart-first members size)
