-- Each move is of a group that has a row.
use Rattle.std.proofs.Common.{◌≡◌, ℕ, ◌+◌, true, List, [], ◌∷◌, Some, None, Option, refl, sym, ◌∙◌, subst}
use Rattle.std.specs.Prelude.{is_some}
use Rattle.std.specs.Map.{keys_of}
use Rattle.std.specs.Ordering.{nat_cmp}
use Rattle.cp_ops.specs.declared.entry.Entry.{Entry}
use Rattle.cp_group_state.specs.Rows.{find, put, without}
use Rattle.cp_group_state.specs.Invariants.{IsRising}
use Rattle.cp_group_state.proofs.Keyed.{number_key, find-put_other, find-without_other}
use Rattle.cp_meta_state.specs.MetaState.{MetaState, Groups, Moves, GroupRow, MoveRow, first_state, group_at}
use Rattle.cp_meta_state.specs.Moving.{configured}
use Rattle.cp_meta_state.specs.Apply.{apply, state_after}
use Rattle.cp_meta_state.specs.Ranges.{IsOrdered, MovesAreOfGroups}
use Rattle.cp_meta_state.proofs.Among.{there-among}
use Rattle.cp_meta_state.proofs.Walk.{Kept, walk}
use Rattle.cp_meta_state.proofs.Lookups.{not_both, without-none, put-none}
use Rattle.cp_meta_state.proofs.Ordered.{Any, each-any, order_kept, order-first}

abbrev pub Within : Groups → Moves → Type 0
Within groups moves = (g : ℕ) → find nat_cmp groups g ≡ None → find nat_cmp moves g ≡ None

pub within-move : (groups : Groups) (moves : Moves) (group : ℕ) (move : MoveRow) → is_some (find nat_cmp groups group) ≡ true → Within groups moves → Within groups (put nat_cmp moves group move)
within-move groups moves group move there h g none = put-none moves group g move (λ same. not_both groups group there (subst (λ (n : ℕ). find nat_cmp groups n ≡ None) same none)) (h g none)

-- a row is put, and the move of its group goes
pub within-put : (groups : Groups) (moves : Moves) (group : ℕ) (row : GroupRow) → IsRising nat_cmp moves → Within groups moves → Within (put nat_cmp groups group row) (without nat_cmp moves group)
within-put groups moves group row rising h g none = without-none moves group g rising (λ apart. h g (sym (find-put_other nat_cmp number_key groups group g row apart) ∙ none))

pub within-end : (groups : Groups) (moves : Moves) (group : ℕ) → IsRising nat_cmp moves → Within groups moves → Within (without nat_cmp groups group) (without nat_cmp moves group)
within-end groups moves group rising h g none = without-none moves group g rising (λ apart. h g (sym (find-without_other nat_cmp number_key groups group g apart) ∙ none))

pub within-configured : (o : Option GroupRow) (groups : Groups) (moves : Moves) (group at : ℕ) (members : List ℕ) → IsRising nat_cmp moves → Within groups moves → Within (configured o group at members groups) (without nat_cmp moves group)
within-configured None groups moves group at members rising h g none = without-none moves group g rising (λ apart. h g none)
within-configured (Some row) groups moves group at members rising h g none = within-put groups moves group _ rising h g none

pub record Holds (s : MetaState) : Type 0 where
  pub ordered : IsOrdered s
  pub within : MovesAreOfGroups s

pub moves_kept : (i : ℕ) (e : Entry) → Kept i e Holds Holds Any
moves_kept i e = let o = order_kept i e in record {
  later = λ s h. h;
  numbered = λ s h. each-any (keys_of s.members);
  stands = λ s m how r h. record { ordered = o.stands s m how r h.ordered; within = h.within };
  moves = λ s g add remove there a r h. record { ordered = o.moves s g add remove there a r h.ordered; within = within-move s.groups s.moves g.0 _ (there-among s.groups g there) h.within };
  makes = λ s call name size is enough room h. record { ordered = o.makes s call name size is enough room h.ordered; within = within-put s.groups s.moves i _ h.ordered.moves h.within };
  begins = λ s g there room h. record { ordered = o.begins s g there room h.ordered; within = within-put s.groups s.moves g.0 _ h.ordered.moves h.within };
  ends = λ s group row is going h. record { ordered = o.ends s group row is going h.ordered; within = within-end s.groups s.moves group h.ordered.moves h.within };
  settles = λ s group at members is h. record { ordered = o.settles s group at members is h.ordered; within = within-configured (group_at s group.0) s.groups s.moves group.0 at members h.ordered.moves h.within };
}

within-after : (i : ℕ) (es : List Entry) (s : MetaState) → Holds s → MovesAreOfGroups (state_after i es s)
within-after i [] s h = h.within
within-after i (e ∷ es) s h = within-after (i + 1) es (apply i e s).state (walk i e Holds Holds Any (moves_kept i e) s h)

pub always-within : (members size : ℕ) (history : List Entry) → MovesAreOfGroups (state_after 1 history (first_state members size))
always-within members size history = within-after 1 history (first_state members size) (record { ordered = order-first members size; within = λ g none. refl })
