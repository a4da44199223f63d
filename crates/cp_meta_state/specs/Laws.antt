-- What holds of METADATA's state after every history.
use Rattle.std.specs.Prelude.{◌≡◌, ℕ, ◌-◌, ◌≤◌, ◌⊎◌, true, List, length, Some, None, is_some, slice_get}
use Rattle.std.specs.List.{AllByRecursion}
use Rattle.std.specs.Ordering.{nat_cmp}
use Rattle.cp_base.specs.declared.identifier.Invocation.{Invocation}
use Rattle.cp_base.specs.declared.limits.TheConstants.{LAST_NUMBER, MOST_MEMBER}
use Rattle.cp_ops.specs.declared.group_op.GroupOp.TheVariants as group_op
use Rattle.cp_ops.specs.declared.op.Op.TheVariants as op
use Rattle.cp_ops.specs.declared.entry.Entry.{Entry}
use Rattle.cp_ops.specs.declared.entry.Entry.TheVariants as entry
use Rattle.cp_ops.specs.Entries.{entry_grammar}
use Rattle.cp_group_state.specs.Rows.{find}
use Rattle.cp_meta_state.specs.MetaState.{MetaState, GroupRow, first_state, group_at}
use Rattle.cp_meta_state.specs.Apply.{Applied, apply, run, state_after}
use Rattle.cp_meta_state.specs.Ranges.{IsOrdered, MovesAreOfGroups, IsSound, AnswerFits}

-- Of each state that a history leaves. A history's fronts are histories too, so it is each state on the way.
abbrev pub Always : (MetaState → Type 0) → Type 0
Always P = (members size : ℕ) (history : List Entry) → P (state_after 1 history (first_state members size))

-- no number stands twice in a list, and no group has two moves
abbrev pub ListsStayOrdered : Type 0
ListsStayOrdered = Always IsOrdered

-- a group that has ended has no row
abbrev pub IsApart : MetaState → Type 0
IsApart s = (group : ℕ) → is_some (find nat_cmp s.destroyed group) ≡ true → group_at s group ≡ None

abbrev pub EndedGroupsAreGone : Type 0
EndedGroupsAreGone = Always IsApart

-- a move is of a group that has a row
abbrev pub MovesStayWithGroups : Type 0
MovesStayWithGroups = Always MovesAreOfGroups

-- the entry at this index asks for a group of this name
abbrev pub IsMadeBy : List Entry → ℕ → List ℕ → Type 0
IsMadeBy history index name = (call : Invocation) × ((size : ℕ) × (slice_get history (index - 1) ≡ Some (entry.Call call (op.Group (group_op.Create name size)))))

-- The number of a group is the index of the entry that made it; METADATA and `default` are there from the first.
abbrev pub NumbersAreIndexes : Type 0
NumbersAreIndexes = (members size : ℕ) (history : List Entry) (group : ℕ) (row : GroupRow) → group_at (state_after 1 history (first_state members size)) group ≡ Some row → (group ≤ 1) ⊎ IsMadeBy history group row.name

-- ---- ranges

-- an entry leaves a sound state, and its answers have spellings
pub record IsSoundStep (x : Applied) : Type 0 where
  pub state : IsSound x.state
  pub answers : AllByRecursion AnswerFits x.answers

abbrev pub FirstStateIsSound : Type 0
FirstStateIsSound = (members size : ℕ) → 1 ≤ size → size ≤ members → members ≤ MOST_MEMBER → IsSound (first_state members size)

abbrev pub EntriesKeepStatesSound : Type 0
EntriesKeepStatesSound = (index : ℕ) (entry : Entry) (s : MetaState) → index ≤ LAST_NUMBER → entry_grammar.Fits entry → IsSound s → IsSoundStep (apply index entry s)

abbrev pub HistoriesAreSound : Type 0
HistoriesAreSound = (members size : ℕ) (history : List Entry) → 1 ≤ size → size ≤ members → members ≤ MOST_MEMBER
    → length history ≤ LAST_NUMBER → AllByRecursion entry_grammar.Fits history → AllByRecursion IsSoundStep (run 1 history (first_state members size))
