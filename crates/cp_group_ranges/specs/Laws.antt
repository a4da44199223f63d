-- Sound states stay sound, and what they answer has a spelling.
use Rattle.std.specs.Prelude.{ℕ, ◌≤◌, length}
use Rattle.std.specs.List.{AllByRecursion}
use Rattle.cp_base.specs.declared.limits.TheConstants.{LAST_NUMBER}
use Rattle.cp_ops.specs.declared.entry.Entry.{Entry}
use Rattle.cp_ops.specs.Entries.{entry_grammar}
use Rattle.cp_group_state.specs.GroupState.{GroupState, empty}
use Rattle.cp_group_state.specs.Apply.{Applied, apply, run}
use Rattle.cp_group_state.specs.History.{History}
use Rattle.cp_group_state.specs.Invariants.{HoldingsStand}
use Rattle.cp_group_ranges.specs.Rows.{AnswerFits}
use Rattle.cp_group_ranges.specs.States.{IsSound}
use Rattle.cp_group_ranges.specs.Owners.{IsOwned, IsCounted}

-- an entry leaves a sound state, and its answers have spellings
pub record IsSoundStep (x : Applied) : Type 0 where
  pub state : IsSound x.state
  pub answers : AllByRecursion AnswerFits x.answers

abbrev pub FirstStateIsSound : Type 0
FirstStateIsSound = IsSound empty

abbrev pub EntriesKeepStatesSound : Type 0
EntriesKeepStatesSound = (index : ℕ) (entry : Entry) (s : GroupState) → index ≤ LAST_NUMBER → entry_grammar.Fits entry → IsSound s → IsSoundStep (apply index entry s)

abbrev pub HistoriesAreSound : Type 0
HistoriesAreSound = (history : History) → length history ≤ LAST_NUMBER → AllByRecursion entry_grammar.Fits history → AllByRecursion IsSoundStep (run 1 history empty)

abbrev pub SoundHoldingsStand : Type 0
SoundHoldingsStand = (s : GroupState) → IsSound s → HoldingsStand s.semaphores

abbrev pub EntriesKeepOwners : Type 0
EntriesKeepOwners = (index : ℕ) (entry : Entry) (s : GroupState) → IsOwned s → IsOwned (apply index entry s).state

abbrev pub OwnedRowsAreCounted : Type 0
OwnedRowsAreCounted = (s : GroupState) → IsSound s → IsOwned s → IsCounted s

abbrev pub HistoriesAreCounted : Type 0
HistoriesAreCounted = (history : History) → length history ≤ LAST_NUMBER → AllByRecursion entry_grammar.Fits history → AllByRecursion (λ x. IsCounted x.state) (run 1 history empty)
