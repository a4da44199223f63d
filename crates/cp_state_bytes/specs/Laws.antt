-- What holds of every state's bytes.
use Rattle.std.specs.Prelude.{◌≡◌, ℕ, List, Ok}
use Rattle.cp_group_state.specs.GroupState.{GroupState}
use Rattle.std.specs.List.{AllByRecursion}
use Rattle.cp_codec.specs.Exact.{IsByte}
use Rattle.cp_group_ranges.specs.States.{IsSound}
use Rattle.cp_state_bytes.specs.States.{HasCounts, spelled, restored}

-- a sound state is restored from its bytes
abbrev pub StatesComeBack : Type 0
StatesComeBack = (s : GroupState) → IsSound s → HasCounts s → restored (spelled s) ≡ Ok s

-- what bytes restore is sound
abbrev pub RestoredStatesAreSound : Type 0
RestoredStatesAreSound = (bytes : List ℕ) (s : GroupState) → AllByRecursion IsByte bytes → restored bytes ≡ Ok s → IsSound s × HasCounts s
