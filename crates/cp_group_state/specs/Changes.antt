-- Changes of the state, and the waiters that they end.
use Rattle.std.specs.Prelude.{Bool, List, [], ◌∷◌, ◌++◌}
use Rattle.cp_answers.specs.declared.answer.Answer.{Answer}
use Rattle.cp_group_state.specs.Waiters.{Waiter, Ended, still_waiting, ending}
use Rattle.cp_group_state.specs.Memory.{note_all}
use Rattle.cp_group_state.specs.GroupState.{GroupState}

-- A change of the state that may end waiters.
pub record Change : Type 0 where
  pub state : GroupState
  pub ended : List Ended

abbrev pub stay : GroupState → Change
stay s = record { state = s; ended = [] }

abbrev pub and_then : Change → (GroupState → Change) → Change
and_then c f = record { state = (f c.state).state; ended = c.ended ++ (f c.state).ended }

abbrev pub for_each : {X : Type 0} → (X → GroupState → Change) → List X → GroupState → Change
for_each f [] s = stay s
for_each f (x ∷ xs) s = and_then (f x s) (for_each f xs)

-- These waiters end: they no longer wait, and their memory rows hold their answers.
abbrev pub finish : List Ended → GroupState → Change
finish ended s = record { state = record s { waiters = still_waiting ended s.waiters; memory = note_all s.memory ended }; ended = ended }

abbrev pub end_all : (Waiter → Bool) → (Waiter → Answer) → GroupState → Change
end_all test answer s = finish (ending test answer s.waiters) s
