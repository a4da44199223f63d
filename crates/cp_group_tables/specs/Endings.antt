-- How waits end.
use Rattle.std.specs.Prelude.{true, List, map}
use Rattle.cp_answers.specs.declared.answer.Answer.{Answer}
use Rattle.cp_answers.specs.declared.answer.Answer.TheVariants as answer
use Rattle.cp_group_state.specs.declared.rows.Waiter.{Waiter}
use Rattle.cp_group_state.specs.Waiters.{Ended, answered_by}
use Rattle.cp_base.specs.declared.identifier.Invocation.{Invocation}
use Rattle.cp_group_state.specs.GroupState.{GroupState}
use Rattle.cp_group_state.specs.Changes.{Change}
use Rattle.cp_group_state.specs.Apply.{time_out}
use Rattle.cp_group_tables.specs.declared.ending.Ending.{Ending}
use Rattle.cp_group_tables.specs.declared.ending.Ending.TheVariants as ending

-- what the waiters are answered
abbrev pub answer_of : Ending → Waiter → Answer
answer_of ending.Served = λ w. answer.Ok
answer_of (ending.Granted index) = λ w. answer.Fence index
answer_of (ending.Cancelled number) = λ w. answer.WaitCancelled number
answer_of ending.TimedOut = λ w. answer.TimedOut
answer_of ending.Opened = λ w. answer.Bool true
answer_of ending.ObjectDestroyed = λ w. answer.ObjectDestroyed
answer_of (ending.GroupDestroyed group) = λ w. answer.GroupDestroyed group
answer_of ending.SessionExpired = λ w. answer.SessionExpired w.session

-- these waiters, each with its answer
abbrev pub ended_by : Ending → List Waiter → List Ended
ended_by how waiters = map (answered_by (answer_of how)) waiters

-- the wait of this call took too long
unfoldable pub timed_out : Invocation → GroupState → Change
timed_out call s = time_out call s
