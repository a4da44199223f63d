-- What waits for its time to be over.
use Rattle.std.specs.Prelude.{ℕ, List, ◌++◌, map}
use Rattle.std.specs.List.{filter}
use Rattle.cp_op_values.specs.declared.wish.Wish.{Wish}
use Rattle.cp_op_values.specs.declared.wish.Wish.TheVariants as wish
use Rattle.cp_machine.specs.declared.timer.Timed.TheVariants as timed
use Rattle.cp_machine.specs.declared.timer.Timer.{Timer}
use Rattle.cp_group_state.specs.declared.rows.SessionRow.{SessionRow}
use Rattle.cp_group_state.specs.declared.rows.Waiter.{Waiter}
use Rattle.cp_group_state.specs.GroupState.{GroupState}
use Rattle.cp_wait.specs.Arrivals.{waits_limited}

-- a session without a beat ends after so many milliseconds
abbrev pub session_millis : ℕ
session_millis = 300000

abbrev pub session_timer : ℕ × ℕ → Timer
session_timer e = record { what = timed.Session e.0 e.1; after = session_millis }

abbrev pub limit : Wish → ℕ
limit wish.NoLimit = 0
limit (wish.Within millis) = millis

abbrev pub wait_timer : Waiter → Timer
wait_timer w = record { what = timed.Wait w.call; after = limit w.wish }

abbrev pub numbered : ℕ × SessionRow → ℕ × ℕ
numbered e = (e.0, e.1.version)

-- the sessions by rising number, each with its version, then the waits of some time only, in order of arrival
abbrev pub timers_of : GroupState → List Timer
timers_of s = map (λ e. session_timer (numbered e)) s.sessions ++ map wait_timer (filter waits_limited s.waiters)
