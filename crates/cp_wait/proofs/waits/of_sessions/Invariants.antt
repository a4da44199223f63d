use Rattle.std.proofs.Common.{◌≡◌, ◌++◌}
use Rattle.std.specs.List.{filter}
use Rattle.std.specs.Map.{values_of}
use Rattle.cp_group_state.specs.Sessions.{is_among}
use Rattle.cp_wait.proofs.waits.of_sessions.Given as goal

abbrev pub invariant-loop-waiter : goal.invariant-loop-waiter
invariant-loop-waiter l = l.found ++ filter (λ w. is_among l.sessions w.session) l.waiter-iterator ≡ filter (λ w. is_among l.sessions w.session) (values_of l.rows.entries)
