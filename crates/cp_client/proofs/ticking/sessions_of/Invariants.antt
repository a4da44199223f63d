use Rattle.std.proofs.Common.{◌≡◌, ◌++◌}
use Rattle.cp_client.proofs.ticking.sessions_of.Given as goal

abbrev pub invariant-loop-group : goal.invariant-loop-group
invariant-loop-group l = l.rows.items ++ l.group-iterator ≡ l.client.sessions
