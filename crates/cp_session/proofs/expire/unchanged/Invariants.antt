use Rattle.std.proofs.Common.{◌≡◌, ◌++◌, length}
use Rattle.cp_group_state.specs.Sessions.{unchanged_since}
use Rattle.cp_session.proofs.expire.unchanged.Given as goal

abbrev pub invariant-loop-rest : goal.invariant-loop-rest
invariant-loop-rest l = l.sessions.items ++ unchanged_since l.rows.entries l.rest ≡ unchanged_since l.rows.entries l.pairs

abbrev pub decreases-loop-rest : goal.decreases-loop-rest
decreases-loop-rest l = length l.rest
