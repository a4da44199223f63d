use Rattle.std.proofs.Common.{◌≡◌, ◌++◌, length}
use Rattle.cp_wait.specs.Queues.{waiters_at}
use Rattle.cp_wait.proofs.rows.gather.Given as goal

abbrev pub invariant-loop-rest : goal.invariant-loop-rest
invariant-loop-rest l = l.found ++ waiters_at l.rest l.rows.entries ≡ waiters_at l.calls l.rows.entries

abbrev pub decreases-loop-rest : goal.decreases-loop-rest
decreases-loop-rest l = length l.rest
