use Rattle.std.proofs.Common.{◌≡◌, ◌++◌, length}
use Rattle.cp_wait.specs.Queues.{served_at}
use Rattle.cp_wait.proofs.rows.serve.Given as goal

abbrev pub invariant-loop-rest : goal.invariant-loop-rest
invariant-loop-rest l = l.found ++ served_at l.left l.rest l.rows.entries ≡ served_at l.available l.calls l.rows.entries

abbrev pub decreases-loop-rest : goal.decreases-loop-rest
decreases-loop-rest l = length l.rest
