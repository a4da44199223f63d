use Rattle.std.proofs.Common.{◌≡◌, ◌+◌, length}
use Rattle.cp_group_state.specs.Latches.{counted_calls}
use Rattle.cp_latch.proofs.latches.total_of.Given as goal

abbrev pub invariant-loop-rest : goal.invariant-loop-rest
invariant-loop-rest l = l.total + counted_calls l.rest ≡ counted_calls l.rows

abbrev pub decreases-loop-rest : goal.decreases-loop-rest
decreases-loop-rest l = length l.rest
