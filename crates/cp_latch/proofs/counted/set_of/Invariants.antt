use Rattle.std.proofs.Common.{length}
use Rattle.cp_latch.specs.Counted.{Joined}
use Rattle.cp_latch.proofs.counted.set_of.Given as goal

abbrev pub invariant-loop-rest : goal.invariant-loop-rest
invariant-loop-rest l = Joined l.known.keys l.rest l.calls

abbrev pub decreases-loop-rest : goal.decreases-loop-rest
decreases-loop-rest l = length l.rest
