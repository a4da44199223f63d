use Rattle.std.proofs.Common.{length}
use Rattle.cp_state_bytes.proofs.Checks.{AreAdded}
use Rattle.cp_state_bytes.proofs.rules.sums_of.Given as goal

abbrev pub invariant-loop-row : goal.invariant-loop-row
invariant-loop-row l = AreAdded l.sums.entries l.rest l.holdings

abbrev pub decreases-loop-row : goal.decreases-loop-row
decreases-loop-row l = length l.rest
