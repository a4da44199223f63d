use Rattle.std.proofs.Common.{◌≡◌, length}
use Rattle.cp_state_bytes.specs.Sums.{are_balanced_by}
use Rattle.cp_state_bytes.proofs.rules.are_balanced.Given as goal

abbrev pub invariant-loop-rest : goal.invariant-loop-rest
invariant-loop-rest l = are_balanced_by l.sums.entries l.rows ≡ are_balanced_by l.sums.entries l.rest

abbrev pub decreases-loop-rest : goal.decreases-loop-rest
decreases-loop-rest l = length l.rest
