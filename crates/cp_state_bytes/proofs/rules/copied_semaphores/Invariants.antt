use Rattle.std.proofs.Common.{◌≡◌, ◌++◌, length}
use Rattle.cp_state_bytes.proofs.rules.copied_semaphores.Given as goal

abbrev pub invariant-loop-row : goal.invariant-loop-row
invariant-loop-row l = l.copy ++ l.rest ≡ l.rows

abbrev pub decreases-loop-row : goal.decreases-loop-row
decreases-loop-row l = length l.rest
