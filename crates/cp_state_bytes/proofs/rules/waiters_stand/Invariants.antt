use Rattle.std.proofs.Common.{◌≡◌, length}
use Rattle.cp_state_bytes.specs.Rules.{waiters_stand}
use Rattle.cp_state_bytes.proofs.rules.waiters_stand.Given as goal

abbrev pub invariant-loop-rest : goal.invariant-loop-rest
invariant-loop-rest l = waiters_stand l.semaphores.entries l.waiters ≡ waiters_stand l.semaphores.entries l.rest

abbrev pub decreases-loop-rest : goal.decreases-loop-rest
decreases-loop-rest l = length l.rest
