use Rattle.std.proofs.Common.{◌≡◌, length}
use Rattle.cp_state_bytes.specs.Rules.{holdings_stand}
use Rattle.cp_state_bytes.proofs.rules.holdings_stand.Given as goal

abbrev pub invariant-loop-rest : goal.invariant-loop-rest
invariant-loop-rest l = holdings_stand (record { rows = l.semaphores.entries; holdings = l.holdings }) ≡ holdings_stand (record { rows = l.semaphores.entries; holdings = l.rest })

abbrev pub decreases-loop-rest : goal.decreases-loop-rest
decreases-loop-rest l = length l.rest
