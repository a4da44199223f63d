use Rattle.std.proofs.Common.{length}
use Rattle.cp_client_rules.specs.Clients.{Client}
use Rattle.cp_client_rules.specs.Ticks.{beat_each}
use Rattle.cp_client.specs.declared.output.ClientOut.{ClientOut}
use Rattle.cp_client.specs.Steps.{Gives}
use Rattle.cp_client.proofs.ticking.beat_each.Given as goal

-- what is left gives what all gave
abbrev pub invariant-loop-rest : goal.invariant-loop-rest
invariant-loop-rest l = (c : Client) (out : ClientOut) → Gives (beat_each l.me l.rest l.client) c l.out out → Gives (beat_each l.me l.sessions l.fn.client) c l.fn.out out

abbrev pub decreases-loop-rest : goal.decreases-loop-rest
decreases-loop-rest l = length l.rest
