use Rattle.std.proofs.Common.{subst}
use Rattle.std.specs.Prelude.{OnOk}
use Rattle.cp_base.specs.declared.identifier.ClientId.{ClientId}
use Rattle.cp_client_rules.specs.Ticks.{tick_client}
use Rattle.cp_client.specs.Steps.{Gives}
use Rattle.cp_world.proofs.clients.step_tick.Goals as goal

pub returns : goal.returns
returns c = subst (λ (id : ClientId). OnOk c.tick.result (Gives (tick_client id c.args.ms c.args.client.now) c.tick.new.self c.args.out.now c.tick.new.out)) c.in_replay.ensures c.tick.ensures
