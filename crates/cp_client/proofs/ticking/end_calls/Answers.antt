use Rattle.std.proofs.Common.{subst}
use Rattle.std.specs.Prelude.{OnOk}
use Rattle.cp_client_rules.specs.Clients.{Client}
use Rattle.cp_client_rules.specs.Ticks.{end_each, user_threads}
use Rattle.cp_client.specs.Steps.{Gives}
use Rattle.cp_client.proofs.ticking.end_calls.Goals as goal

pub returns : goal.returns
returns c = subst (λ (x : Client). OnOk c.end_each.result (Gives (end_each user_threads x) c.end_each.new.client c.args.out.now c.end_each.new.out)) c.move_clock.ensures c.end_each.ensures
