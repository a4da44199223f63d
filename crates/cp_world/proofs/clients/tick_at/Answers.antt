use Rattle.std.proofs.Common.{◌∙◌, sym, subst, ap}
use Rattle.std.proofs.Common.{◌≤◌, ◌+◌}
use Rattle.std.specs.Prelude.{◌^◌}
use Rattle.cp_base.specs.Identifiers.{replay_id}
use Rattle.cp_client_rules.specs.Clients.{Client}
use Rattle.cp_client_rules.specs.Ticks.{tick_client}
use Rattle.cp_client.proofs.Taken.{where_ok}
use Rattle.cp_world_rules.specs.World.{or_new}
use Rattle.cp_world.proofs.Taking.{gives_new, gives_there}
use Rattle.cp_world.proofs.clients.tick_at.Goals as goal

pub step_tick-requires : goal.step_tick-requires
step_tick-requires c = subst (λ (x : Client). x.clock + c.args.ms ≤ 2 ^ 62) (ap or_new (sym c.in-Some.ensures.value)) c.requires

pub returns-in-Some : goal.returns-in-Some
returns-in-Some c = where_ok c.step_tick.result
    (λ g. gives_there c.args.me (λ (x : Client). tick_client (replay_id c.args.me) c.args.ms x) c.args.clients.now.entries _ c.in-Some.client.now c.step_tick.new.client c.args.out.now c.step_tick.new.out
    c.get_mut.ensures.ordered (sym c.in-Some.ensures.value) (c.get_mut.follows.holds c.step_tick.new.client).0 g)
    c.step_tick.ensures

pub step_tick-requires-in-None : goal.step_tick-requires-in-None
step_tick-requires-in-None c = subst (λ (x : Client). x.clock + c.args.ms ≤ 2 ^ 62) (ap or_new (sym c.in-None.ensures.value) ∙ sym c.new-client.ensures) c.requires

pub returns-in_ok-step_tick-in-None : goal.returns-in_ok-step_tick-in-None
returns-in_ok-step_tick-in-None c = where_ok c.put_row.result
    (λ put. gives_new c.args.me (λ (x : Client). tick_client (replay_id c.args.me) c.args.ms x) c.args.clients.now.entries _ _ c.new-client.result c.step_tick-in-None.new.client c.args.out.now c.step_tick-in-None.new.out
    (ap (λ m. m.entries) c.get_mut.follows.holds-at-none) (sym c.in-None.ensures.value) c.new-client.ensures put c.in_ok-step_tick-in-None.ensures)
    c.put_row.ensures.ok
