use Rattle.std.proofs.Common.{sym, subst}
use Rattle.std.specs.Prelude.{OnOk}
use Rattle.cp_events.specs.declared.event.Event.{Event}
use Rattle.cp_world_rules.specs.World.{begin}
use Rattle.cp_world.specs.Following.{Leads}
use Rattle.cp_world.specs.Rooms.{HasRoomFor}
use Rattle.cp_world.proofs.event.begin.Goals as goal

pub begin_tick-requires : goal.begin_tick-requires
begin_tick-requires c = subst (λ (e : Event). HasRoomFor (begin c.args.plan.now e) c.args.world.now c.args.turn.now) c.in-ClientTick.is c.requires

pub returns-in-Call : goal.returns-in-Call
returns-in-Call c = subst (λ (e : Event). OnOk c.begin_call.result (Leads (begin c.args.plan.now e) c.args.world.now c.args.turn.now c.begin_call.new.world c.begin_call.new.turn)) (sym c.in-Call.is) c.begin_call.ensures

pub returns-in-ClientTick : goal.returns-in-ClientTick
returns-in-ClientTick c = subst (λ (e : Event). OnOk c.begin_tick.result (Leads (begin c.args.plan.now e) c.args.world.now c.args.turn.now c.begin_tick.new.world c.begin_tick.new.turn)) (sym c.in-ClientTick.is) c.begin_tick.ensures
