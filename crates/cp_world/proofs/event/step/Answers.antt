use Rattle.std.proofs.Common.{sym, subst, arith}
use Rattle.cp_world_rules.specs.World.{begin}
use Rattle.cp_world.specs.declared.turn.Turn.{Turn}
use Rattle.cp_world.specs.Following.{Leads}
use Rattle.cp_world.specs.Rooms.{HasRoomFor}
use Rattle.cp_world.proofs.Events.{again_room, begin_room, handed_room, is_step, same_events}
use Rattle.cp_world.proofs.Parts.{events_few}
use Rattle.cp_world.proofs.event.step.Goals as goal

pub overflow_add-world : goal.overflow_add-world
overflow_add-world c = let few = events_few c.args.plan.now c.args.world.now c.requires in omega arith

pub begin-requires : goal.begin-requires
begin-requires c = subst (λ (t : Turn). HasRoomFor (begin c.args.plan.now c.args.event.now) c.args.world.now t) (sym c.start.ensures) (begin_room c.args.plan.now c.args.event.now c.args.world.now c.requires)

pub handed-requires : goal.handed-requires
handed-requires c = handed_room c.args.plan.now c.args.event.now c.args.world.now c.requires c.begin.new.world c.begin.new.turn
    (subst (λ (t : Turn). Leads (begin c.args.plan.now c.args.event.now) c.args.world.now t c.begin.new.world c.begin.new.turn) c.start.ensures c.in_ok-begin.ensures)

pub handed-requires-2 : goal.handed-requires-2
handed-requires-2 c = again_room c.args.plan.now c.args.event.now c.args.world.now c.requires c.begin.new.world c.begin.new.turn c.handed.new.world c.handed.new.turn
    (subst (λ (t : Turn). Leads (begin c.args.plan.now c.args.event.now) c.args.world.now t c.begin.new.world c.begin.new.turn) c.start.ensures c.in_ok-begin.ensures) c.in_ok-handed.ensures

pub overflow_add-world-2 : goal.overflow_add-world-2
overflow_add-world-2 c = let few = events_few c.args.plan.now c.args.world.now c.requires in
    let same = same_events c.args.plan.now c.args.event.now c.args.world.now c.requires c.begin.new.world c.begin.new.turn c.handed.new.world c.handed.new.turn c.handed-2.new.world c.handed-2.new.turn
    (subst (λ (t : Turn). Leads (begin c.args.plan.now c.args.event.now) c.args.world.now t c.begin.new.world c.begin.new.turn) c.start.ensures c.in_ok-begin.ensures) c.in_ok-handed.ensures c.in_ok-handed-2.ensures in
    omega arith

pub returns : goal.returns
returns c = λ w f. is_step c.args.plan.now c.args.event.now w c.args.world.now c.begin.new.world c.handed.new.world c.handed-2.new.world c.begin.new.turn c.handed.new.turn c.handed-2.new.turn
    (subst (λ (t : Turn). Leads (begin c.args.plan.now c.args.event.now) c.args.world.now t c.begin.new.world c.begin.new.turn) c.start.ensures c.in_ok-begin.ensures) c.in_ok-handed.ensures c.in_ok-handed-2.ensures f
