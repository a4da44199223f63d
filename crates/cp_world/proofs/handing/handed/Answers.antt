use Rattle.std.proofs.Common.{refl, sym}
use Rattle.cp_client.proofs.Cases.{no_items}
use Rattle.cp_world_rules.specs.World.{handed}
use Rattle.cp_world.proofs.Events.{handed_leads, leads_same, none_handed, queue_room}
use Rattle.cp_world.proofs.handing.handed.Goals as goal

pub returns-then-is_empty : goal.returns-then-is_empty
returns-then-is_empty c = none_handed c.args.plan.now c.args.world.now c.args.turn.now (no_items c.args.world.now.queue (sym c.if-is_empty.ensures))

pub hand_all-requires : goal.hand_all-requires
hand_all-requires c = queue_room c.args.plan.now c.args.world.now _ c.args.turn.now c.take_queue-queue.result refl refl refl refl c.take_queue-queue.ensures.left c.take_queue-queue.ensures.taken c.requires

pub returns : goal.returns
returns c = leads_same (handed c.args.plan.now) c.args.world.now c.args.turn.now c.hand_all.new.world _ c.hand_all.new.turn refl refl refl refl refl
    (handed_leads c.args.plan.now c.args.world.now _ c.args.turn.now c.take_queue-queue.result refl refl refl refl c.take_queue-queue.ensures.left c.take_queue-queue.ensures.taken
    c.hand_all.new.world c.hand_all.new.turn c.in_ok-hand_all.ensures)
