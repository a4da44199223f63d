use Rattle.std.proofs.Common.{sym, subst}
use Rattle.std.specs.Prelude.{OnOk}
use Rattle.cp_base.specs.declared.identifier.ClientNo.{ClientNo}
use Rattle.cp_world.specs.Following.{Leads}
use Rattle.cp_world.specs.Rooms.{HasRoomFor}
use Rattle.cp_world.specs.Steps.{hand_to}
use Rattle.cp_world.proofs.handing.hand_on.Goals as goal

pub hand_to-requires : goal.hand_to-requires
hand_to-requires c = subst (λ (me : ClientNo). HasRoomFor (hand_to c.args.plan.now me c.args.request c.args.answer) c.args.world.now c.args.turn.now) (sym c.client_of-me.ensures) c.requires

pub returns : goal.returns
returns c = subst (λ (me : ClientNo). OnOk c.hand_to.result (Leads (hand_to c.args.plan.now me c.args.request c.args.answer) c.args.world.now c.args.turn.now c.hand_to.new.world c.hand_to.new.turn)) c.client_of-me.ensures c.hand_to.ensures
