use Rattle.std.proofs.Common.{List, reverse, sym, subst, arith}
use Rattle.cp_base.specs.declared.identifier.Invocation.{Invocation}
use Rattle.cp_answers.specs.declared.answer.Answer.{Answer}
use Rattle.cp_world_rules.specs.World.{hand_all, hand_on}
use Rattle.cp_world.specs.Following.{Leads}
use Rattle.cp_world.specs.Rooms.{HasRoomFor}
use Rattle.cp_world.proofs.Leading.{first_room, leads_on, rest_room}
use Rattle.cp_world.proofs.Turned.{first_of, none_left}
use Rattle.cp_world.proofs.Parts.{none_led}
use Rattle.cp_world.proofs.handing.hand_all.Goals as goal

pub hand_on-requires : goal.hand_on-requires
hand_on-requires c = first_room c.args.plan.now (c.in-Some.request, c.in-Some.answer) (reverse c.pop.new.self.items) c.loop-request.world c.loop-request.turn
    (subst (λ (r : List (Invocation × Answer)). HasRoomFor (hand_all c.args.plan.now r) c.loop-request.world c.loop-request.turn) (first_of (c.in-Some.request, c.in-Some.answer) c.loop-request.answers.items c.pop.new.self.items c.in-Some.ensures.items) c.loop-request.invariant.room)

pub loop-request-preserved : goal.loop-request-preserved
loop-request-preserved c = let split = (first_of (c.in-Some.request, c.in-Some.answer) c.loop-request.answers.items c.pop.new.self.items c.in-Some.ensures.items) in record {
  room = rest_room c.args.plan.now (c.in-Some.request, c.in-Some.answer) (reverse c.pop.new.self.items) c.loop-request.world c.loop-request.turn c.hand_on.new.world c.hand_on.new.turn
      (subst (λ (r : List (Invocation × Answer)). HasRoomFor (hand_all c.args.plan.now r) c.loop-request.world c.loop-request.turn) split c.loop-request.invariant.room) c.in_ok-hand_on.ensures;
  leads = λ world turn l. c.loop-request.invariant.leads world turn (subst (λ (r : List (Invocation × Answer)). Leads (hand_all c.args.plan.now r) c.loop-request.world c.loop-request.turn world turn) (sym split)
      (leads_on (hand_on c.args.plan.now (c.in-Some.request, c.in-Some.answer)) (hand_all c.args.plan.now (reverse c.pop.new.self.items)) c.loop-request.world c.loop-request.turn c.hand_on.new.world c.hand_on.new.turn world turn c.in_ok-hand_on.ensures l));
}

pub loop-request-init : goal.loop-request-init
loop-request-init c = record {
  room = subst (λ (r : List (Invocation × Answer)). HasRoomFor (hand_all c.args.plan.now r) c.args.world.now c.args.turn.now) (sym c.take_backwards-answers.ensures.taken) c.requires;
  leads = λ world turn l. subst (λ (r : List (Invocation × Answer)). Leads (hand_all c.args.plan.now r) c.args.world.now c.args.turn.now world turn) c.take_backwards-answers.ensures.taken l;
}

pub returns : goal.returns
returns c = c.loop-request.invariant.leads c.loop-request.world c.loop-request.turn (none_led c.args.plan.now (reverse c.loop-request.answers.items) c.loop-request.world c.loop-request.turn (none_left c.loop-request.answers.items (omega (arith, c.loop-request.answers.ok.0, c.in_default.ensures.cases.0))))
