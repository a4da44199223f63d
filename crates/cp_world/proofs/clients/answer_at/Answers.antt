use Rattle.std.proofs.Common.{◌∙◌, sym, subst, ap}
use Rattle.cp_client.specs.Rooms.{HasRoom}
use Rattle.cp_base.specs.Identifiers.{replay_id}
use Rattle.cp_client_rules.specs.Clients.{Client}
use Rattle.cp_client_rules.specs.Answers.{answer_client}
use Rattle.cp_client.proofs.Taken.{where_ok}
use Rattle.cp_world_rules.specs.World.{or_new}
use Rattle.cp_world.proofs.Taking.{gives_new, gives_there}
use Rattle.cp_world.proofs.clients.answer_at.Goals as goal

pub step_answer-requires : goal.step_answer-requires
step_answer-requires c = subst (λ (x : Client). HasRoom c.args.request.now.thread x) (ap or_new (sym c.in-Some.ensures.value)) c.requires

pub returns-in-Some : goal.returns-in-Some
returns-in-Some c = where_ok c.step_answer.result
    (λ g. gives_there c.args.me (λ (x : Client). answer_client c.args.plan.now (replay_id c.args.me) c.args.request.now c.args.answer x) c.args.clients.now.entries _ c.in-Some.client.now c.step_answer.new.client c.args.out.now c.step_answer.new.out
    c.get_mut.ensures.ordered (sym c.in-Some.ensures.value) (c.get_mut.follows.holds c.step_answer.new.client).0 g)
    c.step_answer.ensures

pub step_answer-requires-in-None : goal.step_answer-requires-in-None
step_answer-requires-in-None c = subst (λ (x : Client). HasRoom c.args.request.now.thread x) (ap or_new (sym c.in-None.ensures.value) ∙ sym c.new-client.ensures) c.requires

pub returns-in_ok-step_answer-in-None : goal.returns-in_ok-step_answer-in-None
returns-in_ok-step_answer-in-None c = where_ok c.put_row.result
    (λ put. gives_new c.args.me (λ (x : Client). answer_client c.args.plan.now (replay_id c.args.me) c.args.request.now c.args.answer x) c.args.clients.now.entries _ _ c.new-client.result c.step_answer-in-None.new.client c.args.out.now c.step_answer-in-None.new.out
    (ap (λ m. m.entries) c.get_mut.follows.holds-at-none) (sym c.in-None.ensures.value) c.new-client.ensures put c.in_ok-step_answer-in-None.ensures)
    c.put_row.ensures.ok
