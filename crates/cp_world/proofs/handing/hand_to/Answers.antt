use Rattle.std.proofs.Common.{refl, subst}
use Rattle.cp_base.specs.Identifiers.{replay_id}
use Rattle.cp_client.specs.declared.output.ClientOut.{ClientOut}
use Rattle.cp_client_rules.specs.Clients.{Client}
use Rattle.cp_client_rules.specs.Answers.{answer_client}
use Rattle.cp_client.proofs.Taken.{where_ok}
use Rattle.cp_world_rules.specs.World as rules
use Rattle.cp_world.specs.Given.{GivesAt}
use Rattle.cp_world.proofs.Taking.{can_count, client_room, notes_nothing, steps, stood}
use Rattle.cp_world.proofs.handing.hand_to.Goals as goal

pub answer_at-requires : goal.answer_at-requires
answer_at-requires c = client_room c.args.me (λ (x : Client). answer_client c.args.plan.now (replay_id c.args.me) c.args.request.now c.args.answer x) (λ (w : rules.World). w) notes_nothing c.args.world.now c.args.turn.now c.args.request.now.thread c.requires

pub does-requires : goal.does-requires
does-requires c = can_count c.args.me (λ (x : Client). answer_client c.args.plan.now (replay_id c.args.me) c.args.request.now c.args.answer x) (λ (w : rules.World). w) notes_nothing c.args.world.now c.args.turn.now (record c.args.world.now { clients = c.answer_at.new.clients }) c.answer_at.new.out (record { tables = refl; entries = refl; events = refl; queue = refl })
    (subst (λ (o : ClientOut). GivesAt c.args.me ((λ (x : Client). answer_client c.args.plan.now (replay_id c.args.me) c.args.request.now c.args.answer x) (stood c.args.world.now c.args.me)) c.args.world.now.clients.entries c.answer_at.new.clients.entries o c.answer_at.new.out) c.clear.ensures c.in_ok-answer_at.ensures)
    c.requires

pub returns : goal.returns
returns c = where_ok c.does.result
    (λ leads. steps c.args.me (λ (x : Client). answer_client c.args.plan.now (replay_id c.args.me) c.args.request.now c.args.answer x) (λ (w : rules.World). w) notes_nothing c.args.world.now c.args.turn.now (record c.args.world.now { clients = c.answer_at.new.clients }) c.answer_at.new.out (record { tables = refl; entries = refl; events = refl; queue = refl })
    (subst (λ (o : ClientOut). GivesAt c.args.me ((λ (x : Client). answer_client c.args.plan.now (replay_id c.args.me) c.args.request.now c.args.answer x) (stood c.args.world.now c.args.me)) c.args.world.now.clients.entries c.answer_at.new.clients.entries o c.answer_at.new.out) c.clear.ensures c.in_ok-answer_at.ensures)
    c.does.new.world c.does.new.turn leads)
    c.does.ensures
