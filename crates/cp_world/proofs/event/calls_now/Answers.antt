use Rattle.std.proofs.Common.{refl, subst, ◌∷◌, ◌++◌, []}
use Rattle.cp_base.specs.Identifiers.{replay_id}
use Rattle.cp_client.specs.declared.output.ClientOut.{ClientOut}
use Rattle.cp_client_rules.specs.Clients.{Client}
use Rattle.cp_client_rules.specs.Calls.{call_client}
use Rattle.cp_client.proofs.Taken.{where_ok}
use Rattle.cp_world_rules.specs.World as rules
use Rattle.cp_world.specs.Given.{GivesAt}
use Rattle.cp_world.proofs.Taking.{can_count, client_room, notes_call, steps, stood}
use Rattle.cp_world.proofs.event.calls_now.Goals as goal

pub call_at-requires : goal.call_at-requires
call_at-requires c = client_room c.args.me (λ (x : Client). call_client c.args.plan.now (replay_id c.args.me) c.args.thread c.args.op.now x) (λ (w : rules.World). record w { calls = w.calls ++ record { event = w.shown.number; client = c.args.me; thread = c.args.thread; op = c.args.op.now; clock = (rules.client_at w c.args.me).clock } ∷ [] }) (notes_call c.args.me c.args.thread c.args.op.now) c.args.world.now c.args.turn.now c.args.thread c.requires

pub does-requires : goal.does-requires
does-requires c = can_count c.args.me (λ (x : Client). call_client c.args.plan.now (replay_id c.args.me) c.args.thread c.args.op.now x) (λ (w : rules.World). record w { calls = w.calls ++ record { event = w.shown.number; client = c.args.me; thread = c.args.thread; op = c.args.op.now; clock = (rules.client_at w c.args.me).clock } ∷ [] }) (notes_call c.args.me c.args.thread c.args.op.now) c.args.world.now c.args.turn.now (record c.args.world.now { clients = c.call_at.new.clients }) c.call_at.new.out (record { tables = refl; entries = refl; events = refl; queue = refl })
    (subst (λ (o : ClientOut). GivesAt c.args.me ((λ (x : Client). call_client c.args.plan.now (replay_id c.args.me) c.args.thread c.args.op.now x) (stood c.args.world.now c.args.me)) c.args.world.now.clients.entries c.call_at.new.clients.entries o c.call_at.new.out) c.clear.ensures c.in_ok-call_at.ensures)
    c.requires

pub returns : goal.returns
returns c = where_ok c.does.result
    (λ leads. steps c.args.me (λ (x : Client). call_client c.args.plan.now (replay_id c.args.me) c.args.thread c.args.op.now x) (λ (w : rules.World). record w { calls = w.calls ++ record { event = w.shown.number; client = c.args.me; thread = c.args.thread; op = c.args.op.now; clock = (rules.client_at w c.args.me).clock } ∷ [] }) (notes_call c.args.me c.args.thread c.args.op.now) c.args.world.now c.args.turn.now (record c.args.world.now { clients = c.call_at.new.clients }) c.call_at.new.out (record { tables = refl; entries = refl; events = refl; queue = refl })
    (subst (λ (o : ClientOut). GivesAt c.args.me ((λ (x : Client). call_client c.args.plan.now (replay_id c.args.me) c.args.thread c.args.op.now x) (stood c.args.world.now c.args.me)) c.args.world.now.clients.entries c.call_at.new.clients.entries o c.call_at.new.out) c.clear.ensures c.in_ok-call_at.ensures)
    c.does.new.world c.does.new.turn leads)
    c.does.ensures
