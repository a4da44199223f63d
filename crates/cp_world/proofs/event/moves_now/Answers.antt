use Rattle.std.proofs.Common.{refl, subst, ◌+◌, ◌∷◌, ◌++◌, []}
use Rattle.cp_base.specs.Identifiers.{replay_id}
use Rattle.cp_client.specs.declared.output.ClientOut.{ClientOut}
use Rattle.cp_client_rules.specs.Clients.{Client}
use Rattle.cp_client_rules.specs.Ticks.{tick_client}
use Rattle.cp_client.proofs.Taken.{where_ok}
use Rattle.cp_world_rules.specs.World as rules
use Rattle.cp_world.specs.Given.{GivesAt}
use Rattle.cp_world.proofs.Parts.{moves_leads, moves_room}
use Rattle.cp_world.proofs.Taking.{can_count, notes_move, steps, stood}
use Rattle.cp_world.proofs.event.moves_now.Goals as goal

pub does-requires : goal.does-requires
does-requires c = can_count c.args.me (λ (x : Client). tick_client (replay_id c.args.me) c.args.ms x) (λ (w : rules.World). record w { moves = w.moves ++ record { event = w.shown.number; client = c.args.me; ms = c.args.ms; clock = (rules.client_at w c.args.me).clock + c.args.ms } ∷ [] }) (notes_move c.args.me c.args.ms) c.args.world.now c.args.turn.now (record c.args.world.now { clients = c.tick_at.new.clients }) c.tick_at.new.out (record { tables = refl; entries = refl; events = refl; queue = refl })
    (subst (λ (o : ClientOut). GivesAt c.args.me ((λ (x : Client). tick_client (replay_id c.args.me) c.args.ms x) (stood c.args.world.now c.args.me)) c.args.world.now.clients.entries c.tick_at.new.clients.entries o c.tick_at.new.out) c.clear.ensures c.in_ok-tick_at.ensures)
    (moves_room c.args.me c.args.ms c.args.world.now c.args.turn.now c.requires.clock c.requires.room)

pub returns : goal.returns
returns c = where_ok c.does.result
    (λ leads. moves_leads c.args.me c.args.ms c.args.world.now c.args.turn.now c.requires.clock c.does.new.world c.does.new.turn (steps c.args.me (λ (x : Client). tick_client (replay_id c.args.me) c.args.ms x) (λ (w : rules.World). record w { moves = w.moves ++ record { event = w.shown.number; client = c.args.me; ms = c.args.ms; clock = (rules.client_at w c.args.me).clock + c.args.ms } ∷ [] }) (notes_move c.args.me c.args.ms) c.args.world.now c.args.turn.now (record c.args.world.now { clients = c.tick_at.new.clients }) c.tick_at.new.out (record { tables = refl; entries = refl; events = refl; queue = refl })
    (subst (λ (o : ClientOut). GivesAt c.args.me ((λ (x : Client). tick_client (replay_id c.args.me) c.args.ms x) (stood c.args.world.now c.args.me)) c.args.world.now.clients.entries c.tick_at.new.clients.entries o c.tick_at.new.out) c.clear.ensures c.in_ok-tick_at.ensures)
    c.does.new.world c.does.new.turn leads))
    c.does.ensures
