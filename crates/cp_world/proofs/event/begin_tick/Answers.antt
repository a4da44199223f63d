use Rattle.cp_client.proofs.Taken.{where_ok}
use Rattle.cp_world.proofs.Parts.{client_moves}
use Rattle.cp_world.proofs.event.begin_tick.Goals as goal

pub returns-then-is_client : goal.returns-then-is_client
returns-then-is_client c = where_ok c.moves.result
    (λ l. client_moves c.args.plan.now c.args.me c.args.ms c.args.world.now c.args.turn.now c.moves.new.world c.moves.new.turn c.if-is_client.ensures l)
    c.moves.ensures
