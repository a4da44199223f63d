use Rattle.cp_client.proofs.Taken.{where_ok}
use Rattle.cp_world.proofs.Parts.{client_calls}
use Rattle.cp_world.proofs.event.begin_call.Goals as goal

pub returns-then-is_client : goal.returns-then-is_client
returns-then-is_client c = where_ok c.calls.result
    (λ l. client_calls c.args.plan.now c.args.me c.args.thread c.args.op.now c.args.world.now c.args.turn.now c.calls.new.world c.calls.new.turn c.if-is_client.ensures l)
    c.calls.ensures
