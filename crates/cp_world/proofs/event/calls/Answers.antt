use Rattle.cp_client.proofs.Taken.{where_ok}
use Rattle.cp_world.proofs.Parts.{calls_idle}
use Rattle.cp_world.proofs.event.calls.Goals as goal

pub returns-in-None : goal.returns-in-None
returns-in-None c = where_ok c.calls_now.result
    (λ l. calls_idle c.args.plan.now c.args.me c.args.thread c.args.op.now c.args.world.now c.args.turn.now c.calls_now.new.world c.calls_now.new.turn c.in-None.ensures l)
    c.calls_now.ensures
