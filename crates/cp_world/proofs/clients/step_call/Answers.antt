use Rattle.std.proofs.Common.{subst}
use Rattle.std.specs.Prelude.{OnOk}
use Rattle.cp_base.specs.declared.identifier.ClientId.{ClientId}
use Rattle.cp_events.specs.declared.user_op.UserOp.{UserOp}
use Rattle.cp_client_rules.specs.Calls.{call_client}
use Rattle.cp_client.specs.Steps.{Gives}
use Rattle.cp_world.proofs.clients.step_call.Goals as goal

pub returns : goal.returns
returns c = subst (λ (id : ClientId). OnOk c.call.result (Gives (call_client c.args.plan.now id c.args.thread c.args.op.now c.args.client.now) c.call.new.self c.args.out.now c.call.new.out)) c.in_replay.ensures
    (subst (λ (op : UserOp). OnOk c.call.result (Gives (call_client c.args.plan.now c.in_replay.result c.args.thread op c.args.client.now) c.call.new.self c.args.out.now c.call.new.out)) c.in_ok-op.ensures c.call.ensures)
