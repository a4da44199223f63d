use Rattle.std.proofs.Common.{subst}
use Rattle.std.specs.Prelude.{OnOk}
use Rattle.cp_base.specs.declared.identifier.ClientId.{ClientId}
use Rattle.cp_client_rules.specs.Answers.{answer_client}
use Rattle.cp_client.specs.Steps.{Gives}
use Rattle.cp_world.proofs.clients.step_answer.Goals as goal

pub returns : goal.returns
returns c = subst (λ (id : ClientId). OnOk c.answer.result (Gives (answer_client c.args.plan.now id c.args.request.now c.args.answer c.args.client.now) c.answer.new.self c.args.out.now c.answer.new.out)) c.in_replay.ensures c.answer.ensures
