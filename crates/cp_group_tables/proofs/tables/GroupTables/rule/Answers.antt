use Rattle.std.proofs.Common.{ap, sym, ◌∙◌}
use Rattle.std.specs.Prelude.{◌++◌}
use Rattle.cp_answers.specs.declared.answer.Answer.{Answer}
use Rattle.cp_ops.specs.declared.op.Op.{Op}
use Rattle.cp_group_state.specs.declared.outcome.Reply.TheVariants.{Answered}
use Rattle.cp_group_state.specs.Apply.{rule, told}
use Rattle.cp_group_tables.proofs.tables.GroupTables.rule.Goals as goal

pub returns-in_ok-answer-in-Map-clause-state : goal.returns-in_ok-answer-in-Map-clause-state
returns-in_ok-answer-in-Map-clause-state c = c.in_ok-answer-in-Map.ensures.state ∙ sym (ap (λ (p : Op). (rule c.args.index c.args.call.now p c.args.self.now).change.state) c.in-Map.is)

pub returns-in_ok-answer-in-Map-clause-reply : goal.returns-in_ok-answer-in-Map-clause-reply
returns-in_ok-answer-in-Map-clause-reply c = ap (λ (a : Answer). Answered a) c.in_ok-answer-in-Map.ensures.answer ∙ sym (ap (λ (p : Op). (rule c.args.index c.args.call.now p c.args.self.now).reply) c.in-Map.is)

pub returns-in_ok-answer-in-Destroy-clause-state : goal.returns-in_ok-answer-in-Destroy-clause-state
returns-in_ok-answer-in-Destroy-clause-state c = c.in_ok-answer-in-Destroy.ensures.state ∙ sym (ap (λ (p : Op). (rule c.args.index c.args.call.now p c.args.self.now).change.state) c.in-Destroy.is)

pub returns-in_ok-answer-in-Destroy-clause-told : goal.returns-in_ok-answer-in-Destroy-clause-told
returns-in_ok-answer-in-Destroy-clause-told c = c.in_ok-answer-in-Destroy.ensures.told ∙ sym (ap (λ (p : Op). c.args.out.now ++ told (rule c.args.index c.args.call.now p c.args.self.now).change.ended) c.in-Destroy.is)
