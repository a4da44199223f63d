-- Creations are what the group's rule of sessions says.
use Rattle.std.specs.Prelude.{◌≡◌, ℕ, Option, Some, None}
use Rattle.cp_base.specs.declared.identifier.Invocation.{Invocation}
use Rattle.cp_answers.specs.declared.answer.Answer.{Answer}
use Rattle.cp_answers.specs.declared.answer.Answer.TheVariants as answer
use Rattle.cp_ops.specs.declared.session_op.SessionOp.TheVariants as session
use Rattle.cp_group_state.specs.Rows.{most}
use Rattle.cp_group_state.specs.GroupState.{GroupState}
use Rattle.cp_group_state.specs.Outcomes.{answered}
use Rattle.cp_group_state.specs.SessionRules.{session_rule}
use Rattle.cp_session.specs.Creation.{created}

abbrev pub creation_answer : Option ℕ → Answer
creation_answer (Some n) = answer.Session n
creation_answer None = answer.TableFull most

-- the rule of a call that asks for a session, by what is created
abbrev pub CreationsFollowTheRule : Type 0
CreationsFollowTheRule = (index : ℕ) (call : Invocation) (s : GroupState) → session_rule index call session.Open s
    ≡ answered (creation_answer (created s.sessions index call.client).number) (record s { sessions = (created s.sessions index call.client).rows })
