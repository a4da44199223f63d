-- Sessions.
use Rattle.std.specs.Prelude.{ℕ, [], ◌∷◌, Option, Some, None, if◌then◌else◌, is_some}
use Rattle.std.specs.Ordering.{nat_cmp}
use Rattle.cp_base.specs.declared.identifier.Invocation.{Invocation}
use Rattle.cp_answers.specs.declared.answer.Answer.TheVariants as answer
use Rattle.cp_ops.specs.declared.session_op.SessionOp.{SessionOp}
use Rattle.cp_ops.specs.declared.session_op.SessionOp.TheVariants as session
use Rattle.cp_group_state.specs.Rows.{find, put, has_room, most}
use Rattle.cp_group_state.specs.Sessions.{SessionRow, session_of, beaten}
use Rattle.cp_group_state.specs.GroupState.{GroupState}
use Rattle.cp_group_state.specs.Closing.{close}
use Rattle.cp_group_state.specs.Outcomes.{Outcome, answered, answered_with}

-- the client's open session, or a new one under the index as its number
abbrev pub opened : ℕ → Invocation → Option (ℕ × SessionRow) → GroupState → Outcome
opened index call (Some e) s = answered (answer.Session e.0) s
opened index call None s = if has_room nat_cmp most s.sessions index
    then answered (answer.Session index)
    (record s { sessions = put nat_cmp s.sessions index (record { client = call.client; version = 0 }) })
    else answered (answer.TableFull most) s

abbrev pub beat : ℕ → Option SessionRow → GroupState → Outcome
beat number None s = answered (answer.SessionExpired number) s
beat number (Some row) s = answered answer.Ok (record s { sessions = put nat_cmp s.sessions number (beaten row) })

abbrev pub session_rule : ℕ → Invocation → SessionOp → GroupState → Outcome
session_rule index call session.Open s = opened index call (session_of s.sessions call.client) s
session_rule index call (session.Beat number) s = beat number (find nat_cmp s.sessions number) s
session_rule index call (session.Close number) s = if is_some (find nat_cmp s.sessions number)
    then answered_with answer.Ok (close index (number ∷ []) s)
    else answered answer.Ok s
