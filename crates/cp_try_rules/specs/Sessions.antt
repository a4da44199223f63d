-- What an answer does to the client's session of a group, and to the groups that it knows.
use Rattle.std.specs.Prelude.{ℕ, Bool, List, [], ◌∷◌, if◌then◌else◌}
use Rattle.std.specs.Ordering.{nat_cmp}
use Rattle.cp_base.specs.declared.identifier.GroupId.{GroupId}
use Rattle.cp_answers.specs.declared.answer.Answer.{Answer}
use Rattle.cp_answers.specs.declared.answer.Answer.TheVariants as answer
use Rattle.cp_events.specs.declared.effects.Opened.{Opened}
use Rattle.cp_group_state.specs.Rows.{find, put, without}
use Rattle.cp_ops.specs.declared.op.Op.{Op}
use Rattle.cp_ops.specs.declared.op.Op.TheVariants as op
use Rattle.cp_ops.specs.declared.session_op.SessionOp.TheVariants as session
use Rattle.cp_client_rules.specs.Sessions.{forget_session, is_session}
use Rattle.cp_try_rules.specs.Clients.{Client, Sessions}
use Rattle.cp_try_rules.specs.Groups.{names_after}

-- whether this is the client's session in the group
abbrev pub has_session : GroupId → ℕ → Client → Bool
has_session g s c = is_session s (find nat_cmp c.sessions g.0)

-- The client's session in the group becomes this one, unless it is already.
abbrev pub with_session : GroupId → ℕ → Client → Client
with_session g s c = if has_session g s c then c else record c { sessions = put nat_cmp c.sessions g.0 (record { id = s; beat = c.clock }) }

abbrev pub opens : GroupId → ℕ → Client → List Opened
opens g s c = if has_session g s c then [] else record { group = g; session = s } ∷ []

-- A session that expired or is closed is forgotten, and so is that of a destroyed group, whichever request was told of it.
abbrev pub sessions_after : GroupId → Op → Answer → Sessions → Sessions
sessions_after g (op.Session (session.Close s)) answer.Ok sessions = forget_session g s sessions
sessions_after g o (answer.SessionExpired s) sessions = forget_session g s sessions
sessions_after g o (answer.GroupDestroyed d) sessions = without nat_cmp sessions d.0
sessions_after g o a sessions = sessions

-- what the answer to a request leaves of the groups and sessions that the client knows
abbrev pub known_after : GroupId → Op → Answer → Client → Client
known_after g o a c = record c { names = names_after o a c.names; sessions = sessions_after g o a c.sessions }
