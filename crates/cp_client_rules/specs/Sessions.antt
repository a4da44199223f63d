-- What an answer does to the client's session of a group.
use Rattle.std.specs.Prelude.{ℕ, Bool, false, ◌==◌, List, [], ◌∷◌, Option, Some, None, if◌then◌else◌}
use Rattle.std.specs.Ordering.{nat_cmp}
use Rattle.cp_base.specs.declared.identifier.GroupId.{GroupId}
use Rattle.cp_answers.specs.declared.answer.Answer.{Answer}
use Rattle.cp_answers.specs.declared.answer.Answer.TheVariants as answer
use Rattle.cp_events.specs.declared.effects.Opened.{Opened}
use Rattle.cp_events.specs.declared.user_op.UserOp.{UserOp}
use Rattle.cp_events.specs.declared.user_op.UserOp.TheVariants as user
use Rattle.cp_group_state.specs.Rows.{find, put, without}
use Rattle.cp_client_rules.specs.Clients.{Client, Sessions, OwnSession, Purpose}
use Rattle.cp_client_rules.specs.declared.rows.Purpose.TheVariants as purpose

abbrev pub is_session : ℕ → Option OwnSession → Bool
is_session s None = false
is_session s (Some own) = own.id == s

-- whether this is the client's session in the group
abbrev pub has_session : GroupId → ℕ → Client → Bool
has_session g s c = is_session s (find nat_cmp c.sessions g.0)

-- The client's session in the group becomes this one, unless it is already.
abbrev pub with_session : GroupId → ℕ → Client → Client
with_session g s c = if has_session g s c then c else record c { sessions = put nat_cmp c.sessions g.0 (record { id = s; beat = c.clock }) }

abbrev pub opens : GroupId → ℕ → Client → List Opened
opens g s c = if has_session g s c then [] else record { group = g; session = s } ∷ []

abbrev pub forget_session : GroupId → ℕ → Sessions → Sessions
forget_session g s sessions = if is_session s (find nat_cmp sessions g.0) then without nat_cmp sessions g.0 else sessions

-- A session that expired is forgotten, and so is that of a destroyed group.
abbrev pub forgets : GroupId → Answer → Sessions → Sessions
forgets g (answer.SessionExpired s) sessions = forget_session g s sessions
forgets g (answer.GroupDestroyed d) sessions = without nat_cmp sessions g.0
forgets g a sessions = sessions

-- A session that is closed is forgotten too.
abbrev pub sessions_after : GroupId → UserOp → Purpose → Answer → Sessions → Sessions
sessions_after g (user.CloseSession name) (purpose.ForItself s) answer.Ok sessions = forget_session g s sessions
sessions_after g o p a sessions = forgets g a sessions
