-- What an answer does to the thread's record of a lock that it holds, and how the call ends.
use Rattle.std.specs.Prelude.{◌&&◌, if◌then◌else◌}
use Rattle.cp_base.specs.declared.identifier.GroupId.{GroupId}
use Rattle.cp_base.specs.declared.identifier.ThreadNo.{ThreadNo}
use Rattle.cp_answers.specs.declared.answer.Answer.{Answer}
use Rattle.cp_events.specs.declared.user_op.UserOp.{UserOp}
use Rattle.cp_events.specs.declared.user_op.UserOp.TheVariants as user
use Rattle.cp_group_state.specs.Rows.{without}
use Rattle.cp_client_rules.specs.Holds.{Holding, held_after, is_lock, ends_holding}
use Rattle.cp_try_rules.specs.Clients.{Holds, Purpose, lock_cmp}
use Rattle.cp_try_rules.specs.declared.rows.Purpose.TheVariants as purpose

-- an answer to a call of this thread in this group
abbrev pub holding : ThreadNo → GroupId → UserOp → Purpose → Answer → Holds → Holding
holding t g (user.Lock object o) (purpose.ForItself s) a holds = held_after (t.0, g.0, object.name) o s a holds
holding t g (user.Destroy which object) p a holds = record { holds = if is_lock which && ends_holding a then without lock_cmp holds (t.0, g.0, object.name) else holds; answer = a }
holding t g o p a holds = record { holds = holds; answer = a }
