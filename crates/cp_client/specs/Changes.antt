-- What an answer changes in what a client keeps.
use Rattle.std.specs.Prelude.{ℕ, Option, Some, None, if◌then◌else◌}
use Rattle.cp_answers.specs.declared.answer.Answer.{Answer}
use Rattle.cp_answers.specs.declared.answer.Answer.TheVariants as answer
use Rattle.cp_events.specs.declared.user_op.LockCall.{LockCall}
use Rattle.cp_events.specs.declared.user_op.UserOp.{UserOp}
use Rattle.cp_events.specs.declared.user_op.UserOp.TheVariants as user
use Rattle.cp_group_state.specs.Rows.{find, without}
use Rattle.cp_client_rules.specs.declared.rows.Purpose.{Purpose}
use Rattle.cp_client_rules.specs.declared.rows.Purpose.TheVariants as purpose
use Rattle.cp_client_rules.specs.Clients.{Holds, LockKey, lock_cmp}
use Rattle.cp_client_rules.specs.Holds.{Holding, expired, is_owner, is_unlock, lowered, raised}
use Rattle.cp_client.specs.declared.holds.Change.{Change}
use Rattle.cp_client.specs.declared.holds.Change.TheVariants as change

-- what an answer to a call on a lock does to the thread's record of it
abbrev pub change_of : LockCall → Answer → Change
change_of o (answer.Fence f) = if is_owner o then change.Stays else change.Raises
change_of o answer.Ok = if is_unlock o then change.Lowers else change.Stays
change_of o answer.NotOwner = change.Ends
change_of o answer.ObjectDestroyed = change.Ends
change_of o (answer.GroupDestroyed g) = change.Ends
change_of o (answer.SessionExpired s) = if is_owner o then change.Stays else change.Expires
change_of o a = change.Stays

abbrev pub changed : Change → LockKey → ℕ → Answer → Holds → Holding
changed change.Raises key s a holds = record { holds = raised s key holds; answer = a }
changed change.Lowers key s a holds = record { holds = lowered key (find lock_cmp holds key) holds; answer = a }
changed change.Ends key s a holds = record { holds = without lock_cmp holds key; answer = a }
changed change.Expires key s a holds = expired key a (find lock_cmp holds key) holds
changed change.Stays key s a holds = record { holds = holds; answer = a }

-- the session that an answer says is closed, as its client asked
abbrev pub closed_by : UserOp → Purpose → Answer → Option ℕ
closed_by (user.CloseSession name) (purpose.ForItself s) answer.Ok = Some s
closed_by o p a = None
