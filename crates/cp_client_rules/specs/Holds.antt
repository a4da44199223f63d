-- What an answer does to the thread's record of a lock that it holds, and how the call ends.
use Rattle.std.specs.Prelude.{ℕ, ◌+◌, ◌-◌, Bool, true, false, ◌&&◌, Option, Some, None, if◌then◌else◌, nat_lt}
use Rattle.cp_base.specs.declared.identifier.GroupId.{GroupId}
use Rattle.cp_base.specs.declared.identifier.ThreadNo.{ThreadNo}
use Rattle.cp_answers.specs.declared.answer.Answer.{Answer}
use Rattle.cp_answers.specs.declared.answer.Answer.TheVariants as answer
use Rattle.cp_op_values.specs.declared.kind.Kind.{Kind}
use Rattle.cp_op_values.specs.declared.kind.Kind.TheVariants as kind
use Rattle.cp_events.specs.declared.user_op.LockCall.{LockCall}
use Rattle.cp_events.specs.declared.user_op.LockCall.TheVariants as lock_call
use Rattle.cp_events.specs.declared.user_op.UserOp.{UserOp}
use Rattle.cp_events.specs.declared.user_op.UserOp.TheVariants as user
use Rattle.cp_group_state.specs.Rows.{find, put, without}
use Rattle.cp_client_rules.specs.Clients.{Holds, LockKey, HoldRecord, Purpose, lock_cmp}
use Rattle.cp_client_rules.specs.declared.rows.Purpose.TheVariants as purpose

-- the records after an answer, and the answer that the call ends with
pub record Holding : Type 0 where
  pub holds : Holds
  pub answer : Answer

-- the record, or a new one in this session
abbrev pub or_none : ℕ → Option HoldRecord → HoldRecord
or_none s None = record { session = s; holds = 0 }
or_none s (Some h) = h

-- one hold more
abbrev pub raised : ℕ → LockKey → Holds → Holds
raised s key holds = let h = or_none s (find lock_cmp holds key) in put lock_cmp holds key (record { session = h.session; holds = h.holds + 1 })

-- one hold less; a record of no holds goes
abbrev pub lowered : LockKey → Option HoldRecord → Holds → Holds
lowered key None holds = holds
lowered key (Some h) holds = if nat_lt 1 h.holds then put lock_cmp holds key (record { session = h.session; holds = h.holds - 1 }) else without lock_cmp holds key

abbrev pub is_unlock : LockCall → Bool
is_unlock lock_call.Unlock = true
is_unlock o = false

abbrev pub is_owner : LockCall → Bool
is_owner lock_call.Owner = true
is_owner o = false

-- A session that expired while the thread held the lock: ownership is lost.
abbrev pub expired : LockKey → Answer → Option HoldRecord → Holds → Holding
expired key a None holds = record { holds = holds; answer = a }
expired key a (Some h) holds = record { holds = without lock_cmp holds key; answer = answer.OwnershipLost }

-- an answer to a call on the lock itself, in this session
abbrev pub held_after : LockKey → LockCall → ℕ → Answer → Holds → Holding
held_after key o s (answer.Fence f) holds = record { holds = if is_owner o then holds else raised s key holds; answer = answer.Fence f }
held_after key o s answer.Ok holds = record { holds = if is_unlock o then lowered key (find lock_cmp holds key) holds else holds; answer = answer.Ok }
held_after key o s answer.NotOwner holds = record { holds = without lock_cmp holds key; answer = answer.NotOwner }
held_after key o s answer.ObjectDestroyed holds = record { holds = without lock_cmp holds key; answer = answer.ObjectDestroyed }
held_after key o s (answer.GroupDestroyed g) holds = record { holds = without lock_cmp holds key; answer = answer.GroupDestroyed g }
held_after key o s (answer.SessionExpired x) holds = if is_owner o then record { holds = holds; answer = answer.SessionExpired x } else expired key (answer.SessionExpired x) (find lock_cmp holds key) holds
held_after key o s a holds = record { holds = holds; answer = a }

abbrev pub is_lock : Kind → Bool
is_lock kind.Lock = true
is_lock which = false

-- the answers that say that the thread doesn't hold the lock
abbrev pub ends_holding : Answer → Bool
ends_holding answer.NotOwner = true
ends_holding answer.ObjectDestroyed = true
ends_holding (answer.GroupDestroyed g) = true
ends_holding a = false

-- an answer to a call of this thread in this group
abbrev pub holding : ThreadNo → GroupId → UserOp → Purpose → Answer → Holds → Holding
holding t g (user.Lock object o) (purpose.ForItself s) a holds = held_after (t.0, g.0, object.name) o s a holds
holding t g (user.Destroy which object) p a holds = record { holds = if is_lock which && ends_holding a then without lock_cmp holds (t.0, g.0, object.name) else holds; answer = a }
holding t g o p a holds = record { holds = holds; answer = a }
