-- An answer ends a request: its call goes on, or returns. A call can also end without one.
use Rattle.std.specs.Prelude.{ℕ, ◌==◌, ◌&&◌, Bool, false, [], ◌∷◌, Option, Some, None, if◌then◌else◌, ℤ, pos, int_le, nat_le, unsigned_abs}
use Rattle.cp_base.specs.declared.identifier.ClientId.{ClientId}
use Rattle.cp_base.specs.declared.limits.TheConstants.{LAST_NUMBER}
use Rattle.cp_base.specs.declared.identifier.GroupId.{GroupId}
use Rattle.cp_base.specs.declared.identifier.ThreadNo.{ThreadNo}
use Rattle.cp_answers.specs.declared.answer.Answer.{Answer}
use Rattle.cp_answers.specs.declared.answer.Answer.TheVariants as answer
use Rattle.cp_answers.specs.declared.ended_by.EndedBy.{EndedBy}
use Rattle.cp_events.specs.declared.effects.Ending.{Ending}
use Rattle.cp_events.specs.declared.effects.Ending.TheVariants as ending
use Rattle.cp_events.specs.declared.plan.Plan.{Plan}
use Rattle.cp_events.specs.declared.user_op.UserOp.{UserOp}
use Rattle.cp_client_rules.specs.declared.rows.Task.TheVariants as task
use Rattle.cp_try_rules.specs.declared.choices.Then.{Then}
use Rattle.cp_try_rules.specs.declared.choices.Then.TheVariants as next
use Rattle.cp_try_rules.specs.declared.rows.Purpose.TheVariants as purpose
use Rattle.cp_try_rules.specs.Clients.{Client, Did, Pending, Purpose, Task, idle, nothing, thread_at}
use Rattle.cp_try_rules.specs.Sessions.{known_after, opens, with_session}
use Rattle.cp_try_rules.specs.Holds.{holding}
use Rattle.cp_try_rules.specs.Calls.{Call, ask_itself, go_on}

-- The request of this thread is over, and its call returns. What the client knows stays.
abbrev pub end_call : ThreadNo → Ending → Client → Did
end_call t e c = record (nothing (idle t c)) { returns = record { thread = t; number = (thread_at c t).number; ending = e } ∷ [] }

-- a call of which nobody knows whether it took effect
abbrev pub end_unknown : ThreadNo → EndedBy → Client → Did
end_unknown t why c = end_call t (ending.Answered (answer.Indeterminate why)) c

-- The last answer of a call: what the thread knows of its locks, and how the call returns.
abbrev pub finished : Call → GroupId → Purpose → Answer → Client → Did
finished call g p a c = let h = holding call.thread g call.op p a c.holds in
    end_call call.thread (ending.Answered h.answer) (record c { holds = h.holds })

-- no round has a number below 0, or beyond the last
abbrev pub is_round : ℤ → Bool
is_round value = int_le (pos 0) value && nat_le (unsigned_abs value) LAST_NUMBER

-- The group, the session or the round that the call waits for lets it go on. Every other answer ends it.
abbrev pub then_of : Purpose → Answer → Then
then_of purpose.ForGroup (answer.Group g members) = next.Finds g
then_of purpose.ForSession (answer.Session s) = next.Opens s
then_of purpose.ForRound (answer.Value round) = if is_round round then next.CountsDown (unsigned_abs round) else next.Returns
then_of p a = next.Returns

-- the call whose request is open
abbrev pub call_in : ThreadNo → Pending → UserOp → Call
call_in t now o = record { thread = t; op = o; deadline = now.deadline }

-- whether a reply is to the open request of its thread
abbrev pub is_to : GroupId → ℕ → ℕ → Option Pending → Bool
is_to g n number None = false
is_to g n number (Some now) = (now.group.0 == g.0) && (n == number)

abbrev pub is_open : ThreadNo → GroupId → ℕ → Client → Bool
is_open t g n c = is_to g n (thread_at c t).number (thread_at c t).pending

module _ (plan : Plan) (me : ClientId) where
  -- The call stays with its group, whatever the name stands for by then.
  abbrev pub by_then : Then → Call → GroupId → Purpose → Answer → Client → Did
  by_then (next.Finds found) call g p a c = go_on plan me call found c
  by_then (next.Opens s) call g p a c = record (go_on plan me call g (with_session g s c)) { opened = opens g s c }
  by_then (next.CountsDown round) call g p a c = ask_itself plan me call g 0 round c
  by_then next.Returns call g p a c = finished call g p a c

  abbrev pub on_task : ThreadNo → Task → Pending → Answer → Client → Did
  on_task t (task.Calls o) now a c = by_then (then_of now.purpose a) (call_in t now o) now.group now.purpose a c
  on_task t (task.Beats s) now a c = nothing (idle t c)

  abbrev pub on_pending : ThreadNo → Option Pending → Answer → Client → Did
  on_pending t None a c = nothing c
  on_pending t (Some now) a c = record (on_task t now.task now a (known_after now.group now.op a c))
      { ended = (record { client = me; thread = t; number = (thread_at c t).number }, a) ∷ [] }

  -- An answer to the open request of its thread ends that request, whichever try it answers. Other answers are dropped.
  abbrev pub answer_client : ThreadNo → GroupId → ℕ → Answer → Client → Did
  answer_client t g n a c = if is_open t g n c then on_pending t (thread_at c t).pending a c else nothing c
