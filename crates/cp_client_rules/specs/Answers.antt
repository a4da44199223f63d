-- An answer ends a request: its call goes on, or returns.
use Rattle.std.specs.Prelude.{ℕ, ◌==◌, [], ◌∷◌, Option, Some, None, if◌then◌else◌, unsigned_abs}
use Rattle.cp_base.specs.declared.identifier.ClientId.{ClientId}
use Rattle.cp_base.specs.declared.identifier.Invocation.{Invocation}
use Rattle.cp_answers.specs.declared.answer.Answer.{Answer}
use Rattle.cp_answers.specs.declared.answer.Answer.TheVariants as answer
use Rattle.cp_events.specs.declared.plan.Plan.{Plan}
use Rattle.cp_events.specs.declared.user_op.UserOp.{UserOp}
use Rattle.cp_client_rules.specs.declared.rows.Purpose.TheVariants as purpose
use Rattle.cp_client_rules.specs.declared.rows.Task.TheVariants as task
use Rattle.cp_client_rules.specs.Clients.{Client, Did, Pending, Purpose, Task, answers, idle, nothing, thread_at}
use Rattle.cp_client_rules.specs.Sessions.{forgets, opens, sessions_after, with_session}
use Rattle.cp_client_rules.specs.Holds.{holding}
use Rattle.cp_client_rules.specs.Calls.{Call, ask_itself, go_on}

-- The last answer of a call: its request is over, and it returns.
abbrev pub finished : ℕ → Call → Purpose → Answer → Client → Did
finished number call p a c = let h = holding call.thread call.group call.op p a c.holds in
    record (nothing (record (idle call.thread c) { sessions = sessions_after call.group call.op p a c.sessions; holds = h.holds })) { returns = answers call.thread number h.answer }

-- the call whose request is open
abbrev pub call_in : Invocation → Pending → UserOp → Call
call_in request now o = record { thread = request.thread; group = now.group; op = o; deadline = now.deadline }

module _ (plan : Plan) (me : ClientId) where
  -- The session, or the round, that the call waits for lets it go on. Every other answer ends it.
  abbrev pub prepared : ℕ → Call → Purpose → Answer → Client → Did
  prepared number call purpose.ForSession (answer.Session s) c = record (go_on plan me call (with_session call.group s c)) { opened = opens call.group s c }
  prepared number call purpose.ForRound (answer.Value round) c = ask_itself plan me call 0 (unsigned_abs round) c
  prepared number call p a c = finished number call p a c

  abbrev pub on_task : Invocation → Task → Pending → Answer → Client → Did
  on_task request (task.Calls o) now a c = prepared request.number (call_in request now o) now.purpose a c
  on_task request (task.Beats s) now a c = nothing (record (idle request.thread c) { sessions = forgets now.group a c.sessions })

  abbrev pub on_pending : Invocation → Option Pending → Answer → Client → Did
  on_pending request None a c = nothing c
  on_pending request (Some now) a c = record (on_task request now.task now a c) { ended = (request, a) ∷ [] }

  -- An answer to the open request of its thread ends that request. Other answers are dropped.
  abbrev pub answer_client : Invocation → Answer → Client → Did
  answer_client request a c = if (thread_at c request.thread).number == request.number then on_pending request (thread_at c request.thread).pending a c else nothing c
