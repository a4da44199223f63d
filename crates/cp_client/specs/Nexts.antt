-- What an answer lets a call do whose request is over.
use Rattle.std.specs.Prelude.{ℕ, unsigned_abs}
use Rattle.cp_base.specs.declared.identifier.ClientId.{ClientId}
use Rattle.cp_base.specs.declared.identifier.Invocation.{Invocation}
use Rattle.cp_answers.specs.declared.answer.Answer.{Answer}
use Rattle.cp_answers.specs.declared.answer.Answer.TheVariants as answer
use Rattle.cp_events.specs.declared.plan.Plan.{Plan}
use Rattle.cp_client_rules.specs.declared.rows.Purpose.{Purpose}
use Rattle.cp_client_rules.specs.declared.rows.Purpose.TheVariants as purpose
use Rattle.cp_client_rules.specs.declared.rows.Pending.{Pending}
use Rattle.cp_client_rules.specs.declared.rows.Task.{Task}
use Rattle.cp_client_rules.specs.declared.rows.Task.TheVariants as task
use Rattle.cp_client_rules.specs.Clients.{Client, Did, answers, nothing}
use Rattle.cp_client_rules.specs.Sessions.{forgets, opens, sessions_after, with_session}
use Rattle.cp_client_rules.specs.Holds.{holding}
use Rattle.cp_client_rules.specs.Calls.{Call, ask_itself, go_on}
use Rattle.cp_client_rules.specs.Answers.{call_in}
use Rattle.cp_client.specs.declared.answering.Next.{Next}
use Rattle.cp_client.specs.declared.answering.Next.TheVariants as next

abbrev pub next_of : Purpose → Answer → Next
next_of purpose.ForSession (answer.Session s) = next.WithSession s
next_of purpose.ForRound (answer.Value round) = next.WithRound (unsigned_abs round)
next_of p a = next.Ends

-- a call returns
abbrev pub ended : ℕ → Call → Purpose → Answer → Client → Did
ended number call p a c = let h = holding call.thread call.group call.op p a c.holds in
    record (nothing (record c { sessions = sessions_after call.group call.op p a c.sessions; holds = h.holds })) { returns = answers call.thread number h.answer }

module _ (plan : Plan) (me : ClientId) where
  -- a call goes on with the session that it waits for
  abbrev pub prepared_with : Call → ℕ → Client → Did
  prepared_with call s c = record (go_on plan me call (with_session call.group s c)) { opened = opens call.group s c }

  abbrev pub prepared_by : Next → ℕ → Call → Purpose → Answer → Client → Did
  prepared_by (next.WithSession s) number call p a c = prepared_with call s c
  prepared_by (next.WithRound round) number call p a c = ask_itself plan me call 0 round c
  prepared_by next.Ends number call p a c = ended number call p a c

  abbrev pub tasked : Invocation → Task → Pending → Answer → Client → Did
  tasked request (task.Calls o) now a c = prepared_by (next_of now.purpose a) request.number (call_in request now o) now.purpose a c
  tasked request (task.Beats s) now a c = nothing (record c { sessions = forgets now.group a c.sessions })
