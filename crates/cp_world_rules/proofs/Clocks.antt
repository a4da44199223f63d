-- The clock of a client moves by its ticks alone.
use Rattle.std.proofs.Common.{◌≡◌, ℕ, ◌+◌, List, [], ◌∷◌, Some, None, Option, refl, ◌∙◌}
use Rattle.std.specs.Prelude.{◌==◌}
use Rattle.cp_base.specs.declared.identifier.ClientId.{ClientId}
use Rattle.cp_base.specs.declared.identifier.Invocation.{Invocation}
use Rattle.cp_base.specs.declared.identifier.ThreadNo.{ThreadNo}
use Rattle.cp_answers.specs.declared.answer.Answer.{Answer}
use Rattle.cp_answers.specs.declared.answer.Answer.TheVariants as answer
use Rattle.cp_events.specs.declared.plan.Plan.{Plan}
use Rattle.cp_events.specs.declared.user_op.UserOp.{UserOp}
use Rattle.cp_group_state.proofs.Walk.{either}
use Rattle.cp_client_rules.specs.declared.rows.Pending.{Pending}
use Rattle.cp_client_rules.specs.declared.rows.Purpose.{Purpose}
use Rattle.cp_client_rules.specs.declared.rows.Purpose.TheVariants as purpose
use Rattle.cp_client_rules.specs.declared.rows.Task.{Task}
use Rattle.cp_client_rules.specs.declared.rows.Task.TheVariants as task
use Rattle.cp_client_rules.specs.Asking.{Need, Nothing, HoldingSession, ItsSession, SessionToClose, Round, group_of, need_of, wish_of}
use Rattle.cp_client_rules.specs.Clients.{Client, Did, Sessions, and_then, session_in_group, thread_at}
use Rattle.cp_client_rules.specs.Sessions.{has_session, with_session}
use Rattle.cp_client_rules.specs.Calls.{Call, by_need, call_client, closing, deadline_of, holding_session, in_session}
use Rattle.cp_client_rules.specs.Answers.{answer_client, call_in, on_pending, on_task, prepared}
use Rattle.cp_client_rules.specs.Ticks.{beat_each, beat_if_due, beats, end_each, end_late, is_due, is_late, tick_client, user_threads}

module _ (plan : Plan) (me : ClientId) (call : Call) (c : Client) where
  session-clock : (so : Option ℕ) → (in_session plan me call so c).client.clock ≡ c.clock
  session-clock None = refl
  session-clock (Some s) = refl

  closing-clock : (so : Option ℕ) → (closing plan me call so c).client.clock ≡ c.clock
  closing-clock None = refl
  closing-clock (Some s) = refl

  need-clock : (need : Need) → (by_need plan me need call c).client.clock ≡ c.clock
  need-clock Nothing = refl
  need-clock (HoldingSession name) = session-clock (holding_session call name c)
  need-clock ItsSession = session-clock (session_in_group c call.group)
  need-clock SessionToClose = closing-clock (session_in_group c call.group)
  need-clock (Round name) = refl

pub call-clock : (plan : Plan) (me : ClientId) (t : ThreadNo) (o : UserOp) (c : Client) → (call_client plan me t o c).client.clock ≡ c.clock
call-clock plan me t o c = need-clock plan me (record { thread = t; group = group_of o; op = o; deadline = deadline_of c.clock (wish_of o) }) c (need_of o)

module _ (plan : Plan) (me : ClientId) (request : Invocation) (c : Client) where
  prepared-clock : (o : UserOp) (now : Pending) (p : Purpose) (a : Answer) → (prepared plan me request.number (call_in request now o) p a c).client.clock ≡ c.clock
  prepared-clock o now purpose.ForSession (answer.Session s) = need-clock plan me (call_in request now o) (with_session now.group s c) (need_of o) ∙ either (λ (x : Client). x.clock ≡ c.clock) (has_session now.group s c) _ _ refl refl
  prepared-clock o now purpose.ForRound (answer.Value r) = refl
  prepared-clock o now p a = refl

  task-clock : (x : Task) (now : Pending) (a : Answer) → (on_task plan me request x now a c).client.clock ≡ c.clock
  task-clock (task.Calls o) now a = prepared-clock o now now.purpose a
  task-clock (task.Beats s) now a = refl

  pending-clock : (o : Option Pending) (a : Answer) → (on_pending plan me request o a c).client.clock ≡ c.clock
  pending-clock None a = refl
  pending-clock (Some now) a = task-clock now.task now a

  pub answer-clock : (a : Answer) → (answer_client plan me request a c).client.clock ≡ c.clock
  answer-clock a = either (λ (d : Did). d.client.clock ≡ c.clock) ((thread_at c request.thread).number == request.number) _ _ (pending-clock (thread_at c request.thread).pending a) refl

each-clock : (ts : List ThreadNo) (c : Client) → (end_each ts c).client.clock ≡ c.clock
each-clock [] c = refl
each-clock (t ∷ ts) c = each-clock ts (end_late t c).client ∙ either (λ (d : Did). d.client.clock ≡ c.clock) (is_late c.clock (thread_at c t).pending) _ _ refl refl

module _ (me : ClientId) where
  beat-clock : (rows : Sessions) (c : Client) → (beat_each me rows c).client.clock ≡ c.clock
  beat-clock [] c = refl
  beat-clock (row ∷ rows) c = beat-clock rows (beat_if_due me row.0 row.1 c).client ∙ either (λ (d : Did). d.client.clock ≡ c.clock) (is_due row.1 c) _ _ refl refl

  pub tick-clock : (ms : ℕ) (c : Client) → (tick_client me ms c).client.clock ≡ c.clock + ms
  tick-clock ms c = from (record c { clock = c.clock + ms }) where
    from : (b : Client) → (and_then (end_each user_threads b) (beats me)).client.clock ≡ b.clock
    from b = beat-clock (end_each user_threads b).client.sessions (end_each user_threads b).client ∙ each-clock user_threads b
