-- Steps of a client whose request is over.
use Rattle.std.proofs.Common.{◌≡◌, ◌<◌, ℕ, Bool, true, false, List, [], ◌∷◌, Option, Some, None, refl, sym, ◌∙◌, ap, subst, cond}
use Rattle.std.specs.Prelude.{◌+◌, ◌^◌, ◌++◌, ◌==◌, ◌&&◌, is_some, unsigned_abs}
use Rattle.std.specs.declared.cmp.Ordering.{Ordering}
use Rattle.std.specs.declared.cmp.Ordering.TheVariants.{Less, Equal, Greater}
use Rattle.std.specs.Ordering.{match_ordering, nat_cmp}
use Rattle.std.proofs.lemmas.List.{append-nil}
use Rattle.std.proofs.lemmas.Bool.{and_parts}
use Rattle.cp_base.specs.declared.identifier.ClientId.{ClientId}
use Rattle.cp_base.specs.declared.identifier.GroupId.{GroupId}
use Rattle.cp_base.specs.declared.identifier.Invocation.{Invocation}
use Rattle.cp_base.specs.declared.identifier.ThreadNo.{ThreadNo}
use Rattle.cp_answers.specs.declared.answer.Answer.{Answer}
use Rattle.cp_answers.specs.declared.answer.Answer.TheVariants as answer
use Rattle.cp_ops.specs.declared.op.Op.{Op}
use Rattle.cp_ops.specs.declared.op.Op.TheVariants as op
use Rattle.cp_ops.specs.declared.session_op.SessionOp.TheVariants as session
use Rattle.cp_object_ops.specs.declared.latch_op.LatchOp.TheVariants as latch
use Rattle.cp_events.specs.declared.plan.Plan.{Plan}
use Rattle.cp_group_state.specs.Rows.{put}
use Rattle.cp_group_state.proofs.Keyed.{IsKey, number_key, find-put_same}
use Rattle.cp_client_rules.specs.declared.rows.Purpose.{Purpose}
use Rattle.cp_client_rules.specs.declared.rows.Purpose.TheVariants as purpose
use Rattle.cp_client_rules.specs.declared.rows.Pending.{Pending}
use Rattle.cp_client_rules.specs.declared.rows.Task.{Task}
use Rattle.cp_client_rules.specs.declared.rows.Task.TheVariants as task
use Rattle.cp_client_rules.specs.declared.rows.Thread.{Thread}
use Rattle.cp_client_rules.specs.Clients.{Client, Did, answers, ask, done_at_once, idle, nothing, or_new, session_in_group, thread_at}
use Rattle.cp_client_rules.specs.Sessions.{has_session, opens, with_session}
use Rattle.cp_client_rules.specs.Asking.{Need, Nothing, HoldingSession, ItsSession, SessionToClose, Round, need_of, op_of}
use Rattle.cp_client_rules.specs.Calls.{Call, ask_itself, by_need, closing, go_on, holding_session, in_session, pending_of}
use Rattle.cp_client_rules.specs.Answers.{answer_client, call_in, on_pending, on_task, prepared}
use Rattle.cp_client.specs.declared.output.ClientOut.{ClientOut}
use Rattle.cp_client.specs.Steps.{Gives}
use Rattle.cp_client.specs.Rooms.{HasRoom}
use Rattle.cp_client.specs.Threads.{is_open}
use Rattle.cp_client.specs.Nexts.{next_of, prepared_by, prepared_with, tasked}
use Rattle.cp_client.proofs.Steps.{nothing_gives}

module _ {K X : Type 0} (cmp : K → K → Ordering) (key : IsKey cmp) where
  -- the later of two rows under a key stays
  pub put_again : (rows : List (K × X)) (k : K) (x y : X) → put cmp (put cmp rows k x) k y ≡ put cmp rows k y
  put_again [] k x y = rw (key.here k) refl
  put_again (e ∷ es) k x y = by (put_again es k x y) (cmp k e.0) refl where
    by : put cmp (put cmp es k x) k y ≡ put cmp es k y → (o : Ordering) → cmp k e.0 ≡ o
        → put cmp (match_ordering o ((k, x) ∷ e ∷ es) ((e.0, x) ∷ es) (e ∷ put cmp es k x)) k y ≡ match_ordering o ((k, y) ∷ e ∷ es) ((e.0, y) ∷ es) (e ∷ put cmp es k y)
    by rest Less h = rw (key.here k) refl
    by rest Equal h = rw h refl
    by rest Greater h = rw h (ap (λ (r : List (K × X)). e ∷ r) rest)

-- a thread that is idle has its number
number_idle : (c : Client) (t : ThreadNo) → (thread_at (idle t c) t).number ≡ (thread_at c t).number
number_idle c t = ap (λ (o : Option Thread). (or_new o).number) (find-put_same nat_cmp number_key c.threads t.0 (record { number = (thread_at c t).number; pending = None }))

pub idle_room : (c : Client) (t : ThreadNo) → HasRoom t c → HasRoom t (idle t c)
idle_room c t h = record { clock = h.clock; number = rw (number_idle c t) h.number; holds = h.holds }

pub session_room : (c : Client) (g : GroupId) (s : ℕ) (t : ThreadNo) → (thread_at c t).number < 2 ^ 62 → (thread_at (with_session g s c) t).number < 2 ^ 62
session_room c g s t h = by (has_session g s c) where
  by : (b : Bool) → (thread_at (cond b c (record c { sessions = put nat_cmp c.sessions g.0 (record { id = s; beat = c.clock }) })) t).number < 2 ^ 62
  by true = h
  by false = h

-- a request's step, by its number and the rows of threads after it
abbrev asks_at : ClientId → ThreadNo → Pending → Op → Client → ℕ → List (ℕ × Thread) → Did
asks_at me t now o c n threads = record (nothing (record c { threads = threads })) { asked = record { group = now.group; call = record { client = me; thread = t; number = n }; op = o } ∷ [] }

abbrev done_by : ThreadNo → Client → ℕ → List (ℕ × Thread) → Did
done_by t c n threads = record (nothing (record c { threads = threads })) { returns = answers t n answer.Ok }

abbrev idle_threads : ThreadNo → Client → List (ℕ × Thread)
idle_threads t c = put nat_cmp c.threads t.0 (record { number = (thread_at c t).number; pending = None })

abbrev next_thread : Option Pending → ℕ → Thread
next_thread p n = record { number = n + 1; pending = p }

ask_idle : (me : ClientId) (t : ThreadNo) (now : Pending) (o : Op) (c : Client) → ask me t now o (idle t c) ≡ ask me t now o c
ask_idle me t now o c =
    ap (λ (n : ℕ). asks_at me t now o c (n + 1) (put nat_cmp (idle_threads t c) t.0 (next_thread (Some now) n))) (number_idle c t)
    ∙ ap (λ (threads : List (ℕ × Thread)). asks_at me t now o c ((thread_at c t).number + 1) threads)
    (put_again nat_cmp number_key c.threads t.0 (record { number = (thread_at c t).number; pending = None }) (next_thread (Some now) (thread_at c t).number))

done_idle : (t : ThreadNo) (c : Client) → done_at_once t (idle t c) ≡ done_at_once t c
done_idle t c =
    ap (λ (n : ℕ). done_by t c (n + 1) (put nat_cmp (idle_threads t c) t.0 (next_thread None n))) (number_idle c t)
    ∙ ap (λ (threads : List (ℕ × Thread)). done_by t c ((thread_at c t).number + 1) threads)
    (put_again nat_cmp number_key c.threads t.0 (record { number = (thread_at c t).number; pending = None }) (next_thread None (thread_at c t).number))

module _ (plan : Plan) (me : ClientId) (call : Call) (c : Client) where
  in_session_idle : (s : Option ℕ) → in_session plan me call s (idle call.thread c) ≡ in_session plan me call s c
  in_session_idle None = ask_idle me call.thread (pending_of call purpose.ForSession) (op.Session session.Open) c
  in_session_idle (Some s) = ask_idle me call.thread (pending_of call (purpose.ForItself s)) (op_of plan call.op s 0) c

  closing_idle : (s : Option ℕ) → closing plan me call s (idle call.thread c) ≡ closing plan me call s c
  closing_idle None = done_idle call.thread c
  closing_idle (Some s) = ask_idle me call.thread (pending_of call (purpose.ForItself s)) (op_of plan call.op s 0) c

  by_need_idle : (n : Need) → by_need plan me n call (idle call.thread c) ≡ by_need plan me n call c
  by_need_idle Nothing = ask_idle me call.thread (pending_of call (purpose.ForItself 0)) (op_of plan call.op 0 0) c
  by_need_idle (HoldingSession name) = in_session_idle (holding_session call name c)
  by_need_idle ItsSession = in_session_idle (session_in_group c call.group)
  by_need_idle SessionToClose = closing_idle (session_in_group c call.group)
  by_need_idle (Round name) = ask_idle me call.thread (pending_of call purpose.ForRound) (op.Latch name latch.Round) c

with_session_idle : (g : GroupId) (s : ℕ) (t : ThreadNo) (c : Client) → with_session g s (idle t c) ≡ idle t (with_session g s c)
with_session_idle g s t c = by (has_session g s c) where
  by : (b : Bool) → cond b (idle t c) (record (idle t c) { sessions = put nat_cmp c.sessions g.0 (record { id = s; beat = c.clock }) })
      ≡ idle t (cond b c (record c { sessions = put nat_cmp c.sessions g.0 (record { id = s; beat = c.clock }) }))
  by true = refl
  by false = refl

module _ (plan : Plan) (me : ClientId) (call : Call) (c : Client) where
  in_session_opens : (s : Option ℕ) → (in_session plan me call s c).opened ≡ []
  in_session_opens None = refl
  in_session_opens (Some s) = refl

  closing_opens : (s : Option ℕ) → (closing plan me call s c).opened ≡ []
  closing_opens None = refl
  closing_opens (Some s) = refl

  need_opens : (n : Need) → (by_need plan me n call c).opened ≡ []
  need_opens Nothing = refl
  need_opens (HoldingSession name) = in_session_opens (holding_session call name c)
  need_opens ItsSession = in_session_opens (session_in_group c call.group)
  need_opens SessionToClose = closing_opens (session_in_group c call.group)
  need_opens (Round name) = refl

-- a call that goes on opens no session but the one that it waited for
pub opened_gives : (plan : Plan) (me : ClientId) (call : Call) (s : ℕ) (c after : Client) (x y z : ClientOut) → y ≡ record x { opened = x.opened ++ opens call.group s c }
    → Gives (go_on plan me call (with_session call.group s c)) after y z → Gives (prepared_with plan me call s c) after x z
opened_gives plan me call s c after x y z noted g =
    let none : (go_on plan me call (with_session call.group s c)).opened ≡ [] = need_opens plan me call (with_session call.group s c) (need_of call.op) in record {
      client_is = g.client_is;
      asked = g.asked ∙ ap (λ (o : ClientOut). o.asked ++ (go_on plan me call (with_session call.group s c)).asked) noted;
      opened = g.opened ∙ ap (λ r. y.opened ++ r) none ∙ append-nil y.opened ∙ ap (λ (o : ClientOut). o.opened) noted;
      returns = g.returns ∙ ap (λ (o : ClientOut). o.returns ++ (go_on plan me call (with_session call.group s c)).returns) noted;
    }

-- what a step tells of the requests that it ends is told by no code
gives_but_ended : (d : Did) (e : Did) (c : Client) (x y : ClientOut) → e.client ≡ d.client → e.asked ≡ d.asked → e.opened ≡ d.opened → e.returns ≡ d.returns → Gives d c x y → Gives e c x y
gives_but_ended d e c x y one two three four g = record {
  client_is = g.client_is ∙ sym one;
  asked = g.asked ∙ ap (λ r. x.asked ++ r) (sym two);
  opened = g.opened ∙ ap (λ r. x.opened ++ r) (sym three);
  returns = g.returns ∙ ap (λ r. x.returns ++ r) (sym four);
}

module _ (plan : Plan) (me : ClientId) (number : ℕ) (call : Call) (c : Client) where
  -- the step of the client whose request is over is that of the client whose request is open
  prepared_with_idle : (s : ℕ) → prepared_with plan me call s (idle call.thread c) ≡ prepared_with plan me call s c
  prepared_with_idle s = ap (λ (d : Did). record d { opened = opens call.group s c })
      (ap (λ (x : Client). go_on plan me call x) (with_session_idle call.group s call.thread c) ∙ by_need_idle plan me call (with_session call.group s c) (need_of call.op))

  round_idle : (round : ℕ) → ask_itself plan me call 0 round (idle call.thread c) ≡ ask_itself plan me call 0 round c
  round_idle round = ask_idle me call.thread (pending_of call (purpose.ForItself 0)) (op_of plan call.op 0 round) c

  prepared_idle : (p : Purpose) (a : Answer) → prepared_by plan me (next_of p a) number call p a (idle call.thread c) ≡ prepared plan me number call p a c
  prepared_idle purpose.ForSession (answer.Session s) = prepared_with_idle s
  prepared_idle purpose.ForRound (answer.Value round) = round_idle (unsigned_abs round)
  prepared_idle p a = refl

tasked_idle : (plan : Plan) (me : ClientId) (request : Invocation) (x : Task) (now : Pending) (a : Answer) (c : Client) → tasked plan me request x now a (idle request.thread c) ≡ on_task plan me request x now a c
tasked_idle plan me request (task.Calls o) now a c = prepared_idle plan me request.number (call_in request now o) c now.purpose a
tasked_idle plan me request (task.Beats s) now a c = refl

-- an answer to an open request
pub open_gives : (plan : Plan) (me : ClientId) (request : Invocation) (a : Answer) (now : Pending) (c after : Client) (x y : ClientOut)
    → is_open request (thread_at c request.thread) ≡ true → (thread_at c request.thread).pending ≡ Some now
    → Gives (tasked plan me request now.task now a (idle request.thread c)) after x y → Gives (answer_client plan me request a c) after x y
open_gives plan me request a now c after x y h pending g =
    let number = (and_parts ((thread_at c request.thread).number == request.number) (is_some (thread_at c request.thread).pending) h).0 in
    rw (number, pending) (gives_but_ended (on_task plan me request now.task now a c) (record (on_task plan me request now.task now a c) { ended = (request, a) ∷ [] }) after x y refl refl refl refl
    (subst (λ d. Gives d after x y) (tasked_idle plan me request now.task now a c) g))

-- other answers are dropped
pub dropped_gives : (plan : Plan) (me : ClientId) (request : Invocation) (a : Answer) (c : Client) (x : ClientOut) → is_open request (thread_at c request.thread) ≡ false → Gives (answer_client plan me request a c) c x x
dropped_gives plan me request a c x = by ((thread_at c request.thread).number == request.number) (thread_at c request.thread).pending where
  by : (b : Bool) (p : Option Pending) → (b && is_some p) ≡ false → Gives (cond b (on_pending plan me request p a c) (nothing c)) c x x
  by false p h = nothing_gives c x
  by true None h = nothing_gives c x
  by true (Some now) h = cc

pub open_none : (request : Invocation) (row : Thread) → is_open request row ≡ true → row.pending ≡ None → ⊥
open_none request row h e = let some = (and_parts (row.number == request.number) (is_some row.pending) h).1 in let none : is_some row.pending ≡ false = ap is_some e in cc
