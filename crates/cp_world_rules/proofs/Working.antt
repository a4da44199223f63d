-- What a client's threads work on at a call, at an answer and at a tick.
use Rattle.std.proofs.Common.{◌≡◌, ℕ, ◌+◌, ◌≤◌, ◌⊎◌, inl, inr, Bool, true, false, not, List, [], ◌∷◌, Some, None, Option, refl, sym, subst, ap, ◌∙◌, arith, le_refl}
use Rattle.std.specs.Prelude.{Contains, nat_lt, unsigned_abs, ◌==◌}
use Rattle.std.specs.Ordering.{nat_cmp}
use Rattle.std.proofs.lemmas.Bool.Decides.{nat_tests}
use Rattle.std.proofs.lemmas.List.Elements.{Contains-push}
use Rattle.cp_base.specs.Identifiers.{replay_id}
use Rattle.cp_base.specs.declared.identifier.ClientNo.{ClientNo}
use Rattle.cp_base.specs.declared.identifier.GroupId.{GroupId}
use Rattle.cp_base.specs.declared.identifier.Invocation.{Invocation}
use Rattle.cp_base.specs.declared.identifier.ThreadNo.{ThreadNo}
use Rattle.cp_base.proofs.Tests.{none_some, same_number, same_some}
use Rattle.cp_answers.specs.declared.answer.Answer.{Answer}
use Rattle.cp_answers.specs.declared.answer.Answer.TheVariants as answer
use Rattle.cp_answers.specs.declared.ended_by.EndedBy.TheVariants as ended_by
use Rattle.cp_object_ops.specs.declared.latch_op.LatchOp.TheVariants as latch
use Rattle.cp_ops.specs.declared.op.Op.{Op}
use Rattle.cp_ops.specs.declared.op.Op.TheVariants as op
use Rattle.cp_ops.specs.declared.session_op.SessionOp.TheVariants as session
use Rattle.cp_events.specs.declared.effects.Ending.TheVariants as ending
use Rattle.cp_events.specs.declared.effects.Return.{Return}
use Rattle.cp_events.specs.declared.plan.Plan.{Plan}
use Rattle.cp_events.specs.declared.user_op.LockCall.{LockCall}
use Rattle.cp_events.specs.declared.user_op.LatchCall.TheVariants as latch_call
use Rattle.cp_events.specs.declared.user_op.UserOp.{UserOp}
use Rattle.cp_events.specs.declared.user_op.UserOp.TheVariants as user
use Rattle.cp_group_state.specs.Rows.{find, put}
use Rattle.cp_group_state.proofs.Walk.{cases, either}
use Rattle.cp_client_rules.specs.declared.rows.HoldRecord.{HoldRecord}
use Rattle.cp_client_rules.specs.declared.rows.OwnSession.{OwnSession}
use Rattle.cp_client_rules.specs.declared.rows.Pending.{Pending}
use Rattle.cp_client_rules.specs.declared.rows.Purpose.{Purpose}
use Rattle.cp_client_rules.specs.declared.rows.Purpose.TheVariants as purpose
use Rattle.cp_client_rules.specs.declared.rows.Task.{Task}
use Rattle.cp_client_rules.specs.declared.rows.Task.TheVariants as task
use Rattle.cp_client_rules.specs.Asking.{Need, Nothing, HoldingSession, ItsSession, SessionToClose, Round, need_of, op_of, wish_of}
use Rattle.cp_client_rules.specs.Clients.{Asked, Client, Did, Holds, LockKey, Sessions, lock_cmp, and_then, next_request, or_new, nothing, session_in_group, thread_at, with_thread}
use Rattle.cp_client_rules.specs.Sessions.{has_session, with_session}
use Rattle.cp_client_rules.specs.declared.rows.Thread.{Thread}
use Rattle.cp_client_rules.specs.Holds.{Holding, expired, held_after, holding, is_owner}
use Rattle.cp_client_rules.specs.Calls.{Call, by_need, closing, deadline_of, go_on, patience, holding_session, in_session, pending_of}
use Rattle.cp_client_rules.specs.Answers.{answer_client, call_in, finished, on_pending, on_task, prepared}
use Rattle.cp_client_rules.specs.Ticks.{beat, beat_each, beat_if_due, beats, end_each, end_late, is_due, is_late, is_past, own_thread, tick_client, user_threads}
use Rattle.cp_world_rules.specs.Rows.{Called, End, Moved, Request, Returned}
use Rattle.cp_world_rules.specs.World.{World, begins_now, client_at, client_of, ends_now, returns_now}
use Rattle.cp_world_rules.specs.Requests.{MayAsk, needs_session}
use Rattle.cp_world_rules.specs.Laws.{is_for_itself}
use Rattle.cp_world_rules.proofs.GroupLaws.{prepares}
use Rattle.cp_world_rules.proofs.Desks.{Book, IsAsked, IsOpen, IsOther, OverIn, Owns, TaskWorks, Tells, ThreadOk, Works, at_once, by_answer, of_thread, past, with_end, with_return, works-end}
use Rattle.cp_world_rules.proofs.Threads.{But, Mid, adds, adds-end, adds-none, adds-request, adds-return, adds-then, asks-for, beats-here, ends-here, lay-down, returns-here, take-up}

no_true : false ≡ true → ⊥
no_true e = cc

-- the operation of a call itself prepares nothing
pub itself-plain : (plan : Plan) (o : UserOp) (s round : ℕ) → prepares (op_of plan o s round) ≡ false
itself-plain plan (user.Latch object (latch_call.Set n)) s round = refl
itself-plain plan (user.Latch object latch_call.Down) s round = refl
itself-plain plan (user.Latch object latch_call.Count) s round = refl
itself-plain plan (user.Latch object (latch_call.Await ms)) s round = refl
itself-plain plan (user.Long object o) s round = refl
itself-plain plan (user.Ref object o) s round = refl
itself-plain plan (user.Lock object o) s round = refl
itself-plain plan (user.Sem object o) s round = refl
itself-plain plan (user.Jsem object o) s round = refl
itself-plain plan (user.Map object o) s round = refl
itself-plain plan (user.Destroy which object) s round = refl
itself-plain plan (user.CloseSession name) s round = refl
itself-plain plan (user.Group o) s round = refl
itself-plain plan (user.Member o) s round = refl
itself-plain plan (user.Change o) s round = refl

module _ (plan : Plan) (w : World) (me : ClientNo) where
  -- what a step leads to from these rows
  abbrev pub Goes : Book → Did → Type 0
  Goes b d = Mid plan w me (adds w me b d.asked [] d.returns) d.client

  -- a call goes on
  module _ (b : Book) (call : Call) (c : Client) (m : But plan w me b c call.thread false) (made : Called) (op_is : made.op ≡ call.op) (deadline_is : call.deadline ≡ deadline_of made.clock (wish_of call.op)) (works : Works plan b me call.thread made false) where
    asked-goes : (now : Pending) (o : Op) → now.task ≡ task.Calls call.op → now.deadline ≡ call.deadline → MayAsk plan call.op o → (is_for_itself now.purpose ≡ false → prepares o ≡ true)
        → Mid plan w me (adds w me b (record { group = now.group; call = next_request (replay_id me) call.thread c; op = o } ∷ []) [] []) (with_thread c call.thread (record { number = (thread_at c call.thread).number + 1; pending = Some now }))
    asked-goes now o task_is same may prep = subst (λ (x : Book). Mid plan w me x (with_thread c call.thread (record { number = (thread_at c call.thread).number + 1; pending = Some now })))
        (sym (adds-request w me b (record { group = now.group; call = next_request (replay_id me) call.thread c; op = o })))
        (asks-for plan w me b c call.thread false m made works refl (begins_now w (record { group = now.group; call = next_request (replay_id me) call.thread c; op = o })) refl refl
        (subst (λ (x : UserOp). MayAsk plan x o) (sym op_is) may) now call.op task_is (same ∙ deadline_is) op_is prep)

    itself-goes : (s round : ℕ) → Mid plan w me (adds w me b (record { group = call.group; call = next_request (replay_id me) call.thread c; op = op_of plan call.op s round } ∷ []) [] [])
        (with_thread c call.thread (record { number = (thread_at c call.thread).number + 1; pending = Some (pending_of call (purpose.ForItself s)) }))
    itself-goes s round = asked-goes (pending_of call (purpose.ForItself s)) (op_of plan call.op s round) refl refl (inl (s, round, refl)) (λ e. absurd (no e)) where
      no : true ≡ false → ⊥
      no k = cc

    session-goes : (so : Option ℕ) → needs_session (need_of call.op) ≡ true → Goes b (in_session plan (replay_id me) call so c)
    session-goes None needs = asked-goes (pending_of call purpose.ForSession) (op.Session session.Open) refl refl (inr (inl (needs, refl))) (λ e. refl)
    session-goes (Some s) needs = itself-goes s 0

    -- a call that is done at once
    abbrev pub done_now : Return
    done_now = record { thread = call.thread; number = (thread_at c call.thread).number + 1; ending = ending.Answered answer.Ok }

    abbrev pub AsksNothing : Type 0
    AsksNothing = (made.event ≡ w.shown.number) × ((q : Request) → Contains b.requests q → Owns me call.thread q.call → made.event ≤ q.event → IsOther b.calls made.event q)

    closing-goes : (so : Option ℕ) → AsksNothing → Goes b (closing plan (replay_id me) call so c)
    closing-goes None none = subst (λ (x : Book). Mid plan w me x (with_thread c call.thread (record { number = (thread_at c call.thread).number + 1; pending = None }))) (sym (adds-return w me b done_now))
        (returns-here plan w me b c call.thread false m made false works (returns_now w me done_now) refl refl refl (omega arith) (at_once none.0 refl) (inr (refl, none.1, λ q there mine. ((λ l. (let n = m.numbers q there mine in omega (arith, n))), λ l. (let n = m.book.requests_now q there in absurd (omega (arith, n, l)))))) ((thread_at c call.thread).number + 1) (le_refl ((thread_at c call.thread).number + 1)) (λ e. absurd (no_true e)))
    closing-goes (Some s) none = itself-goes s 0

    need-goes : (need : Need) → need_of call.op ≡ need → (need ≡ SessionToClose → AsksNothing) → Goes b (by_need plan (replay_id me) need call c)
    need-goes Nothing is none = itself-goes 0 0
    need-goes (HoldingSession name) is none = session-goes (holding_session call name c) (ap needs_session is)
    need-goes ItsSession is none = session-goes (session_in_group c call.group) (ap needs_session is)
    need-goes SessionToClose is none = closing-goes (session_in_group c call.group) (none refl)
    need-goes (Round name) is none = asked-goes (pending_of call purpose.ForRound) (op.Latch name latch.Round) refl refl (inr (inr (name, is, refl))) (λ e. refl)

    pub call-goes : AsksNothing → Goes b (go_on plan (replay_id me) call c)
    call-goes none = need-goes (need_of call.op) refl (λ e. none)

    pub prepared-goes : needs_session (need_of call.op) ≡ true → Goes b (go_on plan (replay_id me) call c)
    prepared-goes needs = need-goes (need_of call.op) refl (λ e. absurd (no_true (sym (ap needs_session e) ∙ needs)))

    pub round-goes : (s round : ℕ) → Mid plan w me (adds w me b (record { group = call.group; call = next_request (replay_id me) call.thread c; op = op_of plan call.op s round } ∷ []) [] [])
        (with_thread c call.thread (record { number = (thread_at c call.thread).number + 1; pending = Some (pending_of call (purpose.ForItself s)) }))
    round-goes = itself-goes

  -- other sessions and hold records
  pub same-threads : (b : Book) (c d : Client) → d.threads ≡ c.threads → Mid plan w me b c → Mid plan w me b d
  same-threads b c d e m = record { book = m.book; mine = λ t. subst (λ (rows : List (ℕ × Thread)). ThreadOk plan b me t (or_new (find nat_cmp rows t.0))) (sym e) (m.mine t); others = m.others }

  pub same-but : (b : Book) (c d : Client) (t : ThreadNo) (opened : Bool) → d.threads ≡ c.threads → But plan w me b c t opened → But plan w me b d t opened
  same-but b c d t opened e m = record {
    book = m.book;
    mine = λ y off. subst (λ (rows : List (ℕ × Thread)). ThreadOk plan b me y (or_new (find nat_cmp rows y.0))) (sym e) (m.mine y off);
    others = m.others;
    numbers = subst (λ (rows : List (ℕ × Thread)). (q : Request) → Contains b.requests q → Owns me t q.call → q.call.number ≤ (or_new (find nat_cmp rows t.0)).number) (sym e) m.numbers;
    ended = subst (λ (rows : List (ℕ × Thread)). (x : End) → Contains b.ends x → Owns me t x.call → x.call.number ≤ (or_new (find nat_cmp rows t.0)).number) (sym e) m.ended;
    told = subst (λ (rows : List (ℕ × Thread)). (r : Returned) → Contains b.returned r → r.client ≡ me → r.what.thread ≡ t → r.what.number ≤ (or_new (find nat_cmp rows t.0)).number) (sym e) m.told;
    overs = subst (λ (rows : List (ℕ × Thread)). (q : Request) → Contains b.requests q → Owns me t q.call → ((opened ≡ true) × (q.call.number ≡ (or_new (find nat_cmp rows t.0)).number)) ⊎ OverIn b.requests b.ends b.returned q.call) (sym e) m.overs;
  }

-- the sessions that a client is told don't concern its threads
with-threads : (g : GroupId) (s : ℕ) (c : Client) → (with_session g s c).threads ≡ c.threads
with-threads g s c = either (λ (x : Client). x.threads ≡ c.threads) (has_session g s c) _ _ refl refl

-- a call that an answer ends returns with it, or with the loss of ownership
abbrev pub Said : Answer → Answer → Type 0
Said y x = (y ≡ x) ⊎ (y ≡ answer.OwnershipLost)

expired-says : (key : LockKey) (n : ℕ) (o : Option HoldRecord) (holds : Holds) → Said (expired key (answer.SessionExpired n) o holds).answer (answer.SessionExpired n)
expired-says key n None holds = inl refl
expired-says key n (Some h) holds = inr refl

held-says : (key : LockKey) (o : LockCall) (s : ℕ) (x : Answer) (holds : Holds) → Said (held_after key o s x holds).answer x
held-says key o s (answer.SessionExpired n) holds = either (λ (r : Holding). Said r.answer (answer.SessionExpired n)) (is_owner o) _ _ (inl refl) (expired-says key n (find lock_cmp holds key) holds)
held-says key o s x holds = inl refl

pub holding-says : (t : ThreadNo) (g : GroupId) (o : UserOp) (p : Purpose) (x : Answer) (holds : Holds) → Said (holding t g o p x holds).answer x
holding-says t g (user.Lock object o) (purpose.ForItself s) x holds = held-says (t.0, g.0, object.name) o s x holds
holding-says t g (user.Destroy which object) p x holds = inl refl
holding-says t g o p x holds = inl refl

-- a request for a session is of a call that needs one
abbrev pub NeedsIt : UserOp → Purpose → Type 0
NeedsIt o purpose.ForSession = needs_session (need_of o) ≡ true
NeedsIt o p = Unit {0}

abbrev pub Needs : Task → Purpose → Type 0
Needs (task.Calls o) p = NeedsIt o p
Needs (task.Beats s) p = Unit {0}

-- an answer to the open request
module _ (plan : Plan) (w : World) (request : Invocation) (a : Answer) (mine : request.client ≡ replay_id (client_of request)) where
  abbrev me : ClientNo
  me = client_of request

  abbrev c : Client
  c = client_at w (client_of request)

  abbrev pub Answers : Book → Did → Type 0
  Answers b d = Mid plan w (client_of request) (adds w (client_of request) b d.asked d.ended d.returns) d.client

  module _ (b : Book) (m : Mid plan w (client_of request) b (client_at w (client_of request))) where
    pub nothing-goes : Answers b (nothing (client_at w (client_of request)))
    nothing-goes = subst (λ (x : Book). Mid plan w (client_of request) x (client_at w (client_of request))) (sym (adds-none w (client_of request) b)) m

    module _ (now : Pending) (is : (thread_at (client_at w (client_of request)) request.thread).pending ≡ Some now) (same : (thread_at (client_at w (client_of request)) request.thread).number ≡ request.number) where
      open_now : IsOpen plan b (client_of request) request.thread (thread_at (client_at w (client_of request)) request.thread).number now
      open_now = (m.mine request.thread).open_ok now is

      abbrev the_end : End
      the_end = ends_now w (request, a)

      call_is : request ≡ of_thread plan (client_of request) request.thread (thread_at (client_at w (client_of request)) request.thread).number
      call_is = λ j. record { client = mine j; thread = request.thread; number = sym same j }

      after_end : But plan w (client_of request) (with_end b (ends_now w (request, a))) (client_at w (client_of request)) request.thread false
      after_end = ends-here plan w (client_of request) b (client_at w (client_of request)) request.thread true (take-up plan w (client_of request) b (client_at w (client_of request)) request.thread m) (ends_now w (request, a)) call_is open_now.not_ended

      -- from the rows with the end to those of the whole step
      whole : (d : Did) → Goes plan w (client_of request) (with_end b (ends_now w (request, a))) d → Mid plan w (client_of request) (adds w (client_of request) b d.asked ((request, a) ∷ []) d.returns) d.client
      whole d g = subst (λ (x : Book). Mid plan w (client_of request) x d.client) (adds-then w (client_of request) b [] d.asked ((request, a) ∷ []) [] [] d.returns)
          (subst (λ (x : Book). Mid plan w (client_of request) (adds w (client_of request) x d.asked [] d.returns) d.client) (sym (adds-end w (client_of request) b (request, a))) g)

      -- the call of the request
      module _ (o : UserOp) (itself : Bool) (deadline : Option ℕ) (works : TaskWorks plan b (client_of request) request.thread open_now.asked itself deadline (task.Calls o)) where
        still : Works plan (with_end b (ends_now w (request, a))) (client_of request) request.thread works.0 itself
        still = works-end plan b (client_of request) request.thread (ends_now w (request, a)) works.0 itself works.2

        told_so : (p : Purpose) (x : Answer) → x ≡ a → (ending.Answered (holding request.thread now.group o p x (client_at w (client_of request)).holds).answer ≡ ending.Answered a) ⊎ (ending.Answered (holding request.thread now.group o p x (client_at w (client_of request)).holds).answer ≡ ending.Answered answer.OwnershipLost)
        told_so p x e = by (holding-says request.thread now.group o p x (client_at w (client_of request)).holds) where
          by : Said (holding request.thread now.group o p x (client_at w (client_of request)).holds).answer x → (ending.Answered (holding request.thread now.group o p x (client_at w (client_of request)).holds).answer ≡ ending.Answered a) ⊎ (ending.Answered (holding request.thread now.group o p x (client_at w (client_of request)).holds).answer ≡ ending.Answered answer.OwnershipLost)
          by (inl h) = inl (ap (λ y. ending.Answered y) (h ∙ e))
          by (inr h) = inr (ap (λ y. ending.Answered y) h)

        finished-goes : (p : Purpose) (x : Answer) → x ≡ a → Goes plan w (client_of request) (with_end b (ends_now w (request, a))) (finished request.number (call_in request now o) p x (client_at w (client_of request)))
        finished-goes p x e = subst (λ (y : Book). Mid plan w (client_of request) y d.client) (sym (adds-return w (client_of request) (with_end b (ends_now w (request, a))) r))
            (same-threads plan w (client_of request) (with_return (with_end b (ends_now w (request, a))) (returns_now w (client_of request) r)) (with_thread (client_at w (client_of request)) request.thread (record { number = (thread_at (client_at w (client_of request)) request.thread).number; pending = None })) d.client refl
            (returns-here plan w (client_of request) (with_end b (ends_now w (request, a))) (client_at w (client_of request)) request.thread false after_end works.0 itself still (returns_now w (client_of request) r) refl refl refl (omega (arith, same)) (by_answer (ends_now w (request, a)) (Contains-push b.ends (ends_now w (request, a))) refl (λ j. record { client = mine j; thread = request.thread; number = request.number }) (told_so p x e)) (inl asked) (thread_at (client_at w (client_of request)) request.thread).number (omega (arith, same)) (λ e. absurd (no_true e))))
          where
            d : Did
            d = finished request.number (call_in request now o) p x (client_at w (client_of request))

            r : Return
            r = record { thread = request.thread; number = request.number; ending = ending.Answered (holding request.thread now.group o p x (client_at w (client_of request)).holds).answer }

            asked : (q : Request) × IsAsked plan b.requests (returns_now w (client_of request) r) works.0 q
            asked = (
              open_now.asked,
              (
                open_now.there,
                (ap (λ (z : Invocation). z.client) open_now.call_is, ap (λ (z : Invocation). z.thread) open_now.call_is),
                ap (λ (z : Invocation). z.number) open_now.call_is ∙ same,
                works.3,
                m.book.requests_now open_now.asked open_now.there,
                subst (λ (y : UserOp). MayAsk plan y open_now.asked.op) (sym works.1) works.4,
              ),
            )

      prepared-all : (o : UserOp) (p : Purpose) (x : Answer) → x ≡ a → NeedsIt o p → TaskWorks plan b (client_of request) request.thread open_now.asked (is_for_itself p) now.deadline (task.Calls o)
          → Goes plan w (client_of request) (with_end b (ends_now w (request, a))) (prepared plan (replay_id (client_of request)) request.number (call_in request now o) p x (client_at w (client_of request)))
      prepared-all o purpose.ForSession (answer.Session s) e needs works = prepared-goes plan w (client_of request) (with_end b (ends_now w (request, a))) (call_in request now o) (with_session now.group s (client_at w (client_of request)))
          (same-but plan w (client_of request) (with_end b (ends_now w (request, a))) (client_at w (client_of request)) (with_session now.group s (client_at w (client_of request))) request.thread false (with-threads now.group s (client_at w (client_of request))) after_end)
          works.0 works.1 works.5 (still o false now.deadline works) needs
      prepared-all o purpose.ForRound (answer.Value r) e needs works = round-goes plan w (client_of request) (with_end b (ends_now w (request, a))) (call_in request now o) (client_at w (client_of request)) after_end works.0 works.1 works.5 (still o false now.deadline works) 0 (unsigned_abs r)
      prepared-all o p x e needs works = finished-goes o (is_for_itself p) now.deadline works p x e

      task-goes : (x : Task) → Needs x now.purpose → TaskWorks plan b (client_of request) request.thread open_now.asked (is_for_itself now.purpose) now.deadline x
          → Goes plan w (client_of request) (with_end b (ends_now w (request, a))) (on_task plan (replay_id (client_of request)) request x now a (client_at w (client_of request)))
      task-goes (task.Calls o) needs works = prepared-all o now.purpose a refl needs works
      task-goes (task.Beats s) needs works = subst (λ (x : Book). Mid plan w (client_of request) x d.client) (sym (adds-none w (client_of request) (with_end b (ends_now w (request, a)))))
          (same-threads plan w (client_of request) (with_end b (ends_now w (request, a))) (with_thread (client_at w (client_of request)) request.thread (record { number = (thread_at (client_at w (client_of request)) request.thread).number; pending = None })) d.client refl
          (lay-down plan w (client_of request) (with_end b (ends_now w (request, a))) (client_at w (client_of request)) request.thread (thread_at (client_at w (client_of request)) request.thread).number (le_refl (thread_at (client_at w (client_of request)) request.thread).number) after_end))
        where
          d : Did
          d = on_task plan (replay_id (client_of request)) request (task.Beats s) now a (client_at w (client_of request))

      pub pending-goes : Needs now.task now.purpose → Answers b (on_pending plan (replay_id (client_of request)) request (Some now) a (client_at w (client_of request)))
      pending-goes needs = whole (on_task plan (replay_id (client_of request)) request now.task now a (client_at w (client_of request))) (task-goes now.task needs open_now.works)

    open-goes : (o : Option Pending) → (thread_at (client_at w (client_of request)) request.thread).pending ≡ o → (thread_at (client_at w (client_of request)) request.thread).number ≡ request.number
        → ((now : Pending) → o ≡ Some now → Needs now.task now.purpose) → Answers b (on_pending plan (replay_id (client_of request)) request o a (client_at w (client_of request)))
    open-goes None is same needs = nothing-goes
    open-goes (Some now) is same needs = pending-goes now is same (needs now refl)

    pub answer-goes : ((now : Pending) → (thread_at (client_at w (client_of request)) request.thread).pending ≡ Some now → Needs now.task now.purpose) → Answers b (answer_client plan (replay_id (client_of request)) request a (client_at w (client_of request)))
    answer-goes needs = cases (Answers b) ((thread_at (client_at w (client_of request)) request.thread).number == request.number) _ _
        (λ e. open-goes (thread_at (client_at w (client_of request)) request.thread).pending refl (same_number (thread_at (client_at w (client_of request)) request.thread).number request.number e) needs) (λ e. nothing-goes)

late-wish : (k d : ℕ) (x : Option ℕ) → deadline_of k x ≡ Some d → (ms : ℕ) × (x ≡ Some ms) × (k + patience + ms ≡ d)
late-wish k d None e = absurd (none_some e)
late-wish k d (Some ms) e = (ms, refl, same_some e)

test_not_less : (a b : ℕ) → not (nat_lt a b) ≡ true → b ≤ a
test_not_less a b h = grind (arith, nat_tests)

-- ticks
module _ (plan : Plan) (w : World) (me : ClientNo) (moved : Moved) (of_event : moved.event ≡ w.shown.number) (of_client : moved.client ≡ me) where
  abbrev pub Ticks : Book → Did → Type 0
  Ticks b d = Mid plan w me (adds w me b d.asked d.ended d.returns) d.client

  still-goes : (b : Book) (c : Client) → Mid plan w me b c → Ticks b (nothing c)
  still-goes b c m = subst (λ (x : Book). Mid plan w me x c) (sym (adds-none w me b)) m

  then-goes : (b : Book) (d : Did) (f : Client → Did) → Ticks (adds w me b d.asked d.ended d.returns) (f d.client) → Ticks b (and_then d f)
  then-goes b d f m = subst (λ (x : Book). Mid plan w me x (f d.client).client) (adds-then w me b d.asked (f d.client).asked d.ended (f d.client).ended d.returns (f d.client).returns) m

  late-goes : (b : Book) (c : Client) (t : ThreadNo) → Contains b.moves moved → c.clock ≡ moved.clock → Mid plan w me b c → Ticks b (end_late t c)
  late-goes b c t ticked clock m = cases (Ticks b) (is_late c.clock (thread_at c t).pending) _ _ (λ late. at (thread_at c t).pending refl late) (λ early. still-goes b c m) where
    r : Return
    r = record { thread = t; number = (thread_at c t).number; ending = ending.Answered (answer.Indeterminate ended_by.Deadline) }

    by_deadline : (made : Called) (o : UserOp) → made.op ≡ o → (d : Option ℕ) → d ≡ deadline_of made.clock (wish_of o) → is_past c.clock d ≡ true → Tells b.ends b.moves (returns_now w me r) made
    by_deadline made o op_is None e late = absurd (no_true late)
    by_deadline made o op_is (Some d) e late = let x = late-wish made.clock d (wish_of o) (sym e) in let l = test_not_less c.clock d late in let k = x.2 in
        past moved x.0 ticked of_event of_client (ap wish_of op_is ∙ x.1) (omega (arith, l, k, clock))

    by_task : (now : Pending) (q : Request) (x : Task) (deadline : Option ℕ) → is_past c.clock deadline ≡ true → Contains b.requests q → q.call ≡ of_thread plan me t (thread_at c t).number → TaskWorks plan b me t q (is_for_itself now.purpose) deadline x
        → Mid plan w me (adds w me b [] [] (record { thread = t; number = (thread_at c t).number; ending = ending.Answered (answer.Indeterminate ended_by.Deadline) } ∷ [])) (with_thread c t (record { number = (thread_at c t).number; pending = None }))
    by_task now q (task.Beats s) deadline late there call_is none = absurd (no_true (sym (ap (is_past c.clock) none) ∙ late))
    by_task now q (task.Calls o) deadline late there call_is works = subst (λ (x : Book). Mid plan w me x (with_thread c t (record { number = (thread_at c t).number; pending = None }))) (sym (adds-return w me b r))
        (returns-here plan w me b c t true (take-up plan w me b c t m) works.0 (is_for_itself now.purpose) works.2 (returns_now w me r) refl refl refl (le_refl (thread_at c t).number) (by_deadline works.0 o works.1 deadline works.5 late)
        (inl (q, (there, (ap (λ (z : Invocation). z.client) call_is, ap (λ (z : Invocation). z.thread) call_is), ap (λ (z : Invocation). z.number) call_is, works.3, m.book.requests_now q there, subst (λ (y : UserOp). MayAsk plan y q.op) (sym works.1) works.4)))
        (thread_at c t).number (le_refl (thread_at c t).number) (λ e. refl))

    at : (o : Option Pending) → (thread_at c t).pending ≡ o → is_late c.clock o ≡ true
        → Mid plan w me (adds w me b [] [] (record { thread = t; number = (thread_at c t).number; ending = ending.Answered (answer.Indeterminate ended_by.Deadline) } ∷ [])) (with_thread c t (record { number = (thread_at c t).number; pending = None }))
    at None is late = absurd (no_true late)
    at (Some now) is late = let x = (m.mine t).open_ok now is in by_task now x.asked now.task now.deadline late x.there x.call_is x.works

  late-clock : (c : Client) (t : ThreadNo) → (end_late t c).client.clock ≡ c.clock
  late-clock c t = either (λ (d : Did). d.client.clock ≡ c.clock) (is_late c.clock (thread_at c t).pending) _ _ refl refl

  each-goes : (ts : List ThreadNo) (b : Book) (c : Client) → Contains b.moves moved → c.clock ≡ moved.clock → Mid plan w me b c → Ticks b (end_each ts c)
  each-goes [] b c ticked clock m = still-goes b c m
  each-goes (t ∷ ts) b c ticked clock m = then-goes b (end_late t c) (end_each ts)
      (each-goes ts (adds w me b (end_late t c).asked (end_late t c).ended (end_late t c).returns) (end_late t c).client ticked (late-clock c t ∙ clock) (late-goes b c t ticked clock m))

  beat-goes : (g : ℕ) (own : OwnSession) (b : Book) (c : Client) → Mid plan w me b c → Ticks b (beat_if_due (replay_id me) g own c)
  beat-goes g own b c m = either (Ticks b) (is_due own c) _ _ (subst (λ (x : Book). Mid plan w me x (beat (replay_id me) g own c).client) (sym (adds-request w me b a))
      (beats-here plan w me b after own_thread true (take-up plan w me b after own_thread (same-threads plan w me b c after refl m)) (begins_now w a) p own.id refl refl refl refl refl refl)) (still-goes b c m)
    where
      after : Client
      after = record c { sessions = put nat_cmp c.sessions g (record { id = own.id; beat = c.clock }) }

      p : Pending
      p = record { group = record { 0 = g }; task = task.Beats own.id; purpose = purpose.ForItself own.id; deadline = None }

      a : Asked
      a = record { group = record { 0 = g }; call = next_request (replay_id me) own_thread c; op = op.Session (session.Beat own.id) }

  beats-go : (rows : Sessions) (b : Book) (c : Client) → Mid plan w me b c → Ticks b (beat_each (replay_id me) rows c)
  beats-go [] b c m = still-goes b c m
  beats-go (row ∷ rows) b c m = then-goes b (beat_if_due (replay_id me) row.0 row.1 c) (beat_each (replay_id me) rows)
      (beats-go rows (adds w me b (beat_if_due (replay_id me) row.0 row.1 c).asked (beat_if_due (replay_id me) row.0 row.1 c).ended (beat_if_due (replay_id me) row.0 row.1 c).returns) (beat_if_due (replay_id me) row.0 row.1 c).client (beat-goes row.0 row.1 b c m))

  pub tick-goes : (ms : ℕ) (b : Book) → Contains b.moves moved → (client_at w me).clock + ms ≡ moved.clock → Mid plan w me b (client_at w me) → Ticks b (tick_client (replay_id me) ms (client_at w me))
  tick-goes ms b ticked clock m = from (record (client_at w me) { clock = (client_at w me).clock + ms }) clock (same-threads plan w me b (client_at w me) (record (client_at w me) { clock = (client_at w me).clock + ms }) refl m) where
    from : (c : Client) → c.clock ≡ moved.clock → Mid plan w me b c → Ticks b (and_then (end_each user_threads c) (beats (replay_id me)))
    from c at n = then-goes b (end_each user_threads c) (beats (replay_id me))
        (beats-go (end_each user_threads c).client.sessions (adds w me b (end_each user_threads c).asked (end_each user_threads c).ended (end_each user_threads c).returns) (end_each user_threads c).client (each-goes user_threads b c ticked at n))

-- a call that goes on ends no request
module _ (plan : Plan) (me : ClientNo) (call : Call) (c : Client) where
  session-ends : (so : Option ℕ) → (in_session plan (replay_id me) call so c).ended ≡ []
  session-ends None = refl
  session-ends (Some s) = refl

  closing-ends : (so : Option ℕ) → (closing plan (replay_id me) call so c).ended ≡ []
  closing-ends None = refl
  closing-ends (Some s) = refl

  need-ends : (need : Need) → (by_need plan (replay_id me) need call c).ended ≡ []
  need-ends Nothing = refl
  need-ends (HoldingSession name) = session-ends (holding_session call name c)
  need-ends ItsSession = session-ends (session_in_group c call.group)
  need-ends SessionToClose = closing-ends (session_in_group c call.group)
  need-ends (Round name) = refl

  pub go-ends : (go_on plan (replay_id me) call c).ended ≡ []
  go-ends = need-ends (need_of call.op)
