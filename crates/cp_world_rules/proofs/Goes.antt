-- An answer that lets its call go on is followed by the request for the call itself.
use Rattle.std.proofs.Common.{◌≡◌, ℕ, ◌+◌, ◌<◌, ◌≤◌, ◌⊎◌, inl, inr, Bool, true, false, List, [], ◌∷◌, ◌++◌, Some, None, Option, refl, sym, subst, ap, ◌∙◌, arith, map, le_trans}
use Rattle.std.specs.Prelude.{Contains, slice_get, ◌==◌, unsigned_abs}
use Rattle.std.specs.Ordering.{nat_cmp}
use Rattle.std.proofs.lemmas.List.Elements.{Contains-append_cases, Contains-append_left, Contains-append_right}
use Rattle.cp_base.specs.Identifiers.{replay_id}
use Rattle.cp_base.specs.declared.identifier.ClientId.{ClientId}
use Rattle.cp_base.specs.declared.identifier.ClientNo.{ClientNo}
use Rattle.cp_base.specs.declared.identifier.GroupId.{GroupId}
use Rattle.cp_base.specs.declared.identifier.Invocation.{Invocation}
use Rattle.cp_base.specs.declared.identifier.ThreadNo.{ThreadNo}
use Rattle.cp_base.proofs.Tests.{no_false, no_true, none_some, same_number, same_some}
use Rattle.cp_answers.specs.declared.answer.Answer.{Answer}
use Rattle.cp_answers.specs.declared.answer.Answer.TheVariants as answer
use Rattle.cp_object_ops.specs.declared.latch_op.LatchOp.TheVariants as latch
use Rattle.cp_ops.specs.declared.op.Op.{Op}
use Rattle.cp_ops.specs.declared.op.Op.TheVariants as op
use Rattle.cp_ops.specs.declared.session_op.SessionOp.TheVariants as session
use Rattle.cp_events.specs.declared.event.Event.{Event}
use Rattle.cp_events.specs.declared.plan.Plan.{Plan}
use Rattle.cp_events.specs.declared.user_op.UserOp.{UserOp}
use Rattle.cp_group_state.specs.Rows.{find}
use Rattle.cp_group_state.proofs.Keyed.{find-put_same, number_key}
use Rattle.cp_group_state.proofs.Walk.{cases}
use Rattle.cp_group_causes.proofs.Lists.{at-head, map-in, mapped, no-element, one-is}
use Rattle.cp_client_rules.specs.declared.rows.HoldRecord.{HoldRecord}
use Rattle.cp_client_rules.specs.declared.rows.OwnSession.{OwnSession}
use Rattle.cp_client_rules.specs.declared.rows.Pending.{Pending}
use Rattle.cp_client_rules.specs.declared.rows.Purpose.{Purpose}
use Rattle.cp_client_rules.specs.declared.rows.Purpose.TheVariants as purpose
use Rattle.cp_client_rules.specs.declared.rows.Task.{Task}
use Rattle.cp_client_rules.specs.declared.rows.Task.TheVariants as task
use Rattle.cp_client_rules.specs.Answers.{answer_client, call_in, on_pending, on_task, prepared}
use Rattle.cp_client_rules.specs.Asking.{Need, Nothing, HoldingSession, ItsSession, SessionToClose, Round, need_of, op_of}
use Rattle.cp_client_rules.specs.Calls.{Call, by_need, call_client, holding_session, in_session, or_own}
use Rattle.cp_client_rules.specs.Clients.{Asked, Client, Did, Sessions, id_of, next_request, nothing, session_in_group, thread_at}
use Rattle.cp_client_rules.specs.Sessions.{has_session, is_session, with_session}
use Rattle.cp_client_rules.specs.Ticks.{beat_each, beat_if_due, end_each, end_late, is_due, is_late, tick_client, user_threads}
use Rattle.cp_world_rules.specs.Rows.{Called, End, Request}
use Rattle.cp_world_rules.specs.Answers.{lets_go_on}
use Rattle.cp_world_rules.specs.Requests.{IsForItself, needs_session}
use Rattle.cp_world_rules.specs.Laws.{is_for_itself}
use Rattle.cp_world_rules.specs.World.{World, begins_now, client_at, client_of, close, commit, ends_now, ignore, new_world, note, start, world_after}
use Rattle.cp_world_rules.proofs.Lists.{get-some}
use Rattle.cp_world_rules.proofs.Ledgers.{Knows, PurposeOk, ledger_of}
use Rattle.cp_world_rules.proofs.GroupLaws.{prepares}
use Rattle.cp_world_rules.proofs.Desks.{IsLast, IsOpen, Owns, TaskWorks, Works, last-on, of_thread}
use Rattle.cp_world_rules.proofs.Threads.{book_of}
use Rattle.cp_world_rules.proofs.Working.{go-ends, itself-plain}
use Rattle.cp_world_rules.proofs.Desked.{Desked}
use Rattle.cp_world_rules.proofs.Good.{Given as GivenTo, Good}
use Rattle.cp_world_rules.proofs.Served.{IsServed, all-served}

-- The request for the call itself, of the call for which the request was that the answer ended.
pub record GoneOn (plan : Plan) (w : World) (q : Request) (e : End) : Type 0 where
  pub call : Called
  pub of_call : Owns call.client call.thread q.call
  pub asked : Request
  pub began : Contains w.requests asked
  pub here : asked.event ≡ e.event
  pub owned : Owns call.client call.thread asked.call
  pub itself : IsForItself plan call.op asked.op
  pub last_then : IsLast w.calls call.client call.thread q.event call
  pub last_here : IsLast w.calls call.client call.thread e.event call

abbrev pub AllGoneOn : Plan → World → Type 0
AllGoneOn plan w = (q : Request) (e : End) → Contains w.requests q → Contains w.ends e → q.call ≡ e.call → lets_go_on q.op e.answer ≡ true → (q.event ≤ e.event) × GoneOn plan w q e

-- what a call asks once it has what it needs
module _ (plan : Plan) (me : ClientNo) (call : Call) (c : Client) where
  abbrev AsksItself : Did → Type 0
  AsksItself d = (s : ℕ) × (round : ℕ) × Contains d.asked (record { group = call.group; call = next_request (replay_id me) call.thread c; op = op_of plan call.op s round })

  session-asks : (so : Option ℕ) (s : ℕ) → so ≡ Some s → AsksItself (in_session plan (replay_id me) call so c)
  session-asks None s e = absurd (none_some e)
  session-asks (Some t) s e = (t, 0, at-head _ [])

  or-own : (h : Option HoldRecord) (so : Option ℕ) (s : ℕ) → so ≡ Some s → (t : ℕ) × (or_own h so ≡ Some t)
  or-own None so s e = (s, e)
  or-own (Some h) so s e = (h.session, refl)

  need-asks : (need : Need) (s : ℕ) → needs_session need ≡ true → session_in_group c call.group ≡ Some s → AsksItself (by_need plan (replay_id me) need call c)
  need-asks Nothing s n e = absurd (no_false n)
  need-asks (HoldingSession name) s n e = let x = or-own _ (session_in_group c call.group) s e in session-asks (holding_session call name c) x.0 x.1
  need-asks ItsSession s n e = session-asks (session_in_group c call.group) s e
  need-asks SessionToClose s n e = absurd (no_false n)
  need-asks (Round name) s n e = absurd (no_false n)

-- the session that a client was told is its own
is-own : (s : ℕ) (o : Option OwnSession) → is_session s o ≡ true → id_of o ≡ Some s
is-own s None e = absurd (no_false e)
is-own s (Some own) e = ap Some (same_number own.id s e)

has-told : (g : GroupId) (s : ℕ) (c : Client) → session_in_group (with_session g s c) g ≡ Some s
has-told g s c = cases (λ (x : Client). session_in_group x g ≡ Some s) (has_session g s c) _ _ (λ e. is-own s (find nat_cmp c.sessions g.0) e) (λ e. ap id_of (find-put_same nat_cmp number_key c.sessions g.0 (record { id = s; beat = c.clock })))

-- a tick ends no request
late-ends : (t : ThreadNo) (c : Client) → (end_late t c).ended ≡ []
late-ends t c = cases (λ (d : Did). d.ended ≡ []) (is_late c.clock (thread_at c t).pending) _ _ (λ e. refl) (λ e. refl)

each-ends : (ts : List ThreadNo) (c : Client) → (end_each ts c).ended ≡ []
each-ends [] c = refl
each-ends (t ∷ ts) c = rw (late-ends t c, each-ends ts (end_late t c).client)

due-ends : (me : ClientId) (g : ℕ) (own : OwnSession) (c : Client) → (beat_if_due me g own c).ended ≡ []
due-ends me g own c = cases (λ (d : Did). d.ended ≡ []) (is_due own c) _ _ (λ e. refl) (λ e. refl)

beats-ends : (me : ClientId) (rows : Sessions) (c : Client) → (beat_each me rows c).ended ≡ []
beats-ends me [] c = refl
beats-ends me (row ∷ rows) c = rw (due-ends me row.0 row.1 c, beats-ends me rows (beat_if_due me row.0 row.1 c).client)

pub tick-ends : (me : ClientNo) (ms : ℕ) (c : Client) → (tick_client (replay_id me) ms c).ended ≡ []
tick-ends me ms c = let e = each-ends user_threads (record c { clock = c.clock + ms }) in
    let f = beats-ends (replay_id me) (end_each user_threads (record c { clock = c.clock + ms })).client.sessions (end_each user_threads (record c { clock = c.clock + ms })).client in rw (e, f)

-- what goes on nowhere
plain-stops : (o : Op) (x : Answer) → prepares o ≡ false → lets_go_on o x ≡ false
plain-stops (op.Session session.Open) x e = absurd (no_false (sym e))
plain-stops (op.Latch name latch.Round) x e = absurd (no_false (sym e))
plain-stops o x e = refl

module _ (plan : Plan) where
  gone-more : (w v : World) (q : Request) (e : End) → v.calls ≡ w.calls → ((r : Request) → Contains w.requests r → Contains v.requests r) → GoneOn plan w q e → GoneOn plan v q e
  gone-more w v q e calls more h = record {
    call = h.call;
    of_call = h.of_call;
    asked = h.asked;
    began = more h.asked h.began;
    here = h.here;
    owned = h.owned;
    itself = h.itself;
    last_then = subst (λ rows. IsLast rows h.call.client h.call.thread q.event h.call) (sym calls) h.last_then;
    last_here = subst (λ rows. IsLast rows h.call.client h.call.thread e.event h.call) (sym calls) h.last_here;
  }

  -- a step
  module _ (w : World) (me : ClientNo) (d : Did) (good : Good plan w) (after : Good plan (note me d w)) (h : AllGoneOn plan w)
      (new : (x : Invocation × Answer) (q : Request) → Contains d.ended x → Contains w.requests q → q.call ≡ x.0 → lets_go_on q.op x.1 ≡ true → (q.event ≤ w.shown.number) × GoneOn plan (note me d w) q (ends_now w x))
      (asked : (x : Invocation × Answer) → Contains d.ended x → (q : Request) × Contains w.requests q × (q.call ≡ x.0))
    where
      one-request : (r q : Request) → Contains (w.requests ++ map (begins_now w) d.asked) r → Contains (w.requests ++ map (begins_now w) d.asked) q → r.call ≡ q.call → r ≡ q
      one-request r q in_r in_q e = let j = get-some (w.requests ++ map (begins_now w) d.asked) r in_r in let k = get-some (w.requests ++ map (begins_now w) d.asked) q in_q in
          same_some (sym j.1 ∙ (ap (slice_get (w.requests ++ map (begins_now w) d.asked)) (after.distinct j.0 k.0 r q j.1 k.1 e) ∙ k.1))

      older : (q : Request) (call : Invocation) → (r : Request) × Contains w.requests r × (r.call ≡ call) → Contains (w.requests ++ map (begins_now w) d.asked) q → q.call ≡ call → Contains w.requests q
      older q call r there same = subst (Contains w.requests) (one-request r.0 q (Contains-append_left w.requests (map (begins_now w) d.asked) r.0 r.1) there (r.2 ∙ sym same)) r.1

      at : (q : Request) (e : End) → Contains (w.requests ++ map (begins_now w) d.asked) q → Contains w.ends e ⊎ Contains (map (ends_now w) d.ended) e → q.call ≡ e.call → lets_go_on q.op e.answer ≡ true → (q.event ≤ e.event) × GoneOn plan (note me d w) q e
      at q e in_q (inl there) same goes = let a = good.ends e there in
          let x = h q e (older q e.call (a.entered.request, a.entered.begun, a.entered.mine) in_q same) there same goes in
          (x.0, gone-more w (note me d w) q e refl (λ r k. Contains-append_left w.requests (map (begins_now w) d.asked) r k) x.1)
      at q e in_q (inr there) same goes = let y = mapped (ends_now w) d.ended e there in
          subst (λ (z : End). (q.event ≤ z.event) × GoneOn plan (note me d w) q z) (sym y.2)
          (new y.0 q y.1 (older q y.0.0 (asked y.0 y.1) in_q (same ∙ ap (λ (z : End). z.call) y.2)) (same ∙ ap (λ (z : End). z.call) y.2) (ap (λ (z : End). lets_go_on q.op z.answer) (sym y.2) ∙ goes))

      note-gone : AllGoneOn plan (note me d w)
      note-gone q e in_q in_e same goes = at q e in_q (Contains-append_cases w.ends (map (ends_now w) d.ended) e in_e) same goes

  quiet-gone : (w : World) (me : ClientNo) (d : Did) → Good plan w → Good plan (note me d w) → AllGoneOn plan w → d.ended ≡ [] → AllGoneOn plan (note me d w)
  quiet-gone w me d good after h none = note-gone w me d good after h (λ x q there. absurd (no-element x (subst (λ rows. Contains rows x) none there))) (λ x there. absurd (no-element x (subst (λ rows. Contains rows x) none there)))

  -- an answer
  module _ (w : World) (request : Invocation) (a : Answer) (good : Good plan w) (desked : Desked plan w) (given : GivenTo w request a) (h : AllGoneOn plan w) where
    abbrev c : Client
    c = client_at w (client_of request)

    abbrev mine : Did → Did
    mine d = record d { ended = (request, a) ∷ [] }

    of-client : request.client ≡ replay_id (client_of request)
    of-client = let e = given.answered.entered in subst (λ (x : Invocation). x.client ≡ replay_id (client_of x)) e.mine (good.clients_are e.request e.begun)

    same-request : (r q : Request) → Contains w.requests r → Contains w.requests q → r.call ≡ q.call → r ≡ q
    same-request r q in_r in_q e = let j = get-some w.requests r in_r in let k = get-some w.requests q in_q in
        same_some (sym j.1 ∙ (ap (slice_get w.requests) (good.distinct j.0 k.0 r q j.1 k.1 e) ∙ k.1))

    asked-for : (x : Invocation × Answer) → Contains ((request, a) ∷ []) x → (q : Request) × Contains w.requests q × (q.call ≡ x.0)
    asked-for x there = (given.answered.entered.request, given.answered.entered.begun, given.answered.entered.mine ∙ ap (λ (z : Invocation × Answer). z.0) (sym (one-is (request, a) x there)))

    -- the request that is open, and its call
    module _ (now : Pending) (same : (thread_at c request.thread).number ≡ request.number) (here : IsOpen plan (book_of w) (client_of request) request.thread (thread_at c request.thread).number now) where
      the-call : of_thread plan (client_of request) request.thread (thread_at c request.thread).number ≡ request
      the-call = λ j. record { client = sym of-client j; thread = request.thread; number = same j }

      same-op : (q : Request) (o : Op) → Contains w.requests q → q.call ≡ request → Knows (ledger_of w) request o → q.op ≡ o
      same-op q o there mine_is k = ap (λ (z : Request). z.op) (same-request q k.0 there k.1 (mine_is ∙ sym k.2)) ∙ k.3

      abbrev Result : Did → Request → Type 0
      Result d q = (q.event ≤ w.shown.number) × GoneOn plan (note (client_of request) (mine d) w) q (ends_now w (request, a))

      -- a step that asks for the call itself
      module _ (o : UserOp) (made : Called) (op_is : made.op ≡ o) (works : Works plan (book_of w) (client_of request) request.thread made false) (began : made.event ≤ here.asked.event) where
        abbrev Asks : Did → Type 0
        Asks d = (s : ℕ) × (round : ℕ) × (x : Asked) × Contains d.asked x × (x.op ≡ op_of plan o s round) × (x.call.client ≡ replay_id (client_of request)) × (x.call.thread ≡ request.thread)

        last-by : (number : ℕ) → made.event ≤ number → IsLast w.calls made.client made.thread number made
        last-by number l = record { began = works.began; client_is = refl; thread_is = refl; by_then = l; latest = λ d there mine_is thread by. works.latest d there (mine_is ∙ works.client_is) (thread ∙ works.thread_is) }

        asks-gone : (d : Did) (q : Request) → Asks d → Contains w.requests q → q.call ≡ request → Result d q
        asks-gone d q x there is_request = let l = desked.book.requests_now q there in
            let e : here.asked ≡ q = same-request here.asked q here.there there (here.call_is ∙ (the-call ∙ sym is_request)) in
            let b : made.event ≤ q.event = subst (λ (z : Request). made.event ≤ z.event) e began in (
              l,
              record {
                call = made;
                of_call = (ap (λ (z : Invocation). z.client) is_request ∙ (of-client ∙ ap replay_id (sym works.client_is)), ap (λ (z : Invocation). z.thread) is_request ∙ sym works.thread_is);
                asked = begins_now w x.2;
                began = Contains-append_right w.requests (map (begins_now w) d.asked) (begins_now w x.2) (map-in (begins_now w) d.asked x.2 x.3);
                here = refl;
                owned = (x.5 ∙ ap replay_id (sym works.client_is), x.6 ∙ sym works.thread_is);
                itself = (x.0, x.1, x.4 ∙ ap (λ y. op_of plan y x.0 x.1) (sym op_is));
                last_then = last-by q.event b;
                last_here = last-by w.shown.number (le_trans b l);
              },
            )

      abbrev goes_on : Purpose → Answer → Bool
      goes_on purpose.ForSession (answer.Session s) = true
      goes_on purpose.ForRound (answer.Value r) = true
      goes_on p x = false

      session-final : (x : Answer) → goes_on purpose.ForSession x ≡ false → lets_go_on (op.Session session.Open) x ≡ false
      session-final (answer.Session s) e = absurd (no_false (sym e))
      session-final x e = refl

      round-final : (name : List ℕ) (x : Answer) → goes_on purpose.ForRound x ≡ false → lets_go_on (op.Latch name latch.Round) x ≡ false
      round-final name (answer.Value r) e = absurd (no_false (sym e))
      round-final name x e = refl

      stops : (o : UserOp) (p : Purpose) (q : Request) → PurposeOk plan (ledger_of w) (client_of request) request (task.Calls o) p → goes_on p a ≡ false → Contains w.requests q → q.call ≡ request → lets_go_on q.op a ≡ false
      stops o purpose.ForSession q ok e there mine_is = subst (λ y. lets_go_on y a ≡ false) (sym (same-op q (op.Session session.Open) there mine_is ok.1)) (session-final a e)
      stops o purpose.ForRound q ok e there mine_is = subst (λ y. lets_go_on y a ≡ false) (sym (same-op q (op.Latch ok.0.name latch.Round) there mine_is ok.2)) (round-final ok.0.name a e)
      stops o (purpose.ForItself s) q ok e there mine_is = subst (λ y. lets_go_on y a ≡ false) (sym (same-op q (op_of plan o s ok.0.0) there mine_is ok.0.1)) (plain-stops (op_of plan o s ok.0.0) a (itself-plain plan o s ok.0.0))

      prepared-gone : (o : UserOp) (p : Purpose) (y : Answer) → a ≡ y → TaskWorks plan (book_of w) (client_of request) request.thread here.asked (is_for_itself p) now.deadline (task.Calls o)
          → PurposeOk plan (ledger_of w) (client_of request) request (task.Calls o) p → (q : Request) → Contains w.requests q → q.call ≡ request → lets_go_on q.op a ≡ true → Result (prepared plan (replay_id (client_of request)) request.number (call_in request now o) p y c) q
      prepared-gone o purpose.ForSession (answer.Session s) is works ok q there mine_is goes =
          let x = need-asks plan (client_of request) (call_in request now o) (with_session now.group s c) (need_of o) s ok.0 (has-told now.group s c) in
          asks-gone o works.0 works.1 works.2 works.3 (prepared plan (replay_id (client_of request)) request.number (call_in request now o) purpose.ForSession (answer.Session s) c) q (x.0, x.1, _, x.2, refl, refl, refl) there mine_is
      prepared-gone o purpose.ForRound (answer.Value r) is works ok q there mine_is goes =
          asks-gone o works.0 works.1 works.2 works.3 (prepared plan (replay_id (client_of request)) request.number (call_in request now o) purpose.ForRound (answer.Value r) c) q (0, unsigned_abs r, _, at-head _ [], refl, refl, refl) there mine_is
      prepared-gone o p y is works ok q there mine_is goes = absurd (no_true (sym goes ∙ stops o p q ok (subst (λ z. goes_on p z ≡ false) (sym is) refl) there mine_is))

      task-gone : (t : Task) → TaskWorks plan (book_of w) (client_of request) request.thread here.asked (is_for_itself now.purpose) now.deadline t → PurposeOk plan (ledger_of w) (client_of request) request t now.purpose
          → (q : Request) → Contains w.requests q → q.call ≡ request → lets_go_on q.op a ≡ true → Result (on_task plan (replay_id (client_of request)) request t now a c) q
      task-gone (task.Calls o) works ok q there mine_is goes = prepared-gone o now.purpose a refl works ok q there mine_is goes
      task-gone (task.Beats s) works ok q there mine_is goes = absurd (no_true (sym goes ∙ ap (λ y. lets_go_on y a) (same-op q (op.Session (session.Beat s)) there mine_is ok)))

      pending-gone : PurposeOk plan (ledger_of w) (client_of request) request now.task now.purpose → (x : Invocation × Answer) (q : Request) → Contains ((request, a) ∷ []) x → Contains w.requests q → q.call ≡ x.0 → lets_go_on q.op x.1 ≡ true
          → (q.event ≤ w.shown.number) × GoneOn plan (note (client_of request) (mine (on_task plan (replay_id (client_of request)) request now.task now a c)) w) q (ends_now w x)
      pending-gone ok x q there in_q mine_is goes = let e = one-is (request, a) x there in
          subst (λ (z : Invocation × Answer). (q.event ≤ w.shown.number) × GoneOn plan (note (client_of request) (mine (on_task plan (replay_id (client_of request)) request now.task now a c)) w) q (ends_now w z)) (sym e)
          (task-gone now.task here.works ok q in_q (mine_is ∙ ap (λ (z : Invocation × Answer). z.0) e) (ap (λ (z : Invocation × Answer). lets_go_on q.op z.1) (sym e) ∙ goes))

    abbrev Kept : Did → Type 0
    Kept d = Good plan (note (client_of request) d w) → AllGoneOn plan (note (client_of request) d w)

    open-gone : (now : Option Pending) → (thread_at c request.thread).pending ≡ now → (thread_at c request.thread).number ≡ request.number → Kept (on_pending plan (replay_id (client_of request)) request now a c)
    open-gone None is same after = quiet-gone w (client_of request) (nothing c) good after h refl
    open-gone (Some now) is same after = let here = (desked.threads (client_of request) request.thread).open_ok now is in
        note-gone w (client_of request) (mine (on_task plan (replay_id (client_of request)) request now.task now a c)) good after h
        (pending-gone now same here (subst (λ call. PurposeOk plan (ledger_of w) (client_of request) call now.task now.purpose) (the-call now same here) ((good.clients (client_of request)).pending request.thread now is).for_purpose))
        asked-for

    answer-gone : Kept (answer_client plan (replay_id (client_of request)) request a (client_at w (client_of request)))
    answer-gone = cases Kept ((thread_at c request.thread).number == request.number) _ _ (λ e. open-gone (thread_at c request.thread).pending refl (same_number (thread_at c request.thread).number request.number e)) (λ e after. quiet-gone w (client_of request) (nothing c) good after h refl)

  gone-served : IsServed plan (AllGoneOn plan) (AllGoneOn plan)
  gone-served = record {
    calls = λ me t o w good after h. quiet-gone w me (call_client plan (replay_id me) t o (client_at w me)) good after h (go-ends plan me _ (client_at w me));
    ticks = λ me ms w good after h. quiet-gone w me (tick_client (replay_id me) ms (client_at w me)) good after h (tick-ends me ms (client_at w me));
    answers = λ request a w good desked given after h. answer-gone w request a good desked given h after;
    commits = λ a w h q e in_q in_e same goes. let x = h q e in_q in_e same goes in (x.0, gone-more w (commit a w) q e refl (λ r k. k) x.1);
    empties = λ w h q e in_q in_e same goes. let x = h q e in_q in_e same goes in (x.0, gone-more w (record w { queue = [] }) q e refl (λ r k. k) x.1);
    ignores = λ cause w h q e in_q in_e same goes. let x = h q e in_q in_e same goes in (x.0, gone-more w (ignore cause w) q e refl (λ r k. k) x.1);
    called = λ c w earlier h q e in_q in_e same goes. let x = h q e in_q in_e same goes in (x.0, called-gone c w q e (earlier e in_e) x.0 x.1);
    moved = λ m w h q e in_q in_e same goes. let x = h q e in_q in_e same goes in (x.0, gone-more w (record w { moves = w.moves ++ m ∷ [] }) q e refl (λ r k. k) x.1);
    starts = λ ev w l h q e in_q in_e same goes. let x = h q e in_q in_e same goes in (x.0, gone-more w (start ev w) q e refl (λ r k. k) x.1);
    closes = λ w h q e in_q in_e same goes. let x = h q e in_q in_e same goes in (x.0, gone-more w (close w) q e refl (λ r k. k) x.1);
  }
    where
      called-gone : (c : Called) (w : World) (q : Request) (e : End) → e.event < c.event → q.event ≤ e.event → GoneOn plan w q e → GoneOn plan (record w { calls = w.calls ++ c ∷ [] }) q e
      called-gone c w q e l k x = record {
        call = x.call;
        of_call = x.of_call;
        asked = x.asked;
        began = x.began;
        here = x.here;
        owned = x.owned;
        itself = x.itself;
        last_then = last-on w.calls c x.call.client x.call.thread q.event x.call (omega (arith, l, k)) x.last_then;
        last_here = last-on w.calls c x.call.client x.call.thread e.event x.call l x.last_here;
      }

  pub all-gone-on : (events : List Event) → AllGoneOn plan (world_after plan new_world events)
  all-gone-on events = all-served plan (AllGoneOn plan) (AllGoneOn plan) gone-served events (λ q e there. absurd (no-element q there))
