-- A countdown names the round that its call was told, in the same event.
use Rattle.std.proofs.Common.{◌≡◌, ℕ, ◌+◌, ◌⊎◌, inl, inr, Bool, true, false, List, [], ◌∷◌, ◌++◌, Some, None, Option, refl, sym, subst, ap, ◌∙◌, map}
use Rattle.std.specs.Prelude.{Contains, slice_get, ◌==◌, ℤ}
use Rattle.std.proofs.lemmas.List.Elements.{Contains-append_cases, Contains-append_left, Contains-append_right}
use Rattle.cp_base.specs.Identifiers.{replay_id}
use Rattle.cp_base.specs.declared.identifier.ClientId.{ClientId}
use Rattle.cp_base.specs.declared.identifier.ClientNo.{ClientNo}
use Rattle.cp_base.specs.declared.identifier.Invocation.{Invocation}
use Rattle.cp_base.specs.declared.identifier.ThreadNo.{ThreadNo}
use Rattle.cp_base.proofs.Tests.{no_true, same_number, same_some}
use Rattle.cp_answers.specs.declared.answer.Answer.{Answer}
use Rattle.cp_answers.specs.declared.answer.Answer.TheVariants as answer
use Rattle.cp_object_ops.specs.declared.latch_op.LatchOp.TheVariants as latch
use Rattle.cp_ops.specs.declared.op.Op.{Op}
use Rattle.cp_ops.specs.declared.op.Op.TheVariants as op
use Rattle.cp_events.specs.declared.event.Event.{Event}
use Rattle.cp_events.specs.declared.object.Object.{Object}
use Rattle.cp_events.specs.declared.plan.Plan.{Plan}
use Rattle.cp_events.specs.declared.user_op.LatchCall.TheVariants as latch_call
use Rattle.cp_events.specs.declared.user_op.UserOp.{UserOp}
use Rattle.cp_events.specs.declared.user_op.UserOp.TheVariants as user
use Rattle.cp_group_state.proofs.Walk.{cases}
use Rattle.cp_group_causes.proofs.Lists.{at-head, mapped, no-element, one-is}
use Rattle.cp_client_rules.specs.declared.rows.OwnSession.{OwnSession}
use Rattle.cp_client_rules.specs.declared.rows.Pending.{Pending}
use Rattle.cp_client_rules.specs.declared.rows.Purpose.{Purpose}
use Rattle.cp_client_rules.specs.declared.rows.Purpose.TheVariants as purpose
use Rattle.cp_client_rules.specs.declared.rows.Task.{Task}
use Rattle.cp_client_rules.specs.declared.rows.Task.TheVariants as task
use Rattle.cp_client_rules.specs.Answers.{answer_client, call_in, on_pending, on_task, prepared}
use Rattle.cp_client_rules.specs.Asking.{Need, Nothing, HoldingSession, ItsSession, SessionToClose, Round, group_of, need_of, op_of, wish_of}
use Rattle.cp_client_rules.specs.Calls.{Call, by_need, call_client, closing, deadline_of, holding_session, in_session}
use Rattle.cp_client_rules.specs.Clients.{Asked, Client, Did, Sessions, nothing, session_in_group, thread_at}
use Rattle.cp_client_rules.specs.Sessions.{with_session}
use Rattle.cp_client_rules.specs.Ticks.{beat_each, beat_if_due, end_each, end_late, is_due, is_late, tick_client, user_threads}
use Rattle.cp_world_rules.specs.Rows.{End, Request}
use Rattle.cp_world_rules.specs.Requests.{TellsRound}
use Rattle.cp_world_rules.specs.World.{World, begins_now, client_at, client_of, ends_now, new_world, note, world_after}
use Rattle.cp_world_rules.proofs.Lists.{get-some}
use Rattle.cp_world_rules.proofs.Ledgers.{Knows, PurposeOk, ledger_of}
use Rattle.cp_world_rules.proofs.Good.{Given as GivenTo, Good}
use Rattle.cp_world_rules.proofs.Served.{IsServed, all-served}

abbrev pub AllCounted : World → Type 0
AllCounted w = (q : Request) (name : List ℕ) (round : ℕ) → Contains w.requests q → q.op ≡ op.Latch name (latch.Down round) → TellsRound w.requests w.ends q name round

-- operations that count nothing down
abbrev is_down : Op → Bool
is_down (op.Latch name (latch.Down round)) = true
is_down o = false

abbrev needs_round : Need → Bool
needs_round (Round name) = true
needs_round need = false

not-down : (plan : Plan) (o : UserOp) (s round : ℕ) → needs_round (need_of o) ≡ false → is_down (op_of plan o s round) ≡ false
not-down plan (user.Latch object latch_call.Down) s round e = absurd (no_true e)
not-down plan (user.Latch object (latch_call.Set n)) s round e = refl
not-down plan (user.Latch object latch_call.Count) s round e = refl
not-down plan (user.Latch object (latch_call.Await ms)) s round e = refl
not-down plan (user.Long object o) s round e = refl
not-down plan (user.Ref object o) s round e = refl
not-down plan (user.Lock object o) s round e = refl
not-down plan (user.Sem object o) s round e = refl
not-down plan (user.Jsem object o) s round e = refl
not-down plan (user.Map object o) s round e = refl
not-down plan (user.Destroy which object) s round e = refl
not-down plan (user.CloseSession name) s round e = refl
not-down plan (user.Group o) s round e = refl
not-down plan (user.Member o) s round e = refl
not-down plan (user.Change o) s round e = refl

-- no request of a step counts down
abbrev NoDown : List Asked → Type 0
NoDown asked = (x : Asked) → Contains asked x → is_down x.op ≡ false

none-down : NoDown []
none-down x there = absurd (no-element x there)

one-down : (x : Asked) → is_down x.op ≡ false → NoDown (x ∷ [])
one-down x e y there = ap (λ (z : Asked). is_down z.op) (one-is x y there) ∙ e

both-down : (xs ys : List Asked) → NoDown xs → NoDown ys → NoDown (xs ++ ys)
both-down xs ys f g x there = at (Contains-append_cases xs ys x there) where
  at : Contains xs x ⊎ Contains ys x → is_down x.op ≡ false
  at (inl t) = f x t
  at (inr t) = g x t

module _ (plan : Plan) (me : ClientId) (call : Call) (c : Client) where
  session-down : (so : Option ℕ) → needs_round (need_of call.op) ≡ false → NoDown (in_session plan me call so c).asked
  session-down None e = one-down _ refl
  session-down (Some s) e = one-down _ (not-down plan call.op s 0 e)

  closing-down : (so : Option ℕ) → needs_round (need_of call.op) ≡ false → NoDown (closing plan me call so c).asked
  closing-down None e = none-down
  closing-down (Some s) e = one-down _ (not-down plan call.op s 0 e)

  need-down : (need : Need) → need_of call.op ≡ need → NoDown (by_need plan me need call c).asked
  need-down Nothing is = one-down _ (not-down plan call.op 0 0 (ap needs_round is))
  need-down (HoldingSession name) is = session-down (holding_session call name c) (ap needs_round is)
  need-down ItsSession is = session-down (session_in_group c call.group) (ap needs_round is)
  need-down SessionToClose is = closing-down (session_in_group c call.group) (ap needs_round is)
  need-down (Round name) is = one-down _ refl

-- ticks ask beats alone
late-asks : (t : ThreadNo) (c : Client) → (end_late t c).asked ≡ []
late-asks t c = cases (λ (d : Did). d.asked ≡ []) (is_late c.clock (thread_at c t).pending) _ _ (λ e. refl) (λ e. refl)

each-asks : (ts : List ThreadNo) (c : Client) → (end_each ts c).asked ≡ []
each-asks [] c = refl
each-asks (t ∷ ts) c = rw (late-asks t c, each-asks ts (end_late t c).client)

due-down : (me : ClientId) (g : ℕ) (own : OwnSession) (c : Client) → NoDown (beat_if_due me g own c).asked
due-down me g own c = cases (λ (d : Did). NoDown d.asked) (is_due own c) _ _ (λ e. one-down _ refl) (λ e. none-down)

beats-down : (me : ClientId) (rows : Sessions) (c : Client) → NoDown (beat_each me rows c).asked
beats-down me [] c = none-down
beats-down me (row ∷ rows) c = both-down (beat_if_due me row.0 row.1 c).asked (beat_each me rows (beat_if_due me row.0 row.1 c).client).asked (due-down me row.0 row.1 c) (beats-down me rows (beat_if_due me row.0 row.1 c).client)

tick-down : (me : ClientNo) (ms : ℕ) (c : Client) → NoDown (tick_client (replay_id me) ms c).asked
tick-down me ms c = both-down (end_each user_threads (record c { clock = c.clock + ms })).asked (beat_each (replay_id me) (end_each user_threads (record c { clock = c.clock + ms })).client.sessions (end_each user_threads (record c { clock = c.clock + ms })).client).asked
    (subst NoDown (sym (each-asks user_threads (record c { clock = c.clock + ms }))) none-down) (beats-down (replay_id me) (end_each user_threads (record c { clock = c.clock + ms })).client.sessions (end_each user_threads (record c { clock = c.clock + ms })).client)

-- rows that are added take nothing away
tells-more : (rs more : List Request) (es fresh : List End) (q : Request) (name : List ℕ) (round : ℕ) → TellsRound rs es q name round → TellsRound (rs ++ more) (es ++ fresh) q name round
tells-more rs more es fresh q name round t = record { asked = t.asked; began = Contains-append_left rs more t.asked t.began; end = t.end; ended = Contains-append_left es fresh t.end t.ended; of_request = t.of_request; by_client = t.by_client; by_thread = t.by_thread; here = t.here; asks = t.asks; value = t.value; says = t.says; is_round = t.is_round }

module _ (w : World) (me : ClientNo) (d : Did) (h : AllCounted w) (new : (x : Asked) → Contains d.asked x → (name : List ℕ) (round : ℕ) → x.op ≡ op.Latch name (latch.Down round) → TellsRound (w.requests ++ map (begins_now w) d.asked) (w.ends ++ map (ends_now w) d.ended) (begins_now w x) name round) where
  note-counted : AllCounted (note me d w)
  note-counted q name round there is = at (Contains-append_cases w.requests (map (begins_now w) d.asked) q there) where
    at : Contains w.requests q ⊎ Contains (map (begins_now w) d.asked) q → TellsRound (w.requests ++ map (begins_now w) d.asked) (w.ends ++ map (ends_now w) d.ended) q name round
    at (inl t) = tells-more w.requests (map (begins_now w) d.asked) w.ends (map (ends_now w) d.ended) q name round (h q name round t is)
    at (inr t) = let y = mapped (begins_now w) d.asked q t in subst (λ (z : Request). TellsRound (w.requests ++ map (begins_now w) d.asked) (w.ends ++ map (ends_now w) d.ended) z name round) (sym y.2)
        (new y.0 y.1 name round (ap (λ (z : Request). z.op) (sym y.2) ∙ is))

plain-counted : (w : World) (me : ClientNo) (d : Did) → AllCounted w → NoDown d.asked → AllCounted (note me d w)
plain-counted w me d h none = note-counted w me d h (λ x there name round is. absurd (no_true (ap is_down (sym is) ∙ none x there)))

-- an answer
module _ (plan : Plan) (w : World) (request : Invocation) (a : Answer) (good : Good plan w) (given : GivenTo w request a) (h : AllCounted w) where
  abbrev c : Client
  c = client_at w (client_of request)

  abbrev q : Request
  q = given.answered.entered.request

  of-client : request.client ≡ replay_id (client_of request)
  of-client = let e = given.answered.entered in subst (λ (x : Invocation). x.client ≡ replay_id (client_of x)) e.mine (good.clients_are e.request e.begun)

  same-op : (o : Op) → Knows (ledger_of w) request o → q.op ≡ o
  same-op o k = let i = get-some w.requests q given.answered.entered.begun in let j = get-some w.requests k.0 k.1 in
      let p : i.0 ≡ j.0 = good.distinct i.0 j.0 q k.0 i.1 j.1 (given.answered.entered.mine ∙ sym k.2) in ap (λ (z : Request). z.op) (same_some (sym i.1 ∙ (ap (slice_get w.requests) p ∙ j.1))) ∙ k.3

  abbrev mine : Did → Did
  mine d = record d { ended = (request, a) ∷ [] }

  down-parts : {m n : List ℕ} {r s : ℕ} → op.Latch m (latch.Down r) ≡ op.Latch n (latch.Down s) → (m ≡ n) × (r ≡ s)
  down-parts {m} {n} {r} {s} e = (ap name_in e, ap round_in e) where
    name_in : Op → List ℕ
    name_in (op.Latch x (latch.Down y)) = x
    name_in o = []

    round_in : Op → ℕ
    round_in (op.Latch x (latch.Down y)) = y
    round_in o = 0

  -- the round that was told
  round-counted : (now : Pending) (object : Object) (v : ℤ) → a ≡ answer.Value v → Knows (ledger_of w) request (op.Latch object.name latch.Round)
      → AllCounted (note (client_of request) (mine (prepared plan (replay_id (client_of request)) request.number (call_in request now (user.Latch object latch_call.Down)) purpose.ForRound (answer.Value v) c)) w)
  round-counted now object v is knows = note-counted w (client_of request) (mine d) h new where
    d : Did
    d = prepared plan (replay_id (client_of request)) request.number (call_in request now (user.Latch object latch_call.Down)) purpose.ForRound (answer.Value v) c

    new : (x : Asked) → Contains (prepared plan (replay_id (client_of request)) request.number (call_in request now (user.Latch object latch_call.Down)) purpose.ForRound (answer.Value v) c).asked x → (name : List ℕ) (round : ℕ) → x.op ≡ op.Latch name (latch.Down round)
        → TellsRound (w.requests ++ map (begins_now w) (prepared plan (replay_id (client_of request)) request.number (call_in request now (user.Latch object latch_call.Down)) purpose.ForRound (answer.Value v) c).asked) (w.ends ++ ends_now w (request, a) ∷ []) (begins_now w x) name round
    new x there name round x_is = let same = one-is _ x there in let p = down-parts (sym (ap (λ (z : Asked). z.op) same) ∙ x_is) in record {
      asked = q;
      began = Contains-append_left w.requests _ q given.answered.entered.begun;
      end = ends_now w (request, a);
      ended = Contains-append_right w.ends (ends_now w (request, a) ∷ []) (ends_now w (request, a)) (at-head (ends_now w (request, a)) []);
      of_request = given.answered.entered.mine;
      by_client = of-client ∙ ap (λ (z : Asked). z.call.client) (sym same);
      by_thread = ap (λ (z : Asked). z.call.thread) (sym same);
      here = refl;
      asks = same-op (op.Latch object.name latch.Round) knows ∙ ap (λ n. op.Latch n latch.Round) p.0;
      value = v;
      says = is;
      is_round = p.1;
    }

  prepared-counted : (now : Pending) (o : UserOp) (p : Purpose) (x : Answer) → a ≡ x → PurposeOk plan (ledger_of w) (client_of request) request (task.Calls o) p → AllCounted (note (client_of request) (mine (prepared plan (replay_id (client_of request)) request.number (call_in request now o) p x c)) w)
  prepared-counted now o purpose.ForSession (answer.Session s) is ok = plain-counted w (client_of request) (mine (prepared plan (replay_id (client_of request)) request.number (call_in request now o) purpose.ForSession (answer.Session s) c)) h
      (need-down plan (replay_id (client_of request)) (call_in request now o) (with_session now.group s c) (need_of o) refl)
  prepared-counted now o purpose.ForRound (answer.Value v) is ok = subst (λ y. AllCounted (note (client_of request) (mine (prepared plan (replay_id (client_of request)) request.number (call_in request now y) purpose.ForRound (answer.Value v) c)) w)) (sym ok.1) (round-counted now ok.0 v is ok.2)
  prepared-counted now o p x is ok = plain-counted w (client_of request) (mine (prepared plan (replay_id (client_of request)) request.number (call_in request now o) p x c)) h none-down

  task-counted : (x : Task) (now : Pending) → PurposeOk plan (ledger_of w) (client_of request) request x now.purpose → AllCounted (note (client_of request) (mine (on_task plan (replay_id (client_of request)) request x now a c)) w)
  task-counted (task.Calls o) now ok = prepared-counted now o now.purpose a refl ok
  task-counted (task.Beats s) now ok = plain-counted w (client_of request) (mine (on_task plan (replay_id (client_of request)) request (task.Beats s) now a c)) h none-down

  nothing-counted : AllCounted (note (client_of request) (nothing c) w)
  nothing-counted = plain-counted w (client_of request) (nothing c) h none-down

  same-request : (number : ℕ) → number ≡ request.number → record { client = replay_id (client_of request); thread = request.thread; number = number } ≡ request
  same-request number e = λ j. record { client = sym of-client j; thread = request.thread; number = e j }

  pending-counted : (now : Option Pending) → (thread_at c request.thread).pending ≡ now → (thread_at c request.thread).number ≡ request.number → AllCounted (note (client_of request) (on_pending plan (replay_id (client_of request)) request now a c) w)
  pending-counted None is same = nothing-counted
  pending-counted (Some now) is same = task-counted now.task now (subst (λ call. PurposeOk plan (ledger_of w) (client_of request) call now.task now.purpose) (same-request (thread_at c request.thread).number same) ((good.clients (client_of request)).pending request.thread now is).for_purpose)

  answer-counted : AllCounted (note (client_of request) (answer_client plan (replay_id (client_of request)) request a (client_at w (client_of request))) w)
  answer-counted = cases (λ (d : Did). AllCounted (note (client_of request) d w)) ((thread_at c request.thread).number == request.number) _ _
      (λ e. pending-counted (thread_at c request.thread).pending refl (same_number (thread_at c request.thread).number request.number e)) (λ e. nothing-counted)

counted-served : (plan : Plan) → IsServed plan AllCounted AllCounted
counted-served plan = record {
  calls = λ me t o w good after h. plain-counted w me (call_client plan (replay_id me) t o (client_at w me)) h (need-down plan (replay_id me) (record { thread = t; group = group_of o; op = o; deadline = deadline_of (client_at w me).clock (wish_of o) }) (client_at w me) (need_of o) refl);
  ticks = λ me ms w good after h. plain-counted w me (tick_client (replay_id me) ms (client_at w me)) h (tick-down me ms (client_at w me));
  answers = λ request a w good desked given after h. answer-counted plan w request a good given h;
  commits = λ a w h. h;
  empties = λ w h. h;
  ignores = λ cause w h. h;
  called = λ c w earlier h. h;
  moved = λ m w h. h;
  starts = λ e w l h. h;
  closes = λ w h. h;
}

pub all-counted : (plan : Plan) (events : List Event) → AllCounted (world_after plan new_world events)
all-counted plan events = all-served plan AllCounted AllCounted (counted-served plan) events (λ q name round there. absurd (no-element q there))
