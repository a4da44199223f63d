-- What threads work on, in every run.
use Rattle.std.proofs.Common.{◌≡◌, ℕ, ◌+◌, ◌^◌, ◌≤◌, ◌⊎◌, inl, inr, Bool, true, false, List, [], ◌∷◌, ◌++◌, Some, None, Option, refl, sym, subst, ap, ◌∙◌, arith, length}
use Rattle.std.specs.Prelude.{Contains, nat_lt}
use Rattle.std.specs.Ordering.{is_eq, nat_cmp}
use Rattle.std.specs.BTreeMap.{is_at}
use Rattle.std.proofs.lemmas.List.Elements.{Contains-push, Contains-push_cases}
use Rattle.cp_base.specs.Identifiers.{replay_id}
use Rattle.cp_base.specs.declared.identifier.ClientNo.{ClientNo}
use Rattle.cp_base.specs.declared.identifier.Invocation.{Invocation}
use Rattle.cp_base.specs.declared.identifier.ThreadNo.{ThreadNo}
use Rattle.cp_base.proofs.Tests.{none_some}
use Rattle.cp_answers.specs.declared.answer.Answer.{Answer}
use Rattle.cp_events.specs.declared.effects.Ignored.{Ignored}
use Rattle.cp_events.specs.declared.event.Event.{Event}
use Rattle.cp_events.specs.declared.event.Event.TheVariants as event
use Rattle.cp_events.specs.declared.plan.Plan.{Plan}
use Rattle.cp_events.specs.declared.user_op.UserOp.{UserOp}
use Rattle.cp_group_state.proofs.Keyed.{equal_is, find-put_same, find-put_other, number_key}
use Rattle.cp_group_state.proofs.Walk.{either}
use Rattle.cp_group_causes.proofs.Lists.{at-head, at-tail, no-element}
use Rattle.cp_client_rules.specs.declared.rows.Pending.{Pending}
use Rattle.cp_client_rules.specs.declared.rows.Purpose.{Purpose}
use Rattle.cp_client_rules.specs.declared.rows.Purpose.TheVariants as purpose
use Rattle.cp_client_rules.specs.declared.rows.Task.{Task}
use Rattle.cp_client_rules.specs.declared.rows.Task.TheVariants as task
use Rattle.cp_client_rules.specs.Asking.{group_of, wish_of}
use Rattle.cp_client_rules.specs.Calls.{Call, call_client, deadline_of, go_on}
use Rattle.cp_client_rules.specs.Clients.{Asked, Client, Did, thread_at}
use Rattle.cp_client_rules.specs.Answers.{answer_client}
use Rattle.cp_client_rules.specs.Ticks.{tick_client}
use Rattle.cp_world_rules.specs.Rows.{Called, Moved, Request}
use Rattle.cp_world_rules.specs.World.{World, begin, calls_if_idle, client_at, client_of, commit, commit_all, does, hand_all, hand_on, handed, ignore, is_client, moves_now, new_world, note, or_new, start, world_after, world_step}
use Rattle.cp_world_rules.proofs.Ledgers.{Ledger, PurposeOk, ledger_of}
use Rattle.cp_world_rules.proofs.Good.{Given as GivenTo, Good}
use Rattle.cp_world_rules.proofs.Does.{does-given, does-good}
use Rattle.cp_world_rules.proofs.Answers.{answer-ok}
use Rattle.cp_world_rules.proofs.Desks.{BookOk, IsNow, OverIn, ThreadOk, Works, book-call, book-later, book-move, thread-call, thread-move, with_move}
use Rattle.cp_world_rules.proofs.Threads.{But, Mid, adds, book_of}
use Rattle.cp_world_rules.proofs.Working.{Needs, answer-goes, call-goes, go-ends, tick-goes}
use Rattle.cp_world_rules.proofs.Walking.{IsBetween, between-after}
use Rattle.cp_world_rules.proofs.Runs.{begin-good, handed-good, none-good, started, step-good}
use Rattle.cp_world_rules.proofs.Settled.{RestsAfter, rests, step-rests}
use Rattle.cp_world_rules.proofs.Printed.{Printed, all-printed, printed-none}

pub record Desked (plan : Plan) (w : World) : Type 0 where
  pub book : BookOk plan (book_of w) w.shown.number
  pub threads : (x : ClientNo) (t : ThreadNo) → ThreadOk plan (book_of w) x t (thread_at (client_at w x) t)

at-self : (n : ℕ) → is_at (nat_cmp n) n ≡ false → ⊥
at-self n h = no (sym (ap is_eq (number_key.here n)) ∙ h) where
  no : true ≡ false → ⊥
  no e = cc

-- the records of a client say what a request is for
needs-of : (plan : Plan) (l : Ledger) (me : ClientNo) (call : Invocation) (x : Task) (p : Purpose) → PurposeOk plan l me call x p → Needs x p
needs-of plan l me call (task.Calls o) purpose.ForSession h = h.0
needs-of plan l me call (task.Calls o) purpose.ForRound h = tt
needs-of plan l me call (task.Calls o) (purpose.ForItself s) h = tt
needs-of plan l me call (task.Beats s) p h = tt

module _ (plan : Plan) where
  mid-now : (w : World) (me : ClientNo) → Desked plan w → Mid plan w me (book_of w) (client_at w me)
  mid-now w me h = record { book = h.book; mine = h.threads me; others = λ x t off. h.threads x t }

  pub note-client : (w : World) (me : ClientNo) (d : Did) (P : ClientNo → Client → Type 0) → P me d.client → ((x : ClientNo) → (x ≡ me → ⊥) → P x (client_at w x)) → (x : ClientNo) → P x (client_at (note me d w) x)
  note-client w me d P mine others x = by (is_at (nat_cmp x.0) me.0) refl where
    by : (b : Bool) → is_at (nat_cmp x.0) me.0 ≡ b → P x (client_at (note me d w) x)
    by true e = let same : x ≡ me = ap (λ n. record { 0 = n }) (number_key.same x.0 me.0 (equal_is _ e)) in
        subst (λ y. P y (client_at (note me d w) y)) (sym same) (subst (λ o. P me (or_new o)) (sym (find-put_same nat_cmp number_key w.clients me.0 d.client)) mine)
    by false e = subst (λ o. P x (or_new o)) (sym (find-put_other nat_cmp number_key w.clients me.0 x.0 d.client e)) (others x (λ same. at-self me.0 (subst (λ (y : ClientNo). is_at (nat_cmp y.0) me.0 ≡ false) same e)))

  note-desked : (w : World) (me : ClientNo) (d : Did) → Mid plan w me (adds w me (book_of w) d.asked d.ended d.returns) d.client → Desked plan (note me d w)
  note-desked w me d m = record {
    book = m.book;
    threads = λ x t. note-client w me d (λ y c. ThreadOk plan (adds w me (book_of w) d.asked d.ended d.returns) y t (thread_at c t)) (m.mine t) (λ y off. m.others y t off) x;
  }

  commits-desked : (asked : List Asked) (w : World) → Desked plan w → Desked plan (commit_all asked w)
  commits-desked [] w h = h
  commits-desked (a ∷ asked) w h = commits-desked asked (commit a w) (record { book = h.book; threads = h.threads })

  does-desked : (w : World) (me : ClientNo) (d : Did) → Mid plan w me (adds w me (book_of w) d.asked d.ended d.returns) d.client → Desked plan (does me d w)
  does-desked w me d m = commits-desked d.asked (note me d w) (note-desked w me d m)

  -- answers
  pub of-client : (w : World) (good : Good plan w) (request : Invocation) (a : Answer) → GivenTo w request a → request.client ≡ replay_id (client_of request)
  of-client w good request a given = let e = given.answered.entered in subst (λ (x : Invocation). x.client ≡ replay_id (client_of x)) e.mine (good.clients_are e.request e.begun)

  pub hand-desked : (w : World) (a : Invocation × Answer) → Good plan w → GivenTo w a.0 a.1 → Desked plan w → Desked plan (hand_on plan a w)
  hand-desked w a good given h = does-desked w (client_of a.0) (answer_client plan (replay_id (client_of a.0)) a.0 a.1 (client_at w (client_of a.0)))
      (answer-goes plan w a.0 a.1 (of-client w good a.0 a.1 given) (book_of w) (mid-now w (client_of a.0) h)
      (λ now is. needs-of plan (ledger_of w) (client_of a.0) _ now.task now.purpose ((good.clients (client_of a.0)).pending a.0.thread now is).for_purpose))

  hands-desked : (queue : List (Invocation × Answer)) (w : World) → Good plan w → ((a : Invocation × Answer) → Contains queue a → GivenTo w a.0 a.1) → Desked plan w → Desked plan (hand_all plan queue w)
  hands-desked [] w good given h = h
  hands-desked (a ∷ queue) w good given h = let ok = answer-ok plan w a.0 a.1 good (given a (at-head a queue)) in
      hands-desked queue (hand_on plan a w) (does-good plan w (client_of a.0) (answer_client plan (replay_id (client_of a.0)) a.0 a.1 (client_at w (client_of a.0))) good ok)
      (λ b there. does-given plan w (client_of a.0) (answer_client plan (replay_id (client_of a.0)) a.0 a.1 (client_at w (client_of a.0))) good ok b (given b (at-tail a b queue there)))
      (hand-desked w a good (given a (at-head a queue)) h)

  pub emptied-good : (w : World) → Good plan w → Good plan (record w { queue = [] })
  emptied-good w good = record { state = good.state; ordered = good.ordered; orderly = good.orderly; own = good.own; named = good.named; upto = good.upto; rounds = good.rounds; waiters = good.waiters; queue = λ a h. absurd (no-element a h); ends = good.ends; ended_by_now = good.ended_by_now; clients_are = good.clients_are; numbers = good.numbers; distinct = good.distinct; rising = good.rising; entered = good.entered; sources = good.sources; returns = good.returns; clients = good.clients; all_returned = good.all_returned }

  pub handed-desked : (w : World) → Good plan w → Desked plan w → Desked plan (handed plan w)
  handed-desked w good h = hands-desked w.queue (record w { queue = [] }) (emptied-good w good) (λ a there. let g = good.queue a there in record { answered = g.answered; fits = g.fits }) (record { book = h.book; threads = h.threads })

  ignored-desked : (cause : Ignored) (w : World) → Desked plan w → Desked plan (ignore cause w)
  ignored-desked cause w h = record { book = h.book; threads = h.threads }

  started-desked : (e : Event) (w : World) → IsBetween w → Desked plan w → Desked plan (start e w)
  started-desked e w b h = record { book = book-later plan (book_of w) w.shown.number (length w.effects) (omega (arith, b)) h.book; threads = h.threads }

  -- a call
  module _ (me : ClientNo) (t : ThreadNo) (o : UserOp) (w : World) (b : IsBetween w) (h : Desked plan w) (none : (thread_at (client_at w me) t).pending ≡ None) where
    abbrev v : World
    v = start (event.Call me t o) w

    abbrev made : Called
    made = record { event = length w.effects; client = me; thread = t; op = o; clock = (client_at w me).clock }

    abbrev u : World
    u = record (start (event.Call me t o) w) { calls = w.calls ++ record { event = length w.effects; client = me; thread = t; op = o; clock = (client_at w me).clock } ∷ [] }

    abbrev call : Call
    call = record { thread = t; group = group_of o; op = o; deadline = deadline_of (client_at w me).clock (wish_of o) }

    at-work : But plan u me (book_of u) (client_at u me) t false
    at-work = record {
      book = book-call plan (book_of w) made w.shown.number b h.book;
      mine = λ y off. thread-call plan (book_of w) me y made (thread_at (client_at w me) y) (λ mine thread. off (sym thread)) (h.threads me y);
      others = λ x y off. thread-call plan (book_of w) x y made (thread_at (client_at w x) y) (λ mine thread. off (sym mine)) (h.threads x y);
      numbers = (h.threads me t).numbers;
      ended = (h.threads me t).ended;
      told = (h.threads me t).told;
      overs = λ q there mine. over q ((h.threads me t).overs q there mine);
    }
      where
        over : (q : Request) → IsNow plan (thread_at (client_at w me) t) q ⊎ OverIn w.requests w.ends w.returns q.call → ((false ≡ true) × (q.call.number ≡ (thread_at (client_at w me) t).number)) ⊎ OverIn w.requests w.ends w.returns q.call
        over q (inl n) = absurd (none_some (sym none ∙ n.1))
        over q (inr o) = inr o

    works : Works plan (book_of u) me t made false
    works = record {
      began = Contains-push w.calls made;
      client_is = refl;
      thread_is = refl;
      latest = λ d there mine thread. latest d (Contains-push_cases w.calls made d there);
      not_returned = λ r there mine thread. let l = h.book.returned_now r there in omega (arith, l, b);
      needs = λ e q there mine at. let l = h.book.requests_now q there in absurd (omega (arith, l, at, b));
    }
      where
        latest : (d : Called) → Contains w.calls d ⊎ (made ≡ d) → d.event ≤ length w.effects
        latest d (inl there) = let l = h.book.calls_now d there in omega (arith, l, b)
        latest d (inr same) = let e = ap (λ (x : Called). x.event) same in omega (arith, e)

    call-desked : Desked plan (does me (call_client plan (replay_id me) t o (client_at w me)) u)
    call-desked = does-desked u me (call_client plan (replay_id me) t o (client_at w me))
        (subst (λ ended. Mid plan u me (adds u me (book_of u) (go_on plan (replay_id me) call (client_at w me)).asked ended (go_on plan (replay_id me) call (client_at w me)).returns) (go_on plan (replay_id me) call (client_at w me)).client) (sym (go-ends plan me call (client_at w me)))
        (call-goes plan u me (book_of u) call (client_at w me) at-work made refl refl works (refl, λ q there mine at. let l = h.book.requests_now q there in absurd (omega (arith, l, at, b)))))

  call_if_idle-desked : (me : ClientNo) (t : ThreadNo) (o : UserOp) (w : World) → IsBetween w → Desked plan w → (now : Option Pending) → (thread_at (client_at w me) t).pending ≡ now → Desked plan (calls_if_idle plan me t o now (start (event.Call me t o) w))
  call_if_idle-desked me t o w b h None is = call-desked me t o w b h is
  call_if_idle-desked me t o w b h (Some now) is = ignored-desked _ (start (event.Call me t o) w) (started-desked (event.Call me t o) w b h)

  -- a tick
  tick-desked : (me : ClientNo) (ms : ℕ) (w : World) → Desked plan w → Desked plan (moves_now me ms w)
  tick-desked me ms w h = let m0 : Moved = record { event = w.shown.number; client = me; ms = ms; clock = (client_at w me).clock + ms } in from (record { event = w.shown.number; client = me; ms = ms; clock = (client_at w me).clock + ms }) refl refl refl where
    from : (m0 : Moved) → m0.event ≡ w.shown.number → m0.client ≡ me → (client_at w me).clock + ms ≡ m0.clock → Desked plan (does me (tick_client (replay_id me) ms (client_at w me)) (record w { moves = w.moves ++ m0 ∷ [] }))
    from m0 at mine clock = does-desked (record w { moves = w.moves ++ m0 ∷ [] }) me (tick_client (replay_id me) ms (client_at w me))
        (tick-goes plan (record w { moves = w.moves ++ m0 ∷ [] }) me m0 at mine ms (with_move (book_of w) m0) (Contains-push w.moves m0) clock (record {
          book = book-move plan (book_of w) w.shown.number m0 h.book;
          mine = λ t. thread-move plan (book_of w) me t m0 (thread_at (client_at w me) t) (h.threads me t);
          others = λ x t off. thread-move plan (book_of w) x t m0 (thread_at (client_at w x) t) (h.threads x t);
        }))

  pub begin-desked : (e : Event) (w : World) → IsBetween w → Desked plan w → Desked plan (begin plan e (start e w))
  begin-desked (event.Call me t o) w b h = either (Desked plan) (is_client plan me) _ _ (call_if_idle-desked me t o w b h (thread_at (client_at w me) t).pending refl) (ignored-desked _ (start (event.Call me t o) w) (started-desked (event.Call me t o) w b h))
  begin-desked (event.ClientTick me ms) w b h = either (Desked plan) (is_client plan me) _ _
      (either (Desked plan) (nat_lt (2 ^ 62) ((client_at w me).clock + ms)) _ _ (ignored-desked _ (start (event.ClientTick me ms) w) (started-desked (event.ClientTick me ms) w b h)) (tick-desked me ms (start (event.ClientTick me ms) w) (started-desked (event.ClientTick me ms) w b h)))
      (ignored-desked _ (start (event.ClientTick me ms) w) (started-desked (event.ClientTick me ms) w b h))
  begin-desked (event.Deliver k) w b h = ignored-desked _ (start (event.Deliver k) w) (started-desked (event.Deliver k) w b h)
  begin-desked (event.Tick m ms) w b h = ignored-desked _ (start (event.Tick m ms) w) (started-desked (event.Tick m ms) w b h)
  begin-desked (event.Crash m) w b h = ignored-desked _ (start (event.Crash m) w) (started-desked (event.Crash m) w b h)
  begin-desked (event.CrashAfter m calls choice) w b h = ignored-desked _ (start (event.CrashAfter m calls choice) w) (started-desked (event.CrashAfter m calls choice) w b h)
  begin-desked (event.Start m) w b h = ignored-desked _ (start (event.Start m) w) (started-desked (event.Start m) w b h)
  begin-desked event.Open w b h = started-desked event.Open w b h

  -- Both invariants hold between events.
  pub record Sound (w : World) : Type 0 where
    pub good : Good plan w
    pub desked : Desked plan w
    pub between : IsBetween w

  pub step-sound : (e : Event) (w : World) → w.queue ≡ [] → Sound w → Sound (world_step plan w e)
  step-sound e w none s = let l : w.shown.number ≤ length w.effects = (let b = s.between in omega (arith, b)) in
      let g0 = begin-good plan e (start e w) (started plan e w l none s.good) in
      let d0 = begin-desked e w s.between s.desked in
      let g1 = handed-good plan (begin plan e (start e w)) g0 in
      let d1 = handed-desked (begin plan e (start e w)) g0 d0 in
      let d2 = handed-desked (handed plan (begin plan e (start e w))) g1 d1 in record {
        good = step-good plan e w l none s.good;
        desked = record { book = d2.book; threads = d2.threads };
        between = between-after plan e w;
      }

  pub none-sound : Sound new_world
  none-sound = record {
    good = none-good plan;
    desked = record {
      book = record {
        requests_now = λ q h. absurd (no-element q h);
        calls_now = λ c h. absurd (no-element c h);
        returned_now = λ r h. absurd (no-element r h);
        one_call = λ c d h. absurd (no-element c h);
        sourced = λ q h. absurd (no-element q h);
        itself_once = λ j k x y l at. absurd (none_some at);
        of_call = λ r h. absurd (no-element r h);
        once = λ j k x y l at. absurd (none_some at);
        ends_once = λ j k x y l at. absurd (none_some at);
      };
      threads = λ x t. record { open_ok = λ p is. absurd (none_some is); numbers = λ q h. absurd (no-element q h); ended = λ e h. absurd (no-element e h); told = λ r h. absurd (no-element r h); overs = λ q h. absurd (no-element q h) };
    };
    between = omega arith;
  }

  run-sound : (n : ℕ) (events : List Event) (w : World) → RestsAfter plan n w → Sound w → Sound (world_after plan w events)
  run-sound n [] w rest s = s
  run-sound n (e ∷ events) w rest s = run-sound (n + 1) events (world_step plan w e) (step-rests plan n e w rest) (step-sound e w rest.queue s)

  -- what holds after these events
  pub runs-sound : (events : List Event) → Sound (world_after plan new_world events)
  runs-sound events = run-sound 0 events new_world (rests plan []) none-sound

  pub runs-printed : (events : List Event) → Printed events (world_after plan new_world events)
  runs-printed events = all-printed plan [] events new_world printed-none
