-- Over every list of events: where a call returns because of its deadline, the clock has moved far enough since that call.
use Rattle.std.proofs.Common.{◌≡◌, ◌≢◌, ℕ, ◌+◌, ◌⊎◌, inl, inr, Bool, true, false, List, [], ◌∷◌, ◌++◌, Some, None, Option, refl, sym, subst, ap, ◌∙◌, arith, if◌then◌else◌}
use Rattle.std.specs.Prelude.{◌==◌, ◌<◌, ◌≤◌, nat_lt, not, Contains}
use Rattle.std.proofs.lemmas.Bool.Decides.{nat_tests}
use Rattle.std.proofs.lemmas.List.{append-nil, append_assoc}
use Rattle.std.proofs.lemmas.List.Elements.{Contains-append_cases, Contains-push_cases}
use Rattle.cp_answers.specs.declared.answer.Answer.{Answer}
use Rattle.cp_answers.specs.declared.answer.Answer.TheVariants as answer
use Rattle.cp_answers.specs.declared.ended_by.EndedBy.TheVariants as ended_by
use Rattle.cp_answers.specs.declared.refusal.Refusal.{Refusal}
use Rattle.cp_base.specs.declared.identifier.ClientId.{ClientId}
use Rattle.cp_base.specs.declared.identifier.ThreadNo.{ThreadNo}
use Rattle.cp_client_rules.specs.Asking.{wish_of}
use Rattle.cp_client_rules.specs.Calls.{deadline_of, patience}
use Rattle.cp_client_rules.specs.Ticks.{is_past}
use Rattle.cp_events.specs.declared.effects.Ending.{Ending}
use Rattle.cp_events.specs.declared.effects.Ending.TheVariants as ending
use Rattle.cp_events.specs.declared.effects.Return.{Return}
use Rattle.cp_events.specs.declared.plan.Plan.{Plan}
use Rattle.cp_events.specs.declared.user_op.UserOp.{UserOp}
use Rattle.cp_try_rules.specs.declared.event.Event.{Event}
use Rattle.cp_try_rules.specs.declared.event.Event.TheVariants as event
use Rattle.cp_try_rules.specs.Calls.{call_client}
use Rattle.cp_try_rules.specs.Clients.{Client, Did, Pending, Thread, ask, done_at_once, new_client, thread_at, with_thread}
use Rattle.cp_try_rules.specs.Events.{ClientState, client_after, client_step, first_state, state_after, with_members, without_members}
use Rattle.cp_try_rules.specs.Laws.{IsCalled, IsNoCall, IsToldSo, late_return, moved_by, passed}
use Rattle.cp_try_rules.specs.Steps.{Step, then_step}
use Rattle.cp_try_rules.specs.Ticks.{is_late}
use Rattle.cp_try_rules.specs.Tries.{Tries}
use Rattle.cp_try_rules.proofs.CallWalk.{call-cases}
use Rattle.cp_try_rules.proofs.EventWalk.{walk-if, walk-with, walk-without}
use Rattle.cp_try_rules.proofs.Losses.{answer-same, answered-same, told-so}
use Rattle.cp_try_rules.proofs.Threads.{contains-cases, contains-none, contains-one, none-some, some-same, thread-cases}
use Rattle.cp_try_rules.proofs.Walk.{IsTimed, KeptCalls, KeptTries, Tells, after_clock, asking, doing, ending_call, gives, idling, return_of}

passed-both : (before after : List Event) → passed (before ++ after) ≡ passed before + passed after
passed-both [] after = omega arith
passed-both (e ∷ before) after = let rest = passed-both before after in omega (arith, rest)

nothing-more : (n : ℕ) → 0 + n ≡ n
nothing-more n = omega arith

-- the thread's deadline is that of its last call
abbrev pub IsDue : List Event → ThreadNo → ℕ → Type 0
IsDue events t deadline = (call : IsCalled events t) × (ms : ℕ) × (wish_of call.op ≡ Some ms) × (deadline ≡ passed call.before + patience + ms)

abbrev pub DueAt : List Event → ThreadNo → Option Pending → Type 0
DueAt events t o = (now : Pending) (deadline : ℕ) → o ≡ Some now → now.deadline ≡ Some deadline → IsDue events t deadline

-- the clock has moved as the events say, and each deadline is that of a call
abbrev pub Due : List Event → Client → Type 0
Due events c = (c.clock ≡ passed events) × ((t : ThreadNo) → DueAt events t (thread_at c t).pending)

due-later : (events : List Event) (e : Event) (t : ThreadNo) (deadline : ℕ) → IsNoCall t e → IsDue events t deadline → IsDue (events ++ e ∷ []) t deadline
due-later events e t deadline otherwise due = (
  record {
    before = due.0.before;
    op = due.0.op;
    since = due.0.since ++ e ∷ [];
    split = ap (λ y. y ++ e ∷ []) due.0.split ∙ append_assoc due.0.before (event.Calls t due.0.op ∷ due.0.since) (e ∷ []);
    none = λ y h. by y (Contains-push_cases due.0.since e y h);
  },
  due.1,
  due.2,
  due.3,
) where
  by : (y : Event) → Contains due.0.since y ⊎ (e ≡ y) → IsNoCall t y
  by y (inl old) = due.0.none y old
  by y (inr new) = subst (IsNoCall t) new otherwise

-- a thread without an open request, or with one of the same deadline
row-due : (events : List Event) (c : Client) (t : ThreadNo) (row : Thread) → DueAt events t row.pending → ((u : ThreadNo) → DueAt events u (thread_at c u).pending) → (u : ThreadNo) → DueAt events u (thread_at (with_thread c t row) u).pending
row-due events c t row mine all = thread-cases (λ u w. DueAt events u w.pending) c t row mine (λ u apart. all u)

idle-due : (events : List Event) (c : Client) (t : ThreadNo) (n : ℕ) → ((u : ThreadNo) → DueAt events u (thread_at c u).pending) → (u : ThreadNo) → DueAt events u (thread_at (with_thread c t (record { number = n; pending = None })) u).pending
idle-due events c t n all = row-due events c t (record { number = n; pending = None }) (λ now deadline is. absurd (none-some is)) all

module _ (e : Event) (events : List Event) (not-call : (t : ThreadNo) (o : UserOp) → e ≡ event.Calls t o → ⊥) where
  -- why a call returns at its deadline
  abbrev pub Timed : ThreadNo → Type 0
  Timed t = ((call : IsCalled events t) × (ms : ℕ) × (wish_of call.op ≡ Some ms) × (patience + ms ≤ passed call.since)) ⊎ IsToldSo e (answer.Indeterminate ended_by.Deadline) t

  abbrev pub AllTimed : List Return → Type 0
  AllTimed returns = (t : ThreadNo) (n : ℕ) → Contains returns (late_return t n) → Timed t

  abbrev StepDue : Client → Tries → Step → Type 0
  StepDue c x s = Due events c → Due events s.did.client × AllTimed s.did.returns

  timed-none : AllTimed []
  timed-none t n h = absurd (contains-none (late_return t n) h)

  timed-other : (u : ThreadNo) (k : ℕ) (last : Ending) → (last ≡ ending.Answered (answer.Indeterminate ended_by.Deadline) → ⊥) → AllTimed (return_of u k last ∷ [])
  timed-other u k last other t n h = absurd (other (answered-same u t k n (answer.Indeterminate ended_by.Deadline) last (contains-one (return_of u k last) (late_return t n) h)).2)

  timed-answer : (u : ThreadNo) (k : ℕ) (last : Answer) → Tells e u last → AllTimed (return_of u k (ending.Answered last) ∷ [])
  timed-answer u k last tells t n h = let same = answered-same u t k n (answer.Indeterminate ended_by.Deadline) (ending.Answered last) (contains-one (return_of u k (ending.Answered last)) (late_return t n) h) in
      inr (told-so e u t last ended_by.Deadline tells (answer-same last (answer.Indeterminate ended_by.Deadline) same.2) same.0)

  -- how far the clock has moved since a call, at its deadline
  far : (clock deadline before since ms all : ℕ) → clock ≡ all → all ≡ before + since → deadline ≡ before + patience + ms → not (nat_lt clock deadline) ≡ true → patience + ms ≤ since
  far clock deadline before since ms all is split at late = grind (arith, nat_tests, is, split, at, late)

  -- a deadline that is reached
  reached : (clock : ℕ) (o : Option Pending) (t : ThreadNo) → clock ≡ passed events → DueAt events t o → is_late clock o ≡ true → Timed t
  reached clock None t is due late = cc
  reached clock (Some now) t is due late = by now.deadline refl late where
    by : (o : Option ℕ) → now.deadline ≡ o → is_past clock o ≡ true → Timed t
    by None same past = cc
    by (Some deadline) same past = let one = due now deadline refl same in
        let split : passed events ≡ passed one.0.before + passed one.0.since = ap passed one.0.split ∙ passed-both one.0.before (event.Calls t one.0.op ∷ one.0.since) ∙ ap (λ n. passed one.0.before + n) (nothing-more (passed one.0.since)) in
        let at = one.3 in
        let not-before : not (nat_lt clock deadline) ≡ true = past in
        inl (one.0, one.1, one.2, far clock deadline (passed one.0.before) (passed one.0.since) one.1 (passed events) is split at not-before)

  late-due : (c : Client) (x : Tries) (t : ThreadNo) → is_late c.clock (thread_at c t).pending ≡ true → Due events c → AllTimed (return_of t (thread_at c t).number (ending.Answered (answer.Indeterminate ended_by.Deadline)) ∷ [])
  late-due c x t late due u n h = let same = answered-same t u (thread_at c t).number n (answer.Indeterminate ended_by.Deadline) (ending.Answered (answer.Indeterminate ended_by.Deadline))
      (contains-one (return_of t (thread_at c t).number (ending.Answered (answer.Indeterminate ended_by.Deadline))) (late_return u n) h) in
      subst Timed same.0 (reached c.clock (thread_at c t).pending t due.0 (due.1 t) late)

  asks-due : (c : Client) (t : ThreadNo) (now : Pending) → IsTimed e c t now → Due events c → DueAt events t (Some now)
  asks-due c t now (inl called) due = absurd (not-call t called.0 called.1)
  asks-due c t now (inr (inl old)) due = λ is deadline same at. due.1 t old.0 deadline old.1 (sym old.2 ∙ ap (λ y. y.deadline) (some-same same) ∙ at)
  asks-due c t now (inr (inr none)) due = λ is deadline same at. absurd (none-some (sym none ∙ ap (λ y. y.deadline) (some-same same) ∙ at))

  given-client : (b : Bool) (d : Did) (x : Tries) → (gives b d x).did ≡ d
  given-client true d x = refl
  given-client false d x = refl

  of-did : (b : Bool) (c : Client) (d : Did) (x : Tries) → (Due events c → Due events d.client × AllTimed d.returns) → StepDue c x (gives b d x)
  of-did b c d x h = subst (λ y. Due events c → Due events y.client × AllTimed y.returns) (sym (given-client b d x)) h

  ok-late : ending.Answered answer.Ok ≡ ending.Answered (answer.Indeterminate ended_by.Deadline) → ⊥
  ok-late h = cc

  lost-late : ending.Answered (answer.Indeterminate ended_by.Lost) ≡ ending.Answered (answer.Indeterminate ended_by.Deadline) → ⊥
  lost-late h = cc

  refused-late : (why : Refusal) → ending.Refused why ≡ ending.Answered (answer.Indeterminate ended_by.Deadline) → ⊥
  refused-late why h = cc

  module _ (me : ClientId) where
    due-calls : (b : Bool) → KeptCalls me e b StepDue
    due-calls b = record {
      rests = λ c x due. (due, timed-none);
      follows = λ c x s f first rest due. let one = first due in let two = rest s.did.client s.tries one.0 in
          (two.0, λ t n h. by s (f s.did.client s.tries) t n one.1 two.1 (Contains-append_cases s.did.returns (f s.did.client s.tries).did.returns (late_return t n) h));
      lates = λ c x t late due. ((due.0, idle-due events c t (thread_at c t).number due.1), late-due c x t late due);
      asks = λ c x l t now timed. of-did b c (asking me t now l c) x
          (λ due. ((due.0, row-due events c t (record { number = (thread_at c t).number + 1; pending = Some now }) (asks-due c t now timed due) due.1), timed-none));
      does = λ c x l t. of-did b c (doing t l c) x
          (λ due. ((due.0, idle-due events c t ((thread_at c t).number + 1) due.1), timed-other t ((thread_at c t).number + 1) (ending.Answered answer.Ok) ok-late));
      ends = λ c x l t last tells. of-did b c (ending_call t last l c) x
          (λ due. ((due.0, idle-due events c t (thread_at c t).number due.1), timed-answer t (thread_at c t).number last tells));
      idles = λ c x l t. of-did b c (idling t l c) x (λ due. ((due.0, idle-due events c t (thread_at c t).number due.1), timed-none));
    } where
      by : (s next : Step) (t : ThreadNo) (n : ℕ) → AllTimed s.did.returns → AllTimed next.did.returns → Contains s.did.returns (late_return t n) ⊎ Contains next.did.returns (late_return t n) → Timed t
      by s next t n p q (inl h) = p t n h
      by s next t n p q (inr h) = q t n h

    due-tries : KeptTries me e StepDue
    due-tries = record {
      knows = λ c x restarts targets s h. h;
      tries = λ c x a held ready due. (due, timed-none);
      pauses = λ c x a held bounced due. (due, timed-none);
      knocks = λ c x a m r held went due. (due, timed-none);
      loses = λ c x a held otherwise cause due. (
        (due.0, idle-due events c a.call.thread (thread_at c a.call.thread).number due.1),
        timed-other a.call.thread (thread_at c a.call.thread).number (ending.Answered (answer.Indeterminate ended_by.Lost)) lost-late,
      );
      greets = λ c x m due. (due, timed-none);
      refuses = λ c x t why due. ((due.0, idle-due events c t (thread_at c t).number due.1), timed-other t (thread_at c t).number (ending.Refused why) (refused-late why));
    }

    step-due : (plan : Plan) (s : ClientState) → StepDue (after_clock e s.calls) s.tries (client_step plan me s e)
    step-due plan s = walk-if StepDue (after_clock e s.calls) s.tries (plan.members == 0) (without_members plan me e s.calls s.tries) (with_members plan me e s.calls s.tries)
        (λ alone. walk-without plan me e StepDue (due-calls false) e refl s.calls s.tries)
        (λ members. walk-with plan me e StepDue (due-calls true) due-tries e refl s.calls s.tries)

-- ---- the call itself

module _ (plan : Plan) (me : ClientId) (events : List Event) where
  clock-now : (e : Event) (c : Client) → c.clock ≡ passed events → (after_clock e c).clock ≡ passed (events ++ e ∷ [])
  clock-now (event.Calls t o) c is = is ∙ sym (passed-both events (event.Calls t o ∷ []) ∙ omega arith)
  clock-now (event.Passes ms) c is = let all = passed-both events (event.Passes ms ∷ []) in omega (arith, all, is)
  clock-now (event.Welcomed m r) c is = is ∙ sym (passed-both events (event.Welcomed m r ∷ []) ∙ omega arith)
  clock-now (event.Answered t g n a) c is = is ∙ sym (passed-both events (event.Answered t g n a ∷ []) ∙ omega arith)
  clock-now (event.Refused t k g n why) c is = is ∙ sym (passed-both events (event.Refused t k g n why ∷ []) ∙ omega arith)

  -- the deadlines of other threads stay, and that of this one begins
  call-row : (t : ThreadNo) (o : UserOp) (c : Client) (row : Thread) → Due events c → DueAt (events ++ event.Calls t o ∷ []) t row.pending
      → (u : ThreadNo) → DueAt (events ++ event.Calls t o ∷ []) u (thread_at (with_thread c t row) u).pending
  call-row t o c row due mine = thread-cases (λ u w. DueAt (events ++ event.Calls t o ∷ []) u w.pending) c t row mine
      (λ u apart now deadline is at. due-later events (event.Calls t o) u deadline apart (due.1 u now deadline is at))

  first-due : (t : ThreadNo) (o : UserOp) (c : Client) (now : Pending) → Due events c → now.deadline ≡ deadline_of c.clock (wish_of o) → DueAt (events ++ event.Calls t o ∷ []) t (Some now)
  first-due t o c now due timed is deadline same at = by (wish_of o) refl where
    now-at : now.deadline ≡ Some deadline
    now-at = ap (λ y. y.deadline) (some-same same) ∙ at

    by : (wish : Option ℕ) → wish_of o ≡ wish → IsDue (events ++ event.Calls t o ∷ []) t deadline
    by None wish = absurd (none-some (sym (timed ∙ ap (deadline_of c.clock) wish) ∙ now-at))
    by (Some ms) wish = (
      record { before = events; op = o; since = []; split = refl; none = λ y h. absurd (contains-none y h) },
      ms,
      wish,
      some-same (sym now-at ∙ timed ∙ ap (deadline_of c.clock) wish) ∙ ap (λ clock. clock + patience + ms) due.0,
    )

  call-due : (t : ThreadNo) (o : UserOp) (c : Client) → Due events c → Due (events ++ event.Calls t o ∷ []) (call_client plan me t o c).client
  call-due t o c due = call-cases plan me t o c (λ d. Due (events ++ event.Calls t o ∷ []) d.client)
      (λ now timed. (clock-now (event.Calls t o) c due.0, call-row t o c (record { number = (thread_at c t).number + 1; pending = Some now }) due (first-due t o c now due timed)))
      (clock-now (event.Calls t o) c due.0, call-row t o c (record { number = (thread_at c t).number + 1; pending = None }) due (λ now deadline is. absurd (none-some is)))

  call-returns : (t : ThreadNo) (o : UserOp) (c : Client) (u : ThreadNo) (n : ℕ) → Contains (call_client plan me t o c).returns (late_return u n) → ⊥
  call-returns t o c u n = call-cases plan me t o c (λ d. Contains d.returns (late_return u n) → ⊥) (λ now timed h. contains-none (late_return u n) h)
      (λ h. ok-not-late (answered-same t u ((thread_at c t).number + 1) n (answer.Indeterminate ended_by.Deadline) (ending.Answered answer.Ok)
      (contains-one (return_of t ((thread_at c t).number + 1) (ending.Answered answer.Ok)) (late_return u n) h)).2) where
        ok-not-late : ending.Answered answer.Ok ≡ ending.Answered (answer.Indeterminate ended_by.Deadline) → ⊥
        ok-not-late h = cc

  called-did : (t : ThreadNo) (o : UserOp) (s : ClientState) → (client_step plan me s (event.Calls t o)).did ≡ call_client plan me t o s.calls
  called-did t o s = by (plan.members == 0) where
    by : (b : Bool) → (if b then without_members plan me (event.Calls t o) s.calls s.tries else with_members plan me (event.Calls t o) s.calls s.tries).did ≡ call_client plan me t o s.calls
    by true = refl
    by false = refl

  -- an event that is no call
  other-due : (e : Event) → ((t : ThreadNo) (o : UserOp) → e ≡ event.Calls t o → ⊥) → ((t : ThreadNo) → IsNoCall t e) → (s : ClientState) → Due events s.calls
      → Due (events ++ e ∷ []) (client_step plan me s e).did.client × ((t : ThreadNo) (n : ℕ) → Contains (client_step plan me s e).did.returns (late_return t n)
      → ((call : IsCalled (events ++ e ∷ []) t) × (ms : ℕ) × (wish_of call.op ≡ Some ms) × (patience + ms ≤ passed call.since)) ⊎ IsToldSo e (answer.Indeterminate ended_by.Deadline) t)
  other-due e not-call otherwise s due = step-due e (events ++ e ∷ []) not-call me plan s
      (clock-now e s.calls due.0, λ t now deadline is at. due-later events e t deadline (otherwise t) (due.1 t now deadline (sym (pending-same e t) ∙ is) at)) where
        pending-same : (y : Event) (t : ThreadNo) → (thread_at (after_clock y s.calls) t).pending ≡ (thread_at s.calls t).pending
        pending-same (event.Calls u o) t = refl
        pending-same (event.Passes ms) t = refl
        pending-same (event.Welcomed m r) t = refl
        pending-same (event.Answered u g n a) t = refl
        pending-same (event.Refused u k g n why) t = refl

  pub event-due : (e : Event) (s : ClientState) → Due events s.calls
      → Due (events ++ e ∷ []) (client_step plan me s e).did.client × ((t : ThreadNo) (n : ℕ) → Contains (client_step plan me s e).did.returns (late_return t n)
      → ((call : IsCalled (events ++ e ∷ []) t) × (ms : ℕ) × (wish_of call.op ≡ Some ms) × (patience + ms ≤ passed call.since)) ⊎ IsToldSo e (answer.Indeterminate ended_by.Deadline) t)
  event-due (event.Calls t o) s due = (
    subst (λ d. Due (events ++ event.Calls t o ∷ []) d.client) (sym (called-did t o s)) (call-due t o s.calls due),
    λ u n h. absurd (call-returns t o s.calls u n (subst (λ d. Contains d.returns (late_return u n)) (called-did t o s) h)),
  )
  event-due (event.Passes ms) s due = other-due (event.Passes ms) (λ t o h. cc) (λ t. refl) s due
  event-due (event.Welcomed m r) s due = other-due (event.Welcomed m r) (λ t o h. cc) (λ t. refl) s due
  event-due (event.Answered t g n a) s due = other-due (event.Answered t g n a) (λ u o h. cc) (λ u. refl) s due
  event-due (event.Refused t k g n why) s due = other-due (event.Refused t k g n why) (λ u o h. cc) (λ u. refl) s due

module _ (plan : Plan) (me : ClientId) where
  all-due : (events before : List Event) (s : ClientState) → Due before s.calls → Due (before ++ events) (client_after plan me s events).calls
  all-due [] before s due = subst (λ y. Due y s.calls) (sym (append-nil before)) due
  all-due (e ∷ events) before s due = subst (λ y. Due y (client_after plan me (state_after (client_step plan me s e)) events).calls) (append_assoc before (e ∷ []) events)
      (all-due events (before ++ e ∷ []) (state_after (client_step plan me s e)) (event-due plan me before e s due).0)

  pub delays-caused : (events : List Event) (e : Event) (t : ThreadNo) (n : ℕ) → Contains (client_step plan me (client_after plan me first_state events) e).did.returns (late_return t n)
      → ((call : IsCalled (events ++ e ∷ []) t) × (ms : ℕ) × (wish_of call.op ≡ Some ms) × (patience + ms ≤ passed call.since)) ⊎ IsToldSo e (answer.Indeterminate ended_by.Deadline) t
  delays-caused events e t n h = (event-due plan me events e (client_after plan me first_state events) (all-due events [] first_state (refl, λ u now deadline is. absurd (none-some is)))).1 t n h
