-- What is known of the attempts stays so at each event; and each `lost` has its cause.
use Rattle.std.proofs.Common.{◌≡◌, ℕ, ◌+◌, ◌⊎◌, inl, inr, Bool, true, false, List, [], ◌∷◌, ◌++◌, Some, None, Option, refl, sym, subst, ap, ◌∙◌, arith, if◌then◌else◌}
use Rattle.std.specs.Prelude.{◌==◌, ◌<◌, ◌≤◌, Contains}
use Rattle.std.proofs.lemmas.List.{append-nil, append_assoc}
use Rattle.std.proofs.lemmas.List.Elements.{Contains-append_left, Contains-append_right, Contains-append_cases}
use Rattle.cp_answers.specs.declared.answer.Answer.{Answer}
use Rattle.cp_answers.specs.declared.answer.Answer.TheVariants as answer
use Rattle.cp_answers.specs.declared.ended_by.EndedBy.{EndedBy}
use Rattle.cp_answers.specs.declared.ended_by.EndedBy.TheVariants as ended_by
use Rattle.cp_answers.specs.declared.refusal.Refusal.{Refusal}
use Rattle.cp_base.specs.declared.identifier.ClientId.{ClientId}
use Rattle.cp_base.specs.declared.identifier.Invocation.{Invocation}
use Rattle.cp_base.specs.declared.identifier.ThreadNo.{ThreadNo}
use Rattle.cp_events.specs.declared.effects.Ending.{Ending}
use Rattle.cp_events.specs.declared.effects.Ending.TheVariants as ending
use Rattle.cp_events.specs.declared.effects.Return.{Return}
use Rattle.cp_events.specs.declared.plan.Plan.{Plan}
use Rattle.cp_try_rules.specs.declared.event.Event.{Event}
use Rattle.cp_try_rules.specs.declared.event.Event.TheVariants as event
use Rattle.cp_try_rules.specs.declared.event.Says.TheVariants as says
use Rattle.cp_try_rules.specs.declared.event.Sent.{Sent}
use Rattle.cp_try_rules.specs.declared.rows.Try.TheVariants as how
use Rattle.cp_try_rules.specs.Again.{may_again}
use Rattle.cp_try_rules.specs.Clients.{Client, Did, Asked, Pending, open_at, thread_at, with_thread}
use Rattle.cp_try_rules.specs.Events.{ClientState, client_after, client_step, client_steps, first_state, state_after, with_members, without_members}
use Rattle.cp_try_rules.specs.Laws.{IsToldSo, LosesIt, WasRefused, attempt_of, lost_return, sent_in}
use Rattle.cp_try_rules.specs.Steps.{Step, then_step}
use Rattle.cp_try_rules.specs.Tries.{Tries, begin_request, pause, says_to, told_each, tried_at, try_request}
use Rattle.cp_try_rules.proofs.EventWalk.{walk-if, walk-with, walk-without}
use Rattle.cp_try_rules.proofs.History.{Past, freed-by, open-call, past-first, past-hello, past-idle, past-knock, past-pause, past-told, past-try}
use Rattle.cp_try_rules.proofs.Threads.{contains-none, contains-one, contains-cases, none-some}
use Rattle.cp_try_rules.proofs.Walk.{KeptCalls, KeptTries, Outlived, RefusedLost, Tells, after_clock, call_of, knock, return_of}

-- ---- how a call ends

pub answered-same : (t u : ThreadNo) (n k : ℕ) (a : Answer) (e : Ending) → return_of t n e ≡ return_of u k (ending.Answered a)
    → (t ≡ u) × (n ≡ k) × (e ≡ ending.Answered a)
answered-same t u n k a e h = (ap (λ (r : Return). r.thread) h, ap (λ (r : Return). r.number) h, ap (λ (r : Return). r.ending) h)

pub answer-same : (a b : Answer) → ending.Answered a ≡ ending.Answered b → a ≡ b
answer-same a b e = cc

pub told-so : (e : Event) (t u : ThreadNo) (last : Answer) (why : EndedBy) → Tells e t last → last ≡ answer.Indeterminate why → t ≡ u → IsToldSo e (answer.Indeterminate why) u
told-so (event.Answered v g n a) t u last why tells is same = (tells.0 ∙ same, by tells.1) where
  by : (last ≡ a) ⊎ (last ≡ answer.OwnershipLost) → a ≡ answer.Indeterminate why
  by (inl p) = sym p ∙ is
  by (inr p) = cc
told-so (event.Calls v o) t u last why tells is same = cc
told-so (event.Passes ms) t u last why tells is same = cc
told-so (event.Welcomed m r) t u last why tells is same = cc
told-so (event.Refused v k g n why-not) t u last why tells is same = cc

loses-more : (e : Event) (sent more : List Sent) (a : Asked) → LosesIt e sent a → LosesIt e (sent ++ more) a
loses-more (event.Welcomed m r) sent more a h = (h.0, h.1, Contains-append_left sent more (attempt_of m h.0 h.1 a) h.2, h.3)
loses-more (event.Refused t k g n why) sent more a h = h
loses-more (event.Calls t o) sent more a h = h
loses-more (event.Passes ms) sent more a h = h
loses-more (event.Answered t g n b) sent more a h = h

module _ (me : ClientId) (e : Event) where
  -- why a call returns `lost`
  abbrev pub Blamed : List Sent → ThreadNo → ℕ → Type 0
  Blamed sent t n = ((a : Asked) × (a.call ≡ record { client = me; thread = t; number = n }) × (may_again a.op ≡ false) × LosesIt e sent a) ⊎ IsToldSo e (answer.Indeterminate ended_by.Lost) t

  abbrev pub AllBlamed : List Sent → List Return → Type 0
  AllBlamed sent returns = (t : ThreadNo) (n : ℕ) → Contains returns (lost_return t n) → Blamed sent t n

  blamed-more : (sent more : List Sent) (returns : List Return) → AllBlamed sent returns → AllBlamed (sent ++ more) returns
  blamed-more sent more returns all t n h = by (all t n h) where
    by : Blamed sent t n → Blamed (sent ++ more) t n
    by (inl cause) = inl (cause.0, cause.1, cause.2, loses-more e sent more cause.0 cause.3)
    by (inr so) = inr so

  blamed-none : (sent : List Sent) → AllBlamed sent []
  blamed-none sent t n h = absurd (contains-none (lost_return t n) h)

  -- a return that is no `lost`
  blamed-other : (sent : List Sent) (u : ThreadNo) (k : ℕ) (last : Ending) → (last ≡ ending.Answered (answer.Indeterminate ended_by.Lost) → ⊥) → AllBlamed sent (return_of u k last ∷ [])
  blamed-other sent u k last other t n h = absurd (other (answered-same u t k n (answer.Indeterminate ended_by.Lost) last (contains-one (return_of u k last) (lost_return t n) h)).2)

  blamed-answer : (sent : List Sent) (u : ThreadNo) (k : ℕ) (last : Answer) → Tells e u last → AllBlamed sent (return_of u k (ending.Answered last) ∷ [])
  blamed-answer sent u k last tells t n h = let same = answered-same u t k n (answer.Indeterminate ended_by.Lost) (ending.Answered last) (contains-one (return_of u k (ending.Answered last)) (lost_return t n) h) in
      inr (told-so e u t last ended_by.Lost tells (answer-same last (answer.Indeterminate ended_by.Lost) same.2) same.0)

  module _ (events : List Event) (among : Contains events e) where
    abbrev StepPast : Client → Tries → Step → Type 0
    StepPast c x s = (sent : List Sent) → Past me events sent c x → Past me events (sent ++ s.sent) s.did.client s.tries × AllBlamed (sent ++ s.sent) s.did.returns

    -- nothing is sent
    unsent-past : (sent : List Sent) (c : Client) (x : Tries) (returns : List Return) → Past me events sent c x → AllBlamed sent returns → Past me events (sent ++ []) c x × AllBlamed (sent ++ []) returns
    unsent-past sent c x returns past all = subst (λ now. Past me events now c x × AllBlamed now returns) (sym (append-nil sent)) (past, all)

    follows-past : (c : Client) (x : Tries) (s : Step) (f : Client → Tries → Step) → StepPast c x s → ((d : Client) (y : Tries) → StepPast d y (f d y)) → StepPast c x (then_step s f)
    follows-past c x s f first rest sent past = let one = first sent past in
        let next = f s.did.client s.tries in
        let two = rest s.did.client s.tries (sent ++ s.sent) one.0 in
        subst (λ now. Past me events now next.did.client next.tries × AllBlamed now (s.did.returns ++ next.did.returns)) (append_assoc sent s.sent next.sent)
        (two.0, λ t n h. by next t n (blamed-more (sent ++ s.sent) next.sent s.did.returns one.1) two.1 (Contains-append_cases s.did.returns next.did.returns (lost_return t n) h)) where
          by : (next : Step) (t : ThreadNo) (n : ℕ) → AllBlamed ((sent ++ s.sent) ++ next.sent) s.did.returns → AllBlamed ((sent ++ s.sent) ++ next.sent) next.did.returns
              → Contains s.did.returns (lost_return t n) ⊎ Contains next.did.returns (lost_return t n) → Blamed ((sent ++ s.sent) ++ next.sent) t n
          by next t n p q (inl h) = p t n h
          by next t n p q (inr h) = q t n h

    late-lost : (u : ThreadNo) → ending.Answered (answer.Indeterminate ended_by.Deadline) ≡ ending.Answered (answer.Indeterminate ended_by.Lost) → ⊥
    late-lost u h = cc

    ok-lost : ending.Answered answer.Ok ≡ ending.Answered (answer.Indeterminate ended_by.Lost) → ⊥
    ok-lost h = cc

    -- a thread that is idle
    idled : (sent : List Sent) (c : Client) (x : Tries) (t : ThreadNo) (n : ℕ) (returns : List Return) → (thread_at c t).number ≤ n → Past me events sent c x → AllBlamed sent returns
        → Past me events (sent ++ []) (with_thread c t (record { number = n; pending = None })) x × AllBlamed (sent ++ []) returns
    idled sent c x t n returns more past all = unsent-past sent (with_thread c t (record { number = n; pending = None })) x returns (past-idle me events sent c x t n more past) all

    -- an answer that ends a request, and tells of groups
    idled-told : (sent : List Sent) (c : Client) (x : Tries) (ended : List (Invocation × Answer)) (t : ThreadNo) (n : ℕ) (returns : List Return) → (thread_at c t).number ≤ n → Past me events sent c x → AllBlamed sent returns
        → Past me events (sent ++ []) (with_thread c t (record { number = n; pending = None })) (told_each ended x) × AllBlamed (sent ++ []) returns
    idled-told sent c x ended t n returns more past all = idled sent c (told_each ended x) t n returns more (past-told me events sent c x ended past) all

    past-calls : KeptCalls me e true StepPast
    past-calls = record {
      rests = λ c x sent past. unsent-past sent c x [] past (blamed-none sent);
      follows = follows-past;
      lates = λ c x t late sent past. idled sent c x t (thread_at c t).number (return_of t (thread_at c t).number (ending.Answered (answer.Indeterminate ended_by.Deadline)) ∷ []) (omega arith) past
          (blamed-other sent t (thread_at c t).number (ending.Answered (answer.Indeterminate ended_by.Deadline)) (late-lost t));
      asks = λ c x l t now timed sent past. let first = begin_request c.clock (record { group = now.group; call = record { client = me; thread = t; number = (thread_at c t).number + 1 }; op = now.op }) (told_each l.ended x) in (
        subst (λ more. Past me events (sent ++ more) (with_thread c t (record { number = (thread_at c t).number + 1; pending = Some now })) first.tries) (sym (append-nil first.sent))
            (past-first me events sent c.clock c (told_each l.ended x) t now (past-told me events sent c x l.ended past)),
        blamed-none (sent ++ (first.sent ++ [])),
      );
      does = λ c x l t sent past. idled-told sent c x l.ended t ((thread_at c t).number + 1) (return_of t ((thread_at c t).number + 1) (ending.Answered answer.Ok) ∷ []) (omega arith) past
          (blamed-other sent t ((thread_at c t).number + 1) (ending.Answered answer.Ok) ok-lost);
      ends = λ c x l t last tells sent past. idled-told sent c x l.ended t (thread_at c t).number (return_of t (thread_at c t).number (ending.Answered last) ∷ []) (omega arith) past
          (blamed-answer sent t (thread_at c t).number last tells);
      idles = λ c x l t sent past. idled-told sent c x l.ended t (thread_at c t).number [] (omega arith) past (blamed-none sent);
    }

    refused-lost : (why : Refusal) → ending.Refused why ≡ ending.Answered (answer.Indeterminate ended_by.Lost) → ⊥
    refused-lost why h = cc

    blaming : (c : Client) (x : Tries) (a : Asked) → open_at me a.call.thread c ≡ Some a → may_again a.op ≡ false → Outlived e x a ⊎ RefusedLost e a → (sent : List Sent) → Past me events sent c x
        → AllBlamed sent (return_of a.call.thread (thread_at c a.call.thread).number (ending.Answered (answer.Indeterminate ended_by.Lost)) ∷ [])
    blaming c x a held otherwise cause sent past t n h = inl (a, call ∙ same, otherwise, by cause) where
      call : a.call ≡ call_of me a.call.thread (thread_at c a.call.thread).number
      call = open-call me events a.call.thread (thread_at c a.call.thread).number (thread_at c a.call.thread).pending a held

      is : (a.call.thread ≡ t) × ((thread_at c a.call.thread).number ≡ n) × (ending.Answered (answer.Indeterminate ended_by.Lost) ≡ ending.Answered (answer.Indeterminate ended_by.Lost))
      is = answered-same a.call.thread t (thread_at c a.call.thread).number n (answer.Indeterminate ended_by.Lost) (ending.Answered (answer.Indeterminate ended_by.Lost))
          (contains-one (return_of a.call.thread (thread_at c a.call.thread).number (ending.Answered (answer.Indeterminate ended_by.Lost))) (lost_return t n) h)

      same : call_of me a.call.thread (thread_at c a.call.thread).number ≡ call_of me t n
      same = ap (λ u. call_of me u (thread_at c a.call.thread).number) is.0 ∙ ap (λ k. call_of me t k) is.1

      by : Outlived e x a ⊎ RefusedLost e a → LosesIt e sent a
      by (inl out) = let went = (past.0 a.call.thread).1 a out.0 out.2 out.4.0 held out.4.1 in subst (λ y. LosesIt y sent a) (sym out.3) (went.0, out.2, went.1, out.5)
      by (inr lost) = subst (λ y. LosesIt y sent a) (sym lost.1) (refl, refl, refl, refl)

    past-tries : KeptTries me e StepPast
    past-tries = record {
      knows = λ c x restarts targets s h. h;
      tries = λ c x a held ready sent past. (past-try me events sent c.clock c x a held past (freed-by me events e among sent c x a held past ready), blamed-none (sent ++ (try_request c.clock a x).sent));
      pauses = λ c x a held bounced sent past. unsent-past sent c (pause c.clock a.call.thread x) [] (past-pause me events e among sent c x a held bounced past) (blamed-none sent);
      knocks = λ c x a m r held went sent past. (past-hello me events sent m c (knock c.clock a m r x).tries (past-knock me events sent c x a m r held went past), blamed-none (sent ++ says_to m says.Hello));
      loses = λ c x a held otherwise cause sent past. idled sent c x a.call.thread (thread_at c a.call.thread).number
          (return_of a.call.thread (thread_at c a.call.thread).number (ending.Answered (answer.Indeterminate ended_by.Lost)) ∷ []) (omega arith) past (blaming c x a held otherwise cause sent past);
      greets = λ c x m sent past. (past-hello me events sent m c x past, blamed-none (sent ++ says_to m says.Hello));
      refuses = λ c x t why sent past. idled sent c x t (thread_at c t).number (return_of t (thread_at c t).number (ending.Refused why) ∷ []) (omega arith) past
          (blamed-other sent t (thread_at c t).number (ending.Refused why) (refused-lost why));
    }

    clock-past : (sent : List Sent) (y : Event) (c : Client) (x : Tries) → Past me events sent c x → Past me events sent (after_clock y c) x
    clock-past sent (event.Calls t o) c x past = past
    clock-past sent (event.Passes ms) c x past = past
    clock-past sent (event.Welcomed m r) c x past = past
    clock-past sent (event.Answered t g n a) c x past = past
    clock-past sent (event.Refused t k g n why) c x past = past

    pub step-past : (plan : Plan) (s : ClientState) (sent : List Sent) → Past me events sent s.calls s.tries
        → let step = with_members plan me e s.calls s.tries in Past me events (sent ++ step.sent) step.did.client step.tries × AllBlamed (sent ++ step.sent) step.did.returns
    step-past plan s sent past = walk-with plan me e StepPast past-calls past-tries e refl s.calls s.tries sent (clock-past sent e s.calls s.tries past)

  -- ---- without members nothing is sent

  abbrev StepAlone : Client → Tries → Step → Type 0
  StepAlone c x s = (s.sent ≡ []) × ((t : ThreadNo) (n : ℕ) → Contains s.did.returns (lost_return t n) → IsToldSo e (answer.Indeterminate ended_by.Lost) t)

  alone-none : (t : ThreadNo) (n : ℕ) → Contains [] (lost_return t n) → IsToldSo e (answer.Indeterminate ended_by.Lost) t
  alone-none t n h = absurd (contains-none (lost_return t n) h)

  alone-other : (u : ThreadNo) (k : ℕ) (last : Ending) → (last ≡ ending.Answered (answer.Indeterminate ended_by.Lost) → ⊥) → (t : ThreadNo) (n : ℕ) → Contains (return_of u k last ∷ []) (lost_return t n) → IsToldSo e (answer.Indeterminate ended_by.Lost) t
  alone-other u k last other t n h = absurd (other (answered-same u t k n (answer.Indeterminate ended_by.Lost) last (contains-one (return_of u k last) (lost_return t n) h)).2)

  alone-answer : (u : ThreadNo) (k : ℕ) (last : Answer) → Tells e u last → (t : ThreadNo) (n : ℕ) → Contains (return_of u k (ending.Answered last) ∷ []) (lost_return t n) → IsToldSo e (answer.Indeterminate ended_by.Lost) t
  alone-answer u k last tells t n h = let same = answered-same u t k n (answer.Indeterminate ended_by.Lost) (ending.Answered last) (contains-one (return_of u k (ending.Answered last)) (lost_return t n) h) in
      told-so e u t last ended_by.Lost tells (answer-same last (answer.Indeterminate ended_by.Lost) same.2) same.0

  deadline-lost : ending.Answered (answer.Indeterminate ended_by.Deadline) ≡ ending.Answered (answer.Indeterminate ended_by.Lost) → ⊥
  deadline-lost h = cc

  done-lost : ending.Answered answer.Ok ≡ ending.Answered (answer.Indeterminate ended_by.Lost) → ⊥
  done-lost h = cc

  alone-calls : KeptCalls me e false StepAlone
  alone-calls = record {
    rests = λ c x. (refl, alone-none);
    follows = λ c x s f first rest. let next = rest s.did.client s.tries in
        (ap (λ sent. sent ++ (f s.did.client s.tries).sent) first.0 ∙ next.0, λ t n h. by s (f s.did.client s.tries) t n first.1 next.1 (Contains-append_cases s.did.returns (f s.did.client s.tries).did.returns (lost_return t n) h));
    lates = λ c x t late. (refl, alone-other t (thread_at c t).number (ending.Answered (answer.Indeterminate ended_by.Deadline)) deadline-lost);
    asks = λ c x l t now timed. (refl, alone-none);
    does = λ c x l t. (refl, alone-other t ((thread_at c t).number + 1) (ending.Answered answer.Ok) done-lost);
    ends = λ c x l t last tells. (refl, alone-answer t (thread_at c t).number last tells);
    idles = λ c x l t. (refl, alone-none);
  } where
    by : (s next : Step) (t : ThreadNo) (n : ℕ) → ((t : ThreadNo) (n : ℕ) → Contains s.did.returns (lost_return t n) → IsToldSo e (answer.Indeterminate ended_by.Lost) t)
        → ((t : ThreadNo) (n : ℕ) → Contains next.did.returns (lost_return t n) → IsToldSo e (answer.Indeterminate ended_by.Lost) t)
        → Contains s.did.returns (lost_return t n) ⊎ Contains next.did.returns (lost_return t n) → IsToldSo e (answer.Indeterminate ended_by.Lost) t
    by s next t n p q (inl h) = p t n h
    by s next t n p q (inr h) = q t n h

  pub step-alone : (plan : Plan) (s : ClientState) → StepAlone (after_clock e s.calls) s.tries (without_members plan me e s.calls s.tries)
  step-alone plan s = walk-without plan me e StepAlone alone-calls e refl s.calls s.tries
