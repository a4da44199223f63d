-- Over every list of events, the numbers of a thread's requests rise.
use Rattle.std.proofs.Common.{◌≡◌, ℕ, ◌+◌, ◌⊎◌, inl, inr, Bool, true, false, List, [], ◌∷◌, ◌++◌, Some, None, Option, refl, sym, subst, ap, ◌∙◌, arith, if◌then◌else◌}
use Rattle.std.specs.Prelude.{◌==◌, ◌<◌, ◌≤◌, Contains}
use Rattle.std.proofs.lemmas.List.{append-nil, append_assoc}
use Rattle.std.proofs.lemmas.List.Elements.{Contains-push_cases}
use Rattle.cp_answers.specs.declared.ended_by.EndedBy.TheVariants as ended_by
use Rattle.cp_base.specs.declared.identifier.ClientId.{ClientId}
use Rattle.cp_base.specs.declared.identifier.ThreadNo.{ThreadNo}
use Rattle.cp_events.specs.declared.effects.Ending.TheVariants as ending
use Rattle.cp_events.specs.declared.plan.Plan.{Plan}
use Rattle.cp_try_rules.specs.declared.event.Event.{Event}
use Rattle.cp_try_rules.specs.declared.event.Event.TheVariants as event
use Rattle.cp_try_rules.specs.Answers.{end_call, end_unknown}
use Rattle.cp_try_rules.specs.Clients.{Client, Did, Asked, Pending, Thread, nothing, thread_at, with_thread}
use Rattle.cp_try_rules.specs.Events.{ClientState, client_step, client_steps, first_state, state_after, with_members, without_members}
use Rattle.cp_try_rules.specs.Laws.{NumbersRise, begun_in}
use Rattle.cp_try_rules.specs.Steps.{Step}
use Rattle.cp_try_rules.specs.Tries.{Tries}
use Rattle.cp_try_rules.proofs.EventWalk.{walk-if, walk-with, walk-without}
use Rattle.cp_try_rules.proofs.Threads.{contains-cases, contains-head, contains-none, contains-tail, thread-cases}
use Rattle.cp_try_rules.proofs.Walk.{KeptCalls, KeptTries, Learned, after_clock, asking, doing, ending_call, gives, idling}

-- the requests have no greater numbers than their threads
abbrev pub BelowAt : List Asked → ThreadNo → ℕ → Type 0
BelowAt begun u n = (b : Asked) → b.call.thread ≡ u → Contains begun b → b.call.number ≤ n

abbrev pub Below : List Asked → Client → Type 0
Below begun c = (u : ThreadNo) → BelowAt begun u (thread_at c u).number

rise-push : (begun : List Asked) (a : Asked) → NumbersRise begun → ((b : Asked) → Contains begun b → b.call.thread ≡ a.call.thread → b.call.number < a.call.number) → NumbersRise (begun ++ a ∷ [])
rise-push [] a rise less = (λ b h same. absurd (contains-none b h), refl)
rise-push (x ∷ begun) a rise less = (first, rise-push begun a rise.1 (λ b h same. less b (contains-tail x begun b h) same)) where
  first : (b : Asked) → Contains (begun ++ a ∷ []) b → x.call.thread ≡ b.call.thread → x.call.number < b.call.number
  first b h same = by (Contains-push_cases begun a b h) where
    by : Contains begun b ⊎ (a ≡ b) → x.call.number < b.call.number
    by (inl old) = rise.0 b old same
    by (inr new) = subst (λ y. x.call.number < y.call.number) new (less x (contains-head x begun) (same ∙ ap (λ y. y.call.thread) (sym new)))

-- two requests of one call are one
pub rise-same : (begun : List Asked) → NumbersRise begun → (a b : Asked) → Contains begun a → Contains begun b → a.call ≡ b.call → a ≡ b
rise-same [] rise a b ha hb same = absurd (contains-none a ha)
rise-same (x ∷ begun) rise a b ha hb same = by (λ p q. rise-same begun rise.1 a b p q same) (contains-cases x begun a ha) (contains-cases x begun b hb) where
  thread : a.call.thread ≡ b.call.thread
  thread = ap (λ i. i.thread) same

  number : a.call.number ≡ b.call.number
  number = ap (λ i. i.number) same

  ahead : (y z : Asked) → x ≡ y → Contains begun z → y.call.thread ≡ z.call.thread → y.call.number ≡ z.call.number → ⊥
  ahead y z is h t n = let less : y.call.number < z.call.number = subst (λ w. w.call.number < z.call.number) is (rise.0 z h (ap (λ w. w.call.thread) is ∙ t)) in omega (arith, less, n)

  by : (Contains begun a → Contains begun b → a ≡ b) → (x ≡ a) ⊎ Contains begun a → (x ≡ b) ⊎ Contains begun b → a ≡ b
  by later (inl p) (inl q) = sym p ∙ q
  by later (inl p) (inr q) = absurd (ahead a b p q thread number)
  by later (inr p) (inl q) = absurd (ahead b a q p (sym thread) (sym number))
  by later (inr p) (inr q) = later p q

abbrev DidRises : Client → Did → Type 0
DidRises c d = (begun : List Asked) → NumbersRise begun → Below begun c → NumbersRise (begun ++ d.asked) × Below (begun ++ d.asked) d.client

abbrev StepRises : Client → Tries → Step → Type 0
StepRises c x s = DidRises c s.did

-- no request begins
rises-none : (c : Client) (d : Did) → d.asked ≡ [] → ((begun : List Asked) → Below begun c → Below begun d.client) → DidRises c d
rises-none c d none up begun rise below = subst (λ asked. NumbersRise (begun ++ asked) × Below (begun ++ asked) d.client) (sym none)
    (subst (λ all. NumbersRise all × Below all d.client) (sym (append-nil begun)) (rise, up begun below))

rises-still : (c : Client) → DidRises c (nothing c)
rises-still c = rises-none c (nothing c) refl (λ begun below. below)

-- the row of a thread is written, with a number that is no less
row-below : (c : Client) (t : ThreadNo) (row : Thread) → (thread_at c t).number ≤ row.number → (begun : List Asked) → Below begun c → Below begun (with_thread c t row)
row-below c t row more begun below = thread-cases (λ u w. BelowAt begun u w.number) c t row (λ b is h. let less = below t b is h in omega (arith, less, more)) (λ u apart. below u)

module _ (me : ClientId) where
  given-did : (b : Bool) (d : Did) (x : Tries) → (gives b d x).did ≡ d
  given-did true d x = refl
  given-did false d x = refl

  new-below : (c : Client) (t : ThreadNo) (a : Asked) (row : Thread) → a.call.thread ≡ t → a.call.number ≡ (thread_at c t).number + 1 → row.number ≡ (thread_at c t).number + 1
      → (begun : List Asked) → Below begun c → Below (begun ++ a ∷ []) (with_thread c t row)
  new-below c t a row thread number rows begun below = thread-cases (λ u w. BelowAt (begun ++ a ∷ []) u w.number) c t row mine others where
    both : (u : ThreadNo) (n : ℕ) (b : Asked) → b.call.thread ≡ u → Contains begun b ⊎ (a ≡ b) → (Contains begun b → b.call.number ≤ n) → (a ≡ b → b.call.number ≤ n) → b.call.number ≤ n
    both u n b is (inl old) f g = f old
    both u n b is (inr new) f g = g new

    mine : BelowAt (begun ++ a ∷ []) t row.number
    mine b is h = both t row.number b is (Contains-push_cases begun a b h) (λ old. let less = below t b is old in omega (arith, less, rows)) (λ new. let same : a.call.number ≡ b.call.number = ap (λ y. y.call.number) new in omega (arith, same, number, rows))

    others : (u : ThreadNo) → (t ≡ u → ⊥) → BelowAt (begun ++ a ∷ []) u (thread_at c u).number
    others u apart b is h = both u (thread_at c u).number b is (Contains-push_cases begun a b h) (λ old. below u b is old) (λ new. absurd (apart (sym thread ∙ ap (λ y. y.call.thread) new ∙ is)))

  -- one begins
  rises-one : (c : Client) (t : ThreadNo) (now : Pending) (l : Learned) → DidRises c (asking me t now l c)
  rises-one c t now l begun rise below = let a : Asked = record { group = now.group; call = record { client = me; thread = t; number = (thread_at c t).number + 1 }; op = now.op } in
      (rise-push begun a rise (λ b h same. let less = below t b same h in omega (arith, less)), new-below c t a (record { number = (thread_at c t).number + 1; pending = Some now }) refl refl refl begun below)

  -- a thread that is idle, with a number that is no less
  rises-idle : (c : Client) (t : ThreadNo) (n : ℕ) → (thread_at c t).number ≤ n → (begun : List Asked) → Below begun c → Below begun (with_thread c t (record { number = n; pending = None }))
  rises-idle c t n more = row-below c t (record { number = n; pending = None }) more

  given : (b : Bool) (c : Client) (d : Did) (x : Tries) → DidRises c d → DidRises c (gives b d x).did
  given b c d x h = subst (DidRises c) (sym (given-did b d x)) h

  rises-calls : (e : Event) (b : Bool) → KeptCalls me e b StepRises
  rises-calls e b = record {
    rests = λ c x. rises-still c;
    follows = λ c x s f first rest begun rise below. let one = first begun rise below in
        subst (λ all. NumbersRise all × Below all (f s.did.client s.tries).did.client) (append_assoc begun s.did.asked (f s.did.client s.tries).did.asked)
        (rest s.did.client s.tries (begun ++ s.did.asked) one.0 one.1);
    lates = λ c x t late. rises-none c (end_unknown t ended_by.Deadline c) refl (rises-idle c t (thread_at c t).number (omega arith));
    asks = λ c x l t now timed. given b c (asking me t now l c) x (rises-one c t now l);
    does = λ c x l t. given b c (doing t l c) x (rises-none c (doing t l c) refl (rises-idle c t ((thread_at c t).number + 1) (omega arith)));
    ends = λ c x l t last tells. given b c (ending_call t last l c) x (rises-none c (ending_call t last l c) refl (rises-idle c t (thread_at c t).number (omega arith)));
    idles = λ c x l t. given b c (idling t l c) x (rises-none c (idling t l c) refl (rises-idle c t (thread_at c t).number (omega arith)));
  }

  rises-tries : (e : Event) → KeptTries me e StepRises
  rises-tries e = record {
    knows = λ c x restarts targets s h. h;
    tries = λ c x a held ready. rises-still c;
    pauses = λ c x a held bounced. rises-still c;
    knocks = λ c x a m r held went. rises-still c;
    loses = λ c x a held otherwise cause. rises-none c (end_unknown a.call.thread ended_by.Lost c) refl (rises-idle c a.call.thread (thread_at c a.call.thread).number (omega arith));
    greets = λ c x m. rises-still c;
    refuses = λ c x t why. rises-none c (end_call t (ending.Refused why) c) refl (rises-idle c t (thread_at c t).number (omega arith));
  }

  clock-below : (e : Event) (c : Client) (begun : List Asked) → Below begun c → Below begun (after_clock e c)
  clock-below (event.Calls t o) c begun below = below
  clock-below (event.Passes ms) c begun below = below
  clock-below (event.Welcomed m r) c begun below = below
  clock-below (event.Answered t g n a) c begun below = below
  clock-below (event.Refused t k g n why) c begun below = below

  module _ (plan : Plan) where
    step-rises : (s : ClientState) (e : Event) → StepRises (after_clock e s.calls) s.tries (client_step plan me s e)
    step-rises s e = walk-if StepRises (after_clock e s.calls) s.tries (plan.members == 0) (without_members plan me e s.calls s.tries) (with_members plan me e s.calls s.tries)
        (λ alone. walk-without plan me e StepRises (rises-calls e false) e refl s.calls s.tries)
        (λ members. walk-with plan me e StepRises (rises-calls e true) (rises-tries e) e refl s.calls s.tries)

    all-rise : (events : List Event) (s : ClientState) (begun : List Asked) → NumbersRise begun → Below begun s.calls → NumbersRise (begun ++ begun_in (client_steps plan me s events))
    all-rise [] s begun rise below = subst NumbersRise (sym (append-nil begun)) rise
    all-rise (e ∷ events) s begun rise below = let step = client_step plan me s e in
        let one = step-rises s e begun rise (clock-below e s.calls begun below) in
        subst NumbersRise (append_assoc begun step.did.asked (begun_in (client_steps plan me (state_after step) events)))
        (all-rise events (state_after step) (begun ++ step.did.asked) one.0 one.1)

    pub requests-rise : (events : List Event) → NumbersRise (begun_in (client_steps plan me first_state events))
    requests-rise events = all-rise events first_state [] refl (λ u b is h. absurd (contains-none b h))
