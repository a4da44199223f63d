-- Over every list of events, each attempt is of a request that began.
use Rattle.std.proofs.Common.{◌≡◌, ℕ, ◌+◌, ◌⊎◌, inl, inr, Bool, true, false, List, [], ◌∷◌, ◌++◌, Some, None, Option, refl, sym, subst, ap, ◌∙◌, arith, if◌then◌else◌}
use Rattle.std.specs.Prelude.{◌==◌, Contains}
use Rattle.std.proofs.lemmas.List.Elements.{Contains-append_left, Contains-append_right, Contains-append_cases}
use Rattle.cp_base.specs.declared.identifier.ClientId.{ClientId}
use Rattle.cp_base.specs.declared.identifier.ThreadNo.{ThreadNo}
use Rattle.cp_events.specs.declared.plan.Plan.{Plan}
use Rattle.cp_try_rules.specs.declared.event.Event.{Event}
use Rattle.cp_try_rules.specs.declared.event.Event.TheVariants as event
use Rattle.cp_try_rules.specs.declared.event.Says.TheVariants as says
use Rattle.cp_try_rules.specs.declared.event.Sent.{Sent}
use Rattle.cp_try_rules.specs.declared.rows.Try.TheVariants as how
use Rattle.cp_try_rules.specs.Clients.{Client, Did, Asked, Pending, Thread, as_asked, ask, new_client, open_at, thread_at, with_thread}
use Rattle.cp_try_rules.specs.Events.{ClientState, client_step, client_steps, first_state, state_after, with_members, without_members}
use Rattle.cp_try_rules.specs.Laws.{attempt_of, begun_in, sent_in}
use Rattle.cp_try_rules.specs.Steps.{Step, then_step}
use Rattle.cp_try_rules.specs.Tries.{Tries, Trying, begin_each, begin_request, fresh, may_try, restart_of, says_to, target_of, told_each, tried_at, try_request, try_to, unsent, with_tried}
use Rattle.cp_try_rules.proofs.EventWalk.{walk-if, walk-with, walk-without}
use Rattle.cp_try_rules.proofs.Threads.{contains-head, contains-none, contains-one, contains-tail, none-some, some-same, thread-cases}
use Rattle.cp_try_rules.proofs.Walk.{KeptCalls, KeptTries, after_clock, asking, doing, ending_call, gives, hello_to, idling}

-- a try is none, a Hello, or an attempt
pub try-cases : (clock : ℕ) (a : Asked) (x : Tries) (Q : Trying → Type 0) → Q (unsent x)
    → ((m : ℕ) → Q (record { tries = with_tried x a.call.thread (record { attempt = (tried_at x a.call.thread).attempt; last = Some (how.Hello m clock); paused = None }); sent = says_to m says.Hello }))
    → ((m r : ℕ) → Q (record { tries = with_tried x a.call.thread (record { attempt = (tried_at x a.call.thread).attempt + 1; last = Some (how.Attempt m r clock); paused = None }); sent = says_to m (says.Asks ((tried_at x a.call.thread).attempt + 1) r a) }))
    → Q (try_request clock a x)
try-cases clock a x Q none hello attempt = by (may_try a.call.thread x) where
  known : (m : ℕ) (o : Option ℕ) → Q (try_to clock a m o x)
  known m None = hello m
  known m (Some r) = attempt m r

  by : (b : Bool) → Q (if b then try_to clock a (target_of x a.group) (restart_of x (target_of x a.group)) x else unsent x)
  by true = known (target_of x a.group) (restart_of x (target_of x a.group))
  by false = none

pub no-attempt : (m m2 k r : ℕ) (a : Asked) → Contains (says_to m says.Hello) (attempt_of m2 k r a) → ⊥
no-attempt m m2 k r a h = by (ap (λ s. s.says) (contains-one (hello_to m) (attempt_of m2 k r a) h)) where
  by : says.Hello ≡ says.Asks k r a → ⊥
  by e = cc

pub says-same : (k k2 r r2 : ℕ) (a b : Asked) → says.Asks k r a ≡ says.Asks k2 r2 b → (k ≡ k2) × (r ≡ r2) × (a ≡ b)
says-same k k2 r r2 a b e = (cc, cc, cc)

module _ (me : ClientId) (P : Asked → Type 0) where
  -- it is so of each open request
  abbrev pub OpenAre : Client → Type 0
  OpenAre c = (u : ThreadNo) (a : Asked) → as_asked me u (thread_at c u).number (thread_at c u).pending ≡ Some a → P a

  abbrev pub AllAre : List Asked → Type 0
  AllAre asked = (a : Asked) → Contains asked a → P a

  -- of each that is attempted
  abbrev pub SayAll : List Sent → Type 0
  SayAll sent = (m k r : ℕ) (a : Asked) → Contains sent (attempt_of m k r a) → P a

  abbrev StepOk : Client → Tries → Step → Type 0
  StepOk c x s = OpenAre c → AllAre s.did.asked → OpenAre s.did.client × SayAll s.sent

  say-none : SayAll []
  say-none m k r a h = absurd (contains-none (attempt_of m k r a) h)

  say-both : (xs ys : List Sent) → SayAll xs → SayAll ys → SayAll (xs ++ ys)
  say-both xs ys first rest m k r a h = by (Contains-append_cases xs ys (attempt_of m k r a) h) where
    by : Contains xs (attempt_of m k r a) ⊎ Contains ys (attempt_of m k r a) → P a
    by (inl e) = first m k r a e
    by (inr e) = rest m k r a e

  say-try : (clock : ℕ) (a : Asked) (x : Tries) → P a → SayAll (try_request clock a x).sent
  say-try clock a x p = try-cases clock a x (λ y. SayAll y.sent) say-none (λ m n k r b h. absurd (no-attempt m n k r b h))
      (λ m r n k2 r2 b h. subst P (says-same ((tried_at x a.call.thread).attempt + 1) k2 r r2 a b (ap (λ s. s.says) (contains-one (attempt_of m ((tried_at x a.call.thread).attempt + 1) r a) (attempt_of n k2 r2 b) h))).2 p)

  row-open : (c : Client) (t : ThreadNo) (row : Thread) → ((a : Asked) → as_asked me t row.number row.pending ≡ Some a → P a) → OpenAre c → OpenAre (with_thread c t row)
  row-open c t row mine all = thread-cases (λ u w. (a : Asked) → as_asked me u w.number w.pending ≡ Some a → P a) c t row mine (λ u apart. all u)

  -- a thread without an open request
  row-idle : (c : Client) (t : ThreadNo) (n : ℕ) → OpenAre c → OpenAre (with_thread c t (record { number = n; pending = None }))
  row-idle c t n all = row-open c t (record { number = n; pending = None }) (λ a e. absurd (none-some e)) all

  -- no request begins
  none-begins : (b : Bool) (c : Client) (d : Did) (x : Tries) → d.asked ≡ [] → (OpenAre c → OpenAre d.client) → StepOk c x (gives b d x)
  none-begins true c d x none up = λ all begun. (up all, subst (λ asked. SayAll (begin_each d.client.clock asked (told_each d.ended x)).sent) (sym none) say-none)
  none-begins false c d x none up = λ all begun. (up all, say-none)

  -- one begins
  one-begins : (b : Bool) (c : Client) (d : Did) (a : Asked) (x : Tries) → d.asked ≡ a ∷ [] → (P a → OpenAre c → OpenAre d.client) → StepOk c x (gives b d x)
  one-begins true c d a x one up = λ all begun. let p = begun a (subst (λ asked. Contains asked a) (sym one) (contains-head a [])) in (
    up p all,
    subst (λ asked. SayAll (begin_each d.client.clock asked (told_each d.ended x)).sent) (sym one)
        (say-both (begin_request d.client.clock a (told_each d.ended x)).sent [] (say-try d.client.clock a (fresh a.call.thread (told_each d.ended x)) p) say-none),
  )
  one-begins false c d a x one up = λ all begun. (up (begun a (subst (λ asked. Contains asked a) (sym one) (contains-head a []))) all, say-none)

  begun-calls : (e : Event) (b : Bool) → KeptCalls me e b StepOk
  begun-calls e b = record {
    rests = λ c x all begun. (all, say-none);
    follows = λ c x s f first rest all begun.
        let one = first all (λ a h. begun a (Contains-append_left s.did.asked (f s.did.client s.tries).did.asked a h)) in
        let two = rest s.did.client s.tries one.0 (λ a h. begun a (Contains-append_right s.did.asked (f s.did.client s.tries).did.asked a h)) in
        (two.0, say-both s.sent (f s.did.client s.tries).sent one.1 two.1);
    lates = λ c x t late all begun. (row-idle c t (thread_at c t).number all, say-none);
    asks = λ c x l t now timed. one-begins b c (asking me t now l c) (record { group = now.group; call = record { client = me; thread = t; number = (thread_at c t).number + 1 }; op = now.op }) x refl
        (λ p all. row-open c t (record { number = (thread_at c t).number + 1; pending = Some now }) (λ a h. subst P (some-same h) p) all);
    does = λ c x l t. none-begins b c (doing t l c) x refl (row-idle c t ((thread_at c t).number + 1));
    ends = λ c x l t last tells. none-begins b c (ending_call t last l c) x refl (row-idle c t (thread_at c t).number);
    idles = λ c x l t. none-begins b c (idling t l c) x refl (row-idle c t (thread_at c t).number);
  }

  begun-tries : (e : Event) → KeptTries me e StepOk
  begun-tries e = record {
    knows = λ c x restarts targets s h. h;
    tries = λ c x a held ready all begun. (all, say-try c.clock a x (all a.call.thread a held));
    pauses = λ c x a held bounced all begun. (all, say-none);
    knocks = λ c x a m r held went all begun. (all, λ n k r2 b h. absurd (no-attempt m n k r2 b h));
    loses = λ c x a held otherwise cause all begun. (row-idle c a.call.thread (thread_at c a.call.thread).number all, say-none);
    greets = λ c x m all begun. (all, λ n k r b h. absurd (no-attempt m n k r b h));
    refuses = λ c x t why all begun. (row-idle c t (thread_at c t).number all, say-none);
  }

  clock-open : (e : Event) (c : Client) → OpenAre c → OpenAre (after_clock e c)
  clock-open (event.Calls t o) c all = all
  clock-open (event.Passes ms) c all = all
  clock-open (event.Welcomed m r) c all = all
  clock-open (event.Answered t g n a) c all = all
  clock-open (event.Refused t k g n why) c all = all

  module _ (plan : Plan) where
    step-ok : (s : ClientState) (e : Event) → OpenAre s.calls → AllAre (client_step plan me s e).did.asked → OpenAre (client_step plan me s e).did.client × SayAll (client_step plan me s e).sent
    step-ok s e all = walk-if StepOk (after_clock e s.calls) s.tries (plan.members == 0) (without_members plan me e s.calls s.tries) (with_members plan me e s.calls s.tries)
        (λ alone. walk-without plan me e StepOk (begun-calls e false) e refl s.calls s.tries)
        (λ members. walk-with plan me e StepOk (begun-calls e true) (begun-tries e) e refl s.calls s.tries) (clock-open e s.calls all)

    pub attempts-begun : (events : List Event) (s : ClientState) → OpenAre s.calls → AllAre (begun_in (client_steps plan me s events)) → SayAll (sent_in (client_steps plan me s events))
    attempts-begun [] s all begun = say-none
    attempts-begun (e ∷ events) s all begun = let step = client_step plan me s e in
        let later = client_steps plan me (state_after step) events in
        let one = step-ok s e all (λ a h. begun a (Contains-append_left step.did.asked (begun_in later) a h)) in
        say-both step.sent (sent_in later) one.1 (attempts-begun events (state_after step) one.0 (λ a h. begun a (Contains-append_right step.did.asked (begun_in later) a h)))

pub all-begun : (plan : Plan) (me : ClientId) (events : List Event) (m k r : ℕ) (a : Asked) → Contains (sent_in (client_steps plan me first_state events)) (attempt_of m k r a) → Contains (begun_in (client_steps plan me first_state events)) a
all-begun plan me events = attempts-begun me (λ a. Contains (begun_in (client_steps plan me first_state events)) a) plan events first_state (λ u a e. absurd (none-some e)) (λ a h. h)
