-- Laws over every list of a client's events.
use Rattle.cp_base.specs.declared.identifier.ClientId.{ClientId}
use Rattle.cp_base.specs.declared.identifier.ThreadNo.{ThreadNo}
use Rattle.std.specs.Prelude.{◌≡◌, ◌≢◌, ◌⊎◌, ◌<◌, ◌≤◌, ℕ, ◌+◌, ◌==◌, Bool, true, false, List, [], ◌∷◌, ◌++◌, Option, Some, None, if◌then◌else◌, Contains}
use Rattle.cp_answers.specs.declared.answer.Answer.{Answer}
use Rattle.cp_answers.specs.declared.answer.Answer.TheVariants as answer
use Rattle.cp_answers.specs.declared.ended_by.EndedBy.TheVariants as ended_by
use Rattle.cp_answers.specs.declared.refusal.Refusal.{Refusal}
use Rattle.cp_answers.specs.declared.refusal.Refusal.TheVariants as refusal
use Rattle.cp_client_rules.specs.Asking.{wish_of}
use Rattle.cp_client_rules.specs.Calls.{patience}
use Rattle.cp_events.specs.declared.effects.Ending.TheVariants as ending
use Rattle.cp_events.specs.declared.effects.Return.{Return}
use Rattle.cp_events.specs.declared.plan.Plan.{Plan}
use Rattle.cp_events.specs.declared.user_op.UserOp.{UserOp}
use Rattle.cp_try_rules.specs.declared.choices.Turn.{Turn}
use Rattle.cp_try_rules.specs.declared.choices.Turn.TheVariants as turn
use Rattle.cp_try_rules.specs.declared.event.Event.{Event}
use Rattle.cp_try_rules.specs.declared.event.Event.TheVariants as event
use Rattle.cp_try_rules.specs.declared.event.Says.{Says}
use Rattle.cp_try_rules.specs.declared.event.Says.TheVariants as says
use Rattle.cp_try_rules.specs.declared.event.Sent.{Sent}
use Rattle.cp_try_rules.specs.Again.{may_again}
use Rattle.cp_try_rules.specs.Clients.{Asked}
use Rattle.cp_try_rules.specs.Events.{client_after, client_step, client_steps, first_state}
use Rattle.cp_try_rules.specs.Refusals.{turn_of}
use Rattle.cp_try_rules.specs.Steps.{Step}
use Rattle.cp_try_rules.specs.Ticks.{user_thread}
use Rattle.cp_try_rules.specs.Tries.{Tries, tried_at}

-- all that was sent, and all requests that began
abbrev pub sent_in : List Step → List Sent
sent_in [] = []
sent_in (s ∷ steps) = s.sent ++ sent_in steps

abbrev pub begun_in : List Step → List Asked
begun_in [] = []
begun_in (s ∷ steps) = s.did.asked ++ begun_in steps

module _ (plan : Plan) (me : ClientId) where
  -- what a new client sends at these events, and the requests that begin
  abbrev pub sent_by : List Event → List Sent
  sent_by events = sent_in (client_steps plan me first_state events)

  abbrev pub begun_by : List Event → List Asked
  begun_by events = begun_in (client_steps plan me first_state events)

-- an attempt of a request, to this member in its start of this number
abbrev pub attempt_of : ℕ → ℕ → ℕ → Asked → Sent
attempt_of m k r a = record { to = m; says = says.Asks k r a }

-- ---- numbers

-- the number of an attempt, where it is one of this thread
abbrev pub attempt_in : ℕ → Says → Option ℕ
attempt_in t says.Hello = None
attempt_in t (says.Asks k r a) = if a.call.thread.0 == t then Some k else None

abbrev pub counts_on : Option ℕ → ℕ → (ℕ → Type 0) → Type 0
counts_on None n rest = rest n
counts_on (Some k) n rest = (k ≡ n + 1) × rest k

-- The attempts of a thread are numbered one by one, after this number, up to that.
abbrev pub IsCounted : ℕ → List Sent → ℕ → ℕ → Type 0
IsCounted t [] n m = n ≡ m
IsCounted t (s ∷ sent) n m = counts_on (attempt_in t s.says) n (λ k. IsCounted t sent k m)

abbrev pub last_attempt : ℕ → Tries → ℕ
last_attempt t tries = (tried_at tries (user_thread t)).attempt

-- The attempts of a thread are numbered 1, 2, 3 and so on, over all its requests.
abbrev pub AttemptsAreCounted : Type 0
AttemptsAreCounted = (plan : Plan) (me : ClientId) (events : List Event) (t : ℕ) →
    IsCounted t (sent_by plan me events) 0 (last_attempt t (client_after plan me first_state events).tries)

-- what an earlier request and a later one have in common
abbrev pub NumbersRise : List Asked → Type 0
NumbersRise [] = true ≡ true
NumbersRise (a ∷ asked) = ((b : Asked) → Contains asked b → a.call.thread ≡ b.call.thread → a.call.number < b.call.number) × NumbersRise asked

-- The numbers of a thread's requests rise.
abbrev pub RequestsRise : Type 0
RequestsRise = (plan : Plan) (me : ClientId) (events : List Event) → NumbersRise (begun_by plan me events)

-- ---- what is said

-- Each attempt is of a request that began.
abbrev pub AttemptsHaveBegun : Type 0
AttemptsHaveBegun = (plan : Plan) (me : ClientId) (events : List Event) (m k r : ℕ) (a : Asked) →
    Contains (sent_by plan me events) (attempt_of m k r a) → Contains (begun_by plan me events) a

-- Two attempts of one thread and number ask the same of the same group.
abbrev pub AttemptsSayTheSame : Type 0
AttemptsSayTheSame = (plan : Plan) (me : ClientId) (events : List Event) (m m2 k k2 r r2 : ℕ) (a b : Asked) →
    Contains (sent_by plan me events) (attempt_of m k r a) → Contains (sent_by plan me events) (attempt_of m2 k2 r2 b) → a.call ≡ b.call → a ≡ b

-- ---- at most one attempt is not refused

-- the refusals after which a request goes out again, whatever it asks: the member made no entry of it
abbrev pub goes_on : Turn → Bool
goes_on (turn.Follows m) = true
goes_on turn.Moves = true
goes_on turn.Waits = true
goes_on other = false

-- An event refuses this attempt of the request so.
abbrev pub WasRefused : List Event → ℕ → Asked → Type 0
WasRefused events k a = (why : Refusal) × (goes_on (turn_of why) ≡ true) × Contains events (event.Refused a.call.thread k a.group a.call.number why)

-- A request that may not be sent again goes into a further attempt only where each earlier one was refused before. (Each
-- list of events is meant: so "before" is in what happened up to the further attempt.)
abbrev pub OnlyAfterRefusals : Type 0
OnlyAfterRefusals = (plan : Plan) (me : ClientId) (events : List Event) (m m2 k k2 r r2 : ℕ) (a : Asked) → may_again a.op ≡ false →
    Contains (sent_by plan me events) (attempt_of m k r a) → Contains (sent_by plan me events) (attempt_of m2 k2 r2 a) → k < k2 → WasRefused events k a

-- ---- calls of which nobody knows whether they took effect

abbrev pub lost_return : ThreadNo → ℕ → Return
lost_return t n = record { thread = t; number = n; ending = ending.Answered (answer.Indeterminate ended_by.Lost) }

abbrev pub late_return : ThreadNo → ℕ → Return
late_return t n = record { thread = t; number = n; ending = ending.Answered (answer.Indeterminate ended_by.Deadline) }

-- The event tells that the request may be lost: a member refuses it so, or tells a greater restart number than that to
-- which one of the request's attempts went.
abbrev pub LosesIt : Event → List Sent → Asked → Type 0
LosesIt (event.Welcomed m r) sent a = (k : ℕ) × (restart : ℕ) × Contains sent (attempt_of m k restart a) × (restart < r)
LosesIt (event.Refused t k g n why) sent a = (a.call.thread ≡ t) × (a.group ≡ g) × (a.call.number ≡ n) × (why ≡ refusal.Lost)
LosesIt other sent a = true ≡ false

-- no member gives such an answer
abbrev pub IsToldSo : Event → Answer → ThreadNo → Type 0
IsToldSo (event.Answered t g n a) told u = (t ≡ u) × (a ≡ told)
IsToldSo other told u = true ≡ false

-- Where a call returns `lost`, its request may not be sent again, and this event tells that it may be lost.
abbrev pub LossesHaveCauses : Type 0
LossesHaveCauses = (plan : Plan) (me : ClientId) (events : List Event) (e : Event) (t : ThreadNo) (n : ℕ) →
    Contains (client_step plan me (client_after plan me first_state events) e).did.returns (lost_return t n) →
    ((a : Asked) × (a.call ≡ record { client = me; thread = t; number = n }) × (may_again a.op ≡ false)
    × LosesIt e (sent_by plan me events ++ (client_step plan me (client_after plan me first_state events) e).sent) a)
    ⊎ IsToldSo e (answer.Indeterminate ended_by.Lost) t

-- how far the clock moved
abbrev pub moved_by : Event → ℕ
moved_by (event.Passes ms) = ms
moved_by other = 0

abbrev pub passed : List Event → ℕ
passed [] = 0
passed (e ∷ events) = moved_by e + passed events

-- the event is no call of this thread
abbrev pub IsNoCall : ThreadNo → Event → Type 0
IsNoCall t (event.Calls u o) = u ≢ t
IsNoCall t other = true ≡ true

-- since its last call in `before`, which was `o`, the thread has made none, and the clock moved so far
pub record IsCalled (events : List Event) (t : ThreadNo) : Type 0 where
  pub before : List Event
  pub op : UserOp
  pub since : List Event
  pub split : events ≡ before ++ event.Calls t op ∷ since
  pub none : (e : Event) → Contains since e → IsNoCall t e

-- Where a call returns because of its deadline, the clock has moved since that call by 60,000 ms and what it wishes.
abbrev pub DelaysHaveCauses : Type 0
DelaysHaveCauses = (plan : Plan) (me : ClientId) (events : List Event) (e : Event) (t : ThreadNo) (n : ℕ) →
    Contains (client_step plan me (client_after plan me first_state events) e).did.returns (late_return t n) →
    ((call : IsCalled (events ++ e ∷ []) t) × (ms : ℕ) × (wish_of call.op ≡ Some ms) × (patience + ms ≤ passed call.since))
    ⊎ IsToldSo e (answer.Indeterminate ended_by.Deadline) t
