-- Each step of a client is made of a few small ones. What is so of these, and of one after the other, is so of each step.
use Rattle.std.proofs.Common.{◌≡◌, ℕ, ◌+◌, ◌⊎◌, inl, inr, Bool, true, false, List, [], ◌∷◌, ◌++◌, Some, None, Option, refl, sym, subst, ap, ◌∙◌, arith, if◌then◌else◌}
use Rattle.std.specs.Prelude.{◌==◌, ◌&&◌, ◌<◌, nat_lt}
use Rattle.cp_answers.specs.declared.answer.Answer.{Answer}
use Rattle.cp_answers.specs.declared.answer.Answer.TheVariants as answer
use Rattle.cp_answers.specs.declared.ended_by.EndedBy.TheVariants as ended_by
use Rattle.cp_answers.specs.declared.refusal.Refusal.{Refusal}
use Rattle.cp_answers.specs.declared.refusal.Refusal.TheVariants as refusal
use Rattle.cp_base.specs.declared.identifier.ClientId.{ClientId}
use Rattle.cp_base.specs.declared.identifier.Invocation.{Invocation}
use Rattle.cp_base.specs.declared.identifier.ThreadNo.{ThreadNo}
use Rattle.cp_client_rules.specs.Asking.{wish_of}
use Rattle.cp_client_rules.specs.Calls.{deadline_of}
use Rattle.cp_events.specs.declared.effects.Ending.{Ending}
use Rattle.cp_events.specs.declared.effects.Ending.TheVariants as ending
use Rattle.cp_events.specs.declared.effects.Return.{Return}
use Rattle.cp_events.specs.declared.effects.Opened.{Opened}
use Rattle.cp_events.specs.declared.plan.Plan.{Plan}
use Rattle.cp_events.specs.declared.user_op.UserOp.{UserOp}
use Rattle.cp_try_rules.specs.declared.event.Event.{Event}
use Rattle.cp_try_rules.specs.declared.event.Event.TheVariants as event
use Rattle.cp_try_rules.specs.declared.event.Says.TheVariants as says
use Rattle.cp_try_rules.specs.declared.event.Sent.{Sent}
use Rattle.cp_try_rules.specs.declared.rows.Try.TheVariants as how
use Rattle.cp_try_rules.specs.Again.{may_again}
use Rattle.cp_try_rules.specs.Answers.{end_call, end_unknown}
use Rattle.cp_try_rules.specs.Clients.{Client, Did, Asked, Holds, Names, Pending, Sessions, ask, done_at_once, idle, nothing, open_at, thread_at}
use Rattle.cp_try_rules.specs.Laws.{goes_on}
use Rattle.cp_try_rules.specs.Refusals.{turn_of}
use Rattle.cp_try_rules.specs.Steps.{Step, quietly, stays, then_step, tries_only, with_tries}
use Rattle.cp_try_rules.specs.Ticks.{is_late, own_thread}
use Rattle.cp_try_rules.specs.Tries.{Tries, Trying, pause, says_to, tried_at, try_request, with_tried}

-- what a client learns at an event beside its threads, and what is told of that
pub record Learned : Type 0 where
  pub names : Names
  pub sessions : Sessions
  pub holds : Holds
  pub ended : List (Invocation × Answer)
  pub opened : List Opened

abbrev pub learns : Learned → Client → Client
learns l c = record c { names = l.names; sessions = l.sessions; holds = l.holds }

-- nothing new
abbrev pub knows_all : Client → Learned
knows_all c = record { names = c.names; sessions = c.sessions; holds = c.holds; ended = []; opened = [] }

-- the same holds; other groups and sessions
abbrev pub learned : Names → Sessions → List (Invocation × Answer) → List Opened → Client → Learned
learned names sessions ended opened c = record { names = names; sessions = sessions; holds = c.holds; ended = ended; opened = opened }

-- a request begins; a call is done without one; an answer ends a call, or a beat
abbrev pub asking : ClientId → ThreadNo → Pending → Learned → Client → Did
asking me t now l c = record (ask me t now (learns l c)) { ended = l.ended; opened = l.opened }

abbrev pub doing : ThreadNo → Learned → Client → Did
doing t l c = record (done_at_once t (learns l c)) { ended = l.ended; opened = l.opened }

abbrev pub ending_call : ThreadNo → Answer → Learned → Client → Did
ending_call t last l c = record (end_call t (ending.Answered last) (learns l c)) { ended = l.ended }

abbrev pub idling : ThreadNo → Learned → Client → Did
idling t l c = record (nothing (idle t (learns l c))) { ended = l.ended }

-- the open request of a thread
abbrev pub asked_as : ClientId → ThreadNo → Client → Pending → Asked
asked_as me t c now = record { group = now.group; call = record { client = me; thread = t; number = (thread_at c t).number }; op = now.op }

-- how a call ends
abbrev pub return_of : ThreadNo → ℕ → Ending → Return
return_of t n e = record { thread = t; number = n; ending = e }

-- a Hello to a member
abbrev pub hello_to : ℕ → Sent
hello_to m = record { to = m; says = says.Hello }

-- a thread's request
abbrev pub call_of : ClientId → ThreadNo → ℕ → Invocation
call_of me t n = record { client = me; thread = t; number = n }

-- what its calls did is tried, or not
abbrev pub gives : Bool → Did → Tries → Step
gives true d x = with_tries d x
gives false d x = quietly d x

-- the client once its clock has moved
abbrev pub after_clock : Event → Client → Client
after_clock (event.Passes ms) c = record c { clock = c.clock + ms }
after_clock other c = c

-- a Hello to the member of an attempt
abbrev pub knock : ℕ → Asked → ℕ → ℕ → Tries → Trying
knock clock a m r x = record {
  tries = with_tried x a.call.thread (record (tried_at x a.call.thread) { last = Some (how.Attempt m r clock) });
  sent = says_to m says.Hello;
}

-- the thread of a request waits for a member's restart number
abbrev pub Waits : Tries → Asked → Type 0
Waits x a = (m : ℕ) × (at : ℕ) × ((tried_at x a.call.thread).last ≡ Some (how.Hello m at))

-- it pauses
abbrev pub Pauses : Tries → Asked → Type 0
Pauses x a = (since : ℕ) × ((tried_at x a.call.thread).paused ≡ Some since)

-- its last try was an attempt at this member
abbrev pub WentTo : Tries → Asked → ℕ → ℕ → Type 0
WentTo x a m r = (at : ℕ) × ((tried_at x a.call.thread).last ≡ Some (how.Attempt m r at))

-- this event refuses its last attempt, and it goes on
abbrev pub Bounces : Event → Tries → Asked → Type 0
Bounces e x a = (why : Refusal) × (goes_on (turn_of why) ≡ true) × (e ≡ event.Refused a.call.thread (tried_at x a.call.thread).attempt a.group a.call.number why)

-- why an open request is tried
abbrev pub IsReady : Event → Tries → Asked → Type 0
IsReady e x a = Waits x a ⊎ ((may_again a.op ≡ true) ⊎ (Pauses x a ⊎ Bounces e x a))

-- why it may be lost
abbrev pub Outlived : Event → Tries → Asked → Type 0
Outlived e x a = (m : ℕ) × (r : ℕ) × (restart : ℕ) × (e ≡ event.Welcomed m r) × WentTo x a m restart × (restart < r)

abbrev pub RefusedLost : Event → Asked → Type 0
RefusedLost e a = (k : ℕ) × (e ≡ event.Refused a.call.thread k a.group a.call.number refusal.Lost)

-- the deadline of a request that begins: that of its call
abbrev pub IsTimed : Event → Client → ThreadNo → Pending → Type 0
IsTimed e c t now = ((o : UserOp) × (e ≡ event.Calls t o) × (now.deadline ≡ deadline_of c.clock (wish_of o)))
    ⊎ (((old : Pending) × ((thread_at c t).pending ≡ Some old) × (now.deadline ≡ old.deadline)) ⊎ (now.deadline ≡ None))

-- the call ends by the answer that came, or by the client's word for it
abbrev pub Tells : Event → ThreadNo → Answer → Type 0
Tells (event.Answered u g n a) t last = (u ≡ t) × ((last ≡ a) ⊎ (last ≡ answer.OwnershipLost))
Tells other t last = true ≡ false

-- What is so of the calls' part of a step, with tries or without: nothing is done, one step after another, the ends of calls,
-- the requests that begin.
pub record KeptCalls (me : ClientId) (e : Event) (b : Bool) (R : Client → Tries → Step → Type 0) : Type 0 where
  pub rests : (c : Client) (x : Tries) → R c x (stays c x)
  pub follows : (c : Client) (x : Tries) (s : Step) (f : Client → Tries → Step) → R c x s → ((d : Client) (y : Tries) → R d y (f d y)) → R c x (then_step s f)
  pub lates : (c : Client) (x : Tries) (t : ThreadNo) → is_late c.clock (thread_at c t).pending ≡ true → R c x (quietly (end_unknown t ended_by.Deadline c) x)
  pub asks : (c : Client) (x : Tries) (l : Learned) (t : ThreadNo) (now : Pending) → IsTimed e c t now → R c x (gives b (asking me t now l c) x)
  pub does : (c : Client) (x : Tries) (l : Learned) (t : ThreadNo) → R c x (gives b (doing t l c) x)
  pub ends : (c : Client) (x : Tries) (l : Learned) (t : ThreadNo) (last : Answer) → Tells e t last → R c x (gives b (ending_call t last l c) x)
  pub idles : (c : Client) (x : Tries) (l : Learned) (t : ThreadNo) → R c x (gives b (idling t l c) x)

-- What is so of the tries' part.
pub record KeptTries (me : ClientId) (e : Event) (R : Client → Tries → Step → Type 0) : Type 0 where
  -- members and groups are known otherwise
  pub knows : (c : Client) (x : Tries) (restarts targets : List (ℕ × ℕ)) (s : Step) → R c (record x { restarts = restarts; targets = targets }) s → R c x s
  -- an open request is tried, pauses, has its member asked, is lost
  pub tries : (c : Client) (x : Tries) (a : Asked) → open_at me a.call.thread c ≡ Some a → IsReady e x a → R c x (tries_only c (try_request c.clock a x))
  pub pauses : (c : Client) (x : Tries) (a : Asked) → open_at me a.call.thread c ≡ Some a → Bounces e x a → R c x (stays c (pause c.clock a.call.thread x))
  pub knocks : (c : Client) (x : Tries) (a : Asked) (m r : ℕ) → open_at me a.call.thread c ≡ Some a → WentTo x a m r → R c x (tries_only c (knock c.clock a m r x))
  pub loses : (c : Client) (x : Tries) (a : Asked) → open_at me a.call.thread c ≡ Some a → may_again a.op ≡ false → Outlived e x a ⊎ RefusedLost e a
      → R c x (quietly (end_unknown a.call.thread ended_by.Lost c) x)
  -- a Hello alone
  pub greets : (c : Client) (x : Tries) (m : ℕ) → R c x (tries_only c (record { tries = x; sent = says_to m says.Hello }))
  -- a call ends by a refusal
  pub refuses : (c : Client) (x : Tries) (t : ThreadNo) (why : Refusal) → R c x (quietly (end_call t (ending.Refused why) c) x)
