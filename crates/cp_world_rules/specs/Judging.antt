-- Why a call, or a tick of a client, is ignored, and what it does else.
use Rattle.std.specs.Prelude.{◌≡◌, ◌≤◌, ◌<◌, ◌+◌, ◌⊎◌, ℕ, true, false, Option, Some, None, slice_get, Contains}
use Rattle.cp_base.specs.declared.limits.TheConstants.{LAST_NUMBER}
use Rattle.cp_base.specs.Identifiers.{replay_id}
use Rattle.cp_base.specs.declared.identifier.ClientNo.{ClientNo}
use Rattle.cp_base.specs.declared.identifier.Invocation.{Invocation}
use Rattle.cp_base.specs.declared.identifier.ThreadNo.{ThreadNo}
use Rattle.cp_events.specs.declared.effects.Effects.{Effects}
use Rattle.cp_events.specs.declared.effects.Ignored.{Ignored}
use Rattle.cp_events.specs.declared.effects.Ignored.TheVariants as ignored
use Rattle.cp_events.specs.declared.event.Event.{Event}
use Rattle.cp_events.specs.declared.event.Event.TheVariants as event
use Rattle.cp_events.specs.declared.plan.Plan.{Plan}
use Rattle.cp_client_rules.specs.Ticks.{own_thread}
use Rattle.cp_world_rules.specs.Rows.{Called, End, Request, Returned}
use Rattle.cp_world_rules.specs.World.{is_client}
use Rattle.cp_world_rules.specs.Execution.{Execution, returns_in}
use Rattle.cp_world_rules.specs.Returns.{clock_after, request_of}

module _ (x : Execution) where
  -- The request is over by the end of an event: an answer ended it, or its call has returned. The client's own thread may go on
  -- to its next beat before.
  pub data IsOver (number : ℕ) (call : Invocation) : Type 0 where
    ended : (e : End) → Contains x.ends e → e.call ≡ call → e.event ≤ number → IsOver number call
    returned : (r : Returned) → Contains (returns_in x.effects) r → request_of r ≡ call → r.event ≤ number → IsOver number call
    went_on : (q : Request) → Contains x.requests q → call.thread ≡ own_thread → q.call.client ≡ call.client → q.call.thread ≡ call.thread → call.number < q.call.number → q.event ≤ number
        → IsOver number call

  -- The thread's last request before an event was not over.
  pub record IsBusy (number : ℕ) (client : ClientNo) (thread : ThreadNo) (n : ℕ) : Type 0 where
    pub request : Request
    pub began : Contains x.requests request
    pub call_is : request.call ≡ record { client = replay_id client; thread = thread; number = n }
    pub before : request.event < number
    pub last : (q : Request) → Contains x.requests q → q.call.client ≡ replay_id client → q.call.thread ≡ thread → q.event < number → q.call.number ≤ n
    pub not_over : (before : ℕ) → before < number → IsOver before request.call → ⊥

module _ (plan : Plan) (x : Execution) (number : ℕ) where
  -- Why a call, or a tick of a client, is ignored, if it is.
  abbrev pub CallIsIgnored : ClientNo → ThreadNo → Option Ignored → Type 0
  CallIsIgnored c t None = (is_client plan c ≡ true) × ((n : ℕ) → IsBusy x number c t n → ⊥)
  CallIsIgnored c t (Some (ignored.ThreadBusy n)) = (is_client plan c ≡ true) × IsBusy x number c t n
  CallIsIgnored c t (Some ignored.NoSuchClient) = is_client plan c ≡ false
  CallIsIgnored c t cause = ⊥

  -- the clock of a client before the event
  abbrev pub IsClockBefore : ClientNo → ℕ → Type 0
  IsClockBefore c clock = (before : ℕ) × (number ≡ before + 1) × (clock ≡ clock_after c before x.effects)

  abbrev pub TickIsIgnored : ClientNo → ℕ → Option Ignored → Type 0
  TickIsIgnored c ms None = (is_client plan c ≡ true) × ((clock : ℕ) → IsClockBefore c clock → clock + ms ≤ LAST_NUMBER)
  TickIsIgnored c ms (Some (ignored.ClockEnd clock)) = (is_client plan c ≡ true) × IsClockBefore c clock × (LAST_NUMBER < clock + ms)
  TickIsIgnored c ms (Some ignored.NoSuchClient) = is_client plan c ≡ false
  TickIsIgnored c ms cause = ⊥

  abbrev pub IsJudged : Event → Option Ignored → Type 0
  IsJudged (event.Call c t o) cause = CallIsIgnored c t cause
  IsJudged (event.ClientTick c ms) cause = TickIsIgnored c ms cause
  IsJudged e cause = Unit {0}

-- a call asks or returns in the event in which it begins
abbrev pub BeginsAtOnce : Execution → Called → Type 0
BeginsAtOnce x c = ((q : Request) × Contains x.requests q × (q.event ≡ c.event) × (q.call.client ≡ replay_id c.client) × (q.call.thread ≡ c.thread))
    ⊎ ((r : Returned) × Contains (returns_in x.effects) r × (r.event ≡ c.event) × (r.client ≡ c.client) × (r.what.thread ≡ c.thread))

pub record ClientsAct (plan : Plan) (x : Execution) : Type 0 where
  -- a call, or a tick of a client, is ignored exactly where it has a cause
  pub judged : (number : ℕ) (shown : Effects) → slice_get x.effects number ≡ Some shown → IsJudged plan x number shown.event shown.ignored
  -- a call that is not ignored asks or returns in its own event
  pub begins : (c : Called) → Contains x.calls c → BeginsAtOnce x c
