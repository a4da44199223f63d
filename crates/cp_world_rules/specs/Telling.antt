-- What is printed of an event is what it did.
use Rattle.std.specs.Prelude.{◌≡◌, ◌≤◌, ◌++◌, ◌⊎◌, ℕ, false, List, [], ◌∷◌, length, map, Some, None, slice_get, Contains}
use Rattle.cp_base.specs.Identifiers.{replay_id}
use Rattle.cp_base.specs.declared.identifier.ClientNo.{ClientNo}
use Rattle.cp_events.specs.declared.effects.Effects.{Effects}
use Rattle.cp_events.specs.declared.effects.Ignored.{Ignored}
use Rattle.cp_events.specs.declared.event.Event.{Event}
use Rattle.cp_events.specs.declared.event.Event.TheVariants as event
use Rattle.cp_events.specs.declared.schedule.Line.{Line}
use Rattle.cp_events.specs.declared.schedule.Line.TheVariants as line
use Rattle.cp_world_rules.specs.Rows.{End, Opening, Request, Returned}
use Rattle.cp_world_rules.specs.Execution.{Execution, openings_in, returns_in}
use Rattle.cp_world_rules.specs.Sessions.{TellsSession}
use Rattle.cp_world_rules.specs.Requests.{IsBeat}
use Rattle.cp_world_rules.specs.Answers.{lets_go_on}
use Rattle.cp_world_rules.specs.Returns.{request_of}

abbrev pub IsDelivery : Event → Type 0
IsDelivery (event.Deliver k) = Unit {0}
IsDelivery e = ⊥

-- The events that lines stand for: a `settle` line stands for at most so many deliveries.
abbrev pub StandFor : List Line → List Event → Type 0
StandFor [] events = events ≡ []
StandFor (line.One e ∷ lines) events = (rest : List Event) × (events ≡ e ∷ rest) × StandFor lines rest
StandFor (line.Settle n ∷ lines) events = (named : List Event) × (rest : List Event) × (events ≡ named ++ rest) × (length named ≤ n)
    × ((e : Event) → Contains named e → IsDelivery e) × StandFor lines rest

-- The events are those of the lines, behind event 0, which opens all members.
abbrev pub FollowsLines : List Line → Execution → Type 0
FollowsLines lines x = (events : List Event) × (map (λ (shown : Effects). shown.event) x.effects ≡ event.Open ∷ events) × StandFor lines events

-- What stands printed as opened is a session that the client was told in this event.
abbrev pub IsOpening : Execution → Opening → Type 0
IsOpening x o = (e : End) × Contains x.ends e × TellsSession x.requests (replay_id o.client) o.what.session e × (e.event ≡ o.event) × (e.group ≡ o.what.group)

-- A session that a client was told stands printed as opened, by then.
abbrev pub StandsOpened : Execution → ClientNo → ℕ → End → Type 0
StandsOpened x client s e = (o : Opening) × Contains (openings_in x.effects) o × (o.client ≡ client) × (o.what ≡ record { group = e.group; session = s }) × (o.event ≤ e.event)

-- a return of the request that ended, in the same event
pub record IsReturnOf (x : Execution) (e : End) : Type 0 where
  pub told : Returned
  pub printed : Contains (returns_in x.effects) told
  pub here : told.event ≡ e.event
  pub of_request : request_of told ≡ e.call

-- an event of this number took place
abbrev pub Happened : Execution → ℕ → Type 0
Happened x number = (shown : Effects) × (slice_get x.effects number ≡ Some shown) × (shown.ignored ≡ None)

pub record EventsTell (x : Execution) : Type 0 where
  pub numbers : (number : ℕ) (shown : Effects) → slice_get x.effects number ≡ Some shown → shown.number ≡ number
  -- an event that is ignored does nothing: it opens and returns nothing, and no request begins in it, or ends
  pub quiet : (shown : Effects) (cause : Ignored) → Contains x.effects shown → shown.ignored ≡ Some cause → (shown.opened ≡ []) × (shown.returns ≡ [])
  pub begins : (q : Request) → Contains x.requests q → Happened x q.event
  pub ends : (e : End) → Contains x.ends e → Happened x e.event
  -- an answer that doesn't let its call go on is returned
  pub returned : (q : Request) (e : End) → Contains x.requests q → Contains x.ends e → q.call ≡ e.call → lets_go_on q.op e.answer ≡ false → IsBeat x q ⊎ IsReturnOf x e
  -- the sessions that stand printed as opened are those that clients were told
  pub opened : (o : Opening) → Contains (openings_in x.effects) o → IsOpening x o
  pub told : (client : ClientNo) (s : ℕ) (e : End) → Contains x.ends e → TellsSession x.requests (replay_id client) s e → StandsOpened x client s e
