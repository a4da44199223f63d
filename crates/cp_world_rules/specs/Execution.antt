-- The execution of a schedule without members.
use Rattle.std.specs.Prelude.{ℕ, zero, suc, ◌==◌, List, [], ◌∷◌, ◌++◌, map, Option, Some, None, if◌then◌else◌}
use Rattle.cp_base.specs.declared.identifier.GroupId.{GroupId}
use Rattle.cp_events.specs.declared.effects.Effects.{Effects}
use Rattle.cp_events.specs.declared.event.Event.{Event}
use Rattle.cp_events.specs.declared.event.Event.TheVariants as event
use Rattle.cp_events.specs.declared.plan.Plan.{Plan}
use Rattle.cp_events.specs.declared.schedule.Line.{Line}
use Rattle.cp_events.specs.declared.schedule.Line.TheVariants as line
use Rattle.cp_events.specs.declared.schedule.Schedule.{Schedule}
use Rattle.cp_client_rules.specs.Asking.{default_group}
use Rattle.cp_world_rules.specs.Rows.{Called, Committed, End, Opening, Request, Returned}
use Rattle.cp_world_rules.specs.World.{World, new_world, world_step}

-- What the transcript shows: what each event did, event 0 first, and the history of each group that has a committed entry. And
-- what nobody prints: the calls that took place, the requests, and their ends.
pub record Execution : Type 0 where
  pub effects : List Effects
  pub histories : List (GroupId × List Committed)
  pub calls : List Called
  pub requests : List Request
  pub ends : List End

-- Without members there is one group.
abbrev pub histories_of : List Committed → List (GroupId × List Committed)
histories_of [] = []
histories_of (c ∷ history) = (default_group, c ∷ history) ∷ []

abbrev pub executed : World → Execution
executed w = record { effects = w.effects; histories = histories_of w.history; calls = w.calls; requests = w.requests; ends = w.ends }

-- the history of a group
abbrev pub rows_of : List (GroupId × List Committed) → GroupId → List Committed
rows_of [] g = []
rows_of (h ∷ histories) g = if h.0.0 == g.0 then h.1 else rows_of histories g

abbrev pub history : Execution → GroupId → List Committed
history x g = rows_of x.histories g

-- the returns that stand printed, in their order, each with the number of its event
abbrev pub returns_in : List Effects → List Returned
returns_in [] = []
returns_in (shown ∷ effects) = map (λ r. record { event = shown.number; client = r.0; what = r.1 }) shown.returns ++ returns_in effects

-- the sessions that stand printed as opened, likewise
abbrev pub openings_in : List Effects → List Opening
openings_in [] = []
openings_in (shown ∷ effects) = map (λ o. record { event = shown.number; client = o.0; what = o.1 }) shown.opened ++ openings_in effects

-- The first message that no event has named yet. Without members no message is ever sent.
abbrev pub first_unnamed : World → Option ℕ
first_unnamed w = None

module _ (plan : Plan) where
  abbrev pub deliver_then : Option ℕ → (World → World) → World → World
  deliver_then None rest w = w
  deliver_then (Some k) rest w = rest (world_step plan w (event.Deliver k))

  -- A `settle` line stands for the events that the world names, one after another.
  abbrev pub settles : ℕ → World → World
  settles zero w = w
  settles (suc n) w = deliver_then (first_unnamed w) (settles n) w

  abbrev pub line_after : World → Line → World
  line_after w (line.Settle n) = settles n w
  line_after w (line.One e) = world_step plan w e

  abbrev pub lines_after : World → List Line → World
  lines_after w [] = w
  lines_after w (l ∷ lines) = lines_after (line_after w l) lines

-- What a schedule leaves open, as which disk failed when. Without members that is nothing.
pub data Outcomes : Type 0 where
  Settled : Outcomes

abbrev pub IsAllowed : Schedule → Outcomes → Type 0
IsAllowed s outcomes = Unit {0}

abbrev pub execution_of : Schedule → Outcomes → Execution
execution_of s outcomes = executed (lines_after s.plan new_world s.lines)

-- The events of lines of which no `settle` line stands for one.
abbrev pub events_of : List Line → List Event
events_of [] = []
events_of (line.Settle n ∷ lines) = events_of lines
events_of (line.One e ∷ lines) = e ∷ events_of lines
