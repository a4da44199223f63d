-- A run so far, and what it stands for.
use Rattle.std.specs.Prelude.{◌≡◌, ℕ, List, ◌++◌, length, Some, None}
use Rattle.cp_events.specs.declared.event.Event.{Event}
use Rattle.cp_events.specs.declared.plan.Plan.{Plan}
use Rattle.cp_events.specs.declared.schedule.Line.{Line}
use Rattle.cp_world_rules.specs.Execution.{events_of}
use Rattle.cp_world_rules.specs.World.{new_world, world_after}
use Rattle.cp_transcript.specs.Telling.{Tells}
use Rattle.cp_world.specs.Following as world
use Rattle.cp_tool.specs.Limits.{IsLimit, KeepsLimits, passed, text_of}
use Rattle.cp_tool.specs.declared.running.Running.{Running}
use Rattle.cp_tool.specs.declared.running.Halt.{Halt}
use Rattle.cp_tool.specs.declared.running.Halt.TheVariants as halt
use Rattle.cp_tool.specs.declared.running.Stop.{Stop}
use Rattle.cp_tool.specs.declared.running.Stop.TheVariants as stop

-- The run is that of these events.
pub record Follows (plan : Plan) (events : List Event) (running : Running) : Type 0 where
  pub count : running.events ≡ length events
  pub follows : world.Follows (world_after plan new_world events) running.world
  pub tells : Tells (world_after plan new_world events).effects (world_after plan new_world events).history running.transcript

-- And no quantity is beyond its limit.
pub record Runs (plan : Plan) (events : List Event) (running : Running) : Type 0 where
  pub follows : Follows plan events running
  pub kept : passed plan events ≡ None

-- The run is that of some events, and no quantity is beyond its limit.
pub record IsRunning (plan : Plan) (running : Running) : Type 0 where
  pub events : List Event
  pub runs : Runs plan events running

-- Where an event, or none, follows that of these, the run goes on so.
pub record GoesOn (plan : Plan) (more : List Event) (before after : Running) : Type 0 where
  pub runs : (events : List Event) → Runs plan events before → Runs plan (events ++ more) after

-- why a run halts, whose last events are these
abbrev pub HaltCause : Halt → Plan → List Event → Type 0
HaltCause (halt.Limit name) plan events = passed plan events ≡ Some name
HaltCause halt.NoMemory plan events = Unit {0}

pub record Halts (why : Halt) (plan : Plan) (more : List Event) (before : Running) : Type 0 where
  pub halts : (events : List Event) → Runs plan events before → HaltCause why plan (events ++ more)

-- why a schedule is not run to its end
abbrev pub StopCause : Plan → List Line → Stop → Type 0
StopCause plan lines (stop.Limit number name) = IsLimit plan lines number name
StopCause plan lines stop.NoMemory = Unit {0}

-- The text is the transcript of these lines, which keep the limits.
pub record IsWhole (plan : Plan) (lines : List Line) (text : List ℕ) : Type 0 where
  pub text_is : text ≡ text_of plan (events_of lines)
  pub kept : KeepsLimits plan lines (length lines)
