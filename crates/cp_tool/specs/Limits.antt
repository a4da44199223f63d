-- How far a run may go.
use Rattle.cp_base.specs.declared.limits.TheConstants.{MOST_TEXT}
use Rattle.std.specs.Prelude.{◌≡◌, ◌≤◌, ◌+◌, ℕ, List, length, take, slice_get, Option, Some, None, if◌then◌else◌, nat_lt}
use Rattle.cp_events.specs.declared.event.Event.{Event}
use Rattle.cp_events.specs.declared.plan.Plan.{Plan}
use Rattle.cp_events.specs.declared.schedule.Line.{Line}
use Rattle.cp_events.specs.declared.schedule.Line.TheVariants as line
use Rattle.cp_world_rules.specs.Execution.{events_of, executed}
use Rattle.cp_world_rules.specs.World.{new_world, world_after}
use Rattle.cp_schedule.specs.Reading.{line_of_event}
use Rattle.cp_transcript.specs.Transcripts.{transcript_of}
use Rattle.cp_tool.specs.declared.status.LimitName.{LimitName}
use Rattle.cp_tool.specs.declared.status.LimitName.TheVariants as limit

-- The first quantity that is beyond its limit: more than 100,000 events, or a transcript of more than 256 MiB.
abbrev pub beyond : ℕ → ℕ → Option LimitName
beyond events bytes =
    if nat_lt 100000 events then Some limit.Events
    else if nat_lt MOST_TEXT bytes then Some limit.Transcript
    else None

-- the transcript of a schedule with these events
abbrev pub text_of : Plan → List Event → List ℕ
text_of plan events = transcript_of (executed (world_after plan new_world events))

-- The first quantity that is beyond its limit if a schedule ends with these events.
abbrev pub passed : Plan → List Event → Option LimitName
passed plan events = beyond (length events) (length (text_of plan events))

-- None is, wherever within its first n lines the schedule ends.
abbrev pub KeepsLimits : Plan → List Line → ℕ → Type 0
KeepsLimits plan lines n = (k : ℕ) → k ≤ n → passed plan (events_of (take k lines)) ≡ None

-- The event of this line is the first at which a quantity passes its limit.
pub record IsLimit (plan : Plan) (lines : List Line) (number : ℕ) (name : LimitName) : Type 0 where
  pub place : ℕ
  pub number_is : number ≡ line_of_event plan place
  pub event : Event
  pub stands : slice_get lines place ≡ Some (line.One event)
  pub kept : KeepsLimits plan lines place
  pub passes : passed plan (events_of (take (place + 1) lines)) ≡ Some name
