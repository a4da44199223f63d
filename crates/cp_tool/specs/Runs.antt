-- The promises of `run`.
use Rattle.std.specs.Prelude.{◌≡◌, ℕ, List, [], ◌∷◌, codes, length, Option}
use Rattle.std.specs.Io.KnownBytes.{Appends}
use Rattle.cp_base.specs.Faults.{AppendsFront}
use Rattle.cp_events.specs.declared.schedule.Schedule.{Schedule}
use Rattle.cp_schedule.specs.Reading.{IsRead}
use Rattle.cp_world_rules.specs.Execution.{IsAllowed, Outcomes, execution_of}
use Rattle.cp_world_rules.specs.Headline.{Headline}
use Rattle.cp_transcript.specs.Transcripts.{transcript_of}
use Rattle.cp_tool.specs.Limits.{IsLimit, KeepsLimits}
use Rattle.cp_tool.specs.declared.status.LimitName.{LimitName}
use Rattle.cp_tool.specs.declared.status.Status.{Status}
use Rattle.cp_tool.specs.declared.status.Status.TheVariants as status

-- The words are `replay` alone.
abbrev pub IsReplay : List (List ℕ) → Type 0
IsReplay words = words ≡ codes "replay" ∷ []

-- The headline: the bytes spell a schedule, its transcript was written, and the promises hold of its execution.
pub record Replays (bytes : List ℕ) (before after : Option (List ℕ)) : Type 0 where
  pub schedule : Schedule
  pub spelled : IsRead bytes schedule
  pub limits : KeepsLimits schedule.plan schedule.lines (length schedule.lines)
  pub outcomes : Outcomes
  pub allowed : IsAllowed schedule outcomes
  pub transcript : Appends before after (transcript_of (execution_of schedule outcomes))
  pub headline : Headline schedule.plan schedule.lines (execution_of schedule outcomes)

-- The bytes spell a schedule, and a front of its transcript was written.
pub record ReplaysFront (bytes : List ℕ) (before after : Option (List ℕ)) : Type 0 where
  pub schedule : Schedule
  pub spelled : IsRead bytes schedule
  pub limits : KeepsLimits schedule.plan schedule.lines (length schedule.lines)
  pub outcomes : Outcomes
  pub allowed : IsAllowed schedule outcomes
  pub front : AppendsFront before after (transcript_of (execution_of schedule outcomes))

-- The bytes spell a schedule, in which the event of this line is the first that passes a limit.
pub record Limits (line : ℕ) (name : LimitName) (bytes : List ℕ) : Type 0 where
  pub schedule : Schedule
  pub spelled : IsRead bytes schedule
  pub limit : IsLimit schedule.plan schedule.lines line name

-- a status before the first write
abbrev pub IsBeforeWrites : Status → Type 0
IsBeforeWrites status.Usage = Unit {0}
IsBeforeWrites status.ReadFault = Unit {0}
IsBeforeWrites status.TooLong = Unit {0}
IsBeforeWrites (status.BadSchedule line) = Unit {0}
IsBeforeWrites (status.NotBuilt line) = Unit {0}
IsBeforeWrites (status.Limit line name) = Unit {0}
IsBeforeWrites _ = ⊥

-- a status that comes only after the source was read to its end
abbrev pub IsAfterReading : Status → Type 0
IsAfterReading (status.BadSchedule line) = Unit {0}
IsAfterReading (status.NotBuilt line) = Unit {0}
IsAfterReading (status.Limit line name) = Unit {0}
IsAfterReading status.WriteFault = Unit {0}
IsAfterReading status.Done = Unit {0}
IsAfterReading _ = ⊥
