-- What a text is: a schedule, or its first line that is none.
use Rattle.std.specs.Prelude.{◌≡◌, ℕ, ◌+◌, Bool, false, cond, nat_lt, List, length, Option, Some, None, Result, Ok, Err}
use Rattle.cp_grammar.specs.Grammar.{Read, whole}
use Rattle.cp_grammar.specs.Words.{line_of}
use Rattle.cp_events.specs.declared.plan.Plan.{Plan}
use Rattle.cp_events.specs.declared.schedule.Schedule.{Schedule}
use Rattle.cp_schedule.specs.declared.reading.ScheduleError.{ScheduleError}
use Rattle.cp_schedule.specs.declared.reading.ScheduleError.TheVariants as errors
use Rattle.cp_schedule.specs.Header.{opening}
use Rattle.cp_schedule.specs.Schedules.{schedule}

-- what is wrong with a text, at which line
pub data ScheduleFault : Type 0 where
  BadLine : ℕ → ScheduleFault
  NotBuilt : ℕ → ScheduleFault

-- the schedule, or the line of the place that fails: the first that is not in the grammar
abbrev pub at_line : List ℕ → Result Schedule ℕ → Result Schedule ScheduleFault
at_line bytes (Ok s) = Ok s
at_line bytes (Err place) = Err (BadLine (line_of bytes place))

-- whether the first two lines are those of a schedule with members
abbrev pub has_members : Read ℕ ℕ → Bool
has_members (Ok x) = nat_lt 0 x.0
has_members (Err left) = false

-- What a text is. Schedules with members are not built yet: their line on members tells so, and what follows it is not looked at.
abbrev pub schedule_of : List ℕ → Result Schedule ScheduleFault
schedule_of bytes = cond (has_members (opening.reading bytes)) (Err (NotBuilt 2)) (at_line bytes (whole schedule bytes))

abbrev pub IsFault : ScheduleError → Result Schedule ScheduleFault → Type 0
IsFault errors.NoMemory text = Unit {0}
IsFault (errors.BadSchedule line) text = text ≡ Err (BadLine line)
IsFault (errors.NotBuilt line) text = text ≡ Err (NotBuilt line)

-- A reader tells what the text is. Want of memory has no cause.
abbrev pub Answers : Result Schedule ScheduleError → Result Schedule ScheduleFault → Type 0
Answers (Ok s) text = text ≡ Ok s
Answers (Err e) text = IsFault e text

-- The text is the one spelling of a schedule without members. A schedule has more bytes than lines.
pub record IsRead (bytes : List ℕ) (s : Schedule) : Type 0 where
  pub fits : schedule.Fits s
  pub text : bytes ≡ schedule.spelling s
  pub alone : s.plan.members ≡ 0

-- ---- lines by their numbers

abbrev pub lines_if : {A : Type 0} → Option A → ℕ
lines_if None = 0
lines_if (Some _) = 1

-- how many lines the header has
abbrev pub header_lines : Plan → ℕ
header_lines plan = 4 + lines_if plan.snapshot + lines_if plan.groups + length plan.limits + lines_if plan.reads

-- the line of the n-th line behind the header, where n counts from 0, and lines from 1
abbrev pub line_of_event : Plan → ℕ → ℕ
line_of_event plan n = header_lines plan + n + 1
