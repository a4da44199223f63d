-- What holds of every text and every schedule.
use Rattle.std.specs.Prelude.{◌≡◌, ℕ, ◌<◌, ◌≤◌, List, ◌++◌, length, take, drop, Some, None, Ok, Err}
use Rattle.std.specs.List.{flat_map}
use Rattle.cp_grammar.specs.Words.{line_of}
use Rattle.cp_call_words.specs.declared.context.Context.{Context}
use Rattle.cp_events.specs.declared.schedule.Line.{Line}
use Rattle.cp_events.specs.declared.schedule.Schedule.{Schedule}
use Rattle.cp_schedule.specs.Header.{header}
use Rattle.cp_schedule.specs.Events.{event_line}
use Rattle.cp_schedule.specs.Schedules.{schedule, context_of}
use Rattle.cp_schedule.specs.Reading.{NotBuilt, IsRead, schedule_of, line_of_event}

-- A text that spells a schedule without members has no fault.
abbrev pub ScheduleHasNoFault : Type 0
ScheduleHasNoFault = (bytes : List ℕ) (s : Schedule) → IsRead bytes s → schedule_of bytes ≡ Ok s

-- A text that spells a schedule with members is told as not built, at its second line.
abbrev pub MembersAreNotBuilt : Type 0
MembersAreNotBuilt = (bytes : List ℕ) (s : Schedule) → schedule.Fits s → bytes ≡ schedule.spelling s → 0 < s.plan.members → schedule_of bytes ≡ Err (NotBuilt 2)

-- A text spells at most one schedule.
abbrev pub TextSpellsOneSchedule : Type 0
TextSpellsOneSchedule = (bytes : List ℕ) (s t : Schedule) → schedule.Fits s → schedule.Fits t → bytes ≡ schedule.spelling s → bytes ≡ schedule.spelling t → s ≡ t

abbrev pub lines_text : Context → List Line → List ℕ
lines_text context lines = flat_map (λ l. (event_line context).spelling (Some l)) lines

-- the text before the n-th line behind the header, and that from it on
abbrev pub text_before : Schedule → ℕ → List ℕ
text_before s n = header.spelling s.plan ++ lines_text (context_of s.plan) (take n s.lines)

abbrev pub text_from : Schedule → ℕ → List ℕ
text_from s n = lines_text (context_of s.plan) (drop n s.lines) ++ (event_line (context_of s.plan)).spelling None

-- The n-th line behind the header begins at the line with its number.
pub record StandsAt (s : Schedule) (n : ℕ) : Type 0 where
  pub text : schedule.spelling s ≡ text_before s n ++ text_from s n
  pub number : line_of (schedule.spelling s) (length (text_before s n)) ≡ line_of_event s.plan n

abbrev pub LinesAreNumbered : Type 0
LinesAreNumbered = (s : Schedule) (n : ℕ) → schedule.Fits s → n ≤ length s.lines → StandsAt s n
