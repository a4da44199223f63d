-- What a transcript prints of an event.
use Rattle.std.specs.Prelude.{ℕ, List, [], ◌∷◌, ◌++◌, Option, Some, None, codes}
use Rattle.std.specs.List.{flat_map}
use Rattle.std.specs.Fmt.{decimal}
use Rattle.cp_base.specs.Text.{line}
use Rattle.cp_base.specs.declared.identifier.ClientNo.{ClientNo}
use Rattle.cp_answers.specs.Answers.{answer_text}
use Rattle.cp_answers.specs.Refusals.{refusal_text}
use Rattle.cp_events.specs.declared.effects.Effects.{Effects}
use Rattle.cp_events.specs.declared.effects.Ending.{Ending}
use Rattle.cp_events.specs.declared.effects.Ending.TheVariants as ending
use Rattle.cp_events.specs.declared.effects.Ignored.{Ignored}
use Rattle.cp_events.specs.declared.effects.Ignored.TheVariants as ignored
use Rattle.cp_events.specs.declared.effects.Opened.{Opened}
use Rattle.cp_events.specs.declared.effects.Return.{Return}
use Rattle.cp_events.specs.declared.event.Event.{Event}
use Rattle.cp_schedule.specs.Shown.{shown_event_line}

-- the event's number and text
abbrev pub event_line : ℕ → Event → List ℕ
event_line number e = decimal number ++ 32 ∷ shown_event_line e

abbrev pub cause_text : Ignored → List ℕ
cause_text (ignored.NoMessage sent) = codes "no-message " ++ decimal sent
cause_text ignored.MemberDown = codes "member-down"
cause_text ignored.MemberUp = codes "member-up"
cause_text (ignored.ThreadBusy number) = codes "thread-busy " ++ decimal number
cause_text ignored.NoSuchMember = codes "no-such-member"
cause_text ignored.NoSuchClient = codes "no-such-client"
cause_text (ignored.ClockEnd clock) = codes "clock-end " ++ decimal clock

-- `ignored CAUSE`, where the event could not take place
abbrev pub ignored_lines : Option Ignored → List ℕ
ignored_lines None = []
ignored_lines (Some cause) = line (codes "ignored " ++ cause_text cause)

-- `opened C G S`
abbrev pub opened_line : ClientNo × Opened → List ℕ
opened_line o = line (codes "opened " ++ decimal o.0.0 ++ 32 ∷ decimal o.1.group.0 ++ 32 ∷ decimal o.1.session)

abbrev pub ending_text : Ending → List ℕ
ending_text (ending.Answered answer) = answer_text answer
ending_text (ending.Refused refusal) = codes "refused " ++ refusal_text refusal

-- `return C T N ANSWER`, or `refused` and why
abbrev pub return_line : ClientNo × Return → List ℕ
return_line r = line (codes "return " ++ decimal r.0.0 ++ 32 ∷ decimal r.1.thread.0 ++ 32 ∷ decimal r.1.number ++ 32 ∷ ending_text r.1.ending)

-- An event, why it could not take place, the sessions that it opened, and the calls that returned.
abbrev pub effects_lines : Effects → List ℕ
effects_lines e = event_line e.number e.event ++ ignored_lines e.ignored ++ flat_map opened_line e.opened ++ flat_map return_line e.returns
