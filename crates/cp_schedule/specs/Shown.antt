-- An event as a transcript shows it.
use Rattle.std.specs.Prelude.{ℕ, true, List, Some}
use Rattle.cp_events.specs.declared.event.Event.{Event}
use Rattle.cp_events.specs.declared.event.Event.TheVariants as event
use Rattle.cp_events.specs.declared.schedule.Line.TheVariants as line
use Rattle.cp_call_words.specs.Shown.{shown}
use Rattle.cp_schedule.specs.Events.{event_line}

-- The line of an event, with its line feed: its spelling in every context. `open` stands for event 0, which no schedule spells.
abbrev pub event_text : Event → List ℕ
event_text e = (event_line (record { managed = true; members = true })).spelling (Some (line.One e))

-- the same event, with its call as it is shown
abbrev pub shown_event : Event → Event
shown_event event.Open = event.Open
shown_event (event.Tick m ms) = event.Tick m ms
shown_event (event.ClientTick c ms) = event.ClientTick c ms
shown_event (event.Call c t op) = event.Call c t (shown op)
shown_event (event.Deliver k) = event.Deliver k
shown_event (event.Crash m) = event.Crash m
shown_event (event.CrashAfter m w x) = event.CrashAfter m w x
shown_event (event.Start m) = event.Start m

-- The line of an event in a transcript, behind its number, with its line feed.
abbrev pub shown_event_line : Event → List ℕ
shown_event_line e = event_text (shown_event e)
