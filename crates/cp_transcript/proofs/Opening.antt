-- The line of event 0.
use Rattle.std.proofs.Common.{◌≡◌, ◌++◌, ℕ, List, [], ◌∷◌, None, ap, arith}
use Rattle.std.specs.Prelude.{codes}
use Rattle.std.specs.List.{flat_map}
use Rattle.std.proofs.lemmas.Fmt.{decimal_digit}
use Rattle.cp_base.specs.Text.{line}
use Rattle.cp_events.specs.declared.event.Event.TheVariants as event
use Rattle.cp_schedule.specs.Events.{event_line, line_words}
use Rattle.cp_schedule.specs.Shown.{shown_event_line}
use Rattle.cp_transcript.specs.Effects.{effects_lines, ignored_lines, opened_line, return_line}
use Rattle.cp_transcript.specs.Transcripts.{opening}

pub opening_line : effects_lines opening ≡ line (codes "0 open")
unfolding event_line line_words
opening_line = ap (λ (number : List ℕ). (number ++ 32 ∷ shown_event_line event.Open) ++ ignored_lines None ++ flat_map opened_line [] ++ flat_map return_line []) (decimal_digit 0 (omega arith))
