-- What is printed of an execution.
use Rattle.std.specs.Prelude.{ℕ, List, [], ◌++◌, None, codes}
use Rattle.std.specs.List.{flat_map}
use Rattle.cp_base.specs.Text.{line}
use Rattle.cp_base.specs.declared.identifier.GroupId.{GroupId}
use Rattle.cp_events.specs.declared.effects.Effects.{Effects}
use Rattle.cp_events.specs.declared.event.Event.TheVariants as event
use Rattle.cp_world_rules.specs.Execution.{Execution}
use Rattle.cp_world_rules.specs.Rows.{Committed}
use Rattle.cp_transcript.specs.Effects.{effects_lines}
use Rattle.cp_transcript.specs.Histories.{history_lines}

abbrev pub heading : List ℕ
heading = line (codes "cp 1 transcript")

-- event 0, which opens all members
abbrev pub opening : Effects
opening = record { number = 0; event = event.Open; ignored = None; opened = []; returns = [] }

abbrev pub lines_of : List Effects → List (GroupId × List Committed) → List ℕ
lines_of effects histories =
    (heading ++ flat_map effects_lines effects)
    ++ flat_map history_lines histories
    ++ line (codes "end")

-- what each event did, event 0 first, and the histories
abbrev pub transcript_of : Execution → List ℕ
transcript_of x = lines_of x.effects x.histories
