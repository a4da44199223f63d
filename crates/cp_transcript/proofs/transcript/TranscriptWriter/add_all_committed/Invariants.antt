use Rattle.std.proofs.Common.{◌≡◌, ◌+◌, ◌++◌, List, take}
use Rattle.cp_events.specs.declared.effects.Effects.{Effects}
use Rattle.cp_world_rules.specs.Rows.{Committed}
use Rattle.cp_transcript.specs.Telling.{Tells, committed_at}
use Rattle.cp_transcript.proofs.transcript.TranscriptWriter.add_all_committed.Given as goal

abbrev pub invariant-loop-entry : goal.invariant-loop-entry
invariant-loop-entry l =
    (l.self.rows ≡ l.fn.self.rows + l.entry-index)
    × ((shown : List Effects) (history : List Committed) → Tells shown history l.fn.self → Tells shown (history ++ committed_at l.event (take l.entry-index l.entries)) l.self)
