-- A transcript that grows, event by event.
use Rattle.std.specs.Prelude.{◌≡◌, ℕ, ◌==◌, List, [], ◌++◌, codes, length, map, if◌then◌else◌}
use Rattle.std.specs.List.{flat_map}
use Rattle.cp_ops.specs.declared.entry.Entry.{Entry}
use Rattle.cp_events.specs.declared.effects.Effects.{Effects}
use Rattle.cp_world_rules.specs.Rows.{Committed}
use Rattle.cp_transcript.specs.Effects.{effects_lines}
use Rattle.cp_transcript.specs.Histories.{committed_lines}
use Rattle.cp_transcript.specs.Transcripts.{heading}
use Rattle.cp_transcript.specs.declared.transcript.TranscriptWriter.{TranscriptWriter}

-- entries that one event committed
abbrev pub committed_at : ℕ → List Entry → List Committed
committed_at event entries = map (λ e. record { event = event; entry = e }) entries

-- The lines so far are those of these effects, and of this history of the group `default`.
pub record Tells (shown : List Effects) (committed : List Committed) (t : TranscriptWriter) : Type 0 where
  pub text : t.text.items ≡ heading ++ flat_map effects_lines shown
  pub rows : t.rows ≡ length committed
  pub history : t.history.items ≡ committed_lines 1 committed

-- the history of the group `default`, where it has an entry
abbrev pub history_text : ℕ → List ℕ → List ℕ
history_text rows lines = if rows == 0 then [] else codes "history 1\n" ++ lines

-- what the lines so far come to
abbrev pub whole_text : TranscriptWriter → List ℕ
whole_text t = t.text.items ++ history_text t.rows t.history.items ++ codes "end\n"
