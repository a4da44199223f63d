-- The whole text, and how long it is.
use Rattle.std.proofs.Common.{◌≡◌, ℕ, ◌+◌, List, [], ◌∷◌, ◌++◌, length, codes, ◌==◌, false, refl, sym, ◌∙◌, ap, length-append, arith}
use Rattle.std.specs.List.{flat_map}
use Rattle.std.proofs.lemmas.Fmt.{decimal_digit}
use Rattle.std.proofs.lemmas.Bool.{ne_eqb}
use Rattle.cp_events.specs.declared.effects.Effects.{Effects}
use Rattle.cp_world_rules.specs.Rows.{Committed}
use Rattle.cp_world_rules.specs.Execution.{histories_of}
use Rattle.cp_transcript.specs.Histories.{committed_lines, history_lines}
use Rattle.cp_transcript.specs.Transcripts.{lines_of}
use Rattle.cp_transcript.specs.Effects.{effects_lines}
use Rattle.cp_transcript.specs.Transcripts.{heading}
use Rattle.cp_transcript.specs.Telling.{Tells, history_text, whole_text}
use Rattle.cp_transcript.specs.declared.transcript.TranscriptWriter.{TranscriptWriter}
use Rattle.cp_transcript.proofs.Growing.{nothing_behind}

parts_length : (a b c : List ℕ) → length a + length b + length c ≡ length (a ++ b ++ c)
parts_length a b c = omega (arith, length-append (a ++ b) c, length-append a b)

histories_none : flat_map history_lines (histories_of []) ≡ []
histories_none = refl

histories_some : (c : Committed) (history : List Committed) → flat_map history_lines (histories_of (c ∷ history)) ≡ codes "history 1\n" ++ committed_lines 1 (c ∷ history)
histories_some c history =
    nothing_behind (history_lines (record { 0 = 1 }, c ∷ history))
    ∙ ap (λ d. ((codes "history " ++ d) ++ 10 ∷ []) ++ committed_lines 1 (c ∷ history)) (decimal_digit 1 (omega arith))

-- the history's text is that of a list of histories
history_is : (committed : List Committed) (rows : ℕ) (lines : List ℕ) → rows ≡ length committed → lines ≡ committed_lines 1 committed
    → history_text rows lines ≡ flat_map history_lines (histories_of committed)
history_is [] rows lines few is = rw few refl
history_is (c ∷ committed) rows lines few is =
    let stands : (rows == 0) ≡ false = ne_eqb rows 0 (λ (none : rows ≡ 0). omega arith) in
    rw (stands, is) (sym (histories_some c committed))

pub whole_is : (shown : List Effects) (committed : List Committed) (t : TranscriptWriter) → Tells shown committed t → whole_text t ≡ lines_of shown (histories_of committed)
whole_is shown committed t tells =
    ap (λ x. x ++ history_text t.rows t.history.items ++ codes "end\n") tells.text
    ∙ ap (λ x. (heading ++ flat_map effects_lines shown) ++ x ++ codes "end\n") (history_is committed t.rows t.history.items tells.rows tells.history)

pub length_is : (shown : List Effects) (committed : List Committed) (t : TranscriptWriter) → Tells shown committed t
    → length t.text.items + length (history_text t.rows t.history.items) + 4 ≡ length (lines_of shown (histories_of committed))
length_is shown committed t tells = parts_length t.text.items (history_text t.rows t.history.items) (codes "end\n") ∙ ap length (whole_is shown committed t tells)
