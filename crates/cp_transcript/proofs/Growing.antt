-- A transcript that grows tells one more event, or one more entry.
use Rattle.std.proofs.Common.{◌≡◌, ℕ, ◌+◌, List, [], ◌∷◌, ◌++◌, length, refl, sym, ◌∙◌, ap, append_assoc, length-append, get_or, take, ◌<◌, ◌≤◌, arith}
use Rattle.std.specs.List.{flat_map}
use Rattle.std.proofs.lemmas.List.{map-append, take_all, take_more}
use Rattle.cp_ops.specs.declared.entry.Entry.{Entry}
use Rattle.cp_events.specs.declared.effects.Effects.{Effects}
use Rattle.cp_world_rules.specs.Rows.{Committed}
use Rattle.cp_transcript.specs.Effects.{effects_lines}
use Rattle.cp_transcript.specs.Histories.{committed_line, committed_lines}
use Rattle.cp_transcript.specs.Transcripts.{heading}
use Rattle.cp_transcript.specs.Telling.{Tells, committed_at}
use Rattle.cp_transcript.specs.declared.transcript.TranscriptWriter.{TranscriptWriter}

pub nothing_behind : {X : Type 0} (xs : List X) → xs ++ [] ≡ xs
nothing_behind [] = refl
nothing_behind (x ∷ xs) = ap (λ ys. x ∷ ys) (nothing_behind xs)

effects_more : (effects : List Effects) (e : Effects) → flat_map effects_lines (effects ++ e ∷ []) ≡ flat_map effects_lines effects ++ effects_lines e
effects_more [] e = nothing_behind (effects_lines e)
effects_more (x ∷ effects) e = ap (λ t. effects_lines x ++ t) (effects_more effects e) ∙ sym (append_assoc (effects_lines x) (flat_map effects_lines effects) (effects_lines e))

committed_more : (i j : ℕ) (history : List Committed) (c : Committed) → j ≡ i + length history
    → committed_lines i (history ++ c ∷ []) ≡ committed_lines i history ++ committed_line j c
committed_more i j [] c at = let same : i ≡ j = omega (arith, at) in nothing_behind (committed_line i c) ∙ ap (λ k. committed_line k c) same
committed_more i j (x ∷ history) c at =
    ap (λ t. committed_line i x ++ t) (committed_more (i + 1) j history c (omega (arith, at)))
    ∙ sym (append_assoc (committed_line i x) (committed_lines (i + 1) history) (committed_line j c))

pub one_event_more : (shown : List Effects) (history : List Committed) (e : Effects) (old new : TranscriptWriter)
    → Tells shown history old → new.text.items ≡ old.text.items ++ effects_lines e → new.rows ≡ old.rows → new.history.items ≡ old.history.items
    → Tells (shown ++ e ∷ []) history new
one_event_more shown history e old new tells text rows lines = record {
  text = text ∙ ap (λ t. t ++ effects_lines e) tells.text ∙ append_assoc heading (flat_map effects_lines shown) (effects_lines e) ∙ ap (λ t. heading ++ t) (sym (effects_more shown e));
  rows = rows ∙ tells.rows;
  history = lines ∙ tells.history;
}

pub one_entry_more : (shown : List Effects) (history : List Committed) (c : Committed) (old new : TranscriptWriter)
    → Tells shown history old → new.text.items ≡ old.text.items → new.rows ≡ old.rows + 1 → new.history.items ≡ old.history.items ++ committed_line (old.rows + 1) c
    → Tells shown (history ++ c ∷ []) new
one_entry_more shown history c old new tells text rows lines = record {
  text = text ∙ tells.text;
  rows = rows ∙ ap (λ n. n + 1) tells.rows ∙ sym (length-append history (c ∷ []));
  history = let at : old.rows + 1 ≡ 1 + length history = (let r = tells.rows in omega arith) in
      lines ∙ ap (λ t. t ++ committed_line (old.rows + 1) c) tells.history ∙ sym (committed_more 1 (old.rows + 1) history c at);
}

-- no entry so far
pub entries_begin : (event : ℕ) (history : List Committed) (entries : List Entry) → history ≡ history ++ committed_at event (take 0 entries)
entries_begin event history entries = sym (nothing_behind history)

-- the next entry
pub entries_more : (event : ℕ) (history : List Committed) (entries : List Entry) (i : ℕ) (e : Entry) → i < length entries → e ≡ get_or entries i e
    → (history ++ committed_at event (take i entries)) ++ record { event = event; entry = e } ∷ [] ≡ history ++ committed_at event (take (i + 1) entries)
entries_more event history entries i e within is =
    append_assoc history (committed_at event (take i entries)) (record { event = event; entry = e } ∷ [])
    ∙ ap (λ rows. history ++ rows) (
    ap (λ x. committed_at event (take i entries) ++ record { event = event; entry = x } ∷ []) is
    ∙ sym (map-append (λ (x : Entry). record { event = event; entry = x }) (take i entries) (get_or entries i e ∷ []))
    ∙ ap (committed_at event) (sym (take_more entries i e within)))

pub entries_all : (event : ℕ) (history : List Committed) (entries : List Entry) (n : ℕ) → length entries ≤ n → history ++ committed_at event (take n entries) ≡ history ++ committed_at event entries
entries_all event history entries n all = ap (λ es. history ++ committed_at event es) (take_all n entries all)
