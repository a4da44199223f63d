-- How long what a format spells may be.
use Rattle.std.specs.Prelude.{ℕ, ◌≤◌, length}
use Rattle.cp_base.specs.declared.limits.TheConstants.{MOST_ENTRY, OLDER_MOST_ENTRY, OLDER_MOST_REFERENCE}
use Rattle.cp_grammar.specs.Grammar.{Grammar}
use Rattle.cp_ops.specs.declared.entry.Entry.{Entry}
use Rattle.cp_ops.specs.Entries.{entry_within, entry_grammar}

-- no spelling has more tokens than this
pub record IsShort {T A : Type 0} (most : ℕ) (g : Grammar T A) : Type 0 where
  pub bound : (x : A) → g.Fits x → length (g.spelling x) ≤ most

abbrev pub EntriesAreShort : Type 0
EntriesAreShort = (e : Entry) → entry_grammar.Fits e → length (entry_grammar.spelling e) ≤ MOST_ENTRY

-- of references of at most 1,024 bytes
abbrev pub OlderEntriesAreShort : Type 0
OlderEntriesAreShort = (e : Entry) → (entry_within OLDER_MOST_REFERENCE).Fits e → length ((entry_within OLDER_MOST_REFERENCE).spelling e) ≤ OLDER_MOST_ENTRY
