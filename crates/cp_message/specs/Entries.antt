-- Entries of a log, as members hand them to each other: the term of each, and its bytes.
use Rattle.std.specs.Prelude.{ℕ, ◌-◌, min, List}
use Rattle.std.specs.Int.{w32}
use Rattle.cp_base.specs.declared.limits.TheConstants.{LAST_NUMBER, MOST_ENTRIES}
use Rattle.cp_grammar.specs.Grammar.{Grammar, mapped, ◌then◌}
use Rattle.cp_grammar.specs.Fields.{number, bytes}
use Rattle.cp_grammar.specs.Lists.{listed, each}
use Rattle.cp_grammar.specs.Common.{index}
use Rattle.cp_message.specs.declared.entries.LogEntry.{LogEntry}

-- an entry of at most so many bytes
unfoldable pub log_entry : ℕ → Grammar ℕ LogEntry
log_entry most = mapped (λ p. record { term = p.0; bytes = p.1 }) (λ e. (e.term, e.bytes)) (index then bytes most)

-- How many entries may follow an index: at most 100, and together with the index at most 2^62.
abbrev pub entry_count : ℕ → Grammar ℕ ℕ
entry_count previous = number w32 (min MOST_ENTRIES (LAST_NUMBER - previous))

unfoldable pub entries_after : ℕ → ℕ → Grammar ℕ (List LogEntry)
entries_after most previous = listed (entry_count previous) (each (log_entry most))
