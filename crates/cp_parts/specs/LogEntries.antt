-- Entries of a log as bytes.
use Rattle.std.specs.Prelude.{ℕ}
use Rattle.cp_base.specs.declared.limits.TheConstants.{MOST_ENTRY}
use Rattle.cp_grammar.specs.Grammar.{Grammar, ◌then◌, mapped}
use Rattle.cp_grammar.specs.Fields.{bytes}
use Rattle.cp_grammar.specs.Common.{index}
use Rattle.cp_parts.specs.declared.log_entry.LogEntry.{LogEntry}

-- the term, and at most 8,192 bytes
unfoldable pub log_entry : Grammar ℕ LogEntry
log_entry = mapped (λ p. record { term = p.0; bytes = p.1 }) (λ e. (e.term, e.bytes)) (index then bytes MOST_ENTRY)
