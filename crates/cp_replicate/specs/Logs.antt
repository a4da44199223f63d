-- Entries, and a log by index.
use Rattle.std.specs.Prelude.{ℕ, ◌-◌, List, drop, length, Option, Some, None, option_map, nat_le, if◌then◌else◌}
use Rattle.cp_parts.specs.declared.log_entry.LogEntry.{LogEntry}
use Rattle.cp_message.specs.declared.entries.LogEntry as wire
use Rattle.cp_log_rules.specs.Persistent.{PersistentState, entry_at}

-- an entry of an append as it stands in a log
abbrev pub entry_of : wire.LogEntry → LogEntry
entry_of e = record { term = e.term; bytes = e.bytes }

-- how many bytes the entry at an index has
abbrev pub size_at : PersistentState → ℕ → Option ℕ
size_at p index = option_map (λ e. length e.bytes) (entry_at p index)

-- a size that there is room for
abbrev pub fitting : Option ℕ → ℕ → Option ℕ
fitting None bytes = None
fitting (Some size) bytes = if nat_le size bytes then Some size else None

-- the log from an index on, above the base
abbrev pub from : PersistentState → ℕ → List LogEntry
from p index = drop (index - 1 - p.base) p.log
