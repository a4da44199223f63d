-- What an append hands over.
use Rattle.std.specs.Prelude.{ℕ, ◌+◌, List, length, map}
use Rattle.cp_parts.specs.declared.log_entry.LogEntry.{LogEntry}
use Rattle.cp_message.specs.declared.append.Append.{Append}
use Rattle.cp_raft_state.specs.Said.{entry_in}

abbrev pub entries_in : Append → List LogEntry
entries_in append = map entry_in append.entries

-- the index of the last entry, or of the one before them where there is none
abbrev pub last_in : Append → ℕ
last_in append = append.previous_index + length (entries_in append)
