-- What a leader sends to another member: the entries that it lacks, or a chunk of the snapshot where the base covers them.
use Rattle.std.specs.Prelude.{ℕ, ◌-◌, Bool, ◌&&◌, if◌then◌else◌, List, [], ◌∷◌, length, take, drop, map, nat_lt, nat_le}
use Rattle.cp_parts.specs.declared.log_entry.LogEntry.{LogEntry}
use Rattle.cp_rules.specs.Limits.{batch_entries, batch_bytes, chunk_bytes}
use Rattle.cp_log_rules.specs.Persistent.{PersistentState}
use Rattle.cp_rules.specs.Persistent.{known_term, members, others}
use Rattle.cp_rules.specs.Volatile.{VolatileState, peer}
use Rattle.cp_rules.specs.Local.{Body, Append, Snapshot, Sent, send, is_leader}

-- as many of these entries as there is room for
abbrev pub within : List LogEntry → ℕ → ℕ → List LogEntry
within [] count bytes = []
within (e ∷ entries) count bytes = if nat_lt 0 count && nat_le (length e.bytes) bytes then e ∷ within entries (count - 1) (bytes - length e.bytes) else []

-- the first entry, and as many after it as there is room for
abbrev pub batch : List LogEntry → List LogEntry
batch [] = []
batch (e ∷ entries) = e ∷ within entries (batch_entries - 1) (batch_bytes - length e.bytes)

-- the piece of a snapshot from this byte on, and whether it reaches the end
abbrev pub chunk : List ℕ → ℕ → List ℕ
chunk snapshot offset = take chunk_bytes (drop offset snapshot)

abbrev pub is_last_chunk : List ℕ → ℕ → Bool
is_last_chunk snapshot offset = nat_le (length (drop offset snapshot)) chunk_bytes

abbrev pub chunk_from : PersistentState → ℕ → Body
chunk_from p offset = Snapshot p.term p.base offset (is_last_chunk p.snapshot offset) (chunk p.snapshot offset)

abbrev pub entries_from : PersistentState → VolatileState → ℕ → Body
entries_from p v next = Append p.term (next - 1) (known_term p (next - 1)) v.commit (batch (drop (next - 1 - p.base) p.log))

abbrev pub append_to : PersistentState → VolatileState → ℕ → Sent
append_to p v member = send member (if nat_le (peer v.peers member).next p.base then chunk_from p (peer v.peers member).offset else entries_from p v (peer v.peers member).next)

-- to all others, from one that leads
abbrev pub appends : ℕ → PersistentState → VolatileState → List Sent
appends me p v = if is_leader v.role then map (append_to p v) (others me (members p)) else []
