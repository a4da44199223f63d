-- The numbers of the rules.
use Rattle.std.specs.Prelude.{ℕ}
use Rattle.cp_base.specs.declared.limits.TheConstants.{LAST_NUMBER, MOST_CHUNK, MOST_ENTRIES, MOST_SNAPSHOT}

-- the most that a term or an index may be
abbrev pub most_index : ℕ
most_index = LAST_NUMBER

-- how long, in milliseconds, the first member waits for a leader, and how much longer than it each next one
abbrev pub least_timeout : ℕ
least_timeout = 2000

abbrev pub timeout_step : ℕ
timeout_step = 100

-- milliseconds between two beats of a leader
abbrev pub beat_period : ℕ
beat_period = 1000

-- the most entries, and the most bytes of entries, in one Append
abbrev pub batch_entries : ℕ
batch_entries = MOST_ENTRIES

abbrev pub batch_bytes : ℕ
batch_bytes = MOST_CHUNK

-- the bytes of a chunk, and the most that a snapshot may have
abbrev pub chunk_bytes : ℕ
chunk_bytes = MOST_CHUNK

abbrev pub most_snapshot : ℕ
most_snapshot = MOST_SNAPSHOT

-- so many entries that are not committed make a leader refuse another
abbrev pub most_uncommitted : ℕ
most_uncommitted = 100

-- so many reads that wait make a leader refuse another
abbrev pub most_looks : ℕ
most_looks = 100
