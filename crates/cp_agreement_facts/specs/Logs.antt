-- Words on logs. A log is a list, its oldest entry first. Indexes count from 1; index 0 is before the first entry and has term 0.
use Rattle.std.specs.Prelude.{◌≡◌, ◌≢◌, ℕ, zero, suc, ◌+◌, ◌<◌, ◌≤◌, ◌⊎◌, List, ◌++◌, length, take, drop, Some, slice_get}
use Rattle.cp_parts.specs.declared.log_entry.LogEntry.{LogEntry}

abbrev pub HasTerm : List LogEntry → ℕ → ℕ → Type 0
HasTerm log zero t = t ≡ 0
HasTerm log (suc k) t = (e : LogEntry) × (slice_get log k ≡ Some e) × (e.term ≡ t)

-- the log's last index, and its term
abbrev pub EndsAt : List LogEntry → ℕ → ℕ → Type 0
EndsAt log t i = (i ≡ length log) × HasTerm log i t

-- A log that ends with (term, index) is at least as up to date as one that ends with (other_term, other_index).
abbrev pub IsUpToDate : ℕ → ℕ → ℕ → ℕ → Type 0
IsUpToDate term index other_term other_index = (other_term < term) ⊎ ((other_term ≡ term) × (other_index ≤ index))

-- these entries follow in the log after this index
abbrev pub HasEntries : List LogEntry → ℕ → List LogEntry → Type 0
HasEntries log previous entries = (k : ℕ) (e : LogEntry) → slice_get entries k ≡ Some e → slice_get log (previous + k) ≡ Some e

-- where the first n of these entries would follow after this index, the log has entries of their terms
abbrev pub HasTerms : List LogEntry → ℕ → List LogEntry → ℕ → Type 0
HasTerms log previous entries n = (k : ℕ) (e : LogEntry) → k < n → slice_get entries k ≡ Some e → HasTerm log (suc (previous + k)) e.term

-- The log follows these entries after this index: from the first of them on that is past its end, or where it has another term,
-- they replace what it has.
pub record Replaces (log : List LogEntry) (previous : ℕ) (entries : List LogEntry) (after : List LogEntry) : Type 0 where
  -- how many of the entries stand there already
  pub kept : ℕ
  pub entry : LogEntry
  pub there : slice_get entries kept ≡ Some entry
  pub same : HasTerms log previous entries kept
  pub differs : (length log ≡ previous + kept) ⊎ ((e : LogEntry) × (slice_get log (previous + kept) ≡ Some e) × (e.term ≢ entry.term))
  pub result : after ≡ take (previous + kept) log ++ drop kept entries

abbrev pub IsPrefixOf : List LogEntry → List LogEntry → Type 0
IsPrefixOf front log = (rest : List LogEntry) × (front ++ rest ≡ log)
