-- What a member keeps of one group across crashes, and what each kind of part makes of it.
use Rattle.std.specs.Prelude.{ℕ, ◌+◌, ◌-◌, Bool, false, List, [], ◌++◌, length, take, drop, Option, Some, None, slice_get, nat_lt, ◌==◌, if◌then◌else◌}
use Rattle.std.specs.Option.{option_map}
use Rattle.cp_parts.specs.declared.config.Config.{Config}
use Rattle.cp_parts.specs.declared.log_entry.LogEntry.{LogEntry}
use Rattle.cp_parts.specs.declared.snapshot_head.SnapshotHead.{SnapshotHead}
use Rattle.cp_parts.specs.Heads.{head_of}

-- The log is what follows the base: the index of the snapshot, or 0 where there is none. With the base stand the term of that
-- index and the configuration in force there, which at first is that of the first members.
pub record PersistentState : Type 0 where
  pub term : ℕ
  -- who got the vote in this term, 0 for nobody
  pub vote : ℕ
  pub base : ℕ
  pub base_term : ℕ
  pub base_config : Config
  pub snapshot : List ℕ
  pub log : List LogEntry

-- a group that has just begun, with these members
abbrev pub new_group : List ℕ → PersistentState
new_group first = record {
  term = 0;
  vote = 0;
  base = 0;
  base_term = 0;
  base_config = record { index = 0; plan = 0; members = first };
  snapshot = [];
  log = [];
}

-- ---- words

abbrev pub last : PersistentState → ℕ
last s = s.base + length s.log

-- the entry at an index, none up to the base and behind the last
abbrev pub entry_at : PersistentState → ℕ → Option LogEntry
entry_at s index = if nat_lt s.base index then slice_get s.log (index - s.base - 1) else None

-- the term at an index from the base to the last
abbrev pub term_at : PersistentState → ℕ → Option ℕ
term_at s index = if index == s.base then Some s.base_term else option_map (λ e. e.term) (entry_at s index)

abbrev pub is_term : ℕ → Option LogEntry → Bool
is_term term None = false
is_term term (Some e) = e.term == term

-- ---- what a part makes of it

abbrev pub with_ballot : ℕ → ℕ → PersistentState → PersistentState
with_ballot term vote s = record s { term = term; vote = vote }

-- the log up to an index, and these entries behind it
abbrev pub with_entries : ℕ → ℕ → ℕ → List LogEntry → PersistentState → PersistentState
with_entries term vote after entries s = record s { term = term; vote = vote; log = take (after - s.base) s.log ++ entries }

-- what stays of the log behind a snapshot's index: all of it where the entry there has the snapshot's term, else nothing
abbrev pub suffix_behind : ℕ → ℕ → PersistentState → List LogEntry
suffix_behind index term s = if is_term term (entry_at s index) then drop (index - s.base) s.log else []

abbrev pub with_head : ℕ → ℕ → ℕ → List ℕ → Option SnapshotHead → PersistentState → PersistentState
with_head term vote index bytes None s = s
with_head term vote index bytes (Some head) s = record {
  term = term;
  vote = vote;
  base = index;
  base_term = head.term;
  base_config = head.config;
  snapshot = bytes;
  log = suffix_behind index head.term s;
}

-- a snapshot of an index in the place of the entries up to it
abbrev pub with_snapshot : ℕ → ℕ → ℕ → List ℕ → PersistentState → PersistentState
with_snapshot term vote index bytes s = with_head term vote index bytes (head_of bytes) s
