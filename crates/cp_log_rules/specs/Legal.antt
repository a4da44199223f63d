-- Which part may follow.
use Rattle.std.specs.Prelude.{ℕ, ◌+◌, ◌*◌, ◌^◌, Bool, false, not, List, length, Option, Some, None, is_some, nat_le, nat_lt, ◌==◌, ◌&&◌}
use Rattle.std.specs.List.{list_all}
use Rattle.cp_base.specs.declared.limits.TheConstants.{LAST_NUMBER, OLDER_MOST_ENTRY}
use Rattle.cp_parts.specs.declared.log_entry.LogEntry.{LogEntry}
use Rattle.cp_parts.specs.declared.part.Part.{Part}
use Rattle.cp_parts.specs.declared.part.Part.TheVariants as part
use Rattle.cp_parts.specs.Heads.{head_of}
use Rattle.cp_log_rules.specs.Persistent.{PersistentState, last}
use Rattle.cp_log_rules.specs.Durable.{DurableState, group_at, has_group, has_ended}

-- the most bytes of an entry: 4,096 in the first format, 8,192 in the second
abbrev pub most_entry : ℕ → ℕ
most_entry format = OLDER_MOST_ENTRY * format

abbrev pub are_short : ℕ → List LogEntry → Bool
are_short format entries = list_all (λ e. nat_le (length e.bytes) (most_entry format)) entries

-- ---- parts of a group that stands: its term never falls

abbrev pub may_vote : ℕ → PersistentState → Bool
may_vote term s = nat_le s.term term

-- entries stand behind an index from the base to the last, and the last one has an index of at most 2^62
abbrev pub may_append : ℕ → ℕ → List LogEntry → PersistentState → Bool
may_append term after entries s =
    nat_le s.term term && (nat_le s.base after && (nat_le after (last s) && nat_le (after + length entries) LAST_NUMBER))

-- a snapshot's index is above the base, and its bytes begin with a term and a configuration
abbrev pub may_snapshot : ℕ → ℕ → List ℕ → PersistentState → Bool
may_snapshot term index bytes s = nat_le s.term term && (nat_lt s.base index && is_some (head_of bytes))

abbrev pub if_stands : (PersistentState → Bool) → Option PersistentState → Bool
if_stands may None = false
if_stands may (Some s) = may s

-- ---- every part

-- Starts count up by one, and none of the first format follows one of the second. A group begins once, and ends once: also one that
-- doesn't stand may end, so that it never begins.
abbrev pub is_legal : Part → DurableState → Bool
is_legal (part.Start restart) s = s.format == 1 && restart == s.restart + 1
is_legal (part.State group term vote) s = if_stands (may_vote term) (group_at s group.0)
is_legal (part.Append group term vote after entries) s = are_short s.format entries && if_stands (may_append term after entries) (group_at s group.0)
is_legal (part.Begin group first) s = not (has_group s group.0) && not (has_ended s group.0)
is_legal (part.End group) s = not (has_ended s group.0)
is_legal (part.Snapshot group term vote index bytes) s = if_stands (may_snapshot term index bytes) (group_at s group.0)
is_legal (part.Start2 restart) s = restart == s.restart + 1
