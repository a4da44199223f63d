-- Words on what a member has stored of one group, and the parts that its steps write. What is stored, and the words on it that a store
-- answers, are those of `cp_log_rules`.
use Rattle.std.specs.Prelude.{ℕ, ◌*◌, ◌==◌, Bool, false, not, ◌&&◌, if◌then◌else◌, List, length, filter, count_by, Option, Some, None, unwrap_or, nat_lt}
use Rattle.std.specs.List.{list_any}
use Rattle.cp_parts.specs.declared.config.Config.{Config}
use Rattle.cp_parts.specs.declared.log_entry.LogEntry.{LogEntry}
use Rattle.cp_log_rules.specs.Persistent.{PersistentState, last, term_at, with_ballot, with_entries, with_snapshot}
use Rattle.cp_log_rules.specs.Configurations.{config_after}
use Rattle.cp_rules.specs.declared.ballot.Ballot.{Ballot}
use Rattle.cp_rules.specs.declared.log_end.LogEnd.{LogEnd}

abbrev pub ballot : PersistentState → Ballot
ballot p = record { term = p.term; vote = p.vote }

-- ---- the log

abbrev pub is_term : ℕ → Option ℕ → Bool
is_term term None = false
is_term term (Some t) = t == term

abbrev pub has_term : PersistentState → ℕ → ℕ → Bool
has_term p index term = is_term term (term_at p index)

-- the term of an index that is there
abbrev pub known_term : PersistentState → ℕ → ℕ
known_term p index = unwrap_or (term_at p index) 0

abbrev pub log_end : PersistentState → LogEnd
log_end p = record { term = known_term p (last p); index = last p }

-- ---- the configuration in force

-- That of the last members entry in the log, committed or not, else the snapshot's, else the first members, with which a group begins.
abbrev pub configuration : PersistentState → Config
configuration p = config_after p.base_config p.base p.log

abbrev pub members : PersistentState → List ℕ
members p = (configuration p).members

abbrev pub is_member : ℕ → List ℕ → Bool
is_member m members = list_any (λ x. x == m) members

abbrev pub others : ℕ → List ℕ → List ℕ
others me members = filter (λ m. not (m == me)) members

-- those that pass the test are more than half of the members
abbrev pub is_quorum : List ℕ → (ℕ → Bool) → Bool
is_quorum members test = nat_lt (length members) (2 * count_by test members)

-- ---- parts

-- A part that a step writes, with the term and the vote after it. An AppendPart keeps the log up to an index, and these entries follow
-- it. A SnapshotPart takes the place of the log up to an index.
pub data Part : Type 0 where
  StatePart : (ballot : Ballot) → Part
  AppendPart : (ballot : Ballot) (after : ℕ) (entries : List LogEntry) → Part
  SnapshotPart : (ballot : Ballot) (index : ℕ) (bytes : List ℕ) → Part

abbrev pub with_part : Part → PersistentState → PersistentState
with_part (StatePart b) p = with_ballot b.term b.vote p
with_part (AppendPart b after entries) p = with_entries b.term b.vote after entries p
with_part (SnapshotPart b index bytes) p = with_snapshot b.term b.vote index bytes p

-- what stands after the part of a step, or without one
abbrev pub after_part : Option Part → PersistentState → PersistentState
after_part None p = p
after_part (Some part) p = with_part part p

-- the part that writes term and vote, where one of them is another than before
abbrev pub ballot_part : PersistentState → Ballot → Option Part
ballot_part p b = if (p.term == b.term) && (p.vote == b.vote) then None else Some (StatePart b)
