-- The numbers that have spellings: of what a member stores and keeps, of what comes to it, and of what it writes and sends.
use Rattle.std.specs.Prelude.{◌≡◌, ℕ, ◌+◌, ◌^◌, ◌-◌, ◌<◌, ◌≤◌, true, List, length, Option, Some, None, is_some}
use Rattle.std.specs.List.{AllByRecursion}
use Rattle.cp_base.specs.declared.limits.TheConstants.{MOST_ENTRY}
use Rattle.cp_grammar.specs.Common as common
use Rattle.cp_parts.specs.declared.log_entry.LogEntry.{LogEntry}
use Rattle.cp_parts.specs.Heads.{head_of}
use Rattle.cp_log_rules.specs.Persistent.{PersistentState, last}
use Rattle.cp_rules.specs.declared.ballot.Ballot.{Ballot}
use Rattle.cp_rules.specs.declared.log_end.LogEnd.{LogEnd}
use Rattle.cp_rules.specs.declared.role.Role.TheVariants.{PreCandidate, Candidate}
use Rattle.cp_rules.specs.Limits.{most_index, batch_entries, chunk_bytes, most_snapshot}
use Rattle.cp_rules.specs.Persistent.{Part, StatePart, AppendPart, SnapshotPart}
use Rattle.cp_rules.specs.Volatile.{Received, VolatileState}
use Rattle.cp_rules.specs.Local.{Body, PreVote, PreVoteReply, Vote, VoteReply, Append, AppendReply, Snapshot, SnapshotReply, Confirm, Confirmed, Sent, Event, Tick, Got, Propose, ChangeMembers, Read}

-- the most bytes of an entry
abbrev pub most_entry : ℕ
most_entry = MOST_ENTRY

-- members have the numbers 1 to 9
pub record IsMember (m : ℕ) : Type 0 where
  pub first : 1 ≤ m
  pub last : m ≤ 9

pub record EntryIsInRange (e : LogEntry) : Type 0 where
  pub term : e.term ≤ most_index
  pub bytes : length e.bytes ≤ most_entry

abbrev pub AreInRange : List LogEntry → Type 0
AreInRange entries = AllByRecursion EntryIsInRange entries

-- ---- a member

pub record StoredIsInRange (p : PersistentState) : Type 0 where
  pub term : p.term ≤ most_index
  pub vote : p.vote ≤ 9
  pub last_index : last p ≤ most_index
  pub base_term : p.base_term ≤ most_index
  pub members : common.members.Fits p.base_config.members
  pub snapshot : length p.snapshot ≤ most_snapshot
  pub entries : AreInRange p.log

pub record KeptIsInRange (v : VolatileState) : Type 0 where
  pub clock : v.clock ≤ most_index
  pub heard : v.heard ≤ most_index
  pub beat : v.beat ≤ most_index
  pub round : v.reads.round ≤ most_index
  pub received : (x : Received) → v.received ≡ Some x → length x.bytes ≤ most_snapshot

-- Who asks to be elected has room for another term and another entry; who stands for election for another entry.
pub record IsInRange (p : PersistentState) (v : VolatileState) : Type 0 where
  pub stored : StoredIsInRange p
  pub kept : KeptIsInRange v
  pub asks : v.role ≡ PreCandidate → (p.term < most_index) × (last p < most_index)
  pub campaigns : v.role ≡ Candidate → last p < most_index

-- ---- messages

pub record EndIsInRange (x : LogEnd) : Type 0 where
  pub term : x.term ≤ most_index
  pub index : x.index ≤ most_index

pub record AppendIsInRange (term previous previous_term commit : ℕ) (entries : List LogEntry) : Type 0 where
  pub own : term ≤ most_index
  pub before : previous_term ≤ most_index
  pub committed : commit ≤ most_index
  pub few : length entries ≤ batch_entries
  pub end : previous + length entries ≤ most_index
  pub all : AreInRange entries

pub record ChunkIsInRange (term index offset : ℕ) (bytes : List ℕ) : Type 0 where
  pub own : term ≤ most_index
  pub at : index ≤ most_index
  pub start : offset ≤ 2 ^ 32 - 1
  pub short : length bytes ≤ chunk_bytes

abbrev pub BodyIsInRange : Body → Type 0
BodyIsInRange (PreVote term candidate) = (term ≤ most_index) × EndIsInRange candidate
BodyIsInRange (PreVoteReply term granted) = term ≤ most_index
BodyIsInRange (Vote term candidate) = (term ≤ most_index) × EndIsInRange candidate
BodyIsInRange (VoteReply term granted) = term ≤ most_index
BodyIsInRange (Append term previous previous_term commit entries) = AppendIsInRange term previous previous_term commit entries
BodyIsInRange (AppendReply term taken index) = (term ≤ most_index) × (index ≤ most_index)
BodyIsInRange (Snapshot term index offset is_last bytes) = ChunkIsInRange term index offset bytes
BodyIsInRange (SnapshotReply term index done received) = (term ≤ most_index) × (index ≤ most_index) × (received ≤ 2 ^ 32 - 1)
BodyIsInRange (Confirm term round) = (term ≤ most_index) × (round ≤ most_index)
BodyIsInRange (Confirmed term taken round) = (term ≤ most_index) × (round ≤ most_index)

pub record SentIsInRange (x : Sent) : Type 0 where
  pub to : IsMember x.to
  pub body : BodyIsInRange x.body

-- ---- events

-- What comes has a spelling: a member's message, entries of at most so many bytes, clocks and rounds that do not end.
abbrev pub EventIsInRange : VolatileState → Event → Type 0
EventIsInRange v (Tick clock may_write expiry machine) = (clock ≤ most_index) × ((entry : List ℕ) → expiry ≡ Some entry → length entry ≤ most_entry)
EventIsInRange v (Got from body) = IsMember from × BodyIsInRange body
EventIsInRange v (Propose entry) = length entry ≤ most_entry
EventIsInRange v (ChangeMembers change plan call) = Unit {0}
EventIsInRange v (Read call attempt op) = v.reads.round < most_index

-- ---- parts

-- the term does not fall
pub record BallotIsInRange (p : PersistentState) (b : Ballot) : Type 0 where
  pub up : p.term ≤ b.term
  pub term : b.term ≤ most_index
  pub vote : b.vote ≤ 9

pub record AppendPartIsInRange (p : PersistentState) (after : ℕ) (entries : List LogEntry) : Type 0 where
  pub low : p.base ≤ after
  pub high : after ≤ last p
  pub end : after + length entries ≤ most_index
  pub few : length entries ≤ batch_entries
  pub all : AreInRange entries

pub record SnapshotPartIsInRange (p : PersistentState) (index : ℕ) (bytes : List ℕ) : Type 0 where
  pub above : p.base < index
  pub most : index ≤ most_index
  pub head : is_some (head_of bytes) ≡ true
  pub short : length bytes ≤ most_snapshot

-- after what is stored
abbrev pub PartIsInRange : PersistentState → Part → Type 0
PartIsInRange p (StatePart b) = BallotIsInRange p b
PartIsInRange p (AppendPart b after entries) = BallotIsInRange p b × AppendPartIsInRange p after entries
PartIsInRange p (SnapshotPart b index bytes) = BallotIsInRange p b × SnapshotPartIsInRange p index bytes

abbrev pub WrittenIsInRange : PersistentState → Option Part → Type 0
WrittenIsInRange p None = Unit {0}
WrittenIsInRange p (Some part) = PartIsInRange p part
