-- A member that takes a step, and what is shown of each step. The facts are shown of a step that sends nothing; what it sends is true of it.
use Rattle.std.proofs.Common.{◌≡◌, ℕ, ◌<◌, ◌⊎◌, Bool, true, false, List, [], Option, Some, None, Contains, All}
use Rattle.cp_agreement_facts.specs.Clusters.{Message}
use Rattle.cp_safety.specs.Tracking.{TrackedCluster, TrackedStep, TrackedFacts, SendsTruly}
use Rattle.cp_safety.specs.Chunks.{Wire, Chunk, IsPiece, seen_got, seen_sent}
use Rattle.cp_parts.specs.declared.snapshot_head.SnapshotHead.{SnapshotHead}
use Rattle.cp_parts.specs.Heads.{head_of}
use Rattle.cp_log_rules.specs.Persistent.{PersistentState}
use Rattle.cp_rules.specs.Persistent.{after_part}
use Rattle.cp_rules.specs.Volatile.{Received, VolatileState}
use Rattle.cp_rules.specs.Local.{Body, PreVote, PreVoteReply, Vote, VoteReply, Append, AppendReply, Snapshot, SnapshotReply, Confirm, Confirmed, Sent, LocalStep}
use Rattle.cp_rules.specs.Snapshots.{joined, received_of}
use Rattle.cp_rules_facts.specs.Seen.{tracked_member, sent_wire, reader}
use Rattle.cp_rules_facts.specs.Soundness.{IsSound}

-- A sound member before its step: what was ever sent, what comes, and the snapshot as which a chunk that comes is read.
pub record Turn : Type 0 where
  pub sent : List Message
  pub me : ℕ
  pub p : PersistentState
  pub v : VolatileState
  pub came : Option Wire
  pub index_term : ℕ
  pub members : List ℕ
  pub sound : IsSound me p v
  pub delivered : (m : Message) → seen_got index_term members came ≡ Some m → Contains sent m
  pub whole : (sender term index offset : ℕ) (bytes all : List ℕ) → came ≡ Some (Chunk sender term index offset true bytes) → joined (received_of term index v.received) offset bytes ≡ Some all
      → (index_term ≡ reader.term_of all) × (members ≡ reader.members_of all)

abbrev pub got : Turn → Option Message
got t = seen_got t.index_term t.members t.came

abbrev pub here : Turn → TrackedCluster
here t = record { member = λ m. tracked_member t.p t.v; sent = t.sent }

-- a step that leaves these and sends nothing
abbrev pub core : Turn → Bool → PersistentState → VolatileState → TrackedStep
core t leads p v = record { actor = t.me; got = got t; leads = leads; after = tracked_member p v; sends = []; cut = false }

-- a message, where it is a chunk, is a piece of the member's snapshot
abbrev pub IsOwnChunk : PersistentState → Body → Type 0
IsOwnChunk p (Snapshot term index offset is_last bytes) = (index ≡ p.base) × (0 < p.base) × IsPiece p.snapshot offset is_last bytes
IsOwnChunk p (PreVote term candidate) = Unit {0}
IsOwnChunk p (PreVoteReply term granted) = Unit {0}
IsOwnChunk p (Vote term candidate) = Unit {0}
IsOwnChunk p (VoteReply term granted) = Unit {0}
IsOwnChunk p (Append term previous previous_term commit entries) = Unit {0}
IsOwnChunk p (AppendReply term taken index) = Unit {0}
IsOwnChunk p (SnapshotReply term index done received) = Unit {0}
IsOwnChunk p (Confirm term round) = Unit {0}
IsOwnChunk p (Confirmed term taken round) = Unit {0}

-- what a step that leaves these may send
abbrev pub Truth : Turn → Bool → PersistentState → VolatileState → Sent → Type 0
Truth t leads p v x = SendsTruly (here t) (core t leads p v) (seen_sent (tracked_member p v) (sent_wire t.me x)) × IsOwnChunk p x.body

-- a snapshot stays, or gives way to one of a higher index that spells what stands with the new base
abbrev pub KeepsSnapshot : PersistentState → PersistentState → Type 0
KeepsSnapshot p q = (q.base ≡ p.base) × (q.base_term ≡ p.base_term) × (q.base_config ≡ p.base_config) × (q.snapshot ≡ p.snapshot)

abbrev pub RaisesSnapshot : PersistentState → PersistentState → Type 0
RaisesSnapshot p q = (p.base < q.base) × ((head : SnapshotHead) × (head_of q.snapshot ≡ Some head) × (head.term ≡ q.base_term) × (head.config ≡ q.base_config))

-- what was received goes on by the chunk that came
pub record GoesOn (v : VolatileState) (came : Option Wire) (after : Option Received) : Type 0 where
  pub sender : ℕ
  pub term : ℕ
  pub index : ℕ
  pub offset : ℕ
  pub is_last : Bool
  pub bytes : List ℕ
  pub all : List ℕ
  pub got : came ≡ Some (Chunk sender term index offset is_last bytes)
  pub joins : joined (received_of term index v.received) offset bytes ≡ Some all
  pub received : after ≡ Some (record { term = term; index = index; bytes = all })

abbrev pub Receives : VolatileState → Option Wire → VolatileState → Type 0
Receives v came after = (after.received ≡ v.received) ⊎ ((after.received ≡ None) ⊎ GoesOn v came after.received)

-- All that is shown of a step that leaves these and sends this.
pub record Left (t : Turn) (leads : Bool) (p : PersistentState) (v : VolatileState) (sends : List Sent) : Type 0 where
  pub facts : TrackedFacts (here t) (core t leads p v)
  pub says : All (Truth t leads p v) sends
  pub sound : IsSound t.me p v
  pub snapshot : KeepsSnapshot t.p p ⊎ RaisesSnapshot t.p p
  pub receives : Receives t.v t.came v

abbrev pub Good : Turn → LocalStep → Type 0
Good t s = Left t s.leads (after_part s.part t.p) s.state s.sends
