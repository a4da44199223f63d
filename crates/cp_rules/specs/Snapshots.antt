-- Snapshots: what a follower joins from chunks, what a leader sends next, and the member's own snapshot.
use Rattle.std.specs.Prelude.{◌≡◌, ◌↔◌, ℕ, zero, suc, ◌==◌, Bool, true, false, not, ◌&&◌, if◌then◌else◌, List, [], ◌++◌, length, map, Option, Some, None, is_none, nat_lt, nat_le}
use Rattle.cp_rules.specs.declared.peer.Peer.{Peer}
use Rattle.cp_rules.specs.Limits.{most_snapshot}
use Rattle.cp_parts.specs.declared.snapshot_head.SnapshotHead.{SnapshotHead}
use Rattle.cp_parts.specs.Heads.{head_of}
use Rattle.cp_rules.specs.Spelling.{snapshot_bytes}
use Rattle.cp_log_rules.specs.Persistent.{PersistentState}
use Rattle.cp_log_rules.specs.Configurations.{config_at}
use Rattle.cp_rules.specs.Persistent.{ballot, known_term, ballot_part, SnapshotPart}
use Rattle.cp_rules.specs.Volatile.{Received, VolatileState, peer, with_peer}
use Rattle.cp_rules.specs.Local.{LocalStep, does, reply, SnapshotReply}
use Rattle.cp_rules.specs.Terms.{adopted, adopts}
use Rattle.cp_rules.specs.Sending.{chunk_from}
use Rattle.cp_rules.specs.Appends.{following}
use Rattle.cp_rules.specs.AppendReplies.{is_answered, matches}

-- ---- a chunk that came

-- what was received of this snapshot of this leader's term
abbrev pub received_of : ℕ → ℕ → Option Received → Option (List ℕ)
received_of term index None = None
received_of term index (Some x) = if (x.term == term) && (x.index == index) then Some x.bytes else None

abbrev pub length_received : Option (List ℕ) → ℕ
length_received None = 0
length_received (Some bytes) = length bytes

-- What is received with this chunk: one at offset 0 begins anew, one at the end of what was received goes on, and no other is joined.
abbrev pub joined : Option (List ℕ) → ℕ → List ℕ → Option (List ℕ)
joined before zero bytes = Some bytes
joined None (suc offset) bytes = None
joined (Some before) (suc offset) bytes = if length before == suc offset then Some (before ++ bytes) else None

-- how far a chunk brings the snapshot
pub data Progress : Type 0 where
  -- it is not joined; so many bytes of this snapshot are received
  Apart : (received : ℕ) → Progress
  -- it would make the snapshot too long
  TooLong : Progress
  -- these bytes are received, and more is to come
  More : (bytes : List ℕ) → Progress
  -- these bytes are all
  Whole : (bytes : List ℕ) → Progress

abbrev pub progress_of : Bool → Option (List ℕ) → Option (List ℕ) → Progress
progress_of is_last before None = Apart (length_received before)
progress_of is_last before (Some bytes) = if nat_lt most_snapshot (length bytes) then TooLong else if is_last then Whole bytes else More bytes

-- with what was received of this snapshot before
abbrev pub progress : Option (List ℕ) → ℕ → Bool → List ℕ → Progress
progress before offset is_last bytes = progress_of is_last before (joined before offset bytes)

abbrev pub answers : PersistentState → VolatileState → ℕ → ℕ → ℕ → Bool → ℕ → LocalStep
answers p v from term index done received = does (ballot_part p (adopted term (ballot p))) v (reply from (SnapshotReply term index done received))

abbrev pub installs : PersistentState → VolatileState → ℕ → ℕ → ℕ → List ℕ → LocalStep
installs p v from term index bytes =
    does (Some (SnapshotPart (adopted term (ballot p)) index bytes)) (record (following from v) { commit = index; received = None }) (reply from (SnapshotReply term index true 0))

abbrev pub receives : PersistentState → VolatileState → ℕ → ℕ → ℕ → List ℕ → LocalStep
receives p v from term index bytes =
    answers p (record (following from v) { received = Some (record { term = term; index = index; bytes = bytes }) }) from term index false (length bytes)

-- A chunk of a snapshot that is not committed here. Where it would be too long, and where all of the bytes make no snapshot, it changes
-- nothing.
abbrev pub takes_chunk : PersistentState → VolatileState → ℕ → ℕ → ℕ → Progress → LocalStep
takes_chunk p v from term index (Apart received) = answers p (following from v) from term index false received
takes_chunk p v from term index TooLong = does None v []
takes_chunk p v from term index (More bytes) = receives p v from term index bytes
takes_chunk p v from term index (Whole bytes) = if is_none (head_of bytes) then does None v [] else installs p v from term index bytes

abbrev pub on_snapshot : PersistentState → VolatileState → ℕ → ℕ → ℕ → ℕ → Bool → List ℕ → LocalStep
on_snapshot p v from term index offset is_last bytes =
    if nat_lt term p.term then does None v (reply from (SnapshotReply p.term index false 0))
    else if nat_le index v.commit then answers p (following from v) from term index true 0
    else takes_chunk p v from term index (progress (received_of term index v.received) offset is_last bytes)

-- the whole snapshot that a chunk would install, if it does
abbrev pub whole_of : Progress → Option (List ℕ)
whole_of (Apart received) = None
whole_of TooLong = None
whole_of (More bytes) = None
whole_of (Whole bytes) = if is_none (head_of bytes) then None else Some bytes

abbrev pub completes : PersistentState → VolatileState → ℕ → ℕ → ℕ → Bool → List ℕ → Option (List ℕ)
completes p v term index offset is_last bytes =
    if nat_lt term p.term then None
    else if nat_le index v.commit then None
    else whole_of (progress (received_of term index v.received) offset is_last bytes)

-- Exactly a chunk that completes a snapshot installs it.
abbrev pub CompletesWhereInstalled : Type 0
CompletesWhereInstalled = (p : PersistentState) (v : VolatileState) (from term index offset : ℕ) (is_last : Bool) (bytes all : List ℕ)
    → (completes p v term index offset is_last bytes ≡ Some all) ↔ ((on_snapshot p v from term index offset is_last bytes).part ≡ Some (SnapshotPart (adopted term (ballot p)) index all))

-- ---- the reply to a chunk, at a leader

abbrev pub sends_more : PersistentState → VolatileState → ℕ → ℕ → ℕ → LocalStep
sends_more p v from index received =
    if (index == p.base) && (nat_le received (length p.snapshot) && nat_le (peer v.peers from).next p.base)
    then does None (with_peer from (record (peer v.peers from) { offset = received }) v) (reply from (chunk_from p received))
    else does None v []

abbrev pub on_snapshot_reply : ℕ → PersistentState → VolatileState → ℕ → ℕ → ℕ → Bool → ℕ → LocalStep
on_snapshot_reply me p v from term index done received =
    if nat_lt p.term term then adopts term p v
    else if not (is_answered p v from term) then does None v []
    else if done then matches me p v from index
    else sends_more p v from index received

-- ---- the member's own snapshot

abbrev pub own_head : PersistentState → ℕ → SnapshotHead
own_head p index = record { term = known_term p index; config = config_at p index }

abbrev pub from_start : Peer → Peer
from_start x = record x { offset = 0 }

-- a snapshot of what is committed, unless it is too long
abbrev pub writes_snapshot : PersistentState → LocalStep → List ℕ → LocalStep
writes_snapshot p s bytes =
    if nat_lt most_snapshot (length bytes) then s
    else record s { part = Some (SnapshotPart (ballot p) s.state.commit bytes); state = record s.state { peers = map from_start s.state.peers } }

-- in a step that wrote nothing
abbrev pub own_snapshot : PersistentState → LocalStep → Bool → Option (List ℕ) → LocalStep
own_snapshot p s may_write None = s
own_snapshot p s may_write (Some machine) = if may_write && is_none s.part then writes_snapshot p s (snapshot_bytes (own_head p s.state.commit) machine) else s
