-- What is made of chunks.
use Rattle.std.specs.Prelude.{◌≡◌, ◌<◌, ◌≤◌, ℕ, zero, suc, ◌*◌, Bool, true, false, List, [], ◌∷◌, length, map, Option, Some, None, is_some, All}
use Rattle.cp_message.specs.declared.snapshot.Chunk.{Chunk}
use Rattle.cp_rules.specs.declared.peer.Peer.{Peer}
use Rattle.cp_rules.specs.Limits.{chunk_bytes, most_snapshot}
use Rattle.cp_log_rules.specs.Persistent.{PersistentState}
use Rattle.cp_rules.specs.Persistent.{SnapshotPart, ballot}
use Rattle.cp_rules.specs.Volatile.{Received, VolatileState, peer, with_peer}
use Rattle.cp_rules.specs.Local.{LocalStep, does, reply, SnapshotReply}
use Rattle.cp_rules.specs.Spelling.{snapshot_bytes}
use Rattle.cp_rules.specs.Appends.{following}
use Rattle.cp_rules.specs.Sending.{chunk, is_last_chunk, chunk_from}
use Rattle.cp_rules.specs.Snapshots.{Progress, Whole, progress, received_of, answers, takes_chunk, on_snapshot, sends_more, own_head, own_snapshot, from_start}
use Rattle.cp_snapshot.specs.declared.answering.Taken.{Taken}
use Rattle.cp_snapshot.specs.declared.answering.Taken.TheVariants.{Refused, Known, Joined}
use Rattle.cp_snapshot.specs.Decisions.{progress_at, received_after, goes_on, take_chunk, writes_own}

-- ---- the chunks of one snapshot

-- the n-th chunk of a snapshot, counted from 0
abbrev pub piece : ℕ → ℕ → ℕ → List ℕ → ℕ → Chunk
piece group term index snapshot n = record {
  group = record { 0 = group };
  term = term;
  index = index;
  offset = n * chunk_bytes;
  last = is_last_chunk snapshot (n * chunk_bytes);
  bytes = chunk snapshot (n * chunk_bytes);
}

-- what is received after the first n of them
abbrev pub after_pieces : ℕ → ℕ → ℕ → List ℕ → Option Received → ℕ → Option Received
after_pieces group term index snapshot before zero = before
after_pieces group term index snapshot before (suc n) = received_after (piece group term index snapshot n) (after_pieces group term index snapshot before n)

-- whatever was received before the first, the last makes the snapshot whole
abbrev pub ChunksMakeTheSnapshot : Type 0
ChunksMakeTheSnapshot = (group term index : ℕ) (snapshot : List ℕ) (before : Option Received) (n : ℕ)
    → length snapshot ≤ most_snapshot → n * chunk_bytes < length snapshot → length snapshot ≤ suc n * chunk_bytes
    → progress_at (piece group term index snapshot n) (after_pieces group term index snapshot before n) ≡ Whole snapshot

-- ---- chunks of many snapshots

-- a chunk is a piece of the snapshot of its term and index
pub record IsPiece (snapshots : ℕ → ℕ → List ℕ) (c : Chunk) : Type 0 where
  pub bytes : c.bytes ≡ chunk (snapshots c.term c.index) c.offset
  pub last : c.last ≡ is_last_chunk (snapshots c.term c.index) c.offset

-- what is received after some chunks
abbrev pub after_chunks : List Chunk → Option Received → Option Received
after_chunks [] before = before
after_chunks (c ∷ chunks) before = after_chunks chunks (received_after c before)

-- lost, repeated and in any order
abbrev pub WholesAreSnapshots : Type 0
WholesAreSnapshots = (snapshots : ℕ → ℕ → List ℕ) (chunks : List Chunk) (c : Chunk) (bytes : List ℕ)
    → All (IsPiece snapshots) chunks → IsPiece snapshots c
    → progress_at c (after_chunks chunks None) ≡ Whole bytes → bytes ≡ snapshots c.term c.index

-- ---- a chunk that came

-- with how far it brings its snapshot
abbrev pub after_chunk : PersistentState → VolatileState → ℕ → ℕ → ℕ → Progress → Taken → LocalStep
after_chunk p v from term index far Refused = does None v (reply from (SnapshotReply p.term index false 0))
after_chunk p v from term index far Known = answers p (following from v) from term index true 0
after_chunk p v from term index far Joined = takes_chunk p v from term index far

abbrev pub ChunksGoAsDecided : Type 0
ChunksGoAsDecided = (p : PersistentState) (v : VolatileState) (from term index offset : ℕ) (is_last : Bool) (bytes : List ℕ)
    → on_snapshot p v from term index offset is_last bytes
    ≡ after_chunk p v from term index (progress (received_of term index v.received) offset is_last bytes) (take_chunk p.term v.commit term index)

-- ---- the reply to a chunk

abbrev pub after_reply : PersistentState → VolatileState → ℕ → ℕ → Option Peer → LocalStep
after_reply p v from received None = does None v []
after_reply p v from received (Some x) = does None (with_peer from x v) (reply from (chunk_from p received))

abbrev pub RepliesGoAsDecided : Type 0
RepliesGoAsDecided = (p : PersistentState) (v : VolatileState) (from index received : ℕ)
    → sends_more p v from index received ≡ after_reply p v from received (goes_on (peer v.peers from) p.base (length p.snapshot) index received)

-- ---- the member's own snapshot

-- where it is written, the next chunks begin anew
abbrev pub with_own : PersistentState → LocalStep → List ℕ → Bool → LocalStep
with_own p s bytes false = s
with_own p s bytes true = record s { part = Some (SnapshotPart (ballot p) s.state.commit bytes); state = record s.state { peers = map from_start s.state.peers } }

abbrev pub OwnSnapshotsGoAsDecided : Type 0
OwnSnapshotsGoAsDecided = (p : PersistentState) (s : LocalStep) (may_write : Bool) (machine : List ℕ)
    → own_snapshot p s may_write (Some machine)
    ≡ (let bytes = snapshot_bytes (own_head p s.state.commit) machine in with_own p s bytes (writes_own may_write (is_some s.part) (length bytes)))
