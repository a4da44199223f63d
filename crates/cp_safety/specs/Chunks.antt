-- Members that send a snapshot in chunks. A chunk stands for the whole snapshot, with the term and the configuration that its bytes
-- begin with; what a member joins from chunks of one term and index is one snapshot.
use Rattle.std.specs.Prelude.{◌≡◌, ℕ, ◌<◌, ◌⊎◌, Bool, true, List, [], ◌∷◌, ◌++◌, length, map, Option, Some, None, Contains, if◌then◌else◌}
use Rattle.cp_agreement_facts.specs.Clusters.{Message, Snapshot, put, Step, cluster_after}
use Rattle.cp_safety.specs.Tracking.{TrackedMember, TrackedCluster, TrackedStep, TrackedFacts, restarted, tracked_opening, untracked}

-- How a snapshot's bytes are read: the term of its index, and the configuration there.
pub record SnapshotReader : Type 0 where
  pub term_of : List ℕ → ℕ
  pub members_of : List ℕ → List ℕ

-- The first bytes of a snapshot, received so far from a leader of this term.
pub record Received : Type 0 where
  pub term : ℕ
  pub index : ℕ
  pub bytes : List ℕ

-- a member, its snapshot's bytes, and what it has received of another's
pub record ChunkedMember : Type 0 where
  pub tracked : TrackedMember
  pub snapshot : List ℕ
  pub received : Option Received

-- what goes over the wire: a message as it is, or a chunk of a snapshot
pub data Wire : Type 0 where
  AsItIs : Message → Wire
  Chunk : (sender term index offset : ℕ) (last : Bool) (bytes : List ℕ) → Wire

pub record ChunkedCluster : Type 0 where
  pub member : ℕ → ChunkedMember
  pub sent : List Wire

pub record ChunkedStep : Type 0 where
  pub actor : ℕ
  pub got : Option Wire
  pub leads : Bool
  pub after : ChunkedMember
  pub sends : List Wire
  pub cut : Bool

abbrev pub chunked_restart : ChunkedMember → ChunkedMember
chunked_restart m = record { tracked = restarted m.tracked; snapshot = m.snapshot; received = None }

abbrev pub chunked_after_step : ChunkedCluster → ChunkedStep → ChunkedCluster
chunked_after_step w s = record {
  member = put w.member s.actor (if s.cut then chunked_restart s.after else s.after);
  sent = w.sent ++ (if s.cut then [] else s.sends);
}

abbrev pub chunked_opening : List ℕ → ChunkedCluster
chunked_opening first = record { member = λ m. record { tracked = (tracked_opening first).member m; snapshot = []; received = None }; sent = [] }

abbrev pub chunked_after : List ℕ → List ChunkedStep → ChunkedCluster
chunked_after first [] = chunked_opening first
chunked_after first (s ∷ before) = chunked_after_step (chunked_after first before) s

-- what came, where a chunk is of a snapshot with this term and configuration
abbrev pub seen_got : ℕ → List ℕ → Option Wire → Option Message
seen_got index_term members None = None
seen_got index_term members (Some (AsItIs m)) = Some m
seen_got index_term members (Some (Chunk f t i offset last bytes)) = Some (Snapshot f t i index_term members)

-- what a member's message stands for
abbrev pub seen_sent : TrackedMember → Wire → Message
seen_sent m (AsItIs x) = x
seen_sent m (Chunk f t i offset last bytes) = Snapshot f t i m.base_term m.base_members

abbrev pub seen_step : ℕ → List ℕ → ChunkedStep → TrackedStep
seen_step index_term members s = record {
  actor = s.actor;
  got = seen_got index_term members s.got;
  leads = s.leads;
  after = s.after.tracked;
  sends = map (seen_sent s.after.tracked) s.sends;
  cut = s.cut;
}

-- the acting member before the step
abbrev pub chunked_before : ChunkedCluster → ChunkedStep → ChunkedMember
chunked_before w s = w.member s.actor

-- The chunk that came begins a snapshot of this term and index anew, or goes on where what was received of it ends.
pub record Joins (w : ChunkedCluster) (s : ChunkedStep) (term index : ℕ) (last : Bool) (joined : List ℕ) : Type 0 where
  pub sender : ℕ
  pub front : List ℕ
  pub bytes : List ℕ
  pub got : s.got ≡ Some (Chunk sender term index (length front) last bytes)
  pub was : (front ≡ []) ⊎ ((chunked_before w s).received ≡ Some (record { term = term; index = index; bytes = front }))
  pub joined_is : joined ≡ front ++ bytes

-- the bytes at an offset of the text, which reach its end where `last` says so
pub record IsPiece (text : List ℕ) (offset : ℕ) (last : Bool) (bytes : List ℕ) : Type 0 where
  pub front : List ℕ
  pub rest : List ℕ
  pub text_is : text ≡ front ++ (bytes ++ rest)
  pub offset_is : length front ≡ offset
  pub ends : last ≡ true → rest ≡ []

-- A chunk is a piece of the leader's snapshot.
pub record SendsChunk (s : ChunkedStep) (sender term index offset : ℕ) (last : Bool) (bytes : List ℕ) : Type 0 where
  pub sender_is : sender ≡ s.actor
  pub index_is : index ≡ s.after.tracked.base
  pub above : 0 < s.after.tracked.base
  pub piece : IsPiece s.after.snapshot offset last bytes

pub record SameSnapshot (w : ChunkedCluster) (s : ChunkedStep) : Type 0 where
  pub base : s.after.tracked.base ≡ (chunked_before w s).tracked.base
  pub base_term : s.after.tracked.base_term ≡ (chunked_before w s).tracked.base_term
  pub base_members : s.after.tracked.base_members ≡ (chunked_before w s).tracked.base_members
  pub snapshot : s.after.snapshot ≡ (chunked_before w s).snapshot

-- A snapshot gives way to one of a higher index alone, which spells what stands with the new base.
pub record NewSnapshot (reader : SnapshotReader) (w : ChunkedCluster) (s : ChunkedStep) : Type 0 where
  pub above : (chunked_before w s).tracked.base < s.after.tracked.base
  pub base_term : reader.term_of s.after.snapshot ≡ s.after.tracked.base_term
  pub base_members : reader.members_of s.after.snapshot ≡ s.after.tracked.base_members

-- The facts of a step with chunks. The last says that the step meets the facts of tracked members, where the chunk that came is read
-- as any whole snapshot that was sent and that begins as the joined bytes do, where the step joins its last chunk.
pub record ChunkedFacts (reader : SnapshotReader) (w : ChunkedCluster) (s : ChunkedStep) : Type 0 where
  pub delivered : (x : Wire) → s.got ≡ Some x → Contains w.sent x
  pub snapshots : SameSnapshot w s ⊎ NewSnapshot reader w s
  pub chunks : (f t i offset : ℕ) (last : Bool) (bytes : List ℕ) → Contains s.sends (Chunk f t i offset last bytes) → SendsChunk s f t i offset last bytes
  pub received : (r : Received) → s.after.received ≡ Some r → ((chunked_before w s).received ≡ Some r) ⊎ ((last : Bool) × Joins w s r.term r.index last r.bytes)
  pub tracked : (x : TrackedCluster) → ((m : ℕ) → x.member m ≡ (w.member m).tracked) → (index_term : ℕ) (members : List ℕ)
      → ((m : Message) → seen_got index_term members s.got ≡ Some m → Contains x.sent m)
      → ((t i : ℕ) (joined : List ℕ) → Joins w s t i true joined → (index_term ≡ reader.term_of joined) × (members ≡ reader.members_of joined))
      → TrackedFacts x (seen_step index_term members s)

abbrev pub MeetsChunkedFacts : SnapshotReader → List ℕ → List ChunkedStep → Type 0
MeetsChunkedFacts reader first [] = Unit {0}
MeetsChunkedFacts reader first (s ∷ before) = ChunkedFacts reader (chunked_after first before) s × MeetsChunkedFacts reader first before

-- At some moment the member had this snapshot of this index.
abbrev pub HadSnapshot : List ℕ → List ChunkedStep → ℕ → ℕ → List ℕ → Type 0
HadSnapshot first [] f index text = ⊥
HadSnapshot first (s ∷ before) f index text = ((s.actor ≡ f) × (s.after.tracked.base ≡ index) × (s.after.snapshot ≡ text)) ⊎ HadSnapshot first before f index text

-- At each moment of the execution each member, without what it counts and receives, is the one of another.
abbrev pub MembersThrough : List ℕ → List ChunkedStep → List Step → Type 0
MembersThrough first [] others = others ≡ []
MembersThrough first (s ∷ steps) others = (p : Step) × (ps : List Step) × (others ≡ p ∷ ps)
    × ((m : ℕ) → (cluster_after first others).member m ≡ untracked ((chunked_after first (s ∷ steps)).member m).tracked) × MembersThrough first steps ps

-- what a step leaves, cut off or not
abbrev pub chunked_left : ChunkedStep → ChunkedMember
chunked_left s = if s.cut then chunked_restart s.after else s.after

-- Each step of the execution is of the same member as the other's, which leads in both or in neither and is left as the same, without
-- what it counts and receives.
abbrev pub LedThrough : List ChunkedStep → List Step → Type 0
LedThrough [] others = others ≡ []
LedThrough (s ∷ steps) others = (p : Step) × (ps : List Step) × (others ≡ p ∷ ps)
    × (p.actor ≡ s.actor) × (p.leads ≡ s.leads) × (p.after ≡ untracked (chunked_left s).tracked) × LedThrough steps ps
