-- What a member keeps in memory alone.
use Rattle.std.specs.Prelude.{ℕ, ◌-◌, Bool, false, List, [], ◌∷◌, Option, None, slice_index_or, slice_set}
use Rattle.cp_base.specs.declared.identifier.Invocation.{Invocation}
use Rattle.cp_rules.specs.declared.peer.Peer.{Peer}
use Rattle.cp_rules.specs.declared.role.Role.{Role}
use Rattle.cp_rules.specs.declared.role.Role.TheVariants.{Follower}

-- The first bytes of a snapshot of this index, received so far from the leader of this term.
pub record Received : Type 0 where
  pub term : ℕ
  pub index : ℕ
  pub bytes : List ℕ

-- A read that waits: the call and its attempt, the leader's last index when it came, the round that confirms it, and what it reads.
pub record Look : Type 0 where
  pub call : Invocation
  pub attempt : ℕ
  pub index : ℕ
  pub round : ℕ
  pub op : List ℕ

-- The reads of one leadership: its latest round, the greatest round that each member has confirmed, and what waits.
pub record Reads : Type 0 where
  pub round : ℕ
  pub confirmed : List ℕ
  pub looks : List Look

-- A crash leaves none of this. Lists have a place for each number of a member, from 0 to 9.
pub record VolatileState : Type 0 where
  pub role : Role
  -- the leader that the member knows, 0 for none
  pub leader : ℕ
  -- in milliseconds
  pub clock : ℕ
  -- the clock when the member last heard of a leader, stood for election or gave its vote
  pub heard : ℕ
  -- the clock at the leader's last beat
  pub beat : ℕ
  -- who said yes to it, as PreCandidate or as Candidate
  pub votes : List Bool
  pub peers : List Peer
  pub commit : ℕ
  pub received : Option Received
  pub reads : Reads

-- ---- places of members

-- the same in each place
abbrev pub everywhere : {A : Type 0} → A → List A
everywhere x = x ∷ x ∷ x ∷ x ∷ x ∷ x ∷ x ∷ x ∷ x ∷ x ∷ []

abbrev pub no_votes : List Bool
no_votes = everywhere false

abbrev pub has_voted : List Bool → ℕ → Bool
has_voted votes member = slice_index_or votes member false

-- a member of which nothing is known yet
abbrev pub new_peer : ℕ → Peer
new_peer next = record { next = next; matched = 0; offset = 0 }

abbrev pub peer : List Peer → ℕ → Peer
peer peers member = slice_index_or peers member (new_peer 1)

abbrev pub with_peer : ℕ → Peer → VolatileState → VolatileState
with_peer member x v = record v { peers = slice_set v.peers member x }

abbrev pub no_reads : Reads
no_reads = record { round = 0; confirmed = everywhere 0; looks = [] }

-- ---- the whole

-- after a start, or where the group begins, with this clock
abbrev pub started : ℕ → ℕ → VolatileState
started base clock = record {
  role = Follower;
  leader = 0;
  clock = clock;
  heard = clock;
  beat = 0;
  votes = no_votes;
  peers = everywhere (new_peer 1);
  commit = base;
  received = None;
  reads = no_reads;
}

-- how long the member has heard of no leader
abbrev pub silence : VolatileState → ℕ
silence v = v.clock - v.heard
