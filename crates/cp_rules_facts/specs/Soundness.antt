-- What holds of each member at each moment, by its own steps alone, and what its surroundings see to.
use Rattle.std.specs.Prelude.{◌≡◌, ◌≢◌, ℕ, suc, ◌<◌, ◌≤◌, List, length, Some, None}
use Rattle.cp_base.specs.declared.identifier.Invocation.{Invocation}
use Rattle.cp_agreement_facts.specs.Entries.{members_in}
use Rattle.cp_rules.specs.declared.peer.Peer.{Peer}
use Rattle.cp_rules.specs.declared.role.Role.TheVariants.{Candidate, Leader}
use Rattle.cp_parts.specs.Heads.{head_of}
use Rattle.cp_rules.specs.Spelling.{snapshot_bytes}
use Rattle.cp_log_rules.specs.Persistent.{PersistentState, last}
use Rattle.cp_rules.specs.Volatile.{VolatileState, peer}
use Rattle.cp_rules.specs.Local.{Event, Tick, Got, Propose, ChangeMembers, Read}
use Rattle.cp_rules.specs.Snapshots.{own_head}

-- What a leader keeps of a member lies within its log and its snapshot.
pub record IsPlaced (last snapshot : ℕ) (x : Peer) : Type 0 where
  pub first : 0 < x.next
  pub next : x.next ≤ suc last
  pub matched : x.matched ≤ last
  pub offset : x.offset ≤ snapshot

pub record IsSound (me : ℕ) (p : PersistentState) (v : VolatileState) : Type 0 where
  pub named : me ≢ 0
  pub above_base : p.base ≤ v.commit
  pub within : v.commit ≤ last p
  pub no_base : p.base ≡ 0 → p.base_term ≡ 0
  pub voted : v.role ≡ Candidate → p.vote ≡ me
  pub campaigns : v.role ≡ Candidate → 0 < p.term
  pub leads : v.role ≡ Leader → 0 < p.term
  pub peers : v.role ≡ Leader → (member : ℕ) → IsPlaced (last p) (length p.snapshot) (peer v.peers member)

-- Snapshot bytes of this member can be read again.
abbrev pub ReadsBack : PersistentState → ℕ → List ℕ → Type 0
ReadsBack p index machine = head_of (snapshot_bytes (own_head p index) machine) ≡ Some (own_head p index)

-- A machine's bytes are handed only where something above the base is committed, and make a snapshot that can be read.
pub record IsSnapshotDue (p : PersistentState) (v : VolatileState) (machine : List ℕ) : Type 0 where
  pub above : p.base < v.commit
  pub reads_back : ReadsBack p v.commit machine

-- Only a change makes a members entry; it names its call by an identifier of sixteen bytes.
abbrev pub IsFair : PersistentState → VolatileState → Event → Type 0
IsFair p v (Tick clock may_write expiry machine) = ((entry : List ℕ) → expiry ≡ Some entry → members_in entry ≡ None) × ((bytes : List ℕ) → machine ≡ Some bytes → IsSnapshotDue p v bytes)
IsFair p v (Got from body) = Unit {0}
IsFair p v (Propose entry) = members_in entry ≡ None
IsFair p v (ChangeMembers change plan call) = (c : Invocation) → call ≡ Some c → length c.client.0 ≡ 16
IsFair p v (Read call attempt op) = Unit {0}
