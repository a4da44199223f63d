-- What a leader does with what it now keeps of a member.
use Rattle.std.specs.Prelude.{ℕ, ◌≤◌, ◌&&◌, if◌then◌else◌, [], ◌∷◌, length, None, nat_lt}
use Rattle.cp_log_rules.specs.Persistent.{PersistentState, last}
use Rattle.cp_rules.specs.declared.peer.Peer.{Peer}
use Rattle.cp_rules.specs.Commit.{commits}
use Rattle.cp_rules.specs.Limits.{most_index}
use Rattle.cp_rules.specs.Local.{LocalStep, does, leads_and, is_leader}
use Rattle.cp_rules.specs.Sending.{append_to}
use Rattle.cp_rules.specs.Volatile.{VolatileState, peer, with_peer}
use Rattle.cp_rules_facts.specs.Soundness.{IsPlaced}

-- What holds of one that leads before its step: its commit and what it keeps of the members lie within its log.
pub record MayLead (p : PersistentState) (v : VolatileState) : Type 0 where
  pub most : last p ≤ most_index
  pub above_base : p.base ≤ v.commit
  pub within : v.commit ≤ last p
  pub placed : (member : ℕ) → IsPlaced (last p) (length p.snapshot) (peer v.peers member)

-- the member holds more: what can be is committed, and what the member lacks is sent
abbrev pub leads_on : ℕ → PersistentState → VolatileState → ℕ → Peer → LocalStep
leads_on me p v from x =
    let state = commits me p (with_peer from x v) in
    leads_and (does None state (if is_leader state.role && nat_lt x.matched (last p) then append_to p state from ∷ [] else []))

-- the member lacks what an append followed: an append goes from further down, where there is such
abbrev pub falls_to : PersistentState → VolatileState → ℕ → Peer → LocalStep
falls_to p v from x = does None (with_peer from x v) (if nat_lt x.next (peer v.peers from).next then append_to p (with_peer from x v) from ∷ [] else [])
