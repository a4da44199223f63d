-- A log with one own entry more, as what a leader announces of it needs it.
use Rattle.std.proofs.Common.{◌≡◌, ℕ, suc, ◌<◌, ◌≤◌, List, length, ap, sym, ◌∙◌, arith, subst}
use Rattle.cp_log_rules.specs.Persistent.{PersistentState, last}
use Rattle.cp_rules.specs.declared.ballot.Ballot.{Ballot}
use Rattle.cp_rules.specs.declared.peer.Peer.{Peer}
use Rattle.cp_rules.specs.Commit.{commits}
use Rattle.cp_rules.specs.Leadership.{created_part, leading}
use Rattle.cp_rules.specs.Limits.{most_index}
use Rattle.cp_rules.specs.Persistent.{with_part}
use Rattle.cp_rules.specs.Volatile.{VolatileState, everywhere, new_peer, peer}
use Rattle.cp_rules_facts.specs.Soundness.{IsPlaced}
use Rattle.cp_rules_facts.proofs.Basics.{same_everywhere}
use Rattle.cp_raft_state.proofs.OneMore.{last_more}
use Rattle.cp_raft_leading.proofs.Committed.{peers_stay}

last_is : (p q : PersistentState) (b : Ballot) (entry : List ℕ) → q ≡ with_part (created_part p b entry) p → last q ≡ suc (last p)
last_is p q b entry is = ap last is ∙ (let l = last_more p b entry in omega (arith, l))

pub above_more : (p q : PersistentState) (b : Ballot) (entry : List ℕ) (commit : ℕ) → q ≡ with_part (created_part p b entry) p → p.base ≤ commit → q.base ≤ commit
above_more p q b entry commit is above = let e : q.base ≡ p.base = ap (λ (s : PersistentState). s.base) is in omega (arith, e, above)

pub within_more : (p q : PersistentState) (b : Ballot) (entry : List ℕ) (commit : ℕ) → q ≡ with_part (created_part p b entry) p → commit ≤ last p → commit ≤ last q
within_more p q b entry commit is within = let l = last_is p q b entry is in omega (arith, l, within)

pub room_more : (p q : PersistentState) (b : Ballot) (entry : List ℕ) → q ≡ with_part (created_part p b entry) p → last p < most_index → last q ≤ most_index
room_more p q b entry is room = let l = last_is p q b entry is in omega (arith, l, room)

-- what is placed with room for the entry is placed in the log with it
pub placed_more : (me : ℕ) (p q : PersistentState) (b : Ballot) (entry : List ℕ) (v w : VolatileState) → q ≡ with_part (created_part p b entry) p → w ≡ commits me q v
    → ((member : ℕ) → IsPlaced (suc (last p)) (length p.snapshot) (peer v.peers member)) → (member : ℕ) → IsPlaced (last q) (length q.snapshot) (peer w.peers member)
placed_more me p q b entry v w is after placed member =
    let kept : v.peers ≡ w.peers = sym (ap (λ (s : VolatileState). s.peers) after ∙ peers_stay me q v) in
    let same : length p.snapshot ≡ length q.snapshot = sym (ap (λ (s : PersistentState). length s.snapshot) is) in
    subst (λ (peers : List Peer). IsPlaced (last q) (length q.snapshot) (peer peers member)) kept
    (subst (λ (n : ℕ). IsPlaced (last q) n (peer v.peers member)) same
    (subst (λ (n : ℕ). IsPlaced n (length p.snapshot) (peer v.peers member)) (sym (last_is p q b entry is)) (placed member)))

-- at a new leader all others may lack what it creates next
new_placed : (last snapshot member : ℕ) → IsPlaced (suc last) snapshot (peer (everywhere (new_peer (suc last))) member)
new_placed last snapshot member = same_everywhere (IsPlaced (suc last) snapshot) (new_peer 1) (new_peer (suc last))
    (record { first = omega arith; next = omega arith; matched = omega arith; offset = omega arith })
    (record { first = omega arith; next = omega arith; matched = omega arith; offset = omega arith })
    member

pub leading_placed : (me : ℕ) (p : PersistentState) (v w : VolatileState) → w ≡ leading me p v → (member : ℕ) → IsPlaced (suc (last p)) (length p.snapshot) (peer w.peers member)
leading_placed me p v w is member = subst (λ (peers : List Peer). IsPlaced (suc (last p)) (length p.snapshot) (peer peers member)) (sym (ap (λ (s : VolatileState). s.peers) is)) (new_placed (last p) (length p.snapshot) member)

pub leading_above : (me : ℕ) (p : PersistentState) (v w : VolatileState) (index : ℕ) → w ≡ leading me p v → index ≤ v.commit → index ≤ w.commit
leading_above me p v w index is above = let e : w.commit ≡ v.commit = ap (λ (s : VolatileState). s.commit) is in omega (arith, e, above)

pub leading_within : (me : ℕ) (p : PersistentState) (v w : VolatileState) (index : ℕ) → w ≡ leading me p v → v.commit ≤ index → w.commit ≤ index
leading_within me p v w index is within = let e : w.commit ≡ v.commit = ap (λ (s : VolatileState). s.commit) is in omega (arith, e, within)
