-- The reply to an Append, at a leader.
use Rattle.std.specs.Prelude.{ℕ, suc, ◌==◌, min, max, Bool, not, ◌&&◌, if◌then◌else◌, [], ◌∷◌, None, nat_lt, nat_le}
use Rattle.cp_rules.specs.declared.peer.Peer.{Peer}
use Rattle.cp_log_rules.specs.Persistent.{PersistentState, last}
use Rattle.cp_rules.specs.Persistent.{members, is_member}
use Rattle.cp_rules.specs.Volatile.{VolatileState, peer, with_peer}
use Rattle.cp_rules.specs.Local.{LocalStep, does, leads_and, is_leader}
use Rattle.cp_rules.specs.Terms.{adopts}
use Rattle.cp_rules.specs.Sending.{append_to}
use Rattle.cp_rules.specs.Commit.{commits}

-- the member leads that term, and the sender is in its configuration
abbrev pub is_answered : PersistentState → VolatileState → ℕ → ℕ → Bool
is_answered p v from term = is_leader v.role && ((term == p.term) && is_member from (members p))

abbrev pub matched_to : Peer → ℕ → Peer
matched_to x index = record x { matched = index; next = suc index }

-- where the member lacks entries, they are sent, but not by one that has stepped down
abbrev pub matches : ℕ → PersistentState → VolatileState → ℕ → ℕ → LocalStep
matches me p v from index =
    if nat_lt (peer v.peers from).matched index && nat_le index (last p)
    then (let state = commits me p (with_peer from (matched_to (peer v.peers from) index) v) in
    leads_and (does None state (if is_leader state.role && nat_lt index (last p) then append_to p state from ∷ [] else [])))
    else does None v []

-- the next index to try, where a member lacks the one before it
abbrev pub next_tried : Peer → ℕ → ℕ
next_tried x index = max (suc x.matched) (min x.next (suc index))

abbrev pub falls_back : PersistentState → VolatileState → ℕ → ℕ → LocalStep
falls_back p v from index =
    let next = next_tried (peer v.peers from) index in
    let state = with_peer from (record (peer v.peers from) { next = next }) v in
    does None state (if nat_lt next (peer v.peers from).next then append_to p state from ∷ [] else [])

abbrev pub on_append_reply : ℕ → PersistentState → VolatileState → ℕ → ℕ → Bool → ℕ → LocalStep
on_append_reply me p v from term taken index =
    if nat_lt p.term term then adopts term p v
    else if not (is_answered p v from term) then does None v []
    else if taken then matches me p v from index
    else falls_back p v from index
