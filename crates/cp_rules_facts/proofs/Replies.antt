-- The replies to an Append and to a chunk, at a leader.
use Rattle.std.proofs.Common.{◌&&◌, ◌==◌, ◌≡◌, ◌≢◌, ℕ, ◌≤◌, ◌⊎◌, inl, inr, ⊎_elim, not, Bool, true, false, List, [], ◌∷◌, length, refl, ap, sym, ◌∙◌, arith, subst, Some, None, All, nat_lt, nat_le, le_refl, le_of_eq, if◌then◌else◌}
use Rattle.std.proofs.lemmas.Bool.{leb-true, eqb-true, and_parts, not-false}
use Rattle.std.proofs.lemmas.List.Elements.{All-nil}
use Rattle.cp_agreement_facts.specs.Clusters as cluster
use Rattle.cp_safety.specs.Tracking.{MatchedUpto, LeaderCommitsByMatch, SendsTruly}
use Rattle.cp_rules.specs.declared.peer.Peer.{Peer}
use Rattle.cp_rules.specs.declared.role.Role.TheVariants.{Candidate, Leader}
use Rattle.cp_log_rules.specs.Persistent.{last}
use Rattle.cp_rules.specs.Persistent.{members, is_member}
use Rattle.cp_rules.specs.Volatile.{VolatileState, peer, with_peer, new_peer}
use Rattle.cp_rules.specs.Local.{Sent, LocalStep, does, leads_and, reply, send, is_leader}
use Rattle.cp_rules.specs.Terms.{adopts}
use Rattle.cp_rules.specs.Sending.{append_to, chunk_from}
use Rattle.cp_rules.specs.Commit.{commit_found, commits}
use Rattle.cp_rules.specs.AppendReplies.{is_answered, matched_to, matches, next_tried, falls_back, on_append_reply}
use Rattle.cp_rules.specs.Snapshots.{sends_more, on_snapshot_reply}
use Rattle.cp_rules_facts.specs.Seen.{seen_role}
use Rattle.cp_rules_facts.specs.Soundness.{IsPlaced}
use Rattle.cp_rules_facts.proofs.Basics.{either, leader_is, seen_candidate, leader_or_candidate, follower_or_candidate, set_place, set_index, one}
use Rattle.cp_rules_facts.proofs.Turns.{Turn, got, here, core, Truth, Left, Good}
use Rattle.cp_rules_facts.proofs.Quiet.{silent}
use Rattle.cp_rules_facts.proofs.Votes.{adopts_or}
use Rattle.cp_rules_facts.proofs.Commits.{own_chunk, sends_one, committing, commit_rises, commit_facts}

-- a leader that writes nothing, and may have stepped down
pub record Led (t : Turn) (v : VolatileState) : Type 0 where
  pub candidate : v.role ≢ Candidate
  pub received : v.received ≡ t.v.received
  pub up : t.v.commit ≤ v.commit
  pub within : v.commit ≤ last t.p
  pub commit : (v.commit ≤ t.v.commit) ⊎ LeaderCommitsByMatch (here t) (core t true t.p v)
  pub matched : (f : ℕ) → ((peer v.peers f).matched ≡ 0) ⊎ MatchedUpto (here t) (core t true t.p v) f (peer v.peers f).matched
  pub placed : (f : ℕ) → IsPlaced (last t.p) (length t.p.snapshot) (peer v.peers f)

pub led : (t : Turn) (v : VolatileState) (sends : List Sent) → t.v.role ≡ Leader → Led t v → All (Truth t true t.p v) sends → Left t true t.p v sends
led t v sends leader l says = let a = t.sound.above_base in let b = l.up in record {
  facts = record {
    named = t.sound.named;
    delivered = t.delivered;
    term = le_refl t.p.term;
    vote = λ e ne. refl;
    leads = λ h. refl;
    elected = λ h. inl (ap seen_role leader, refl);
    candidate = λ h. absurd (l.candidate (seen_candidate v.role h));
    apart = λ h. absurd (l.candidate (seen_candidate v.role h));
    log = inl (inl ((refl, refl, refl), refl));
    sends = All-nil (SendsTruly (here t) (core t true t.p v));
    matched = λ h. l.matched;
    above_base = omega (arith, a, b);
    commit = ⊎_elim (λ z. inl z) (λ z. inr (inl z)) l.commit;
  };
  says = says;
  sound = record {
    named = t.sound.named;
    above_base = omega (arith, a, b);
    within = l.within;
    no_base = t.sound.no_base;
    voted = λ h. absurd (l.candidate h);
    campaigns = λ h. absurd (l.candidate h);
    leads = λ h. t.sound.leads leader;
    peers = λ h. l.placed;
  };
  snapshot = inl (refl, refl, refl, refl);
  receives = inl l.received;
}

module _ (t : Turn) (leader : t.v.role ≡ Leader) where
  -- what is kept of one member changes
  changed_placed : (from : ℕ) (x : Peer) → IsPlaced (last t.p) (length t.p.snapshot) x → (f : ℕ) → IsPlaced (last t.p) (length t.p.snapshot) (peer (with_peer from x t.v).peers f)
  changed_placed from x placed f = set_place (IsPlaced (last t.p) (length t.p.snapshot)) t.v.peers from x (new_peer 1) placed (t.sound.peers leader) f

  changed_matched : (from : ℕ) (x : Peer) (v : VolatileState) → MatchedUpto (here t) (core t true t.p v) from x.matched
      → (f : ℕ) → ((peer (with_peer from x t.v).peers f).matched ≡ 0) ⊎ MatchedUpto (here t) (core t true t.p v) f (peer (with_peer from x t.v).peers f).matched
  changed_matched from x v known f = ⊎_elim
      (λ z. inr (inl (ap seen_role leader, refl, le_of_eq (ap (λ y. y.matched) z))))
      (λ z. inr (subst (λ n. MatchedUpto (here t) (core t true t.p v) f n) (ap (λ (y : Peer). y.matched) (sym z.1)) (subst (λ g. MatchedUpto (here t) (core t true t.p v) g x.matched) (sym z.0) known)))
      (set_index t.v.peers from f x (new_peer 1))

  -- as before in this leadership
  as_before : (from : ℕ) (v : VolatileState) → MatchedUpto (here t) (core t true t.p v) from (peer t.v.peers from).matched
  as_before from v = inl (ap seen_role leader, refl, le_refl (peer t.v.peers from).matched)

  -- one that stays leader
  stays_leader : (v : VolatileState) (sends : List Sent) → v.role ≡ t.v.role → Left t true t.p v sends → Good t (does None v sends)
  stays_leader v sends same l = subst (λ b. Left t b t.p v sends) (sym (ap is_leader (same ∙ leader))) l

  -- a peer changes, but not what it is known to hold
  same_match : (from : ℕ) (x : Peer) → x.matched ≡ (peer t.v.peers from).matched → IsPlaced (last t.p) (length t.p.snapshot) x → Led t (with_peer from x t.v)
  same_match from x same placed = record {
    candidate = leader_or_candidate t.v.role leader;
    received = refl;
    up = le_refl t.v.commit;
    within = t.sound.within;
    commit = inl (le_refl t.v.commit);
    matched = changed_matched from x (with_peer from x t.v) (subst (MatchedUpto (here t) (core t true t.p (with_peer from x t.v)) from) (sym same) (as_before from (with_peer from x t.v)));
    placed = changed_placed from x placed;
  }

  matches_good : (from index : ℕ) → ((v : VolatileState) → MatchedUpto (here t) (core t true t.p v) from index) → Good t (matches t.me t.p t.v from index)
  matches_good from index known =
      let x = matched_to (peer t.v.peers from) index in
      let w = with_peer from x t.v in
      let v' = commits t.me t.p w in
      let c = committing t.me t.p w (commit_found t.me t.p w) in
      let rises = commit_rises t.me t.p w t.sound.within in
      let sends : List Sent = if is_leader v'.role && nat_lt index (last t.p) then append_to t.p v' from ∷ [] else [] in
      either (Good t) (nat_lt (peer t.v.peers from).matched index && nat_le index (last t.p)) (leads_and (does None v' sends)) (does None t.v [])
      (λ h.
      let high = leb-true index (last t.p) (and_parts (nat_lt (peer t.v.peers from).matched index) (nat_le index (last t.p)) h).1 in
      let was = t.sound.peers leader from in
      let placed : IsPlaced (last t.p) (length t.p.snapshot) x = record { first = omega arith; next = omega (arith, high); matched = high; offset = was.offset } in
      let all_placed : (f : ℕ) → IsPlaced (last t.p) (length t.p.snapshot) (peer v'.peers f) = (λ f. subst (λ l. IsPlaced (last t.p) (length t.p.snapshot) (peer l f)) (sym c.peers) (changed_placed from x placed f)) in
      let all_matched = changed_matched from x v' (known v') in
      led t v' sends leader (record {
        candidate = λ z. ⊎_elim (λ y. leader_or_candidate v'.role (y ∙ leader) z) (λ y. follower_or_candidate v'.role y z) c.role;
        received = c.received;
        up = rises.0;
        within = rises.1;
        commit = commit_facts t t.p w refl all_matched;
        matched = λ f. subst (λ l. ((peer l f).matched ≡ 0) ⊎ MatchedUpto (here t) (core t true t.p v') f (peer l f).matched) (sym c.peers) (all_matched f);
        placed = all_placed;
      })
      (either (All (Truth t true t.p v')) (is_leader v'.role && nat_lt index (last t.p)) (append_to t.p v' from ∷ []) []
      (λ y. one (Truth t true t.p v') (append_to t.p v' from) (sends_one t t.p v' from (all_placed from)))
      (λ y. All-nil (Truth t true t.p v'))))
      (λ h. silent t)

  falls_good : (from index : ℕ) → Good t (falls_back t.p t.v from index)
  falls_good from index =
      let next = next_tried (peer t.v.peers from) index in
      let x : Peer = record (peer t.v.peers from) { next = next } in
      let v' = with_peer from x t.v in
      let was = t.sound.peers leader from in
      let a = was.next in
      let b = was.matched in
      let placed : IsPlaced (last t.p) (length t.p.snapshot) x = record { first = omega arith; next = omega (arith, a, b); matched = b; offset = was.offset } in
      let l = same_match from x refl placed in
      let sends : List Sent = if nat_lt next (peer t.v.peers from).next then append_to t.p v' from ∷ [] else [] in
      stays_leader v' sends refl (led t v' sends leader l
      (either (All (Truth t true t.p v')) (nat_lt next (peer t.v.peers from).next) (append_to t.p v' from ∷ []) []
      (λ y. one (Truth t true t.p v') (append_to t.p v' from) (sends_one t t.p v' from (l.placed from)))
      (λ y. All-nil (Truth t true t.p v'))))

  more_good : (from index received : ℕ) → Good t (sends_more t.p t.v from index received)
  more_good from index received =
      let x : Peer = record (peer t.v.peers from) { offset = received } in
      let v' = with_peer from x t.v in
      let was = t.sound.peers leader from in
      either (Good t) ((index == t.p.base) && (nat_le received (length t.p.snapshot) && nat_le (peer t.v.peers from).next t.p.base)) (does None v' (reply from (chunk_from t.p received))) (does None t.v [])
      (λ h.
      let a = and_parts (index == t.p.base) (nat_le received (length t.p.snapshot) && nat_le (peer t.v.peers from).next t.p.base) h in
      let b = and_parts (nat_le received (length t.p.snapshot)) (nat_le (peer t.v.peers from).next t.p.base) a.1 in
      let fits = leb-true received (length t.p.snapshot) b.0 in
      let low = leb-true (peer t.v.peers from).next t.p.base b.1 in
      let first = was.first in
      let placed : IsPlaced (last t.p) (length t.p.snapshot) x = record { first = first; next = was.next; matched = was.matched; offset = fits } in
      stays_leader v' (reply from (chunk_from t.p received)) refl (led t v' (reply from (chunk_from t.p received)) leader (same_match from x refl placed)
      (one (Truth t true t.p v') (send from (chunk_from t.p received)) (record { sender_is = refl; term_is = refl; leading = refl; index_is = refl; index_term_is = refl; members_is = refl }, own_chunk t.p received (omega (arith, low, first)) fits))))
      (λ h. silent t)

-- a reply is adopted, or is not for this member, or goes on
answered : (t : Turn) (from term : ℕ) (s : LocalStep) → (t.v.role ≡ Leader → term ≡ t.p.term → Good t s)
    → Good t (if nat_lt t.p.term term then adopts term t.p t.v else if not (is_answered t.p t.v from term) then does None t.v [] else s)
answered t from term s goes = adopts_or t term (if not (is_answered t.p t.v from term) then does None t.v [] else s)
    (either (Good t) (not (is_answered t.p t.v from term)) (does None t.v []) s
    (λ n. silent t)
    (λ n. let a = and_parts (is_leader t.v.role) ((term == t.p.term) && is_member from (members t.p)) (not-false (is_answered t.p t.v from term) n) in
    let b = and_parts (term == t.p.term) (is_member from (members t.p)) a.1 in
    goes (leader_is t.v.role a.0) (eqb-true term t.p.term b.0)))

pub append_reply_good : (t : Turn) (from term : ℕ) (taken : Bool) (index : ℕ) → (taken ≡ true → got t ≡ Some (cluster.Appended from t.me term index)) → Good t (on_append_reply t.me t.p t.v from term taken index)
append_reply_good t from term true index is = answered t from term (matches t.me t.p t.v from index) (λ leader e.
    matches_good t leader from index (λ v. inr (t.me, index, le_refl index, inl (is refl ∙ ap (λ u. Some (cluster.Appended from t.me u index)) e))))
append_reply_good t from term false index is = answered t from term (falls_back t.p t.v from index) (λ leader e. falls_good t leader from index)

pub snapshot_reply_good : (t : Turn) (from term index : ℕ) (done : Bool) (received : ℕ) → (done ≡ true → got t ≡ Some (cluster.Done from t.me term index)) → Good t (on_snapshot_reply t.me t.p t.v from term index done received)
snapshot_reply_good t from term index true received is = answered t from term (matches t.me t.p t.v from index) (λ leader e.
    matches_good t leader from index (λ v. inr (t.me, index, le_refl index, inr (is refl ∙ ap (λ u. Some (cluster.Done from t.me u index)) e))))
snapshot_reply_good t from term index false received is = answered t from term (sends_more t.p t.v from index received) (λ leader e. more_good t leader from index received)
