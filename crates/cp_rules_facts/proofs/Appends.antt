-- An Append that came.
use Rattle.std.proofs.Common.{◌≡◌, ℕ, ◌+◌, ◌-◌, ◌<◌, ◌≤◌, ◌⊎◌, inl, inr, ⊎_elim, min, Bool, true, false, List, [], ◌++◌, length, take, drop, refl, ap, sym, ◌∙◌, arith, subst, Option, Some, None, slice_get, All, nat_lt, ltb-true, ltb-false, if◌then◌else◌}
use Rattle.std.proofs.lemmas.Bool.{cases_lt}
use Rattle.std.proofs.lemmas.List.{length-drop}
use Rattle.std.proofs.lemmas.List.Elements.{All-nil}
use Rattle.std.proofs.lemmas.Option.{slice_get_within}
use Rattle.cp_agreement_facts.specs.Clusters as cluster
use Rattle.cp_parts.specs.declared.log_entry.LogEntry.{LogEntry}
use Rattle.cp_agreement_facts.specs.Logs.{HasTerms, Replaces}
use Rattle.cp_agreement_facts.specs.Facts.{GotAppend, Acknowledges}
use Rattle.cp_agreement.proofs.Logs.{get-drop, replaced_low, replaced_length}
use Rattle.cp_safety.specs.Tracking.{untracked_cluster, uncut_step, SendsTruly}
use Rattle.cp_rules.specs.declared.role.Role.TheVariants.{Follower}
use Rattle.cp_log_rules.specs.Persistent.{PersistentState, last, term_at, with_ballot}
use Rattle.cp_rules.specs.Persistent.{AppendPart, ballot, has_term, ballot_part}
use Rattle.cp_rules.specs.Volatile.{VolatileState}
use Rattle.cp_rules.specs.Local.{Sent, AppendReply, does, reply, send}
use Rattle.cp_rules.specs.Terms.{adopted}
use Rattle.cp_rules.specs.Appends.{following, Difference, difference, follower_commit, takes, refused_index, goes_on, on_append}
use Rattle.cp_rules_facts.proofs.Basics.{either, follower_or_leader, follower_or_candidate, one}
use Rattle.cp_rules_facts.proofs.Knowing.{has_known, known_within}
use Rattle.cp_rules_facts.proofs.Turns.{Turn, got, here, core, Truth, Left, Good}
use Rattle.cp_rules_facts.proofs.Quiet.{after_ballot, adopting, adopted_term, calm_low, takes_ballot}
use Rattle.cp_rules_facts.proofs.Votes.{plain}
use Rattle.cp_rules_facts.proofs.Differences.{differs_at, replaced_terms, reaches, replacing, none_replaced}

module _ (t : Turn) (from term previous previous_term told : ℕ) (entries : List LogEntry) (got_is : got t ≡ Some (cluster.Append from term previous previous_term entries told)) (low : t.p.term ≤ term) where
  -- where the message ends
  abbrev index : ℕ
  index = previous + length entries

  abbrev state : VolatileState
  state = record (following from t.v) { commit = follower_commit t.v.commit told index }

  -- the stored state with this log
  abbrev stored : List LogEntry → PersistentState
  stored log = record t.p { term = (adopted term (ballot t.p)).term; vote = (adopted term (ballot t.p)).vote; log = log }

  abbrev yes_sent : List Sent
  yes_sent = reply from (AppendReply (adopted term (ballot t.p)).term true index)

  -- the entries that are looked at, q entries after the base
  pub record Placed (q : ℕ) (es : List LogEntry) : Type 0 where
    pub is : ((previous ≡ t.p.base + q) × (es ≡ entries) × (has_term t.p previous previous_term ≡ true)) ⊎ ((previous < t.p.base) × (q ≡ 0) × (es ≡ drop (t.p.base - previous) entries))

  abbrev came : (log : List LogEntry) → GotAppend (untracked_cluster (here t)) (uncut_step (core t false (stored log) state))
  came log = record { sender = from; previous = previous; previous_term = previous_term; entries = entries; commit = told; got = got_is ∙ ap (λ u. Some (cluster.Append from u previous previous_term entries told)) (sym (adopted_term term t.p low)) }

  abbrev acknowledged : (q : ℕ) (es log : List LogEntry) → Placed q es → HasTerms log q es (length es) → ((k : ℕ) (e : LogEntry) → k < q → slice_get t.p.log k ≡ Some e → slice_get log k ≡ Some e)
      → Acknowledges (untracked_cluster (here t)) (uncut_step (core t false (stored log) state)) index
  acknowledged q es log placed terms kept = record {
    came = came log;
    index_is = refl;
    has = λ le. ⊎_elim
        (λ (x : (previous ≡ t.p.base + q) × (es ≡ entries) × (has_term t.p previous previous_term ≡ true)). ⊎_elim
        (λ z. inl z)
        (λ z. inr (z.0, z.1, (z.2.0, kept z.0 z.2.0 (let a = z.1 in let b = x.0 in omega (arith, a, b)) z.2.1, z.2.2)))
        (has_known t.p t.v previous previous_term x.2))
        (λ (x : (previous < t.p.base) × (q ≡ 0) × (es ≡ drop (t.p.base - previous) entries)). absurd (let a = x.0 in omega (arith, a, le)))
        placed.is;
    all = λ k e at le. ⊎_elim
        (λ (x : (previous ≡ t.p.base + q) × (es ≡ entries) × (has_term t.p previous previous_term ≡ true)).
        let there : slice_get es k ≡ Some e = ap (λ l. slice_get l k) x.1 ∙ at in
        let a = x.0 in
        inr (q + k, omega (arith, a), terms k e (slice_get_within es k e there) there))
        (λ (x : (previous < t.p.base) × (q ≡ 0) × (es ≡ drop (t.p.base - previous) entries)).
        let a = x.0 in
        let b = x.1 in
        let j = k - (t.p.base - previous) in
        let there : slice_get es j ≡ Some e = ap (λ l. slice_get l j) x.2 ∙ get-drop entries (t.p.base - previous) j ∙ ap (slice_get entries) (omega (arith, a, le)) ∙ at in
        inr (q + j, omega (arith, a, b, le), terms j e (slice_get_within es j e there) there))
        placed.is;
  }

  -- the log has what the message says: as it was, or after a replacement
  taken : (q : ℕ) (es log : List LogEntry) → Placed q es → q ≤ length log → t.v.commit ≤ t.p.base + length log → ((log ≡ t.p.log) × HasTerms t.p.log q es (length es)) ⊎ Replaces t.p.log q es log → Left t false (stored log) state yes_sent
  taken q es log placed fits old change =
      let p' = stored log in
      let ad = adopting term t.p t.v in
      let terms : HasTerms log q es (length es) = ⊎_elim (λ x. subst (λ l. HasTerms l q es (length es)) (sym x.0) x.1) (λ (x : Replaces t.p.log q es log). replaced_terms t.p.log es log q x) change in
      let kept : (k : ℕ) (e : LogEntry) → k < q → slice_get t.p.log k ≡ Some e → slice_get log k ≡ Some e = (λ k e less at. ⊎_elim
      (λ x. ap (λ l. slice_get l k) x.0 ∙ at)
      (λ (x : Replaces t.p.log q es log). replaced_low t.p.log log q es x k (omega (arith, less)) ∙ at)
      change) in
      let ack : Acknowledges (untracked_cluster (here t)) (uncut_step (core t false p' state)) index = acknowledged q es log placed terms kept in
      let calm = calm_low t p' state (follower_or_leader Follower refl) (follower_or_candidate Follower refl) in
      let above = t.sound.above_base in
      record {
        facts = record {
          named = t.sound.named;
          delivered = t.delivered;
          term = ad.up;
          vote = λ e ne. ad.vote e;
          leads = calm.leading;
          elected = calm.elected;
          candidate = calm.candidate;
          apart = calm.apart;
          log = ⊎_elim
              (λ x. inl (inl ((refl, refl, refl), x.0)))
              (λ (x : Replaces t.p.log q es log). inr (
                (λ h. cc),
                ⊎_elim
                    (λ (y : (previous ≡ t.p.base + q) × (es ≡ entries) × (has_term t.p previous previous_term ≡ true)). inr (inl (record { came = came log; base = (refl, refl, refl); skip = q; previous_is = y.0; has = has_known t.p t.v previous previous_term y.2; change = subst (λ l. Replaces t.p.log q l log) y.1 x })))
                    (λ (y : (previous < t.p.base) × (q ≡ 0) × (es ≡ drop (t.p.base - previous) entries)). inr (inr (inl (record { came = came log; base = (refl, refl, refl); below = y.0; change = subst (λ l. Replaces t.p.log 0 l log) y.2 (subst (λ n. Replaces t.p.log n es log) y.1 x) }))))
                    placed.is,
              ))
              change;
          sends = All-nil (SendsTruly (here t) (core t false p' state));
          matched = calm.matched;
          above_base = omega (arith, above);
          commit = ⊎_elim
              (λ (z : t.v.commit < min told index). inr (inr (inl (record { index = index; acknowledges = ack; told = omega (arith, z); reached = omega (arith, z) }))))
              (λ (z : min told index ≤ t.v.commit). inl (omega (arith, z)))
              (cases_lt t.v.commit (min told index));
        };
        says = one (Truth t false p' state) (send from (AppendReply p'.term true index)) ((refl, refl, ack), tt);
        sound = record {
          named = t.sound.named;
          above_base = omega (arith, above);
          within = let far = reaches log es q terms fits in ⊎_elim
              (λ (x : (previous ≡ t.p.base + q) × (es ≡ entries) × (has_term t.p previous previous_term ≡ true)). let a = x.0 in let b : length es ≡ length entries = ap length x.1 in omega (arith, old, far, a, b))
              (λ (x : (previous < t.p.base) × (q ≡ 0) × (es ≡ drop (t.p.base - previous) entries)). let a = x.0 in let b = x.1 in let c : length es ≡ length entries - (t.p.base - previous) = ap length x.2 ∙ length-drop (t.p.base - previous) entries in omega (arith, old, far, a, b, c))
              placed.is;
          no_base = t.sound.no_base;
          voted = λ h. absurd (follower_or_candidate Follower refl h);
          campaigns = λ h. absurd (follower_or_candidate Follower refl h);
          leads = λ h. absurd (follower_or_leader Follower refl h);
          peers = λ h. absurd (follower_or_leader Follower refl h);
        };
        snapshot = inl (refl, refl, refl, refl);
        receives = inl refl;
      }

  -- what is taken on from a leader, without its entries
  follows : (sends : List Sent) → ((leads : Bool) → All (Truth t leads (with_ballot (adopted term (ballot t.p)).term (adopted term (ballot t.p)).vote t.p) (following from t.v)) sends)
      → Good t (does (ballot_part t.p (adopted term (ballot t.p))) (following from t.v) sends)
  follows sends says = takes_ballot t term (following from t.v) sends refl (inl refl) (inl refl) says

  -- the difference is looked for
  looked : (q : ℕ) (es : List LogEntry) → Placed q es → q ≤ length t.p.log → Good t (takes t.p (adopted term (ballot t.p)) (following from t.v) from told index (difference (term_at t.p) (t.p.base + q) es))
  looked q es placed fits = look (difference (term_at t.p) (t.p.base + q) es) refl
    where
      look : (o : Option Difference) → difference (term_at t.p) (t.p.base + q) es ≡ o → Good t (takes t.p (adopted term (ballot t.p)) (following from t.v) from told index o)
      look None found =
          let old = t.sound.within in
          subst (λ (z : PersistentState). Left t false z state yes_sent) (sym (after_ballot t.p (adopted term (ballot t.p)))) (taken q es t.p.log placed fits old (inl (refl, none_replaced t.p q es found)))
      look (Some d) found =
          let log = take (d.after - t.p.base) t.p.log ++ d.entries in
          let x = differs_at t.p (t.p.base + q) es d found in
          let r = replacing t.p q es d fits found in
          let long : length log ≡ q + length es = replaced_length t.p.log log q es r in
          let there = slice_get_within es x.k x.entry x.there in
          either (Good t) (nat_lt d.after t.v.commit) (does (ballot_part t.p (adopted term (ballot t.p))) (following from t.v) []) (does (Some (AppendPart (adopted term (ballot t.p)) d.after d.entries)) state yes_sent)
          (λ h. follows [] (λ leads. All-nil (Truth t leads (with_ballot (adopted term (ballot t.p)).term (adopted term (ballot t.p)).vote t.p) (following from t.v))))
          (λ h. let high = ltb-false d.after t.v.commit h in taken q es log placed (omega (arith, long)) (omega (arith, high, long, x.after_is, there)) (inr r))

  untaken : (i : ℕ) → Good t (does (ballot_part t.p (adopted term (ballot t.p))) (following from t.v) (reply from (AppendReply (adopted term (ballot t.p)).term false i)))
  untaken i = follows (reply from (AppendReply (adopted term (ballot t.p)).term false i))
      (λ leads. one (Truth t leads (with_ballot (adopted term (ballot t.p)).term (adopted term (ballot t.p)).vote t.p) (following from t.v)) (send from (AppendReply (adopted term (ballot t.p)).term false i)) (tt, tt))

  -- an Append that goes on from an index, at or above the base
  pub going : (at at_term q : ℕ) (es : List LogEntry) → at ≡ t.p.base + q → (has_term t.p at at_term ≡ true → Placed q es) → Good t (goes_on t.p (adopted term (ballot t.p)) (following from t.v) from at at_term told index es)
  going at at_term q es at_is placed = either (Good t) (has_term t.p at at_term) (takes t.p (adopted term (ballot t.p)) (following from t.v) from told index (difference (term_at t.p) at es))
      (does (ballot_part t.p (adopted term (ballot t.p))) (following from t.v) (reply from (AppendReply (adopted term (ballot t.p)).term false (refused_index (last t.p) at))))
      (λ h. let within = (known_within t.p t.v at at_term (has_known t.p t.v at at_term h)).1 in
      subst (λ n. Good t (takes t.p (adopted term (ballot t.p)) (following from t.v) from told index (difference (term_at t.p) n es))) (sym at_is) (looked q es (placed h) (omega (arith, at_is, within))))
      (λ h. untaken (refused_index (last t.p) at))

pub append_good : (t : Turn) (from term previous previous_term told : ℕ) (entries : List LogEntry) → got t ≡ Some (cluster.Append from term previous previous_term entries told) → Good t (on_append t.p t.v from term previous previous_term told entries)
append_good t from term previous previous_term told entries is =
    let b = adopted term (ballot t.p) in
    let index = previous + length entries in
    let below = goes_on t.p b (following from t.v) from t.p.base t.p.base_term told index (drop (t.p.base - previous) entries) in
    let above = goes_on t.p b (following from t.v) from previous previous_term told index entries in
    either (Good t) (nat_lt term t.p.term) (does None t.v (reply from (AppendReply t.p.term false 0))) (if nat_lt previous t.p.base then below else above)
    (λ h. plain t (send from (AppendReply t.p.term false 0)) (λ leads. (tt, tt)))
    (λ h. let low = ltb-false term t.p.term h in either (Good t) (nat_lt previous t.p.base) below above
    (λ l. going t from term previous previous_term told entries is low t.p.base t.p.base_term 0 (drop (t.p.base - previous) entries) (omega arith) (λ k. record { is = inr (ltb-true previous t.p.base l, refl, refl) }))
    (λ l. let at_is : previous ≡ t.p.base + (previous - t.p.base) = (let high = ltb-false previous t.p.base l in omega (arith, high)) in
    going t from term previous previous_term told entries is low previous previous_term (previous - t.p.base) entries at_is (λ k. record { is = inl (at_is, refl, k) })))
