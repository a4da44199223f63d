-- One step keeps the invariant: nothing that an execution has shown is taken back.
use Rattle.cp_parts.specs.declared.log_entry.LogEntry.{LogEntry}
use Rattle.cp_agreement_facts.specs.Entries.{members_in}
use Rattle.cp_agreement_facts.specs.Configurations.{AreOneApart, HasQuorum, configuration_after}
use Rattle.cp_agreement_facts.specs.Logs.{EndsAt, HasEntries, HasTerm, IsUpToDate}
use Rattle.cp_agreement_facts.specs.Clusters.{Append, Appended, Vote, Voted, put}
use Rattle.cp_agreement.specs.WholeLogs.{Member, Acknowledges, Cluster, EntriesCreated, Facts, FollowerCommits, FollowsLeader, GotAppend, LeaderCommits, Step, WinsElection, after_step}
use Rattle.std.proofs.Common.{◌≡◌, ◌≢◌, ℕ, zero, suc, ◌+◌, ◌*◌, ◌<◌, ◌≤◌, ◌⊎◌, inl, inr, ⊎_elim, true, false, List, [], ◌∷◌, length, refl, ap, sym, ◌∙◌, arith, subst, Some, slice_get, Contains, le_refl, le_trans, le_of_eq, true≢false, lt_of_lt_of_le, lt-suc_self, count_by, le_of_lt}
use Rattle.std.proofs.lemmas.Bool.{cases_lt, cases_eq, cases_Bool}
use Rattle.std.proofs.lemmas.Option.{slice_get_within, same_Some}
use Rattle.std.proofs.lemmas.List.Elements.{Contains-append_left, Contains-append_cases}
use Rattle.cp_agreement.proofs.Logs.{Share, Differ, share_at, share_sym, share_trans, share_less, has_place, get-append_left, push_cases, share_refl, share_length, longer, has_term_grows, ends_somewhere, up_to_date_trans, differ_shared, own_unchanged, kept_or_differ, replaced_front, reach}
use Rattle.cp_agreement.proofs.Quorums.{quorum_members_meet}
use Rattle.cp_agreement.proofs.Ghost.{Ghost, Backs, Clash, EndsPast, Chosen, Committed, Sound, Invariant, Prepared, Election, ghost_after, put_same, put_other, at_each}
use Rattle.cp_agreement.proofs.Configurations.{QuietFrom, same_configuration}
use Rattle.cp_agreement.proofs.Complete.{complete, rivals_adjacent, sound_matches, sound_front}
use Rattle.cp_agreement.proofs.GhostSteps.{made_ne, made_in, made_out, leader_ne, leader_in, leader_out, won_ne, won_took, won_out, won_held}

-- A log that has an entry ends with an entry of no lower term.
ends_past : (g : Ghost) (log : List LogEntry) (u : ℕ) → Sound g log u → ((t : ℕ) → Sound g (g.made t) t) → (k : ℕ) (e : LogEntry) → slice_get log k ≡ Some e → (lt li : ℕ) → li ≡ length log → HasTerm log li lt → IsUpToDate lt li e.term (suc k)
ends_past g log u sound made k e is lt zero end has = absurd (omega (arith, slice_get_within log k e is))
ends_past g log u sound made k e is lt (suc i) end has =
    let le : k ≤ i = omega (arith, slice_get_within log k e is) in
    let up : e.term ≤ has.0.term = (made has.0.term).upto k e (share_at log (g.made has.0.term) (suc i) k e (sound.rooted i has.0 has.1) (omega arith) is) in
    ⊎_elim (λ (h : e.term < lt). inl h) (λ (h : lt ≤ e.term). inr (omega (arith, has.2), omega arith)) (cases_lt e.term lt)

module _ (first : List ℕ) (w : Cluster) (g : Ghost) (s : Step) (inv : Invariant first w g) (facts : Facts first w s) where
  -- the ghost and the state after the step, and the acting member before it
  abbrev now : Ghost
  now = ghost_after w g s

  abbrev next_w : Cluster
  next_w = after_step w s

  abbrev me : Member
  me = w.member s.actor

  -- A member that wins an election has a log that can win it.
  candidacy : WinsElection first w s → Election first w g s.after.term (suc s.after.term) me.log
  candidacy wins = record {
    sound = record {
      upto = λ k e is. le_of_lt (wins.fresh k e is);
      rooted = (inv.log s.actor).rooted;
    };
    below = wins.fresh;
    quorum = (
      wins.quorum.0,
      wins.quorum.1,
      λ v chosen t k b less. ⊎_elim
          (λ e. own t k (subst (λ m. Backs w g m t k) e b))
          (λ said. others v said t k b less)
          (wins.quorum.2 v chosen),
    );
  }
    where
      own : (t k : ℕ) → Backs w g s.actor t k → Clash g t k (suc s.after.term) ⊎ EndsPast me.log t k
      own t k b = ⊎_elim
          (λ both.
          let (lt, has) = ends_somewhere me.log (length me.log) (le_refl (length me.log)) in
          let past = ends_past g me.log me.term (inv.log s.actor) inv.made k b.entry
          (share_at (g.made t) me.log (suc k) k b.entry (share_sym me.log (g.made t) (suc k) both) (lt-suc_self k) b.there) lt (length me.log) refl has in
          inr (record { last_term = lt; ends = (refl, has); past = subst (λ u. IsUpToDate lt (length me.log) u (suc k)) b.own past }))
          (λ (clash : Clash g t k (suc me.term)). inl (record { by = clash.by; from = clash.from; below = omega (arith, clash.below, facts.term); differ = clash.differ }))
          (inv.kept s.actor t k b)

      others : (v : ℕ) → Contains w.sent (Voted v s.actor s.after.term) → (t k : ℕ) → Backs w g v t k → t < s.after.term → Clash g t k (suc s.after.term) ⊎ EndsPast me.log t k
      others v said t k b less = ⊎_elim inl
          (λ x.
          let (lt, li, asked, past) = x in
          let ends = wins.spelled lt li asked in
          inr (record { last_term = lt; ends = (refl, subst (λ i. HasTerm me.log i lt) ends.0 ends.1); past = subst (λ i. IsUpToDate lt i t (suc k)) ends.0 past }))
          (inv.given v s.actor t s.after.term k said b less)

  -- One leader per term: whoever leads a term in this step is the first that led it.
  one_leader : s.leads ≡ true → (g.leader s.after.term ≡ 0) ⊎ (g.leader s.after.term ≡ s.actor)
  one_leader leading = ⊎_elim inl (λ held. inr (⊎_elim goes_on (wins held) (facts.elected leading))) (cases_eq (g.leader s.after.term) 0)
    where
      goes_on : (me.is_leader ≡ true) × (me.term ≡ s.after.term) → g.leader s.after.term ≡ s.actor
      goes_on h = subst (λ t. g.leader t ≡ s.actor) h.1 (inv.leading s.actor h.0).1

      wins : g.leader s.after.term ≢ 0 → WinsElection first w s → g.leader s.after.term ≡ s.actor
      wins held leading =
          let (v, said, other) = quorum_members_meet (configuration_after first me.log) (configuration_after first (g.won s.after.term))
          (λ v. (v ≡ s.actor) ⊎ Contains w.sent (Voted v s.actor s.after.term))
          (λ v. (g.vote_of v s.after.term ≡ g.leader s.after.term) × ((t k : ℕ) → Backs w g v t k → t < s.after.term → Clash g t k s.after.term ⊎ EndsPast (g.won s.after.term) t k))
          (rivals_adjacent first w g inv s.after.term held me.log (candidacy leading))
          leading.quorum (inv.elected s.after.term held) in
          ⊎_elim
          (λ (e : v ≡ s.actor).
          let mine : g.vote_of s.actor s.after.term ≡ g.leader s.after.term = subst (λ u. g.vote_of u s.after.term ≡ g.leader s.after.term) e other.0 in
          ⊎_elim
          (λ (low : me.term < s.after.term). absurd (held (sym mine ∙ inv.unvoted s.actor s.after.term low)))
          (λ (high : s.after.term ≤ me.term).
          let same : me.term ≡ s.after.term = omega (arith, facts.term) in
          let voted : me.vote ≡ g.leader s.after.term = sym (inv.vote s.actor) ∙ ap (g.vote_of s.actor) same ∙ mine in
          sym (sym leading.vote ∙ facts.vote same (λ z. held (sym voted ∙ z)) ∙ voted))
          (cases_lt me.term s.after.term))
          (λ sent. sym other.0 ∙ (inv.voted v s.actor s.after.term sent).1)
          said

  -- A step of the member that leads its term: its log is the leader's, and stays or gets one entry.
  mine : g.leader s.after.term ≡ s.actor → (me.term ≡ s.after.term) × (me.log ≡ g.made s.after.term) × ((s.after.log ≡ me.log) ⊎ EntriesCreated first w s)
  mine holds =
      let term : me.term ≡ s.after.term = omega (arith, facts.term, subst (λ m. s.after.term ≤ (w.member m).term) holds (inv.reached s.after.term (λ z. facts.named (sym holds ∙ z)))) in
      let log : me.log ≡ g.made s.after.term = inv.own s.actor facts.named (ap g.leader term ∙ holds) ∙ ap g.made term in (
        term,
        log,
        ⊎_elim inl (⊎_elim inr (λ (f : FollowsLeader w s). ⊎_elim inl (λ r. absurd (
            own_unchanged me.log s.after.log f.came.previous f.came.entries
            (subst (λ l. HasEntries l f.came.previous f.came.entries) (sym log) (inv.append f.came.sender s.after.term f.came.previous f.came.previous_term f.came.entries f.came.commit (facts.delivered (Append f.came.sender s.after.term f.came.previous f.came.previous_term f.came.entries f.came.commit) f.came.got)).2) r)) f.change)) facts.log,
      )

  -- The same for each step that leads, also the one that wins the election.
  leading_log : s.leads ≡ true → (s.after.log ≡ me.log) ⊎ EntriesCreated first w s
  leading_log leading = ⊎_elim
      (λ none. ⊎_elim inl (⊎_elim inr (λ (f : FollowsLeader w s). absurd ((inv.append f.came.sender s.after.term f.came.previous f.came.previous_term f.came.entries f.came.commit (facts.delivered (Append f.came.sender s.after.term f.came.previous f.came.previous_term f.came.entries f.came.commit) f.came.got)).0 none))) facts.log)
      (λ holds. (mine holds).2)
      (one_leader leading)

  -- A leader's log keeps what it has.
  pub made_grows : (t k : ℕ) (e : LogEntry) → slice_get (g.made t) k ≡ Some e → slice_get (now.made t) k ≡ Some e
  made_grows t k e is = ⊎_elim
      (λ (same : t ≡ s.after.term). ⊎_elim
      (λ (leading : s.leads ≡ true).
      rw (made_in w g s t leading same) (⊎_elim
      (λ none. absurd (inv.held t k e is (ap g.leader same ∙ none)))
      (λ holds.
      let (term, log, change) = mine holds in
      let old : slice_get me.log k ≡ Some e = rw (log, ← same) is in
      ⊎_elim
      (λ e. rw e old)
      (λ (m : EntriesCreated first w s). rw m.result (get-append_left me.log (m.entry ∷ []) k (slice_get_within me.log k e old) ∙ old))
      change)
      (one_leader leading)))
      (λ leading. rw (made_out w g s t leading) is)
      (cases_Bool s.leads))
      (λ ne. rw (made_ne w g s t ne) is)
      (cases_eq t s.after.term)

  -- A term that has a leader keeps it.
  pub leader_stays : (t : ℕ) → g.leader t ≢ 0 → now.leader t ≡ g.leader t
  leader_stays t held = ⊎_elim
      (λ (same : t ≡ s.after.term). ⊎_elim
      (λ (leading : s.leads ≡ true). ⊎_elim
      (λ none. absurd (held (ap g.leader same ∙ none)))
      (λ holds. leader_in w g s t leading same ∙ sym holds ∙ ap g.leader (sym same))
      (one_leader leading))
      (leader_out w g s t)
      (cases_Bool s.leads))
      (leader_ne w g s t)
      (cases_eq t s.after.term)

  pub held_stays : (t : ℕ) → g.leader t ≢ 0 → now.leader t ≢ 0
  held_stays t held none = held (sym (leader_stays t held) ∙ none)

  vote_of_at : (m t : ℕ) → m ≡ s.actor → t ≡ s.after.term → now.vote_of m t ≡ s.after.vote
  vote_of_at m t em et = ap (λ f. f t) (put_same g.vote_of s.actor (put (g.vote_of s.actor) s.after.term s.after.vote) m em) ∙ put_same (g.vote_of s.actor) s.after.term s.after.vote t et

  vote_of_else : (m t : ℕ) → (m ≢ s.actor) ⊎ (t ≢ s.after.term) → now.vote_of m t ≡ g.vote_of m t
  vote_of_else m t (inl ne) = ap (λ f. f t) (put_other g.vote_of s.actor (put (g.vote_of s.actor) s.after.term s.after.vote) m ne)
  vote_of_else m t (inr ne) = ⊎_elim
      (λ e. ap (λ f. f t) (put_same g.vote_of s.actor (put (g.vote_of s.actor) s.after.term s.after.vote) m e) ∙ put_other (g.vote_of s.actor) s.after.term s.after.vote t ne ∙ ap (λ k. g.vote_of k t) (sym e))
      (λ ne. ap (λ f. f t) (put_other g.vote_of s.actor (put (g.vote_of s.actor) s.after.term s.after.vote) m ne))
      (cases_eq m s.actor)

  -- A vote that was cast stays.
  vote_of_stays : (m t : ℕ) → g.vote_of m t ≢ 0 → now.vote_of m t ≡ g.vote_of m t
  vote_of_stays m t cast = ⊎_elim
      (λ (em : m ≡ s.actor). ⊎_elim
      (λ (et : t ≡ s.after.term).
      let here : g.vote_of m t ≡ g.vote_of s.actor s.after.term = cc in
      ⊎_elim
      (λ (low : me.term < s.after.term). absurd (cast (here ∙ inv.unvoted s.actor s.after.term low)))
      (λ (high : s.after.term ≤ me.term).
      let same : me.term ≡ s.after.term = omega (arith, facts.term) in
      let voted : g.vote_of m t ≡ me.vote = here ∙ ap (g.vote_of s.actor) (sym same) ∙ inv.vote s.actor in
      vote_of_at m t em et ∙ facts.vote same (λ z. cast (voted ∙ z)) ∙ sym voted)
      (cases_lt me.term s.after.term))
      (λ ne. vote_of_else m t (inr ne))
      (cases_eq t s.after.term))
      (λ ne. vote_of_else m t (inl ne))
      (cases_eq m s.actor)

  -- What was shared with a leader's log stays.
  pub share_grows : (n t : ℕ) (l : List LogEntry) → Share n l (g.made t) → Share n l (now.made t)
  share_grows n t l both k less = let x = both k less in (x.0, x.1, made_grows t k x.0 x.2)

  -- A clash stays.
  clash_grows : (t k u u' : ℕ) → u ≤ u' → Clash g t k u → Clash now t k u'
  clash_grows t k u u' le c =
      let (j, l, e, f, he, hf, d) = c.differ in
      record { by = c.by; from = c.from; below = omega (arith, c.below); differ = (j, l, e, f, made_grows c.by j e he, made_grows t j f hf, d) }

  -- A sound log stays sound.
  pub sound_grows : (l : List LogEntry) (u u' : ℕ) → u ≤ u' → Sound g l u → Sound now l u'
  sound_grows l u u' le sound = record {
    upto = λ k e is. let h : e.term ≤ u = sound.upto k e is in omega arith;
    rooted = λ k e is. share_grows (suc k) e.term l (sound.rooted k e is);
  }

  -- The log that the actor is left with is sound.
  sound_log : Sound now s.after.log s.after.term
  sound_log = ⊎_elim stays (⊎_elim creates follows) facts.log
    where
      stays : s.after.log ≡ me.log → Sound now s.after.log s.after.term
      stays e = subst (λ l. Sound now l s.after.term) (sym e) (sound_grows me.log me.term s.after.term facts.term (inv.log s.actor))

      creates : EntriesCreated first w s → Sound now s.after.log s.after.term
      creates m =
          let old : Sound now me.log s.after.term = sound_grows me.log me.term s.after.term facts.term (inv.log s.actor) in
          let split : (k : ℕ) (e : LogEntry) → slice_get s.after.log k ≡ Some e → (slice_get me.log k ≡ Some e) ⊎ ((k ≡ length me.log) × (e ≡ m.entry)) = λ k e is. push_cases me.log m.entry e k (ap (λ l. slice_get l k) (sym m.result) ∙ is) in
          record {
            upto = λ k e is. ⊎_elim (old.upto k e) (λ h. le_of_eq (ap (λ x. x.term) h.1 ∙ m.own)) (split k e is);
            rooted = λ k e is. ⊎_elim
                (λ h. share_trans s.after.log me.log (now.made e.term) (suc k)
                (λ j less. let x = has_place me.log j (omega (arith, slice_get_within me.log k e h)) in
                (x.0, rw m.result (get-append_left me.log (m.entry ∷ []) j (slice_get_within me.log j x.0 x.1) ∙ x.1), x.1))
                (old.rooted k e h))
                (λ h. subst (λ l. Share (suc k) s.after.log l) (sym (made_in w g s e.term m.leading (ap (λ x. x.term) h.1 ∙ m.own))) (share_refl s.after.log (suc k) (slice_get_within s.after.log k e is)))
                (split k e is);
          }

      follows : FollowsLeader w s → Sound now s.after.log s.after.term
      follows f =
          let came = inv.append f.came.sender s.after.term f.came.previous f.came.previous_term f.came.entries f.came.commit (facts.delivered (Append f.came.sender s.after.term f.came.previous f.came.previous_term f.came.entries f.came.commit) f.came.got) in
          ⊎_elim stays
          (λ r. sound_grows s.after.log s.after.term s.after.term (le_refl s.after.term) (sound_front g s.after.log (g.made s.after.term) s.after.term
          (replaced_front me.log (g.made s.after.term) s.after.log f.came.previous f.came.previous_term f.came.entries
          (sound_matches g me.log (g.made s.after.term) me.term s.after.term (inv.log s.actor) (inv.made s.after.term))
          f.has came.1 came.2 r)
          (inv.made s.after.term)))
          f.change

  sound_made : (t : ℕ) → Sound now (now.made t) t
  sound_made t = ⊎_elim
      (λ (same : t ≡ s.after.term). ⊎_elim
      (λ (leading : s.leads ≡ true). subst (λ l. Sound now l t) (sym (made_in w g s t leading same)) (subst (λ u. Sound now s.after.log u) (sym same) sound_log))
      (λ leading. subst (λ l. Sound now l t) (sym (made_out w g s t leading)) (sound_grows (g.made t) t t (le_refl t) (inv.made t)))
      (cases_Bool s.leads))
      (λ ne. subst (λ l. Sound now l t) (sym (made_ne w g s t ne)) (sound_grows (g.made t) t t (le_refl t) (inv.made t)))
      (cases_eq t s.after.term)

  term_grows : (m : ℕ) → (w.member m).term ≤ (next_w.member m).term
  term_grows = at_each (λ m x. (w.member m).term ≤ x.term) w s facts.term (λ m ne. le_refl (w.member m).term)

  -- The log of the member that leads its term is the leader's log.
  own_actor : now.leader s.after.term ≡ s.actor → s.after.log ≡ now.made s.after.term
  own_actor holds = ⊎_elim
      (λ leading. sym (made_in w g s s.after.term leading refl))
      (λ (leading : s.leads ≡ false).
      let (term, log, change) = mine (sym (leader_out w g s s.after.term leading) ∙ holds) in
      ⊎_elim
      (λ e. e ∙ log ∙ sym (made_out w g s s.after.term leading))
      (λ (m : EntriesCreated first w s). absurd (true≢false (sym m.leading ∙ leading)))
      change)
      (cases_Bool s.leads)

  next_own : (m : ℕ) → m ≢ 0 → now.leader (next_w.member m).term ≡ m → (next_w.member m).log ≡ now.made (next_w.member m).term
  next_own = at_each (λ m x. m ≢ 0 → now.leader x.term ≡ m → x.log ≡ now.made x.term) w s (λ named. own_actor)
      (λ m ne named holds. ⊎_elim
      (λ (same : (w.member m).term ≡ s.after.term). ⊎_elim
      (λ (leading : s.leads ≡ true). absurd (ne (sym holds ∙ leader_in w g s (w.member m).term leading same)))
      (λ leading. inv.own m named (sym (leader_out w g s (w.member m).term leading) ∙ holds) ∙ sym (made_out w g s (w.member m).term leading))
      (cases_Bool s.leads))
      (λ other. inv.own m named (sym (leader_ne w g s (w.member m).term other) ∙ holds) ∙ sym (made_ne w g s (w.member m).term other))
      (cases_eq (w.member m).term s.after.term))

  next_leading : (m : ℕ) → (next_w.member m).is_leader ≡ true → (m ≢ 0) × (now.leader (next_w.member m).term ≡ m)
  next_leading = at_each (λ m x. x.is_leader ≡ true → (m ≢ 0) × (now.leader x.term ≡ m)) w s
      (λ leading. (facts.named, leader_in w g s s.after.term (facts.leads leading) refl))
      (λ m ne leading. let h = inv.leading m leading in (h.0, leader_stays (w.member m).term (λ z. h.0 (sym h.1 ∙ z)) ∙ h.1))

  -- A term that this step does not lead is as before.
  pub cases_led : (t : ℕ) → ((s.leads ≡ true) × (t ≡ s.after.term)) ⊎ ((now.leader t ≡ g.leader t) × (now.made t ≡ g.made t))
  cases_led t = ⊎_elim
      (λ (same : t ≡ s.after.term). ⊎_elim (λ leading. inl (leading, same)) (λ leading. inr (leader_out w g s t leading, made_out w g s t leading)) (cases_Bool s.leads))
      (λ ne. inr (leader_ne w g s t ne, made_ne w g s t ne))
      (cases_eq t s.after.term)

  next_reached : (t : ℕ) → now.leader t ≢ 0 → t ≤ (next_w.member (now.leader t)).term
  next_reached t held = ⊎_elim
      (λ h. rw (leader_in w g s t h.0 h.1, put_same w.member s.actor s.after s.actor refl) (le_of_eq h.1))
      (λ h. rw h.0 (le_trans (inv.reached t (λ z. held (h.0 ∙ z))) (term_grows (g.leader t))))
      (cases_led t)

  next_held : (t k : ℕ) (e : LogEntry) → slice_get (now.made t) k ≡ Some e → now.leader t ≢ 0
  next_held t k e is = ⊎_elim
      (λ h. λ z. facts.named (sym (leader_in w g s t h.0 h.1) ∙ z))
      (λ h. held_stays t (inv.held t k e (ap (λ l. slice_get l k) (sym h.1) ∙ is)))
      (cases_led t)

  -- Only the step that wins an election sets the log with which it was won.
  cases_won : (t : ℕ) → ((s.leads ≡ true) × (g.leader t ≡ 0) × (t ≡ s.after.term)) ⊎ (now.won t ≡ g.won t)
  cases_won t = ⊎_elim
      (λ (h : (s.leads ≡ true) × (t ≡ s.after.term)). ⊎_elim (λ none. inl (h.0, none, h.1)) (λ held. inr (won_held w g s t held)) (cases_eq (g.leader t) 0))
      inr
      (⊎_elim
      (λ (same : t ≡ s.after.term). ⊎_elim (λ (leading : s.leads ≡ true). inl (leading, same)) (λ leading. inr (won_out w g s t leading)) (cases_Bool s.leads))
      (λ ne. inr (won_ne w g s t ne))
      (cases_eq t s.after.term))

  -- In a step that leads, the log before it is a front of the log after it.
  log_front : s.leads ≡ true → Share (length me.log) me.log s.after.log
  log_front leading = ⊎_elim
      (λ e. subst (Share (length me.log) me.log) (sym e) (share_refl me.log (length me.log) (le_refl (length me.log))))
      (λ (m : EntriesCreated first w s). λ k less. let x = has_place me.log k less in (x.0, x.1, rw m.result (get-append_left me.log (m.entry ∷ []) k less ∙ x.1)))
      (leading_log leading)

  next_won : (t : ℕ) → Share (length (now.won t)) (now.won t) (now.made t)
  next_won t = ⊎_elim
      (λ h. rw (won_took w g s t h.0 h.1 h.2, made_in w g s t h.0 h.2) (log_front h.0))
      (λ (h : now.won t ≡ g.won t). subst (λ l. Share (length l) l (now.made t)) (sym h) (share_grows (length (g.won t)) t (g.won t) (inv.won t)))
      (cases_won t)

  -- Whoever leads a term that nobody led before wins an election.
  wins_now : s.leads ≡ true → g.leader s.after.term ≡ 0 → WinsElection first w s
  wins_now leading none = ⊎_elim
      (λ h. absurd (facts.named (sym (inv.leading s.actor h.0).1 ∙ ap g.leader h.1 ∙ none)))
      (λ wins. wins)
      (facts.elected leading)

  next_won_below : (t k : ℕ) (e : LogEntry) → slice_get (now.won t) k ≡ Some e → e.term < t
  next_won_below t k e is = ⊎_elim
      (λ h. subst (λ u. e.term < u) (sym h.2) ((wins_now h.0 (ap g.leader (sym h.2) ∙ h.1)).fresh k e (ap (λ l. slice_get l k) (sym (won_took w g s t h.0 h.1 h.2)) ∙ is)))
      (λ (h : now.won t ≡ g.won t). inv.won_below t k e (ap (λ l. slice_get l k) (sym h) ∙ is))
      (cases_won t)

  -- votes
  next_vote : (m : ℕ) → now.vote_of m (next_w.member m).term ≡ (next_w.member m).vote
  next_vote = at_each (λ m x. now.vote_of m x.term ≡ x.vote) w s
      (vote_of_at s.actor s.after.term refl refl)
      (λ m ne. vote_of_else m (w.member m).term (inl ne) ∙ inv.vote m)

  next_unvoted : (m t : ℕ) → (next_w.member m).term < t → now.vote_of m t ≡ 0
  next_unvoted = at_each (λ m x. (t : ℕ) → x.term < t → now.vote_of m t ≡ 0) w s
      (λ t less. vote_of_else s.actor t (inr (λ z. omega (arith, z, less))) ∙ inv.unvoted s.actor t (omega (arith, facts.term)))
      (λ m ne t less. vote_of_else m t (inl ne) ∙ inv.unvoted m t less)

  next_voted : (v c t : ℕ) → Contains next_w.sent (Voted v c t) → (c ≢ 0) × (now.vote_of v t ≡ c)
  next_voted v c t sent = ⊎_elim
      (λ old. let h = inv.voted v c t old in (h.0, vote_of_stays v t (λ z. h.0 (sym h.1 ∙ z)) ∙ h.1))
      (λ new. let y = facts.votes_given v c t new in ((inv.asked c t y.last_term y.last_index y.asked).0, vote_of_at v t y.voter_is y.term_is ∙ y.vote))
      (Contains-append_cases w.sent s.sends (Voted v c t) sent)

  next_asked : (c t lt li : ℕ) → Contains next_w.sent (Vote c t lt li) → (c ≢ 0) × (t ≤ (next_w.member c).term)
  next_asked c t lt li sent = ⊎_elim
      (λ old. let h = inv.asked c t lt li old in (h.0, le_trans h.1 (term_grows c)))
      (λ new. let y = facts.ask c t lt li new in (
        subst (λ m. m ≢ 0) (sym y.candidate_is) facts.named,
        subst (λ m. t ≤ (next_w.member m).term) (sym y.candidate_is) (rw (put_same w.member s.actor s.after s.actor refl) (le_of_eq y.term_is)),
      ))
      (Contains-append_cases w.sent s.sends (Vote c t lt li) sent)

  -- The Append that came is a piece of its leader's log.
  came_piece : (c : GotAppend w s) → (g.leader s.after.term ≢ 0) × HasTerm (g.made s.after.term) c.previous c.previous_term × ((k : ℕ) (e : LogEntry) → slice_get c.entries k ≡ Some e → slice_get (g.made s.after.term) (c.previous + k) ≡ Some e)
  came_piece c = inv.append c.sender s.after.term c.previous c.previous_term c.entries c.commit (facts.delivered (Append c.sender s.after.term c.previous c.previous_term c.entries c.commit) c.got)

  next_append : (f t p pt : ℕ) (es : List LogEntry) (c : ℕ) → Contains next_w.sent (Append f t p pt es c) → (now.leader t ≢ 0) × HasTerm (now.made t) p pt × ((k : ℕ) (e : LogEntry) → slice_get es k ≡ Some e → slice_get (now.made t) (p + k) ≡ Some e)
  next_append f t p pt es c sent = ⊎_elim
      (λ old. let h = inv.append f t p pt es c old in
      (held_stays t h.0, has_term_grows (g.made t) (now.made t) (made_grows t) p pt h.1, λ k e is. made_grows t (p + k) e (h.2 k e is)))
      (λ new. let y = facts.append f t p pt es c new in
      let made = made_in w g s t y.leading y.term_is in (
        λ z. facts.named (sym (leader_in w g s t y.leading y.term_is) ∙ z),
        subst (λ l. HasTerm l p pt) (sym made) y.has,
        λ k e is. ap (λ l. slice_get l (p + k)) made ∙ y.piece k e is,
      ))
      (Contains-append_cases w.sent s.sends (Append f t p pt es c) sent)

  -- What a member acknowledges, it has.
  acknowledged_shared : (j : ℕ) → Acknowledges w s j → Share j s.after.log (now.made s.after.term)
  acknowledged_shared j a =
      let h = came_piece a.came in
      subst (λ n. Share n s.after.log (now.made s.after.term)) (sym a.index_is)
      (reach s.after.log (now.made s.after.term) a.came.previous a.came.previous_term a.came.entries (length a.came.entries)
      (sound_matches now s.after.log (now.made s.after.term) s.after.term s.after.term sound_log (sound_made s.after.term))
      a.has
      (has_term_grows (g.made s.after.term) (now.made s.after.term) (made_grows s.after.term) a.came.previous a.came.previous_term h.1)
      (λ k e is. made_grows s.after.term (a.came.previous + k) e (h.2 k e is))
      a.all (le_refl (length a.came.entries)))

  next_acknowledged : (v to t j : ℕ) → Contains next_w.sent (Appended v to t j) → (j ≤ length (now.made t)) × (t ≤ (next_w.member v).term)
  next_acknowledged v to t j sent = ⊎_elim
      (λ old. let h = inv.acknowledged v to t j old in (le_trans h.0 (longer (g.made t) (now.made t) (made_grows t)), le_trans h.1 (term_grows v)))
      (λ new. let y = facts.acknowledged v to t j new in (
        subst (λ u. j ≤ length (now.made u)) (sym y.1) (share_length s.after.log (now.made s.after.term) j (acknowledged_shared j y.2)),
        subst (λ m. t ≤ (next_w.member m).term) (sym y.0) (rw (put_same w.member s.actor s.after s.actor refl) (le_of_eq y.1)),
      ))
      (Contains-append_cases w.sent s.sends (Appended v to t j) sent)

  -- Whoever stands behind an entry now did before this step, or begins to in this step, and then has it.
  cases_backs : (v t k : ℕ) → Backs next_w now v t k → Backs w g v t k ⊎ ((v ≡ s.actor) × (t ≡ s.after.term) × Share (suc k) s.after.log (now.made t))
  cases_backs v t k b = ⊎_elim holds acknowledged b.by
    where
      there : k < length (now.made t)
      there = slice_get_within (now.made t) k b.entry b.there

      holds : v ≡ now.leader t → Backs w g v t k ⊎ ((v ≡ s.actor) × (t ≡ s.after.term) × Share (suc k) s.after.log (now.made t))
      holds e = ⊎_elim
          (λ h. inr (e ∙ leader_in w g s t h.0 h.1, h.1, rw (made_in w g s t h.0 h.1) (share_refl s.after.log (suc k) (subst (λ l. k < length l) (made_in w g s t h.0 h.1) there))))
          (λ h. inl (record { entry = b.entry; there = ap (λ l. slice_get l k) (sym h.1) ∙ b.there; own = b.own; by = inl (e ∙ h.0) }))
          (cases_led t)

      acknowledged : (to : ℕ) × (j : ℕ) × (k < j) × Contains next_w.sent (Appended v to t j) → Backs w g v t k ⊎ ((v ≡ s.actor) × (t ≡ s.after.term) × Share (suc k) s.after.log (now.made t))
      acknowledged (to, j, less, sent) = ⊎_elim
          (λ old.
          let x = has_place (g.made t) k (lt_of_lt_of_le less (inv.acknowledged v to t j old).0) in
          inl (record { entry = b.entry; there = x.1 ∙ sym (made_grows t k x.0 x.1) ∙ b.there; own = b.own; by = inr (to, j, less, old) }))
          (λ new. let y = facts.acknowledged v to t j new in
          inr (y.0, y.1, subst (λ u. Share (suc k) s.after.log (now.made u)) (sym y.1) (share_less s.after.log (now.made s.after.term) (suc k) j less (acknowledged_shared j y.2))))
          (Contains-append_cases w.sent s.sends (Appended v to t j) sent)

  -- Whoever stood behind an entry of a term has come to that term.
  backs_term : (v t k : ℕ) → Backs w g v t k → t ≤ (w.member v).term
  backs_term v t k b = ⊎_elim
      (λ e. subst (λ (m : ℕ). t ≤ (w.member m).term) (sym e) (inv.reached t (inv.held t k b.entry b.there)))
      (λ h. (inv.acknowledged v h.0 t h.1 h.3).1)
      b.by

  -- What the actor's log shared with a leader's, it keeps, or the leader that it follows differs there.
  log_keeps : (t k : ℕ) → Share (suc k) me.log (g.made t) → Share (suc k) s.after.log (g.made t) ⊎ ((g.leader s.after.term ≢ 0) × Differ k (g.made s.after.term) (g.made t))
  log_keeps t k both = ⊎_elim stays (⊎_elim creates follows) facts.log
    where
      stays : s.after.log ≡ me.log → Share (suc k) s.after.log (g.made t) ⊎ ((g.leader s.after.term ≢ 0) × Differ k (g.made s.after.term) (g.made t))
      stays e = inl (subst (λ l. Share (suc k) l (g.made t)) (sym e) both)

      creates : EntriesCreated first w s → Share (suc k) s.after.log (g.made t) ⊎ ((g.leader s.after.term ≢ 0) × Differ k (g.made s.after.term) (g.made t))
      creates m = inl (λ j less. let x = both j less in
          (x.0, ap (λ l. slice_get l j) m.result ∙ get-append_left me.log (m.entry ∷ []) j (slice_get_within me.log j x.0 x.1) ∙ x.1, x.2))

      follows : FollowsLeader w s → Share (suc k) s.after.log (g.made t) ⊎ ((g.leader s.after.term ≢ 0) × Differ k (g.made s.after.term) (g.made t))
      follows f = let h = came_piece f.came in
          ⊎_elim stays (λ r. ⊎_elim inl (λ d. inr (h.0, d)) (kept_or_differ me.log (g.made s.after.term) (g.made t) s.after.log f.came.previous f.came.entries h.2 r k both)) f.change

  -- Whoever stands behind an entry keeps it, or a leader clashes with it.
  kept_actor : (t k : ℕ) → Backs next_w now s.actor t k → Share (suc k) s.after.log (now.made t) ⊎ Clash now t k (suc s.after.term)
  kept_actor t k b = ⊎_elim
      (λ (old : Backs w g s.actor t k). ⊎_elim
      (λ both. ⊎_elim
      (λ still. inl (share_grows (suc k) t s.after.log still))
      (λ h. inr (clash_grows t k (suc s.after.term) (suc s.after.term) (le_refl (suc s.after.term)) (record { by = s.after.term; from = le_trans (backs_term s.actor t k old) facts.term; below = le_refl (suc s.after.term); differ = h.1 })))
      (log_keeps t k both))
      (λ clash. inr (clash_grows t k (suc me.term) (suc s.after.term) (omega (arith, facts.term)) clash))
      (inv.kept s.actor t k old))
      (λ h. inl h.2)
      (cases_backs s.actor t k b)

  next_kept : (v t k : ℕ) → Backs next_w now v t k → Share (suc k) (next_w.member v).log (now.made t) ⊎ Clash now t k (suc (next_w.member v).term)
  next_kept = at_each (λ v x. (t k : ℕ) → Backs next_w now v t k → Share (suc k) x.log (now.made t) ⊎ Clash now t k (suc x.term)) w s
      kept_actor
      (λ v ne t k b. ⊎_elim
      (λ old. ⊎_elim
      (λ both. inl (share_grows (suc k) t (w.member v).log both))
      (λ clash. inr (clash_grows t k (suc (w.member v).term) (suc (w.member v).term) (le_refl (suc (w.member v).term)) clash))
      (inv.kept v t k old))
      (λ h. absurd (ne h.0))
      (cases_backs v t k b))

  -- A member that voted in a term has come to that term.
  voted_term : (v t : ℕ) → g.vote_of v t ≢ 0 → t ≤ (w.member v).term
  voted_term v t cast = ⊎_elim (λ low. absurd (cast (inv.unvoted v t low))) (λ le. le) (cases_lt (w.member v).term t)

  -- A log that has a leader's own entry does not end below it.
  actor_past : (t k : ℕ) (b : Backs next_w now s.actor t k) → Share (suc k) s.after.log (now.made t) → (lt li : ℕ) → EndsAt s.after.log lt li → IsUpToDate lt li t (suc k)
  actor_past t k b both lt li ends =
      subst (λ u. IsUpToDate lt li u (suc k)) b.own (ends_past now s.after.log s.after.term sound_log sound_made k b.entry
      (share_at (now.made t) s.after.log (suc k) k b.entry (share_sym s.after.log (now.made t) (suc k) both) (lt-suc_self k) b.there) lt li ends.0 ends.1)

  -- Whoever said yes to a candidate stands behind nothing that the candidate's log is below.
  next_given : (v c t t' k : ℕ) → Contains next_w.sent (Voted v c t') → Backs next_w now v t k → t < t' → Clash now t k (suc t') ⊎ ((lt : ℕ) × (li : ℕ) × Contains next_w.sent (Vote c t' lt li) × IsUpToDate lt li t (suc k))
  next_given v c t t' k sent b less = ⊎_elim
      (λ said. ⊎_elim
      (λ old. ⊎_elim
      (λ clash. inl (clash_grows t k (suc t') (suc t') (le_refl (suc t')) clash))
      (λ x. inr (x.0, x.1, Contains-append_left w.sent s.sends (Vote c t' x.0 x.1) x.2, x.3))
      (inv.given v c t t' k said old less))
      (λ h.
      let cast = inv.voted v c t' said in
      let term : t' ≤ me.term = subst (λ (m : ℕ). t' ≤ (w.member m).term) h.0 (voted_term v t' (λ z. cast.0 (sym cast.1 ∙ z))) in
      absurd (omega (arith, term, facts.term, h.1, less)))
      (cases_backs v t k b))
      (λ new.
      let y = facts.votes_given v c t' new in
      let b' = subst (λ m. Backs next_w now m t k) y.voter_is b in
      ⊎_elim
      (λ both. inr (
        y.last_term,
        y.last_index,
        Contains-append_left w.sent s.sends (Vote c t' y.last_term y.last_index) y.asked,
        up_to_date_trans y.last_term y.last_index y.own_term y.own_index t (suc k) y.up_to_date (actor_past t k b' both y.own_term y.own_index y.own),
      ))
      (λ clash. inl (subst (λ u. Clash now t k (suc u)) (sym y.term_is) clash))
      (kept_actor t k b'))
      (Contains-append_cases w.sent s.sends (Voted v c t') sent)

  -- A term that nobody led clashes with nothing.
  clash_below : (t k t' : ℕ) → g.leader t' ≡ 0 → Clash g t k (suc t') → Clash now t k t'
  clash_below t k t' none c =
      let (j, l, e, f, he, hf, d) = c.differ in
      let ne : c.by ≢ t' = λ z. inv.held c.by j e he (ap g.leader z ∙ none) in
      clash_grows t k t' t' (le_refl t') (record { by = c.by; from = c.from; below = omega (arith, c.below, ne); differ = c.differ })

  -- A member of the quorum that elected the leader of a term.
  abbrev Elects : ℕ → ℕ → Type 0
  Elects t' v = (now.vote_of v t' ≡ now.leader t') × ((t k : ℕ) → Backs next_w now v t k → t < t' → Clash now t k t' ⊎ EndsPast (now.won t') t k)

  -- a term that had a leader before
  elected_before : (t' : ℕ) → g.leader t' ≢ 0 → HasQuorum (configuration_after first (now.won t')) (Elects t')
  elected_before t' held =
      let q = inv.elected t' held in
      let won = won_held w g s t' held in (
        q.0,
        subst (λ l. length (configuration_after first l) < 2 * count_by q.0 (configuration_after first l)) (sym won) q.1,
        λ v chosen.
            let x = q.2 v chosen in
            let cast : g.vote_of v t' ≢ 0 = λ z. held (sym x.0 ∙ z) in (
              vote_of_stays v t' cast ∙ x.0 ∙ sym (leader_stays t' held),
              λ t k b less. ⊎_elim
                  (λ old. ⊎_elim
                  (λ clash. inl (clash_grows t k t' t' (le_refl t') clash))
                  (λ past. inr (subst (λ l. EndsPast l t k) (sym won) past))
                  (x.1 t k old less))
                  (λ h.
                  let term : t' ≤ me.term = subst (λ (m : ℕ). t' ≤ (w.member m).term) h.0 (voted_term v t' cast) in
                  absurd (omega (arith, term, facts.term, h.1, less)))
                  (cases_backs v t k b),
            ),
      )

  -- a term whose election this step wins
  elected_now : s.leads ≡ true → g.leader s.after.term ≡ 0 → HasQuorum (configuration_after first (now.won s.after.term)) (Elects s.after.term)
  unfolding candidacy
  elected_now leading none =
      let wins = wins_now leading none in
      let el = candidacy wins in
      let me = leader_in w g s s.after.term leading refl in
      let won = won_took w g s s.after.term leading none refl in (
        el.quorum.0,
        subst (λ l. length (configuration_after first l) < 2 * count_by el.quorum.0 (configuration_after first l)) (sym won) el.quorum.1,
        λ v chosen. (
          ⊎_elim
              (λ e. vote_of_at v s.after.term e refl ∙ wins.vote ∙ sym me)
              (λ said. let cast = inv.voted v s.actor s.after.term said in vote_of_stays v s.after.term (λ z. cast.0 (sym cast.1 ∙ z)) ∙ cast.1 ∙ sym me)
              (wins.quorum.2 v chosen),
          λ t k b less. ⊎_elim
              (λ old. ⊎_elim
              (λ clash. inl (clash_below t k s.after.term none clash))
              (λ past. inr (subst (λ l. EndsPast l t k) (sym won) past))
              (el.quorum.2 v chosen t k old less))
              (λ h. absurd (omega (arith, h.1, less)))
              (cases_backs v t k b),
        ),
      )

  next_elected : (t' : ℕ) → now.leader t' ≢ 0 → HasQuorum (configuration_after first (now.won t')) (Elects t')
  next_elected t' held = ⊎_elim
      (λ (none : g.leader t' ≡ 0). ⊎_elim
      (λ h. subst (λ u. HasQuorum (configuration_after first (now.won u)) (Elects u)) (sym h.1) (elected_now h.0 (ap g.leader (sym h.1) ∙ none)))
      (λ h. absurd (held (h.0 ∙ none)))
      (cases_led t'))
      (λ before. elected_before t' before)
      (cases_eq (g.leader t') 0)

  -- commits
  pub backs_grows : (v t k : ℕ) → Backs w g v t k → Backs next_w now v t k
  backs_grows v t k b = record {
    entry = b.entry;
    there = made_grows t k b.entry b.there;
    own = b.own;
    by = ⊎_elim
        (λ e. inl (e ∙ sym (leader_stays t (inv.held t k b.entry b.there))))
        (λ h. inr (h.0, h.1, h.2, Contains-append_left w.sent s.sends (Appended v h.0 t h.1) h.3))
        b.by;
  }

  -- A chosen entry stays chosen.
  abbrev pub chosen_grows : (t k : ℕ) → Chosen first w g t k → Chosen first next_w now t k
  chosen_grows t k c = record {
    entry = c.entry;
    there = made_grows t k c.entry c.there;
    own = c.own;
    till = c.till;
    front = share_grows (length c.till) t c.till c.front;
    covers = c.covers;
    quorum = (c.quorum.0, c.quorum.1, λ v chosen. backs_grows v t k (c.quorum.2 v chosen));
  }

  -- What is committed stays committed.
  pub committed_grows : (l l' : List LogEntry) (n u u' : ℕ) → u ≤ u' → ((c : Committed first w g l n u) → Share n l' (g.made c.term)) → Committed first w g l n u → Committed first next_w now l' n u'
  committed_grows l l' n u u' le same c = record {
    term = c.term;
    place = c.place;
    upto = le_trans c.upto le;
    covers = c.covers;
    chosen = chosen_grows c.term c.place c.chosen;
    same = share_grows n c.term l' (same c);
  }

  -- Fewer entries of a committed list are committed.
  commits_less : (log : List LogEntry) (n m u : ℕ) → m ≤ n → (n ≡ 0) ⊎ Committed first w g log n u → (m ≡ 0) ⊎ Committed first w g log m u
  commits_less log n m u le (inl e) = inl (omega arith)
  commits_less log n m u le (inr c) = inr (record { term = c.term; place = c.place; upto = c.upto; covers = le_trans le c.covers; chosen = c.chosen; same = share_less log (g.made c.term) m n le c.same })

  -- What was committed in the actor's log stays.
  still_committed : (n : ℕ) → (n ≡ 0) ⊎ Committed first w g me.log n me.term → (n ≡ 0) ⊎ Committed first next_w now s.after.log n s.after.term
  still_committed n (inl e) = inl e
  still_committed zero (inr c) = inl refl
  still_committed (suc n) (inr c) = inr (committed_grows me.log s.after.log (suc n) me.term s.after.term facts.term
      (λ c. ⊎_elim (λ both. both)
      (λ h. absurd (differ_shared n (suc c.place) (g.made s.after.term) (g.made c.term) h.1 (complete first w g inv c.term c.place c.chosen s.after.term h.0 (le_trans c.upto facts.term)) c.covers))
      (log_keeps c.term n c.same)) c)

  -- A leader commits what a quorum stands behind.
  leader_commits : (n : ℕ) → n ≡ s.after.commit → LeaderCommits first w s → (n ≡ 0) ⊎ Committed first next_w now s.after.log n s.after.term
  leader_commits zero e c = inl refl
  leader_commits (suc n) e c =
      let holds = leader_in w g s s.after.term c.leads refl in
      let log = own_actor holds in
      let own : HasTerm s.after.log (suc n) s.after.term = subst (λ i. HasTerm s.after.log i s.after.term) (sym e) c.own in
      let within = slice_get_within s.after.log n own.0 own.1 in
      let there : slice_get (now.made s.after.term) n ≡ Some own.0 = ap (λ l. slice_get l n) (sym log) ∙ own.1 in
      inr (record {
        term = s.after.term;
        place = n;
        upto = le_refl s.after.term;
        covers = le_refl (suc n);
        chosen = record {
          entry = own.0;
          there = there;
          own = own.2;
          till = s.after.log;
          front = subst (Share (length s.after.log) s.after.log) log (share_refl s.after.log (length s.after.log) (le_refl (length s.after.log)));
          covers = within;
          quorum = (
            c.quorum.0,
            c.quorum.1,
            λ v chosen. record {
              entry = own.0;
              there = there;
              own = own.2;
              by = ⊎_elim
                  (λ e. inl (e ∙ sym holds))
                  (λ h. inr (h.0, h.1, subst (λ m. m ≤ h.1) (sym e) h.2, Contains-append_left w.sent s.sends (Appended v h.0 s.after.term h.1) h.3))
                  (c.quorum.2 v chosen);
            },
          );
        };
        same = subst (Share (suc n) s.after.log) log (share_refl s.after.log (suc n) within);
      })

  -- Another commits what its leader told it.
  follower_commits : FollowerCommits w s → (s.after.commit ≡ 0) ⊎ Committed first next_w now s.after.log s.after.commit s.after.term
  follower_commits c =
      let came = c.acknowledges.came in
      ⊎_elim inl
      (λ (told : Committed first w g (g.made s.after.term) s.after.commit s.after.term). inr (record {
        term = told.term;
        place = told.place;
        upto = told.upto;
        covers = told.covers;
        chosen = chosen_grows told.term told.place told.chosen;
        same = share_trans s.after.log (now.made s.after.term) (now.made told.term) s.after.commit
            (share_less s.after.log (now.made s.after.term) s.after.commit c.index c.reached (acknowledged_shared c.index c.acknowledges))
            (λ k less. let x = told.same k less in (x.0, made_grows s.after.term k x.0 x.1, made_grows told.term k x.0 x.2));
      }))
      (commits_less (g.made s.after.term) came.commit s.after.commit s.after.term c.told
      (inv.told came.sender s.after.term came.previous came.previous_term came.entries came.commit (facts.delivered (Append came.sender s.after.term came.previous came.previous_term came.entries came.commit) came.got)))

  commit_actor : (s.after.commit ≡ 0) ⊎ Committed first next_w now s.after.log s.after.commit s.after.term
  commit_actor = ⊎_elim
      (λ le. still_committed s.after.commit (commits_less me.log me.commit s.after.commit me.term le (inv.commit s.actor)))
      (⊎_elim (leader_commits s.after.commit refl) follower_commits)
      facts.commit

  next_commit : (m : ℕ) → ((next_w.member m).commit ≡ 0) ⊎ Committed first next_w now (next_w.member m).log (next_w.member m).commit (next_w.member m).term
  next_commit = at_each (λ m x. (x.commit ≡ 0) ⊎ Committed first next_w now x.log x.commit x.term) w s
      commit_actor
      (λ m ne. ⊎_elim inl (λ c. inr (committed_grows (w.member m).log (w.member m).log (w.member m).commit (w.member m).term (w.member m).term (le_refl (w.member m).term) (λ c. c.same) c)) (inv.commit m))

  next_told : (f t p pt : ℕ) (es : List LogEntry) (c : ℕ) → Contains next_w.sent (Append f t p pt es c) → (c ≡ 0) ⊎ Committed first next_w now (now.made t) c t
  next_told f t p pt es c sent = ⊎_elim
      (λ old. ⊎_elim inl
      (λ (k : Committed first w g (g.made t) c t). inr (record {
        term = k.term;
        place = k.place;
        upto = k.upto;
        covers = k.covers;
        chosen = chosen_grows k.term k.place k.chosen;
        same = λ j less. let x = k.same j less in (x.0, made_grows t j x.0 x.1, made_grows k.term j x.0 x.2);
      }))
      (inv.told f t p pt es c old))
      (λ new.
      let y = facts.append f t p pt es c new in
      let log : s.after.log ≡ now.made t = sym (made_in w g s t y.leading y.term_is) in
      subst (λ n. (n ≡ 0) ⊎ Committed first next_w now (now.made t) n t) (sym y.commit_is)
      (subst (λ l. (s.after.commit ≡ 0) ⊎ Committed first next_w now l s.after.commit t) log
      (subst (λ u. (s.after.commit ≡ 0) ⊎ Committed first next_w now s.after.log s.after.commit u) (sym y.term_is) commit_actor)))
      (Contains-append_cases w.sent s.sends (Append f t p pt es c) sent)

  -- A prepared members entry stays prepared.
  prepared_grows : (r x : ℕ) (e : LogEntry) (after : List ℕ) → slice_get (g.made r) x ≡ Some e → Prepared first w g r x after → Prepared first next_w now r x after
  prepared_grows r x e after is p = record {
    place = p.place;
    chosen = chosen_grows r p.place p.chosen;
    before = p.before;
    quiet = λ k f low high at.
        let z = has_place (g.made r) k (omega (arith, high, slice_get_within (g.made r) x e is)) in
        ap (λ y. members_in y.bytes) (same_Some f z.0 (sym at ∙ made_grows r k z.0 z.1)) ∙ p.quiet k z.0 low high z.1;
    one_apart = p.one_apart;
  }

  -- A members entry that this step creates is prepared.
  prepared_now : (m : EntriesCreated first w s) (after : List ℕ) → members_in m.entry.bytes ≡ Some after → Prepared first next_w now s.after.term (length me.log) after
  prepared_now m after is =
      let c = m.change after is in
      let (k, e, less, there, own) = c.own in
      let held : g.leader s.after.term ≢ 0 = λ none. inv.held s.after.term k e (subst (λ (u : ℕ). slice_get (g.made u) k ≡ Some e) own (share_at me.log (g.made e.term) (suc k) k e ((inv.log s.actor).rooted k e there) (lt-suc_self k) there)) none in
      let (term, log, change) = mine (⊎_elim (λ none. absurd (held none)) (λ h. h) (one_leader m.leading)) in
      ⊎_elim
      (λ none. absurd (omega (arith, none, less)))
      (λ (x : Committed first w g me.log me.commit me.term).
      let same : x.term ≡ s.after.term = omega (arith, x.upto, term, own, (inv.made x.term).upto k e (share_at me.log (g.made x.term) me.commit k e x.same less there)) in
      let made : g.made x.term ≡ me.log = ap g.made same ∙ sym log in
      let front : Share (length x.chosen.till) x.chosen.till me.log = subst (Share (length x.chosen.till) x.chosen.till) made x.chosen.front in
      let settled : QuietFrom me.log (suc x.place) = λ j f le at. c.settled j f (le_trans x.covers le) at in
      let conf : configuration_after first x.chosen.till ≡ configuration_after first me.log = same_configuration (suc x.place) first x.chosen.till me.log
      (share_less x.chosen.till me.log (suc x.place) (length x.chosen.till) x.chosen.covers front)
      (λ j f le at. settled j f le (share_at x.chosen.till me.log (length x.chosen.till) j f front (slice_get_within x.chosen.till j f at) at)) settled in
      subst (λ (u : ℕ). Prepared first next_w now u (length me.log) after) same (record {
        place = x.place;
        chosen = chosen_grows x.term x.place x.chosen;
        before = share_length x.chosen.till me.log (length x.chosen.till) front;
        quiet = λ j f low high at. settled j f low (
            let z = has_place me.log j high in
            let new : slice_get (now.made x.term) j ≡ Some z.0 = ap (λ l. slice_get l j) (made_in w g s x.term m.leading same ∙ m.result) ∙ get-append_left me.log (m.entry ∷ []) j high ∙ z.1 in
            z.1 ∙ sym new ∙ at);
        one_apart = subst (λ l. AreOneApart l after) (sym conf) c.one_apart;
      }))
      (inv.commit s.actor)

  next_prepared : (r x : ℕ) (e : LogEntry) (after : List ℕ) → slice_get (now.made r) x ≡ Some e → e.term ≡ r → (members_in e.bytes) ≡ Some after → Prepared first next_w now r x after
  next_prepared r x e after is own members = ⊎_elim
      (λ h.
      let here : slice_get s.after.log x ≡ Some e = ap (λ l. slice_get l x) (sym (made_in w g s r h.0 h.1)) ∙ is in
      let old : slice_get me.log x ≡ Some e → Prepared first next_w now r x after = λ was.
      let holds : g.leader s.after.term ≡ s.actor = ⊎_elim
      (λ none. absurd (let low = (wins_now h.0 none).fresh x e was in omega (arith, low, own, h.1)))
      (λ z. z) (one_leader h.0) in
      let made : g.made r ≡ me.log = ap g.made h.1 ∙ sym (mine holds).1 in
      let before : slice_get (g.made r) x ≡ Some e = rw made was in
      prepared_grows r x e after before (inv.prepared r x e after before own members) in
      ⊎_elim
      (λ same. old (ap (λ l. slice_get l x) (sym same) ∙ here))
      (λ (m : EntriesCreated first w s). ⊎_elim old
      (λ z. subst (λ (u : ℕ). Prepared first next_w now u x after) (sym h.1)
      (subst (λ (u : ℕ). Prepared first next_w now s.after.term u after) (sym z.0) (prepared_now m after (ap (λ y. members_in y.bytes) (sym z.1) ∙ members))))
      (push_cases me.log m.entry e x (ap (λ l. slice_get l x) (sym m.result) ∙ here)))
      (leading_log h.0))
      (λ h.
      let before : slice_get (g.made r) x ≡ Some e = ap (λ l. slice_get l x) (sym h.1) ∙ is in
      prepared_grows r x e after before (inv.prepared r x e after before own members))
      (cases_led r)

  -- The invariant after the step.
  pub next : Invariant first next_w now
  next = record {
    vote = next_vote;
    unvoted = next_unvoted;
    voted = next_voted;
    asked = next_asked;
    leading = next_leading;
    own = next_own;
    held = next_held;
    reached = next_reached;
    won = next_won;
    won_below = next_won_below;
    made = sound_made;
    log = at_each (λ m x. Sound now x.log x.term) w s sound_log (λ m ne. sound_grows (w.member m).log (w.member m).term (w.member m).term (le_refl (w.member m).term) (inv.log m));
    append = next_append;
    prepared = next_prepared;
    acknowledged = next_acknowledged;
    kept = next_kept;
    given = next_given;
    elected = next_elected;
    commit = next_commit;
    told = next_told;
  }
