-- An execution of members with their volatile state meets the facts: what a member counts was sent before.
use Rattle.std.proofs.Common.{◌≡◌, ◌≢◌, ℕ, zero, suc, ◌+◌, ◌-◌, ◌<◌, ◌≤◌, ◌⊎◌, inl, inr, ⊎_elim, true, false, List, [], ◌∷◌, ◌++◌, length, refl, ap, sym, ◌∙◌, arith, subst, slice_get, Contains, if◌then◌else◌, le_refl, le_trans, true≢false, length-drop}
use Rattle.std.proofs.lemmas.Bool.{cases_Bool}
use Rattle.std.proofs.lemmas.List.Elements.{All-contains}
use mathlib.Core.Path.{fun_ext}
use Rattle.std.proofs.lemmas.Bool.{cases_eq}
use Rattle.std.proofs.lemmas.Option.{same_Some}
use Rattle.std.proofs.lemmas.List.Elements.{Contains-append_left, Contains-append_cases}
use Rattle.cp_agreement_facts.specs.Clusters.{Append, Appended, Cluster, Done, Member, Message, Snapshot, Step, Vote, Voted, after_step, cluster_after, put}
use Rattle.cp_agreement_facts.specs.Facts.{EntriesCreated, Facts, FollowsAbove, FollowsBelow, GotAppend, HasAcknowledged, InstallsSnapshot, KeepsLog, KnowsTerm, LeaderCommits, LogEndsAt, MeetsFacts, TakesSnapshot, WinsElection, before}
use Rattle.cp_safety.specs.Tracking.{BecomesCandidate, Candidate, Counts, Follower, Leader, LeaderCommitsByMatch, MatchedUpto, MeetsTrackedFacts, PreCandidate, Rests, Role, SendsTruly, StaysCandidate, TrackedCluster, TrackedFacts, TrackedMember, TrackedStep, WinsAlone, WinsByVotes, cut_step, leads_by_role, restarted, tracked_after, tracked_after_step, tracked_opening, uncut_step, untracked, untracked_cluster, untracked_step, untracked_steps}
use Rattle.cp_agreement.proofs.Logs.{get-drop}
use Rattle.cp_agreement.proofs.Ghost.{put_other, put_same}
use Rattle.cp_safety.proofs.Executions.{Known, known}

-- What members count says what was sent.
record TracksHold (w : TrackedCluster) : Type 0 where
  fresh : (m : ℕ) → (w.member m).role ≡ Candidate → (t i : ℕ) → KnowsTerm (untracked (w.member m)) i t → t < (w.member m).term
  spelled : (m : ℕ) → (w.member m).role ≡ Candidate → (lt li : ℕ) → Contains w.sent (Vote m (w.member m).term lt li) → LogEndsAt (untracked (w.member m)) lt li
  counted : (m : ℕ) → (w.member m).role ≡ Candidate → (v : ℕ) → (w.member m).counted v ≡ true → Contains w.sent (Voted v m (w.member m).term)
  matched : (m : ℕ) → (w.member m).role ≡ Leader → (f : ℕ) → ((w.member m).matched f ≡ 0) ⊎ HasAcknowledged (untracked_cluster w) f (w.member m).term ((w.member m).matched f)

pub leader_role : (r : Role) → leads_by_role r ≡ true → r ≡ Leader
leader_role Follower h = absurd (true≢false (sym h))
leader_role PreCandidate h = absurd (true≢false (sym h))
leader_role Candidate h = absurd (true≢false (sym h))
leader_role Leader h = refl

untracked_put : (f : ℕ → TrackedMember) (k : ℕ) (x : TrackedMember) (j : ℕ) → untracked (put f k x j) ≡ put (λ m. untracked (f m)) k (untracked x) j
untracked_put f k x j = ⊎_elim
    (λ e. ap untracked (put_same f k x j e) ∙ sym (put_same (λ m. untracked (f m)) k (untracked x) j e))
    (λ ne. ap untracked (put_other f k x j ne) ∙ sym (put_other (λ m. untracked (f m)) k (untracked x) j ne))
    (cases_eq j k)

untracked_after_step : (w : TrackedCluster) (s : TrackedStep) → untracked_cluster (tracked_after_step w s) ≡ after_step (untracked_cluster w) (untracked_step s)
untracked_after_step w s = ⊎_elim
    (λ (e : s.cut ≡ true). rw e (λ i. record { member = fun_ext (untracked_put w.member s.actor (restarted s.after)) i; sent = w.sent ++ [] }))
    (λ (e : s.cut ≡ false). rw e (λ i. record { member = fun_ext (untracked_put w.member s.actor s.after) i; sent = w.sent ++ s.sends }))
    (cases_Bool s.cut)

-- The states are equal but for what is counted.
pub untracked_after : (first : List ℕ) (steps : List TrackedStep) → untracked_cluster (tracked_after first steps) ≡ cluster_after first (untracked_steps steps)
untracked_after first [] = refl
untracked_after first (s ∷ before) = untracked_after_step (tracked_after first before) s ∙ ap (λ w. after_step w (untracked_step s)) (untracked_after first before)

-- nothing is counted at first
tracks_opening : (first : List ℕ) → TracksHold (tracked_opening first)
tracks_opening first = record {
  fresh = λ m h. absurd (cc);
  spelled = λ m h. absurd (cc);
  counted = λ m h. absurd (cc);
  matched = λ m h. absurd (cc);
}

-- The member's own snapshot changes no term that it still knows, nor the end of its log.
module _ (w : Cluster) (s : Step) where
  -- What the member knows after its own snapshot, it knew.
  rests_knows : KeepsLog w s ⊎ TakesSnapshot w s → (t i : ℕ) → KnowsTerm s.after i t → KnowsTerm (w.member s.actor) i t
  rests_knows (inl k) t i (inl (ei, et)) = inl (ei ∙ k.0.0, et ∙ k.0.1)
  rests_knows (inl k) t i (inr (n, e, x)) = inr (n, e ∙ ap (λ b. suc (b + n)) k.0.0, (x.0, ap (λ l. slice_get l n) (sym k.1) ∙ x.1, x.2))
  rests_knows (inr c) t i (inl (ei, et)) = subst (λ j. KnowsTerm (w.member s.actor) j t) (sym ei) (subst (KnowsTerm (w.member s.actor) s.after.base) (sym et) c.term)
  rests_knows (inr c) t i (inr (n, e, x)) = inr (c.n + n, omega (arith, e, c.base), (x.0, sym (get-drop (w.member s.actor).log c.n n) ∙ ap (λ l. slice_get l n) (sym c.log) ∙ x.1, x.2))

  -- a term that the member knew, at an index that isn't below the new base
  knows_rests : KeepsLog w s ⊎ TakesSnapshot w s → ((i t u : ℕ) → KnowsTerm (w.member s.actor) i t → KnowsTerm (w.member s.actor) i u → t ≡ u) → (t i : ℕ) → s.after.base ≤ i → KnowsTerm (w.member s.actor) i t → KnowsTerm s.after i t
  knows_rests (inl k) one t i le (inl (ei, et)) = inl (ei ∙ sym k.0.0, et ∙ sym k.0.1)
  knows_rests (inl k) one t i le (inr (n, e, x)) = inr (n, e ∙ ap (λ b. suc (b + n)) (sym k.0.0), (x.0, ap (λ l. slice_get l n) k.1 ∙ x.1, x.2))
  knows_rests (inr c) one t i le knows = ⊎_elim
      (λ (e : i ≡ s.after.base). inl (e, one s.after.base t s.after.base_term (subst (λ j. KnowsTerm (w.member s.actor) j t) e knows) c.term))
      (λ ne. past knows (omega (arith, ne)))
      (cases_eq i s.after.base)
    where
      past : KnowsTerm (w.member s.actor) i t → s.after.base < i → KnowsTerm s.after i t
      past (inl (ei, et)) less = absurd (omega (arith, ei, less, c.base))
      past (inr (n, e, x)) less = inr (n - c.n, omega (arith, e, less, c.base), (x.0, ap (λ l. slice_get l (n - c.n)) c.log ∙ get-drop (w.member s.actor).log c.n (n - c.n) ∙ ap (slice_get (w.member s.actor).log) (omega (arith, e, less, c.base)) ∙ x.1, x.2))

  one_term : (b : Member) (i t u : ℕ) → KnowsTerm b i t → KnowsTerm b i u → t ≡ u
  one_term b i t u (inl (ei, et)) (inl (fi, ft)) = et ∙ sym ft
  one_term b i t u (inl (ei, et)) (inr (n, e, x)) = absurd (omega (arith, ei, e))
  one_term b i t u (inr (n, e, x)) (inl (fi, ft)) = absurd (omega (arith, fi, e))
  one_term b i t u (inr (n, e, x)) (inr (m, f, y)) =
      let same : n ≡ m = omega (arith, e, f) in
      sym x.2 ∙ ap (λ z. z.term) (same_Some x.0 y.0 (sym x.1 ∙ ap (slice_get b.log) same ∙ y.1)) ∙ y.2

  -- The end of its log stays.
  rests_ends : KeepsLog w s ⊎ TakesSnapshot w s → (t i : ℕ) → LogEndsAt (w.member s.actor) t i → LogEndsAt s.after t i
  rests_ends rests t i (e, knows) =
      let end : i ≡ s.after.base + length s.after.log = ⊎_elim
      (λ k. omega (arith, e, k.0.0, ap length k.1))
      (λ (c : TakesSnapshot w s). let fits = c.fits in omega (arith, e, c.base, fits, ap length c.log, length-drop c.n (w.member s.actor).log)) rests in
      (end, knows_rests rests (one_term (w.member s.actor)) t i (omega (arith, end)) knows)

module _ (w : TrackedCluster) (s : TrackedStep) (now : Known (untracked_cluster w)) (tracks : TracksHold w) (facts : TrackedFacts w s) where
  sends_truly : (m : Message) → Contains s.sends m → SendsTruly w s m
  sends_truly m has = All-contains (SendsTruly w s) s.sends m facts.sends has

  said : (v : ℕ) → (w.member s.actor).role ≡ Candidate → (w.member s.actor).term ≡ s.after.term → Counts w s v → Contains w.sent (Voted v s.actor s.after.term)
  said v role term counts = ⊎_elim
      (λ c. subst (λ t. Contains w.sent (Voted v s.actor t)) term (tracks.counted s.actor role v c))
      (λ e. facts.delivered (Voted v s.actor s.after.term) e)
      counts

  -- Whoever wins by its counted votes, or alone, wins the election.
  wins_election : WinsByVotes w s ⊎ WinsAlone w s → WinsElection (untracked_cluster w) (uncut_step s)
  wins_election (inl wins) = record {
    vote = wins.vote;
    fresh = λ t i knows. subst (λ u. t < u) wins.term (tracks.fresh s.actor wins.role t i knows);
    spelled = λ lt li sent. tracks.spelled s.actor wins.role lt li (subst (λ t. Contains w.sent (Vote s.actor t lt li)) (sym wins.term) sent);
    quorum = (wins.quorum.0, wins.quorum.1, λ v chosen. ⊎_elim inl (λ c. inr (said v wins.role wins.term c)) (wins.quorum.2 v chosen));
  }
  wins_election (inr wins) = record {
    vote = wins.vote;
    fresh = λ t i knows. let low = now.upto s.actor t i knows in omega (arith, low, wins.term);
    spelled = λ lt li sent. absurd (let low = now.asked s.actor s.after.term lt li sent in omega (arith, low, wins.term));
    quorum = (wins.quorum.0, wins.quorum.1, λ v chosen. inl (wins.quorum.2 v chosen));
  }

  -- A matched index was acknowledged.
  matched_upto : (f n : ℕ) → MatchedUpto w s f n → (n ≡ 0) ⊎ HasAcknowledged (untracked_cluster w) f s.after.term n
  matched_upto f n (inl h) = ⊎_elim
      (λ e. inl (omega (arith, e, h.2)))
      (λ x. inr (subst (λ t. HasAcknowledged (untracked_cluster w) f t n) h.1 (x.0, x.1, le_trans h.2 x.2, x.3)))
      (tracks.matched s.actor h.0 f)
  matched_upto f n (inr x) = inr (x.0, x.1, x.2, ⊎_elim (λ e. inl (facts.delivered (Appended f x.0 s.after.term x.1) e)) (λ e. inr (facts.delivered (Done f x.0 s.after.term x.1) e)) x.3)

  leader_commits : (n : ℕ) → n ≡ s.after.commit → LeaderCommitsByMatch w s → (n ≤ (w.member s.actor).commit) ⊎ LeaderCommits (untracked_cluster w) (uncut_step s)
  leader_commits zero e c = inl (omega arith)
  leader_commits (suc n) e c = inr (record {
    leads = c.leads;
    own = c.own;
    quorum = (
      c.quorum.0,
      c.quorum.1,
      λ v chosen. ⊎_elim inl
          (λ h. ⊎_elim (λ z. absurd (omega (arith, z, e))) (λ x. inr x) (matched_upto v s.after.commit h))
          (c.quorum.2 v chosen),
    );
  })

  -- the step, were it not cut off, meets the facts
  uncut_meets : Facts (untracked_cluster w) (uncut_step s)
  uncut_meets = record {
    others = record {
      messages_delivered = record { named = facts.named; delivered = facts.delivered };
      terms_and_votes = record { term = facts.term; vote = facts.vote };
      logs_follow = record {
        log = ⊎_elim (⊎_elim inl (λ c. inr (inr (inr (inr (inl c)))))) (λ x. ⊎_elim (λ m. inr (inl m)) (⊎_elim (λ f. inr (inr (inl f))) (⊎_elim (λ f. inr (inr (inr (inl f)))) (λ n. inr (inr (inr (inr (inr n))))))) x.1) facts.log;
        append = λ f t p pt es c sent. sends_truly (Append f t p pt es c) sent;
        snapshot = λ f t i it ms sent. sends_truly (Snapshot f t i it ms) sent;
        ask = λ c t lt li sent. (sends_truly (Vote c t lt li) sent).1;
      };
      appends_acknowledged = record {
        appended = λ v to t j sent. sends_truly (Appended v to t j) sent;
        done = λ v to t j sent. sends_truly (Done v to t j) sent;
      };
      commits_advance = record {
        above_base = facts.above_base;
        commit = ⊎_elim inl (⊎_elim (λ c. ⊎_elim (λ (h : s.after.commit ≤ (w.member s.actor).commit). inl h) (λ x. inr (inl x)) (leader_commits s.after.commit refl c)) (λ c. inr (inr c))) facts.commit;
      };
    };
    votes_given = λ v c t sent. sends_truly (Voted v c t) sent;
    leaders_elected = record {
      leads = λ h. facts.leads (leader_role s.after.role h);
      elected = λ h. ⊎_elim (λ x. inl (ap leads_by_role x.0, x.1)) (λ x. inr (wins_election x)) (facts.elected h);
    };
  }

  -- A crash takes the commit back to the base, which isn't above what it was, or which the step has just installed.
  cut_commit : (s.after.base ≤ (w.member s.actor).commit) ⊎ InstallsSnapshot (untracked_cluster w) (cut_step s)
  cut_commit = ⊎_elim
      (⊎_elim (λ k. inl (subst (λ n. n ≤ (w.member s.actor).commit) (sym k.0.0) (now.above s.actor))) (λ c. inl c.committed))
      (λ x. ⊎_elim
      (λ m. inl (subst (λ n. n ≤ (w.member s.actor).commit) (sym m.base.0) (now.above s.actor)))
      (⊎_elim
      (λ f. inl (subst (λ n. n ≤ (w.member s.actor).commit) (sym f.base.0) (now.above s.actor)))
      (⊎_elim
      (λ f. inl (subst (λ n. n ≤ (w.member s.actor).commit) (sym f.base.0) (now.above s.actor)))
      (λ n. inr (record { sender = n.sender; got = n.got; above = n.above; commit = refl; log = n.log }))))
      x.1)
      facts.log

  abbrev cut_came : GotAppend (untracked_cluster w) (uncut_step s) → GotAppend (untracked_cluster w) (cut_step s)
  cut_came c = record { sender = c.sender; previous = c.previous; previous_term = c.previous_term; entries = c.entries; commit = c.commit; got = c.got }

  -- what the step wrote, as a step that was cut off
  cut_log : KeepsLog (untracked_cluster w) (cut_step s) ⊎ (EntriesCreated (untracked_cluster w) (cut_step s) ⊎ (FollowsAbove (untracked_cluster w) (cut_step s)
      ⊎ (FollowsBelow (untracked_cluster w) (cut_step s) ⊎ (TakesSnapshot (untracked_cluster w) (cut_step s) ⊎ InstallsSnapshot (untracked_cluster w) (cut_step s)))))
  cut_log = ⊎_elim
      (⊎_elim inl (λ c. inr (inr (inr (inr (inl (record { n = c.n; base = c.base; fits = c.fits; committed = c.committed; term = c.term; members = c.members; log = c.log })))))))
      (λ x. ⊎_elim
      (λ (m : EntriesCreated (untracked_cluster w) (uncut_step s)). inr (inl (record {
        base = m.base;
        entry = m.entry;
        own = m.own;
        leading = m.leading;
        result = m.result;
        change = λ after is. let c = m.change after is in record { one_apart = c.one_apart; settled = c.settled; own = c.own };
      })))
      (⊎_elim
      (λ (f : FollowsAbove (untracked_cluster w) (uncut_step s)). inr (inr (inl (record { came = cut_came f.came; base = f.base; skip = f.skip; previous_is = f.previous_is; has = f.has; change = f.change }))))
      (⊎_elim
      (λ (f : FollowsBelow (untracked_cluster w) (uncut_step s)). inr (inr (inr (inl (record { came = cut_came f.came; base = f.base; below = f.below; change = f.change })))))
      (λ (n : InstallsSnapshot (untracked_cluster w) (uncut_step s)). inr (inr (inr (inr (inr (record { sender = n.sender; got = n.got; above = n.above; commit = refl; log = n.log }))))))))
      x.1)
      facts.log

  -- The step that a crash cut off meets the facts.
  cut_meets : Facts (untracked_cluster w) (cut_step s)
  cut_meets = record {
    others = record {
      messages_delivered = record { named = facts.named; delivered = facts.delivered };
      terms_and_votes = record { term = facts.term; vote = facts.vote };
      logs_follow = record {
        log = cut_log;
        append = λ f t p pt es c sent. absurd (omega (arith, sent.1));
        snapshot = λ f t i it ms sent. absurd (omega (arith, sent.1));
        ask = λ c t lt li sent. absurd (omega (arith, sent.1));
      };
      appends_acknowledged = record {
        appended = λ v to t j sent. absurd (omega (arith, sent.1));
        done = λ v to t j sent. absurd (omega (arith, sent.1));
      };
      commits_advance = record { above_base = le_refl s.after.base; commit = ⊎_elim inl (λ n. inr (inr (inr n))) cut_commit };
    };
    votes_given = λ v c t sent. absurd (omega (arith, sent.1));
    leaders_elected = record {
      leads = λ h. absurd (true≢false (sym h));
      elected = λ h. ⊎_elim inl (λ t. inr (record { vote = t.vote; fresh = t.fresh; spelled = t.spelled; quorum = t.quorum })) (uncut_meets.elected h);
    };
  }

  -- Cut off or not, the step meets the facts.
  step_meets : Facts (untracked_cluster w) (untracked_step s)
  step_meets = ⊎_elim
      (λ (e : s.cut ≡ true). rw e cut_meets)
      (λ (e : s.cut ≡ false). rw e uncut_meets)
      (cases_Bool s.cut)

  each_tracked : (P : ℕ → TrackedMember → Type 0) → (s.cut ≡ true → P s.actor (restarted s.after)) → (s.cut ≡ false → P s.actor s.after) → ((m : ℕ) → m ≢ s.actor → P m (w.member m)) → (m : ℕ) → P m ((tracked_after_step w s).member m)
  each_tracked P cut whole other m = ⊎_elim
      (λ (e : m ≡ s.actor). ⊎_elim
      (λ (c : s.cut ≡ true). subst (P m) (sym (put_same w.member s.actor (if s.cut then restarted s.after else s.after) m e ∙ rw c refl)) (subst (λ k. P k (restarted s.after)) (sym e) (cut c)))
      (λ (c : s.cut ≡ false). subst (P m) (sym (put_same w.member s.actor (if s.cut then restarted s.after else s.after) m e ∙ rw c refl)) (subst (λ k. P k s.after) (sym e) (whole c)))
      (cases_Bool s.cut))
      (λ ne. subst (P m) (sym (put_other w.member s.actor (if s.cut then restarted s.after else s.after) m ne)) (other m ne))
      (cases_eq m s.actor)

  sent_cases : (x : Message) → Contains (tracked_after_step w s).sent x → Contains w.sent x ⊎ Contains s.sends x
  sent_cases x sent = ⊎_elim inl
      (λ new. ⊎_elim
      (λ (c : s.cut ≡ true). absurd (let n = subst (λ b. Contains (if b then [] else s.sends) x) c new in omega (arith, n.1)))
      (λ (c : s.cut ≡ false). inr (subst (λ b. Contains (if b then [] else s.sends) x) c new))
      (cases_Bool s.cut))
      (Contains-append_cases w.sent (if s.cut then [] else s.sends) x sent)

  still_sent : (x : Message) → Contains w.sent x → Contains (tracked_after_step w s).sent x
  still_sent x has = Contains-append_left w.sent (if s.cut then [] else s.sends) x has

  -- A member that ends as a candidate left its whole log alone.
  rests : s.after.role ≡ Candidate → Rests w s
  rests role = ⊎_elim (λ r. r) (λ x. absurd (x.0 role)) facts.log

  -- What members count stays true.
  next_tracks : TracksHold (tracked_after_step w s)
  next_tracks = record {
    fresh = each_tracked (λ m x. x.role ≡ Candidate → (t i : ℕ) → KnowsTerm (untracked x) i t → t < x.term)
        (λ c h. absurd (cc))
        (λ c h t i knows.
        let old = rests_knows (untracked_cluster w) (uncut_step s) (rests h) t i knows in
        ⊎_elim
        (λ (x : StaysCandidate w s). subst (λ u. t < u) x.term (tracks.fresh s.actor x.role t i old))
        (λ (x : BecomesCandidate w s). let low = now.upto s.actor t i old in omega (arith, low, x.term))
        (facts.candidate h))
        (λ m ne. tracks.fresh m);
    spelled = each_tracked (λ m x. x.role ≡ Candidate → (lt li : ℕ) → Contains (tracked_after_step w s).sent (Vote m x.term lt li) → LogEndsAt (untracked x) lt li)
        (λ c h. absurd (cc))
        (λ c h lt li sent. ⊎_elim
        (λ old. ⊎_elim
        (λ (k : StaysCandidate w s). rests_ends (untracked_cluster w) (uncut_step s) (rests h) lt li (tracks.spelled s.actor k.role lt li (subst (λ t. Contains w.sent (Vote s.actor t lt li)) (sym k.term) old)))
        (λ (k : BecomesCandidate w s). absurd (let low = now.asked s.actor s.after.term lt li old in omega (arith, low, k.term)))
        (facts.candidate h))
        (λ new. (sends_truly (Vote s.actor s.after.term lt li) new).1.ends)
        (sent_cases (Vote s.actor s.after.term lt li) sent))
        (λ m ne h lt li sent. ⊎_elim
        (λ old. tracks.spelled m h lt li old)
        (λ new. absurd (ne (sends_truly (Vote m (w.member m).term lt li) new).1.candidate_is))
        (sent_cases (Vote m (w.member m).term lt li) sent));
    counted = each_tracked (λ m x. x.role ≡ Candidate → (v : ℕ) → x.counted v ≡ true → Contains (tracked_after_step w s).sent (Voted v m x.term))
        (λ c h. absurd (cc))
        (λ c h v counted. still_sent (Voted v s.actor s.after.term) (⊎_elim
        (λ (x : StaysCandidate w s). said v x.role x.term (x.counted v counted))
        (λ (x : BecomesCandidate w s). absurd (true≢false (sym counted ∙ x.counted v)))
        (facts.candidate h)))
        (λ m ne h v counted. still_sent (Voted v m (w.member m).term) (tracks.counted m h v counted));
    matched = each_tracked (λ m x. x.role ≡ Leader → (f : ℕ) → (x.matched f ≡ 0) ⊎ HasAcknowledged (untracked_cluster (tracked_after_step w s)) f x.term (x.matched f))
        (λ c h. absurd (cc))
        (λ c h f. ⊎_elim inl (λ upto. ⊎_elim inl (λ x. inr (still_answered f s.after.term (s.after.matched f) x)) (matched_upto f (s.after.matched f) upto)) (facts.matched h f))
        (λ m ne h f. ⊎_elim inl (λ x. inr (still_answered f (w.member m).term ((w.member m).matched f) x)) (tracks.matched m h f));
  }
    where
      still_answered : (f t n : ℕ) → HasAcknowledged (untracked_cluster w) f t n → HasAcknowledged (untracked_cluster (tracked_after_step w s)) f t n
      still_answered f t n x = (x.0, x.1, x.2, ⊎_elim (λ h. inl (still_sent (Appended f x.0 t x.1) h)) (λ h. inr (still_sent (Done f x.0 t x.1) h)) x.3)

-- Each tracked execution meets the facts, and what its members count holds.
facts_and_tracks : (first : List ℕ) (steps : List TrackedStep) → MeetsTrackedFacts first steps → MeetsFacts first (untracked_steps steps) × TracksHold (tracked_after first steps)
facts_and_tracks first [] meets = (tt, tracks_opening first)
facts_and_tracks first (s ∷ before) meets =
    let (old, tracks) = facts_and_tracks first before meets.1 in
    let now = subst Known (sym (untracked_after first before)) (known first (untracked_steps before) old) in (
      (subst (λ w. Facts w (untracked_step s)) (untracked_after first before) (step_meets (tracked_after first before) s now tracks meets.0), old),
      next_tracks (tracked_after first before) s now tracks meets.0,
    )

pub tracked_meets : (first : List ℕ) (steps : List TrackedStep) → MeetsTrackedFacts first steps → MeetsFacts first (untracked_steps steps)
tracked_meets first steps meets = (facts_and_tracks first steps meets).0

pub tracked_executions : (first : List ℕ) (steps : List TrackedStep) → MeetsTrackedFacts first steps
    → MeetsFacts first (untracked_steps steps) × (untracked_cluster (tracked_after first steps) ≡ cluster_after first (untracked_steps steps))
tracked_executions first steps meets = (tracked_meets first steps meets, untracked_after first steps)
