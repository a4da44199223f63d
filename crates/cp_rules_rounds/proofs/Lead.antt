-- The leader of a term that a quorum had not left at an earlier moment was then the last leader, and had all that was committed.
use Rattle.std.proofs.Common.{◌≡◌, ◌≢◌, ℕ, zero, suc, ◌<◌, ◌≤◌, ◌⊎◌, inl, inr, ⊎_elim, true, List, [], ◌∷◌, ◌++◌, length, ap, sym, ◌∙◌, arith, subst, Some, slice_get, le_refl, true≢false}
use Rattle.std.proofs.lemmas.Bool.{cases_lt, cases_eq}
use Rattle.cp_parts.specs.declared.log_entry.LogEntry.{LogEntry}
use Rattle.cp_agreement_facts.specs.Configurations.{HasQuorum, configuration_after}
use Rattle.cp_agreement.specs.WholeLogs.{Cluster, Step, MeetsFacts, IsMoment, cluster_after}
use Rattle.cp_agreement.proofs.Logs.{share_at, share_length}
use Rattle.cp_agreement.proofs.Quorums.{quorum_members_meet}
use Rattle.cp_agreement.proofs.Ghost.{Ghost, Committed, Invariant, ghost_of}
use Rattle.cp_agreement.proofs.Grows.{leader_stays, committed_grows}
use Rattle.cp_agreement.proofs.Complete.{sound_front, complete}
use Rattle.cp_agreement.proofs.Moments.{invariant}
use Rattle.cp_rules_rounds.proofs.Whole.{next_adjacent, led_stays, early_meets}

-- ---- earlier moments

-- what was committed at a moment is so at the end
ever_committed : (first : List ℕ) (steps : List Step) → MeetsFacts first steps → (v : Cluster) → IsMoment steps v → (m : ℕ) → ((v.member m).commit ≡ 0) ⊎ Committed first (cluster_after steps) (ghost_of steps) (v.member m).log (v.member m).commit (v.member m).term
ever_committed first [] meets v at m = inl (ap (λ (u : Cluster). (u.member m).commit) at)
ever_committed first (s ∷ before) meets v (inl e) m = subst (λ (u : Cluster). ((u.member m).commit ≡ 0) ⊎ Committed first (cluster_after (s ∷ before)) (ghost_of (s ∷ before)) (u.member m).log (u.member m).commit (u.member m).term) (sym e)
    ((invariant first (s ∷ before) meets).commit m)
ever_committed first (s ∷ before) meets v (inr at) m =
    let x = v.member m in
    ⊎_elim inl (λ c. inr (committed_grows first (cluster_after before) (ghost_of before) s (invariant first before meets.1) meets.0 x.log x.log x.commit x.term x.term (le_refl x.term) (λ k. k.same) c))
    (ever_committed first before meets.1 v at m)

-- who led a term at a moment is its leader at the end
ever_led : (first : List ℕ) (steps : List Step) → MeetsFacts first steps → (v : Cluster) → IsMoment steps v → (m : ℕ) → (v.member m).is_leader ≡ true → (m ≢ 0) × ((ghost_of steps).leader (v.member m).term ≡ m)
ever_led first [] meets v at m = λ leads. absurd (true≢false (sym leads ∙ ap (λ (u : Cluster). (u.member m).is_leader) at))
ever_led first (s ∷ before) meets v (inl e) m = subst (λ (u : Cluster). (u.member m).is_leader ≡ true → (m ≢ 0) × ((ghost_of (s ∷ before)).leader (u.member m).term ≡ m)) (sym e) ((invariant first (s ∷ before) meets).leading m)
ever_led first (s ∷ before) meets v (inr at) m = λ leads.
    let x = ever_led first before meets.1 v at m leads in
    (x.0, leader_stays first (cluster_after before) (ghost_of before) s (invariant first before meets.1) meets.0 (v.member m).term (λ z. x.0 (sym x.1 ∙ z)) ∙ x.1)

-- ---- two moments

module _ (first : List ℕ) (later early : List Step) (meets : MeetsFacts first (later ++ early)) (me t : ℕ) (named : me ≢ 0) where
  abbrev now : Cluster
  now = cluster_after (later ++ early)

  abbrev then : Cluster
  then = cluster_after early

  abbrev gz : Ghost
  gz = ghost_of (later ++ early)

  abbrev ge : Ghost
  ge = ghost_of early

  inv : Invariant first now gz
  inv = invariant first (later ++ early) meets

  old : Invariant first then ge
  old = invariant first early (early_meets first later early meets)

  module _ (leads_then : (then.member me).is_leader ≡ true) (term_then : (then.member me).term ≡ t) (leads_now : (now.member me).is_leader ≡ true) (term_now : (now.member me).term ≡ t)
      (quorum : HasQuorum (configuration_after first (now.member me).log) (λ f. (then.member f).term ≤ t)) where
    leader_then : ge.leader t ≡ me
    leader_then = subst (λ (u : ℕ). ge.leader u ≡ me) term_then (old.leading me leads_then).1

    leader_now : gz.leader t ≡ me
    leader_now = subst (λ (u : ℕ). gz.leader u ≡ me) term_now (inv.leading me leads_now).1

    log_then : (then.member me).log ≡ ge.made t
    log_then = old.own me named (old.leading me leads_then).1 ∙ ap ge.made term_then

    log_now : (now.member me).log ≡ gz.made t
    log_now = inv.own me named (inv.leading me leads_now).1 ∙ ap gz.made term_now

    -- No term up to n more than t has another leader.
    none_below : (n u : ℕ) → u < n → t < u → ge.leader u ≡ 0
    none_below zero u short less = absurd (omega (arith, short))
    none_below (suc n) u short less = ⊎_elim (λ e. e) (λ led. absurd (clash (λ r up low. none_below n r (omega (arith, short, low)) up) led)) (cases_eq (ge.leader u) 0)
      where
        clash : ((r : ℕ) → t < r → r < u → ge.leader r ≡ 0) → ge.leader u ≢ 0 → ⊥
        clash none led =
            let same = led_stays first later early meets u led in
            let led_now : gz.leader u ≢ 0 = λ z. led (sym same.0 ∙ z) in
            let sound = sound_front ge (ge.won u) (ge.made u) u (old.won u) (old.made u) in
            let near = next_adjacent first now gz inv t u less (λ z. named (sym leader_now ∙ z)) led_now
            (λ r up low k e there is.
            let there_then : slice_get (ge.won u) k ≡ Some e = subst (λ (l : List LogEntry). slice_get l k ≡ Some e) same.1 there in
            let made : slice_get (ge.made e.term) k ≡ Some e = share_at (ge.won u) (ge.made e.term) (suc k) k e (sound.rooted k e there_then) (omega arith) there_then in
            old.held e.term k e made (ap ge.leader is ∙ none r up low)) in
            let mine : HasQuorum (configuration_after first (gz.made t)) (λ f. (then.member f).term ≤ t) = subst (λ (l : List LogEntry). HasQuorum (configuration_after first l) (λ f. (then.member f).term ≤ t)) log_now quorum in
            let voters = old.elected u led in
            let theirs : HasQuorum (configuration_after first (gz.won u)) (λ f. ge.vote_of f u ≡ ge.leader u) =
            subst (λ (l : List LogEntry). HasQuorum (configuration_after first l) (λ f. ge.vote_of f u ≡ ge.leader u)) (sym same.1) (voters.0, voters.1, λ f chosen. (voters.2 f chosen).0) in
            let (f, stayed, voted) = quorum_members_meet (configuration_after first (gz.made t)) (configuration_after first (gz.won u)) (λ f. (then.member f).term ≤ t) (λ f. ge.vote_of f u ≡ ge.leader u) near mine theirs in
            led (sym voted ∙ old.unvoted f u (omega (arith, stayed, less)))

    -- No later term had a leader by then.
    pub none_later : (u : ℕ) → t < u → ge.leader u ≡ 0
    none_later u less = none_below (suc u) u (omega arith) less

    -- All that any member had committed by then the leader's log had then.
    pub all_within : (v : Cluster) → IsMoment early v → (m : ℕ) → (v.member m).commit ≤ length (then.member me).log
    all_within v at m = ⊎_elim
        (λ (z : (v.member m).commit ≡ 0). omega (arith, z))
        (λ (c : Committed first then ge (v.member m).log (v.member m).commit (v.member m).term).
        let held : ge.leader c.term ≢ 0 = old.held c.term c.place c.chosen.entry c.chosen.there in
        let low : c.term ≤ t = ⊎_elim (λ (h : t < c.term). absurd (held (none_later c.term h))) (λ h. h) (cases_lt t c.term) in
        let both = complete first then ge old c.term c.place c.chosen t (λ z. named (sym leader_then ∙ z)) low in
        let fits = share_length (ge.made c.term) (ge.made t) (suc c.place) both in
        omega (arith, fits, c.covers, ap (λ (l : List LogEntry). length l) log_then))
        (ever_committed first early (early_meets first later early meets) v at m)

    -- Who led by then led no later term.
    pub leads_low : (v : Cluster) → IsMoment early v → (m : ℕ) → (v.member m).is_leader ≡ true → (v.member m).term ≤ t
    leads_low v at m leads = ⊎_elim
        (λ (h : t < (v.member m).term). absurd (let x = ever_led first early (early_meets first later early meets) v at m leads in x.0 (sym x.1 ∙ none_later (v.member m).term h)))
        (λ h. h)
        (cases_lt t (v.member m).term)
