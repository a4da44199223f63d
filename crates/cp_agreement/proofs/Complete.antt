-- Leader completeness in one state that meets the invariant: a chosen entry stands in each log that can win a later election.
use Rattle.cp_parts.specs.declared.log_entry.LogEntry.{LogEntry}
use Rattle.cp_agreement_facts.specs.Entries.{members_in}
use Rattle.cp_agreement_facts.specs.Configurations.{AreAdjacent, AreOneApart, configuration_after}
use Rattle.cp_agreement_facts.specs.Logs.{HasTerm, IsUpToDate}
use Rattle.cp_agreement.specs.WholeLogs.{Cluster}
use Rattle.std.proofs.Common.{◌≡◌, ◌≢◌, ℕ, zero, suc, ◌<◌, ◌≤◌, ◌⊎◌, inl, inr, ⊎_elim, List, length, refl, ap, sym, ◌∙◌, arith, subst, subst₂, Some, slice_get, le_refl}
use Rattle.std.proofs.lemmas.Bool.{cases_lt, cases_eq, cases_order}
use Rattle.std.proofs.lemmas.Option.{slice_get_within, same_Some}
use Rattle.cp_agreement.proofs.Logs.{Share, Matches, share_at, share_sym, share_trans, share_less, share_refl, share_length}
use Rattle.cp_agreement.proofs.Configurations.{QuietFrom, LastChange, last_change, no_change, same_configuration}
use Rattle.cp_agreement.proofs.Quorums.{quorum_members_meet}
use Rattle.cp_agreement.proofs.Ghost.{Ghost, Backs, Clash, EndsPast, Chosen, Sound, Invariant, Prepared, Election}

-- Two sound logs match.
pub sound_matches : (g : Ghost) (l m : List LogEntry) (u v : ℕ) → Sound g l u → Sound g m v → Matches l m
sound_matches g l m u v sl sm k e f is js same = share_trans l (g.made e.term) m (suc k) (sl.rooted k e is) (share_sym m (g.made e.term) (suc k) (subst (λ (x : ℕ). Share (suc k) m (g.made x)) (sym same) (sm.rooted k f js)))

-- A front of a sound log is sound.
pub sound_front : (g : Ghost) (l m : List LogEntry) (u : ℕ) → Share (length l) l m → Sound g m u → Sound g l u
sound_front g l m u front sound =
    let there : (k : ℕ) (e : LogEntry) → slice_get l k ≡ Some e → slice_get m k ≡ Some e = λ k e is. share_at l m (length l) k e front (slice_get_within l k e is) is in
    record {
      upto = λ k e is. sound.upto k e (there k e is);
      rooted = λ k e is. share_trans l m (g.made e.term) (suc k) (share_less l m (suc k) (length l) (slice_get_within l k e is) front) (sound.rooted k e (there k e is));
    }

-- Adjacent both ways.
flip : (a b : List ℕ) → AreAdjacent a b → AreAdjacent b a
flip a b (inl e) = inl (sym e)
flip a b (inr (inl h)) = inr (inr h)
flip a b (inr (inr h)) = inr (inl h)

module _ (first : List ℕ) (w : Cluster) (g : Ghost) (inv : Invariant first w g) where
  -- a log's last members entry, and the entry that was chosen before that one was created
  pub record Prep (x : List LogEntry) : Type 0 where
    pub last : LastChange first x
    pub made : Share (suc last.place) x (g.made last.entry.term)
    pub prep : Prepared first w g last.entry.term last.place last.members
    pub less : prep.place < last.place

  -- A sound log has no members entry, or its last one was prepared.
  pub prepare : (x : List LogEntry) (u : ℕ) → Sound g x u → QuietFrom x 0 ⊎ Prep x
  prepare x u sound = ⊎_elim inl
      (λ (l : LastChange first x).
      let root = sound.rooted l.place l.entry l.there in
      let p = inv.prepared l.entry.term l.place l.entry l.members (share_at x (g.made l.entry.term) (suc l.place) l.place l.entry root (omega arith) l.there) refl l.is in
      inr (record { last = l; made = root; prep = p; less = omega (arith, p.chosen.covers, p.before) }))
      (last_change first x)

  -- the log y has the entry that was chosen before the last members entry of x was created
  record CoversChange (x y : List LogEntry) : Type 0 where
    prep : Prep x
    both : Share (suc prep.prep.place) x y

  -- that entry stands in x itself
  chosen_there : (x : List LogEntry) (p : Prep x) → slice_get x p.prep.place ≡ Some p.prep.chosen.entry
  chosen_there x p = share_at (g.made p.last.entry.term) x (suc p.last.place) p.prep.place p.prep.chosen.entry (share_sym x (g.made p.last.entry.term) (suc p.last.place) p.made) (omega (arith, p.less)) p.prep.chosen.there

  -- Where y has no members entry after it, the configurations of y and x are one apart.
  absorbed : (x y : List LogEntry) (s : CoversChange x y) → QuietFrom y (suc s.prep.prep.place) → AreAdjacent (configuration_after first y) (configuration_after first x)
  absorbed x y s ends =
      let p = s.prep in let c = p.prep.chosen in
      let agree : Share (suc p.prep.place) y c.till = share_trans y x c.till (suc p.prep.place) (share_sym x y (suc p.prep.place) s.both)
      (share_trans x (g.made p.last.entry.term) c.till (suc p.prep.place) (share_less x (g.made p.last.entry.term) (suc p.prep.place) (suc p.last.place) (omega (arith, p.less)) p.made)
      (share_sym c.till (g.made p.last.entry.term) (suc p.prep.place) (share_less c.till (g.made p.last.entry.term) (suc p.prep.place) (length c.till) c.covers c.front))) in
      let same : configuration_after first y ≡ configuration_after first c.till = same_configuration (suc p.prep.place) first y c.till agree ends
      (λ k e le is. let within = slice_get_within c.till k e is in
      p.prep.quiet k e le (omega (arith, within, p.prep.before)) (share_at c.till (g.made p.last.entry.term) (length c.till) k e c.front within is)) in
      inr (subst₂ AreOneApart (sym same) (sym p.last.members_are) p.prep.one_apart)

  -- Where the last members entries of both lie past what was chosen before the other's, they are one entry.
  apart : (x y : List LogEntry) (sx : CoversChange x y) (sy : CoversChange y x) → sy.prep.prep.place < sx.prep.last.place → sx.prep.prep.place < sy.prep.last.place → configuration_after first x ≡ configuration_after first y
  apart x y sx sy jx iy =
      let px = sx.prep in let py = sy.prep in
      let lx = px.last in let ly = py.last in
      let up : ly.entry.term ≤ lx.entry.term = subst (λ (u : ℕ). u ≤ lx.entry.term) py.prep.chosen.own ((inv.made lx.entry.term).upto py.prep.place py.prep.chosen.entry
      (share_at x (g.made lx.entry.term) (suc lx.place) py.prep.place py.prep.chosen.entry px.made (omega (arith, jx)) (share_at y x (suc py.prep.place) py.prep.place py.prep.chosen.entry sy.both (omega arith) (chosen_there y py)))) in
      let down : lx.entry.term ≤ ly.entry.term = subst (λ (u : ℕ). u ≤ ly.entry.term) px.prep.chosen.own ((inv.made ly.entry.term).upto px.prep.place px.prep.chosen.entry
      (share_at y (g.made ly.entry.term) (suc ly.place) px.prep.place px.prep.chosen.entry py.made (omega (arith, iy)) (share_at x y (suc px.prep.place) px.prep.place px.prep.chosen.entry sx.both (omega arith) (chosen_there x px)))) in
      let same : lx.entry.term ≡ ly.entry.term = omega arith in
      let mx : slice_get (g.made lx.entry.term) lx.place ≡ Some lx.entry = share_at x (g.made lx.entry.term) (suc lx.place) lx.place lx.entry px.made (omega arith) lx.there in
      let my : slice_get (g.made ly.entry.term) ly.place ≡ Some ly.entry = share_at y (g.made ly.entry.term) (suc ly.place) ly.place ly.entry py.made (omega arith) ly.there in
      ⊎_elim
      (λ (e : lx.place ≡ ly.place).
      let one : lx.entry ≡ ly.entry = same_Some lx.entry ly.entry (sym mx ∙ ap (λ u. slice_get (g.made u) lx.place) same ∙ ap (slice_get (g.made ly.entry.term)) e ∙ my) in
      lx.members_are ∙ same_Some lx.members ly.members (sym lx.is ∙ ap (λ z. members_in z.bytes) one ∙ ly.is) ∙ sym ly.members_are)
      (⊎_elim
      (λ (h : lx.place < ly.place). absurd (let n = py.prep.quiet lx.place lx.entry jx h (ap (λ u. slice_get (g.made u) lx.place) (sym same) ∙ mx) in let s = lx.is in cc))
      (λ (h : ly.place < lx.place). absurd (let n = px.prep.quiet ly.place ly.entry iy h (ap (λ u. slice_get (g.made u) ly.place) same ∙ my) in let s = ly.is in cc)))
      (cases_order lx.place ly.place)

  -- Two logs, each with what was chosen before the other's last members entry, have adjacent configurations.
  adjacent : (x y : List LogEntry) → QuietFrom x 0 ⊎ CoversChange x y → QuietFrom y 0 ⊎ CoversChange y x → AreAdjacent (configuration_after first x) (configuration_after first y)
  adjacent x y (inl ex) (inl ey) = inl (no_change first x ex ∙ sym (no_change first y ey))
  adjacent x y (inl ex) (inr sy) = absorbed y x sy (λ k e le is. ex k e (omega arith) is)
  adjacent x y (inr sx) (inl ey) = flip (configuration_after first y) (configuration_after first x) (absorbed x y sx (λ k e le is. ey k e (omega arith) is))
  adjacent x y (inr sx) (inr sy) = ⊎_elim
      (λ (jx : sy.prep.prep.place < sx.prep.last.place). ⊎_elim
      (λ (iy : sx.prep.prep.place < sy.prep.last.place). inl (apart x y sx sy jx iy))
      (λ (h : sy.prep.last.place ≤ sx.prep.prep.place). flip (configuration_after first y) (configuration_after first x) (absorbed x y sx (λ k e le is. sy.prep.last.ends k e (omega (arith, h, le)) is)))
      (cases_lt sx.prep.prep.place sy.prep.last.place))
      (λ (h : sx.prep.last.place ≤ sy.prep.prep.place). absorbed y x sy (λ k e le is. sx.prep.last.ends k e (omega (arith, h, le)) is))
      (cases_lt sy.prep.prep.place sx.prep.last.place)

  -- Leaders that share a front do not clash in it.
  pub no_clash : (t k u : ℕ) (c : Clash g t k u) → Share (suc k) (g.made t) (g.made c.by) → ⊥
  no_clash t k u c both =
      let (j, l, e, f, he, hf, ne) = c.differ in
      ne (ap (λ x. x.term) (same_Some e f (sym he ∙ share_at (g.made t) (g.made c.by) (suc k) j f both (omega arith) hf)))

  -- A leader's log, as it was when it won, could win.
  leader_election : (t' : ℕ) → g.leader t' ≢ 0 → Election first w g t' t' (g.won t')
  leader_election t' holds = let q = inv.elected t' holds in record {
    sound = sound_front g (g.won t') (g.made t') t' (inv.won t') (inv.made t');
    below = inv.won_below t';
    quorum = (q.0, q.1, λ v chosen. (q.2 v chosen).1);
  }

  -- What the leader had when it won, it has.
  from_won : (t k t' : ℕ) → Share (suc k) (g.made t) (g.won t') → Share (suc k) (g.made t) (g.made t')
  from_won t k t' both = share_trans (g.made t) (g.won t') (g.made t') (suc k) both (share_less (g.won t') (g.made t') (suc k) (length (g.won t')) (share_length (g.made t) (g.won t') (suc k) both) (inv.won t'))

  -- An entry of the leader's own term stands behind the log with which it won.
  own_past : (t k : ℕ) (e : LogEntry) → slice_get (g.made t) k ≡ Some e → e.term ≡ t → length (g.won t) ≤ k
  own_past t k e is own = ⊎_elim
      (λ (low : k < length (g.won t)). absurd (omega (arith, inv.won_below t k e (share_at (g.made t) (g.won t) (length (g.won t)) k e (share_sym (g.won t) (g.made t) (length (g.won t)) (inv.won t)) low is), own)))
      (λ le. le)
      (cases_lt k (length (g.won t)))

  module _ (t' bound : ℕ) (fits : t' ≤ bound) (x : List LogEntry) (el : Election first w g t' bound x)
      (before : (u : ℕ) → u < bound → g.leader u ≢ 0 → (t k : ℕ) → Chosen first w g t k → t < u → Share (suc k) (g.made t) (g.won u)) where
    -- Every leader between has the chosen entry.
    between : (t k : ℕ) → Chosen first w g t k → (u : ℕ) → g.leader u ≢ 0 → t ≤ u → u < bound → Share (suc k) (g.made t) (g.made u)
    between t k c u leader le less = ⊎_elim
        (λ e. subst (λ z. Share (suc k) (g.made t) (g.made z)) e (share_refl (g.made t) (suc k) (slice_get_within (g.made t) k c.entry c.there)))
        (λ ne. from_won t k u (before u less leader t k c (omega (arith, ne))))
        (cases_eq t u)

    -- A log whose end is not below the chosen entry has it.
    past_has : (t k : ℕ) → (c : Chosen first w g t k) → t < t' → (lt n : ℕ) → n ≡ length x → HasTerm x n lt → IsUpToDate lt n t (suc k) → Share (suc k) (g.made t) x
    past_has t k c less lt zero len ends past = absurd (⊎_elim (λ h. omega (arith, h, ends)) (λ h. omega (arith, h.1)) past)
    past_has t k c less lt (suc i) len ends past =
        let root = el.sound.rooted i ends.0 ends.1 in
        ⊎_elim
        (λ (h : t < lt).
        let root' = subst (λ (u : ℕ). Share (suc i) x (g.made u)) ends.2 root in
        let y = share_at x (g.made lt) (suc i) i ends.0 root' (omega arith) ends.1 in
        let z = between t k c lt (inv.held lt i ends.0 y) (omega arith) (omega (arith, fits, ends.2, el.below i ends.0 ends.1)) in
        ⊎_elim
        (λ (low : i < k).
        let back = subst (λ (u : ℕ). Share (suc k) (g.made lt) (g.made u)) c.own ((inv.made lt).rooted k c.entry (share_at (g.made t) (g.made lt) (suc k) k c.entry z (omega arith) c.there)) in
        absurd (omega (arith, (inv.made t).upto i ends.0 (share_at (g.made lt) (g.made t) (suc k) i ends.0 back (omega arith) y), ends.2)))
        (λ (high : k ≤ i). share_trans (g.made t) (g.made lt) x (suc k) z (share_sym x (g.made lt) (suc k) (share_less x (g.made lt) (suc k) (suc i) (omega arith) root')))
        (cases_lt i k))
        (λ h. share_sym x (g.made t) (suc k) (share_less x (g.made t) (suc k) (suc i) h.1 (subst (λ (u : ℕ). Share (suc i) x (g.made u)) (ends.2 ∙ sym h.0) root)))
        past

    -- The quorum of the chosen entry and that of the election have a common member.
    by_quorum : (t k : ℕ) → (c : Chosen first w g t k) → t < t' → AreAdjacent (configuration_after first c.till) (configuration_after first x) → Share (suc k) (g.made t) x
    by_quorum t k c less near =
        let (v, backed, elected) = quorum_members_meet (configuration_after first c.till) (configuration_after first x) (λ v. Backs w g v t k)
        (λ v. (t k : ℕ) → Backs w g v t k → t < t' → Clash g t k bound ⊎ EndsPast x t k) near c.quorum el.quorum in
        ⊎_elim
        (λ (clash : Clash g t k bound).
        let (j, l, e, f, he, hf, d) = clash.differ in
        absurd (no_clash t k bound clash (between t k c clash.by (inv.held clash.by j e he) clash.from clash.below)))
        (λ (past : EndsPast x t k). past_has t k c less past.last_term (length x) refl past.ends.1 past.past)
        (elected t k backed less)

    -- What was chosen before the log's last members entry stands in the log of the chosen entry's leader, or the log has the chosen entry.
    from_last : (t k : ℕ) → (c : Chosen first w g t k) → t < t' → (p : Prep x) → Share (suc k) (g.made t) x ⊎ CoversChange x c.till
    from_last t k c less p =
        let l = p.last in let q = l.entry.term in
        let below : q < t' = el.below l.place l.entry l.there in
        let mine : slice_get (g.made q) l.place ≡ Some l.entry = share_at x (g.made q) (suc l.place) l.place l.entry p.made (omega arith) l.there in
        let leader : g.leader q ≢ 0 = inv.held q l.place l.entry mine in
        let to_made : (n : ℕ) → n ≤ suc l.place → Share n x (g.made q) = λ n le. share_less x (g.made q) n (suc l.place) le p.made in
        ⊎_elim
        (λ (e : t ≡ q).
        let made : g.made q ≡ g.made t = ap g.made (sym e) in
        ⊎_elim
        (λ (j : p.prep.place < length c.till). inr (record {
          prep = p;
          both =
              share_trans x (g.made t) c.till (suc p.prep.place) (subst (Share (suc p.prep.place) x) made (to_made (suc p.prep.place) (omega (arith, p.less))))
              (share_sym c.till (g.made t) (suc p.prep.place) (share_less c.till (g.made t) (suc p.prep.place) (length c.till) j c.front));
        }))
        (λ (j : length c.till ≤ p.prep.place). inl (share_sym x (g.made t) (suc k) (subst (Share (suc k) x) made (to_made (suc k) (omega (arith, j, c.covers, p.less))))))
        (cases_lt p.prep.place (length c.till)))
        (⊎_elim
        (λ (h : t < q).
        let won = before q (omega (arith, fits, below)) leader t k c h in
        inl (share_trans (g.made t) (g.made q) x (suc k) (from_won t k q won)
        (share_sym x (g.made q) (suc k) (to_made (suc k) (omega (arith, share_length (g.made t) (g.won q) (suc k) won, own_past q l.place l.entry mine refl))))))
        (λ (h : q < t).
        let chosen = p.prep.chosen in
        let won = before t (omega (arith, fits, less)) (inv.held t k c.entry c.there) q p.prep.place chosen h in
        let short : suc p.prep.place ≤ length c.till = omega (arith, share_length (g.made q) (g.won t) (suc p.prep.place) won, own_past t k c.entry c.there c.own, c.covers) in
        inr (record {
          prep = p;
          both = share_trans x (g.made q) c.till (suc p.prep.place) (to_made (suc p.prep.place) (omega (arith, p.less)))
              (share_trans (g.made q) (g.made t) c.till (suc p.prep.place) (from_won q p.prep.place t won)
              (share_sym c.till (g.made t) (suc p.prep.place) (share_less c.till (g.made t) (suc p.prep.place) (length c.till) short c.front)));
        })))
        (cases_order t q)

    -- What was chosen before the last members entry of the chosen entry's log stands in this log.
    from_till : (t k : ℕ) → (c : Chosen first w g t k) → t < t' → ((r j : ℕ) → (d : Chosen first w g r j) → length d.till < length c.till → r < t' → Share (suc j) (g.made r) x) → QuietFrom c.till 0 ⊎ CoversChange c.till x
    from_till t k c less has =
        let sound = sound_front g c.till (g.made t) t c.front (inv.made t) in
        ⊎_elim inl
        (λ (p : Prep c.till).
        let l = p.last in
        inr (record {
          prep = p;
          both = share_trans c.till (g.made l.entry.term) x (suc p.prep.place) (share_less c.till (g.made l.entry.term) (suc p.prep.place) (suc l.place) (omega (arith, p.less)) p.made)
              (has l.entry.term p.prep.place p.prep.chosen (omega (arith, p.prep.before, slice_get_within c.till l.place l.entry l.there)) (omega (arith, sound.upto l.place l.entry l.there, less)));
        }))
        (prepare c.till t sound)

    -- The log has each chosen entry of a lower term: by induction on the length of the leader's log when it was chosen.
    elected_has : (n t k : ℕ) → (c : Chosen first w g t k) → length c.till < n → t < t' → Share (suc k) (g.made t) x
    elected_has zero t k c short less = absurd (omega (arith, short))
    elected_has (suc n) t k c short less =
        let till = from_till t k c less (λ r j d shorter lower. elected_has n r j d (omega (arith, shorter, short)) lower) in
        ⊎_elim
        (λ (ex : QuietFrom x 0). by_quorum t k c less (adjacent c.till x till (inl ex)))
        (λ (p : Prep x). ⊎_elim (λ done. done) (λ (s : CoversChange x c.till). by_quorum t k c less (adjacent c.till x till (inr s))) (from_last t k c less p))
        (prepare x t' el.sound)

  -- Each log that can win an election has each entry that was chosen in a lower term: by induction on the term.
  elects_below : (n : ℕ) → (t' : ℕ) → t' < n → (x : List LogEntry) → Election first w g t' t' x → (t k : ℕ) → (c : Chosen first w g t k) → t < t' → Share (suc k) (g.made t) x
  elects_below zero t' below = absurd (omega arith)
  elects_below (suc n) t' below = λ x el t k c less. elected_has t' t' (le_refl t') x el
      (λ u lower leader. elects_below n u (omega arith) (g.won u) (leader_election u leader))
      (suc (length c.till)) t k c (omega arith) less

  -- A leader won with each entry that was chosen in a lower term.
  pub complete_won : (t k : ℕ) → Chosen first w g t k → (t' : ℕ) → g.leader t' ≢ 0 → t < t' → Share (suc k) (g.made t) (g.won t')
  complete_won t k c t' holds less = elects_below (suc t') t' (omega arith) (g.won t') (leader_election t' holds) t k c less

  -- Leader completeness: the leader of each later term has each chosen entry.
  pub complete : (t k : ℕ) → Chosen first w g t k → (t' : ℕ) → g.leader t' ≢ 0 → t ≤ t' → Share (suc k) (g.made t) (g.made t')
  complete t k c t' holds le = ⊎_elim
      (λ e. subst (λ z. Share (suc k) (g.made t) (g.made z)) e (share_refl (g.made t) (suc k) (slice_get_within (g.made t) k c.entry c.there)))
      (λ ne. from_won t k t' (complete_won t k c t' holds (omega (arith, ne))))
      (cases_eq t t')

  -- A candidate of a term that already has a leader has each entry that was chosen in a lower term.
  rival_has : (t' : ℕ) (x : List LogEntry) → Election first w g t' (suc t') x → (t k : ℕ) → Chosen first w g t k → t < t' → Share (suc k) (g.made t) x
  rival_has t' x el t k c less = elected_has t' (suc t') (omega arith) x el (λ u lower leader t k c less. complete_won t k c u leader less) (suc (length c.till)) t k c (omega arith) less

  -- Two candidates of one term have adjacent configurations, so there is one leader per term.
  pub rivals_adjacent : (t' : ℕ) → g.leader t' ≢ 0 → (x : List LogEntry) → Election first w g t' (suc t') x → AreAdjacent (configuration_after first x) (configuration_after first (g.won t'))
  rivals_adjacent t' holds x el = adjacent x (g.won t')
      (⊎_elim inl (λ (p : Prep x). inr (record {
        prep = p;
        both =
            share_trans x (g.made p.last.entry.term) (g.won t') (suc p.prep.place) (share_less x (g.made p.last.entry.term) (suc p.prep.place) (suc p.last.place) (omega (arith, p.less)) p.made)
            (complete_won p.last.entry.term p.prep.place p.prep.chosen t' holds (el.below p.last.place p.last.entry p.last.there));
      })) (prepare x t' el.sound))
      (⊎_elim inl (λ (p : Prep (g.won t')). inr (record {
        prep = p;
        both =
            share_trans (g.won t') (g.made p.last.entry.term) x (suc p.prep.place) (share_less (g.won t') (g.made p.last.entry.term) (suc p.prep.place) (suc p.last.place) (omega (arith, p.less)) p.made)
            (rival_has t' x el p.last.entry.term p.prep.place p.prep.chosen (inv.won_below t' p.last.place p.last.entry p.last.there));
      })) (prepare (g.won t') t' (sound_front g (g.won t') (g.made t') t' (inv.won t') (inv.made t'))))
