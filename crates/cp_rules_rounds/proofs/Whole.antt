-- On whole logs: where a quorum of a leader's configuration had no later term at an earlier moment, no later term had a leader by then.
use Rattle.std.proofs.Common.{◌≡◌, ◌≢◌, ℕ, suc, ◌<◌, ◌≤◌, ◌⊎◌, inl, inr, ⊎_elim, List, [], ◌∷◌, ◌++◌, length, refl, ap, sym, ◌∙◌, arith, subst, subst₂, Some, slice_get}
use Rattle.std.proofs.lemmas.Bool.{cases_lt, cases_order}
use Rattle.std.proofs.lemmas.Option.{slice_get_within, same_Some}
use Rattle.cp_parts.specs.declared.log_entry.LogEntry.{LogEntry}
use Rattle.cp_agreement_facts.specs.Entries.{members_in}
use Rattle.cp_agreement_facts.specs.Configurations.{AreAdjacent, AreOneApart, configuration_after}
use Rattle.cp_agreement.specs.WholeLogs.{Cluster, Step, MeetsFacts, cluster_after}
use Rattle.cp_agreement.proofs.Logs.{Share, share_at, share_sym, share_trans, share_less}
use Rattle.cp_agreement.proofs.Configurations.{QuietFrom, no_change, same_configuration}
use Rattle.cp_agreement.proofs.Ghost.{Ghost, Invariant, ghost_of}
use Rattle.cp_agreement.proofs.GhostSteps.{won_held}
use Rattle.cp_agreement.proofs.Grows.{leader_stays}
use Rattle.cp_agreement.proofs.Complete.{Prep, prepare, sound_front, complete, complete_won}
use Rattle.cp_agreement.proofs.Moments.{invariant}

-- ---- adjacent configurations, as in cp_agreement's Complete, where these are private

flip : (a b : List ℕ) → AreAdjacent a b → AreAdjacent b a
flip a b (inl e) = inl (sym e)
flip a b (inr (inl h)) = inr (inr h)
flip a b (inr (inr h)) = inr (inl h)

module _ (first : List ℕ) (w : Cluster) (g : Ghost) (inv : Invariant first w g) where
  abbrev Preps : List LogEntry → Type 0
  Preps x = Prep first w g inv x

  -- the log y has the entry that was chosen before the last members entry of x was created
  record CoversChange (x y : List LogEntry) : Type 0 where
    prep : Preps x
    both : Share (suc prep.prep.place) x y

  chosen_there : (x : List LogEntry) (p : Preps x) → slice_get x p.prep.place ≡ Some p.prep.chosen.entry
  chosen_there x p = share_at (g.made p.last.entry.term) x (suc p.last.place) p.prep.place p.prep.chosen.entry (share_sym x (g.made p.last.entry.term) (suc p.last.place) p.made) (omega (arith, p.less)) p.prep.chosen.there

  absorbed : (x y : List LogEntry) (s : CoversChange x y) → QuietFrom y (suc s.prep.prep.place) → AreAdjacent (configuration_after first y) (configuration_after first x)
  absorbed x y s ends =
      let p = s.prep in let c = p.prep.chosen in
      let agree : Share (suc p.prep.place) y c.till = share_trans y x c.till (suc p.prep.place) (share_sym x y (suc p.prep.place) s.both)
      (share_trans x (g.made p.last.entry.term) c.till (suc p.prep.place) (share_less x (g.made p.last.entry.term) (suc p.prep.place) (suc p.last.place) (omega (arith, p.less)) p.made)
      (share_sym c.till (g.made p.last.entry.term) (suc p.prep.place) (share_less c.till (g.made p.last.entry.term) (suc p.prep.place) (length c.till) c.covers c.front))) in
      let same : configuration_after first y ≡ configuration_after first c.till = same_configuration (suc p.prep.place) first y c.till agree ends
      (λ k e le is. let within = slice_get_within c.till k e is in
      p.prep.quiet k e le (omega (arith, within, p.prep.before)) (share_at c.till (g.made p.last.entry.term) (length c.till) k e c.front within is)) in
      inr (subst₂ AreOneApart (sym same) (sym p.last.members_are) p.prep.one_apart)

  apart : (x y : List LogEntry) (sx : CoversChange x y) (sy : CoversChange y x) → sy.prep.prep.place < sx.prep.last.place → sx.prep.prep.place < sy.prep.last.place → configuration_after first x ≡ configuration_after first y
  apart x y sx sy jx iy =
      let px = sx.prep in let py = sy.prep in
      let lx = px.last in let ly = py.last in
      let up : ly.entry.term ≤ lx.entry.term = subst (λ (u : ℕ). u ≤ lx.entry.term) py.prep.chosen.own ((inv.made lx.entry.term).upto py.prep.place py.prep.chosen.entry
      (share_at x (g.made lx.entry.term) (suc lx.place) py.prep.place py.prep.chosen.entry px.made (omega (arith, jx)) (share_at y x (suc py.prep.place) py.prep.place py.prep.chosen.entry sy.both (omega arith) (chosen_there y py)))) in
      let down : lx.entry.term ≤ ly.entry.term = subst (λ (u : ℕ). u ≤ ly.entry.term) px.prep.chosen.own ((inv.made ly.entry.term).upto px.prep.place px.prep.chosen.entry
      (share_at y (g.made ly.entry.term) (suc ly.place) px.prep.place px.prep.chosen.entry py.made (omega (arith, iy)) (share_at x y (suc px.prep.place) px.prep.place px.prep.chosen.entry sx.both (omega arith) (chosen_there x px)))) in
      let same : lx.entry.term ≡ ly.entry.term = omega arith in
      let mx : slice_get (g.made lx.entry.term) lx.place ≡ Some lx.entry = share_at x (g.made lx.entry.term) (suc lx.place) lx.place lx.entry px.made (omega arith) lx.there in
      let my : slice_get (g.made ly.entry.term) ly.place ≡ Some ly.entry = share_at y (g.made ly.entry.term) (suc ly.place) ly.place ly.entry py.made (omega arith) ly.there in
      ⊎_elim
      (λ (e : lx.place ≡ ly.place).
      let one : lx.entry ≡ ly.entry = same_Some lx.entry ly.entry (sym mx ∙ ap (λ u. slice_get (g.made u) lx.place) same ∙ ap (slice_get (g.made ly.entry.term)) e ∙ my) in
      lx.members_are ∙ same_Some lx.members ly.members (sym lx.is ∙ ap (λ z. members_in z.bytes) one ∙ ly.is) ∙ sym ly.members_are)
      (⊎_elim
      (λ (h : lx.place < ly.place). absurd (let n = py.prep.quiet lx.place lx.entry jx h (ap (λ u. slice_get (g.made u) lx.place) (sym same) ∙ mx) in let s = lx.is in cc))
      (λ (h : ly.place < lx.place). absurd (let n = px.prep.quiet ly.place ly.entry iy h (ap (λ u. slice_get (g.made u) ly.place) same ∙ my) in let s = ly.is in cc)))
      (cases_order lx.place ly.place)

  adjacent : (x y : List LogEntry) → QuietFrom x 0 ⊎ CoversChange x y → QuietFrom y 0 ⊎ CoversChange y x → AreAdjacent (configuration_after first x) (configuration_after first y)
  adjacent x y (inl ex) (inl ey) = inl (no_change first x ex ∙ sym (no_change first y ey))
  adjacent x y (inl ex) (inr sy) = absorbed y x sy (λ k e le is. ex k e (omega arith) is)
  adjacent x y (inr sx) (inl ey) = flip (configuration_after first y) (configuration_after first x) (absorbed x y sx (λ k e le is. ey k e (omega arith) is))
  adjacent x y (inr sx) (inr sy) = ⊎_elim
      (λ (jx : sy.prep.prep.place < sx.prep.last.place). ⊎_elim
      (λ (iy : sx.prep.prep.place < sy.prep.last.place). inl (apart x y sx sy jx iy))
      (λ (h : sy.prep.last.place ≤ sx.prep.prep.place). flip (configuration_after first y) (configuration_after first x) (absorbed x y sx (λ k e le is. sy.prep.last.ends k e (omega (arith, h, le)) is)))
      (cases_lt sx.prep.prep.place sy.prep.last.place))
      (λ (h : sx.prep.last.place ≤ sy.prep.prep.place). absorbed y x sy (λ k e le is. sx.prep.last.ends k e (omega (arith, h, le)) is))
      (cases_lt sy.prep.prep.place sx.prep.last.place)

  -- A leader's log and the log that won a later term, where no term between them has a leader, have adjacent configurations.
  pub next_adjacent : (t u : ℕ) → t < u → g.leader t ≢ 0 → g.leader u ≢ 0 → ((r : ℕ) → t < r → r < u → (k : ℕ) (e : LogEntry) → slice_get (g.won u) k ≡ Some e → e.term ≢ r)
      → AreAdjacent (configuration_after first (g.made t)) (configuration_after first (g.won u))
  next_adjacent t u less leads later none =
      let won_sound = sound_front g (g.won u) (g.made u) u (inv.won u) (inv.made u) in
      adjacent (g.made t) (g.won u)
      (⊎_elim inl (λ (p : Preps (g.made t)). inr (record {
        prep = p;
        both =
            let low : p.last.entry.term ≤ t = (inv.made t).upto p.last.place p.last.entry p.last.there in
            share_trans (g.made t) (g.made p.last.entry.term) (g.won u) (suc p.prep.place) (share_less (g.made t) (g.made p.last.entry.term) (suc p.prep.place) (suc p.last.place) (omega (arith, p.less)) p.made)
            (complete_won first w g inv p.last.entry.term p.prep.place p.prep.chosen u later (omega (arith, low, less)));
      })) (prepare first w g inv (g.made t) t (inv.made t)))
      (⊎_elim inl (λ (p : Preps (g.won u)). inr (record {
        prep = p;
        both =
            let under : p.last.entry.term < u = inv.won_below u p.last.place p.last.entry p.last.there in
            let low : p.last.entry.term ≤ t = ⊎_elim (λ (h : t < p.last.entry.term). absurd (none p.last.entry.term h under p.last.place p.last.entry p.last.there refl)) (λ h. h) (cases_lt t p.last.entry.term) in
            share_trans (g.won u) (g.made p.last.entry.term) (g.made t) (suc p.prep.place) (share_less (g.won u) (g.made p.last.entry.term) (suc p.prep.place) (suc p.last.place) (omega (arith, p.less)) p.made)
            (complete first w g inv p.last.entry.term p.prep.place p.prep.chosen t leads low);
      })) (prepare first w g inv (g.won u) u won_sound))

-- ---- two moments

-- who led a term by the earlier moment
pub led_stays : (first : List ℕ) (later early : List Step) → MeetsFacts first (later ++ early) → (t : ℕ) → (ghost_of early).leader t ≢ 0
    → ((ghost_of (later ++ early)).leader t ≡ (ghost_of early).leader t) × ((ghost_of (later ++ early)).won t ≡ (ghost_of early).won t)
led_stays first [] early meets t led = (refl, refl)
led_stays first (s ∷ later) early meets t led =
    let x = led_stays first later early meets.1 t led in
    let still : (ghost_of (later ++ early)).leader t ≢ 0 = λ z. led (sym x.0 ∙ z) in (
      leader_stays first (cluster_after (later ++ early)) (ghost_of (later ++ early)) s (invariant first (later ++ early) meets.1) meets.0 t still ∙ x.0,
      won_held (cluster_after (later ++ early)) (ghost_of (later ++ early)) s t still ∙ x.1,
    )

pub early_meets : (first : List ℕ) (later early : List Step) → MeetsFacts first (later ++ early) → MeetsFacts first early
early_meets first [] early meets = meets
early_meets first (s ∷ later) early meets = early_meets first later early meets.1
