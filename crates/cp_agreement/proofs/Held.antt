-- What is committed is held now by a quorum of the configuration in force for it, or of an adjacent one.
use Rattle.std.proofs.Common.{◌≡◌, refl, ℕ, zero, suc, ◌<◌, ◌≤◌, inl, inr, ⊎_elim, List, length, take, sym, ◌∙◌, arith, subst, subst₂, Some, slice_get, length-take}
use Rattle.std.proofs.lemmas.Bool.{cases_lt}
use Rattle.std.proofs.lemmas.Option.{slice_get_within}
use Rattle.cp_parts.specs.declared.log_entry.LogEntry.{LogEntry}
use Rattle.cp_agreement_facts.specs.Configurations.{AreAdjacent, AreOneApart, HasQuorum, configuration_after}
use Rattle.cp_agreement.specs.WholeLogs.{Cluster}
use Rattle.cp_agreement.proofs.Logs.{Share, share_at, share_sym, share_trans, share_less, share_take, has_place, get-take}
use Rattle.cp_agreement.proofs.Configurations.{QuietFrom, same_configuration}
use Rattle.cp_agreement.proofs.Ghost.{Ghost, Backs, Clash, Chosen, Invariant}
use Rattle.cp_agreement.proofs.Complete.{complete, no_clash, prepare, Prep, sound_front}

-- a front of a log, as a list of its own
share_front : (l : List LogEntry) (n : ℕ) → n ≤ length l → Share n (take n l) l
share_front l n le k less = let x = has_place l k (omega arith) in (x.0, get-take l n k less ∙ x.1, x.1)

front_within : (l : List LogEntry) (n k : ℕ) (e : LogEntry) → slice_get (take n l) k ≡ Some e → k < n
front_within l n k e is = omega (arith, slice_get_within (take n l) k e is, length-take n l)

module _ (first : List ℕ) (w : Cluster) (g : Ghost) (inv : Invariant first w g) where
  -- Whoever stands behind a chosen entry still has it.
  still_has : (t k : ℕ) → Chosen first w g t k → (v : ℕ) → Backs w g v t k → Share (suc k) (w.member v).log (g.made t)
  still_has t k c v b = ⊎_elim (λ both. both)
      (λ (clash : Clash g t k (suc (w.member v).term)).
      let (j, l, e, f, he, hf, d) = clash.differ in
      absurd (no_clash first w g inv t k (suc (w.member v).term) clash (complete first w g inv t k c clash.by (inv.held clash.by j e he) clash.from)))
      (inv.kept v t k b)

  -- A quorum of an adjacent configuration has the front up to place i.
  pub record Holds (t i : ℕ) : Type 0 where
    pub members : List ℕ
    -- the configuration is that of the log of a leader, when it counted
    pub term : ℕ
    pub till : List LogEntry
    pub front : Share (length till) till (g.made term)
    pub members_are : members ≡ configuration_after first till
    pub near : AreAdjacent (configuration_after first (take (suc i) (g.made t))) members
    pub by : HasQuorum members (λ v. Share (suc i) (w.member v).log (g.made t))

  -- By the chosen entry's own quorum, where its configuration is adjacent.
  by_own : (t k : ℕ) → (c : Chosen first w g t k) → (i : ℕ) → i ≤ k → AreAdjacent (configuration_after first (take (suc i) (g.made t))) (configuration_after first c.till) → Holds t i
  by_own t k c i le near = record {
    members = configuration_after first c.till;
    term = t;
    till = c.till;
    front = c.front;
    members_are = refl;
    near = near;
    by = (c.quorum.0, c.quorum.1, λ v chosen. share_less (w.member v).log (g.made t) (suc i) (suc k) (omega arith) (still_has t k c v (c.quorum.2 v chosen)));
  }

  -- By induction on the length of the leader's log when the entry was chosen.
  held_below : (n t k : ℕ) → (c : Chosen first w g t k) → length c.till < n → (i : ℕ) → i ≤ k → Holds t i
  held_below zero t k c short i le = absurd (omega (arith, short))
  held_below (suc n) t k c short i le =
      let within : suc i ≤ length (g.made t) = let z = c.covers in omega (arith, le, slice_get_within (g.made t) k c.entry c.there) in
      let front : Share (suc i) (take (suc i) (g.made t)) (g.made t) = share_front (g.made t) (suc i) within in
      let to_till : Share (suc i) (take (suc i) (g.made t)) c.till = share_trans (take (suc i) (g.made t)) (g.made t) c.till (suc i) front
      (share_sym c.till (g.made t) (suc i) (share_less c.till (g.made t) (suc i) (length c.till) (let z = c.covers in omega (arith, z, le)) c.front)) in
      let own_ends : QuietFrom (take (suc i) (g.made t)) (suc i) = λ j e low is. absurd (let z = front_within (g.made t) (suc i) j e is in omega (arith, z, low)) in
      ⊎_elim
      (λ (none : QuietFrom c.till 0). by_own t k c i le (inl (same_configuration (suc i) first (take (suc i) (g.made t)) c.till to_till own_ends (λ j e low is. none j e (omega arith) is))))
      (λ (p : Prep first w g inv c.till).
      let l = p.last in let d = p.prep.chosen in
      ⊎_elim
      (λ (before : i < l.place). ⊎_elim
      (λ (past : p.prep.place < i).
      -- no members entry lies between the one chosen before and the last one: its log's configuration is that of place i
      let same : configuration_after first (take (suc i) (g.made t)) ≡ configuration_after first d.till =
      same_configuration (suc p.prep.place) first (take (suc i) (g.made t)) d.till
      (share_trans (take (suc i) (g.made t)) c.till d.till (suc p.prep.place) (share_less (take (suc i) (g.made t)) c.till (suc p.prep.place) (suc i) (omega (arith, past)) to_till)
      (share_trans c.till (g.made l.entry.term) d.till (suc p.prep.place) (share_less c.till (g.made l.entry.term) (suc p.prep.place) (suc l.place) (omega (arith, past, before)) p.made)
      (share_sym d.till (g.made l.entry.term) (suc p.prep.place) (share_less d.till (g.made l.entry.term) (suc p.prep.place) (length d.till) d.covers d.front))))
      (λ j e low is.
      let jn = front_within (g.made t) (suc i) j e is in
      p.prep.quiet j e low (omega (arith, jn, before))
      (share_at c.till (g.made l.entry.term) (suc l.place) j e p.made (omega (arith, jn, before)) (share_at (take (suc i) (g.made t)) c.till (suc i) j e to_till jn is)))
      (λ j e low is. let jn = slice_get_within d.till j e is in
      p.prep.quiet j e low (let z = p.prep.before in omega (arith, jn, z)) (share_at d.till (g.made l.entry.term) (length d.till) j e d.front jn is)) in
      by_own t k c i le (inr (subst₂ AreOneApart (sym same) (sym l.members_are) p.prep.one_apart)))
      (λ (covered : i ≤ p.prep.place).
      -- what was chosen before the last members entry covers place i
      let h = held_below n l.entry.term p.prep.place d (let z = p.prep.before in omega (arith, z, slice_get_within c.till l.place l.entry l.there, short)) i covered in
      let agree : Share (suc i) (g.made l.entry.term) (g.made t) =
      share_trans (g.made l.entry.term) c.till (g.made t) (suc i) (share_sym c.till (g.made l.entry.term) (suc i) (share_less c.till (g.made l.entry.term) (suc i) (suc l.place) (omega (arith, before)) p.made))
      (share_less c.till (g.made t) (suc i) (length c.till) (let z = c.covers in omega (arith, z, le)) c.front) in
      record {
        members = h.members;
        term = h.term;
        till = h.till;
        front = h.front;
        members_are = h.members_are;
        near = subst (λ x. AreAdjacent (configuration_after first x) h.members) (share_take (g.made l.entry.term) (g.made t) (suc i) agree) h.near;
        by = (h.by.0, h.by.1, λ v chosen. share_trans (w.member v).log (g.made l.entry.term) (g.made t) (suc i) (h.by.2 v chosen) agree);
      })
      (cases_lt p.prep.place i))
      (λ (after : l.place ≤ i). by_own t k c i le (inl (same_configuration (suc i) first (take (suc i) (g.made t)) c.till to_till own_ends (λ j e low is. l.ends j e (omega (arith, low, after)) is))))
      (cases_lt i l.place))
      (prepare first w g inv c.till t (sound_front g c.till (g.made t) t c.front (inv.made t)))

  -- Each entry up to a chosen one is held.
  pub held : (t k : ℕ) → Chosen first w g t k → (i : ℕ) → i ≤ k → Holds t i
  held t k c i le = held_below (suc (length c.till)) t k c (omega arith) i le
