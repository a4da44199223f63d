-- What a step changes of the ghost: the log of the term that it leads, and that log at the election where it wins it.
use Rattle.cp_agreement.specs.WholeLogs.{Cluster, Step}
use Rattle.std.proofs.Common.{◌≡◌, ◌≢◌, ℕ, ◌⊎◌, inl, inr, ⊎_elim, true, false, refl, ◌∙◌}
use Rattle.std.proofs.lemmas.Bool.{cases_eq, cases_Bool, ne_eqb}
use Rattle.cp_agreement.proofs.Ghost.{Ghost, ghost_after, leader_after, made_after, won_after, put_same, put_other}

module _ (w : Cluster) (g : Ghost) (s : Step) where
  -- how the ghost changes
  pub made_ne : (t : ℕ) → t ≢ s.after.term → (ghost_after w g s).made t ≡ g.made t
  made_ne t ne = put_other g.made s.after.term (made_after w g s) t ne

  pub made_in : (t : ℕ) → s.leads ≡ true → t ≡ s.after.term → (ghost_after w g s).made t ≡ s.after.log
  made_in t leading e = put_same g.made s.after.term (made_after w g s) t e ∙ rw leading refl

  pub made_out : (t : ℕ) → s.leads ≡ false → (ghost_after w g s).made t ≡ g.made t
  made_out t leading = ⊎_elim (λ e. put_same g.made s.after.term (made_after w g s) t e ∙ rw (leading, e) refl) (made_ne t) (cases_eq t s.after.term)

  pub leader_ne : (t : ℕ) → t ≢ s.after.term → (ghost_after w g s).leader t ≡ g.leader t
  leader_ne t ne = put_other g.leader s.after.term (leader_after w g s) t ne

  pub leader_in : (t : ℕ) → s.leads ≡ true → t ≡ s.after.term → (ghost_after w g s).leader t ≡ s.actor
  leader_in t leading e = put_same g.leader s.after.term (leader_after w g s) t e ∙ rw leading refl

  pub leader_out : (t : ℕ) → s.leads ≡ false → (ghost_after w g s).leader t ≡ g.leader t
  leader_out t leading = ⊎_elim (λ e. put_same g.leader s.after.term (leader_after w g s) t e ∙ rw (leading, e) refl) (leader_ne t) (cases_eq t s.after.term)

  pub won_ne : (t : ℕ) → t ≢ s.after.term → (ghost_after w g s).won t ≡ g.won t
  won_ne t ne = put_other g.won s.after.term (won_after w g s) t ne

  pub won_took : (t : ℕ) → s.leads ≡ true → g.leader t ≡ 0 → t ≡ s.after.term → (ghost_after w g s).won t ≡ (w.member s.actor).log
  won_took t leading none e = put_same g.won s.after.term (won_after w g s) t e ∙ rw (leading, ← e, none) refl

  pub won_out : (t : ℕ) → s.leads ≡ false → (ghost_after w g s).won t ≡ g.won t
  won_out t leading = ⊎_elim (λ e. put_same g.won s.after.term (won_after w g s) t e ∙ rw (leading, e) refl) (won_ne t) (cases_eq t s.after.term)

  pub won_held : (t : ℕ) → g.leader t ≢ 0 → (ghost_after w g s).won t ≡ g.won t
  won_held t held = ⊎_elim (λ e. put_same g.won s.after.term (won_after w g s) t e ∙ ⊎_elim (λ (leading : s.leads ≡ true). rw (leading, ← e, ne_eqb (g.leader t) 0 held) refl) (λ (leading : s.leads ≡ false). rw (leading, e) refl) (cases_Bool s.leads)) (won_ne t) (cases_eq t s.after.term)

  -- A leader's log has what it had, or what the step left.
  pub made_cases : (t : ℕ) → ((ghost_after w g s).made t ≡ g.made t) ⊎ ((ghost_after w g s).made t ≡ s.after.log)
  made_cases t = ⊎_elim
      (λ (same : t ≡ s.after.term). ⊎_elim (λ (leads : s.leads ≡ true). inr (made_in t leads same)) (λ (not : s.leads ≡ false). inl (made_out t not)) (cases_Bool s.leads))
      (λ ne. inl (made_ne t ne))
      (cases_eq t s.after.term)
