-- A row under a number after a change of the rows.
use Rattle.std.proofs.Common.{◌≡◌, ℕ, ◌⊎◌, inl, inr, true, false, List, None, refl, sym, ap, ◌∙◌, subst}
use Rattle.std.specs.Prelude.{is_some}
use Rattle.std.specs.declared.cmp.Ordering.{Ordering}
use Rattle.std.specs.declared.cmp.Ordering.TheVariants.{Less, Equal, Greater}
use Rattle.std.specs.Ordering.{is_eq, nat_cmp}
use Rattle.std.specs.BTreeMap.{is_at}
use Rattle.std.proofs.lemmas.Cmp.{nat_cmp_total}
use Rattle.cp_group_state.specs.Rows.{find, put, without}
use Rattle.cp_group_state.specs.Invariants.{IsRising}
use Rattle.cp_base.proofs.Tests.{no_true}
use Rattle.cp_group_state.proofs.Keyed.{number_key, find-put_other, find-without_other}
use Rattle.cp_group_state.proofs.Rising.{find-without_same}

pub same-or : (q k : ℕ) → (q ≡ k) ⊎ (is_at (nat_cmp q) k ≡ false)
same-or q k = by (nat_cmp q k) refl where
  by : (o : Ordering) → nat_cmp q k ≡ o → (q ≡ k) ⊎ (is_eq o ≡ false)
  by Equal h = inl (number_key.same q k h)
  by Less h = inr refl
  by Greater h = inr refl

-- a row that is there isn't none
pub not_both : {X : Type 0} (rows : List (ℕ × X)) (n : ℕ) → is_some (find nat_cmp rows n) ≡ true → find nat_cmp rows n ≡ None → ⊥
not_both rows n there none = no_true (sym there ∙ ap is_some none)

pub put-there : {X : Type 0} (rows : List (ℕ × X)) (k q : ℕ) (x : X) → is_some (find nat_cmp (put nat_cmp rows k x) q) ≡ true → (q ≡ k) ⊎ (is_some (find nat_cmp rows q) ≡ true)
put-there rows k q x h = by (same-or q k) where
  by : (q ≡ k) ⊎ (is_at (nat_cmp q) k ≡ false) → (q ≡ k) ⊎ (is_some (find nat_cmp rows q) ≡ true)
  by (inl same) = inl same
  by (inr apart) = inr (ap is_some (sym (find-put_other nat_cmp number_key rows k q x apart)) ∙ h)

pub without-there : {X : Type 0} (rows : List (ℕ × X)) (k q : ℕ) → IsRising nat_cmp rows → is_some (find nat_cmp (without nat_cmp rows k) q) ≡ true → is_some (find nat_cmp rows q) ≡ true
without-there rows k q rising h = by (same-or q k) where
  by : (q ≡ k) ⊎ (is_at (nat_cmp q) k ≡ false) → is_some (find nat_cmp rows q) ≡ true
  by (inl same) = absurd (not_both (without nat_cmp rows k) q h (subst (λ (n : ℕ). find nat_cmp (without nat_cmp rows k) n ≡ None) (sym same) (find-without_same nat_cmp number_key nat_cmp_total rows k rising)))
  by (inr apart) = ap is_some (sym (find-without_other nat_cmp number_key rows k q apart)) ∙ h

pub without-none : {X : Type 0} (rows : List (ℕ × X)) (k q : ℕ) → IsRising nat_cmp rows → (is_at (nat_cmp q) k ≡ false → find nat_cmp rows q ≡ None) → find nat_cmp (without nat_cmp rows k) q ≡ None
without-none rows k q rising h = by (same-or q k) where
  by : (q ≡ k) ⊎ (is_at (nat_cmp q) k ≡ false) → find nat_cmp (without nat_cmp rows k) q ≡ None
  by (inl same) = subst (λ (n : ℕ). find nat_cmp (without nat_cmp rows k) n ≡ None) (sym same) (find-without_same nat_cmp number_key nat_cmp_total rows k rising)
  by (inr apart) = find-without_other nat_cmp number_key rows k q apart ∙ h apart

-- under another number nothing changed
pub put-none : {X : Type 0} (rows : List (ℕ × X)) (k q : ℕ) (x : X) → (q ≡ k → ⊥) → find nat_cmp rows q ≡ None → find nat_cmp (put nat_cmp rows k x) q ≡ None
put-none rows k q x far h = by (same-or q k) where
  by : (q ≡ k) ⊎ (is_at (nat_cmp q) k ≡ false) → find nat_cmp (put nat_cmp rows k x) q ≡ None
  by (inl same) = absurd (far same)
  by (inr apart) = find-put_other nat_cmp number_key rows k q x apart ∙ h
