-- How a member stands, by its row.
use Rattle.std.proofs.Common.{◌≡◌, ℕ, Bool, true, false, [], ◌∷◌, Some, None, refl, ap, sym, ◌∙◌, subst, cond, arith}
use Rattle.std.specs.Prelude.{◌==◌}
use Rattle.std.specs.declared.cmp.Ordering.{Ordering}
use Rattle.std.specs.declared.cmp.Ordering.TheVariants.{Less, Equal, Greater}
use Rattle.std.specs.Ordering.{is_eq, nat_cmp}
use Rattle.std.specs.List.{AllByRecursion}
use Rattle.std.specs.List as list
use Rattle.std.specs.List.Sorted.{IsStrictlySortedBy}
use Rattle.std.specs.Map.{keys_of}
use Rattle.std.proofs.lemmas.Cmp.{nat_cmp_total}
use Rattle.std.proofs.lemmas.Option.{none-some}
use Rattle.std.proofs.lemmas.Bool.Decides.{nat_tests}
use Rattle.cp_base.proofs.Tests.{same_some}
use Rattle.cp_group_state.specs.Rows.{find}
use Rattle.cp_group_state.specs.Invariants.{IsRising}
use Rattle.cp_group_state.proofs.Keyed.{number_key}
use Rattle.cp_group_state.proofs.Rising.{less-none, above-all}
use Rattle.cp_meta_state.specs.declared.rows.Standing.{Standing}
use Rattle.cp_meta_state.specs.MetaState.{Standings, is_in, those}

not_less : (m k : ℕ) → nat_cmp m k ≡ Less → (k == m) ≡ false
not_less m k h = grind (arith, nat_tests)

not_greater : (m k : ℕ) → nat_cmp m k ≡ Greater → (k == m) ≡ false
not_greater m k h = grind (arith, nat_tests)

same : (m k : ℕ) → nat_cmp m k ≡ Equal → (k == m) ≡ true
same m k h = grind (arith, nat_tests)

module _ (test : Standing → Bool) where
  other : (e : ℕ × Standing) (es : Standings) (m : ℕ) → (e.0 == m) ≡ false → is_in (those test (e ∷ es)) m ≡ is_in (those test es) m
  other e es m apart = by (test e.1) where
    by : (b : Bool) → is_in (keys_of (cond b (e ∷ list.filter (λ (f : ℕ × Standing). test f.1) es) (list.filter (λ (f : ℕ × Standing). test f.1) es))) m ≡ is_in (those test es) m
    by true = rw apart refl
    by false = refl

  none_in : (es : Standings) (m : ℕ) → AllByRecursion (λ y. nat_cmp m y ≡ Less) (keys_of es) → is_in (those test es) m ≡ false
  none_in [] m all = refl
  none_in (e ∷ es) m all = other e es m (not_less m e.0 all.0) ∙ none_in es m all.1

  here : (e : ℕ × Standing) (es : Standings) (m : ℕ) → (e.0 == m) ≡ true → is_in (those test es) m ≡ false → test e.1 ≡ is_in (those test (e ∷ es)) m
  here e es m at rest = by (test e.1) where
    by : (b : Bool) → b ≡ is_in (keys_of (cond b (e ∷ list.filter (λ (f : ℕ × Standing). test f.1) es) (list.filter (λ (f : ℕ × Standing). test f.1) es))) m
    by true = rw at refl
    by false = sym rest

  -- a member that has a row
  pub told : (rows : Standings) (m : ℕ) (how : Standing) → IsRising nat_cmp rows → find nat_cmp rows m ≡ Some how → test how ≡ is_in (those test rows) m
  unfolding IsStrictlySortedBy
  told [] m how rising is = absurd (none-some how is)
  told (e ∷ es) m how rising is = by (nat_cmp m e.0) refl is (told es m how rising.1) where
    by : (o : Ordering) → nat_cmp m e.0 ≡ o → cond (is_eq o) (Some e.1) (find nat_cmp es m) ≡ Some how → (find nat_cmp es m ≡ Some how → test how ≡ is_in (those test es) m) → test how ≡ is_in (those test (e ∷ es)) m
    by Less i is rest = absurd (none-some how (sym (less-none nat_cmp number_key nat_cmp_total m es (above-all nat_cmp number_key nat_cmp_total m e.0 es i rising.0)) ∙ is))
    by Equal i is rest = let key : m ≡ e.0 = number_key.same m e.0 i in
        ap test (sym (same_some is)) ∙ here e es m (same m e.0 i) (none_in es m (subst (λ (k : ℕ). AllByRecursion (λ y. nat_cmp k y ≡ Less) (keys_of es)) (sym key) rising.0))
    by Greater i is rest = rest is ∙ sym (other e es m (not_greater m e.0 i))

  -- one that has none
  pub untold : (rows : Standings) (m : ℕ) → find nat_cmp rows m ≡ None → false ≡ is_in (those test rows) m
  untold [] m is = refl
  untold (e ∷ es) m is = by (nat_cmp m e.0) refl is (untold es m) where
    by : (o : Ordering) → nat_cmp m e.0 ≡ o → cond (is_eq o) (Some e.1) (find nat_cmp es m) ≡ None → (find nat_cmp es m ≡ None → false ≡ is_in (those test es) m) → false ≡ is_in (those test (e ∷ es)) m
    by Less i is rest = rest is ∙ sym (other e es m (not_less m e.0 i))
    by Equal i is rest = absurd (none-some e.1 (sym is))
    by Greater i is rest = rest is ∙ sym (other e es m (not_greater m e.0 i))
