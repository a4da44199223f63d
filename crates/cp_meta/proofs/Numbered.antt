-- Members and groups at first.
use Rattle.std.proofs.Common.{◌≡◌, ℕ, suc, ◌+◌, ◌-◌, ◌<◌, ◌≤◌, List, [], ◌∷◌, ◌++◌, map, refl, ap, sym, ◌∙◌, subst, append_assoc, arith}
use Rattle.std.specs.Ordering.{nat_cmp}
use Rattle.std.specs.List.Sorted.{IsStrictlySortedBy}
use Rattle.std.proofs.lemmas.List.{append-nil}
use Rattle.cp_group_state.specs.Invariants.{IsRising}
use Rattle.cp_meta_state.specs.declared.rows.Standing.TheVariants.{Active}
use Rattle.cp_meta_state.specs.declared.rows.GroupRow.{GroupRow}
use Rattle.cp_meta_state.specs.MetaState.{Standings, Groups, numbers}
use Rattle.cp_meta_state.proofs.Ordered.{numbers_rise}

next_numbers : (k n : ℕ) → k < n → numbers (n - k) (k + 1) ≡ (k + 1) ∷ numbers (n - (k + 1)) (k + 1 + 1)
next_numbers k n less = let more : n - k ≡ suc (n - (k + 1)) = omega (arith, less) in ap (λ (j : ℕ). numbers j (k + 1)) more

no_numbers : (k n : ℕ) → n ≤ k → numbers (n - k) (k + 1) ≡ []
no_numbers k n le = let none : n - k ≡ 0 = omega (arith, le) in ap (λ (j : ℕ). numbers j (k + 1)) none

pub number_more : (k n : ℕ) (members next total : List ℕ) → k < n → next ≡ members ++ (k + 1) ∷ [] → members ++ numbers (n - k) (k + 1) ≡ total → next ++ numbers (n - (k + 1)) (k + 1 + 1) ≡ total
number_more k n members next total less push so_far =
    ap (λ (r : List ℕ). r ++ numbers (n - (k + 1)) (k + 1 + 1)) push
    ∙ append_assoc members ((k + 1) ∷ []) (numbers (n - (k + 1)) (k + 1 + 1))
    ∙ ap (λ (r : List ℕ). members ++ r) (sym (next_numbers k n less))
    ∙ so_far

pub numbers_there : (k n : ℕ) (members total : List ℕ) → n ≤ k → members ++ numbers (n - k) (k + 1) ≡ total → members ≡ total
numbers_there k n members total le so_far = sym (append-nil members) ∙ ap (λ (r : List ℕ). members ++ r) (sym (no_numbers k n le)) ∙ so_far

abbrev each_active : List ℕ → Standings
each_active ms = map (λ m. (m, Active)) ms

pub one_more : (k n : ℕ) (rows next total : Standings) → k < n → next ≡ rows ++ (k + 1, Active) ∷ [] → rows ++ map (λ m. (m, Active)) (numbers (n - k) (k + 1)) ≡ total → next ++ map (λ m. (m, Active)) (numbers (n - (k + 1)) (k + 1 + 1)) ≡ total
one_more k n rows next total less push so_far =
    ap (λ (r : Standings). r ++ each_active (numbers (n - (k + 1)) (k + 1 + 1))) push
    ∙ append_assoc rows ((k + 1, Active) ∷ []) (each_active (numbers (n - (k + 1)) (k + 1 + 1)))
    ∙ ap (λ (r : List ℕ). rows ++ each_active r) (sym (next_numbers k n less))
    ∙ so_far

pub all_there : (k n : ℕ) (rows total : Standings) → n ≤ k → rows ++ map (λ m. (m, Active)) (numbers (n - k) (k + 1)) ≡ total → rows ≡ total
all_there k n rows total le so_far = sym (append-nil rows) ∙ ap (λ (r : List ℕ). rows ++ each_active r) (sym (no_numbers k n le)) ∙ so_far

pub members_rise : (n : ℕ) (rows : Standings) → rows ≡ map (λ m. (m, Active)) (numbers n 1) → IsRising nat_cmp rows
members_rise n rows is = subst (λ (r : Standings). IsRising nat_cmp r) (sym is) (numbers_rise n 1)

pub two_rise : (a b : GroupRow) (rows : Groups) → rows ≡ (0, a) ∷ (1, b) ∷ [] → IsRising nat_cmp rows
unfolding IsStrictlySortedBy
two_rise a b rows is = let rising : IsRising nat_cmp ((0, a) ∷ (1, b) ∷ []) = ((refl, tt), (tt, tt)) in subst (λ (r : Groups). IsRising nat_cmp r) (sym is) rising
