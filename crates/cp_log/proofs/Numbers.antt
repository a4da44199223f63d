-- A number taken away from a list of numbers of groups.
use Rattle.std.proofs.Common.{◌≡◌, ◌≤◌, ◌+◌, ℕ, suc, List, [], ◌∷◌, length, map, refl, sym, ◌∙◌, ap, arith}
use Rattle.std.specs.Prelude.{Bool, true, false, not, cond, Some, None, ◌==◌, nat_lt, position}
use Rattle.std.specs.Ordering.{nat_cmp}
use Rattle.std.specs.BTreeMap.{is_at}
use Rattle.std.specs.List.{position_or_len, remove}
use Rattle.std.specs.Set.{remove_key}
use Rattle.std.proofs.lemmas.Bool.Decides.{nat_tests}
use Rattle.std.proofs.lemmas.Grind.{common_steps}
use Rattle.cp_base.specs.declared.identifier.GroupId.{GroupId}

abbrev numbers_of : List GroupId → List ℕ
numbers_of groups = map (λ group. group.0) groups

same_test : (n k : ℕ) → is_at (nat_cmp n) k ≡ (k == n)
same_test n k = grind (arith, nat_tests)

gone_one : (is : Bool) (g : GroupId) (gs : List GroupId) (i next : ℕ) (p : List ℕ) → next ≡ suc i → p ≡ numbers_of (remove gs i) → cond is (numbers_of gs) (g.0 ∷ p) ≡ numbers_of (remove (g ∷ gs) (cond (not is) next 0))
gone_one true g gs i next p place rest = refl
gone_one false g gs i next p place rest = ap (λ (l : List ℕ). g.0 ∷ l) rest ∙ ap (λ (k : ℕ). numbers_of (remove (g ∷ gs) k)) (sym place)

-- where a number doesn't stand, its place is the end
gone : (n : ℕ) (gs : List GroupId) → remove_key (is_at (nat_cmp n)) (numbers_of gs) ≡ numbers_of (remove gs (position_or_len (λ g. g.0 == n) gs))
gone n [] = refl
gone n (g ∷ gs) =
    let at : ℕ = position_or_len (λ (h : GroupId). h.0 == n) gs in
    rw (same_test n g.0) (gone_one (g.0 == n) g gs at (1 + at) (remove_key (is_at (nat_cmp n)) (numbers_of gs)) (omega arith) (gone n gs))

placed : (is : Bool) (at i : ℕ) → cond is (Some at) None ≡ Some i → at ≡ i
placed true at i is = cc
placed false at i is = absurd cc

unplaced : (at size : ℕ) (is : Bool) → nat_lt at size ≡ is → cond is (Some at) None ≡ None → size ≤ at
unplaced at size true test is = absurd cc
unplaced at size false test is = grind (arith, nat_tests)

pub number_gone : (n i : ℕ) (gs : List GroupId) → position (λ g. g.0 == n) gs ≡ Some i → numbers_of (remove gs i) ≡ remove_key (is_at (nat_cmp n)) (numbers_of gs)
number_gone n i gs is = ap (λ (k : ℕ). numbers_of (remove gs k)) (sym (placed _ _ i is)) ∙ sym (gone n gs)

beyond : (gs : List GroupId) (k : ℕ) → length gs ≤ k → remove gs k ≡ gs
beyond gs k le = grind (arith, common_steps)

pub no_number : (n : ℕ) (gs : List GroupId) → position (λ g. g.0 == n) gs ≡ None → numbers_of gs ≡ remove_key (is_at (nat_cmp n)) (numbers_of gs)
no_number n gs is =
    let at : ℕ = position_or_len (λ (g : GroupId). g.0 == n) gs in
    sym (gone n gs ∙ ap numbers_of (beyond gs at (unplaced at (length gs) (nat_lt at (length gs)) refl is)))
