-- Going over bytes to the first end.
use Rattle.std.proofs.Common.{◌≡◌, ℕ, suc, ◌+◌, ◌<◌, ◌≤◌, true, false, List, [], ◌∷◌, ◌++◌, length, get_or, take, drop, refl, sym, ap, ◌∙◌, append_assoc, arith, add-one, drop-cons}
use Rattle.std.proofs.lemmas.List.{take_more, append-nil, drop_all}
use Rattle.cp_grammar.specs.Words.{is_end, before_end, from_end}

at_end : (b : ℕ) (bs : List ℕ) → is_end b ≡ true → (before_end (b ∷ bs) ≡ []) × (from_end (b ∷ bs) ≡ b ∷ bs)
unfolding before_end from_end
at_end b bs q = rw q (refl, refl)

past : (b : ℕ) (bs : List ℕ) → is_end b ≡ false → (before_end (b ∷ bs) ≡ b ∷ before_end bs) × (from_end (b ∷ bs) ≡ from_end bs)
unfolding before_end from_end
past b bs q = rw q (refl, refl)

pub record Passed (bs : List ℕ) (i : ℕ) : Type 0 where
  pub front : before_end bs ≡ take i bs ++ before_end (drop i bs)
  pub back : from_end bs ≡ from_end (drop i bs)

pub stops : (bs : List ℕ) (i : ℕ) → i < length bs → is_end (get_or bs i 0) ≡ true → Passed bs i → (before_end bs ≡ take i bs) × (from_end bs ≡ drop i bs)
stops bs i lt q p =
    let h = at_end (get_or bs i 0) (drop (suc i) bs) q in
    let d = drop-cons bs i 0 lt in
    (p.front ∙ ap (λ (x : List ℕ). take i bs ++ before_end x) d ∙ ap (λ (x : List ℕ). take i bs ++ x) h.0 ∙ append-nil (take i bs), p.back ∙ ap from_end d ∙ h.1 ∙ sym d)

pub goes : (bs : List ℕ) (i : ℕ) → i < length bs → is_end (get_or bs i 0) ≡ false → Passed bs i → Passed bs (i + 1)
goes bs i lt q p =
    let h = past (get_or bs i 0) (drop (suc i) bs) q in
    let d = drop-cons bs i 0 lt in
    record {
      front = p.front ∙ ap (λ (x : List ℕ). take i bs ++ before_end x) d ∙ ap (λ (x : List ℕ). take i bs ++ x) h.0 ∙ rw (take_more bs i 0 lt, append_assoc, add-one) refl;
      back = p.back ∙ ap from_end d ∙ h.1 ∙ rw add-one refl;
    }

pub whole : (bs : List ℕ) (i : ℕ) → length bs ≤ i → i ≤ length bs → Passed bs i → (before_end bs ≡ take (length bs) bs) × (from_end bs ≡ drop (length bs) bs)
unfolding before_end from_end
whole bs i ge le p =
    let none : drop i bs ≡ [] = drop_all i bs ge in
    let same : i ≡ length bs = omega arith in
    (p.front ∙ rw (none, same) (append-nil (take (length bs) bs)), p.back ∙ rw none (sym (drop_all (length bs) bs (omega arith))))
