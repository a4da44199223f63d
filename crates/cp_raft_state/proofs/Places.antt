-- A list that is changed place by place.
use Rattle.std.proofs.Common.{◌≡◌, ℕ, zero, suc, ◌+◌, List, [], ◌∷◌, ◌++◌, map, take, drop, refl, ap, sym, ◌∙◌, arith, slice_set, slice_index_or}

-- with one place more changed
more : {A : Type 0} (f : A → A) (xs : List A) (k : ℕ) (d : A)
    → slice_set (map f (take k xs) ++ drop k xs) k (f (slice_index_or (map f (take k xs) ++ drop k xs) k d)) ≡ map f (take (suc k) xs) ++ drop (suc k) xs
more f [] zero d = refl
more f [] (suc k) d = refl
more f (y ∷ xs) zero d = refl
more f (y ∷ xs) (suc k) d = ap (λ zs. f y ∷ zs) (more f xs k d)

pub one_more : {A : Type 0} (f : A → A) (xs ys : List A) (k : ℕ) (d : A) → ys ≡ map f (take k xs) ++ drop k xs
    → slice_set ys k (f (slice_index_or ys k d)) ≡ map f (take (k + 1) xs) ++ drop (k + 1) xs
one_more f xs ys k d same =
    let here : k + 1 ≡ suc k = omega arith in
    ap (λ zs. slice_set zs k (f (slice_index_or zs k d))) same ∙ more f xs k d ∙ ap (λ (n : ℕ). map f (take n xs) ++ drop n xs) (sym here)
