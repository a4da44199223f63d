-- Parts of lists.
use Rattle.std.proofs.Common.{◌≡◌, ◌≤◌, ◌<◌, ◌+◌, ◌++◌, ℕ, List, length, get_or, take, drop, sym, ◌∙◌, ap, arith, append_assoc}
use Rattle.std.proofs.lemmas.Grind.{common_steps, same_number_lists}
use Rattle.std.proofs.lemmas.List.{take_at, drop_at}

part_at : (n p k : ℕ) (xs : List ℕ) → k < n → get_or (take n (drop p xs)) k 0 ≡ get_or xs (p + k) 0
part_at n p k xs below = grind (arith, common_steps)

part_length : (n p : ℕ) (xs : List ℕ) → p + n ≤ length xs → length (take n (drop p xs)) ≡ n
part_length n p xs within = grind (arith, common_steps)

-- a part is told by its bytes
pub same_part : (n p : ℕ) (xs ys : List ℕ) → ((k : ℕ) → k < n → get_or xs (p + k) 0 ≡ get_or ys (p + k) 0) → p + n ≤ length xs → p + n ≤ length ys
    → take n (drop p xs) ≡ take n (drop p ys)
same_part n p xs ys same within_xs within_ys =
    same_number_lists (take n (drop p xs)) (take n (drop p ys)) (part_length n p xs within_xs ∙ sym (part_length n p ys within_ys))
    (λ k below.
    let less : k < n = omega (arith, part_length n p xs within_xs) in
    part_at n p k xs less ∙ same k less ∙ sym (part_at n p k ys less))

-- a part of what stands in the middle
pub middle : (front part back : List ℕ) (p n : ℕ) → p ≡ length front → n ≡ length part → take n (drop p (front ++ part ++ back)) ≡ part
middle front part back p n is_p is_n =
    ap (λ (xs : List ℕ). take n (drop p xs)) (append_assoc front part back) ∙ ap (take n) (drop_at front (part ++ back) p (sym is_p)) ∙ take_at part back n (sym is_n)
