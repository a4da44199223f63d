-- A record in a fixed array.
use Rattle.std.proofs.Common.{◌≡◌, ◌≤◌, ◌<◌, ◌+◌, ◌++◌, ℕ, zero, suc, List, [], ◌∷◌, length, get_or, take, drop, replicate, refl, sym, ◌∙◌, ap, arith, append_assoc, length-append}
use Rattle.std.proofs.lemmas.Grind.{common_steps}
use Rattle.std.proofs.lemmas.List.{take_at, drop_more}
use Rattle.cp_disk.specs.Images.{written}

pub zeros_at : (n place : ℕ) → get_or (replicate {A = ℕ} n 0) place 0 ≡ 0
zeros_at zero place = refl
zeros_at (suc n) zero = refl
zeros_at (suc n) (suc place) = zeros_at n place

front : (head zeros : List ℕ) → length head ≡ 4 → take 4 (written zeros 0 head) ≡ head
front head zeros is = ap (take 4) (append_assoc [] head (drop (0 + length head) zeros)) ∙ take_at head (drop (0 + length head) zeros) 4 is

long : (head zeros : List ℕ) → length head ≡ 4 → length zeros ≡ 69 → length (written zeros 0 head) ≡ 69
long head zeros is size = grind (arith, common_steps)

behind : (head zeros : List ℕ) (place : ℕ) → length head ≡ 4 → length zeros ≡ 69 → 4 ≤ place → place < 69 → get_or (written zeros 0 head) place 0 ≡ get_or zeros place 0
behind head zeros place is size after within = grind (arith, common_steps)

pub laid : (head body zeros first second : List ℕ) → length head ≡ 4 → length body ≤ 64 → length zeros ≡ 69 → ((place : ℕ) → get_or zeros place 0 ≡ 0) → first ≡ written zeros 0 head → second ≡ written first 4 body
    → take (length body + 5) second ≡ head ++ body ++ 0 ∷ []
laid head body zeros first second is fits size blank first_is second_is =
    let n : ℕ = length body in
    let size_first : length first ≡ 69 = ap length first_is ∙ long head zeros is size in
    let start : take 4 first ≡ head = ap (take 4) first_is ∙ front head zeros is in
    let byte : get_or first (4 + n) 0 ≡ 0 = ap (λ (l : List ℕ). get_or l (4 + n) 0) first_is ∙ behind head zeros (4 + n) is size (omega arith) (omega arith) ∙ blank (4 + n) in
    let end : drop (4 + n) first ≡ 0 ∷ drop (4 + n + 1) first = drop_more first (4 + n) 0 (omega arith) ∙ ap (λ (b : ℕ). b ∷ drop (4 + n + 1) first) byte in
    let whole : second ≡ (head ++ body ++ 0 ∷ []) ++ drop (4 + n + 1) first =
    second_is ∙ ap (λ (l : List ℕ). (l ++ body) ++ drop (4 + n) first) start ∙ ap (λ (l : List ℕ). (head ++ body) ++ l) end ∙ sym (append_assoc (head ++ body) (0 ∷ []) (drop (4 + n + 1) first)) in
    ap (take (n + 5)) whole ∙ take_at (head ++ body ++ 0 ∷ []) (drop (4 + n + 1) first) (n + 5) (omega (arith, is, length-append (head ++ body) (0 ∷ []), length-append head body))
