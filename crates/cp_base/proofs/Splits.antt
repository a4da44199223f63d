-- A list at the first element that passes or fails a test.
use Rattle.std.proofs.Common.{◌≡◌, ◌<◌, ◌≤◌, ◌+◌, ◌-◌, ℕ, suc, Bool, true, false, not, nat_lt, ◌==◌, List, [], ◌∷◌, ◌++◌, length, take, drop, get_or, Some, None, cond, refl, subst, sym, ◌∙◌, arith, position, length-drop}
use Rattle.std.specs.List.{prefix_len, position_or_len, list_all}
use Rattle.std.proofs.lemmas.Bool.{eqb-true, ltb-true}
use Rattle.std.proofs.lemmas.Bool.Decides.{nat_tests}
use Rattle.std.proofs.lemmas.Grind.{common_steps}
use Rattle.std.proofs.lemmas.List.{take_all}
use Rattle.std.proofs.lemmas.List.Sums.{passes_at_first, split_at_first}
use Rattle.std.proofs.lemmas.Option.{cond_some}
use Rattle.cp_base.specs.Text.{Lacks}

-- where no element fails, all pass
all_pass : {X : Type 0} (p : X → Bool) (xs : List X) → length xs ≤ prefix_len p xs → list_all p xs ≡ true
all_pass p [] whole = refl
all_pass p (x ∷ xs) whole = grind (arith, common_steps, all_pass p xs)

front_step : {X : Type 0} (p : X → Bool) (x : X) (xs : List X) (passes : Bool) → p x ≡ passes → list_all p (take (prefix_len p xs) xs) ≡ true
    → list_all p (take (cond passes (1 + prefix_len p xs) 0) (x ∷ xs)) ≡ true
front_step p x xs true is rest = let more : 1 + prefix_len p xs ≡ suc (prefix_len p xs) = omega arith in rw (more, is, rest) refl
front_step p x xs false is rest = refl

-- those before the first that fails pass
front_passes : {X : Type 0} (p : X → Bool) (xs : List X) → list_all p (take (prefix_len p xs) xs) ≡ true
front_passes p [] = refl
front_passes p (x ∷ xs) = front_step p x xs (p x) refl (front_passes p xs)

not_below : (a b : ℕ) → cond (nat_lt a b) (Some a) None ≡ None → b ≤ a
not_below a b none = grind (arith, nat_tests)

not_not : (b : Bool) → not (not b) ≡ b
not_not true = refl
not_not false = refl

all_not_not : {X : Type 0} (p : X → Bool) (xs : List X) → list_all (λ x. not (not (p x))) xs ≡ list_all p xs
all_not_not p [] = refl
all_not_not p (x ∷ xs) = rw (not_not (p x), all_not_not p xs) refl

-- where there is no first that passes, all fail
all_fail : {X : Type 0} (p : X → Bool) (xs : List X) → position p xs ≡ None → list_all (λ x. not (p x)) xs ≡ true
all_fail p xs none = all_pass (λ x. not (p x)) xs (not_below (position_or_len p xs) (length xs) none)

-- where there is no first that fails, all pass
pub none_fails : {X : Type 0} (p : X → Bool) (xs : List X) → position (λ x. not (p x)) xs ≡ None → list_all p xs ≡ true
none_fails p xs none = sym (all_not_not p xs) ∙ all_fail (λ x. not (p x)) xs none

-- no such byte is there
pub unparted : (byte : ℕ) (text : List ℕ) → position (λ b. b == byte) text ≡ None → Lacks byte text
unparted byte text none = all_fail (λ b. b == byte) text none

-- what stands before the first such byte, and behind it
pub parted : (byte : ℕ) (text : List ℕ) (place : ℕ) → position (λ b. b == byte) text ≡ Some place
    → Lacks byte (take place text) × (text ≡ take place text ++ byte ∷ take (length text - (place + 1)) (drop (place + 1) text))
parted byte text place found =
    let test : ℕ → Bool = λ b. b == byte in
    let first = cond_some (nat_lt (position_or_len test text) (length text)) (position_or_len test text) place found in
    let below : position_or_len test text < length text = ltb-true _ _ first.0 in
    let front : Lacks byte (take (position_or_len test text) text) = front_passes (λ b. not (b == byte)) text in
    let it : get_or text (position_or_len test text) 0 ≡ byte = eqb-true _ _ (passes_at_first test text 0 below) in
    let halves : text ≡ take (position_or_len test text) text ++ get_or text (position_or_len test text) 0 ∷ drop (position_or_len test text + 1) text
    = split_at_first test text 0 below in
    let behind : take (length text - (position_or_len test text + 1)) (drop (position_or_len test text + 1) text) ≡ drop (position_or_len test text + 1) text
    = take_all _ _ (omega (arith, length-drop (position_or_len test text + 1) text)) in
    rw (← first.1) (front, rw behind (subst (λ (at : ℕ). text ≡ take (position_or_len test text) text ++ at ∷ drop (position_or_len test text + 1) text) it halves))
