-- The first of a list that passes a test, by its place.
use Rattle.std.proofs.Common.{◌≡◌, ℕ, suc, ◌<◌, ◌≤◌, List, ◌++◌, length, cond, ap, ap₂, ◌∙◌, arith, subst, Bool, true, false, refl, Option, Some, None, nat_lt, ltb-true, ltb-false}
use Rattle.std.specs.List.{find, position, position_or_len, remove, slice_get}
use Rattle.std.proofs.lemmas.List.{append-nil, drop_all, take_all}
use Rattle.std.proofs.lemmas.List.Folds.{find_at}
use Rattle.std.proofs.lemmas.Option.{same_Some, slice_get_past, slice_get_read}
use Rattle.std.specs.Prelude.{slice_index_or}
use Rattle.cp_read.specs.Looks.{without_first}

placed : {A : Type 0} (test : A → Bool) (xs : List A) (b : Bool) (n : ℕ) (o : Option ℕ) → cond b (Some n) None ≡ o → ((i : ℕ) → o ≡ Some i → (b ≡ true) × (n ≡ i)) × (o ≡ None → b ≡ false)
placed test xs true n o is = (λ i some. (refl, same_Some n i (is ∙ some)), λ none. absurd (let z : Some n ≡ None = is ∙ none in cc))
placed test xs false n o is = (λ i some. absurd (let z : None ≡ Some i = is ∙ some in cc), λ none. refl)

-- none passes
pub none_there : {A : Type 0} (test : A → Bool) (xs : List A) → position test xs ≡ None → (find test xs ≡ None) × (without_first test xs ≡ xs)
none_there test xs none =
    let n = position_or_len test xs in
    let past : length xs ≤ n = ltb-false n (length xs) ((placed test xs (nat_lt n (length xs)) n None none).1 refl) in
    (find_at test xs ∙ slice_get_past xs n past, ap₂ (λ a b. a ++ b) (take_all n xs past) (drop_all (suc n) xs (omega (arith, past))) ∙ append-nil xs)

-- the one at this place
pub found_there : {A : Type 0} (test : A → Bool) (xs : List A) (i : ℕ) (x : A) → position test xs ≡ Some i → x ≡ slice_index_or xs i x → (find test xs ≡ Some x) × (without_first test xs ≡ remove xs i)
found_there test xs i x is same =
    let n = position_or_len test xs in
    let z = (placed test xs (nat_lt n (length xs)) n (Some i) is).0 i refl in
    let at : n ≡ i = z.1 in
    let within : i < length xs = subst (λ (k : ℕ). k < length xs) at (ltb-true n (length xs) z.0) in
    (find_at test xs ∙ ap (slice_get xs) at ∙ slice_get_read xs (length xs) i x refl within same, ap (remove xs) at)
