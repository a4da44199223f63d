-- Words of one digit.
use Rattle.std.proofs.Common.{◌≡◌, ℕ, ◌+◌, ◌-◌, ◌≤◌, true, List, [], ◌∷◌, length, slice_index, refl, sym, ap, ◌∙◌, arith, eq-eqb}
use Rattle.std.specs.Fmt.{decimal}
use Rattle.std.specs.Str.Parse.{digits_value}
use Rattle.std.proofs.lemmas.Fmt.{decimal_digit}
use Rattle.cp_grammar.specs.Words.{is_decimal, same_bytes}
use Rattle.cp_grammar.specs.WordLaws.{written}

-- A digit is the decimal of its number.
digit : (d : ℕ) → 48 ≤ d → d ≤ 57 → (is_decimal (d ∷ []) ≡ true) × (d - 48 ≡ digits_value 10 (d ∷ []))
digit d low high =
    let back : d ≡ 48 + (d - 48) = omega (arith, low) in
    let text : d ∷ [] ≡ decimal (d - 48) = ap (λ (n : ℕ). n ∷ []) back ∙ sym (decimal_digit (d - 48) (omega (arith, low, high))) in
    let same : same_bytes (d ∷ []) (d ∷ []) ≡ true = rw (eq-eqb d d refl) refl in
    written (d ∷ []) (d ∷ []) (d - 48) (omega (arith, high)) text same

pub one_digit : (w : List ℕ) → length w ≡ 1 → 48 ≤ slice_index w 0 → slice_index w 0 ≤ 57 → (is_decimal w ≡ true) × (slice_index w 0 - 48 ≡ digits_value 10 w)
one_digit [] one low high = absurd (omega (arith, one))
one_digit (d ∷ []) one low high = digit d low high
one_digit (d ∷ e ∷ ds) one low high = absurd (omega (arith, one))
