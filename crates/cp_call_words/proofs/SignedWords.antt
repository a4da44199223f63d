-- Which words are the text of a number with a sign.
use Rattle.std.proofs.Common.{◌≡◌, ◌<◌, ◌^◌, ℕ, zero, suc, true, false, eqb, List, [], ◌∷◌, get_or, refl, sym, ap, ◌∙◌, arith}
use Rattle.std.specs.Prelude.{ℤ, pos, negsuc, FitsSigned, Option, Some, None, MatchOption}
use Rattle.std.specs.Int.{w64}
use Rattle.std.specs.Fmt.{decimal, signed_decimal}
use Rattle.std.specs.Str.Parse.{digits_value, signed_digits_value}
use Rattle.std.proofs.lemmas.Fmt.{decimal_is_IsNumeral, decimal_digit, first_decimal}
use Rattle.std.proofs.lemmas.Bool.{eq-eqb, and_parts, false_from_ne_true}
use Rattle.std.proofs.lemmas.Bool.Decides.{nat_tests}
use Rattle.cp_base.specs.Decimals.{ReadsSigned}
use Rattle.cp_grammar.specs.Words.{same_bytes}
use Rattle.cp_grammar.specs.WordLaws.{exact_bytes}
use Rattle.cp_call_words.specs.Values.{is_own_text, is_long}

pub same_self : (xs : List ℕ) → same_bytes xs xs ≡ true
same_self [] = refl
same_self (x ∷ xs) = rw (eq-eqb x x refl, same_self xs) refl

long_fits : (z : ℤ) → is_long z ≡ true → FitsSigned w64 z
long_fits (pos n) e = grind (arith, nat_tests)
long_fits (negsuc n) e = grind (arith, nat_tests)

fits_long : (z : ℤ) → FitsSigned w64 z → is_long z ≡ true
fits_long (pos n) fits = grind (arith, nat_tests, fits)
fits_long (negsuc n) fits = grind (arith, nat_tests, fits)

no_sign : (n first : ℕ) → n < 2 ^ 64 → first ≡ get_or (decimal n) 0 0 → (eqb first 45 ≡ false) × (eqb first 43 ≡ false)
no_sign zero first small e =
    let one : decimal 0 ≡ 48 ∷ [] = decimal_digit 0 (omega arith) in
    let is : first ≡ 48 = e ∙ ap (λ (xs : List ℕ). get_or xs 0 0) one in
    rw is (refl, refl)
no_sign (suc n) first small e = let above = first_decimal (suc n) (omega arith) small in (grind (arith, nat_tests), grind (arith, nat_tests))

-- a number's text is read as that number
value_back : (z : ℤ) → FitsSigned w64 z → signed_digits_value 10 (signed_decimal z) ≡ z
value_back (pos n) fits =
    let small : n < 2 ^ 64 = omega (arith, fits) in
    let back : digits_value 10 (decimal n) ≡ n = (decimal_is_IsNumeral n small).1 in
    let sign = no_sign n (get_or (decimal n) 0 0) small refl in
    rw (sign.0, sign.1) (ap pos back)
value_back (negsuc n) fits =
    let back : digits_value 10 (decimal (suc n)) ≡ suc n = (decimal_is_IsNumeral (suc n) (omega (arith, fits))).1 in
    rw back refl

pub is_text : (word : List ℕ) (number : ℤ) → FitsSigned w64 number → word ≡ signed_decimal number
    → (is_own_text signed_decimal (signed_digits_value 10) is_long word ≡ true) × (number ≡ signed_digits_value 10 word)
is_text word number fits e =
    let back = value_back number fits in
    rw e (rw (back, same_self (signed_decimal number), fits_long number fits) refl, sym back)

pub no_text : (word : List ℕ) → ((number : ℤ) → FitsSigned w64 number → word ≡ signed_decimal number → ⊥) → is_own_text signed_decimal (signed_digits_value 10) is_long word ≡ false
no_text word never =
    false_from_ne_true _ (λ own.
    let parts = and_parts (same_bytes word (signed_decimal (signed_digits_value 10 word))) (is_long (signed_digits_value 10 word)) own in
    never (signed_digits_value 10 word) (long_fits (signed_digits_value 10 word) parts.1) (exact_bytes word (signed_decimal (signed_digits_value 10 word)) parts.0))

-- what a reader of numbers with a sign tells
pub reads : (word : List ℕ) (read : Option ℤ) → ReadsSigned word read → MatchOption read
    (is_own_text signed_decimal (signed_digits_value 10) is_long word ≡ false)
    (λ number. (is_own_text signed_decimal (signed_digits_value 10) is_long word ≡ true) × (number ≡ signed_digits_value 10 word))
reads word None never = no_text word never
reads word (Some number) own = is_text word number own.0 own.1
