-- Which words are the text of bytes.
use Rattle.std.proofs.Common.{◌≡◌, arith, ℕ, true, false, eqb, List, [], ◌∷◌, Ok, Err, Result, refl, sym, ap, ◌∙◌}
use Rattle.std.proofs.lemmas.Bool.{false_from_ne_true}
use Rattle.hex.specs.Hex.{IsBytes, decode_of, encode_lower, encode_with}
use Rattle.hex.specs.declared.error.FromHexError.{FromHexError}
use Rattle.hex.proofs.HexLemmas.{decode_of-encode_lower, decode_of-ok}
use Rattle.cp_grammar.specs.Words.{same_bytes}
use Rattle.cp_grammar.specs.WordLaws.{exact_bytes}
use Rattle.cp_op_values.specs.Values.{hex_text}
use Rattle.cp_call_words.specs.Values.{decoded, hex_bytes}
use Rattle.cp_call_words.proofs.SignedWords.{same_self}

-- the digits of bytes are read as these bytes
pub is_text : (digits bytes : List ℕ) → IsBytes bytes → digits ≡ encode_lower bytes
    → (same_bytes (120 ∷ digits) (hex_text (hex_bytes (120 ∷ digits))) ≡ true) × (bytes ≡ hex_bytes (120 ∷ digits))
is_text digits bytes are e =
    let reads : decode_of digits ≡ Ok bytes = ap decode_of e ∙ decode_of-encode_lower bytes are in
    let back : hex_bytes (120 ∷ digits) ≡ bytes = ap decoded reads in
    let text : 120 ∷ digits ≡ hex_text (hex_bytes (120 ∷ digits)) = ap (λ (xs : List ℕ). 120 ∷ xs) (e ∙ ap encode_lower (sym back)) in
    (ap (λ (xs : List ℕ). same_bytes (120 ∷ digits) xs) (sym text) ∙ same_self (120 ∷ digits), sym back)

other_text : (digits : List ℕ) (read : Result (List ℕ) FromHexError) → decode_of digits ≡ read → ((bytes : List ℕ) → IsBytes bytes → digits ≡ encode_lower bytes → ⊥)
    → digits ≡ encode_lower (decoded read) → ⊥
unfolding encode_with
other_text digits (Ok bytes) was never e = never bytes (decode_of-ok digits bytes was).3 e
other_text digits (Err error) was never e = never [] (λ i. omega arith) e

-- what is no bytes' digits
pub no_text : (digits : List ℕ) → ((bytes : List ℕ) → IsBytes bytes → digits ≡ encode_lower bytes → ⊥)
    → same_bytes (120 ∷ digits) (hex_text (hex_bytes (120 ∷ digits))) ≡ false
no_text digits never =
    false_from_ne_true _ (λ same.
    let e : digits ≡ encode_lower (hex_bytes (120 ∷ digits)) = exact_bytes digits (encode_lower (hex_bytes (120 ∷ digits))) same in
    other_text digits (decode_of digits) refl never e)

-- what begins with another byte
pub no_front : (first : ℕ) (digits bytes : List ℕ) → eqb first 120 ≡ false → same_bytes (first ∷ digits) (hex_text bytes) ≡ false
no_front first digits bytes other = rw other refl
