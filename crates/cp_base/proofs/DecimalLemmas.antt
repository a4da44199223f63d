-- Which numbers bytes are the decimal of, by what std's readers of text answer.
use Rattle.std.proofs.Common.{◌≡◌, ◌≢◌, ℕ, ◌<◌, ◌≤◌, ◌^◌, true, false, List, Result, Ok, sym, ap, subst, ◌∙◌, arith}
use Rattle.std.specs.Fmt.{decimal, signed_decimal}
use Rattle.std.specs.Prelude.{ℤ, FitsSigned, bytes_eq}
use Rattle.std.specs.Int.{w64}
use Rattle.std.specs.Str.{IsUtf8}
use Rattle.std.specs.Str.Parse.{ParsesUnsigned, ParsesSigned}
use Rattle.std.proofs.lemmas.Fmt.{parse-decimal, parse-signed_decimal, IsAscii-decimal, IsAscii-signed}
use Rattle.std.proofs.lemmas.Str.{IsUtf8-from_ascii}
use Rattle.std.proofs.lemmas.Slice.Eq.{bytes_eq-Decides}

-- bytes that are no text are no decimal
pub no_text : (bytes : List ℕ) → (IsUtf8 bytes → ⊥) → (number : ℕ) → number < 2 ^ 63 → bytes ≢ decimal number
no_text bytes never number small same =
    never (subst IsUtf8 (sym same) (IsUtf8-from_ascii (decimal number) (IsAscii-decimal number (omega arith))))

pub no_signed_text : (bytes : List ℕ) → (IsUtf8 bytes → ⊥) → (number : ℤ) → FitsSigned w64 number → bytes ≢ signed_decimal number
no_signed_text bytes never number fits same =
    never (subst IsUtf8 (sym same) (IsUtf8-from_ascii (signed_decimal number) (IsAscii-signed number (omega (arith, fits)))))

-- what a reader answers for the decimal of a number
pub parsed : {E : Type 0} (bytes text : List ℕ) (answer : Result ℕ E) → text ≡ bytes → ParsesUnsigned 64 10 text answer
    → (number : ℕ) → number < 2 ^ 63 → bytes ≡ decimal number → answer ≡ Ok number
parsed bytes text answer same parses number small is =
    parse-decimal 64 number text answer (omega arith) (omega arith) (same ∙ is) parses

pub parsed_signed : {E : Type 0} (bytes text : List ℕ) (answer : Result ℤ E) → text ≡ bytes → ParsesSigned w64 10 text answer
    → (number : ℤ) → FitsSigned w64 number → bytes ≡ signed_decimal number → answer ≡ Ok number
parsed_signed bytes text answer same parses number fits is =
    parse-signed_decimal w64 number text answer fits (omega (arith, fits)) (same ∙ is) parses

-- bytes at which the reader fails
pub no_number : {E : Type 0} (bytes text : List ℕ) (answer : Result ℕ E) → text ≡ bytes → ParsesUnsigned 64 10 text answer
    → ((n : ℕ) → answer ≡ Ok n → ⊥) → (number : ℕ) → number < 2 ^ 63 → bytes ≢ decimal number
no_number bytes text answer same parses fails number small is = fails number (parsed bytes text answer same parses number small is)

pub no_signed_number : {E : Type 0} (bytes text : List ℕ) (answer : Result ℤ E) → text ≡ bytes → ParsesSigned w64 10 text answer
    → ((z : ℤ) → answer ≡ Ok z → ⊥) → (number : ℤ) → FitsSigned w64 number → bytes ≢ signed_decimal number
no_signed_number bytes text answer same parses fails number fits is = fails number (parsed_signed bytes text answer same parses number fits is)

-- bytes that it reads as a number past the bound
pub too_large : {E : Type 0} (bytes text : List ℕ) (answer : Result ℕ E) → text ≡ bytes → ParsesUnsigned 64 10 text answer
    → (read : ℕ) → answer ≡ Ok read → 2 ^ 63 ≤ read → (number : ℕ) → number < 2 ^ 63 → bytes ≢ decimal number
too_large bytes text answer same parses read answers large number small is =
    let gives = parsed bytes text answer same parses number small is in
    let equal : read ≡ number = cc in
    omega arith

-- bytes that differ from the decimal of the number that it reads
pub another : {E : Type 0} (bytes text : List ℕ) (answer : Result ℕ E) → text ≡ bytes → ParsesUnsigned 64 10 text answer
    → (read : ℕ) → answer ≡ Ok read → bytes_eq (decimal read) bytes ≡ false
    → (number : ℕ) → number < 2 ^ 63 → bytes ≢ decimal number
another bytes text answer same parses read answers differs number small is =
    let gives = parsed bytes text answer same parses number small is in
    let equal : read ≡ number = cc in
    let agrees : bytes_eq (decimal read) bytes ≡ true = (bytes_eq-Decides (decimal read) bytes).1 (ap decimal equal ∙ sym is) in
    cc

pub another_signed : {E : Type 0} (bytes text : List ℕ) (answer : Result ℤ E) → text ≡ bytes → ParsesSigned w64 10 text answer
    → (read : ℤ) → answer ≡ Ok read → bytes_eq (signed_decimal read) bytes ≡ false
    → (number : ℤ) → FitsSigned w64 number → bytes ≢ signed_decimal number
another_signed bytes text answer same parses read answers differs number fits is =
    let gives = parsed_signed bytes text answer same parses number fits is in
    let equal : read ≡ number = cc in
    let agrees : bytes_eq (signed_decimal read) bytes ≡ true = (bytes_eq-Decides (signed_decimal read) bytes).1 (ap signed_decimal equal ∙ sym is) in
    cc
