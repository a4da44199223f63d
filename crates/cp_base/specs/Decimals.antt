-- Numbers as decimal text. A number's one spelling is the text that std prints of it.
use Rattle.std.specs.Prelude.{◌≡◌, ◌≢◌, ◌<◌, ◌^◌, ℕ, ℤ, List, Option, Some, None}
use Rattle.std.specs.Fmt.{decimal, signed_decimal}
use Rattle.std.specs.Prelude.{FitsSigned}
use Rattle.std.specs.Int.{w64}

-- What a reader of decimals gives: the number below 2^63 whose decimal the bytes are, else none.
abbrev pub ReadsDecimal : List ℕ → Option ℕ → Type 0
ReadsDecimal bytes (Some number) = (number < 2 ^ 63) × (bytes ≡ decimal number)
ReadsDecimal bytes None = (number : ℕ) → number < 2 ^ 63 → bytes ≢ decimal number

-- The same of numbers with a sign, of 64 bits.
abbrev pub ReadsSigned : List ℕ → Option ℤ → Type 0
ReadsSigned bytes (Some number) = FitsSigned w64 number × (bytes ≡ signed_decimal number)
ReadsSigned bytes None = (number : ℤ) → FitsSigned w64 number → bytes ≢ signed_decimal number
