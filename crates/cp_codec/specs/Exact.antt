-- Each value of a field has one spelling, both ways.
use Rattle.std.specs.Prelude.{◌≡◌, ◌≤◌, ◌<◌, ◌^◌, ℕ, ℤ, Bool, List, ◌++◌, length, drop, Result, Ok, FitsSigned}
use Rattle.std.specs.List.{AllByRecursion}
use Rattle.std.specs.Int.{w8, w32, w64}
use Rattle.cp_codec.specs.Fields.{big_endian, number_field, signed_bytes, signed_field, flag_bytes, flag_field, counted_bytes, bytes_field}
use Rattle.cp_codec.specs.declared.error.FieldError.{FieldError}

abbrev pub IsByte : ℕ → Type 0
IsByte b = b < 256

-- again: what is spelled is read again, whatever follows.
-- takes: what is read is spelled so, before the place after it.
-- begins: no spelling begins another.
pub record IsExact {A : Type 0} (spelling : A → List ℕ) (Fits : A → Type 0) (field : List ℕ → Result (A × ℕ) FieldError) : Type 0 where
  pub again : (x : A) (rest : List ℕ) → Fits x → field (spelling x ++ rest) ≡ Ok (x, length (spelling x))
  pub takes : (bytes : List ℕ) (x : A) (place : ℕ) → AllByRecursion IsByte bytes → field bytes ≡ Ok (x, place) → (bytes ≡ spelling x ++ drop place bytes) × Fits x
  pub begins : (x y : A) (a b : List ℕ) → Fits x → Fits y → spelling x ++ a ≡ spelling y ++ b → (x ≡ y) × (a ≡ b)

pub record FieldsAreExact : Type 0 where
  pub u8 : (most : ℕ) → most < 2 ^ 8 → IsExact (big_endian w8) (λ n. n ≤ most) (number_field w8 most)
  pub u32 : (most : ℕ) → most < 2 ^ 32 → IsExact (big_endian w32) (λ n. n ≤ most) (number_field w32 most)
  pub u64 : (most : ℕ) → most < 2 ^ 64 → IsExact (big_endian w64) (λ n. n ≤ most) (number_field w64 most)
  pub i64 : IsExact signed_bytes (FitsSigned w64) signed_field
  pub flag : IsExact flag_bytes (λ b. Unit {0}) flag_field
  pub bytes : (most : ℕ) → most < 2 ^ 32 → IsExact counted_bytes (λ xs. length xs ≤ most) (bytes_field most)
