-- Fields of bytes: how each is spelled, and what stands at the front of bytes, as the value and the place after it, or why there is none.
use Rattle.std.specs.Prelude.{ℕ, ℤ, ◌+◌, Bool, cond, List, [], ◌∷◌, ◌++◌, length, take, drop, Result, Ok, Err, nat_lt, ◌==◌}
use Rattle.std.specs.Int.{Width, w8, w32, w64, byte_len, from_be_bytes, to_be_bytes, cast_signed, cast_unsigned}
use Rattle.cp_codec.specs.declared.error.FieldError.{FieldError}
use Rattle.cp_codec.specs.declared.error.FieldError.TheVariants.{OutOfRange, Short}

-- a number of a stated width, the highest byte first
unfoldable pub big_endian : Width → ℕ → List ℕ
big_endian w n = to_be_bytes w n

-- the number that the first bytes spell
abbrev pub front_number : Width → List ℕ → ℕ
front_number w bytes = from_be_bytes w (take (byte_len w) bytes)

-- a number of at most `most`
unfoldable pub number_field : Width → ℕ → List ℕ → Result (ℕ × ℕ) FieldError
number_field w most bytes =
    cond (nat_lt (length bytes) (byte_len w)) (Err Short)
    (cond (nat_lt most (front_number w bytes)) (Err (OutOfRange (front_number w bytes))) (Ok (front_number w bytes, byte_len w)))

-- what is read, as another value
abbrev pub read_as : {A B : Type 0} → (A → B) → Result (A × ℕ) FieldError → Result (B × ℕ) FieldError
read_as f (Ok x) = Ok (f x.0, x.1)
read_as f (Err e) = Err e

-- a number with a sign, in two's complement; it has no bound
abbrev pub signed_bytes : ℤ → List ℕ
signed_bytes z = big_endian w64 (cast_unsigned w64 z)

abbrev pub signed_field : List ℕ → Result (ℤ × ℕ) FieldError
signed_field bytes = read_as (cast_signed w64) (number_field w64 18446744073709551615 bytes)

-- 0 for false, and 1 for true
abbrev pub flag_bytes : Bool → List ℕ
flag_bytes b = big_endian w8 (cond b 1 0)

abbrev pub flag_field : List ℕ → Result (Bool × ℕ) FieldError
flag_field bytes = read_as (λ n. n == 1) (number_field w8 1 bytes)

-- a length in 32 bits, and so many bytes
abbrev pub counted_bytes : List ℕ → List ℕ
counted_bytes xs = big_endian w32 (length xs) ++ xs

abbrev pub behind : List ℕ → Result (ℕ × ℕ) FieldError → Result (List ℕ × ℕ) FieldError
behind bytes (Err e) = Err e
behind bytes (Ok x) = cond (nat_lt (length (drop x.1 bytes)) x.0) (Err Short) (Ok (take x.0 (drop x.1 bytes), x.1 + x.0))

abbrev pub bytes_field : ℕ → List ℕ → Result (List ℕ × ℕ) FieldError
bytes_field most bytes = behind bytes (number_field w32 most bytes)
