-- The fields of bytes. Each fails at its first byte.
use Rattle.std.specs.Prelude.{ℕ, ◌≤◌, ◌-◌, ◌^◌, Bool, cond, List, [], ◌∷◌, ◌++◌, length, take, drop, Option, Some, None, Result, Ok, Err, nat_lt, nat_le, ◌==◌, ℤ}
use Rattle.std.specs.Int.{Width, w32, w64, byte_len, from_be_bytes}
use Rattle.std.proofs.Common.{to_z, of_z}
use Rattle.cp_codec.specs.Fields.{big_endian}
use Rattle.cp_grammar.specs.Grammar.{Read, ◌>>=◌, Grammar, tokens, always, one_field, checked, keyed, mapped, variant, case, no_case}

-- one byte of at most `most`
abbrev pub byte_reading : ℕ → List ℕ → Read ℕ ℕ
byte_reading most [] = Err 0
byte_reading most (b ∷ bytes) = cond (nat_lt most b) (Err (length (b ∷ bytes))) (Ok (b, bytes))

abbrev pub byte : ℕ → Grammar ℕ ℕ
byte most = record {
  spelling = λ n. n ∷ [];
  Fits = λ n. n ≤ most;
  reading = byte_reading most;
}

-- this very byte, and then a value
unfoldable pub mark_reading : ℕ → List ℕ → Result (List ℕ) ℕ
mark_reading b [] = Err 0
mark_reading b (c ∷ bytes) = cond (c == b) (Ok bytes) (Err (length (c ∷ bytes)))

abbrev pub marked : {A : Type 0} → ℕ → Grammar ℕ A → Grammar ℕ A
marked b g = record {
  spelling = λ x. b ∷ g.spelling x;
  Fits = g.Fits;
  reading = λ bytes. mark_reading b bytes >>= λ rest. g.reading rest;
}

-- a number of a stated width, of at most `most`
unfoldable pub number_reading : Width → ℕ → List ℕ → Read ℕ ℕ
number_reading w most bytes = cond (nat_lt (length bytes) (byte_len w)) (Err (length bytes))
    (cond (nat_lt most (from_be_bytes w (take (byte_len w) bytes))) (Err (length bytes)) (Ok (from_be_bytes w (take (byte_len w) bytes), drop (byte_len w) bytes)))

abbrev pub number : Width → ℕ → Grammar ℕ ℕ
number w most = record {
  spelling = big_endian w;
  Fits = λ n. n ≤ most;
  reading = number_reading w most;
}

-- a number that is not below `least`
abbrev pub at_least : ℕ → Grammar ℕ ℕ → Grammar ℕ ℕ
at_least least g = checked g (λ n. nat_le least n)

-- a number of 64 bits with a sign, in two's complement
unfoldable pub signed : Grammar ℕ ℤ
signed = mapped (to_z w64) (of_z w64) (number w64 (2 ^ 64 - 1))

-- 0 for false, and 1 for true
unfoldable pub flag : Grammar ℕ Bool
flag = mapped (λ n. n == 1) (λ b. cond b 1 0) (byte 1)

-- a length of at most `most` in 32 bits, and so many bytes: one field
unfoldable pub bytes_reading : ℕ → List ℕ → Read ℕ (List ℕ)
bytes_reading most bytes = (one_field (keyed length (number w32 most) tokens)).reading bytes

abbrev pub bytes : ℕ → Grammar ℕ (List ℕ)
bytes most = record {
  spelling = λ xs. big_endian w32 (length xs) ++ xs;
  Fits = λ xs. length xs ≤ most;
  reading = bytes_reading most;
}

-- flag 0, or flag 1 and the value
abbrev pub has : {A : Type 0} → Option A → ℕ
has None = 0
has (Some x) = 1

abbrev pub optional : {A : Type 0} → Grammar ℕ A → Grammar ℕ (Option A)
optional g = keyed has (byte 1) (case 0 (always None) (case 1 (variant Some (λ o. o) g) no_case))
