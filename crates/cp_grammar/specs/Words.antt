-- The fields of text: words, each with the byte that ends it. Each fails at its first byte.
use Rattle.std.specs.Prelude.{◌-◌, ℕ, ◌≤◌, ◌+◌, Bool, true, false, cond, not, List, [], ◌∷◌, ◌++◌, length, take, Ok, Err, IsTrue, nat_le, ◌==◌, ◌&&◌, ◌||◌}
use Rattle.std.specs.Fmt.{decimal}
use Rattle.std.specs.List.{count_by}
use Rattle.std.specs.Str.Parse.{digits_value}
use Rattle.cp_grammar.specs.Grammar.{Read, Grammar, checked, mapped, case_by}

-- a space, or a line feed
abbrev pub is_end : ℕ → Bool
is_end b = b == 32 || b == 10

-- the bytes before the first end, and those from it on
unfoldable pub before_end : List ℕ → List ℕ
before_end [] = []
before_end (b ∷ bs) = cond (is_end b) [] (b ∷ before_end bs)

unfoldable pub from_end : List ℕ → List ℕ
from_end [] = []
from_end (b ∷ bs) = cond (is_end b) (b ∷ bs) (from_end bs)

-- not empty, and without an end in it
unfoldable pub is_word : List ℕ → Bool
is_word [] = false
is_word (b ∷ []) = not (is_end b)
is_word (b ∷ c ∷ bs) = not (is_end b) && is_word (c ∷ bs)

-- a word and its end
abbrev pub Token : Type 0
Token = List ℕ × ℕ

abbrev pub cut : List ℕ → List ℕ → ℕ → Read ℕ Token
cut [] from left = Err left
cut (b ∷ bs) [] left = Err left
cut (b ∷ bs) (e ∷ rest) left = Ok ((b ∷ bs, e), rest)

unfoldable pub token_reading : List ℕ → Read ℕ Token
token_reading bytes = cut (before_end bytes) (from_end bytes) (length bytes)

abbrev pub token : Grammar ℕ Token
token = record {
  spelling = λ t. t.0 ++ t.1 ∷ [];
  Fits = λ t. IsTrue (is_word t.0) × IsTrue (is_end t.1);
  reading = token_reading;
}

-- a word with this end
abbrev pub word : ℕ → Grammar ℕ (List ℕ)
word end = mapped (λ t. t.0) (λ w. (w, end)) (checked token (λ t. t.1 == end))

abbrev pub same_bytes : List ℕ → List ℕ → Bool
same_bytes [] [] = true
same_bytes [] (y ∷ ys) = false
same_bytes (x ∷ xs) [] = false
same_bytes (x ∷ xs) (y ∷ ys) = x == y && same_bytes xs ys

abbrev pub same_token : Token → Token → Bool
same_token s t = same_bytes s.0 t.0 && s.1 == t.1

-- what follows a keyword with this end, and what follows others
abbrev pub keyword : {A : Type 0} → List ℕ → ℕ → Grammar ℕ A → (Token → Grammar ℕ A) → Token → Grammar ℕ A
keyword text end g others = case_by same_token (text, end) g others

-- the decimal of a number, which has no leading zero
unfoldable pub is_decimal : List ℕ → Bool
is_decimal w = same_bytes w (decimal (digits_value 10 w))

-- a decimal number of at most `most`
unfoldable pub number_word_reading : ℕ → ℕ → List ℕ → Read ℕ ℕ
number_word_reading end most bytes = (mapped (digits_value 10) decimal (checked (word end) (λ w. is_decimal w && nat_le (digits_value 10 w) most))).reading bytes

abbrev pub number_word : ℕ → ℕ → Grammar ℕ ℕ
number_word end most = record {
  spelling = λ n. decimal n ++ end ∷ [];
  Fits = λ n. n ≤ most;
  reading = number_word_reading end most;
}

-- A word that is the text of its value again. `parse` may answer anything at other words.
abbrev pub texted : {A : Type 0} → ℕ → (A → List ℕ) → (List ℕ → A) → (A → Bool) → Grammar ℕ A
texted end text parse rule = mapped parse text (checked (word end) (λ w. same_bytes w (text (parse w)) && rule (parse w)))

-- the line of a place, counted from 1
abbrev pub line_of : List ℕ → ℕ → ℕ
line_of bytes place = count_by (λ b. b == 10) (take place bytes) + 1
