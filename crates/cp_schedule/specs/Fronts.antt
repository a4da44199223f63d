-- Lines that begin with words of their own, lines that may be left out, and numbers with whichever end.
use Rattle.std.specs.Prelude.{ℕ, ◌≤◌, ◌==◌, ◌&&◌, cond, nat_le, List, [], ◌∷◌, ◌++◌, length, Option, Some, None, Ok, Err, IsTrue}
use Rattle.std.specs.Fmt.{decimal}
use Rattle.std.specs.Str.Parse.{digits_value}
use Rattle.cp_grammar.specs.Grammar.{Read, ◌>>=◌, Grammar, checked, mapped}
use Rattle.cp_grammar.specs.Words.{is_end, token, is_decimal}

-- What stands behind a front of a text, where the text begins with it.
unfoldable pub behind : List ℕ → List ℕ → Option (List ℕ)
behind [] ts = Some ts
behind (k ∷ ks) [] = None
behind (k ∷ ks) (t ∷ ts) = cond (t == k) (behind ks ts) None

abbrev pub needed : {A : Type 0} → Grammar ℕ A → ℕ → Option (List ℕ) → Read ℕ A
needed g left None = Err left
needed g left (Some rest) = g.reading rest

-- a front that has to stand, and what follows it
abbrev pub after : {A : Type 0} → List ℕ → Grammar ℕ A → Grammar ℕ A
after front g = record {
  spelling = λ x. front ++ g.spelling x;
  Fits = g.Fits;
  reading = λ ts. needed g (length ts) (behind front ts);
}

abbrev pub spelling_if_there : {A : Type 0} → List ℕ → Grammar ℕ A → Option A → List ℕ
spelling_if_there front g None = []
spelling_if_there front g (Some x) = front ++ g.spelling x

abbrev pub FitsIfThere : {A : Type 0} → Grammar ℕ A → Option A → Type 0
FitsIfThere g None = Unit {0}
FitsIfThere g (Some x) = g.Fits x

abbrev pub if_there : {A : Type 0} → Grammar ℕ A → List ℕ → Option (List ℕ) → Read ℕ (Option A)
if_there g ts None = Ok (None, ts)
if_there g ts (Some rest) = g.reading rest >>= λ x. Ok (Some x.0, x.1)

-- What may be left out: it stands exactly where the text begins with its front.
abbrev pub optional : {A : Type 0} → List ℕ → Grammar ℕ A → Grammar ℕ (Option A)
optional front g = record {
  spelling = spelling_if_there front g;
  Fits = FitsIfThere g;
  reading = λ ts. if_there g ts (behind front ts);
}

unfoldable pub ended_number_reading : ℕ → List ℕ → Read ℕ (ℕ × ℕ)
ended_number_reading most bytes =
    (mapped (λ t. (digits_value 10 t.0, t.1)) (λ p. (decimal p.0, p.1)) (checked token (λ t. is_decimal t.0 && nat_le (digits_value 10 t.0) most))).reading bytes

-- a number of at most `most`, and the end after it, whichever it is
abbrev pub ended_number : ℕ → Grammar ℕ (ℕ × ℕ)
ended_number most = record {
  spelling = λ p. decimal p.0 ++ p.1 ∷ [];
  Fits = λ p. (p.0 ≤ most) × IsTrue (is_end p.1);
  reading = ended_number_reading most;
}
