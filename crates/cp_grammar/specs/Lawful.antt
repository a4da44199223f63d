-- The two laws of a grammar. All that is said of whole inputs, and that no spelling begins another, follows from them.
use Rattle.std.specs.Prelude.{◌≡◌, ℕ, List, ◌++◌, Ok}
use Rattle.std.specs.List.{AllByRecursion}
use Rattle.cp_grammar.specs.Grammar.{Grammar}

-- again: what has a spelling is read from it, whatever follows.
-- takes: what is read, of good tokens, is spelled so, and has that spelling.
pub record IsLawful {T A : Type 0} (Good : T → Type 0) (g : Grammar T A) : Type 0 where
  pub again : (x : A) (rest : List T) → g.Fits x → g.reading (g.spelling x ++ rest) ≡ Ok (x, rest)
  pub takes : (ts : List T) (x : A) (rest : List T) → AllByRecursion Good ts → g.reading ts ≡ Ok (x, rest) → (ts ≡ g.spelling x ++ rest) × g.Fits x
