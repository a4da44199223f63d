-- The words of texts.
use Rattle.std.specs.Prelude.{ℕ, Bool, true, false, List, [], ◌∷◌, ◌++◌, codes}
use Rattle.std.specs.Fmt.{decimal}

-- numbers, each after a space
unfoldable pub numbers_text : List ℕ → List ℕ
numbers_text [] = []
numbers_text (n ∷ ns) = 32 ∷ decimal n ++ numbers_text ns

abbrev pub yes_text : Bool → List ℕ
yes_text true = codes " yes"
yes_text false = codes " no"
