-- Rows one after another, each as it is spelled.
use Rattle.std.specs.Prelude.{ℕ, List, [], ◌∷◌, ◌++◌, length}
use Rattle.std.specs.Int.{w32}
use Rattle.cp_codec.specs.Fields.{big_endian}
use Rattle.cp_grammar.specs.Grammar.{Grammar}

unfoldable pub each_spelled : {A : Type 0} → Grammar ℕ A → List A → List ℕ
each_spelled g [] = []
each_spelled g (x ∷ xs) = g.spelling x ++ each_spelled g xs

-- a count, and the rows
abbrev pub list_spelled : {A : Type 0} → Grammar ℕ A → List A → List ℕ
list_spelled g rows = big_endian w32 (length rows) ++ each_spelled g rows
