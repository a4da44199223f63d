-- What is read whole is spelled so.
use Rattle.std.proofs.Common.{◌≡◌, List, Result, Ok, Err}
use Rattle.std.specs.Prelude.{IfOk, ℕ}
use Rattle.std.specs.List.{AllByRecursion}
use Rattle.cp_grammar.specs.Grammar.{Grammar, whole}
use Rattle.cp_grammar.specs.Lawful.{IsLawful}
use Rattle.cp_grammar.specs.Laws.{whole_takes}
use Rattle.cp_grammar.specs.Readers.{Tells}
use Rattle.cp_grammar.specs.declared.stop.ReadError.{ReadError}

pub is_found : {A : Type 0} (Good : ℕ → Type 0) (g : Grammar ℕ A) → IsLawful Good g → (bytes : List ℕ) (r : Result A ReadError) → AllByRecursion Good bytes → Tells r (whole g bytes) → IfOk r (λ x. g.Fits x × (bytes ≡ g.spelling x))
is_found Good g law bytes (Ok x) good told = let h = whole_takes Good g law bytes x good told in (h.1, h.0)
is_found Good g law bytes (Err e) good told = tt
