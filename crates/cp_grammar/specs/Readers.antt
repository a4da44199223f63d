-- What the result of a reader says of a grammar. Want of memory says nothing.
use Rattle.std.specs.Prelude.{◌≡◌, ℕ, List, Result, Ok, Err}
use Rattle.std.specs.Borrow.{Bor}
use Rattle.cp_grammar.specs.Grammar.{Read}
use Rattle.cp_grammar.specs.declared.stop.Stop.{Stop}
use Rattle.cp_grammar.specs.declared.stop.Stop.TheVariants as stops
use Rattle.cp_grammar.specs.declared.stop.ReadError.{ReadError}
use Rattle.cp_grammar.specs.declared.stop.ReadError.TheVariants as errors

-- ---- at the front of bytes

abbrev pub Stops : {Y : Type 0} → Stop → Result Y ℕ → Type 0
Stops stops.NoMemory read = Unit {0}
Stops (stops.Left n) read = read ≡ Err n

-- reading gives what the function returned, or stops where it stopped
abbrev pub Gives : {X Y : Type 0} → (X → Y) → Result X Stop → Result Y ℕ → Type 0
Gives view (Ok x) read = read ≡ Ok (view x)
Gives view (Err e) read = Stops e read

-- the same where the function returned a value and the bytes after it
abbrev pub Reads : {A : Type 0} → Result (A × Bor (List ℕ)) Stop → Read ℕ A → Type 0
Reads result read = Gives (λ x. (x.0, x.1.now)) result read

-- ---- of all the bytes

abbrev pub Fails : {Y : Type 0} → ReadError → Result Y ℕ → Type 0
Fails errors.NoMemory read = Unit {0}
Fails (errors.NotInGrammar place) read = read ≡ Err place

-- the value, or the place of the field that fails
abbrev pub Tells : {A : Type 0} → Result A ReadError → Result A ℕ → Type 0
Tells (Ok x) read = read ≡ Ok x
Tells (Err e) read = Fails e read
