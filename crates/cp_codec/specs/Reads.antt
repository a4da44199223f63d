-- What a reader gives that lends the bytes it read.
use Rattle.std.specs.Prelude.{◌≡◌, ℕ, List, Result, Ok, Err}
use Rattle.std.specs.Borrow.{Bor}
use Rattle.cp_codec.specs.declared.error.FieldError.{FieldError}

abbrev pub ReadsBytes : Result (Bor (List ℕ) × ℕ) FieldError → Result (List ℕ × ℕ) FieldError → Type 0
ReadsBytes (Ok x) field = field ≡ Ok (x.0.now, x.1)
ReadsBytes (Err e) field = field ≡ Err e
