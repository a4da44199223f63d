-- What stands at a gate of a file.
use Rattle.std.specs.Prelude.{true, false, ◌≡◌, ◌<◌, ◌+◌, ℕ, length, List, slice_index, map}
use Rattle.std.specs.declared.alloc.Global.{Global}
use Rattle.std.specs.Prelude.{Vec}
use Rattle.cp_journal.specs.declared.reading.Found.{Found}
use Rattle.cp_journal.specs.declared.reading.Found.TheVariants as found
use Rattle.cp_journal.specs.Records.{body_at, is_whole}

-- a closed gate, an open gate with no whole record and gate behind it, or one with this body
abbrev pub IsFound : ℕ → List ℕ → Found → Type 0
IsFound gate file found.Closed = slice_index file gate ≡ 0
IsFound gate file found.Bad = (0 < slice_index file gate) × (is_whole gate file ≡ false)
IsFound gate file (found.Body body) = (0 < slice_index file gate) × ((is_whole gate file ≡ true) × (body.items ≡ body_at gate file))

-- a body that was found ends before the file's last gate
abbrev pub FitsIn : ℕ → ℕ → Found → Type 0
FitsIn gate size found.Closed = Unit {0}
FitsIn gate size found.Bad = Unit {0}
FitsIn gate size (found.Body body) = gate + 5 + length body.items < size

-- the bodies as lists
abbrev pub lists : List (Vec ℕ Global) → List (List ℕ)
lists bodies = map (λ body. body.items) bodies
