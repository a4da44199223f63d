-- What opening makes of a file.
use Rattle.std.specs.Prelude.{◌≡◌, ◌-◌, ◌⊎◌, ℕ, List, Ok}
use Rattle.cp_journal.specs.Records.{records_of}
use Rattle.cp_journal.specs.Frames.{IsAtRest}

-- these are the records of the file from before, and the file has them still, at rest up to this end
pub record IsOpened (bodies : List (List ℕ)) (end : ℕ) (before now : List ℕ) (images : List ℕ → Type 0) : Type 0 where
  pub records : records_of before ≡ Ok bodies
  pub same : records_of now ≡ records_of before
  pub rest : IsAtRest (end - 1) now images

-- an image that a crash could leave before, or a file with the same records
abbrev pub IsImageOrSame : (List ℕ → Type 0) → List ℕ → List ℕ → Type 0
IsImageOrSame images before image = images image ⊎ (records_of image ≡ records_of before)
