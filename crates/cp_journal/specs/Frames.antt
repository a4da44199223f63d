-- The frames of a file: open gates with their records.
use Rattle.std.specs.Prelude.{◌≡◌, ◌<◌, ◌+◌, ℕ, List, [], ◌∷◌, length, slice_index, Some}
use Rattle.cp_disk.specs.Images.{Only}
use Rattle.cp_journal.specs.Records.{IsBody, body_at, closed_gate, size_at}

-- an open gate with the record of this body behind it
pub record IsFrame (gate : ℕ) (body file : List ℕ) : Type 0 where
  pub is_open : 0 < slice_index file gate
  pub size : size_at gate file ≡ length body
  pub holds : body_at gate file ≡ body
  pub is_body : IsBody body

-- frames of these bodies stand from one gate up to another
abbrev pub AreFrames : List (List ℕ) → (gate end : ℕ) → List ℕ → Type 0
AreFrames [] gate end file = gate ≡ end
AreFrames (body ∷ bodies) gate end file = IsFrame gate body file × AreFrames bodies (gate + 5 + length body) end file

-- the records of these bodies stand before a closed gate
pub record IsClosed (bodies : List (List ℕ)) (gate : ℕ) (file : List ℕ) : Type 0 where
  pub frames : AreFrames bodies 0 gate file
  pub within : gate < length file
  pub shut : slice_index file gate ≡ 0

-- the first closed gate of a file stands at this place, with only whole records before it, and all of it is on the disk
pub record IsAtRest (gate : ℕ) (file : List ℕ) (images : List ℕ → Type 0) : Type 0 where
  pub closed : closed_gate file ≡ Some gate
  pub within : gate < length file
  pub durable : Only file images

-- the same with the bodies by name
pub record Rests (gate : ℕ) (file : List ℕ) (images : List ℕ → Type 0) : Type 0 where
  pub bodies : List (List ℕ)
  pub closed : IsClosed bodies gate file
  pub durable : Only file images
