-- What a crash leaves during a run of calls of a disk.
use Rattle.std.specs.Prelude.{◌≡◌, ◌≤◌, ◌⊎◌, ℕ, List}
use Rattle.cp_disk.specs.Images.{Only}

-- a crash at any moment since old leaves a file that has P
pub record LeavesOnly {D : Type 0} (moment : D → ℕ) (left_since : D → ℕ → List ℕ → Type 0) (old new : D) (P : List ℕ → Type 0) : Type 0 where
  pub later : moment old ≤ moment new
  pub each : (image : List ℕ) → left_since new (moment old) image → P image
  -- for a run that began earlier
  pub before : (since : ℕ) (image : List ℕ) → since ≤ moment old → left_since new since image → left_since old since image ⊎ P image

-- a disk whose bytes are all on it stays as it reads, at each moment
pub record Stays {D : Type 0} (seen : D → List ℕ) (may_leave : D → List ℕ → Type 0) (moment : D → ℕ) (left_since : D → ℕ → List ℕ → Type 0) (old new : D) : Type 0 where
  pub same : seen new ≡ seen old
  pub durable : Only (seen old) (may_leave new)
  pub leaves : LeavesOnly moment left_since old new (λ image. image ≡ seen old)
