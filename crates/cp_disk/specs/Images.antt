-- What a disk holds, and what a crash may leave of it.
use Rattle.std.specs.Prelude.{◌≡◌, ◌≤◌, ◌<◌, ◌+◌, ◌⊎◌, ℕ, List, ◌++◌, length, take, drop, min, max, slice_index}

-- the disk with these bytes at this place, over what stood there and past the end
abbrev pub written : List ℕ → ℕ → List ℕ → List ℕ
written old at bytes = take at old ++ bytes ++ drop (at + length bytes) old

-- n bytes are being written at a place: that range may hold any bytes, and the disk may have grown up to its end
pub record Torn (at n : ℕ) (old new : List ℕ) : Type 0 where
  pub same : (i : ℕ) → i < length old → (i < at) ⊎ (at + n ≤ i) → slice_index new i ≡ slice_index old i
  pub no_shorter : length old ≤ length new
  pub no_longer : length new ≤ max (length old) (at + n)

-- the disk is being cut: it has some length between, and past the new end it may hold any bytes
pub record Shortened (n : ℕ) (old new : List ℕ) : Type 0 where
  pub same : (i : ℕ) → i < n → i < length new → slice_index new i ≡ slice_index old i
  pub no_shorter : min n (length old) ≤ length new
  pub no_longer : length new ≤ length old

-- each image of now is an image of before after this step
abbrev pub Follows : (List ℕ → List ℕ → Type 0) → (List ℕ → Type 0) → (List ℕ → Type 0) → Type 0
Follows step old new = (image : List ℕ) → new image → (before : List ℕ) × old before × step before image

-- a crash leaves these bytes and nothing else
abbrev pub Only : List ℕ → (List ℕ → Type 0) → Type 0
Only bytes images = (image : List ℕ) → images image → image ≡ bytes

-- no image is new
abbrev pub NoMore : (List ℕ → Type 0) → (List ℕ → Type 0) → Type 0
NoMore old new = (image : List ℕ) → new image → old image

-- Time goes on: a crash since a moment might have left what it might have left before, or what it may leave now.
pub record Elapses (before now : ℕ) (past since : ℕ → List ℕ → Type 0) (may_leave : List ℕ → Type 0) : Type 0 where
  pub later : before ≤ now
  pub nothing_else : (moment : ℕ) (image : List ℕ) → moment ≤ before → since moment image → past moment image ⊎ may_leave image
  pub keeps : (moment : ℕ) (image : List ℕ) → moment ≤ before → past moment image → since moment image
