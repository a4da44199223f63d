-- A disk in memory, by what was done to it, the newest first.
use Rattle.std.specs.Prelude.{◌≡◌, ◌==◌, ◌≤◌, ◌⊎◌, ◌+◌, ◌-◌, ◌*◌, ◌/◌, ◌%◌, ◌^◌, ℕ, suc, List, [], ◌∷◌, ◌++◌, length, take, replicate, Option, Some, None, nat_lt, if◌then◌else◌}
use Rattle.std.proofs.Common.{inl, inr, arith}
use Rattle.cp_disk.specs.Images.{written, Torn, Shortened}
use Rattle.cp_disk.specs.declared.record.Call.{Call}
use Rattle.cp_disk.specs.declared.record.Call.TheVariants.{Write, Cut, Sync, Crash}

-- the bytes, with zeros up to a length where they are fewer
abbrev pub padded : ℕ → List ℕ → List ℕ
padded n bytes = bytes ++ replicate (n - length bytes) 0

-- the disk with this piece at this place, behind zeros where it is shorter; no byte changes nothing
abbrev pub put_at : ℕ → List ℕ → List ℕ → List ℕ
put_at at [] old = old
put_at at (byte ∷ piece) old = written (padded (at + length (byte ∷ piece)) old) at (byte ∷ piece)

-- a write that a crash treats by two bits: not done, done, done with its first half, or done with every byte 255
abbrev pub torn_by : ℕ → ℕ → List ℕ → List ℕ → List ℕ
torn_by bits at piece old =
    if bits == 1 then put_at at piece old
    else if bits == 2 then put_at at (take (length piece / 2) piece) old
    else if bits == 3 then put_at at (replicate (length piece) 255) old
    else old

-- a cut that a crash treats by two bits: done for 1 and 2
abbrev pub cut_by : ℕ → ℕ → List ℕ → List ℕ
cut_by bits n old = if bits == 1 then take n old else if bits == 2 then take n old else old

abbrev pub changed_by : ℕ → Call → List ℕ → List ℕ
changed_by bits (Write at piece) old = torn_by bits at piece old
changed_by bits (Cut n) old = cut_by bits n old
changed_by bits Sync old = old
changed_by bits (Crash choice) old = old

-- The two bits for a change, by its number among the changes since the last sync or crash. A sync does them all; a crash
-- takes them from its choice, and does none from the 33rd on.
abbrev pub bits_of : Option ℕ → ℕ → ℕ
bits_of None number = 1
bits_of (Some choice) number = if nat_lt number 32 then (choice / 2 ^ (2 * number)) % 4 else 0

-- how many changes came since the last sync or crash
abbrev pub pending : List Call → ℕ
pending [] = 0
pending (Write at piece ∷ calls) = suc (pending calls)
pending (Cut n ∷ calls) = suc (pending calls)
pending (Sync ∷ calls) = 0
pending (Crash choice ∷ calls) = 0

-- what a disk holds after these calls, where the pending changes are done as a sync does them, or a crash
abbrev pub after : Option ℕ → List Call → List ℕ
after choice [] = []
after choice (Write at piece ∷ calls) = torn_by (bits_of choice (pending calls)) at piece (after choice calls)
after choice (Cut n ∷ calls) = cut_by (bits_of choice (pending calls)) n (after choice calls)
after choice (Sync ∷ calls) = after None calls
after choice (Crash by ∷ calls) = after (Some by) calls

-- what a read gives
abbrev pub seen_by : List Call → List ℕ
seen_by calls = after None calls

-- what a crash now may leave
abbrev pub leaves : List Call → List ℕ → Type 0
leaves [] image = image ≡ []
leaves (Write at piece ∷ calls) image = (before : List ℕ) × leaves calls before × Torn at (length piece) before image
leaves (Cut n ∷ calls) image = (before : List ℕ) × leaves calls before × Shortened n before image
leaves (Sync ∷ calls) image = image ≡ seen_by (Sync ∷ calls)
leaves (Crash choice ∷ calls) image = image ≡ seen_by (Crash choice ∷ calls)

-- what a crash at some moment from that one on might have left
abbrev pub left_by : List Call → ℕ → List ℕ → Type 0
left_by [] moment image = leaves [] image
left_by (call ∷ calls) moment image = leaves (call ∷ calls) image ⊎ ((moment ≤ length calls) × left_by calls moment image)

pub now_counts : (calls : List Call) (moment : ℕ) (image : List ℕ) → leaves calls image → left_by calls moment image
now_counts [] moment image left = left
now_counts (call ∷ calls) moment image left = inl left

pub only_now : (calls : List Call) (image : List ℕ) → left_by calls (length calls) image → leaves calls image
only_now [] image left = left
only_now (call ∷ calls) image left = elim left [ inl now ↦ now | inr past ↦ absurd (omega (arith, past.0)) ]

-- these changes done in turn, the oldest first, from a number on
abbrev pub replayed : Option ℕ → ℕ → List Call → List ℕ → List ℕ
replayed choice number [] bytes = bytes
replayed choice number (call ∷ calls) bytes = replayed choice (number + 1) calls (changed_by (bits_of choice number) call bytes)
