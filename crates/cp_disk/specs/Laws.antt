-- What a crash makes of a record by its choice is one of the images, and so is what a read gives.
use Rattle.std.specs.Prelude.{Bool, true, false, if◌then◌else◌, ◌≡◌, ◌==◌, ◌≤◌, ◌<◌, ◌+◌, ◌/◌, ◌⊎◌, ℕ, List, [], ◌∷◌, length, take, min, max, replicate, slice_index, Option}
use Rattle.std.proofs.Common.{refl, arith}
use Rattle.std.proofs.lemmas.Grind.{common_steps}
use Rattle.cp_disk.specs.Images.{written, Torn, Shortened}
use Rattle.cp_disk.specs.Record.{padded, put_at, torn_by, cut_by, bits_of, pending, after, leaves}
use Rattle.cp_disk.specs.declared.record.Call.{Call}
use Rattle.cp_disk.specs.declared.record.Call.TheVariants.{Write, Cut, Sync, Crash}

untouched : (at n : ℕ) (old : List ℕ) → Torn at n old old
untouched at n old = record { same = λ i within place. refl; no_shorter = omega arith; no_longer = omega arith }

put_same : (at n : ℕ) (piece old : List ℕ) → length piece ≤ n → (i : ℕ) → i < length old → (i < at) ⊎ (at + n ≤ i) → slice_index (written (padded (at + length piece) old) at piece) i ≡ slice_index old i
put_same at n piece old fits i within place = grind (arith, common_steps)

put_length : (at : ℕ) (piece old : List ℕ) → length (written (padded (at + length piece) old) at piece) ≡ max (length old) (at + length piece)
put_length at piece old = grind (arith, common_steps)

pub put_torn : (at n : ℕ) (piece old : List ℕ) → length piece ≤ n → Torn at n old (put_at at piece old)
put_torn at n [] old fits = untouched at n old
put_torn at n (byte ∷ piece) old fits = record {
  same = put_same at n (byte ∷ piece) old fits;
  no_shorter = omega (arith, put_length at (byte ∷ piece) old);
  no_longer = omega (arith, put_length at (byte ∷ piece) old);
}

half : (piece : List ℕ) → length (take (length piece / 2) piece) ≤ length piece
half piece = grind (arith, common_steps)

blots : (n : ℕ) → length {A = ℕ} (replicate n 255) ≤ n
blots n = grind (arith, common_steps)

either : (P : List ℕ → Type 0) (test : Bool) (first second : List ℕ) → P first → P second → P (if test then first else second)
either P true first second p q = p
either P false first second p q = q

torn : (bits at : ℕ) (piece old : List ℕ) → Torn at (length piece) old (torn_by bits at piece old)
torn bits at piece old =
    let P : List ℕ → Type 0 = Torn at (length piece) old in
    either P (bits == 1) _ _ (put_torn at (length piece) piece old (omega arith))
    (either P (bits == 2) _ _ (put_torn at (length piece) (take (length piece / 2) piece) old (half piece))
    (either P (bits == 3) _ _ (put_torn at (length piece) (replicate (length piece) 255) old (blots (length piece))) (untouched at (length piece) old)))

kept : (n : ℕ) (old : List ℕ) → Shortened n old old
kept n old = record { same = λ i below within. refl; no_shorter = omega arith; no_longer = omega arith }

front_same : (n : ℕ) (old : List ℕ) (i : ℕ) → i < n → slice_index (take n old) i ≡ slice_index old i
front_same n old i below = grind (arith, common_steps)

front_length : (n : ℕ) (old : List ℕ) → length (take n old) ≡ min n (length old)
front_length n old = grind (arith, common_steps)

front : (n : ℕ) (old : List ℕ) → Shortened n old (take n old)
front n old = record { same = λ i below within. front_same n old i below; no_shorter = omega (arith, front_length n old); no_longer = omega (arith, front_length n old) }

shortened : (bits n : ℕ) (old : List ℕ) → Shortened n old (cut_by bits n old)
shortened bits n old = either (Shortened n old) (bits == 1) _ _ (front n old) (either (Shortened n old) (bits == 2) _ _ (front n old) (kept n old))

-- by any choice
pub crash_leaves : (choice : Option ℕ) (calls : List Call) → leaves calls (after choice calls)
crash_leaves choice [] = refl
crash_leaves choice (Write at piece ∷ calls) = (after choice calls, crash_leaves choice calls, torn (bits_of choice (pending calls)) at piece (after choice calls))
crash_leaves choice (Cut n ∷ calls) = (after choice calls, crash_leaves choice calls, shortened (bits_of choice (pending calls)) n (after choice calls))
crash_leaves choice (Sync ∷ calls) = refl
crash_leaves choice (Crash by ∷ calls) = refl
