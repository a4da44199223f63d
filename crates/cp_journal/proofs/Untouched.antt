-- A write that a crash undoes whole.
use Rattle.std.proofs.Common.{ℕ, List, refl, arith}
use Rattle.cp_disk.specs.Images.{Torn}

pub untouched : (at n : ℕ) (old : List ℕ) → Torn at n old old
untouched at n old = record { same = λ i within place. refl; no_shorter = omega arith; no_longer = omega arith }
