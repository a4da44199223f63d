-- One turn of the search for the commit, as a loop takes it.
use Rattle.std.proofs.Common.{◌≡◌, ℕ, zero, suc, ◌+◌, ◌-◌, ◌<◌, Bool, true, false, refl, arith}
use Rattle.cp_rules.specs.Commit.{greatest}

pub stops_at : (test : ℕ → Bool) (low n : ℕ) → 0 < n → test (low + n) ≡ true → greatest test low n ≡ low + n
stops_at test low zero less h = absurd (omega (arith, less))
stops_at test low (suc n) less h = rw h refl

pub goes_down : (test : ℕ → Bool) (low n : ℕ) → 0 < n → test (low + n) ≡ false → greatest test low n ≡ greatest test low (n - 1)
goes_down test low zero less h = absurd (omega (arith, less))
goes_down test low (suc n) less h = let e : suc n - 1 ≡ n = omega arith in rw (h, e) refl
