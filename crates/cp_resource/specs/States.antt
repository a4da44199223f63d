-- What sessions hold.
use Rattle.std.specs.Prelude.{◌≡◌, ◌==◌, ℕ, false, List}
use Rattle.std.specs.List.{AllByRecursion}

-- each holding is of one permit or more
abbrev pub HoldSome : List ((ℕ × List ℕ) × ℕ) → Type 0
HoldSome holdings = AllByRecursion (λ e. (e.1 == 0) ≡ false) holdings
