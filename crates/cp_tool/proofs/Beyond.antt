-- Which quantity is beyond its limit.
use Rattle.std.proofs.Common.{◌≡◌, ◌≤◌, ℕ, None, arith}
use Rattle.std.proofs.lemmas.Bool.Decides.{nat_tests}
use Rattle.cp_tool.specs.Limits.{beyond}

pub few_events : (events bytes : ℕ) → beyond events bytes ≡ None → events ≤ 100000
few_events events bytes kept = grind (arith, nat_tests)
