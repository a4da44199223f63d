-- Why bodies stand for nothing.
use Rattle.std.specs.Prelude.{◌≡◌, ℕ, ◌-◌, ◌^◌, min, Result, Err}
use Rattle.cp_log_rules.specs.Durable.{DurableState}
use Rattle.cp_log.specs.declared.recovery.BadBody.{BadBody}
use Rattle.cp_log.specs.declared.recovery.BadBody.TheVariants as bad

-- the place of the body that is bad, or the greatest number where the place is above it
abbrev pub BodyCause : Result DurableState ℕ → BadBody → Type 0
BodyCause recovered (bad.At place) = (at : ℕ) × (recovered ≡ Err at) × (place ≡ min at (2 ^ 64 - 1))
BodyCause recovered bad.NoMemory = Unit {0}
