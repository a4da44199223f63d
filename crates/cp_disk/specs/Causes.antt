-- When a call of a disk may answer an error.
use Rattle.std.specs.Prelude.{◌≡◌, ◌≤◌, ℕ, IfErr, OnErr}
use Rattle.std.specs.declared.result.Result.{Result}
use Rattle.cp_disk.specs.declared.disk.Fault.{Fault}
use Rattle.cp_disk.specs.declared.disk.Fault.TheVariants as fault
use Rattle.cp_base.specs.Faults.{Rose}

-- a fault that is counted as such, or a want of memory that is counted apart
abbrev pub FaultCause : (before now starved_before starved_now : ℕ) → Fault → Type 0
FaultCause before now starved_before starved_now fault.Failed = Rose before now
FaultCause before now starved_before starved_now fault.NoMemory = (now ≡ before) × Rose starved_before starved_now

-- no count falls, and an error comes only where its count rose
pub record CountsFaults {T : Type 0} (before now starved_before starved_now : ℕ) (result : Result T Fault) : Type 0 where
  pub later : before ≤ now
  pub starved_later : starved_before ≤ starved_now
  pub failed : IfErr result (FaultCause before now starved_before starved_now)

-- no count falls, the call wants no memory, and it fails only where the count of faults rose
pub record CountsFailures {T E : Type 0} (before now starved_before starved_now : ℕ) (result : Result T E) : Type 0 where
  pub later : before ≤ now
  pub starved_same : starved_now ≡ starved_before
  pub failed : OnErr result (Rose before now)
