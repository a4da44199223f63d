-- When a call of a source or a sink may fail, and how a read or a write of all may end.
use Rattle.std.specs.Prelude.{◌≡◌, ◌≤◌, ℕ, List, length, Option, IfErr}
use Rattle.std.specs.declared.result.Result.{Result}
use Rattle.std.specs.Io.KnownBytes.{Consumes, IsAtEnd}
use Rattle.cp_base.specs.Faults.{Rose, Exceeds}
use Rattle.cp_io.specs.declared.traits.Fault.{Fault}
use Rattle.cp_io.specs.declared.traits.Fault.TheVariants as fault
use Rattle.cp_io.specs.declared.reading.ReadEnd.{ReadEnd}
use Rattle.cp_io.specs.declared.reading.ReadEnd.TheVariants as end

-- the count rose where the sink failed; want of memory leaves it
abbrev pub FaultCause : ℕ → ℕ → Fault → Type 0
FaultCause before now fault.Failed = Rose before now
FaultCause before now fault.NoMemory = now ≡ before

-- a count never falls, and a fault comes only where it rose
pub record CountsFaults {T : Type 0} (before now : ℕ) (result : Result T Fault) : Type 0 where
  pub later : before ≤ now
  pub failed : IfErr result (FaultCause before now)

-- the source gave these bytes, which are all, and not more than may be
pub record GaveAll (most : ℕ) (old new : Option (List ℕ)) (bytes : List ℕ) : Type 0 where
  pub taken : Consumes old new bytes
  pub ended : IsAtEnd new
  pub short : length bytes ≤ most

-- why a read of all ended early
abbrev pub ReadCause : ℕ → Option (List ℕ) → ℕ → ℕ → ReadEnd → Type 0
ReadCause most old before now end.Failed = Rose before now
ReadCause most old before now end.TooLong = Exceeds old most
ReadCause most old before now end.NoMemory = Unit {0}

-- why a write of all ended early
abbrev pub WriteCause : ℕ → ℕ → Fault → Type 0
WriteCause before now fault.Failed = Rose before now
WriteCause before now fault.NoMemory = Unit {0}
