-- When a call of a store may answer an error.
use Rattle.std.specs.Prelude.{◌≡◌, ◌≤◌, ℕ, Bool, true, false, Ok, Err, IfErr}
use Rattle.std.specs.declared.result.Result.{Result}
use Rattle.cp_base.specs.Faults.{Rose}
use Rattle.cp_disk.specs.declared.disk.Disk.{Ghosts}
use Rattle.cp_log_rules.specs.Durable.{DurableState}
use Rattle.cp_log.specs.declared.error.StoreError.{StoreError}
use Rattle.cp_log.specs.declared.error.StoreError.TheVariants as error

-- a disk fault comes only where the disk's count rose
abbrev pub WriteCause : (before now : ℕ) → StoreError → Type 0
WriteCause before now error.DiskFault = Rose before now
WriteCause before now error.Full = Unit {0}
WriteCause before now (error.BadFrame place) = ⊥
WriteCause before now (error.BadRecord place) = ⊥
WriteCause before now error.NoMemory = Unit {0}

-- no count of the disk falls, and a disk fault comes only where its count rose
pub record Counts {D T : Type 0} (disks : Ghosts D) (old new : D) (result : Result T StoreError) : Type 0 where
  pub later : disks.faults old ≤ disks.faults new
  pub starved_later : disks.starved old ≤ disks.starved new
  pub failed : IfErr result (WriteCause (disks.faults old) (disks.faults new))

abbrev pub is_fault : {T : Type 0} → Result T StoreError → Bool
is_fault (Ok x) = false
is_fault (Err error.DiskFault) = true
is_fault (Err error.Full) = false
is_fault (Err (error.BadFrame place)) = false
is_fault (Err (error.BadRecord place)) = false
is_fault (Err error.NoMemory) = false

-- Why a store was not opened. A bad frame or record comes, where the disk tells its bytes, only at the place that the file tells, and
-- a full journal only where the file stands for a state.
abbrev pub OpenCause : (before now : ℕ) → Type 0 → Result DurableState StoreError → StoreError → Type 0
OpenCause before now told file error.DiskFault = Rose before now
OpenCause before now told file error.Full = told → (s : DurableState) × (file ≡ Ok s)
OpenCause before now told file (error.BadFrame place) = told → file ≡ Err (error.BadFrame place)
OpenCause before now told file (error.BadRecord place) = told → file ≡ Err (error.BadRecord place)
OpenCause before now told file error.NoMemory = Unit {0}

-- an error that tells of no bad file
abbrev pub IsNotBad : StoreError → Type 0
IsNotBad error.DiskFault = Unit {0}
IsNotBad error.Full = Unit {0}
IsNotBad (error.BadFrame place) = ⊥
IsNotBad (error.BadRecord place) = ⊥
IsNotBad error.NoMemory = Unit {0}
