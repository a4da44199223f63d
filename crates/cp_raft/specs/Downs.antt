-- Why a member is down after a step.
use Rattle.std.specs.Prelude.{ℕ, Bool, true, false, Ok, Err}
use Rattle.std.specs.declared.result.Result.{Result}
use Rattle.cp_base.specs.Faults.{Rose}
use Rattle.cp_log.specs.declared.error.StoreError.{StoreError}
use Rattle.cp_log.specs.declared.error.StoreError.TheVariants as error
use Rattle.cp_parts.specs.declared.down.Down.{Down}
use Rattle.cp_parts.specs.declared.down.Down.TheVariants as down

-- a disk fault comes only where the disk's count rose, and no step finds bytes bad
abbrev pub StepCause : (faults_before faults_now : ℕ) → Down → Type 0
StepCause before now down.DiskFault = Rose before now
StepCause before now down.JournalFull = Unit {0}
StepCause before now (down.BadFrame place) = ⊥
StepCause before now (down.BadRecord place) = ⊥
StepCause before now (down.BadSnapshot group) = ⊥
StepCause before now down.NoMemory = Unit {0}

abbrev pub of_store : StoreError → Down
of_store error.DiskFault = down.DiskFault
of_store error.Full = down.JournalFull
of_store (error.BadFrame place) = down.BadFrame place
of_store (error.BadRecord place) = down.BadRecord place
of_store error.NoMemory = down.NoMemory

-- A disk that failed leaves a store that is spent; nothing else does.
abbrev pub is_disk_fault : {T : Type 0} → Result T Down → Bool
is_disk_fault (Ok x) = false
is_disk_fault (Err down.DiskFault) = true
is_disk_fault (Err down.JournalFull) = false
is_disk_fault (Err (down.BadFrame place)) = false
is_disk_fault (Err (down.BadRecord place)) = false
is_disk_fault (Err (down.BadSnapshot group)) = false
is_disk_fault (Err down.NoMemory) = false
