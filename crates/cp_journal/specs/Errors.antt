-- When a call of a journal may answer an error.
use Rattle.std.specs.Prelude.{◌≡◌, ◌≤◌, ℕ, List, Err, IfErr}
use Rattle.std.specs.declared.result.Result.{Result}
use Rattle.cp_disk.specs.declared.disk.Disk.{Ghosts}
use Rattle.cp_journal.specs.declared.error.JournalError.{JournalError}
use Rattle.cp_journal.specs.declared.error.JournalError.TheVariants as error
use Rattle.cp_base.specs.Faults.{Rose}

-- a disk fault comes only where the disk's count rose
abbrev pub DiskCause : (before now : ℕ) → JournalError → Type 0
DiskCause before now error.DiskFault = Rose before now
DiskCause before now error.Full = Unit {0}
DiskCause before now (error.BadFrame place) = Unit {0}
DiskCause before now error.NoMemory = Unit {0}

-- no count of the disk falls, no order was given, and a disk fault comes only where its count rose
pub record CountsDisk {D T : Type 0} (disks : Ghosts D) (old new : D) (result : Result T JournalError) : Type 0 where
  pub later : disks.faults old ≤ disks.faults new
  pub starved_later : disks.starved old ≤ disks.starved new
  pub orders : disks.orders new ≡ disks.orders old
  pub failed : IfErr result (DiskCause (disks.faults old) (disks.faults new))

-- why a run of reads ended
abbrev pub ReadCause : (before now : ℕ) → JournalError → Type 0
ReadCause before now error.DiskFault = Rose before now
ReadCause before now error.Full = ⊥
ReadCause before now (error.BadFrame place) = ⊥
ReadCause before now error.NoMemory = Unit {0}

-- Why a journal was not opened. A bad frame comes, where the disk tells its bytes, only at the place that the file's
-- records tell.
abbrev pub OpenCause : (before now : ℕ) → Type 0 → Result (List (List ℕ)) ℕ → JournalError → Type 0
OpenCause before now told records error.DiskFault = Rose before now
OpenCause before now told records error.Full = ⊥
OpenCause before now told records (error.BadFrame place) = told → records ≡ Err place
OpenCause before now told records error.NoMemory = Unit {0}
