-- When a run of calls of a disk may answer an error.
use Rattle.std.specs.Prelude.{◌≡◌, ◌≤◌, ℕ, IfErr}
use Rattle.std.specs.declared.result.Result.{Result}
use Rattle.cp_disk.specs.declared.disk.Disk.{Ghosts}
use Rattle.cp_disk.specs.declared.disk.Fault.{Fault}
use Rattle.cp_disk.specs.declared.disk.Fault.TheVariants as fault
use Rattle.cp_base.specs.Faults.{Rose}

abbrev pub RunCause : (before now starved_before starved_now : ℕ) → Fault → Type 0
RunCause before now starved_before starved_now fault.Failed = Rose before now
RunCause before now starved_before starved_now fault.NoMemory = Rose starved_before starved_now

-- no count of the disk falls, no order was given, and an error comes only where its count rose
pub record CountsRun {D T : Type 0} (disks : Ghosts D) (old new : D) (result : Result T Fault) : Type 0 where
  pub later : disks.faults old ≤ disks.faults new
  pub starved_later : disks.starved old ≤ disks.starved new
  pub orders : disks.orders new ≡ disks.orders old
  pub failed : IfErr result (RunCause (disks.faults old) (disks.faults new) (disks.starved old) (disks.starved new))
