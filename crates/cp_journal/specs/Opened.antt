-- What opening a file gives, or why it is refused.
use Rattle.std.specs.Prelude.{ℕ, IfOk, Vec}
use Rattle.std.specs.declared.alloc.Global.{Global}
use Rattle.std.specs.declared.result.Result.{Result}
use Rattle.cp_disk.specs.declared.disk.Disk.{Ghosts}
use Rattle.cp_journal.specs.declared.error.JournalError.{JournalError}
use Rattle.cp_journal.specs.Errors.{OpenCause}
use Rattle.cp_journal.specs.Found.{lists}
use Rattle.cp_journal.specs.Opening.{IsOpened}
use Rattle.cp_journal.specs.Records.{records_of}

-- where the disk tells its bytes, the bodies of its records from before, with the place behind the last gate
abbrev pub GivesRecords : {D : Type 0} → Ghosts D → D → D → Result (Vec (Vec ℕ Global) Global × ℕ) JournalError → Type 0
GivesRecords disks old new result =
    disks.Told → IfOk result (λ opened. IsOpened (lists opened.0.items) opened.1 (disks.seen old) (disks.seen new) (disks.may_leave new))

-- why a run of calls that opens a file was refused
abbrev pub OpeningCause : {D : Type 0} → Ghosts D → D → D → JournalError → Type 0
OpeningCause disks old new error = OpenCause (disks.faults old) (disks.faults new) disks.Told (records_of (disks.seen old)) error
