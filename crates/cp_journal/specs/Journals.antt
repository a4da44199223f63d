-- The parts of a journal that contracts name.
use Rattle.std.specs.Prelude.{Bool, ℕ}
use Rattle.cp_disk.specs.declared.disk.Disk.{Ghosts}
use Rattle.cp_journal.specs.declared.journal.Journal.{Journal}

-- its disk
abbrev pub disk_of : {D : Type 0} {ghosts : Ghosts D} → Journal D ghosts → D
disk_of journal = journal.disk

-- whether a disk fault has spent it
abbrev pub is_spent : {D : Type 0} {ghosts : Ghosts D} → Journal D ghosts → Bool
is_spent journal = journal.spent

-- the file's bytes up to and with the last gate
abbrev pub end_of : {D : Type 0} {ghosts : Ghosts D} → Journal D ghosts → ℕ
end_of journal = journal.end
