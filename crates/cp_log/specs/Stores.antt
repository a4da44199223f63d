-- What contracts say of a store.
use Rattle.std.specs.Prelude.{Bool, ℕ}
use Rattle.cp_disk.specs.declared.disk.Disk.{Ghosts}
use Rattle.cp_journal.specs.Journals as journals
use Rattle.cp_log_rules.specs.Durable.{DurableState, first_state}
use Rattle.cp_log.specs.declared.store.Store.{Store}
use Rattle.cp_log.specs.Durables.{durable_of}

-- what it stands for
abbrev pub held_by : {D : Type 0} {ghosts : Ghosts D} → Store D ghosts → DurableState
held_by store = durable_of store.state

-- what it began with, before the first part
abbrev pub first_of : {D : Type 0} {ghosts : Ghosts D} → Store D ghosts → DurableState
first_of store = first_state store.managed store.size

-- its disk
abbrev pub disk_of : {D : Type 0} {ghosts : Ghosts D} → Store D ghosts → D
disk_of store = journals.disk_of store.journal

-- whether a disk fault has spent it
abbrev pub is_spent : {D : Type 0} {ghosts : Ghosts D} → Store D ghosts → Bool
is_spent store = store.spent

-- the bytes of its journal's file up to and with the last gate
abbrev pub bytes_of : {D : Type 0} {ghosts : Ghosts D} → Store D ghosts → ℕ
bytes_of store = journals.end_of store.journal
