-- What is stored of a group of a store.
use Rattle.cp_disk.specs.declared.disk.Disk.{Ghosts}
use Rattle.cp_log_rules.specs.Persistent.{PersistentState}
use Rattle.cp_log_rules.specs.Durable.{group_in}
use Rattle.cp_log.specs.Stores.{held_by}
use Rattle.cp_raft.specs.declared.stored.Stored.{Stored}

abbrev pub stored_by : {D : Type 0} {ghosts : Ghosts D} → Stored D ghosts → PersistentState
stored_by s = group_in (held_by s.store.now) s.group.0
