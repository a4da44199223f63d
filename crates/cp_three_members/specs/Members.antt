-- A member over its store.
use Rattle.std.specs.Prelude.{◌≡◌, ℕ, List, false}
use Rattle.cp_disk.specs.declared.memory.MemoryDisk.{MemoryDisk}
use Rattle.cp_disk.specs.declared.disk.Disk.{Ghosts}
use Rattle.cp_disk.specs.Medium.{history}
use Rattle.cp_disk.specs.Record.{seen_by}
use Rattle.cp_log.specs.declared.store.Store.{Store}
use Rattle.cp_log.specs.Stores.{held_by, is_spent}
use Rattle.cp_raft.specs.declared.raft.Raft.{Raft}
use Rattle.cp_raft.specs.Rafts.{MayGoOn, seat_of, state_of}

-- what a disk reads
abbrev pub bytes_of : MemoryDisk → List ℕ
bytes_of disk = seen_by (history disk.medium)

-- it may take a step
pub record IsReady {ghosts : Ghosts MemoryDisk} (store : Store MemoryDisk ghosts) (raft : Raft) : Type 0 where
  pub whole : is_spent store ≡ false
  pub may : MayGoOn (held_by store) (seat_of raft) (state_of raft)
