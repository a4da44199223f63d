-- What is stored of a group, by who reads it.
use Rattle.cp_log_rules.specs.Persistent.{PersistentState}
use Rattle.cp_rules.specs.Leadership.{created_part}
use Rattle.cp_rules.specs.Persistent.{ballot, with_part, SnapshotPart}
use Rattle.cp_replicate.specs.declared.by_index.Log as log
use Rattle.cp_raft_state.specs.declared.appended.Appended.{Appended}
use Rattle.cp_raft_state.specs.declared.snapshotted.Snapshotted.{Snapshotted}

-- a group with one entry more
abbrev pub appended_to : {G : Type 0} {ghosts : log.Ghosts G} → (G → PersistentState) → Appended G ghosts → PersistentState
appended_to stored a = with_part (created_part (stored a.before.now) a.ballot a.entry.now) (stored a.before.now)

-- a group with a snapshot of its own
abbrev pub snapshotted_from : {G : Type 0} {ghosts : log.Ghosts G} → (G → PersistentState) → Snapshotted G ghosts → PersistentState
snapshotted_from stored s = with_part (SnapshotPart (ballot (stored s.before.now)) s.index s.bytes.now) (stored s.before.now)
