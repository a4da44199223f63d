-- The state that lent tables hold.
use Rattle.cp_group_state.specs.GroupState.{GroupState}
use Rattle.cp_semaphore.specs.Nested.{flat}
use Rattle.cp_state_bytes.specs.declared.lent.LentState.{LentState}

abbrev pub state_lent : LentState → GroupState
state_lent r = record {
  destroyed_group = r.destroyed_group;
  sessions = r.sessions.now.entries;
  locks = r.locks.now.entries;
  semaphores = record { rows = r.semaphores.now.entries; holdings = flat r.holdings.now.entries };
  latches = r.latches.now.entries;
  longs = r.longs.now.entries;
  refs = r.refs.now.entries;
  maps = r.maps.now.entries;
  gone = r.gone.now.entries;
  waiters = r.waiters.now;
  memory = r.memory.now.entries;
}
