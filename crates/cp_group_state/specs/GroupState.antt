-- The state of a group. Lists under keys are in rising order of the keys; waiters are in order of arrival.
use Rattle.std.specs.Prelude.{ℕ, ℤ, List, [], Option}
use Rattle.cp_base.specs.declared.identifier.GroupId.{GroupId}
use Rattle.cp_group_state.specs.Rows.{Named, Object}
use Rattle.cp_group_state.specs.Waiters.{Waiter}
use Rattle.cp_group_state.specs.Memory.{MemoryRow}
use Rattle.cp_group_state.specs.Sessions.{SessionRow}
use Rattle.cp_group_state.specs.Locks.{LockRow}
use Rattle.cp_group_state.specs.Semaphores.{Semaphores}
use Rattle.cp_group_state.specs.Latches.{LatchRow}

pub record GroupState : Type 0 where
  -- the number of the group where it was destroyed, else 0
  pub destroyed_group : GroupId
  pub sessions : List (ℕ × SessionRow)
  pub locks : Named LockRow
  pub semaphores : Semaphores
  pub latches : Named LatchRow
  pub longs : Named ℤ
  pub refs : Named (Option (List ℕ))
  -- under the name of the map and the key
  pub maps : List ((List ℕ × List ℕ) × List ℕ)
  -- the objects that were destroyed, whose names stay taken
  pub gone : List (Object × Unit {0})
  pub waiters : List Waiter
  -- under the session and its thread
  pub memory : List ((ℕ × ℕ) × MemoryRow)

abbrev pub empty : GroupState
empty = record {
  destroyed_group = record { 0 = 0 };
  sessions = [];
  locks = [];
  semaphores = record { rows = []; holdings = [] };
  latches = [];
  longs = [];
  refs = [];
  maps = [];
  gone = [];
  waiters = [];
  memory = [];
}
