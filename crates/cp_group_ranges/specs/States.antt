-- Which states of a group are sound: those that a snapshot can spell, and that entries keep so.
use Rattle.std.specs.Prelude.{◌≡◌, ◌≤◌, true, List, length, is_some}
use Rattle.std.specs.List.{AllByRecursion}
use Rattle.cp_grammar.specs.Common.{group_id}
use Rattle.cp_group_state.specs.Rows.{Object, find, most, object_cmp}
use Rattle.cp_group_state.specs.declared.rows.Waiter.{Waiter}
use Rattle.cp_group_state.specs.declared.rows.SemaphoreRow.{SemaphoreRow}
use Rattle.cp_group_state.specs.Latches.{counted_calls, most_counted}
use Rattle.cp_group_state.specs.GroupState.{GroupState}
use Rattle.cp_group_state.specs.Invariants.{IsOrdered, OneSession, CallsDiffer, IsBalanced}
use Rattle.cp_group_ranges.specs.Rows.{SessionFits, LockFits, SemaphoreFits, HoldingFits, LatchFits, LongFits, RefFits, PairFits, GoneFits, WaiterFits, MemoryFits, is_semaphore}

-- At most 10,000 rows in each list, and at most 100,000 counted calls in all latches together. Holdings and memory rows have
-- no limit of their own.
pub record IsWithinLimits (s : GroupState) : Type 0 where
  pub sessions : length s.sessions ≤ most
  pub locks : length s.locks ≤ most
  pub semaphores : length s.semaphores.rows ≤ most
  pub latches : length s.latches ≤ most
  pub counted : counted_calls s.latches ≤ most_counted
  pub longs : length s.longs ≤ most
  pub refs : length s.refs ≤ most
  pub maps : length s.maps ≤ most
  pub gone : length s.gone ≤ most
  pub waiters : length s.waiters ≤ most

-- Each field of each row is within its range.
pub record StateFits (s : GroupState) : Type 0 where
  pub destroyed_group : group_id.Fits s.destroyed_group
  pub sessions : AllByRecursion SessionFits s.sessions
  pub locks : AllByRecursion LockFits s.locks
  pub semaphores : AllByRecursion SemaphoreFits s.semaphores.rows
  pub holdings : AllByRecursion HoldingFits s.semaphores.holdings
  pub latches : AllByRecursion LatchFits s.latches
  pub longs : AllByRecursion LongFits s.longs
  pub refs : AllByRecursion RefFits s.refs
  pub maps : AllByRecursion PairFits s.maps
  pub gone : AllByRecursion GoneFits s.gone
  pub waiters : AllByRecursion WaiterFits s.waiters
  pub memory : AllByRecursion MemoryFits s.memory
  pub limits : IsWithinLimits s

-- the semaphore on which a call waits is there
abbrev pub HasSemaphore : List (Object × SemaphoreRow) → Waiter → Type 0
HasSemaphore rows w = is_semaphore w.kind ≡ true → is_some (find object_cmp rows (w.name, w.kind)) ≡ true

pub record IsSound (s : GroupState) : Type 0 where
  pub fits : StateFits s
  pub ordered : IsOrdered s
  pub balanced : IsBalanced s.semaphores
  pub waiters_stand : AllByRecursion (HasSemaphore s.semaphores.rows) s.waiters
  pub one_session : OneSession s.sessions
  pub calls_differ : CallsDiffer s.waiters
