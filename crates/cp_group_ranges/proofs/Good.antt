-- States all whose lists keep their ranges, and the changes of one list.
use Rattle.std.proofs.Common.{ℕ, List}
use Rattle.std.specs.Prelude.{ℤ, Option}
use Rattle.std.specs.List.{AllByRecursion}
use Rattle.cp_base.specs.declared.identifier.GroupId.{GroupId}
use Rattle.cp_grammar.specs.Common.{group_id}
use Rattle.cp_group_state.specs.declared.rows.Waiter.{Waiter}
use Rattle.cp_group_state.specs.declared.rows.MemoryRow.{MemoryRow}
use Rattle.cp_group_state.specs.declared.rows.SessionRow.{SessionRow}
use Rattle.cp_group_state.specs.declared.rows.LockRow.{LockRow}
use Rattle.cp_group_state.specs.declared.rows.LatchRow.{LatchRow}
use Rattle.cp_group_state.specs.Rows.{Named, Object, name_cmp, object_cmp, pair_cmp}
use Rattle.cp_group_state.specs.Maps.{Pairs}
use Rattle.cp_group_state.specs.Semaphores.{Semaphores}
use Rattle.cp_group_state.specs.GroupState.{GroupState}
use Rattle.cp_group_ranges.specs.Rows.{LongFits, RefFits, PairFits, GoneFits, MemoryFits}
use Rattle.cp_group_ranges.proofs.Listed.{Kept}
use Rattle.cp_group_ranges.proofs.LockSteps.{LocksKept}
use Rattle.cp_group_ranges.proofs.LatchSteps.{LatchesKept}
use Rattle.cp_group_ranges.proofs.Permits.{PermitsKept, Grew}
use Rattle.cp_group_ranges.proofs.Calls.{SessionsKept, WaitersKept, kept-stand}

pub record Good (s : GroupState) : Type 0 where
  pub destroyed_group : group_id.Fits s.destroyed_group
  pub sessions : SessionsKept s.sessions
  pub locks : LocksKept s.locks
  pub permits : PermitsKept s.semaphores
  pub latches : LatchesKept s.latches
  pub longs : Kept name_cmp LongFits s.longs
  pub refs : Kept name_cmp RefFits s.refs
  pub maps : Kept pair_cmp PairFits s.maps
  pub gone : Kept object_cmp GoneFits s.gone
  pub waiters : WaitersKept s.semaphores.rows s.waiters
  pub memory : AllByRecursion MemoryFits s.memory

pub with-group : (s : GroupState) (x : GroupId) → group_id.Fits x → Good s → Good (record s { destroyed_group = x })
with-group s x k h = record { destroyed_group = k; sessions = h.sessions; locks = h.locks; permits = h.permits; latches = h.latches; longs = h.longs; refs = h.refs; maps = h.maps; gone = h.gone; waiters = h.waiters; memory = h.memory }

pub with-sessions : (s : GroupState) (x : List (ℕ × SessionRow)) → SessionsKept x → Good s → Good (record s { sessions = x })
with-sessions s x k h = record { destroyed_group = h.destroyed_group; sessions = k; locks = h.locks; permits = h.permits; latches = h.latches; longs = h.longs; refs = h.refs; maps = h.maps; gone = h.gone; waiters = h.waiters; memory = h.memory }

pub with-locks : (s : GroupState) (x : Named LockRow) → LocksKept x → Good s → Good (record s { locks = x })
with-locks s x k h = record { destroyed_group = h.destroyed_group; sessions = h.sessions; locks = k; permits = h.permits; latches = h.latches; longs = h.longs; refs = h.refs; maps = h.maps; gone = h.gone; waiters = h.waiters; memory = h.memory }

pub with-permits : (s : GroupState) (x : Semaphores) → PermitsKept x → Grew s.semaphores x → Good s → Good (record s { semaphores = x })
with-permits s x k grew h = record { destroyed_group = h.destroyed_group; sessions = h.sessions; locks = h.locks; permits = k; latches = h.latches; longs = h.longs; refs = h.refs; maps = h.maps; gone = h.gone; waiters = kept-stand s.semaphores.rows x.rows s.waiters grew h.waiters; memory = h.memory }

pub with-latches : (s : GroupState) (x : Named LatchRow) → LatchesKept x → Good s → Good (record s { latches = x })
with-latches s x k h = record { destroyed_group = h.destroyed_group; sessions = h.sessions; locks = h.locks; permits = h.permits; latches = k; longs = h.longs; refs = h.refs; maps = h.maps; gone = h.gone; waiters = h.waiters; memory = h.memory }

pub with-longs : (s : GroupState) (x : Named ℤ) → Kept name_cmp LongFits x → Good s → Good (record s { longs = x })
with-longs s x k h = record { destroyed_group = h.destroyed_group; sessions = h.sessions; locks = h.locks; permits = h.permits; latches = h.latches; longs = k; refs = h.refs; maps = h.maps; gone = h.gone; waiters = h.waiters; memory = h.memory }

pub with-refs : (s : GroupState) (x : Named (Option (List ℕ))) → Kept name_cmp RefFits x → Good s → Good (record s { refs = x })
with-refs s x k h = record { destroyed_group = h.destroyed_group; sessions = h.sessions; locks = h.locks; permits = h.permits; latches = h.latches; longs = h.longs; refs = k; maps = h.maps; gone = h.gone; waiters = h.waiters; memory = h.memory }

pub with-maps : (s : GroupState) (x : Pairs) → Kept pair_cmp PairFits x → Good s → Good (record s { maps = x })
with-maps s x k h = record { destroyed_group = h.destroyed_group; sessions = h.sessions; locks = h.locks; permits = h.permits; latches = h.latches; longs = h.longs; refs = h.refs; maps = k; gone = h.gone; waiters = h.waiters; memory = h.memory }

pub with-gone : (s : GroupState) (x : List (Object × Unit {0})) → Kept object_cmp GoneFits x → Good s → Good (record s { gone = x })
with-gone s x k h = record { destroyed_group = h.destroyed_group; sessions = h.sessions; locks = h.locks; permits = h.permits; latches = h.latches; longs = h.longs; refs = h.refs; maps = h.maps; gone = k; waiters = h.waiters; memory = h.memory }

pub with-calls : (s : GroupState) (ws : List Waiter) (m : List ((ℕ × ℕ) × MemoryRow)) → WaitersKept s.semaphores.rows ws → AllByRecursion MemoryFits m → Good s → Good (record s { waiters = ws; memory = m })
with-calls s ws m k l h = record { destroyed_group = h.destroyed_group; sessions = h.sessions; locks = h.locks; permits = h.permits; latches = h.latches; longs = h.longs; refs = h.refs; maps = h.maps; gone = h.gone; waiters = k; memory = l }

-- semaphores may go on which nobody waits
pub with-fewer : (s : GroupState) (x : Semaphores) → PermitsKept x → WaitersKept x.rows s.waiters → Good s → Good (record s { semaphores = x })
with-fewer s x k w h = record { destroyed_group = h.destroyed_group; sessions = h.sessions; locks = h.locks; permits = k; latches = h.latches; longs = h.longs; refs = h.refs; maps = h.maps; gone = h.gone; waiters = w; memory = h.memory }
