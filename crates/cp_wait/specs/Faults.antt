-- When each error comes.
use Rattle.std.specs.Prelude.{◌≡◌, ◌<◌, ◌≤◌, true, List, length}
use Rattle.cp_group_state.specs.Rows.{most}
use Rattle.cp_group_state.specs.Waiters.{stands}
use Rattle.cp_group_state.specs.Invariants.{CallsDiffer}
use Rattle.cp_group_state.specs.declared.rows.Waiter.{Waiter}
use Rattle.cp_wait.specs.declared.waits.WaitError.{WaitError}
use Rattle.cp_wait.specs.declared.waits.WaitError.TheVariants as wait
use Rattle.cp_wait.specs.declared.waits.RowsError.{RowsError}
use Rattle.cp_wait.specs.declared.waits.RowsError.TheVariants as rows

abbrev pub IsWaitFault : WaitError → List Waiter → Type 0
IsWaitFault (wait.TableFull limit) ws = (limit ≡ most) × (most ≤ length ws)
IsWaitFault wait.NoMemory ws = Unit {0}

abbrev pub IsRowsFault : RowsError → List Waiter → Type 0
IsRowsFault rows.Repeated ws = ¬ CallsDiffer ws
IsRowsFault rows.TooMany ws = most < length ws
IsRowsFault rows.NoMemory ws = Unit {0}

-- why a waiter can't come behind these
abbrev pub IsSeatFault : RowsError → Waiter → List Waiter → Type 0
IsSeatFault rows.Repeated w ws = stands w.call ws ≡ true
IsSeatFault rows.TooMany w ws = most ≤ length ws
IsSeatFault rows.NoMemory w ws = Unit {0}
