-- Waiters that a semaphore serves.
use Rattle.std.specs.Prelude.{◌≡◌, ◌≤ℤ◌, ◌-ℤ◌, ℤ, pos, List, [], ◌∷◌, Some}
use Rattle.cp_group_state.specs.Rows.{Object, find, object_cmp}
use Rattle.cp_group_state.specs.Semaphores.{Semaphores, served}
use Rattle.cp_group_state.specs.declared.rows.SemaphoreRow.{SemaphoreRow}
use Rattle.cp_group_state.specs.declared.rows.Waiter.{Waiter}

-- these are the waiters, of some, that what stands available serves
abbrev pub AreServed : Object → List Waiter → Semaphores → Type 0
AreServed key waiters s = (ws : List Waiter) × ((row : SemaphoreRow) → find object_cmp s.rows key ≡ Some row → waiters ≡ served key row.available ws)

-- so much is enough for these, one after the other
abbrev pub IsEnough : ℤ → List Waiter → Type 0
IsEnough available [] = Unit {0}
IsEnough available (w ∷ ws) = (pos w.permits ≤ℤ available) × IsEnough (available -ℤ pos w.permits) ws

-- what stands available is enough for these
abbrev pub CanTake : Object → List Waiter → Semaphores → Type 0
CanTake key waiters s = (row : SemaphoreRow) → find object_cmp s.rows key ≡ Some row → IsEnough row.available waiters
