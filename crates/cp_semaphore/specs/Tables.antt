-- The two tables of semaphores: their rows, and what sessions hold.
use Rattle.std.specs.Prelude.{◌≡◌, ◌^◌, ◌<◌, ◌≤◌, ◌≤ℤ◌, ◌<ℤ◌, ℕ, ℤ, List, pos, neg_ℤ, Some, length}
use Rattle.cp_group_state.specs.Rows.{Object, find, most, object_cmp, holding_cmp}
use Rattle.cp_group_state.specs.Invariants.{IsRising, IsBalanced}
use Rattle.cp_group_state.specs.Semaphores.{Semaphores, held}
use Rattle.cp_group_state.specs.declared.rows.SemaphoreRow.{SemaphoreRow}
use Rattle.cp_semaphore.specs.Nested.{flat, IsNested}
use Rattle.cp_semaphore.specs.declared.tables.Tables.{Tables}

-- the tables as the group's definitions see them
abbrev pub seen : Tables → Semaphores
seen t = record { rows = t.rows.entries; holdings = flat t.holdings.entries }

-- The numbers of a row fit: no sum or difference with a number of 32 bits passes 64 bits.
pub record IsInRange (row : SemaphoreRow) : Type 0 where
  pub low : neg_ℤ (pos (2 ^ 31)) ≤ℤ row.available
  pub between : row.available ≤ℤ row.total
  pub high : row.total <ℤ pos (2 ^ 32)

-- what may stand available at least, and what the greatest total is
pub record IsWithin (row : SemaphoreRow) : Type 0 where
  pub low : neg_ℤ (pos (2 ^ 31)) ≤ℤ row.available
  pub high : row.total <ℤ pos (2 ^ 32)

abbrev pub RowsWithin : List (Object × SemaphoreRow) → Type 0
RowsWithin rows = (key : Object) (row : SemaphoreRow) → find object_cmp rows key ≡ Some row → IsWithin row

-- Keys rise, totals are what stands available and what is held, numbers are within their bounds, and there are no more
-- semaphores than the limit.
pub record IsSound (s : Semaphores) : Type 0 where
  pub rows : IsRising object_cmp s.rows
  pub holdings : IsRising holding_cmp s.holdings
  pub balanced : IsBalanced s
  pub within : RowsWithin s.rows
  pub few : length s.rows ≤ most

pub record IsTable (t : Tables) : Type 0 where
  pub nested : IsNested t.holdings.entries
  pub sound : IsSound (seen t)

-- what is known where a call meets this row
pub record IsMet (t : Tables) (key : Object) (row : SemaphoreRow) : Type 0 where
  pub there : find object_cmp t.rows.entries key ≡ Some row
  pub nested : IsNested t.holdings.entries
  pub range : IsInRange row
  pub fits : (session : ℕ) → held (flat t.holdings.entries) session key.0 < 2 ^ 33
