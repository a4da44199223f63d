-- Tables of locks.
use Rattle.std.specs.Prelude.{◌≡◌, ℕ, Bool, not, ◌&&◌, ◌||◌, ◌==◌, List, Option, Some, None, All, IsSome}
use Rattle.std.specs.List.{list_all}
use Rattle.cp_group_state.specs.declared.rows.LockRow.{LockRow}
use Rattle.cp_group_state.specs.Rows.{Named, find, name_cmp}
use Rattle.cp_group_state.specs.Locks.{is_free}
use Rattle.cp_group_state.specs.Invariants.{IsRising, LocksWell}

-- whether the lock is held, or every number in its row is 0
abbrev pub is_whole : LockRow → Bool
is_whole row = not (is_free row) || ((row.holder.session == 0) && ((row.holder.thread.0 == 0) && (row.fence == 0)))

abbrev pub are_whole : Named LockRow → Bool
are_whole rows = list_all (λ e. is_whole e.1) rows

-- rows that a table may have
pub record IsTable (rows : Named LockRow) : Type 0 where
  pub rising : IsRising name_cmp rows
  -- in the row of a free lock every number is 0
  pub well : LocksWell rows

-- the table of these rows, or none where they are no table's
abbrev pub MakesTable : Named LockRow → Option (Named LockRow) → Type 0
MakesTable rows None = IsTable rows → ⊥
MakesTable rows (Some locks) = (locks ≡ rows) × IsTable rows

-- each of these names has a row
abbrev pub AreThere : List (List ℕ) → Named LockRow → Type 0
AreThere names rows = All (λ name. IsSome (find name_cmp rows name)) names
