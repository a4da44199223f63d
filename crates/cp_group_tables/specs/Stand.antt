-- Locks that have rows.
use Rattle.std.specs.Prelude.{ℕ, List, [], ◌∷◌, IsSome}
use Rattle.cp_group_state.specs.declared.rows.LockRow.{LockRow}
use Rattle.cp_group_state.specs.Rows.{Named, find, name_cmp}

-- each of these names has a row
abbrev pub EachStands : List (List ℕ) → Named LockRow → Type 0
EachStands [] rows = Unit {0}
EachStands (name ∷ names) rows = IsSome (find name_cmp rows name) × EachStands names rows
