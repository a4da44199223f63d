-- The next move to a member that joins, with its group.
use Rattle.std.specs.Prelude.{ℕ, List, Option}
use Rattle.std.specs.Option.{option_map}
use Rattle.cp_meta_state.specs.declared.rows.GroupRow.{GroupRow}
use Rattle.cp_meta_state.specs.declared.rows.MoveRow.{MoveRow}
use Rattle.cp_meta_state.specs.MetaState.{Groups, Moves}
use Rattle.cp_meta_state.specs.Joining.{giver, next_for}

abbrev pub move_for : ℕ → ℕ → ℕ × GroupRow → ℕ × MoveRow
move_for from to e = (e.0, record { plan = e.1.index; add = to; remove = from })

abbrev pub next_move : ℕ → List ℕ → Groups → Moves → Option (ℕ × MoveRow)
next_move m members groups moves = let from = giver members groups moves in option_map (move_for from.0 m) (next_for m from groups moves)
