-- A group has moved.
use Rattle.std.specs.Prelude.{ℕ, List, Option, Some, None, if◌then◌else◌, nat_lt}
use Rattle.std.specs.Ordering.{nat_cmp}
use Rattle.cp_group_state.specs.Rows.{put, without}
use Rattle.cp_meta_state.specs.MetaState.{MetaState, Groups, GroupRow, MoveRow, group_at, move_of}

-- the row with the configuration of this index
abbrev pub configured : Option GroupRow → ℕ → ℕ → List ℕ → Groups → Groups
configured None group at members rows = rows
configured (Some row) group at members rows = put nat_cmp rows group (record row { index = at; members = members })

abbrev pub settled : ℕ → ℕ → List ℕ → MetaState → MetaState
settled group at members s = record s { groups = configured (group_at s group) group at members s.groups; moves = without nat_cmp s.moves group }

-- a configuration not above the plan is an older one
abbrev pub move_by : Option MoveRow → ℕ → ℕ → List ℕ → MetaState → MetaState
move_by None group at members s = s
move_by (Some move) group at members s = if nat_lt move.plan at then settled group at members s else s

-- what the entry `moved` does
abbrev pub end_move : ℕ → ℕ → List ℕ → MetaState → MetaState
end_move group at members s = move_by (move_of s.moves group) group at members s
