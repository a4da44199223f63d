-- Groups are destroyed: first the row says so, and once all members have ended the group the row goes.
use Rattle.std.specs.Prelude.{ℕ, ◌+◌, Bool, true, ◌||◌, List, length, Option, Some, None, if◌then◌else◌, nat_lt, bytes_eq}
use Rattle.std.specs.List.{filter}
use Rattle.std.specs.Ordering.{nat_cmp}
use Rattle.cp_answers.specs.declared.answer.Answer.TheVariants as answer
use Rattle.cp_answers.specs.declared.argument.Argument.TheVariants as argument
use Rattle.cp_group_state.specs.Rows.{put, without}
use Rattle.cp_meta_state.specs.declared.rows.TheConstants.{MOST_DESTROYED}
use Rattle.cp_meta_state.specs.MetaState.{MetaState, Groups, GroupRow, group_at, metadata_name, default_name}
use Rattle.cp_meta_state.specs.Creating.{named}
use Rattle.cp_meta_state.specs.Says.{Says, says, bad}

-- the names of the first groups, which stay
abbrev pub is_fixed : List ℕ → Bool
is_fixed name = bytes_eq name metadata_name || bytes_eq name default_name

abbrev pub destroying_rows : Groups → ℕ
destroying_rows groups = length (filter (λ e. e.1.destroying) groups)

-- how many numbers are destroyed, or will be
abbrev pub given_up : MetaState → ℕ
given_up s = length s.destroyed + destroying_rows s.groups

-- the row says that the group is being destroyed, and its move goes
abbrev pub begun : ℕ → GroupRow → MetaState → MetaState
begun group row s = record s { groups = put nat_cmp s.groups group (record row { destroying = true }); moves = without nat_cmp s.moves group }

abbrev pub destroy_row : ℕ → GroupRow → MetaState → Says
destroy_row group row s = if row.destroying || is_fixed row.name then bad argument.Group s
    else if nat_lt (given_up s) MOST_DESTROYED then says answer.Ok (begun group row s)
    else says (answer.TableFull MOST_DESTROYED) s

abbrev pub destroy_by : Option (ℕ × GroupRow) → MetaState → Says
destroy_by None s = bad argument.Group s
destroy_by (Some e) s = destroy_row e.0 e.1 s

abbrev pub destroy : List ℕ → MetaState → Says
destroy name s = destroy_by (named s.groups name) s

-- the row and its move go, and the number is kept
abbrev pub end_row : ℕ → MetaState → MetaState
end_row group s = record s { groups = without nat_cmp s.groups group; destroyed = put nat_cmp s.destroyed group tt; moves = without nat_cmp s.moves group }

abbrev pub end_by : Option GroupRow → ℕ → MetaState → MetaState
end_by None group s = s
end_by (Some row) group s = if row.destroying then end_row group s else s

-- what the entry `destroyed` does
abbrev pub end_group : ℕ → MetaState → MetaState
end_group group s = end_by (group_at s group) group s
