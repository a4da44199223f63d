-- METADATA's state as bytes: which bytes spell one, and the state that they restore.
use Rattle.std.specs.Prelude.{ℕ, Bool, ◌&&◌, List, Result, is_some, nat_le}
use Rattle.std.specs.Int.{w32}
use Rattle.std.specs.List.{list_all}
use Rattle.std.specs.Ordering.{nat_cmp}
use Rattle.cp_grammar.specs.Grammar.{Grammar, mapped, settled, ◌then◌, whole}
use Rattle.cp_grammar.specs.Fields.{number, marked}
use Rattle.cp_grammar.specs.Lists.{listed}
use Rattle.cp_op_values.specs.Numbers.{any_u32}
use Rattle.cp_group_state.specs.Rows.{find}
use Rattle.cp_meta_state.specs.declared.rows.TheConstants.{MOST_GROUPS, MOST_DESTROYED}
use Rattle.cp_meta_state.specs.MetaState.{MetaState, Standings, Groups, Moves}
use Rattle.cp_meta_state.specs.Destroying.{given_up}
use Rattle.cp_meta.specs.Rows.{member_row, group_row, destroyed_row, move_row}

-- ---- lists

unfoldable pub member_list : Grammar ℕ Standings
member_list = listed any_u32 member_row

unfoldable pub group_list : Grammar ℕ Groups
group_list = listed (number w32 MOST_GROUPS) group_row

unfoldable pub destroyed_list : Grammar ℕ (List (ℕ × Unit {0}))
destroyed_list = listed (number w32 MOST_DESTROYED) destroyed_row

unfoldable pub move_list : Grammar ℕ Moves
move_list = listed any_u32 move_row

-- ---- states

abbrev pub Lists : Type 0
Lists = Standings × (Groups × (List (ℕ × Unit {0}) × Moves))

abbrev pub state_of : Lists → MetaState
state_of p = record { members = p.0; groups = p.1.0; destroyed = p.1.1.0; moves = p.1.1.1 }

abbrev pub lists_of : MetaState → Lists
lists_of s = (s.members, (s.groups, (s.destroyed, s.moves)))

unfoldable pub lists_grammar : Grammar ℕ MetaState
lists_grammar = mapped state_of lists_of (member_list then group_list then destroyed_list then move_list)

-- each move is of a group that has a row
abbrev pub moves_have_groups : Groups → Moves → Bool
moves_have_groups groups moves = list_all (λ e. is_some (find nat_cmp groups e.0)) moves

-- The rules that bind the lists to one another. They are of no single field.
unfoldable pub is_consistent : MetaState → Bool
is_consistent s = nat_le (given_up s) MOST_DESTROYED && moves_have_groups s.groups s.moves

unfoldable pub state_grammar : Grammar ℕ MetaState
state_grammar = settled lists_grammar is_consistent

-- the version, and the state
unfoldable pub snapshot_grammar : Grammar ℕ MetaState
snapshot_grammar = marked 1 state_grammar

-- the bytes of a state
unfoldable pub spelled : MetaState → List ℕ
spelled s = snapshot_grammar.spelling s

-- the state that all of the bytes spell, else the place of the first field that fails
unfoldable pub restored : List ℕ → Result MetaState ℕ
restored bytes = whole snapshot_grammar bytes
