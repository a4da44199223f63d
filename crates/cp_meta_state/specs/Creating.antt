-- Groups are made.
use Rattle.std.specs.Prelude.{ℕ, List, length, Option, Some, None, if◌then◌else◌, nat_lt, bytes_eq}
use Rattle.std.specs.List.{find}
use Rattle.std.specs.Ordering.{nat_cmp}
use Rattle.cp_answers.specs.declared.answer.Answer.{Answer}
use Rattle.cp_answers.specs.declared.answer.Answer.TheVariants as answer
use Rattle.cp_answers.specs.declared.argument.Argument.TheVariants as argument
use Rattle.cp_group_state.specs.Rows.{put, without}
use Rattle.cp_meta_state.specs.declared.rows.TheConstants.{MOST_GROUPS}
use Rattle.cp_meta_state.specs.MetaState.{MetaState, Groups, GroupRow, active, new_group}
use Rattle.cp_meta_state.specs.Loads.{loaded, lightest}
use Rattle.cp_meta_state.specs.Says.{Says, says, bad}

-- the group of a name, with its number
abbrev pub named : Groups → List ℕ → Option (ℕ × GroupRow)
named groups name = find (λ e. bytes_eq e.1.name name) groups

-- A row that has the number already gives way, with its move.
abbrev pub made : ℕ → List ℕ → List ℕ → MetaState → MetaState
made index name members s = record s { groups = put nat_cmp s.groups index (new_group name members); moves = without nat_cmp s.moves index }

-- the active members of least load, as many as a group is to have
abbrev pub chosen : ℕ → MetaState → List ℕ
chosen size s = lightest size (loaded s.groups s.moves (active s))

-- A new group has the index of its entry as its number, and stands on the active members of least load.
abbrev pub make : ℕ → List ℕ → ℕ → MetaState → Says
make index name size s = if nat_lt (length (active s)) size then bad argument.Size s
    else if nat_lt (length s.groups) MOST_GROUPS
    then says (answer.Group (record { 0 = index }) (chosen size s)) (made index name (chosen size s) s)
    else says (answer.TableFull MOST_GROUPS) s

-- what a name that is taken is answered
abbrev pub given : ℕ × GroupRow → Answer
given e = if e.1.destroying then answer.GroupDestroyed (record { 0 = e.0 }) else answer.Group (record { 0 = e.0 }) e.1.members

abbrev pub create_by : Option (ℕ × GroupRow) → ℕ → List ℕ → ℕ → MetaState → Says
create_by None index name size s = make index name size s
create_by (Some e) index name size s = says (given e) s

abbrev pub create : ℕ → List ℕ → ℕ → MetaState → Says
create index name size s = create_by (named s.groups name) index name size s
