-- The grammars of rows are lawful.
use Rattle.std.specs.Prelude.{ℕ, List}
use Rattle.cp_codec.specs.Exact.{IsByte}
use Rattle.cp_grammar.specs.Lawful.{IsLawful}
use Rattle.cp_grammar.specs.FieldLaws.{lawful}
use Rattle.cp_grammar.specs.CommonLaws.{index_lawful, name_lawful, member_after_lawful, members_lawful}
use Rattle.cp_meta_state.specs.MetaState.{Standings, Groups, Moves}
use Rattle.cp_meta.specs.Rows.{standing_grammar, number_behind, member_row, group_row, destroyed_row, move_row}

pub standing_lawful : IsLawful IsByte standing_grammar
unfolding standing_grammar
standing_lawful = search lawful depth 12

pub number_behind_lawful : {X : Type 0} (before : List (ℕ × X)) → IsLawful IsByte (number_behind before)
unfolding number_behind
number_behind_lawful before = search (lawful, index_lawful)

pub member_row_lawful : (before : Standings) → IsLawful IsByte (member_row before)
unfolding member_row
member_row_lawful before = search (lawful, member_after_lawful, standing_lawful)

pub group_row_lawful : (before : Groups) → IsLawful IsByte (group_row before)
unfolding group_row
group_row_lawful before = search (lawful, index_lawful, name_lawful, members_lawful, number_behind_lawful) depth 16

pub destroyed_row_lawful : (before : List (ℕ × Unit {0})) → IsLawful IsByte (destroyed_row before)
unfolding destroyed_row
destroyed_row_lawful before = search (lawful, number_behind_lawful)

pub move_row_lawful : (before : Moves) → IsLawful IsByte (move_row before)
unfolding move_row
move_row_lawful before = search (lawful, number_behind_lawful) depth 16
