-- The grammar of METADATA's state is lawful.
use Rattle.cp_codec.specs.Exact.{IsByte}
use Rattle.cp_grammar.specs.Lawful.{IsLawful}
use Rattle.cp_grammar.specs.FieldLaws.{lawful}
use Rattle.cp_meta.specs.RowLaws.{member_row_lawful, group_row_lawful, destroyed_row_lawful, move_row_lawful}
use Rattle.cp_meta.specs.Bytes.{member_list, group_list, destroyed_list, move_list, lists_grammar, state_grammar, snapshot_grammar}

pub member_list_lawful : IsLawful IsByte member_list
unfolding member_list
member_list_lawful = search (lawful, member_row_lawful)

pub group_list_lawful : IsLawful IsByte group_list
unfolding group_list
group_list_lawful = search (lawful, group_row_lawful)

pub destroyed_list_lawful : IsLawful IsByte destroyed_list
unfolding destroyed_list
destroyed_list_lawful = search (lawful, destroyed_row_lawful)

pub move_list_lawful : IsLawful IsByte move_list
unfolding move_list
move_list_lawful = search (lawful, move_row_lawful)

pub lists_lawful : IsLawful IsByte lists_grammar
unfolding lists_grammar
lists_lawful = search (lawful, member_list_lawful, group_list_lawful, destroyed_list_lawful, move_list_lawful) depth 12

pub state_lawful : IsLawful IsByte state_grammar
unfolding state_grammar
state_lawful = search (lawful, lists_lawful)

pub snapshot_lawful : IsLawful IsByte snapshot_grammar
unfolding snapshot_grammar
snapshot_lawful = search (lawful, state_lawful)
