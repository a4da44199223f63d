-- The grammars of parts, entries, configurations and heads are lawful.
use Rattle.std.specs.Prelude.{ℕ}
use Rattle.cp_codec.specs.Exact.{IsByte}
use Rattle.cp_grammar.specs.Lawful.{IsLawful}
use Rattle.cp_grammar.specs.FieldLaws.{lawful}
use Rattle.cp_grammar.specs.CommonLaws.{index_lawful, group_lawful, invocation_lawful, members_lawful}
use Rattle.cp_parts.specs.Configs.{config_grammar, members_entry}
use Rattle.cp_parts.specs.LogEntries.{log_entry}
use Rattle.cp_parts.specs.Heads.{head_grammar}
use Rattle.cp_parts.specs.Parts.{entry_list, part_grammar}

pub config_lawful : IsLawful IsByte config_grammar
unfolding config_grammar
config_lawful = search (lawful, index_lawful, members_lawful) depth 12

pub members_entry_lawful : IsLawful IsByte members_entry
unfolding members_entry
members_entry_lawful = search (lawful, invocation_lawful, members_lawful) depth 12

pub log_entry_lawful : IsLawful IsByte log_entry
unfolding log_entry
log_entry_lawful = search (lawful, index_lawful) depth 12

pub head_lawful : IsLawful IsByte head_grammar
unfolding head_grammar
head_lawful = search (lawful, index_lawful, config_lawful) depth 12

pub entry_list_lawful : IsLawful IsByte entry_list
unfolding entry_list
entry_list_lawful = search (lawful, log_entry_lawful) depth 12

pub part_lawful : IsLawful IsByte part_grammar
unfolding part_grammar
part_lawful = search (lawful, index_lawful, group_lawful, members_lawful, entry_list_lawful) depth 20
