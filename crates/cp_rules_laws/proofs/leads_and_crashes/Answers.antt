use Rattle.std.proofs.Common.{inl, refl}
use Rattle.cp_codec.specs.Fields.{big_endian}
use Rattle.cp_grammar.specs.Grammar.{whole}
use Rattle.cp_grammar.specs.Fields.{mark_reading, number_reading}
use Rattle.cp_grammar.specs.Lists.{items_spelling, items_reading}
use Rattle.cp_grammar.specs.Common.{index, client_id, thread_no, invocation, member_after, members}
use Rattle.cp_parts.specs.Configs.{config_grammar, members_entry, config_in}
use Rattle.cp_log_rules.specs.Configurations.{config_after}
use Rattle.cp_rules_laws.proofs.Worked.{happens, makes}
use Rattle.cp_rules_laws.proofs.leads_and_crashes.Goals as goal

pub returns : goal.returns
unfolding big_endian whole mark_reading number_reading items_spelling items_reading index client_id thread_no invocation member_after members config_grammar members_entry config_in config_after
returns c = record { happens = happens; role = refl; log = refl; led = inl (refl, refl, refl); made = inl makes }
