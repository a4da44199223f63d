use Rattle.std.proofs.Common.{◌≡◌, [], ◌∷◌, refl}
use Rattle.cp_codec.specs.Fields.{big_endian}
use Rattle.cp_grammar.specs.Grammar.{whole}
use Rattle.cp_grammar.specs.Fields.{mark_reading, number_reading}
use Rattle.cp_grammar.specs.Lists.{items_spelling, items_reading}
use Rattle.cp_grammar.specs.Common.{index, client_id, thread_no, invocation, member_after, members}
use Rattle.cp_parts.specs.Configs.{config_grammar, members_entry, config_in}
use Rattle.cp_parts.specs.Heads.{head_grammar, head_of}
use Rattle.cp_log_rules.specs.Configurations.{config_after}
use Rattle.cp_rules.specs.Worked.{restarted, empty}
use Rattle.cp_rules.proofs.restarts_from_a_snapshot.Goals as goal

base : (restarted.seats 1).stored.base ≡ 2
unfolding big_endian whole mark_reading number_reading items_spelling items_reading index client_id thread_no invocation member_after members config_grammar members_entry config_in head_grammar head_of config_after
base = refl

term : (restarted.seats 1).stored.base_term ≡ 1
unfolding big_endian whole mark_reading number_reading items_spelling items_reading index client_id thread_no invocation member_after members config_grammar members_entry config_in head_grammar head_of config_after
term = refl

log : (restarted.seats 1).stored.log ≡ empty 2 ∷ []
unfolding big_endian whole mark_reading number_reading items_spelling items_reading index client_id thread_no invocation member_after members config_grammar members_entry config_in head_grammar head_of config_after
log = refl

commit : (restarted.seats 1).state.commit ≡ 3
unfolding big_endian whole mark_reading number_reading items_spelling items_reading index client_id thread_no invocation member_after members config_grammar members_entry config_in head_grammar head_of config_after
commit = refl

pub returns : goal.returns
returns c = record { base = base; term = term; log = log; commit = commit }
