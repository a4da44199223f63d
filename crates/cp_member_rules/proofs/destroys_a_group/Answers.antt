use Rattle.std.proofs.Common.{refl}
use Rattle.cp_codec.specs.Fields.{big_endian}
use Rattle.cp_grammar.specs.Grammar.{whole}
use Rattle.cp_grammar.specs.Fields.{mark_reading, number_reading, signed, bytes_reading}
use Rattle.cp_grammar.specs.Lists.{items_spelling, items_reading, each}
use Rattle.cp_grammar.specs.Common.{index, index_pair, name, group_id, client_id, thread_no, member_no, invocation, member_after, members}
use Rattle.cp_object_ops.specs.LongOps.{long_op}
use Rattle.cp_ops.specs.Entries.{entry_within}
use Rattle.cp_ops.specs.EntryValues.{session_list}
use Rattle.cp_ops.specs.Ops.{op_within}
use Rattle.cp_ops.specs.SessionOps.{session_op}
use Rattle.cp_parts.specs.Configs.{config_grammar, members_entry, config_in}
use Rattle.cp_parts.specs.Heads.{head_grammar, head_of}
use Rattle.cp_log_rules.specs.Configurations.{config_after}
use Rattle.cp_group_rules.specs.Views.{machine_in}
use Rattle.cp_member_rules.proofs.destroys_a_group.Goals as goal

pub returns : goal.returns
unfolding big_endian whole mark_reading number_reading signed bytes_reading items_spelling items_reading each index index_pair name group_id client_id thread_no member_no invocation member_after members long_op entry_within session_list op_within session_op config_grammar members_entry config_in head_grammar head_of config_after machine_in
returns c = record { part = refl; letters = refl; shows = refl; snapshots = refl; again = refl; silent = refl }
