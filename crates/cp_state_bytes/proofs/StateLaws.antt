-- The grammar of states is lawful.
use Rattle.std.proofs.Common.{refl}
use Rattle.cp_codec.specs.Exact.{IsByte}
use Rattle.cp_grammar.specs.Lawful.{IsLawful}
use Rattle.cp_grammar.specs.Grammar.{◌then◌}
use Rattle.cp_grammar.specs.Laws.{mapped_lawful, settled_lawful, seq_lawful, then_lawful}
use Rattle.cp_grammar.specs.FieldLaws.{lawful}
use Rattle.cp_grammar.specs.CommonLaws.{group_lawful}
use Rattle.cp_state_bytes.specs.declared.version.Version.{Version}
use Rattle.cp_state_bytes.specs.Versions.{version_grammar}
use Rattle.cp_state_bytes.specs.RowLaws.{version_lawful}
use Rattle.cp_state_bytes.proofs.ListLaws.{session_list_lawful, lock_list_lawful, semaphore_list_lawful, holding_list_lawful, latch_list_lawful, long_list_lawful, ref_list_lawful, gone_list_lawful, waiter_list_lawful, memory_list_lawful, pair_list_lawful}
use Rattle.cp_state_bytes.specs.Rules.{is_consistent}
use Rattle.cp_state_bytes.specs.States.{owners, objects, calls, state_of_parts, parts_of_state, lists_in, state_in, any_version}

pub owners_lawful : IsLawful IsByte owners
unfolding owners
owners_lawful = search (lawful, group_lawful, session_list_lawful, lock_list_lawful, semaphore_list_lawful, holding_list_lawful) depth 12

pub objects_lawful : (version : Version) → IsLawful IsByte (objects version)
unfolding objects
objects_lawful version = search (lawful, latch_list_lawful, long_list_lawful, ref_list_lawful, gone_list_lawful) depth 12

pub calls_lawful : (version : Version) → IsLawful IsByte (calls version)
unfolding calls
calls_lawful version = search (lawful, waiter_list_lawful, memory_list_lawful, pair_list_lawful) depth 12

pub lists_lawful : (version : Version) → IsLawful IsByte (lists_in version)
unfolding lists_in
lists_lawful version = mapped_lawful IsByte (owners then objects version then calls version)
    (then_lawful IsByte owners owners_lawful (objects version then calls version) (then_lawful IsByte (objects version) (objects_lawful version) (calls version) (calls_lawful version)))
    state_of_parts parts_of_state (λ x fits. refl)

pub state_lawful : (version : Version) → IsLawful IsByte (state_in version)
unfolding state_in
state_lawful version = settled_lawful IsByte (lists_in version) (lists_lawful version) is_consistent

pub any_version_lawful : IsLawful IsByte any_version
unfolding any_version
any_version_lawful = seq_lawful IsByte version_grammar version_lawful state_in state_lawful
