-- The grammars of lists are lawful.
use Rattle.cp_codec.specs.Exact.{IsByte}
use Rattle.cp_grammar.specs.Lawful.{IsLawful}
use Rattle.cp_grammar.specs.Laws.{mapped_lawful}
use Rattle.cp_grammar.specs.FieldLaws.{lawful}
use Rattle.cp_state_bytes.specs.declared.version.Version.{Version}
use Rattle.cp_state_bytes.specs.declared.version.Version.TheVariants as versions
use Rattle.cp_state_bytes.specs.RowLaws.{session_row_lawful, lock_row_lawful, semaphore_row_lawful, held_row_lawful, latch_row_lawful, long_row_lawful, ref_row_lawful, gone_row_lawful, waiter_row_lawful, memory_row_lawful, pair_row_lawful}
use Rattle.cp_state_bytes.specs.Lists.{by_session, by_name, session_list, lock_list, semaphore_list, held_list, holding_list, latch_list, long_list, ref_list, gone_list, waiter_list, memory_list, pair_list}
use Rattle.cp_state_bytes.proofs.Resorted.{by_name-by_session}
use Rattle.cp_state_bytes.proofs.Listed.{held_list_facts}

pub session_list_lawful : IsLawful IsByte session_list
unfolding session_list
session_list_lawful = search (lawful, session_row_lawful)

pub lock_list_lawful : IsLawful IsByte lock_list
unfolding lock_list
lock_list_lawful = search (lawful, lock_row_lawful)

pub semaphore_list_lawful : IsLawful IsByte semaphore_list
unfolding semaphore_list
semaphore_list_lawful = search (lawful, semaphore_row_lawful)

pub held_list_lawful : IsLawful IsByte held_list
unfolding held_list
held_list_lawful = search (lawful, held_row_lawful)

pub holding_list_lawful : IsLawful IsByte holding_list
unfolding holding_list
holding_list_lawful = mapped_lawful IsByte held_list held_list_lawful by_session by_name (λ rows fits. by_name-by_session rows (held_list_facts rows fits).rising)

pub latch_list_lawful : IsLawful IsByte latch_list
unfolding latch_list
latch_list_lawful = search (lawful, latch_row_lawful)

pub long_list_lawful : IsLawful IsByte long_list
unfolding long_list
long_list_lawful = search (lawful, long_row_lawful)

pub ref_list_lawful : (version : Version) → IsLawful IsByte (ref_list version)
unfolding ref_list
ref_list_lawful version = search (lawful, ref_row_lawful version)

pub gone_list_lawful : (version : Version) → IsLawful IsByte (gone_list version)
unfolding gone_list
gone_list_lawful version = search (lawful, gone_row_lawful version)

pub waiter_list_lawful : IsLawful IsByte waiter_list
unfolding waiter_list
waiter_list_lawful = search (lawful, waiter_row_lawful)

pub memory_list_lawful : (version : Version) → IsLawful IsByte (memory_list version)
unfolding memory_list
memory_list_lawful version = search (lawful, memory_row_lawful version)

pub pair_list_lawful : (version : Version) → IsLawful IsByte (pair_list version)
unfolding pair_list
pair_list_lawful versions.First = search lawful
pair_list_lawful versions.Second = search lawful
pair_list_lawful versions.Third = search (lawful, pair_row_lawful)
