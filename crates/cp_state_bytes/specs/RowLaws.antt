-- The grammars of rows are lawful.
use Rattle.std.specs.Prelude.{◌<◌, ◌-◌, ◌^◌, ℕ, ℤ, List, Option, Bool}
use Rattle.std.proofs.Common.{arith, refl}
use Rattle.cp_codec.specs.Exact.{IsByte}
use Rattle.cp_grammar.specs.Lawful.{IsLawful}
use Rattle.cp_grammar.specs.Grammar.{◌then◌}
use Rattle.cp_grammar.specs.Fields.{optional}
use Rattle.cp_grammar.specs.Fields.{number}
use Rattle.std.specs.Int.{w32}
use Rattle.cp_grammar.specs.Lists.{each}
use Rattle.cp_grammar.specs.ListLaws.{listed_lawful, each_lawful}
use Rattle.cp_grammar.specs.Common.{index, invocation}
use Rattle.cp_op_values.specs.Values.{reference}
use Rattle.cp_answers.specs.Answers.{answer_within}
use Rattle.cp_grammar.specs.Laws.{mapped_lawful, then_lawful}
use Rattle.cp_grammar.specs.FieldLaws.{lawful, u32_lawful, optional_lawful}
use Rattle.cp_grammar.specs.CommonLaws.{index_lawful, name_lawful, thread_lawful, client_lawful, invocation_lawful}
use Rattle.cp_op_values.specs.declared.kind.Kind.{Kind}
use Rattle.cp_op_values.specs.Laws.{reference_lawful, key_lawful, value_lawful, kind_lawful, wish_lawful}
use Rattle.cp_answers.specs.Laws.{answer_lawful}
use Rattle.cp_group_state.specs.Rows.{Object}
use Rattle.cp_group_state.specs.declared.rows.SessionRow.{SessionRow}
use Rattle.cp_group_state.specs.declared.rows.LockRow.{LockRow}
use Rattle.cp_group_state.specs.declared.rows.SemaphoreRow.{SemaphoreRow}
use Rattle.cp_group_state.specs.declared.rows.LatchRow.{LatchRow}
use Rattle.cp_group_state.specs.declared.rows.MemoryRow.{MemoryRow}
use Rattle.cp_group_state.specs.Latches.{most_counted}
use Rattle.cp_state_bytes.specs.declared.version.Version.{Version}
use Rattle.cp_state_bytes.specs.declared.version.Version.TheVariants as versions
use Rattle.cp_state_bytes.specs.Versions.{version_grammar, most_reference}
use Rattle.cp_state_bytes.specs.Rows.{name_behind, object_behind, session_row, lock_row, signed_permits, semaphore_row, held_row, counted_list, latch_row, long_row, ref_row, gone_row, waiter_row, holder_behind, memory_row, place_behind, pair_row}

pub version_lawful : IsLawful IsByte version_grammar
unfolding version_grammar
version_lawful = search lawful depth 12

pub few_bytes : (version : Version) → most_reference version < 2 ^ 32
few_bytes versions.First = omega arith
few_bytes versions.Second = omega arith
few_bytes versions.Third = omega arith

pub name_behind_lawful : {X : Type 0} (before : List (List ℕ × X)) → IsLawful IsByte (name_behind before)
unfolding name_behind
name_behind_lawful before = search (lawful, name_lawful)

pub object_behind_lawful : {X : Type 0} (kinds : Kind → Bool) (before : List (Object × X)) → IsLawful IsByte (object_behind kinds before)
unfolding object_behind
object_behind_lawful kinds before = search (lawful, name_lawful, kind_lawful) depth 12

pub session_row_lawful : (before : List (ℕ × SessionRow)) → IsLawful IsByte (session_row before)
unfolding session_row
session_row_lawful before = search (lawful, index_lawful, client_lawful) depth 12

pub lock_row_lawful : (before : List (List ℕ × LockRow)) → IsLawful IsByte (lock_row before)
unfolding lock_row
lock_row_lawful before = search (lawful, index_lawful, name_behind_lawful, thread_lawful) depth 14

pub signed_permits_lawful : IsLawful IsByte signed_permits
unfolding signed_permits
signed_permits_lawful = search lawful

pub semaphore_row_lawful : (before : List (Object × SemaphoreRow)) → IsLawful IsByte (semaphore_row before)
unfolding semaphore_row
semaphore_row_lawful before = search (lawful, object_behind_lawful, signed_permits_lawful) depth 12

pub held_row_lawful : (before : List ((List ℕ × ℕ) × ℕ)) → IsLawful IsByte (held_row before)
unfolding held_row
held_row_lawful before = search (lawful, index_lawful, name_lawful) depth 14

few_counted : (so_far most : ℕ) → most < 2 ^ 32 → most - so_far < 2 ^ 32
few_counted so_far most lt = omega arith

pub counted_list_lawful : (so_far : ℕ) → IsLawful IsByte (counted_list so_far)
unfolding counted_list
counted_list_lawful so_far = listed_lawful IsByte (each invocation) (each_lawful IsByte invocation invocation_lawful) (number w32 (most_counted - so_far)) (u32_lawful (most_counted - so_far) (few_counted so_far most_counted (omega arith)))

pub latch_row_lawful : (before : List (List ℕ × LatchRow)) → IsLawful IsByte (latch_row before)
unfolding latch_row
latch_row_lawful before = search (lawful, index_lawful, name_behind_lawful, counted_list_lawful) depth 14

pub long_row_lawful : (before : List (List ℕ × ℤ)) → IsLawful IsByte (long_row before)
unfolding long_row
long_row_lawful before = search (lawful, name_behind_lawful)

pub ref_row_lawful : (version : Version) (before : List (List ℕ × Option (List ℕ))) → IsLawful IsByte (ref_row version before)
unfolding ref_row
ref_row_lawful version before = then_lawful IsByte (name_behind before) (name_behind_lawful before) (reference (most_reference version)) (reference_lawful (most_reference version) (few_bytes version))

pub gone_row_lawful : (version : Version) (before : List (Object × Unit {0})) → IsLawful IsByte (gone_row version before)
unfolding gone_row
gone_row_lawful version before = search (lawful, object_behind_lawful)

pub waiter_row_lawful : IsLawful IsByte waiter_row
unfolding waiter_row
waiter_row_lawful = search (lawful, invocation_lawful, kind_lawful, name_lawful, index_lawful, wish_lawful) depth 16

pub holder_behind_lawful : (before : List ((ℕ × ℕ) × MemoryRow)) → IsLawful IsByte (holder_behind before)
unfolding holder_behind
holder_behind_lawful before = search (lawful, index_lawful) depth 12

memory_fields_lawful : (most : ℕ) → most < 2 ^ 32 → (before : List ((ℕ × ℕ) × MemoryRow)) → IsLawful IsByte (holder_behind before then index then optional (answer_within most))
memory_fields_lawful most below before = then_lawful IsByte (holder_behind before) (holder_behind_lawful before) (index then optional (answer_within most)) (then_lawful IsByte index index_lawful (optional (answer_within most)) (optional_lawful (answer_within most) (answer_lawful most below)))

pub memory_row_lawful : (version : Version) (before : List ((ℕ × ℕ) × MemoryRow)) → IsLawful IsByte (memory_row version before)
unfolding memory_row
memory_row_lawful version before = mapped_lawful IsByte (holder_behind before then index then optional (answer_within (most_reference version))) (memory_fields_lawful (most_reference version) (few_bytes version) before)
    (λ p. (p.0, record { number = p.1.0; answer = p.1.1 })) (λ e. (e.0, (e.1.number, e.1.answer))) (λ x fits. refl)

pub place_behind_lawful : (before : List ((List ℕ × List ℕ) × List ℕ)) → IsLawful IsByte (place_behind before)
unfolding place_behind
place_behind_lawful before = search (lawful, name_lawful, key_lawful) depth 12

pub pair_row_lawful : (before : List ((List ℕ × List ℕ) × List ℕ)) → IsLawful IsByte (pair_row before)
unfolding pair_row
pair_row_lawful before = search (lawful, place_behind_lawful, value_lawful)
