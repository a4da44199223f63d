-- For each thread of a session the last call that is answered once, with its answer, or none while it waits.
use Rattle.std.specs.Prelude.{ℕ, Bool, true, false, ◌==◌, List, [], ◌∷◌, Option, Some, None, if◌then◌else◌}
use Rattle.cp_op_values.specs.declared.kind.Kind.{Kind}
use Rattle.cp_op_values.specs.declared.kind.Kind.TheVariants as kind
use Rattle.cp_answers.specs.declared.answer.Answer.{Answer}
use Rattle.cp_base.specs.declared.identifier.ThreadNo.{ThreadNo}
use Rattle.cp_group_state.specs.Rows.{find, put, holder_cmp}
use Rattle.cp_group_state.specs.Waiters.{Ended}
pub use Rattle.cp_group_state.specs.declared.rows.MemoryRow.{MemoryRow}

-- the kinds whose waiters have a memory row
abbrev pub has_memory : Kind → Bool
has_memory kind.Long = false
has_memory kind.Ref = false
has_memory kind.Lock = true
has_memory kind.Sem = true
has_memory kind.Jsem = false
has_memory kind.Latch = false
has_memory kind.Map = false

abbrev pub remember : List ((ℕ × ℕ) × MemoryRow) → ℕ → ThreadNo → ℕ → Option Answer → List ((ℕ × ℕ) × MemoryRow)
remember rows session thread number answer = put holder_cmp rows (session, thread.0) (record { number = number; answer = answer })

abbrev pub note_at : List ((ℕ × ℕ) × MemoryRow) → Ended → Option MemoryRow → List ((ℕ × ℕ) × MemoryRow)
note_at rows e None = rows
note_at rows e (Some row) =
    if row.number == e.waiter.call.number then remember rows e.waiter.session e.waiter.call.thread row.number (Some e.answer) else rows

-- the row of a waiter that ended holds its answer
abbrev pub note : List ((ℕ × ℕ) × MemoryRow) → Ended → List ((ℕ × ℕ) × MemoryRow)
note rows e = if has_memory e.waiter.kind then note_at rows e (find holder_cmp rows (e.waiter.session, e.waiter.call.thread.0)) else rows

abbrev pub note_all : List ((ℕ × ℕ) × MemoryRow) → List Ended → List ((ℕ × ℕ) × MemoryRow)
note_all rows [] = rows
note_all rows (e ∷ es) = note_all (note rows e) es
