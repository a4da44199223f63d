-- What a group remembers.
use Rattle.std.specs.Prelude.{◌≡◌, ℕ, Bool, false, ◌==◌, List, Option, Some, None}
use Rattle.cp_answers.specs.declared.answer.Answer.{Answer}
use Rattle.cp_group_state.specs.declared.rows.MemoryRow.{MemoryRow}
use Rattle.cp_group_state.specs.declared.rows.Waiter.{Waiter}
use Rattle.cp_group_state.specs.Rows.{holder_cmp}
use Rattle.cp_group_state.specs.Waiters.{Ended}
use Rattle.cp_group_state.specs.Invariants.{IsRising}

-- whether there is a row, of the call with this number
abbrev pub has_number : ℕ → Option MemoryRow → Bool
has_number number None = false
has_number number (Some row) = row.number == number

-- the waiter that ended with this answer
abbrev pub ended_by : Waiter → Answer → Ended
ended_by w a = record { waiter = w; answer = a }

-- the table of these rows, or none where their keys don't rise
abbrev pub MakesMemory : List ((ℕ × ℕ) × MemoryRow) → Option (List ((ℕ × ℕ) × MemoryRow)) → Type 0
MakesMemory rows None = IsRising holder_cmp rows → ⊥
MakesMemory rows (Some memory) = (memory ≡ rows) × IsRising holder_cmp rows
