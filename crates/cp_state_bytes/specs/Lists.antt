-- The lists of a group's state as bytes: a count, and the rows by rising keys, or in order of arrival.
use Rattle.std.specs.Prelude.{ℕ, ◌-◌, ◌^◌, ℤ, List, [], ◌∷◌, Option}
use Rattle.std.specs.Int.{w32}
use Rattle.std.specs.declared.cmp.Ordering.{Ordering}
use Rattle.cp_grammar.specs.Grammar.{Grammar, always, mapped}
use Rattle.cp_grammar.specs.Fields.{number}
use Rattle.cp_grammar.specs.Lists.{listed, each}
use Rattle.cp_group_state.specs.Rows.{Named, Object, most, put, holding_cmp}
use Rattle.cp_group_state.specs.declared.rows.SessionRow.{SessionRow}
use Rattle.cp_group_state.specs.declared.rows.LockRow.{LockRow}
use Rattle.cp_group_state.specs.declared.rows.SemaphoreRow.{SemaphoreRow}
use Rattle.cp_group_state.specs.declared.rows.LatchRow.{LatchRow}
use Rattle.cp_group_state.specs.declared.rows.Waiter.{Waiter}
use Rattle.cp_group_state.specs.declared.rows.MemoryRow.{MemoryRow}
use Rattle.cp_state_bytes.specs.declared.version.Version.{Version}
use Rattle.cp_state_bytes.specs.declared.version.Version.TheVariants as versions
use Rattle.cp_state_bytes.specs.Keys.{held_cmp}
use Rattle.cp_state_bytes.specs.Rows.{session_row, lock_row, semaphore_row, held_row, latch_row, long_row, ref_row, gone_row, waiter_row, memory_row, pair_row}

-- how many rows a list has that has a limit, and one that has none
abbrev pub limited : Grammar ℕ ℕ
limited = number w32 most

abbrev pub unlimited : Grammar ℕ ℕ
unlimited = number w32 (2 ^ 32 - 1)

unfoldable pub session_list : Grammar ℕ (List (ℕ × SessionRow))
session_list = listed limited session_row

unfoldable pub lock_list : Grammar ℕ (Named LockRow)
lock_list = listed limited lock_row

unfoldable pub semaphore_list : Grammar ℕ (List (Object × SemaphoreRow))
semaphore_list = listed limited semaphore_row

abbrev pub Holdings : Type 0
Holdings = List ((ℕ × List ℕ) × ℕ)

abbrev pub Held : Type 0
Held = List ((List ℕ × ℕ) × ℕ)

-- these rows with others put among them, under keys made of their own
abbrev pub sorted_into : {K L X : Type 0} → (L → L → Ordering) → (K → L) → List (L × X) → List (K × X) → List (L × X)
sorted_into cmp other rows [] = rows
sorted_into cmp other rows (e ∷ es) = sorted_into cmp other (put cmp rows (other e.0) e.1) es

abbrev pub turned : {A B : Type 0} → A × B → B × A
turned k = (k.1, k.0)

-- what sessions hold, by session and name, as the state has it, and by name and session, as the bytes have it
unfoldable pub by_session : Held → Holdings
by_session rows = sorted_into holding_cmp turned [] rows

unfoldable pub by_name : Holdings → Held
by_name rows = sorted_into held_cmp turned [] rows

unfoldable pub held_list : Grammar ℕ Held
held_list = listed unlimited held_row

unfoldable pub holding_list : Grammar ℕ Holdings
holding_list = mapped by_session by_name held_list

unfoldable pub latch_list : Grammar ℕ (Named LatchRow)
latch_list = listed limited latch_row

unfoldable pub long_list : Grammar ℕ (Named ℤ)
long_list = listed limited long_row

unfoldable pub ref_list : Version → Grammar ℕ (Named (Option (List ℕ)))
ref_list version = listed limited (ref_row version)

unfoldable pub gone_list : Version → Grammar ℕ (List (Object × Unit {0}))
gone_list version = listed limited (gone_row version)

unfoldable pub waiter_list : Grammar ℕ (List Waiter)
waiter_list = listed limited (each waiter_row)

unfoldable pub memory_list : Version → Grammar ℕ (List ((ℕ × ℕ) × MemoryRow))
memory_list version = listed unlimited (memory_row version)

-- maps came with the third version
unfoldable pub pair_list : Version → Grammar ℕ (List ((List ℕ × List ℕ) × List ℕ))
pair_list versions.First = always []
pair_list versions.Second = always []
pair_list versions.Third = listed limited pair_row
