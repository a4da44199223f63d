-- What is known of rows once their fields were read, and what all sessions hold of each semaphore.
use Rattle.std.specs.Prelude.{◌≡◌, ◌≤◌, ◌-◌, ◌^◌, ℕ, pos, ◌+ℤ◌, Bool, List, length, min, unwrap_or, if◌then◌else◌}
use Rattle.std.specs.List.{AllByRecursion, list_all}
use Rattle.std.specs.Ordering.{nat_cmp, int_eq}
use Rattle.cp_group_state.specs.declared.rows.SemaphoreRow.{SemaphoreRow}
use Rattle.cp_group_state.specs.Rows.{Object, find, most, name_cmp, object_cmp}
use Rattle.cp_group_state.specs.Semaphores.{is_held}
use Rattle.cp_group_state.specs.Invariants.{IsRising, held_by_all}
use Rattle.cp_group_state.specs.GroupState.{GroupState}
use Rattle.cp_group_ranges.specs.Rows.{SemaphoreFits}
use Rattle.cp_state_bytes.specs.Lists.{Holdings}

-- what is known of lists by their fields alone, as far as the rules that bind them ask for it
pub record AreListed (s : GroupState) : Type 0 where
  pub sessions : IsRising nat_cmp s.sessions
  pub semaphores : IsRising object_cmp s.semaphores.rows
  pub permits : AllByRecursion SemaphoreFits s.semaphores.rows
  pub waiters : length s.waiters ≤ most

abbrev pub sum_under : List (List ℕ × ℕ) → List ℕ → ℕ
sum_under sums name = unwrap_or (find name_cmp sums name) 0

-- what all sessions hold together under each name, up to the most that a number of 64 bits can say
abbrev pub AreSums : List (List ℕ × ℕ) → Holdings → Type 0
AreSums sums holdings = (name : List ℕ) → sum_under sums name ≡ min (held_by_all name holdings) (2 ^ 64 - 1)

abbrev pub held_in : List (List ℕ × ℕ) → Object → ℕ
held_in sums key = if is_held key.1 then sum_under sums key.0 else 0

abbrev pub are_balanced_by : List (List ℕ × ℕ) → List (Object × SemaphoreRow) → Bool
are_balanced_by sums rows = list_all (λ e. int_eq e.1.total (e.1.available +ℤ pos (held_in sums e.0))) rows
