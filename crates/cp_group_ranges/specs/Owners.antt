-- Whose permits and memory rows are: of sessions that are open. So a snapshot can count them.
use Rattle.std.specs.Prelude.{◌≡◌, ℕ, ◌≤◌, true, List, length, is_some}
use Rattle.std.specs.List.{AllByRecursion}
use Rattle.std.specs.Ordering.{nat_cmp}
use Rattle.cp_group_state.specs.declared.rows.SessionRow.{SessionRow}
use Rattle.cp_group_state.specs.declared.rows.MemoryRow.{MemoryRow}
use Rattle.cp_group_state.specs.declared.rows.Waiter.{Waiter}
use Rattle.cp_group_state.specs.Rows.{find}
use Rattle.cp_group_state.specs.Memory.{has_memory}
use Rattle.cp_group_state.specs.GroupState.{GroupState}

abbrev pub IsOpen : List (ℕ × SessionRow) → ℕ → Type 0
IsOpen rows session = is_some (find nat_cmp rows session) ≡ true

-- Permits are held and calls are remembered for open sessions alone, and a call that will be remembered waits in one.
pub record IsOwned (s : GroupState) : Type 0 where
  pub holdings : AllByRecursion (λ (e : (ℕ × List ℕ) × ℕ). IsOpen s.sessions e.0.0) s.semaphores.holdings
  pub memory : AllByRecursion (λ (e : (ℕ × ℕ) × MemoryRow). IsOpen s.sessions e.0.0) s.memory
  pub waiters : AllByRecursion (λ (w : Waiter). has_memory w.kind ≡ true → IsOpen s.sessions w.session) s.waiters

-- at most one holding for a session and a semaphore, and nine memory rows for a session
pub record IsCounted (s : GroupState) : Type 0 where
  pub holdings : length s.semaphores.holdings ≤ 100000000
  pub memory : length s.memory ≤ 90000
