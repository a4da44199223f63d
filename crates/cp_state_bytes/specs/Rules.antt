-- The rules that bind the lists of a group's state to one another. They are of no single field.
use Rattle.std.specs.Prelude.{ℕ, Bool, true, not, ◌&&◌, ◌||◌, ℤ, pos, ◌+ℤ◌, List, [], ◌∷◌, is_some}
use Rattle.std.specs.List.{list_all, list_any}
use Rattle.std.specs.Ordering.{int_eq}
use Rattle.cp_op_values.specs.declared.kind.Kind.TheVariants as kind
use Rattle.cp_group_state.specs.declared.rows.SessionRow.{SessionRow}
use Rattle.cp_group_state.specs.declared.rows.SemaphoreRow.{SemaphoreRow}
use Rattle.cp_group_state.specs.declared.rows.Waiter.{Waiter}
use Rattle.cp_group_state.specs.Rows.{Object, find, object_cmp}
use Rattle.cp_group_state.specs.Waiters.{same_client, stands}
use Rattle.cp_group_state.specs.Semaphores.{Semaphores}
use Rattle.cp_group_state.specs.Invariants.{held_of}
use Rattle.cp_group_state.specs.GroupState.{GroupState}
use Rattle.cp_group_ranges.specs.Rows.{is_semaphore}
use Rattle.cp_lock.specs.Tables.{are_whole}

-- no two sessions have one client
abbrev pub clients_differ : List (ℕ × SessionRow) → Bool
clients_differ [] = true
clients_differ (e ∷ es) = not (list_any (λ f. same_client e.1.client f.1.client) es) && clients_differ es

-- no two waiters are of one call
abbrev pub calls_differ : List Waiter → Bool
calls_differ [] = true
calls_differ (w ∷ ws) = not (stands w.call ws) && calls_differ ws

-- each total is what stands available and what sessions hold
abbrev pub are_balanced : Semaphores → Bool
are_balanced s = list_all (λ e. int_eq e.1.total (e.1.available +ℤ pos (held_of e.0 s.holdings))) s.rows

-- what sessions hold is of semaphores that are there
abbrev pub holdings_stand : Semaphores → Bool
holdings_stand s = list_all (λ e. is_some (find object_cmp s.rows (e.0.1, kind.Sem))) s.holdings

-- calls wait for semaphores that are there
abbrev pub waiters_stand : List (Object × SemaphoreRow) → List Waiter → Bool
waiters_stand rows waiters = list_all (λ w. not (is_semaphore w.kind) || is_some (find object_cmp rows (w.name, w.kind))) waiters

-- permits are balanced, and the semaphores that are held and waited for are there
abbrev pub permits_are_consistent : GroupState → Bool
permits_are_consistent s = are_balanced s.semaphores && (holdings_stand s.semaphores && waiters_stand s.semaphores.rows s.waiters)

-- A lock without holds has nothing but zeros, no client has two sessions and no call two waiters, and permits are as they
-- should be.
unfoldable pub is_consistent : GroupState → Bool
is_consistent s = are_whole s.locks && (clients_differ s.sessions && (calls_differ s.waiters && permits_are_consistent s))
