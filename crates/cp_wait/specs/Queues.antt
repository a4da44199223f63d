-- The queue of waiters: its rows and its indexes.
use Rattle.std.specs.Prelude.{◌≡◌, ◌≤◌, ℤ, pos, ◌-ℤ◌, int_lt, List, [], ◌∷◌, length, Option, Some, None, if◌then◌else◌}
use Rattle.std.specs.Map.{lookup, values_of}
use Rattle.cp_base.specs.declared.identifier.Invocation.{Invocation}
use Rattle.cp_group_state.specs.Rows.{most}
use Rattle.cp_group_state.specs.Waiters.{same_call}
use Rattle.cp_group_state.specs.Invariants.{CallsDiffer}
use Rattle.cp_group_state.specs.declared.rows.Waiter.{Waiter}
use Rattle.cp_wait.specs.Arrivals.{under_calls}
use Rattle.cp_wait.specs.Indexes.{IsIndexed}
use Rattle.cp_wait.specs.declared.indexes.Indexes.{Indexes}

-- Each waiter stands under its own call, no call has two, there are no more than the limit, and the indexes are theirs.
pub record IsQueue (rows : List (Invocation × Waiter)) (i : Indexes) : Type 0 where
  pub own : rows ≡ under_calls (values_of rows)
  pub differ : CallsDiffer (values_of rows)
  pub few : length rows ≤ most
  pub indexed : IsIndexed (values_of rows) i

abbrev pub with_waiter : Option Waiter → List Waiter → List Waiter
with_waiter None ws = ws
with_waiter (Some w) ws = w ∷ ws

-- the waiters under these calls
abbrev pub waiters_at : List Invocation → List (Invocation × Waiter) → List Waiter
waiters_at [] rows = []
waiters_at (c ∷ cs) rows = with_waiter (lookup (same_call c) rows) (waiters_at cs rows)

-- the waiter under a call, if there is one
abbrev pub waiter_at : Option Invocation → List (Invocation × Waiter) → Option Waiter
waiter_at None rows = None
waiter_at (Some c) rows = lookup (same_call c) rows

-- a waiter is served where it wants no more than is available; else neither it is nor those behind it
abbrev pub serve_first : ℤ → Option Waiter → (ℤ → List Waiter) → List Waiter
serve_first available None rest = rest available
serve_first available (Some w) rest = if int_lt available (pos w.permits) then [] else w ∷ rest (available -ℤ pos w.permits)

-- the waiters under these calls that what is available serves, strictly in their order
abbrev pub served_at : ℤ → List Invocation → List (Invocation × Waiter) → List Waiter
served_at available [] rows = []
served_at available (c ∷ cs) rows = serve_first available (lookup (same_call c) rows) (λ left. served_at left cs rows)
