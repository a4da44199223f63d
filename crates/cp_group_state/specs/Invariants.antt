-- What holds of the state of a group after every history.
use Rattle.std.specs.Prelude.{◌<◌, is_some}
use Rattle.cp_op_values.specs.declared.kind.Kind.TheVariants as kind
use Rattle.std.specs.Prelude.{List, [], ◌∷◌, All, false}
use Rattle.cp_group_state.specs.History.{History, state_before}
use Rattle.std.specs.declared.cmp.Ordering.{Ordering}
use Rattle.std.specs.Ordering.{nat_cmp}
use Rattle.std.specs.Map.{keys_of}
use Rattle.std.specs.List.Sorted.{IsStrictlySortedBy}
use Rattle.cp_group_state.specs.Rows.{Named, Object, find, name_cmp, object_cmp, holding_cmp, holder_cmp, pair_cmp}
use Rattle.std.specs.Prelude.{true, ◌≡◌, ℕ}
use Rattle.std.specs.Map.{values_of}
use Rattle.cp_base.specs.declared.identifier.ClientId.{ClientId}
use Rattle.cp_group_state.specs.Waiters.{Waiter, stands}
use Rattle.cp_group_state.specs.Sessions.{SessionRow, is_open_for}
use Rattle.std.specs.Prelude.{◌+◌, ◌+ℤ◌, pos, Option, Some, None, if◌then◌else◌, bytes_eq}
use Rattle.cp_group_state.specs.Semaphores.{Semaphores, SemaphoreRow, is_held}
use Rattle.cp_group_state.specs.Locks.{LockRow, is_free, free_lock}
use Rattle.cp_group_state.specs.GroupState.{GroupState}

-- the keys rise
abbrev pub IsRising : {K X : Type 0} → (K → K → Ordering) → List (K × X) → Type 0
IsRising cmp rows = IsStrictlySortedBy cmp (keys_of rows)

-- Each list is in rising order of its keys.
pub record IsOrdered (s : GroupState) : Type 0 where
  pub sessions : IsRising nat_cmp s.sessions
  pub locks : IsRising name_cmp s.locks
  pub semaphores : IsRising object_cmp s.semaphores.rows
  pub holdings : IsRising holding_cmp s.semaphores.holdings
  pub latches : IsRising name_cmp s.latches
  pub longs : IsRising name_cmp s.longs
  pub refs : IsRising name_cmp s.refs
  pub gone : IsRising object_cmp s.gone
  pub maps : IsRising pair_cmp s.maps
  pub memory : IsRising holder_cmp s.memory

-- every state of a history
abbrev pub Always : (GroupState → Type 0) → History → Type 0
Always P history = (moment : ℕ) → P (state_before history moment)

-- without holds a lock row is the free one
abbrev pub IsHeldOrFree : LockRow → Type 0
IsHeldOrFree row = is_free row ≡ true → row ≡ free_lock

abbrev pub LocksWell : Named LockRow → Type 0
LocksWell rows = All IsHeldOrFree (values_of rows)

-- no client has two open sessions
abbrev pub OneSession : List (ℕ × SessionRow) → Type 0
OneSession rows = (a b : ℕ) (client : ClientId) → is_open_for rows a client ≡ true → is_open_for rows b client ≡ true → a ≡ b

-- no two waiters are of one call
abbrev pub CallsDiffer : List Waiter → Type 0
CallsDiffer [] = Unit {0}
CallsDiffer (w ∷ ws) = (stands w.call ws ≡ false) × CallsDiffer ws

-- what all sessions hold of the semaphore of this name
abbrev pub held_by_all : List ℕ → List ((ℕ × List ℕ) × ℕ) → ℕ
held_by_all name [] = 0
held_by_all name (e ∷ es) = (if bytes_eq name e.0.1 then e.1 else 0) + held_by_all name es

abbrev pub held_of : Object → List ((ℕ × List ℕ) × ℕ) → ℕ
held_of key holdings = if is_held key.1 then held_by_all key.0 holdings else 0

abbrev pub IsBalancedAt : Option SemaphoreRow → ℕ → Type 0
IsBalancedAt None n = n ≡ 0
IsBalancedAt (Some row) n = row.total ≡ row.available +ℤ pos n

-- The total of a semaphore is what stands available and what is held. Nothing is held of one that isn't there.
abbrev pub IsBalanced : Semaphores → Type 0
IsBalanced s = (key : Object) → IsBalancedAt (find object_cmp s.rows key) (held_of key s.holdings)

-- a session holds one permit or more, of a semaphore that is there
abbrev pub HoldingsStand : Semaphores → Type 0
HoldingsStand s = (session : ℕ) (name : List ℕ) (n : ℕ) → find holding_cmp s.holdings (session, name) ≡ Some n → (0 < n) × (is_some (find object_cmp s.rows (name, kind.Sem)) ≡ true)
