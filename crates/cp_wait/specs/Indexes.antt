-- Waiters found by what they have in common: an object, a thread, a session, a limit of their wait.
use Rattle.std.specs.Prelude.{◌≡◌, ◌⊎◌, ℕ, ◌==◌, Bool, true, false, List, [], ◌∷◌, ◌++◌, if◌then◌else◌}
use Rattle.std.specs.declared.cmp.Ordering.{Ordering}
use Rattle.std.specs.Ordering.{nat_cmp, ordering_then}
use Rattle.std.specs.List.{filter}
use Rattle.std.specs.BTreeMap.{BTreeMap}
use Rattle.cp_base.specs.declared.identifier.ClientId.{ClientId}
use Rattle.cp_base.specs.declared.identifier.ThreadNo.{ThreadNo}
use Rattle.cp_base.specs.declared.identifier.Invocation.{Invocation}
use Rattle.cp_op_values.specs.declared.kind.Kind.{Kind}
use Rattle.cp_group_state.specs.Rows.{Object, kind_number, name_cmp}
use Rattle.cp_group_state.specs.Waiters.{same_call, stands, waits_on}
use Rattle.cp_group_state.specs.declared.rows.Waiter.{Waiter}
use Rattle.cp_wait.specs.Arrivals.{with_call, without_call, calls_of, is_of_thread, waits_limited}
use Rattle.cp_wait.specs.Keys.{calls_at, calls_under}
use Rattle.cp_wait.specs.declared.indexes.Indexes.{Indexes}

module _ {Q : Type 0} (test : Q → Waiter → Bool) where
  -- For each question, the calls of the waiters that pass it, in order of arrival.
  abbrev pub IsIndex : (Q → List Invocation) → List Waiter → Type 0
  IsIndex calls ws = (q : Q) → calls q ≡ calls_of (filter (test q) ws)

  abbrev pub Came : Waiter → (Q → List Invocation) → (Q → List Invocation) → Type 0
  Came w old new = (q : Q) → new q ≡ (if test q w then with_call (old q) w.call else old q)

  abbrev pub Went : Waiter → (Q → List Invocation) → (Q → List Invocation) → Type 0
  Went w old new = (q : Q) → new q ≡ (if test q w then without_call (old q) w.call else old q)

  -- with this waiter, or without
  abbrev pub IsPartlyIndex : (Q → List Invocation) → List Waiter → Waiter → Type 0
  IsPartlyIndex calls ws w = IsIndex calls ws ⊎ IsIndex calls (ws ++ w ∷ [])

abbrev pub Stayed : {Q : Type 0} → (Q → List Invocation) → (Q → List Invocation) → Type 0
Stayed {Q} old new = (q : Q) → new q ≡ old q

-- The orders of the keys.
abbrev pub kind_cmp : Kind → Kind → Ordering
kind_cmp a b = nat_cmp (kind_number a) (kind_number b)

abbrev pub thread_cmp : ClientId × ThreadNo → ClientId × ThreadNo → Ordering
thread_cmp a b = ordering_then (name_cmp a.0.0 b.0.0) (nat_cmp a.1.0 b.1.0)

-- The calls that wait on an object, of a thread, of a session, and those that wait for some time only.
abbrev pub object_calls : BTreeMap Kind (BTreeMap (List ℕ) (List Invocation)) → Object → List Invocation
object_calls shelf key = calls_under kind_cmp name_cmp shelf key.1 key.0

abbrev pub thread_calls : BTreeMap (ClientId × ThreadNo) (List Invocation) → ClientId × ThreadNo → List Invocation
thread_calls index thread = calls_at thread_cmp index thread

abbrev pub session_calls : BTreeMap ℕ (List Invocation) → ℕ → List Invocation
session_calls index session = calls_at nat_cmp index session

abbrev pub limited_calls : List Invocation → Unit {0} → List Invocation
limited_calls calls u = calls

abbrev pub is_on : Object → Waiter → Bool
is_on key w = waits_on key.1 key.0 w

abbrev pub is_of_session : ℕ → Waiter → Bool
is_of_session session w = session == w.session

abbrev pub is_limited_at : Unit {0} → Waiter → Bool
is_limited_at u w = waits_limited w

-- all four indexes are those of these waiters
pub record IsIndexed (ws : List Waiter) (i : Indexes) : Type 0 where
  pub objects : IsIndex is_on (object_calls i.objects) ws
  pub threads : IsIndex is_of_thread (thread_calls i.threads) ws
  pub sessions : IsIndex is_of_session (session_calls i.sessions) ws
  pub limited : IsIndex is_limited_at (limited_calls i.limited) ws

-- some of the indexes have this waiter behind the others
pub record IsPartlyIndexed (ws : List Waiter) (w : Waiter) (i : Indexes) : Type 0 where
  pub objects : IsPartlyIndex is_on (object_calls i.objects) ws w
  pub threads : IsPartlyIndex is_of_thread (thread_calls i.threads) ws w
  pub sessions : IsPartlyIndex is_of_session (session_calls i.sessions) ws w
  pub limited : IsPartlyIndex is_limited_at (limited_calls i.limited) ws w

-- who has the call of this waiter is this waiter
abbrev pub IsOnly : Waiter → List Waiter → Type 0
IsOnly w [] = Unit {0}
IsOnly w (v ∷ vs) = (same_call w.call v.call ≡ true → v ≡ w) × IsOnly w vs

-- What a step does to the indexes of any waiters among which this one doesn't stand.
abbrev pub FromFresh : (List Waiter → Type 0) → Waiter → Indexes → Type 0
FromFresh after w old = (ws : List Waiter) → stands w.call ws ≡ false → IsIndexed ws old → after ws
