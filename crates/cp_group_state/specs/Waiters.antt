-- Calls that wait, in order of arrival.
use Rattle.std.specs.Prelude.{ℕ, Bool, not, ◌&&◌, ◌==◌, List, [], ◌∷◌, map, Option, Some, None, bytes_eq}
use Rattle.std.specs.List.{filter, list_any}
use Rattle.cp_op_values.specs.declared.kind.Kind.{Kind}
use Rattle.cp_base.specs.declared.identifier.ClientId.{ClientId}
use Rattle.cp_base.specs.declared.identifier.Invocation.{Invocation}
use Rattle.cp_answers.specs.declared.answer.Answer.{Answer}
use Rattle.cp_group_state.specs.Rows.{kind_number}
pub use Rattle.cp_group_state.specs.declared.rows.Waiter.{Waiter}

-- a waiter that no longer waits, with the answer that ended it
pub record Ended : Type 0 where
  pub waiter : Waiter
  pub answer : Answer

abbrev pub same_client : ClientId → ClientId → Bool
same_client a b = bytes_eq a.0 b.0

abbrev pub same_call : Invocation → Invocation → Bool
same_call a b = same_client a.client b.client && ((a.thread.0 == b.thread.0) && (a.number == b.number))

abbrev pub waits_on : Kind → List ℕ → Waiter → Bool
waits_on which name w = (kind_number which == kind_number w.kind) && bytes_eq name w.name

abbrev pub first : {X : Type 0} → List X → Option X
first [] = None
first (x ∷ xs) = Some x

-- the waiter on this object that came first
abbrev pub first_on : Kind → List ℕ → List Waiter → Option Waiter
first_on which name ws = first (filter (waits_on which name) ws)

abbrev pub stands : Invocation → List Waiter → Bool
stands call ws = list_any (λ w. same_call call w.call) ws

-- the waiters without those that ended
abbrev pub still_waiting : List Ended → List Waiter → List Waiter
still_waiting ended ws = filter (λ w. not (list_any (λ e. same_call e.waiter.call w.call) ended)) ws

abbrev pub answered_by : (Waiter → Answer) → Waiter → Ended
answered_by answer w = record { waiter = w; answer = answer w }

-- the waiters that pass the test, each with its answer, in order of arrival
abbrev pub ending : (Waiter → Bool) → (Waiter → Answer) → List Waiter → List Ended
ending test answer ws = map (answered_by answer) (filter test ws)
