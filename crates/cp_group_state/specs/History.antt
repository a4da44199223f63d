-- The history of a group: its entries, at the indexes 1, 2, 3 and so on.
use Rattle.std.specs.Prelude.{◌≡◌, ℕ, zero, suc, ◌+◌, ◌^◌, ◌<◌, ◌≤◌, ◌⊎◌, true, List, [], ◌∷◌, ◌++◌, length, map, Option, Some, None, slice_get, Contains}
use Rattle.cp_op_values.specs.declared.kind.Kind.TheVariants as kind
use Rattle.cp_base.specs.declared.identifier.Invocation.{Invocation}
use Rattle.cp_answers.specs.declared.answer.Answer.{Answer}
use Rattle.cp_ops.specs.declared.op.Op.{Op}
use Rattle.cp_ops.specs.declared.op.Op.TheVariants as op
use Rattle.cp_ops.specs.declared.session_op.SessionOp.{SessionOp}
use Rattle.cp_ops.specs.declared.session_op.SessionOp.TheVariants as session
use Rattle.cp_ops.specs.declared.entry.Entry.{Entry}
use Rattle.cp_ops.specs.declared.entry.Entry.TheVariants as entry
use Rattle.cp_group_state.specs.Latches.{latch_at}
use Rattle.cp_group_state.specs.GroupState.{GroupState, empty}
use Rattle.cp_group_state.specs.Apply.{Applied, apply, run}
use Rattle.cp_group_state.specs.Protected.{session_in, down_in}
use Rattle.cp_group_state.specs.Destroying.{is_gone}

abbrev pub History : Type 0
History = List Entry

-- the state after so many of these entries, of which the first has this index
abbrev pub state_after : ℕ → ℕ → List Entry → GroupState → GroupState
state_after zero index es s = s
state_after (suc n) index [] s = s
state_after (suc n) index (e ∷ es) s = state_after n (index + 1) es (apply index e s).state

-- The state that the entry at this place meets: what the entries before it made of the empty state. Places are counted
-- from 0, and indexes from 1, so it is also the state after the entry of this index.
abbrev pub state_before : History → ℕ → GroupState
state_before history place = state_after place 1 history empty

-- an answer of the history, with the index of the entry that gave it
pub record Given : Type 0 where
  pub index : ℕ
  pub call : Invocation
  pub answer : Answer

abbrev pub given_from : ℕ → List Applied → List Given
given_from index [] = []
given_from index (x ∷ xs) = map (λ a. record { index = index; call = a.0; answer = a.1 }) x.answers ++ given_from (index + 1) xs

-- the answers of the one-thread machine that is given the history
abbrev pub answers_of : History → List Given
answers_of history = given_from 1 (run 1 history empty)

-- the entry at this index gives this answer
abbrev pub IsGivenAt : History → ℕ → Invocation → Answer → Type 0
IsGivenAt history index call a = Contains (answers_of history) (record { index = index; call = call; answer = a })

-- the session that a call names was opened before
abbrev pub IsBelow : ℕ → Option ℕ → Type 0
IsBelow index None = Unit {0}
IsBelow index (Some session) = session < index

-- the round that a call counts down was reached, or its latch is destroyed
abbrev pub IsReached : GroupState → Option (List ℕ × ℕ) → Type 0
IsReached s None = Unit {0}
IsReached s (Some down) = (is_gone s (down.0, kind.Latch) ≡ true) ⊎ (down.1 ≤ (latch_at s.latches down.0).round)

abbrev pub IsOrderlyAt : ℕ → Entry → GroupState → Type 0
IsOrderlyAt index (entry.Call call o) s = IsBelow index (session_in o) × IsReached s (down_in o)
IsOrderlyAt index e s = Unit {0}

abbrev pub IsOrderlyFrom : ℕ → List Entry → GroupState → Type 0
IsOrderlyFrom index [] s = Unit {0}
IsOrderlyFrom index (e ∷ es) s = IsOrderlyAt index e s × IsOrderlyFrom (index + 1) es (apply index e s).state

pub record IsOrderly (history : History) : Type 0 where
  -- entries of one call have one operation
  pub one_op : (call : Invocation) (o p : Op) → Contains history (entry.Call call o) → Contains history (entry.Call call p) → o ≡ p
  -- calls name sessions that were opened before them, and rounds that were reached
  pub entries : IsOrderlyFrom 1 history empty
  -- indexes end at 2 ^ 62
  pub few : length history ≤ 2 ^ 62

abbrev pub sessions_in_call : Option ℕ → List ℕ
sessions_in_call None = []
sessions_in_call (Some s) = s ∷ []

abbrev pub sessions_in_session_op : SessionOp → List ℕ
sessions_in_session_op session.Open = []
sessions_in_session_op (session.Beat s) = s ∷ []
sessions_in_session_op (session.Close s) = s ∷ []

abbrev pub sessions_in_op : Op → List ℕ
sessions_in_op (op.Session o) = sessions_in_session_op o
sessions_in_op o = sessions_in_call (session_in o)

-- the sessions that an entry names: in a call on a lock or a semaphore, in a beat, in a close, and as expired
abbrev pub sessions_in : Entry → List ℕ
sessions_in (entry.Call call o) = sessions_in_op o
sessions_in (entry.SessionsExpired pairs) = map (λ p. p.0) pairs
sessions_in e = []

-- In full: what the laws ask for, and that all entries name sessions that were opened before them, not calls on locks and
-- semaphores alone.
pub record IsFullyOrderly (history : History) : Type 0 where
  -- entries of one call have one operation
  pub one_op : (call : Invocation) (o p : Op) → Contains history (entry.Call call o) → Contains history (entry.Call call p) → o ≡ p
  -- each entry names sessions below its own index
  pub sessions : (place : ℕ) (e : Entry) (s : ℕ) → slice_get history place ≡ Some e → Contains (sessions_in e) s → s < place + 1
  -- each countdown names a round that its latch had reached, or the latch is destroyed
  pub rounds : (place : ℕ) (call : Invocation) (o : Op) → slice_get history place ≡ Some (entry.Call call o) → IsReached (state_before history place) (down_in o)
  -- indexes end at 2 ^ 62
  pub few : length history ≤ 2 ^ 62
