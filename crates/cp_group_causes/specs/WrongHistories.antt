-- Histories that are wrong, and answers that have no cause, each named by what is wrong with it. The laws refuse them all.
use Rattle.std.specs.Prelude.{ℕ, zero, suc, List, [], ◌∷◌}
use Rattle.cp_base.specs.Identifiers.{replay_id}
use Rattle.cp_base.specs.declared.identifier.Invocation.{Invocation}
use Rattle.cp_answers.specs.declared.answer.Answer.{Answer}
use Rattle.cp_answers.specs.declared.answer.Answer.TheVariants as answer
use Rattle.cp_op_values.specs.declared.kind.Kind.TheVariants as kind
use Rattle.cp_op_values.specs.declared.wish.Wish.TheVariants as wish
use Rattle.cp_object_ops.specs.declared.latch_op.LatchOp.TheVariants as latch
use Rattle.cp_object_ops.specs.declared.lock_op.LockOp.TheVariants as lock
use Rattle.cp_object_ops.specs.declared.long_op.LongOp.TheVariants as long
use Rattle.cp_object_ops.specs.declared.sem_op.SemOp.TheVariants as sem
use Rattle.cp_ops.specs.declared.entry.Entry.{Entry}
use Rattle.cp_ops.specs.declared.entry.Entry.TheVariants as entry
use Rattle.cp_ops.specs.declared.op.Op.{Op}
use Rattle.cp_ops.specs.declared.op.Op.TheVariants as op
use Rattle.cp_ops.specs.declared.session_op.SessionOp.TheVariants as session
use Rattle.cp_group_state.specs.Rows.{Named}
use Rattle.cp_group_state.specs.declared.rows.Holder.{Holder}
use Rattle.cp_group_state.specs.declared.rows.LockRow.{LockRow}
use Rattle.cp_group_state.specs.Locks.{free_lock, held_once}
use Rattle.cp_group_state.specs.GroupState.{GroupState, empty}
use Rattle.cp_group_state.specs.Apply.{Applied}
use Rattle.cp_group_state.specs.Fences.{HaveOneOwner, HoldsRise, IsHeldUnder}
use Rattle.cp_group_state.specs.History.{History, IsFullyOrderly}
use Rattle.cp_group_state.specs.Repeats.{Agree, EntryOrRepeat, Itself, Repeat}
use Rattle.cp_group_causes.specs.Causes.{HasCause}

-- the call with this number, of thread 1 of a client
abbrev pub call : ℕ → ℕ → Invocation
call client number = record { client = replay_id (record { 0 = client }); thread = record { 0 = 1 }; number = number }

abbrev pub asks : ℕ → ℕ → Op → Entry
asks client number o = entry.Call (call client number) o

-- the one name of all objects
abbrev pub name : List ℕ
name = 107 ∷ []

-- the lock, in a session
abbrev pub acquire : ℕ → Op
acquire s = op.Lock name (lock.Acquire s 0 wish.NoLimit)

-- ---- order

abbrev pub asks_two_things_in_one_call : History
asks_two_things_in_one_call = asks 1 1 (op.Session session.Open) ∷ asks 1 1 (op.Long name long.Get) ∷ []

abbrev pub beats_a_session_above_itself : History
beats_a_session_above_itself = asks 1 1 (op.Session session.Open) ∷ asks 1 2 (op.Session (session.Beat 9)) ∷ []

abbrev pub closes_a_session_above_itself : History
closes_a_session_above_itself = asks 1 1 (op.Session session.Open) ∷ asks 1 2 (op.Session (session.Close 2)) ∷ []

abbrev pub expires_a_session_above_itself : History
expires_a_session_above_itself = asks 1 1 (op.Session session.Open) ∷ entry.SessionsExpired ((1, 0) ∷ (9, 0) ∷ []) ∷ []

abbrev pub counts_a_round_to_come : History
counts_a_round_to_come = asks 1 1 (op.Latch name (latch.Down 3)) ∷ []

-- ---- repeats

abbrev pub who : Holder
who = record { session = 1; thread = record { 0 = 1 } }

-- the lock is held so many times
abbrev pub holding : ℕ → GroupState
holding n = record empty { locks = (name, record { holder = who; fence = 2; holds = n }) ∷ [] }

abbrev pub step : ℕ → List (Invocation × Answer) → Applied
step n answers = record { state = holding n; answers = answers }

-- a call that acquires the lock, and its repeat
abbrev pub once_more : List EntryOrRepeat
once_more = Itself (asks 1 2 (acquire 1)) ∷ Repeat (call 1 2) (acquire 1) ∷ []

abbrev pub fence : ℕ → List (Invocation × Answer)
fence f = (call 1 2, answer.Fence f) ∷ []

abbrev pub acts_once : List Applied
acts_once = step 1 (fence 2) ∷ step 1 [] ∷ []

abbrev pub acts_twice : List Applied
acts_twice = step 1 (fence 2) ∷ step 2 (fence 2) ∷ []

abbrev pub tells_another_fence : List Applied
tells_another_fence = step 1 (fence 2) ∷ step 1 (fence 3) ∷ []

-- ---- fences

-- a lock is granted, given back, and granted to the same thread under the same fence
abbrev pub gives_an_old_fence_back : ℕ → Named LockRow
gives_an_old_fence_back zero = []
gives_an_old_fence_back (suc zero) = (name, held_once who 2) ∷ []
gives_an_old_fence_back (suc (suc zero)) = (name, free_lock) ∷ []
gives_an_old_fence_back (suc (suc (suc n))) = (name, held_once who 2) ∷ []

-- two rows of one lock, each with its owner
abbrev pub has_two_owners : ℕ → Named LockRow
has_two_owners n = (name, held_once who 2) ∷ (name, held_once (record { session = 3; thread = record { 0 = 1 } }) 4) ∷ []

-- who asks for the owner is told the fence of an older hold
abbrev pub asks_for_the_owner : History
asks_for_the_owner = asks 1 1 (op.Lock name lock.Owner) ∷ []

-- ---- causes

-- An expiry of an old version closes nothing; afterwards a call is told that its session expired.
abbrev pub expires_after_a_beat : History
expires_after_a_beat = asks 1 1 (op.Session session.Open) ∷ asks 1 2 (op.Session (session.Beat 1)) ∷ entry.SessionsExpired ((1, 0) ∷ []) ∷ asks 1 3 (acquire 1) ∷ []

-- A session is closed before it is opened, and later said to have expired.
abbrev pub closes_before_it_opens : History
closes_before_it_opens = asks 2 1 (op.Session (session.Close 2)) ∷ asks 1 1 (op.Session session.Open) ∷ asks 1 2 (acquire 2) ∷ []

-- There are permits, and a try that doesn't wait is told that it timed out.
abbrev pub gives_up_with_permits : History
gives_up_with_permits = asks 1 1 (op.Session session.Open) ∷ asks 1 2 (op.Sem name (sem.Init 5)) ∷ asks 1 3 (op.Sem name (sem.Acquire 1 1 (wish.Within 0))) ∷ []

-- An expiry of waits names a call that doesn't wait; the call is told that it timed out.
abbrev pub times_out_who_holds : History
times_out_who_holds = asks 1 1 (op.Session session.Open) ∷ asks 1 2 (op.Lock name (lock.Acquire 1 0 (wish.Within 5))) ∷ entry.WaitsExpired (call 1 2 ∷ []) ∷ []

-- A call is told that it comes late by the very entry of the later call.
abbrev pub comes_late_too_soon : History
comes_late_too_soon = asks 1 1 (op.Session session.Open) ∷ asks 1 2 (op.Long name long.Get) ∷ []

-- A thread gives its lock back after its session was closed, and is told that it is not the owner, in place of why.
abbrev pub says_not_owner_when_closed : History
says_not_owner_when_closed = asks 1 1 (op.Session session.Open) ∷ asks 1 2 (op.Session (session.Close 1)) ∷ asks 1 3 (op.Lock name (lock.Release 1)) ∷ []

-- A destroy that is refused, here by a group that is destroyed; later a call is told that its object was destroyed.
abbrev pub destroys_in_vain : History
destroys_in_vain = entry.Destroy (record { 0 = 7 }) ∷ asks 1 1 (op.Destroy kind.Long name) ∷ asks 1 2 (op.Long name long.Get) ∷ []

-- None of these keeps the laws.
pub record AreRefused : Type 0 where
  pub two_things : IsFullyOrderly asks_two_things_in_one_call → ⊥
  pub early_beats : IsFullyOrderly beats_a_session_above_itself → ⊥
  pub early_closes : IsFullyOrderly closes_a_session_above_itself → ⊥
  pub early_expiries : IsFullyOrderly expires_a_session_above_itself → ⊥
  pub rounds_to_come : IsFullyOrderly counts_a_round_to_come → ⊥
  pub acting_twice : Agree [] once_more acts_once acts_twice → ⊥
  pub another_fence : Agree [] once_more acts_once tells_another_fence → ⊥
  pub old_fences : HoldsRise gives_an_old_fence_back → ⊥
  pub two_owners : HaveOneOwner has_two_owners → ⊥
  pub old_fences_of_owners : IsHeldUnder asks_for_the_owner ((name, held_once who 4) ∷ []) (call 1 1) (answer.Held 1 (record { 0 = 1 }) 1 2) → ⊥
  pub stale_expiries : HasCause expires_after_a_beat 4 (call 1 3) (answer.SessionExpired 1) → ⊥
  pub closes_of_nothing : HasCause closes_before_it_opens 3 (call 1 2) (answer.SessionExpired 2) → ⊥
  pub giving_up : HasCause gives_up_with_permits 3 (call 1 3) answer.TimedOut → ⊥
  pub timing_out_who_holds : HasCause times_out_who_holds 3 (call 1 2) answer.TimedOut → ⊥
  pub late_too_soon : HasCause comes_late_too_soon 2 (call 1 1) (answer.Stale 2) → ⊥
  pub not_owner_when_closed : HasCause says_not_owner_when_closed 3 (call 1 3) answer.NotOwner → ⊥
  pub destroys_of_nothing : HasCause destroys_in_vain 3 (call 1 2) answer.ObjectDestroyed → ⊥
