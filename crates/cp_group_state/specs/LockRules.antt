-- Locks.
use Rattle.std.specs.Prelude.{ℕ, List, Option, Some, None, if◌then◌else◌}
use Rattle.cp_op_values.specs.declared.kind.Kind.TheVariants as kind
use Rattle.cp_base.specs.declared.identifier.Invocation.{Invocation}
use Rattle.cp_op_values.specs.declared.wish.Wish.{Wish}
use Rattle.cp_answers.specs.declared.answer.Answer.{Answer}
use Rattle.cp_answers.specs.declared.answer.Answer.TheVariants as answer
use Rattle.cp_object_ops.specs.declared.lock_op.LockOp.{LockOp}
use Rattle.cp_object_ops.specs.declared.lock_op.LockOp.TheVariants as lock
use Rattle.cp_group_state.specs.Rows.{most}
use Rattle.cp_group_state.specs.Waiters.{Waiter}
use Rattle.cp_group_state.specs.Locks.{LockRow, Taken, Fence, Limit, Busy, Released, Freed, Kept, NotOwner, acquired, released_by, lock_at, is_free}
use Rattle.cp_group_state.specs.GroupState.{GroupState}
use Rattle.cp_group_state.specs.Serving.{hand_over}
use Rattle.cp_group_state.specs.Outcomes.{Outcome, answered, answered_with, wait}

abbrev pub owner_answer : LockRow → Answer
owner_answer row = if is_free row then answer.Free else answer.Held row.holder.session row.holder.thread row.holds row.fence

abbrev pub on_taken : Waiter → Wish → Option Taken → GroupState → Outcome
on_taken w wish (Some (Fence f)) s = answered (answer.Fence f) s
on_taken w wish (Some (Limit n)) s = answered (answer.LimitReached n) s
on_taken w wish (Some Busy) s = wait w wish s
on_taken w wish None s = answered (answer.TableFull most) s

abbrev pub on_released : ℕ → List ℕ → Released → GroupState → Outcome
on_released index name Freed s = answered_with answer.Ok (hand_over index name s)
on_released index name Kept s = answered answer.Ok s
on_released index name NotOwner s = answered answer.NotOwner s

abbrev pub lock_rule : ℕ → Invocation → List ℕ → LockOp → GroupState → Outcome
lock_rule index call name lock.Owner s = answered (owner_answer (lock_at s.locks name)) s
lock_rule index call name (lock.Acquire session limit wish) s =
    let step = acquired s.locks index name (record { session = session; thread = call.thread }) limit in
    on_taken (record { call = call; kind = kind.Lock; name = name; session = session; permits = 0; wish = wish })
    wish step.taken (record s { locks = step.rows })
lock_rule index call name (lock.Release session) s =
    let step = released_by s.locks name (record { session = session; thread = call.thread }) in
    on_released index name step.released (record s { locks = step.rows })
