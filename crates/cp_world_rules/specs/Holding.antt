-- What threads were told of the locks that they hold.
use Rattle.std.specs.Prelude.{ℕ, ◌+◌, ◌-◌, ◌==◌, ◌&&◌, Bool, true, List, [], ◌∷◌, Option, Some, None, if◌then◌else◌, nat_lt, bytes_eq, take}
use Rattle.cp_base.specs.declared.identifier.ClientId.{ClientId}
use Rattle.cp_base.specs.declared.identifier.GroupId.{GroupId}
use Rattle.cp_base.specs.declared.identifier.Invocation.{Invocation}
use Rattle.cp_base.specs.declared.identifier.ThreadNo.{ThreadNo}
use Rattle.cp_answers.specs.declared.answer.Answer.{Answer}
use Rattle.cp_answers.specs.declared.answer.Answer.TheVariants as answer
use Rattle.cp_object_ops.specs.declared.lock_op.LockOp.{LockOp}
use Rattle.cp_object_ops.specs.declared.lock_op.LockOp.TheVariants as lock
use Rattle.cp_op_values.specs.declared.kind.Kind.TheVariants as kind
use Rattle.cp_ops.specs.declared.op.Op.{Op}
use Rattle.cp_ops.specs.declared.op.Op.TheVariants as op
use Rattle.cp_group_state.specs.Waiters.{same_call, same_client}
use Rattle.cp_client_rules.specs.declared.rows.HoldRecord.{HoldRecord}
use Rattle.cp_client_rules.specs.Holds.{ends_holding}
use Rattle.cp_world_rules.specs.Rows.{End, Request}

-- a hold more, and one less, of those that a thread was told in a session
abbrev pub one_more : ℕ → Option HoldRecord → HoldRecord
one_more s None = record { session = s; holds = 1 }
one_more s (Some h) = record { session = h.session; holds = h.holds + 1 }

abbrev pub one_less : Option HoldRecord → Option HoldRecord
one_less None = None
one_less (Some h) = if nat_lt 1 h.holds then Some (record { session = h.session; holds = h.holds - 1 }) else None

-- whether the thread holds the lock no more: by its owner, or since the session expired in which it asked
abbrev pub ends_holds : Answer → Bool
ends_holds (answer.SessionExpired s) = true
ends_holds a = ends_holding a

-- What a thread holds of a lock after an answer to an operation on it. (A release is answered no fence.)
abbrev pub after_lock : LockOp → Answer → Option HoldRecord → Option HoldRecord
after_lock lock.Owner a h = if ends_holding a then None else h
after_lock (lock.Acquire s limit wish) (answer.Fence f) h = Some (one_more s h)
after_lock (lock.Release s) (answer.Fence f) h = Some (one_more s h)
after_lock (lock.Release s) answer.Ok h = one_less h
after_lock o a h = if ends_holds a then None else h

-- of the lock of this name
abbrev pub after_op : List ℕ → Op → Answer → Option HoldRecord → Option HoldRecord
after_op name (op.Lock n o) a h = if bytes_eq n name then after_lock o a h else h
after_op name (op.Destroy kind.Lock n) a h = if bytes_eq n name && ends_holding a then None else h
after_op name o a h = h

-- the operation of a request
abbrev pub op_in : List Request → Invocation → Option Op
op_in [] call = None
op_in (r ∷ requests) call = if same_call r.call call then Some r.op else op_in requests call

abbrev pub after_request : List ℕ → Option Op → Answer → Option HoldRecord → Option HoldRecord
after_request name None a h = h
after_request name (Some o) a h = after_op name o a h

-- whose thread, in which group
abbrev pub is_of : ClientId → ThreadNo → GroupId → End → Bool
is_of client thread group e = (e.group.0 == group.0) && ((e.call.thread.0 == thread.0) && same_client e.call.client client)

-- What a thread was told by these answers that it holds of the lock of this name.
abbrev pub told_by : List Request → List ℕ → ClientId → ThreadNo → GroupId → List End → Option HoldRecord → Option HoldRecord
told_by requests name client thread group [] h = h
told_by requests name client thread group (e ∷ ends) h = told_by requests name client thread group ends (if is_of client thread group e then after_request name (op_in requests e.call) e.answer h else h)

-- What the thread of an end had been told by the ends before it, of which there are so many.
abbrev pub holds_before : List Request → List End → List ℕ → End → ℕ → Option HoldRecord
holds_before requests ends name e place = told_by requests name e.call.client e.call.thread e.group (take place ends) None
