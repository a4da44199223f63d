-- What a call asks of the group: its operation, what it needs before that, and how long it wishes to wait.
use Rattle.std.specs.Prelude.{ℕ, pos, negsuc, List, [], ◌∷◌, Option, Some, None, if◌then◌else◌, bytes_eq}
use Rattle.cp_base.specs.declared.identifier.GroupId.{GroupId}
use Rattle.cp_events.specs.declared.plan.HoldLimit.{HoldLimit}
use Rattle.cp_events.specs.declared.plan.Plan.{Plan}
use Rattle.cp_events.specs.declared.user_op.GroupCall.{GroupCall}
use Rattle.cp_events.specs.declared.user_op.GroupCall.TheVariants as group_call
use Rattle.cp_events.specs.declared.user_op.LatchCall.{LatchCall}
use Rattle.cp_events.specs.declared.user_op.LatchCall.TheVariants as latch_call
use Rattle.cp_events.specs.declared.user_op.LockCall.{LockCall}
use Rattle.cp_events.specs.declared.user_op.LockCall.TheVariants as lock_call
use Rattle.cp_events.specs.declared.user_op.LongCall.{LongCall}
use Rattle.cp_events.specs.declared.user_op.LongCall.TheVariants as long_call
use Rattle.cp_events.specs.declared.user_op.RefCall.{RefCall}
use Rattle.cp_events.specs.declared.user_op.RefCall.TheVariants as ref_call
use Rattle.cp_events.specs.declared.user_op.SemCall.{SemCall}
use Rattle.cp_events.specs.declared.user_op.SemCall.TheVariants as sem_call
use Rattle.cp_events.specs.declared.user_op.UserOp.{UserOp}
use Rattle.cp_events.specs.declared.user_op.UserOp.TheVariants as user
use Rattle.cp_ops.specs.declared.group_op.GroupOp.{GroupOp}
use Rattle.cp_ops.specs.declared.group_op.GroupOp.TheVariants as group
use Rattle.cp_object_ops.specs.declared.latch_op.LatchOp.{LatchOp}
use Rattle.cp_object_ops.specs.declared.latch_op.LatchOp.TheVariants as latch
use Rattle.cp_object_ops.specs.declared.lock_op.LockOp.{LockOp}
use Rattle.cp_object_ops.specs.declared.lock_op.LockOp.TheVariants as lock
use Rattle.cp_object_ops.specs.declared.long_op.LongOp.{LongOp}
use Rattle.cp_object_ops.specs.declared.long_op.LongOp.TheVariants as long
use Rattle.cp_ops.specs.declared.op.Op.{Op}
use Rattle.cp_ops.specs.declared.op.Op.TheVariants as op
use Rattle.cp_object_ops.specs.declared.ref_op.RefOp.{RefOp}
use Rattle.cp_object_ops.specs.declared.ref_op.RefOp.TheVariants as ref
use Rattle.cp_object_ops.specs.declared.sem_op.SemOp.{SemOp}
use Rattle.cp_object_ops.specs.declared.sem_op.SemOp.TheVariants as sem
use Rattle.cp_ops.specs.declared.session_op.SessionOp.TheVariants as session
use Rattle.cp_op_values.specs.declared.wish.Wish.TheVariants as wish

-- METADATA keeps groups and members
abbrev pub metadata : GroupId
metadata = record { 0 = 0 }

abbrev pub default_group : GroupId
default_group = record { 0 = 1 }

-- The group that a call goes to. Objects are in the group `default`, the only one where groups are fixed.
abbrev pub group_of : UserOp → GroupId
group_of (user.Group o) = metadata
group_of (user.Member o) = metadata
group_of o = default_group

-- how often a thread may hold the lock of this name; 0 where the header says nothing of it
abbrev pub limit_of : List HoldLimit → List ℕ → ℕ
limit_of [] name = 0
limit_of (l ∷ limits) name = if bytes_eq l.lock name then l.holds else limit_of limits name

-- the operation of a call, in this session and with this round
abbrev pub long_op : LongCall → LongOp
long_op (long_call.Plain o) = o
long_op long_call.Inc = long.Add (pos 1)
long_op long_call.Dec = long.Add (negsuc 0)

abbrev pub ref_op : RefCall → RefOp
ref_op (ref_call.Plain o) = o
ref_op ref_call.IsNull = ref.Contains None
ref_op ref_call.Clear = ref.Set None

abbrev pub lock_op : ℕ → LockCall → ℕ → LockOp
lock_op limit lock_call.Lock s = lock.Acquire s limit wish.NoLimit
lock_op limit (lock_call.Try ms) s = lock.Acquire s limit (wish.Within ms)
lock_op limit lock_call.Unlock s = lock.Release s
lock_op limit lock_call.Owner s = lock.Owner

abbrev pub sem_op : SemCall → ℕ → SemOp
sem_op (sem_call.Init n) s = sem.Init n
sem_op (sem_call.Acquire n) s = sem.Acquire s n wish.NoLimit
sem_op (sem_call.Try n ms) s = sem.Acquire s n (wish.Within ms)
sem_op (sem_call.Release n) s = sem.Release s n
sem_op sem_call.Available s = sem.Available
sem_op sem_call.Drain s = sem.Drain s
sem_op (sem_call.Increase n) s = sem.Increase s n
sem_op (sem_call.Reduce n) s = sem.Reduce s n

abbrev pub latch_op : LatchCall → ℕ → LatchOp
latch_op (latch_call.Set n) round = latch.Set n
latch_op latch_call.Down round = latch.Down round
latch_op latch_call.Count round = latch.Count
latch_op (latch_call.Await ms) round = latch.Await ms

abbrev pub group_op : ℕ → GroupCall → GroupOp
group_op size (group_call.Create name) = group.Create name size
group_op size (group_call.Destroy name) = group.Destroy name

abbrev pub op_of : Plan → UserOp → ℕ → ℕ → Op
op_of plan (user.Long object o) s round = op.Long object.name (long_op o)
op_of plan (user.Ref object o) s round = op.Ref object.name (ref_op o)
op_of plan (user.Lock object o) s round = op.Lock object.name (lock_op (limit_of plan.limits object.name) o s)
op_of plan (user.Sem object o) s round = op.Sem object.name (sem_op o s)
op_of plan (user.Jsem object o) s round = op.Jsem object.name (sem_op o 0)
op_of plan (user.Latch object o) s round = op.Latch object.name (latch_op o round)
op_of plan (user.Map object o) s round = op.Map object.name o
op_of plan (user.Destroy which object) s round = op.Destroy which object.name
op_of plan (user.CloseSession name) s round = op.Session (session.Close s)
op_of plan (user.Group o) s round = op.Group (group_op plan.size o)
op_of plan (user.Member o) s round = op.Member o
op_of plan (user.Change o) s round = op.Change o

-- What a call needs before it can be asked.
pub data Need : Type 0 where
  Nothing : Need
  -- the session in which the thread holds the lock of this name, else the client's
  HoldingSession : List ℕ → Need
  -- the client's session
  ItsSession : Need
  -- the client's session, without which there is nothing to close
  SessionToClose : Need
  -- the round of the latch of this name
  Round : List ℕ → Need

abbrev pub lock_need : List ℕ → LockCall → Need
lock_need name lock_call.Owner = Nothing
lock_need name o = HoldingSession name

abbrev pub sem_need : SemCall → Need
sem_need (sem_call.Init n) = Nothing
sem_need sem_call.Available = Nothing
sem_need o = ItsSession

abbrev pub latch_need : List ℕ → LatchCall → Need
latch_need name latch_call.Down = Round name
latch_need name o = Nothing

abbrev pub need_of : UserOp → Need
need_of (user.Lock object o) = lock_need object.name o
need_of (user.Sem object o) = sem_need o
need_of (user.Latch object o) = latch_need object.name o
need_of (user.CloseSession name) = SessionToClose
need_of o = Nothing

-- how many milliseconds a call wishes to wait, none where it waits as long as it takes
abbrev pub lock_wish : LockCall → Option ℕ
lock_wish lock_call.Lock = None
lock_wish (lock_call.Try ms) = Some ms
lock_wish o = Some 0

abbrev pub sem_wish : SemCall → Option ℕ
sem_wish (sem_call.Acquire n) = None
sem_wish (sem_call.Try n ms) = Some ms
sem_wish o = Some 0

abbrev pub latch_wish : LatchCall → Option ℕ
latch_wish (latch_call.Await ms) = Some ms
latch_wish o = Some 0

abbrev pub wish_of : UserOp → Option ℕ
wish_of (user.Lock object o) = lock_wish o
wish_of (user.Sem object o) = sem_wish o
wish_of (user.Jsem object o) = sem_wish o
wish_of (user.Latch object o) = latch_wish o
wish_of o = Some 0
