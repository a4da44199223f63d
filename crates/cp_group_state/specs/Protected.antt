-- The protected calls, which act at most once: those that name a session, and the countdowns of a latch.
use Rattle.std.specs.Prelude.{ℕ, Bool, ◌||◌, List, Option, Some, None, is_some}
use Rattle.cp_object_ops.specs.declared.lock_op.LockOp.{LockOp}
use Rattle.cp_object_ops.specs.declared.lock_op.LockOp.TheVariants as lock
use Rattle.cp_object_ops.specs.declared.sem_op.SemOp.{SemOp}
use Rattle.cp_object_ops.specs.declared.sem_op.SemOp.TheVariants as sem
use Rattle.cp_ops.specs.declared.op.Op.{Op}
use Rattle.cp_ops.specs.declared.op.Op.TheVariants as op
use Rattle.cp_object_ops.specs.declared.latch_op.LatchOp.{LatchOp}
use Rattle.cp_object_ops.specs.declared.latch_op.LatchOp.TheVariants as latch

abbrev pub session_of_lock : LockOp → Option ℕ
session_of_lock lock.Owner = None
session_of_lock (lock.Acquire session limit wish) = Some session
session_of_lock (lock.Release session) = Some session

abbrev pub session_of_sem : SemOp → Option ℕ
session_of_sem sem.Available = None
session_of_sem (sem.Init n) = None
session_of_sem (sem.Acquire session n wish) = Some session
session_of_sem (sem.Release session n) = Some session
session_of_sem (sem.Drain session) = Some session
session_of_sem (sem.Increase session n) = Some session
session_of_sem (sem.Reduce session n) = Some session

-- the session that a call names
abbrev pub session_in : Op → Option ℕ
session_in (op.Long name o) = None
session_in (op.Ref name o) = None
session_in (op.Map name o) = None
session_in (op.Lock name o) = session_of_lock o
session_in (op.Sem name o) = session_of_sem o
session_in (op.Jsem name o) = None
session_in (op.Latch name o) = None
session_in (op.Session o) = None
session_in (op.Destroy which name) = None
session_in (op.Group o) = None
session_in (op.Member o) = None
session_in (op.Change o) = None

abbrev pub down_in_latch : List ℕ → LatchOp → Option (List ℕ × ℕ)
down_in_latch name latch.Count = None
down_in_latch name latch.Round = None
down_in_latch name (latch.Set n) = None
down_in_latch name (latch.Down round) = Some (name, round)
down_in_latch name (latch.Await millis) = None

-- the latch and the round that a call counts down
abbrev pub down_in : Op → Option (List ℕ × ℕ)
down_in (op.Latch name o) = down_in_latch name o
down_in (op.Long name o) = None
down_in (op.Ref name o) = None
down_in (op.Map name o) = None
down_in (op.Lock name o) = None
down_in (op.Sem name o) = None
down_in (op.Jsem name o) = None
down_in (op.Session o) = None
down_in (op.Destroy which name) = None
down_in (op.Group o) = None
down_in (op.Member o) = None
down_in (op.Change o) = None

abbrev pub is_protected : Op → Bool
is_protected o = is_some (session_in o) || is_some (down_in o)
