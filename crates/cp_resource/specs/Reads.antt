-- Reads that are answered without an entry.
use Rattle.std.specs.Prelude.{ℕ, ℤ, pos, List, Option, Some, None, ◌==◌, if◌then◌else◌}
use Rattle.std.specs.Option.{option_map}
use Rattle.cp_answers.specs.declared.answer.Answer.{Answer}
use Rattle.cp_answers.specs.declared.answer.Answer.TheVariants as answer
use Rattle.cp_op_values.specs.declared.kind.Kind.TheVariants as kind
use Rattle.cp_object_ops.specs.declared.long_op.LongOp.{LongOp}
use Rattle.cp_object_ops.specs.declared.long_op.LongOp.TheVariants as long
use Rattle.cp_object_ops.specs.declared.ref_op.RefOp.{RefOp}
use Rattle.cp_object_ops.specs.declared.ref_op.RefOp.TheVariants as ref
use Rattle.cp_object_ops.specs.declared.lock_op.LockOp.{LockOp}
use Rattle.cp_object_ops.specs.declared.lock_op.LockOp.TheVariants as lock
use Rattle.cp_object_ops.specs.declared.sem_op.SemOp.{SemOp}
use Rattle.cp_object_ops.specs.declared.sem_op.SemOp.TheVariants as sem
use Rattle.cp_object_ops.specs.declared.latch_op.LatchOp.{LatchOp}
use Rattle.cp_object_ops.specs.declared.latch_op.LatchOp.TheVariants as latch
use Rattle.cp_object_ops.specs.declared.map_op.MapOp.{MapOp}
use Rattle.cp_object_ops.specs.declared.map_op.MapOp.TheVariants as map
use Rattle.cp_ops.specs.declared.op.Op.{Op}
use Rattle.cp_ops.specs.declared.op.Op.TheVariants as op
use Rattle.cp_group_state.specs.declared.rows.LockRow.{LockRow}
use Rattle.cp_group_state.specs.declared.rows.LatchRow.{LatchRow}
use Rattle.cp_group_state.specs.Rows.{find, pair_cmp}
use Rattle.cp_group_state.specs.Atomics.{long_at, ref_at, same_value}
use Rattle.cp_group_state.specs.Locks.{lock_at}
use Rattle.cp_group_state.specs.LockRules.{owner_answer}
use Rattle.cp_group_state.specs.Latches.{latch_at}
use Rattle.cp_group_state.specs.Maps.{Pairs}
use Rattle.cp_group_state.specs.GroupState.{GroupState}
use Rattle.cp_group_state.specs.Destroying.{names_gone, object_of}
use Rattle.cp_semaphore.specs.Outcomes.{available_of}

abbrev pub long_read : LongOp → ℤ → Option Answer
long_read long.Get now = Some (answer.Value now)
long_read o now = None

abbrev pub ref_read : RefOp → Option (List ℕ) → Option Answer
ref_read ref.Get now = Some (answer.Ref now)
ref_read (ref.Contains x) now = Some (answer.Bool (same_value now x))
ref_read o now = None

abbrev pub lock_read : LockOp → LockRow → Option Answer
lock_read lock.Owner row = Some (owner_answer row)
lock_read o row = None

abbrev pub available_answer : Option ℤ → Answer
available_answer None = answer.NotInitialized
available_answer (Some n) = answer.Value n

abbrev pub sem_read : SemOp → Option ℤ → Option Answer
sem_read sem.Available available = Some (available_answer available)
sem_read o available = None

abbrev pub latch_read : LatchOp → LatchRow → Option Answer
latch_read latch.Count row = Some (answer.Value (pos row.count))
latch_read o row = None

abbrev pub map_read : List ℕ → MapOp → Pairs → Option Answer
map_read name (map.Get key) pairs = Some (answer.Ref (find pair_cmp pairs (name, key)))
map_read name o pairs = None

-- what a read of one object is answered by its rule; no other operation is such a read
abbrev pub object_read : Op → GroupState → Option Answer
object_read (op.Long name o) s = long_read o (long_at s.longs name)
object_read (op.Ref name o) s = ref_read o (ref_at s.refs name)
object_read (op.Lock name o) s = lock_read o (lock_at s.locks name)
object_read (op.Sem name o) s = sem_read o (available_of (name, kind.Sem) s.semaphores)
object_read (op.Jsem name o) s = sem_read o (available_of (name, kind.Jsem) s.semaphores)
object_read (op.Latch name o) s = latch_read o (latch_at s.latches name)
object_read (op.Map name o) s = map_read name o s.maps
object_read (op.Session o) s = None
object_read (op.Destroy which name) s = None
object_read (op.Group o) s = None
object_read (op.Member o) s = None
object_read (op.Change o) s = None

-- the same where the group or the object may be destroyed
abbrev pub standing_answer : Op → GroupState → Answer → Answer
standing_answer o s a = if s.destroyed_group.0 == 0
    then (if names_gone s (object_of o) then answer.ObjectDestroyed else a)
    else answer.GroupDestroyed s.destroyed_group

-- What a read is answered without an entry, if the operation is one: the group stays as it is.
abbrev pub look : Op → GroupState → Option Answer
look o s = option_map (standing_answer o s) (object_read o s)
