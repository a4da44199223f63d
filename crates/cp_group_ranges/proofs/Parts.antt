-- The parts of an entry that has a spelling.
use Rattle.std.proofs.Common.{ℕ, ◌-◌, ◌^◌, ◌≤◌, List, Some, None, Option, refl, arith}
use Rattle.cp_base.specs.declared.identifier.GroupId.{GroupId}
use Rattle.cp_base.specs.declared.identifier.Invocation.{Invocation}
use Rattle.cp_grammar.specs.Fields.{signed}
use Rattle.cp_grammar.specs.Common as spelled
use Rattle.cp_grammar.specs.Common.{index, group_id, invocation}
use Rattle.cp_op_values.specs.declared.wish.Wish.TheVariants as wish
use Rattle.cp_op_values.specs.Values as values
use Rattle.cp_op_values.specs.Values.{reference}
use Rattle.cp_op_values.specs.Wishes.{wish_grammar}
use Rattle.cp_object_ops.specs.declared.long_op.LongOp.{LongOp}
use Rattle.cp_object_ops.specs.declared.long_op.LongOp.TheVariants as long
use Rattle.cp_object_ops.specs.LongOps.{long_op}
use Rattle.cp_object_ops.specs.declared.ref_op.RefOp.{RefOp}
use Rattle.cp_object_ops.specs.declared.ref_op.RefOp.TheVariants as ref
use Rattle.cp_object_ops.specs.RefOps.{ref_op_within, ref_op}
use Rattle.cp_object_ops.specs.declared.map_op.MapOp.{MapOp}
use Rattle.cp_object_ops.specs.declared.map_op.MapOp.TheVariants as map
use Rattle.cp_object_ops.specs.MapOps.{map_op}
use Rattle.cp_object_ops.specs.declared.lock_op.LockOp.{LockOp}
use Rattle.cp_object_ops.specs.declared.lock_op.LockOp.TheVariants as lock
use Rattle.cp_object_ops.specs.LockOps.{lock_op}
use Rattle.cp_object_ops.specs.declared.sem_op.SemOp.{SemOp}
use Rattle.cp_object_ops.specs.declared.sem_op.SemOp.TheVariants as sem
use Rattle.cp_object_ops.specs.SemOps.{sem_op}
use Rattle.cp_object_ops.specs.declared.latch_op.LatchOp.{LatchOp}
use Rattle.cp_object_ops.specs.declared.latch_op.LatchOp.TheVariants as latch
use Rattle.cp_object_ops.specs.LatchOps.{latch_op}
use Rattle.cp_ops.specs.declared.session_op.SessionOp.{SessionOp}
use Rattle.cp_ops.specs.declared.session_op.SessionOp.TheVariants as session
use Rattle.cp_ops.specs.SessionOps.{session_op}
use Rattle.cp_ops.specs.declared.op.Op.{Op}
use Rattle.cp_ops.specs.declared.op.Op.TheVariants as op
use Rattle.cp_ops.specs.Ops.{op_within, op_grammar}
use Rattle.cp_ops.specs.declared.entry.Entry.TheVariants as entry
use Rattle.cp_ops.specs.Entries.{entry_within, entry_grammar}
use Rattle.cp_ops.specs.EntryValues.{optional_invocation}
use Rattle.cp_group_state.specs.Protected.{session_of_lock, session_of_sem, session_in}

-- ---- operations on one object

abbrev pub LockParts : LockOp → Type 0
LockParts lock.Owner = Unit {0}
LockParts (lock.Acquire session limit w) = index.Fits session × (limit ≤ 2 ^ 32 - 1) × wish_grammar.Fits w
LockParts (lock.Release session) = index.Fits session

pub lock_parts : (o : LockOp) → lock_op.Fits o → LockParts o
unfolding lock_op
lock_parts lock.Owner h = tt
lock_parts (lock.Acquire session limit w) h = (h.1.0.0, h.1.0.1.0, h.1.0.1.1)
lock_parts (lock.Release session) h = h.1.0

abbrev pub SemParts : SemOp → Type 0
SemParts sem.Available = Unit {0}
SemParts (sem.Init n) = n ≤ 2 ^ 31 - 1
SemParts (sem.Acquire session n w) = index.Fits session × (n ≤ 2 ^ 31 - 1) × wish_grammar.Fits w
SemParts (sem.Release session n) = index.Fits session × (n ≤ 2 ^ 31 - 1)
SemParts (sem.Drain session) = index.Fits session
SemParts (sem.Increase session n) = index.Fits session × (n ≤ 2 ^ 31 - 1)
SemParts (sem.Reduce session n) = index.Fits session × (n ≤ 2 ^ 31 - 1)

within : (most n : ℕ) → most ≤ 2 ^ 62 → n ≤ most → index.Fits n
unfolding index
within most n few le = omega (arith, few, le)

pub sem_parts : (most : ℕ) (o : SemOp) → most ≤ 2 ^ 62 → (sem_op most).Fits o → SemParts o
unfolding sem_op
sem_parts most sem.Available few h = tt
sem_parts most (sem.Init n) few h = h.1.0
sem_parts most (sem.Acquire session n w) few h = (within most session few h.1.0.0, h.1.0.1.0, h.1.0.1.1)
sem_parts most (sem.Release session n) few h = (within most session few h.1.0.0, h.1.0.1)
sem_parts most (sem.Drain session) few h = within most session few h.1.0
sem_parts most (sem.Increase session n) few h = (within most session few h.1.0.0, h.1.0.1)
sem_parts most (sem.Reduce session n) few h = (within most session few h.1.0.0, h.1.0.1)

abbrev pub LatchParts : LatchOp → Type 0
LatchParts latch.Count = Unit {0}
LatchParts latch.Round = Unit {0}
LatchParts (latch.Set n) = n ≤ 10000
LatchParts (latch.Down round) = index.Fits round
LatchParts (latch.Await millis) = wish_grammar.Fits (wish.Within millis)

within_fits : (ms : ℕ) → ms ≤ 2 ^ 32 - 1 → wish_grammar.Fits (wish.Within ms)
unfolding wish_grammar
within_fits ms le = (omega arith, (le, refl))

pub latch_parts : (o : LatchOp) → latch_op.Fits o → LatchParts o
unfolding latch_op
latch_parts latch.Count h = tt
latch_parts latch.Round h = tt
latch_parts (latch.Set n) h = h.1.0.0
latch_parts (latch.Down round) h = h.1.0
latch_parts (latch.Await millis) h = within_fits millis h.1.0

abbrev pub LongParts : LongOp → Type 0
LongParts long.Get = Unit {0}
LongParts (long.Set x) = signed.Fits x
LongParts (long.GetSet x) = signed.Fits x
LongParts (long.Add x) = Unit {0}
LongParts (long.GetAdd x) = Unit {0}
LongParts (long.Cas old x) = signed.Fits x

pub long_parts : (o : LongOp) → long_op.Fits o → LongParts o
unfolding long_op
long_parts long.Get h = tt
long_parts (long.Set x) h = h.1.0
long_parts (long.GetSet x) h = h.1.0
long_parts (long.Add x) h = tt
long_parts (long.GetAdd x) h = tt
long_parts (long.Cas old x) h = h.1.0.1

abbrev pub RefParts : RefOp → Type 0
RefParts ref.Get = Unit {0}
RefParts (ref.Set x) = (reference 4000).Fits x
RefParts (ref.GetSet x) = (reference 4000).Fits x
RefParts (ref.Cas old x) = (reference 4000).Fits x
RefParts (ref.Contains x) = Unit {0}

pub ref_parts : (o : RefOp) → ref_op.Fits o → RefParts o
unfolding ref_op_within
ref_parts ref.Get h = tt
ref_parts (ref.Set x) h = h.1.0
ref_parts (ref.GetSet x) h = h.1.0
ref_parts (ref.Cas old x) h = h.1.0.1
ref_parts (ref.Contains x) h = tt

abbrev pub MapParts : MapOp → Type 0
MapParts (map.Get k) = values.key.Fits k
MapParts (map.Set k v) = values.key.Fits k × values.value.Fits v
MapParts (map.Put k v) = values.key.Fits k × values.value.Fits v
MapParts (map.Remove k) = values.key.Fits k
MapParts (map.Delete k) = values.key.Fits k
MapParts (map.PutIfAbsent k v) = values.key.Fits k × values.value.Fits v
MapParts (map.Cas k old v) = values.key.Fits k × values.value.Fits v

pub map_parts : (o : MapOp) → map_op.Fits o → MapParts o
unfolding map_op
map_parts (map.Get k) h = h.1.0
map_parts (map.Set k v) h = (h.1.0.0, h.1.0.1)
map_parts (map.Put k v) h = (h.1.0.0, h.1.0.1)
map_parts (map.Remove k) h = h.1.0
map_parts (map.Delete k) h = h.1.0
map_parts (map.PutIfAbsent k v) h = (h.1.0.0, h.1.0.1)
map_parts (map.Cas k old v) h = (h.1.0.0, h.1.0.1.1)

abbrev pub SessionParts : SessionOp → Type 0
SessionParts session.Open = Unit {0}
SessionParts (session.Beat n) = index.Fits n
SessionParts (session.Close n) = index.Fits n

pub session_parts : (o : SessionOp) → session_op.Fits o → SessionParts o
unfolding session_op
session_parts session.Open h = tt
session_parts (session.Beat n) h = h.1.0
session_parts (session.Close n) h = h.1.0

-- ---- operations

abbrev pub OpParts : Op → Type 0
OpParts (op.Long n o) = spelled.name.Fits n × LongParts o
OpParts (op.Ref n o) = spelled.name.Fits n × RefParts o
OpParts (op.Map n o) = spelled.name.Fits n × MapParts o
OpParts (op.Lock n o) = spelled.name.Fits n × LockParts o
OpParts (op.Sem n o) = spelled.name.Fits n × SemParts o
OpParts (op.Jsem n o) = spelled.name.Fits n × SemParts o
OpParts (op.Latch n o) = spelled.name.Fits n × LatchParts o
OpParts (op.Session o) = SessionParts o
OpParts (op.Destroy which n) = spelled.name.Fits n
OpParts (op.Group o) = Unit {0}
OpParts (op.Member o) = Unit {0}
OpParts (op.Change o) = Unit {0}

pub op_parts : (o : Op) → op_grammar.Fits o → OpParts o
unfolding op_within
op_parts (op.Long n o) h = (h.1.0.0, long_parts o h.1.0.1)
op_parts (op.Ref n o) h = (h.1.0.0, ref_parts o h.1.0.1)
op_parts (op.Map n o) h = (h.1.0.0, map_parts o h.1.0.1)
op_parts (op.Lock n o) h = (h.1.0.0, lock_parts o h.1.0.1)
op_parts (op.Sem n o) h = (h.1.0.0, sem_parts (2 ^ 62) o (omega arith) h.1.0.1)
op_parts (op.Jsem n o) h = (h.1.0.0, sem_parts 0 o (omega arith) h.1.0.1)
op_parts (op.Latch n o) h = (h.1.0.0, latch_parts o h.1.0.1)
op_parts (op.Session o) h = session_parts o h.1.0
op_parts (op.Destroy which n) h = h.1.0.1
op_parts (op.Group o) h = tt
op_parts (op.Member o) h = tt
op_parts (op.Change o) h = tt

-- the session that a call names, if it does
abbrev pub SessionNamed : Option ℕ → Type 0
SessionNamed None = Unit {0}
SessionNamed (Some n) = index.Fits n

lock_session : (o : LockOp) → LockParts o → SessionNamed (session_of_lock o)
lock_session lock.Owner h = tt
lock_session (lock.Acquire session limit w) h = h.0
lock_session (lock.Release session) h = h

sem_session : (o : SemOp) → SemParts o → SessionNamed (session_of_sem o)
sem_session sem.Available h = tt
sem_session (sem.Init n) h = tt
sem_session (sem.Acquire session n w) h = h.0
sem_session (sem.Release session n) h = h.0
sem_session (sem.Drain session) h = h
sem_session (sem.Increase session n) h = h.0
sem_session (sem.Reduce session n) h = h.0

pub session_named : (o : Op) → OpParts o → SessionNamed (session_in o)
session_named (op.Long n o) h = tt
session_named (op.Ref n o) h = tt
session_named (op.Map n o) h = tt
session_named (op.Lock n o) h = lock_session o h.1
session_named (op.Sem n o) h = sem_session o h.1
session_named (op.Jsem n o) h = tt
session_named (op.Latch n o) h = tt
session_named (op.Session o) h = tt
session_named (op.Destroy which n) h = tt
session_named (op.Group o) h = tt
session_named (op.Member o) h = tt
session_named (op.Change o) h = tt

-- ---- entries

pub call_parts : (call : Invocation) (o : Op) → entry_grammar.Fits (entry.Call call o) → invocation.Fits call × OpParts o
unfolding entry_within
call_parts call o h = (h.1.0.0, op_parts o h.1.0.1)

pub members_parts : (call : Invocation) (plan : ℕ) (members : List ℕ) → entry_grammar.Fits (entry.Members (Some call) plan members) → invocation.Fits call
unfolding entry_within optional_invocation
members_parts call plan members h = h.1.0.0.1.0

pub destroy_parts : (group : GroupId) → entry_grammar.Fits (entry.Destroy group) → group_id.Fits group
unfolding entry_within
destroy_parts group h = h.1.0
