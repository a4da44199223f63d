-- No call of an object begins as `destroy` does.
use Rattle.std.proofs.Common.{◌≡◌, false, refl}
use Rattle.std.specs.Prelude.{codes}
use Rattle.cp_grammar.specs.Words.{same_token}
use Rattle.cp_object_ops.specs.declared.long_op.LongOp.TheVariants as long
use Rattle.cp_object_ops.specs.declared.ref_op.RefOp.TheVariants as ref
use Rattle.cp_object_ops.specs.declared.map_op.MapOp.{MapOp}
use Rattle.cp_object_ops.specs.declared.map_op.MapOp.TheVariants as map_op
use Rattle.cp_events.specs.declared.user_op.LongCall.{LongCall}
use Rattle.cp_events.specs.declared.user_op.LongCall.TheVariants as long_call
use Rattle.cp_events.specs.declared.user_op.RefCall.{RefCall}
use Rattle.cp_events.specs.declared.user_op.RefCall.TheVariants as ref_call
use Rattle.cp_events.specs.declared.user_op.LockCall.{LockCall}
use Rattle.cp_events.specs.declared.user_op.LockCall.TheVariants as lock_call
use Rattle.cp_events.specs.declared.user_op.SemCall.{SemCall}
use Rattle.cp_events.specs.declared.user_op.SemCall.TheVariants as sem_call
use Rattle.cp_events.specs.declared.user_op.LatchCall.{LatchCall}
use Rattle.cp_events.specs.declared.user_op.LatchCall.TheVariants as latch_call
use Rattle.cp_call_words.specs.ObjectCalls.{long_word, ref_word, lock_word, sem_word, latch_word, map_word}

pub long_apart : (call : LongCall) → same_token (long_word call) (codes "destroy", 10) ≡ false
long_apart (long_call.Plain long.Get) = refl
long_apart _ = refl

pub ref_apart : (call : RefCall) → same_token (ref_word call) (codes "destroy", 10) ≡ false
ref_apart (ref_call.Plain ref.Get) = refl
ref_apart _ = refl

pub lock_apart : (call : LockCall) → same_token (lock_word call) (codes "destroy", 10) ≡ false
lock_apart lock_call.Lock = refl
lock_apart _ = refl

pub sem_apart : (call : SemCall) → same_token (sem_word call) (codes "destroy", 10) ≡ false
sem_apart sem_call.Drain = refl
sem_apart _ = refl

pub latch_apart : (call : LatchCall) → same_token (latch_word call) (codes "destroy", 10) ≡ false
latch_apart latch_call.Down = refl
latch_apart _ = refl

pub map_apart : (op : MapOp) → same_token (map_word op) (codes "destroy", 10) ≡ false
map_apart (map_op.Get key) = refl
map_apart _ = refl
