-- What may be asked of an object, by its kind: the first word of each call, and what follows it up to the end of the line.
use Rattle.std.specs.Prelude.{ℕ, ℤ, ◌-◌, ◌^◌, Bool, List, ◌++◌, Option, Some, None, codes}
use Rattle.cp_grammar.specs.Grammar.{Grammar, always, variant, keyed, no_case, ◌then◌}
use Rattle.cp_grammar.specs.Words.{Token, token, keyword}
use Rattle.cp_object_ops.specs.declared.long_op.LongOp.TheVariants as long
use Rattle.cp_object_ops.specs.declared.ref_op.RefOp.TheVariants as ref
use Rattle.cp_object_ops.specs.declared.map_op.MapOp.{MapOp}
use Rattle.cp_object_ops.specs.declared.map_op.MapOp.TheVariants as map_op
use Rattle.cp_events.specs.declared.object.Object.{Object}
use Rattle.cp_events.specs.declared.user_op.LongCall.{LongCall}
use Rattle.cp_events.specs.declared.user_op.LongCall.TheVariants as long_call
use Rattle.cp_events.specs.declared.user_op.RefCall.{RefCall}
use Rattle.cp_events.specs.declared.user_op.RefCall.TheVariants as ref_call
use Rattle.cp_events.specs.declared.user_op.LockCall.{LockCall}
use Rattle.cp_events.specs.declared.user_op.LockCall.TheVariants as lock_call
use Rattle.cp_events.specs.declared.user_op.SemCall.{SemCall}
use Rattle.cp_events.specs.declared.user_op.SemCall.TheVariants as sem_call
use Rattle.cp_events.specs.declared.user_op.LatchCall.{LatchCall}
use Rattle.cp_events.specs.declared.user_op.LatchCall.TheVariants as latch_call
use Rattle.cp_call_words.specs.Values.{between_word, signed_word, milliseconds, permits_word, key_word, value_word, reference_word}
use Rattle.cp_call_words.specs.Objects.{object_word}

-- ---- atomic longs

abbrev pub long_word : LongCall → Token
long_word (long_call.Plain long.Get) = (codes "get", 10)
long_word (long_call.Plain (long.Set value)) = (codes "set", 32)
long_word (long_call.Plain (long.GetSet value)) = (codes "getset", 32)
long_word (long_call.Plain (long.Add number)) = (codes "add", 32)
long_word (long_call.Plain (long.GetAdd number)) = (codes "getadd", 32)
long_word (long_call.Plain (long.Cas old next)) = (codes "cas", 32)
long_word long_call.Inc = (codes "inc", 10)
long_word long_call.Dec = (codes "dec", 10)

abbrev pub long_set : LongCall → Option ℤ
long_set (long_call.Plain (long.Set value)) = Some value
long_set _ = None

abbrev pub long_get_set : LongCall → Option ℤ
long_get_set (long_call.Plain (long.GetSet value)) = Some value
long_get_set _ = None

abbrev pub long_add : LongCall → Option ℤ
long_add (long_call.Plain (long.Add number)) = Some number
long_add _ = None

abbrev pub long_get_add : LongCall → Option ℤ
long_get_add (long_call.Plain (long.GetAdd number)) = Some number
long_get_add _ = None

abbrev pub long_cas : LongCall → Option (ℤ × ℤ)
long_cas (long_call.Plain (long.Cas old next)) = Some (old, next)
long_cas _ = None

unfoldable pub long_calls : Token → Grammar ℕ LongCall
long_calls =
    keyword (codes "get") 10 (always (long_call.Plain long.Get))
    (keyword (codes "set") 32 (variant (λ v. long_call.Plain (long.Set v)) long_set (signed_word 10))
    (keyword (codes "getset") 32 (variant (λ v. long_call.Plain (long.GetSet v)) long_get_set (signed_word 10))
    (keyword (codes "add") 32 (variant (λ v. long_call.Plain (long.Add v)) long_add (signed_word 10))
    (keyword (codes "getadd") 32 (variant (λ v. long_call.Plain (long.GetAdd v)) long_get_add (signed_word 10))
    (keyword (codes "cas") 32 (variant (λ p. long_call.Plain (long.Cas p.0 p.1)) long_cas (signed_word 32 then signed_word 10))
    (keyword (codes "inc") 10 (always long_call.Inc)
    (keyword (codes "dec") 10 (always long_call.Dec)
    no_case)))))))

-- ---- atomic references

abbrev pub ref_word : RefCall → Token
ref_word (ref_call.Plain ref.Get) = (codes "get", 10)
ref_word (ref_call.Plain (ref.Set value)) = (codes "set", 32)
ref_word (ref_call.Plain (ref.GetSet value)) = (codes "getset", 32)
ref_word (ref_call.Plain (ref.Cas old next)) = (codes "cas", 32)
ref_word (ref_call.Plain (ref.Contains value)) = (codes "contains", 32)
ref_word ref_call.IsNull = (codes "isnull", 10)
ref_word ref_call.Clear = (codes "clear", 10)

abbrev pub ref_set : RefCall → Option (Option (List ℕ))
ref_set (ref_call.Plain (ref.Set value)) = Some value
ref_set _ = None

abbrev pub ref_get_set : RefCall → Option (Option (List ℕ))
ref_get_set (ref_call.Plain (ref.GetSet value)) = Some value
ref_get_set _ = None

abbrev pub ref_cas : RefCall → Option (Option (List ℕ) × Option (List ℕ))
ref_cas (ref_call.Plain (ref.Cas old next)) = Some (old, next)
ref_cas _ = None

abbrev pub ref_contains : RefCall → Option (Option (List ℕ))
ref_contains (ref_call.Plain (ref.Contains value)) = Some value
ref_contains _ = None

unfoldable pub ref_calls : Token → Grammar ℕ RefCall
ref_calls =
    keyword (codes "get") 10 (always (ref_call.Plain ref.Get))
    (keyword (codes "set") 32 (variant (λ r. ref_call.Plain (ref.Set r)) ref_set (reference_word 10))
    (keyword (codes "getset") 32 (variant (λ r. ref_call.Plain (ref.GetSet r)) ref_get_set (reference_word 10))
    (keyword (codes "cas") 32 (variant (λ p. ref_call.Plain (ref.Cas p.0 p.1)) ref_cas (reference_word 32 then reference_word 10))
    (keyword (codes "contains") 32 (variant (λ r. ref_call.Plain (ref.Contains r)) ref_contains (reference_word 10))
    (keyword (codes "isnull") 10 (always ref_call.IsNull)
    (keyword (codes "clear") 10 (always ref_call.Clear)
    no_case))))))

-- ---- locks

abbrev pub lock_word : LockCall → Token
lock_word lock_call.Lock = (codes "lock", 10)
lock_word (lock_call.Try limit) = (codes "try", 32)
lock_word lock_call.Unlock = (codes "unlock", 10)
lock_word lock_call.Owner = (codes "owner", 10)

abbrev pub lock_try : LockCall → Option ℕ
lock_try (lock_call.Try limit) = Some limit
lock_try _ = None

unfoldable pub lock_calls : Token → Grammar ℕ LockCall
lock_calls =
    keyword (codes "lock") 10 (always lock_call.Lock)
    (keyword (codes "try") 32 (variant lock_call.Try lock_try (milliseconds 10))
    (keyword (codes "unlock") 10 (always lock_call.Unlock)
    (keyword (codes "owner") 10 (always lock_call.Owner)
    no_case)))

-- ---- semaphores, with or without sessions

abbrev pub sem_word : SemCall → Token
sem_word (sem_call.Init permits) = (codes "init", 32)
sem_word (sem_call.Acquire permits) = (codes "acquire", 32)
sem_word (sem_call.Try permits limit) = (codes "try", 32)
sem_word (sem_call.Release permits) = (codes "release", 32)
sem_word sem_call.Available = (codes "available", 10)
sem_word sem_call.Drain = (codes "drain", 10)
sem_word (sem_call.Increase permits) = (codes "increase", 32)
sem_word (sem_call.Reduce permits) = (codes "reduce", 32)

abbrev pub sem_init : SemCall → Option ℕ
sem_init (sem_call.Init permits) = Some permits
sem_init _ = None

abbrev pub sem_acquire : SemCall → Option ℕ
sem_acquire (sem_call.Acquire permits) = Some permits
sem_acquire _ = None

abbrev pub sem_try : SemCall → Option (ℕ × ℕ)
sem_try (sem_call.Try permits limit) = Some (permits, limit)
sem_try _ = None

abbrev pub sem_release : SemCall → Option ℕ
sem_release (sem_call.Release permits) = Some permits
sem_release _ = None

abbrev pub sem_increase : SemCall → Option ℕ
sem_increase (sem_call.Increase permits) = Some permits
sem_increase _ = None

abbrev pub sem_reduce : SemCall → Option ℕ
sem_reduce (sem_call.Reduce permits) = Some permits
sem_reduce _ = None

abbrev pub try_row : Grammar ℕ SemCall
try_row = variant (λ p. sem_call.Try p.0 p.1) sem_try (permits_word 32 then milliseconds 10)

unfoldable pub sem_calls : Token → Grammar ℕ SemCall
sem_calls =
    keyword (codes "init") 32 (variant sem_call.Init sem_init (permits_word 10))
    (keyword (codes "acquire") 32 (variant sem_call.Acquire sem_acquire (permits_word 10))
    (keyword (codes "try") 32 try_row
    (keyword (codes "release") 32 (variant sem_call.Release sem_release (between_word 10 1 (2 ^ 31 - 1)))
    (keyword (codes "available") 10 (always sem_call.Available)
    (keyword (codes "drain") 10 (always sem_call.Drain)
    (keyword (codes "increase") 32 (variant sem_call.Increase sem_increase (permits_word 10))
    (keyword (codes "reduce") 32 (variant sem_call.Reduce sem_reduce (permits_word 10))
    no_case)))))))

-- ---- countdown latches

abbrev pub latch_word : LatchCall → Token
latch_word (latch_call.Set count) = (codes "set", 32)
latch_word latch_call.Down = (codes "down", 10)
latch_word latch_call.Count = (codes "count", 10)
latch_word (latch_call.Await limit) = (codes "await", 32)

abbrev pub latch_set : LatchCall → Option ℕ
latch_set (latch_call.Set count) = Some count
latch_set _ = None

abbrev pub latch_await : LatchCall → Option ℕ
latch_await (latch_call.Await limit) = Some limit
latch_await _ = None

unfoldable pub latch_calls : Token → Grammar ℕ LatchCall
latch_calls =
    keyword (codes "set") 32 (variant latch_call.Set latch_set (between_word 10 1 10000))
    (keyword (codes "down") 10 (always latch_call.Down)
    (keyword (codes "count") 10 (always latch_call.Count)
    (keyword (codes "await") 32 (variant latch_call.Await latch_await (milliseconds 10))
    no_case)))

-- ---- maps

abbrev pub map_word : MapOp → Token
map_word (map_op.Get key) = (codes "get", 32)
map_word (map_op.Set key value) = (codes "set", 32)
map_word (map_op.Put key value) = (codes "put", 32)
map_word (map_op.Remove key) = (codes "remove", 32)
map_word (map_op.Delete key) = (codes "delete", 32)
map_word (map_op.PutIfAbsent key value) = (codes "putifabsent", 32)
map_word (map_op.Cas key old next) = (codes "cas", 32)

abbrev pub map_get : MapOp → Option (List ℕ)
map_get (map_op.Get key) = Some key
map_get _ = None

abbrev pub map_set : MapOp → Option (List ℕ × List ℕ)
map_set (map_op.Set key value) = Some (key, value)
map_set _ = None

abbrev pub map_put : MapOp → Option (List ℕ × List ℕ)
map_put (map_op.Put key value) = Some (key, value)
map_put _ = None

abbrev pub map_remove : MapOp → Option (List ℕ)
map_remove (map_op.Remove key) = Some key
map_remove _ = None

abbrev pub map_delete : MapOp → Option (List ℕ)
map_delete (map_op.Delete key) = Some key
map_delete _ = None

abbrev pub map_put_if_absent : MapOp → Option (List ℕ × List ℕ)
map_put_if_absent (map_op.PutIfAbsent key value) = Some (key, value)
map_put_if_absent _ = None

abbrev pub map_cas : MapOp → Option (List ℕ × (List ℕ × List ℕ))
map_cas (map_op.Cas key old next) = Some (key, (old, next))
map_cas _ = None

unfoldable pub map_calls : Token → Grammar ℕ MapOp
map_calls =
    keyword (codes "get") 32 (variant map_op.Get map_get (key_word 10))
    (keyword (codes "set") 32 (variant (λ p. map_op.Set p.0 p.1) map_set (key_word 32 then value_word 10))
    (keyword (codes "put") 32 (variant (λ p. map_op.Put p.0 p.1) map_put (key_word 32 then value_word 10))
    (keyword (codes "remove") 32 (variant map_op.Remove map_remove (key_word 10))
    (keyword (codes "delete") 32 (variant map_op.Delete map_delete (key_word 10))
    (keyword (codes "putifabsent") 32 (variant (λ p. map_op.PutIfAbsent p.0 p.1) map_put_if_absent (key_word 32 then value_word 10))
    (keyword (codes "cas") 32 (variant (λ p. map_op.Cas p.0 p.1.0 p.1.1) map_cas (key_word 32 then value_word 32 then value_word 10))
    no_case))))))

-- ---- an object, and what is asked of it

-- a call from its first word on
abbrev pub call_spelling : {A : Type 0} → (A → Token) → (Token → Grammar ℕ A) → A → List ℕ
call_spelling word calls call = token.spelling (word call) ++ (calls (word call)).spelling call

-- what is asked: a call of the object's kind, or `destroy`, which is None
abbrev pub asked_word : {A : Type 0} → (A → Token) → Option A → Token
asked_word word None = (codes "destroy", 10)
asked_word word (Some call) = word call

abbrev pub asked : {A : Type 0} → (A → Token) → (Token → Grammar ℕ A) → Grammar ℕ (Option A)
asked word calls = keyed (asked_word word) token (keyword (codes "destroy") 10 (always None) (λ t. variant Some (λ o. o) (calls t)))

unfoldable pub on_object : {A : Type 0} → Bool → (A → Token) → (Token → Grammar ℕ A) → Grammar ℕ (Object × Option A)
on_object managed word calls = object_word managed then asked word calls
