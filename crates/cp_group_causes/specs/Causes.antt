-- The causes of answers.
use Rattle.std.specs.Prelude.{◌≡◌, ℕ, pos, ◌+◌, ◌<◌, ◌⊎◌, Bool, true, false, not, ◌==◌, ◌&&◌, ◌||◌, List, Option, Some, None, map, int_lt, is_some, slice_get, Contains}
use Rattle.std.specs.Ordering.{nat_cmp}
use Rattle.cp_base.specs.declared.identifier.Invocation.{Invocation}
use Rattle.cp_answers.specs.declared.answer.Answer.{Answer}
use Rattle.cp_answers.specs.declared.answer.Answer.TheVariants as answer
use Rattle.cp_ops.specs.declared.entry.Entry.{Entry}
use Rattle.cp_ops.specs.declared.entry.Entry.TheVariants as entry
use Rattle.cp_op_values.specs.declared.kind.Kind.TheVariants as kind
use Rattle.cp_object_ops.specs.declared.latch_op.LatchOp.{LatchOp}
use Rattle.cp_object_ops.specs.declared.latch_op.LatchOp.TheVariants as latch
use Rattle.cp_object_ops.specs.declared.lock_op.LockOp.{LockOp}
use Rattle.cp_object_ops.specs.declared.lock_op.LockOp.TheVariants as lock
use Rattle.cp_ops.specs.declared.op.Op.{Op}
use Rattle.cp_ops.specs.declared.op.Op.TheVariants as op
use Rattle.cp_object_ops.specs.declared.sem_op.SemOp.{SemOp}
use Rattle.cp_object_ops.specs.declared.sem_op.SemOp.TheVariants as sem
use Rattle.cp_ops.specs.declared.session_op.SessionOp.TheVariants as session
use Rattle.cp_op_values.specs.declared.wish.Wish.{Wish}
use Rattle.cp_op_values.specs.declared.wish.Wish.TheVariants as wish
use Rattle.cp_group_state.specs.Rows.{Object, find, object_cmp}
use Rattle.cp_group_state.specs.Waiters.{first_on, stands}
use Rattle.cp_group_state.specs.Locks.{is_free, is_held_by, lock_at}
use Rattle.cp_group_state.specs.declared.rows.SemaphoreRow.{SemaphoreRow}
use Rattle.cp_group_state.specs.Latches.{latch_at}
use Rattle.cp_group_state.specs.GroupState.{GroupState}
use Rattle.cp_group_state.specs.Apply.{after_change, apply, perform, supersede}
use Rattle.cp_group_state.specs.Destroying.{object_of}
use Rattle.cp_group_state.specs.History.{History, IsGivenAt, state_before}
use Rattle.cp_group_causes.specs.Moments.{StandsBy}

-- how long a call wishes to wait, if it may wait at all
abbrev pub wish_of_lock : LockOp → Option Wish
wish_of_lock (lock.Acquire s limit wish) = Some wish
wish_of_lock o = None

abbrev pub wish_of_sem : SemOp → Option Wish
wish_of_sem (sem.Acquire s n wish) = Some wish
wish_of_sem o = None

abbrev pub wish_of_latch : LatchOp → Option Wish
wish_of_latch (latch.Await ms) = Some (wish.Within ms)
wish_of_latch o = None

abbrev pub wish_in : Op → Option Wish
wish_in (op.Lock name o) = wish_of_lock o
wish_in (op.Sem name o) = wish_of_sem o
wish_in (op.Jsem name o) = wish_of_sem o
wish_in (op.Latch name o) = wish_of_latch o
wish_in o = None

-- whether a lock has another owner
abbrev pub lock_is_taken : Invocation → List ℕ → LockOp → GroupState → Bool
lock_is_taken call name (lock.Acquire s limit wish) g = not (is_free (lock_at g.locks name)) && not (is_held_by (record { session = s; thread = call.thread }) (lock_at g.locks name))
lock_is_taken call name o g = false

abbrev pub has_fewer : Option SemaphoreRow → ℕ → Bool
has_fewer None n = false
has_fewer (Some row) n = int_lt row.available (pos n)

-- whether a semaphore has too few permits, or others wait for them
abbrev pub permits_are_short : Object → SemOp → GroupState → Bool
permits_are_short key (sem.Acquire s n wish) g = is_some (first_on key.1 key.0 g.waiters) || has_fewer (find object_cmp g.semaphores.rows key) n
permits_are_short key o g = false

-- whether a latch still counts
abbrev pub latch_is_shut : List ℕ → LatchOp → GroupState → Bool
latch_is_shut name (latch.Await ms) g = not ((latch_at g.latches name).count == 0)
latch_is_shut name o g = false

-- whether a call can't be given at once what it would wait for
abbrev pub must_wait : Invocation → Op → GroupState → Bool
must_wait call (op.Lock name o) g = lock_is_taken call name o g
must_wait call (op.Sem name o) g = permits_are_short (name, kind.Sem) o g
must_wait call (op.Jsem name o) g = permits_are_short (name, kind.Jsem) o g
must_wait call (op.Latch name o) g = latch_is_shut name o g
must_wait call o g = false

-- an entry that may end a session: a close of it, or that it got no beat
abbrev pub EndsSession : Entry → ℕ → Type 0
EndsSession (entry.Call by o) s = o ≡ op.Session (session.Close s)
EndsSession (entry.SessionsExpired pairs) s = Contains (map (λ p. p.0) pairs) s
EndsSession e s = ⊥

abbrev pub is_open : GroupState → ℕ → Bool
is_open g s = is_some (find nat_cmp g.sessions s)

-- the thread made a later call, which has this number: its entry has this index or a lower one
abbrev pub IsOvertaken : History → ℕ → Invocation → ℕ → Type 0
IsOvertaken history index call n = (by : Invocation) × (o : Op) × StandsBy history index (entry.Call by o)
    × (by.client ≡ call.client) × (by.thread ≡ call.thread) × (by.number ≡ n) × (call.number < n)

module _ (history : History) (index : ℕ) where
  -- The rules give this answer at the call's own entry: its session was open, and it was no repeat and not late, so that
  -- what the entry does is what the rule of its operation does, once the older waits of the thread have ended.
  pub record IsRuled (call : Invocation) (a : Answer) : Type 0 where
    pub op : Op
    pub place : ℕ
    pub in_time : place < index
    pub own : slice_get history place ≡ Some (entry.Call call op)
    pub judged : apply (place + 1) (entry.Call call op) (state_before history place) ≡ after_change (supersede call (state_before history place)) (perform (place + 1) call op)
    pub given : Contains (perform (place + 1) call op (supersede call (state_before history place)).state).answers (call, a)

  -- The call didn't wish to wait, and at its own entry it could not be given what it asked for.
  pub record IsImpatient (call : Invocation) : Type 0 where
    pub ruled : IsRuled call answer.TimedOut
    pub at_once : wish_in ruled.op ≡ Some (wish.Within 0)
    pub in_vain : must_wait call ruled.op (supersede call (state_before history ruled.place)).state ≡ true

  -- An entry says that the call waited too long, and it waited then.
  pub record IsTimedOut (call : Invocation) : Type 0 where
    pub calls : List Invocation
    pub place : ℕ
    pub in_time : place < index
    pub there : slice_get history place ≡ Some (entry.WaitsExpired calls)
    pub named : Contains calls call
    pub waited : stands call (state_before history place).waiters ≡ true

  -- An entry ended the session: it was open before that entry, and not after it.
  pub record SessionEnded (s : ℕ) : Type 0 where
    pub entry : Entry
    pub place : ℕ
    pub in_time : place < index
    pub there : slice_get history place ≡ Some entry
    pub ends : EndsSession entry s
    pub before : is_open (state_before history place) s ≡ true
    pub after : is_open (state_before history (place + 1)) s ≡ false

  -- the later call stands before the entry that gives the answer
  abbrev pub WasOvertaken : Invocation → ℕ → Type 0
  WasOvertaken call n = (before : ℕ) × (before < index) × IsOvertaken history before call n

  -- The object that the call names was destroyed, by a call that was answered so.
  pub record IsDestroyed (call : Invocation) : Type 0 where
    pub asked : Op
    pub own : Contains history (entry.Call call asked)
    pub object : Object
    pub names : object_of asked ≡ Some object
    pub by : Invocation
    pub place : ℕ
    pub in_time : place < index
    pub there : slice_get history place ≡ Some (entry.Call by (op.Destroy object.1 object.0))
    pub done : IsGivenAt history (place + 1) by answer.Ok

  -- Why a call is answered so, where it is not what the call hoped for. What makes it up stands at the index or before it.
  abbrev pub HasCause : Invocation → Answer → Type 0
  HasCause call answer.Ok = Unit {0}
  HasCause call (answer.Bool b) = Unit {0}
  HasCause call (answer.Value v) = Unit {0}
  HasCause call (answer.Ref r) = Unit {0}
  HasCause call (answer.Fence f) = Unit {0}
  HasCause call answer.Free = Unit {0}
  HasCause call (answer.Held s t h f) = Unit {0}
  HasCause call (answer.Session s) = Unit {0}
  HasCause call (answer.Group g members) = Unit {0}
  HasCause call answer.NotOwner = IsRuled call answer.NotOwner
  HasCause call (answer.LimitReached n) = IsRuled call (answer.LimitReached n)
  HasCause call answer.OwnershipLost = ⊥
  HasCause call (answer.SessionExpired s) = SessionEnded s
  HasCause call answer.TimedOut = IsImpatient call ⊎ IsTimedOut call
  HasCause call (answer.WaitCancelled n) = IsOvertaken history index call n
  HasCause call (answer.Stale n) = WasOvertaken call n
  HasCause call (answer.NotHeld n) = IsRuled call (answer.NotHeld n)
  HasCause call answer.NotInitialized = IsRuled call answer.NotInitialized
  HasCause call answer.ObjectDestroyed = IsDestroyed call
  HasCause call (answer.GroupDestroyed g) = StandsBy history index (entry.Destroy g)
  HasCause call (answer.TableFull n) = IsRuled call (answer.TableFull n)
  HasCause call (answer.BadArgument which) = IsRuled call (answer.BadArgument which)
  HasCause call (answer.Indeterminate by) = ⊥
