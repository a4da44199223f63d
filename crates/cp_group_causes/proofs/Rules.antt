-- What the rule of an operation may answer the call itself.
use Rattle.std.proofs.Common.{is_some, ◌≡◌, ℕ, ◌-◌, ◌^◌, Bool, true, false, not, ◌&&◌, ◌||◌, List, Some, None, Option, refl, sym, subst, ap, ◌∙◌, arith}
use Rattle.std.specs.Prelude.{◌==◌, nat_lt, int_lt, ℤ, pos, neg_ℤ, ◌+ℤ◌, ◌-ℤ◌}
use Rattle.std.specs.Ordering.{nat_cmp}
use Rattle.std.proofs.lemmas.Bool.Decides.{nat_tests}
use Rattle.cp_base.specs.declared.identifier.Invocation.{Invocation}
use Rattle.cp_base.proofs.Tests.{no_true}
use Rattle.cp_answers.specs.declared.answer.Answer.{Answer}
use Rattle.cp_answers.specs.declared.answer.Answer.TheVariants as answer
use Rattle.cp_op_values.specs.declared.kind.Kind.TheVariants as kind
use Rattle.cp_object_ops.specs.declared.latch_op.LatchOp.{LatchOp}
use Rattle.cp_object_ops.specs.declared.latch_op.LatchOp.TheVariants as latch
use Rattle.cp_object_ops.specs.declared.lock_op.LockOp.{LockOp}
use Rattle.cp_object_ops.specs.declared.lock_op.LockOp.TheVariants as lock
use Rattle.cp_object_ops.specs.declared.long_op.LongOp.{LongOp}
use Rattle.cp_object_ops.specs.declared.long_op.LongOp.TheVariants as long
use Rattle.cp_object_ops.specs.declared.map_op.MapOp.{MapOp}
use Rattle.cp_object_ops.specs.declared.map_op.MapOp.TheVariants as map
use Rattle.cp_ops.specs.declared.op.Op.{Op}
use Rattle.cp_ops.specs.declared.op.Op.TheVariants as op
use Rattle.cp_object_ops.specs.declared.ref_op.RefOp.{RefOp}
use Rattle.cp_object_ops.specs.declared.ref_op.RefOp.TheVariants as ref
use Rattle.cp_object_ops.specs.declared.sem_op.SemOp.{SemOp}
use Rattle.cp_object_ops.specs.declared.sem_op.SemOp.TheVariants as sem
use Rattle.cp_ops.specs.declared.session_op.SessionOp.{SessionOp}
use Rattle.cp_ops.specs.declared.session_op.SessionOp.TheVariants as session
use Rattle.cp_op_values.specs.declared.wish.Wish.{Wish}
use Rattle.cp_op_values.specs.declared.wish.Wish.TheVariants as wish
use Rattle.cp_group_state.specs.Rows.{Object, find, has_room, most, name_cmp, object_cmp, pair_cmp}
use Rattle.cp_group_state.specs.declared.rows.Waiter.{Waiter}
use Rattle.cp_group_state.specs.Waiters.{first_on}
use Rattle.cp_group_state.specs.declared.rows.SessionRow.{SessionRow}
use Rattle.cp_group_state.specs.Sessions.{session_of}
use Rattle.cp_group_state.specs.declared.rows.LockRow.{LockRow}
use Rattle.cp_group_state.specs.declared.outcome.Released.{Released}
use Rattle.cp_group_state.specs.declared.outcome.Released.TheVariants.{Freed, Kept, NotOwner}
use Rattle.cp_group_state.specs.Locks.{Acquired, released_by, is_free, is_held_by, lock_at, most_holds}
use Rattle.cp_group_state.specs.declared.rows.Holder.{Holder}
use Rattle.cp_group_state.specs.declared.rows.SemaphoreRow.{SemaphoreRow}
use Rattle.cp_group_state.specs.declared.outcome.SemOutcome.{SemOutcome}
use Rattle.cp_group_state.specs.Semaphores.{SemStep, sem_step, sem_step_on, held, is_held}
use Rattle.cp_group_state.specs.declared.outcome.SemOutcome.TheVariants as semaphore
use Rattle.cp_group_state.specs.declared.rows.LatchRow.{LatchRow}
use Rattle.cp_group_state.specs.declared.outcome.LatchOutcome.{LatchOutcome}
use Rattle.cp_group_state.specs.Latches.{LatchStep, latch_step, latch_at, is_over, counted_calls, most_counted}
use Rattle.cp_group_state.specs.declared.outcome.LatchOutcome.TheVariants as countdown
use Rattle.cp_group_state.specs.Atomics.{AtomicStep, long_at, ref_at, long_set, long_answer, ref_set, ref_answer, set_value}
use Rattle.cp_group_state.specs.Maps.{Effect, Stays, Sets, Goes, MapStep, Pairs, map_answer, map_effect, with_effect, key_of}
use Rattle.cp_group_state.specs.GroupState.{GroupState}
use Rattle.cp_group_state.specs.declared.outcome.Reply.{Reply}
use Rattle.cp_group_state.specs.declared.outcome.Reply.TheVariants.{Answered, Waits}
use Rattle.cp_group_state.specs.Outcomes.{Outcome, wait}
use Rattle.cp_group_state.specs.LockRules.{lock_rule, on_taken, on_released, owner_answer}
use Rattle.cp_group_state.specs.SemaphoreRules.{sem_rule, sem_wait, on_sem, is_behind}
use Rattle.cp_group_state.specs.SessionRules.{session_rule, opened, beat}
use Rattle.cp_group_state.specs.LatchRules.{on_latch, latch_wait}
use Rattle.cp_group_state.specs.Apply.{rule}
use Rattle.cp_group_state.proofs.Walk.{cases, either}
use Rattle.cp_group_causes.specs.Causes.{has_fewer, latch_is_shut, must_wait, permits_are_short, wish_in}

-- the answers that need no more of a cause than the rule
abbrev pub IsPlain : Answer → Type 0
IsPlain answer.OwnershipLost = ⊥
IsPlain (answer.SessionExpired s) = ⊥
IsPlain answer.TimedOut = ⊥
IsPlain (answer.WaitCancelled n) = ⊥
IsPlain (answer.Stale n) = ⊥
IsPlain answer.ObjectDestroyed = ⊥
IsPlain (answer.GroupDestroyed g) = ⊥
IsPlain (answer.Indeterminate by) = ⊥
IsPlain a = Unit {0}

-- what the rule of this operation may answer in this state
abbrev pub IsOfRule : Invocation → Op → GroupState → Answer → Type 0
IsOfRule call o s answer.OwnershipLost = ⊥
IsOfRule call o s (answer.SessionExpired x) = (o ≡ op.Session (session.Beat x)) × (find nat_cmp s.sessions x ≡ None)
IsOfRule call o s answer.TimedOut = (wish_in o ≡ Some (wish.Within 0)) × (must_wait call o s ≡ true)
IsOfRule call o s (answer.WaitCancelled n) = ⊥
IsOfRule call o s (answer.Stale n) = ⊥
IsOfRule call o s answer.ObjectDestroyed = ⊥
IsOfRule call o s (answer.GroupDestroyed g) = ⊥
IsOfRule call o s (answer.Indeterminate by) = ⊥
IsOfRule call o s a = Unit {0}

of-plain : (call : Invocation) (o : Op) (s : GroupState) (a : Answer) → IsPlain a → IsOfRule call o s a
of-plain call o s answer.Ok h = tt
of-plain call o s (answer.Bool b) h = tt
of-plain call o s (answer.Value v) h = tt
of-plain call o s (answer.Ref r) h = tt
of-plain call o s (answer.Fence f) h = tt
of-plain call o s answer.Free h = tt
of-plain call o s (answer.Held x t n f) h = tt
of-plain call o s (answer.Session x) h = tt
of-plain call o s (answer.Group g ms) h = tt
of-plain call o s answer.NotOwner h = tt
of-plain call o s (answer.LimitReached n) h = tt
of-plain call o s answer.OwnershipLost h = absurd h
of-plain call o s (answer.SessionExpired x) h = absurd h
of-plain call o s answer.TimedOut h = absurd h
of-plain call o s (answer.WaitCancelled n) h = absurd h
of-plain call o s (answer.Stale n) h = absurd h
of-plain call o s (answer.NotHeld n) h = tt
of-plain call o s answer.NotInitialized h = tt
of-plain call o s answer.ObjectDestroyed h = absurd h
of-plain call o s (answer.GroupDestroyed g) h = absurd h
of-plain call o s (answer.TableFull n) h = tt
of-plain call o s (answer.BadArgument x) h = tt
of-plain call o s (answer.Indeterminate by) h = absurd h

-- a reply of the rule
abbrev pub RepliesSo : Invocation → Op → GroupState → Reply → Type 0
RepliesSo call o s (Answered a) = IsOfRule call o s a
RepliesSo call o s (Waits w) = Unit {0}

test_none : (n : ℕ) → (n == 0) ≡ true → n ≡ 0
test_none n h = grind (arith, nat_tests)

wait-replies : (call : Invocation) (o : Op) (s : GroupState) (w : Waiter) (x : Wish) (t : GroupState) → wish_in o ≡ Some x → must_wait call o s ≡ true → RepliesSo call o s (wait w x t).reply
wait-replies call o s w wish.NoLimit t h must = tt
wait-replies call o s w (wish.Within ms) t h must = cases (λ (r : Outcome). RepliesSo call o s r.reply) (ms == 0) _ _ (λ e. (h ∙ ap (λ n. Some (wish.Within n)) (test_none ms e), must)) (λ e. tt)

-- a call that must wait
not_either : (a b : Bool) → a ≡ false → b ≡ false → (not a && not b) ≡ true
not_either false false h k = refl
not_either false true h k = absurd (no_true k)
not_either true b h k = absurd (no_true h)

or-first : (a b : Bool) → a ≡ true → (a || b) ≡ true
or-first true b h = refl
or-first false b h = absurd (no_true (sym h))

or-second : (a b : Bool) → b ≡ true → (a || b) ≡ true
or-second true b h = refl
or-second false b h = h

last_of : (a b c : Bool) → (a && (b && c)) ≡ true → c ≡ true
last_of true true c h = h
last_of true false c h = cc
last_of false b c h = cc

-- values
value-plain : {X : Type 0} (rows : List (List ℕ × X)) (name : List ℕ) (x : Option X) (a : Answer) → IsPlain a → IsPlain (set_value rows name x a).answer
value-plain rows name None a h = h
value-plain {X} rows name (Some x) a h = either (λ (r : AtomicStep X). IsPlain r.answer) (has_room name_cmp most rows name) _ _ h tt

long-plain : (now : ℤ) (l : LongOp) → IsPlain (long_answer now l)
long-plain now long.Get = tt
long-plain now (long.Set x) = tt
long-plain now (long.GetSet x) = tt
long-plain now (long.Add x) = tt
long-plain now (long.GetAdd x) = tt
long-plain now (long.Cas old x) = tt

ref-plain : (now : Option (List ℕ)) (l : RefOp) → IsPlain (ref_answer now l)
ref-plain now ref.Get = tt
ref-plain now (ref.Set x) = tt
ref-plain now (ref.GetSet x) = tt
ref-plain now (ref.Cas old x) = tt
ref-plain now (ref.Contains x) = tt

effect-plain : (pairs : Pairs) (place : List ℕ × List ℕ) (e : Effect) (a : Answer) → IsPlain a → IsPlain (with_effect pairs place e a).answer
effect-plain pairs place Stays a h = h
effect-plain pairs place (Sets value) a h = either (λ (r : MapStep). IsPlain r.answer) (has_room pair_cmp most pairs place) _ _ h tt
effect-plain pairs place Goes a h = h

map-plain : (now : Option (List ℕ)) (l : MapOp) → IsPlain (map_answer now l)
map-plain now (map.Get key) = tt
map-plain now (map.Set key value) = tt
map-plain now (map.Put key value) = tt
map-plain now (map.Remove key) = tt
map-plain now (map.Delete key) = tt
map-plain now (map.PutIfAbsent key value) = tt
map-plain now (map.Cas key old value) = tt

-- locks
owner-plain : (row : LockRow) → IsPlain (owner_answer row)
owner-plain row = either IsPlain (is_free row) _ _ tt tt

released-replies : (i : ℕ) (call : Invocation) (o : Op) (s : GroupState) (name : List ℕ) (r : Released) (t : GroupState) → RepliesSo call o s (on_released i name r t).reply
released-replies i call o s name Freed t = tt
released-replies i call o s name Kept t = tt
released-replies i call o s name NotOwner t = tt

module _ (i : ℕ) (call : Invocation) (name : List ℕ) (session limit : ℕ) (x : Wish) (s : GroupState) where
  abbrev acquire : Op
  acquire = op.Lock name (lock.Acquire session limit x)

  abbrev asker : Holder
  asker = record { session = session; thread = call.thread }

  abbrev lock_now : LockRow
  lock_now = lock_at s.locks name

  abbrev its_waiter : Waiter
  its_waiter = record { call = call; kind = kind.Lock; name = name; session = session; permits = 0; wish = x }

  abbrev TakenSo : Acquired → Type 0
  TakenSo r = RepliesSo call acquire s (on_taken its_waiter x r.taken (record s { locks = r.rows })).reply

  acquire-replies : RepliesSo call acquire s (lock_rule i call name (lock.Acquire session limit x) s).reply
  acquire-replies = cases TakenSo (is_free lock_now) _ _
      (λ free. either TakenSo (has_room name_cmp most s.locks name) _ _ tt tt)
      (λ held. cases TakenSo (is_held_by asker lock_now) _ _
      (λ mine. either TakenSo (nat_lt lock_now.holds (most_holds limit)) _ _ tt tt)
      (λ other. wait-replies call acquire s its_waiter x (record s { locks = s.locks }) refl (not_either (is_free lock_now) (is_held_by asker lock_now) held other)))

lock-replies : (i : ℕ) (call : Invocation) (name : List ℕ) (l : LockOp) (s : GroupState) → RepliesSo call (op.Lock name l) s (lock_rule i call name l s).reply
lock-replies i call name lock.Owner s = of-plain call (op.Lock name lock.Owner) s (owner_answer (lock_at s.locks name)) (owner-plain (lock_at s.locks name))
lock-replies i call name (lock.Acquire session limit x) s = acquire-replies i call name session limit x s
lock-replies i call name (lock.Release session) s = released-replies i call (op.Lock name (lock.Release session)) s name (released_by s.locks name (record { session = session; thread = call.thread })).released _

-- semaphores
abbrev pub SemPlain : Object → SemOp → GroupState → SemOutcome → Type 0
SemPlain key l g (semaphore.Done a) = IsPlain a
SemPlain key l g semaphore.Wants = permits_are_short key l g ≡ true
SemPlain key l g (semaphore.Served a available) = IsPlain a

step-plain : (key : Object) (l : SemOp) (row : Option SemaphoreRow) (g : GroupState) → find object_cmp g.semaphores.rows key ≡ row → SemPlain key l g (sem_step_on key l row g.semaphores).outcome
step-plain key sem.Available None g is = tt
step-plain key (sem.Init n) None g is = either (λ (r : SemStep). SemPlain key (sem.Init n) g r.outcome) (has_room object_cmp most g.semaphores.rows key) _ _ tt tt
step-plain key (sem.Acquire session n x) None g is = tt
step-plain key (sem.Release session n) None g is = tt
step-plain key (sem.Drain session) None g is = tt
step-plain key (sem.Increase session n) None g is = tt
step-plain key (sem.Reduce session n) None g is = tt
step-plain key sem.Available (Some row) g is = tt
step-plain key (sem.Init n) (Some row) g is = tt
step-plain key (sem.Acquire session n x) (Some row) g is = cases (λ (r : SemStep). SemPlain key (sem.Acquire session n x) g r.outcome) (int_lt row.available (pos n)) _ _
    (λ fewer. or-second (is_some (first_on key.1 key.0 g.waiters)) (has_fewer (find object_cmp g.semaphores.rows key) n) (subst (λ r. has_fewer r n ≡ true) (sym is) fewer)) (λ enough. tt)
step-plain key (sem.Release session n) (Some row) g is = either (λ (r : SemStep). SemPlain key (sem.Release session n) g r.outcome) (is_held key.1) _ _
    (either (λ (r : SemStep). SemPlain key (sem.Release session n) g r.outcome) (nat_lt (held g.semaphores.holdings session key.0) n) _ _ tt tt)
    (either (λ (r : SemStep). SemPlain key (sem.Release session n) g r.outcome) (int_lt (pos (2 ^ 31 - 1)) (row.total +ℤ pos n)) _ _ tt tt)
step-plain key (sem.Drain session) (Some row) g is = tt
step-plain key (sem.Increase session n) (Some row) g is = either (λ (r : SemStep). SemPlain key (sem.Increase session n) g r.outcome) (int_lt (pos (2 ^ 31 - 1)) (row.total +ℤ pos n)) _ _ tt tt
step-plain key (sem.Reduce session n) (Some row) g is = either (λ (r : SemStep). SemPlain key (sem.Reduce session n) g r.outcome) (int_lt (row.available -ℤ pos n) (neg_ℤ (pos (2 ^ 31)))) _ _ tt tt

-- the operation asks the semaphore of this key for this
pub record IsOnSem (call : Invocation) (o : Op) (key : Object) (l : SemOp) : Type 0 where
  pub wishes : (session n : ℕ) (x : Wish) → l ≡ sem.Acquire session n x → wish_in o ≡ Some x
  pub short : (g : GroupState) → permits_are_short key l g ≡ true → must_wait call o g ≡ true

module _ (o : Op) (s : GroupState) (call : Invocation) (key : Object) where
  sem_wait-replies : (l : SemOp) (t : GroupState) → IsOnSem call o key l → permits_are_short key l s ≡ true → RepliesSo call o s (sem_wait call key l t).reply
  sem_wait-replies sem.Available t h short = tt
  sem_wait-replies (sem.Init n) t h short = tt
  sem_wait-replies (sem.Acquire session n x) t h short = wait-replies call o s _ x t (h.wishes session n x refl) (h.short s short)
  sem_wait-replies (sem.Release session n) t h short = tt
  sem_wait-replies (sem.Drain session) t h short = tt
  sem_wait-replies (sem.Increase session n) t h short = tt
  sem_wait-replies (sem.Reduce session n) t h short = tt

  on_sem-replies : (l : SemOp) (r : SemOutcome) (t u : GroupState) → IsOnSem call o key l → SemPlain key l s r → RepliesSo call o s (on_sem key (sem_wait call key l t) r u).reply
  on_sem-replies l (semaphore.Done a) t u h p = of-plain call o s a p
  on_sem-replies l semaphore.Wants t u h p = sem_wait-replies l t h p
  on_sem-replies l (semaphore.Served a available) t u h p = of-plain call o s a p

  behind-short : (l : SemOp) → is_behind key l s ≡ true → permits_are_short key l s ≡ true
  behind-short (sem.Acquire session n x) b = or-first (is_some (first_on key.1 key.0 s.waiters)) (has_fewer (find object_cmp s.semaphores.rows key) n)
      (last_of true (is_some (find object_cmp s.semaphores.rows key)) (is_some (first_on key.1 key.0 s.waiters)) b)
  behind-short sem.Available b = b
  behind-short (sem.Init n) b = b
  behind-short (sem.Release session n) b = b
  behind-short (sem.Drain session) b = b
  behind-short (sem.Increase session n) b = b
  behind-short (sem.Reduce session n) b = b

  sem-replies : (l : SemOp) → IsOnSem call o key l → RepliesSo call o s (sem_rule call key l s).reply
  sem-replies l h = cases (λ (r : Outcome). RepliesSo call o s r.reply) (is_behind key l s) _ _ (λ b. sem_wait-replies l s h (behind-short l b))
      (λ b. on_sem-replies l (sem_step key l s.semaphores).outcome s (record s { semaphores = (sem_step key l s.semaphores).after }) h (step-plain key l (find object_cmp s.semaphores.rows key) s refl))

same-sem : (name : List ℕ) (l : SemOp) (session n : ℕ) (x : Wish) → l ≡ sem.Acquire session n x → wish_in (op.Sem name l) ≡ Some x
same-sem name l session n x e = rw e

same-jsem : (name : List ℕ) (l : SemOp) (session n : ℕ) (x : Wish) → l ≡ sem.Acquire session n x → wish_in (op.Jsem name l) ≡ Some x
same-jsem name l session n x e = rw e

-- latches
abbrev pub LatchPlain : List ℕ → LatchOp → GroupState → LatchOutcome → Type 0
LatchPlain name l s (countdown.Done a) = IsPlain a
LatchPlain name l s countdown.Wants = latch_is_shut name l s ≡ true
LatchPlain name l s countdown.Opened = Unit {0}

latch-plain : (s : GroupState) (name : List ℕ) (call : Invocation) (l : LatchOp) → LatchPlain name l s (latch_step s.latches name call l).outcome
latch-plain s name call latch.Count = tt
latch-plain s name call latch.Round = tt
latch-plain s name call (latch.Set n) = either (λ (r : LatchStep). LatchPlain name (latch.Set n) s r.outcome) ((latch_at s.latches name).count == 0) _ _
    (either (λ (r : LatchStep). LatchPlain name (latch.Set n) s r.outcome) (has_room name_cmp most s.latches name) _ _ tt tt) tt
latch-plain s name call (latch.Down round) = either (λ (r : LatchStep). LatchPlain name (latch.Down round) s r.outcome) (is_over call round (latch_at s.latches name)) _ _ tt
    (either (λ (r : LatchStep). LatchPlain name (latch.Down round) s r.outcome) (nat_lt (counted_calls s.latches) most_counted) _ _ (either (LatchPlain name (latch.Down round) s) ((latch_at s.latches name).count == 1) _ _ tt tt) tt)
latch-plain s name call (latch.Await millis) = cases (LatchPlain name (latch.Await millis) s) ((latch_at s.latches name).count == 0) _ _ (λ open_. tt) (λ shut. not_false ((latch_at s.latches name).count == 0) shut) where
  not_false : (b : Bool) → b ≡ false → not b ≡ true
  not_false false h = refl
  not_false true h = absurd (no_true h)

latch_wait-replies : (call : Invocation) (name : List ℕ) (l : LatchOp) (s t : GroupState) → latch_is_shut name l s ≡ true → RepliesSo call (op.Latch name l) s (latch_wait call name l t).reply
latch_wait-replies call name latch.Count s t h = tt
latch_wait-replies call name latch.Round s t h = tt
latch_wait-replies call name (latch.Set n) s t h = tt
latch_wait-replies call name (latch.Down round) s t h = tt
latch_wait-replies call name (latch.Await millis) s t h = wait-replies call (op.Latch name (latch.Await millis)) s _ (wish.Within millis) t refl h

on_latch-replies : (call : Invocation) (name : List ℕ) (l : LatchOp) (r : LatchOutcome) (s t : GroupState) → LatchPlain name l s r → RepliesSo call (op.Latch name l) s (on_latch call name l r t).reply
on_latch-replies call name l (countdown.Done a) s t h = of-plain call (op.Latch name l) s a h
on_latch-replies call name l countdown.Wants s t h = latch_wait-replies call name l s t h
on_latch-replies call name l countdown.Opened s t h = tt

-- sessions
opened-replies : (i : ℕ) (call : Invocation) (o : Op) (e : Option (ℕ × SessionRow)) (s t : GroupState) → RepliesSo call o s (opened i call e t).reply
opened-replies i call o (Some e) s t = tt
opened-replies i call o None s t = either (λ (r : Outcome). RepliesSo call o s r.reply) (has_room nat_cmp most t.sessions i) _ _ tt tt

beat-replies : (call : Invocation) (number : ℕ) (row : Option SessionRow) (s : GroupState) → find nat_cmp s.sessions number ≡ row → RepliesSo call (op.Session (session.Beat number)) s (beat number row s).reply
beat-replies call number None s is = (refl, is)
beat-replies call number (Some row) s is = tt

session-replies : (i : ℕ) (call : Invocation) (l : SessionOp) (s : GroupState) → RepliesSo call (op.Session l) s (session_rule i call l s).reply
session-replies i call session.Open s = opened-replies i call (op.Session session.Open) (session_of s.sessions call.client) s s
session-replies i call (session.Beat number) s = beat-replies call number (find nat_cmp s.sessions number) s refl
session-replies i call (session.Close number) s = either (λ (r : Outcome). RepliesSo call (op.Session (session.Close number)) s r.reply) (is_some (find nat_cmp s.sessions number)) _ _ tt tt

pub rule-replies : (i : ℕ) (call : Invocation) (o : Op) (s : GroupState) → RepliesSo call o s (rule i call o s).reply
rule-replies i call (op.Long name l) s = of-plain call (op.Long name l) s _ (value-plain s.longs name (long_set (long_at s.longs name) l) (long_answer (long_at s.longs name) l) (long-plain (long_at s.longs name) l))
rule-replies i call (op.Ref name l) s = of-plain call (op.Ref name l) s _ (value-plain s.refs name (ref_set (ref_at s.refs name) l) (ref_answer (ref_at s.refs name) l) (ref-plain (ref_at s.refs name) l))
rule-replies i call (op.Map name l) s = let now = find pair_cmp s.maps (name, key_of l) in of-plain call (op.Map name l) s _ (effect-plain s.maps (name, key_of l) (map_effect now l) (map_answer now l) (map-plain now l))
rule-replies i call (op.Lock name l) s = lock-replies i call name l s
rule-replies i call (op.Sem name l) s = sem-replies (op.Sem name l) s call (name, kind.Sem) l (record { wishes = same-sem name l; short = λ g h. h })
rule-replies i call (op.Jsem name l) s = sem-replies (op.Jsem name l) s call (name, kind.Jsem) l (record { wishes = same-jsem name l; short = λ g h. h })
rule-replies i call (op.Latch name l) s = on_latch-replies call name l (latch_step s.latches name call l).outcome s (record s { latches = (latch_step s.latches name call l).after }) (latch-plain s name call l)
rule-replies i call (op.Session l) s = session-replies i call l s
rule-replies i call (op.Destroy which name) s = either (λ (r : Outcome). RepliesSo call (op.Destroy which name) s r.reply) (has_room object_cmp most s.gone (name, which)) _ _ tt tt
rule-replies i call (op.Group l) s = tt
rule-replies i call (op.Member l) s = tt
rule-replies i call (op.Change l) s = tt
