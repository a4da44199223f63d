-- The own answer of a call, and those that its rule gives to others.
use Rattle.std.proofs.Common.{is_some, ◌≡◌, ℕ, ◌+◌, ◌-◌, ◌^◌, Bool, true, false, not, ◌&&◌, List, [], ◌∷◌, Some, None, Option, refl, arith}
use Rattle.std.specs.Prelude.{◌==◌, nat_lt, ℤ, pos, neg_ℤ, int_lt, ◌-ℤ◌, ◌+ℤ◌}
use Rattle.std.proofs.lemmas.Bool.Decides.{nat_tests}
use Rattle.std.specs.Ordering.{nat_cmp}
use Rattle.std.specs.List.{filter}
use Rattle.std.proofs.lemmas.List.Elements.{All-nil}
use Rattle.cp_op_values.specs.declared.kind.Kind.{Kind}
use Rattle.cp_op_values.specs.declared.kind.Kind.TheVariants as kind
use Rattle.cp_base.specs.declared.identifier.Invocation.{Invocation}
use Rattle.cp_answers.specs.declared.answer.Answer.{Answer}
use Rattle.cp_answers.specs.declared.answer.Answer.TheVariants as answer
use Rattle.cp_op_values.specs.declared.wish.Wish.{Wish}
use Rattle.cp_op_values.specs.declared.wish.Wish.TheVariants as wish
use Rattle.cp_object_ops.specs.declared.long_op.LongOp.{LongOp}
use Rattle.cp_object_ops.specs.declared.long_op.LongOp.TheVariants as long
use Rattle.cp_object_ops.specs.declared.map_op.MapOp.{MapOp}
use Rattle.cp_object_ops.specs.declared.map_op.MapOp.TheVariants as map
use Rattle.cp_base.specs.declared.identifier.ThreadNo.{ThreadNo}
use Rattle.cp_group_state.specs.declared.rows.Holder.{Holder}
use Rattle.cp_group_state.specs.Rows.{pair_cmp}
use Rattle.cp_group_state.specs.Maps.{Pairs, Effect, Stays, Sets, Goes, MapStep, key_of, map_effect, map_answer, with_effect, map_step}
use Rattle.cp_object_ops.specs.declared.ref_op.RefOp.{RefOp}
use Rattle.cp_object_ops.specs.declared.ref_op.RefOp.TheVariants as ref
use Rattle.cp_object_ops.specs.declared.lock_op.LockOp.{LockOp}
use Rattle.cp_object_ops.specs.declared.lock_op.LockOp.TheVariants as lock
use Rattle.cp_object_ops.specs.declared.sem_op.SemOp.{SemOp}
use Rattle.cp_object_ops.specs.declared.sem_op.SemOp.TheVariants as sem
use Rattle.cp_object_ops.specs.declared.latch_op.LatchOp.{LatchOp}
use Rattle.cp_object_ops.specs.declared.latch_op.LatchOp.TheVariants as latch
use Rattle.cp_ops.specs.declared.session_op.SessionOp.{SessionOp}
use Rattle.cp_ops.specs.declared.session_op.SessionOp.TheVariants as session
use Rattle.cp_ops.specs.declared.op.Op.{Op}
use Rattle.cp_ops.specs.declared.op.Op.TheVariants as op
use Rattle.cp_group_state.specs.Rows.{find, put, has_room, most, name_cmp, object_cmp}
use Rattle.cp_group_state.specs.Waiters.{Waiter, Ended, waits_on}
use Rattle.cp_group_state.specs.Sessions.{SessionRow, session_of}
use Rattle.cp_group_state.specs.Locks.{LockRow, Taken, Fence, Limit, Busy, Released, Freed, Kept, NotOwner, Acquired, lock_at, is_free, is_held_by, held_once, most_holds, acquired, released_by}
use Rattle.cp_group_state.specs.Semaphores.{SemaphoreRow, Semaphores, SemStep, SemOutcome, is_held, held, sem_step, sem_step_on, raise_total, release_held, at_least_none, served}
use Rattle.cp_group_state.specs.Semaphores as semaphore
use Rattle.cp_group_state.specs.Latches.{LatchRow, LatchStep, LatchOutcome, latch_at, latch_step, is_over, counted_calls, most_counted}
use Rattle.cp_group_state.specs.Latches as countdown
use Rattle.cp_group_state.specs.Atomics.{AtomicStep, set_value, long_step, ref_step, long_at, long_set, long_answer, ref_at, ref_set, ref_answer}
use Rattle.cp_group_state.specs.GroupState.{GroupState}
use Rattle.cp_group_state.specs.Outcomes.{Outcome, Reply, Answered, Waits, wait, answered}
use Rattle.cp_group_state.specs.Serving.{serve}
use Rattle.cp_group_state.specs.LockRules.{owner_answer, on_taken, on_released, lock_rule}
use Rattle.cp_group_state.specs.SemaphoreRules.{sem_rule, sem_wait, on_sem, is_behind}
use Rattle.cp_group_state.specs.LatchRules.{latch_wait, on_latch}
use Rattle.cp_group_state.specs.SessionRules.{session_rule, opened, beat}
use Rattle.cp_group_state.specs.Apply.{outcome, rule}
use Rattle.cp_group_state.specs.Destroying.{names_gone, object_of}
use Rattle.cp_group_state.specs.Protected.{session_in}
use Rattle.cp_group_state.proofs.Keyed.{find-put_same, name_key, same-thread}
use Rattle.cp_group_state.proofs.Rising.{Rising}
use Rattle.cp_group_state.proofs.Walk.{cases, either}
use Rattle.cp_group_state.proofs.Stand.{IsGiven, NoFence, EndedStand, quiet-stand, quiet-answers, quiet-serve_from, stand-hand_over, stand-close}

module _ (Asked : List ℕ → ℕ → Type 0) (Names : List ℕ → Type 0) where
  -- a fence is that of a lock that the thread holds in a session, where both are what was asked for; an owner is that of a
  -- lock which is named
  abbrev pub IsOwnHeld : List (List ℕ × LockRow) → ThreadNo → Answer → Type 0
  IsOwnHeld locks thread (answer.Fence f) = (name : List ℕ) × (session : ℕ) × Asked name session × (is_free (lock_at locks name) ≡ false) × ((lock_at locks name).holder ≡ record { session = session; thread = thread }) × ((lock_at locks name).fence ≡ f)
  IsOwnHeld locks thread (answer.Held session owner holds f) = (name : List ℕ) × Names name × (is_free (lock_at locks name) ≡ false) × ((lock_at locks name).holder ≡ record { session = session; thread = owner }) × ((lock_at locks name).holds ≡ holds) × ((lock_at locks name).fence ≡ f)
  IsOwnHeld locks thread a = Unit {0}

  no-own : (locks : List (List ℕ × LockRow)) (thread : ThreadNo) (a : Answer) → NoFence a → IsOwnHeld locks thread a
  no-own locks thread (answer.Fence f) h = absurd h
  no-own locks thread (answer.Held session owner holds f) h = absurd h
  no-own locks thread a h = tt

  abbrev pub OwnStands : Invocation → List (List ℕ × LockRow) → Reply → Type 0
  OwnStands call locks (Answered a) = IsOwnHeld locks call.thread a
  OwnStands call locks (Waits w) = Unit {0}

  abbrev pub OutcomeStands : Invocation → Outcome → Type 0
  OutcomeStands call r = EndedStand r.change.state.locks r.change.ended × OwnStands call r.change.state.locks r.reply

  none-ended : (locks : List (List ℕ × LockRow)) → EndedStand locks []
  none-ended locks = All-nil (λ (e : Ended). IsGiven locks e.waiter e.answer)

  plain : (call : Invocation) (a : Answer) (s : GroupState) → NoFence a → OutcomeStands call (answered a s)
  plain call a s h = (none-ended s.locks, no-own s.locks call.thread a h)

  -- longs and references
  value-plain : {X : Type 0} (rows : List (List ℕ × X)) (name : List ℕ) (o : Option X) (a : Answer) → NoFence a → NoFence (set_value rows name o a).answer
  value-plain rows name None a h = h
  value-plain {X} rows name (Some x) a h = either (λ (r : AtomicStep X). NoFence r.answer) (has_room name_cmp most rows name) _ _ h tt

  long-plain : (now : ℤ) (o : LongOp) → NoFence (long_answer now o)
  long-plain now long.Get = tt
  long-plain now (long.Set x) = tt
  long-plain now (long.GetSet x) = tt
  long-plain now (long.Add x) = tt
  long-plain now (long.GetAdd x) = tt
  long-plain now (long.Cas a b) = tt

  ref-plain : (now : Option (List ℕ)) (o : RefOp) → NoFence (ref_answer now o)
  ref-plain now ref.Get = tt
  ref-plain now (ref.Set x) = tt
  ref-plain now (ref.GetSet x) = tt
  ref-plain now (ref.Cas a b) = tt
  ref-plain now (ref.Contains x) = tt

  map-plain : (now : Option (List ℕ)) (o : MapOp) → NoFence (map_answer now o)
  map-plain now (map.Get key) = tt
  map-plain now (map.Set key value) = tt
  map-plain now (map.Put key value) = tt
  map-plain now (map.Remove key) = tt
  map-plain now (map.Delete key) = tt
  map-plain now (map.PutIfAbsent key value) = tt
  map-plain now (map.Cas key old value) = tt

  effect-plain : (pairs : Pairs) (place : List ℕ × List ℕ) (e : Effect) (a : Answer) → NoFence a → NoFence (with_effect pairs place e a).answer
  effect-plain pairs place Stays a h = h
  effect-plain pairs place (Sets value) a h = either (λ (r : MapStep). NoFence r.answer) (has_room pair_cmp most pairs place) _ _ h tt
  effect-plain pairs place Goes a h = h

  wait-stands : (call : Invocation) (w : Waiter) (x : Wish) (s : GroupState) → OutcomeStands call (wait w x s)
  wait-stands call w wish.NoLimit s = (none-ended s.locks, tt)
  wait-stands call w (wish.Within ms) s = either (OutcomeStands call) (ms == 0) _ _ (plain call answer.TimedOut s tt) (none-ended s.locks, tt)

  -- locks
  abbrev pub TakenStands : List ℕ → Holder → List (List ℕ × LockRow) → Option Taken → Type 0
  TakenStands name who rows (Some (Fence f)) = (is_free (lock_at rows name) ≡ false) × ((lock_at rows name).holder ≡ who) × ((lock_at rows name).fence ≡ f)
  TakenStands name who rows taken = Unit {0}

  lock-put : (rows : List (List ℕ × LockRow)) (name : List ℕ) (row : LockRow) → lock_at (put name_cmp rows name row) name ≡ row
  lock-put rows name row = rw (find-put_same name_cmp name_key rows name row)

  put-stands : (rows : List (List ℕ × LockRow)) (name : List ℕ) (row : LockRow) (who : Holder) → is_free row ≡ false → row.holder ≡ who → TakenStands name who (put name_cmp rows name row) (Some (Fence row.fence))
  put-stands rows name row who f t = (rw (lock-put rows name row) f, rw (lock-put rows name row) t, rw (lock-put rows name row))

  one-more : (n : ℕ) → (n + 1 == 0) ≡ false
  one-more n = grind (arith, nat_tests)

  test_same : (a b : ℕ) → (a == b) ≡ true → a ≡ b
  test_same a b h = grind (arith, nat_tests)

  and-middle : (a b c : Bool) → (a && (b && c)) ≡ true → b ≡ true
  and-middle true true c h = refl
  and-middle true false c h = cc
  and-middle false b c h = cc

  and-last : (a b c : Bool) → (a && (b && c)) ≡ true → c ≡ true
  and-last true true c h = h
  and-last true false c h = cc
  and-last false b c h = cc

  held-who : (who : Holder) (row : LockRow) → is_held_by who row ≡ true → row.holder ≡ who
  held-who who row e = let session_is = test_same row.holder.session who.session (and-middle (not (is_free row)) (row.holder.session == who.session) (row.holder.thread.0 == who.thread.0) e) in
      let thread_is = same-thread row.holder.thread who.thread (test_same row.holder.thread.0 who.thread.0 (and-last (not (is_free row)) (row.holder.session == who.session) (row.holder.thread.0 == who.thread.0) e)) in
      λ j. record { session = session_is j; thread = thread_is j }

  acquired-stands : (i : ℕ) (rows : List (List ℕ × LockRow)) (name : List ℕ) (who : Holder) (limit : ℕ) → TakenStands name who (acquired rows i name who limit).rows (acquired rows i name who limit).taken
  acquired-stands i rows name who limit = let row = lock_at rows name in
      either (λ (r : Acquired). TakenStands name who r.rows r.taken) (is_free row) _ _
      (either (λ (r : Acquired). TakenStands name who r.rows r.taken) (has_room name_cmp most rows name) _ _ (put-stands rows name (held_once who i) who refl refl) tt)
      (cases (λ (r : Acquired). TakenStands name who r.rows r.taken) (is_held_by who row) _ _
      (λ e. either (λ (r : Acquired). TakenStands name who r.rows r.taken) (nat_lt row.holds (most_holds limit)) _ _
      (put-stands rows name (record row { holds = row.holds + 1 }) who (one-more row.holds) (held-who who row e)) tt)
      (λ e. tt))

  taken-stands : (call : Invocation) (name : List ℕ) (session : ℕ) (w : Waiter) (x : Wish) (t : Option Taken) (s : GroupState) → Asked name session → TakenStands name (record { session = session; thread = call.thread }) s.locks t → OutcomeStands call (on_taken w x t s)
  taken-stands call name session w x (Some (Fence f)) s r h = (none-ended s.locks, (name, session, r, h.0, h.1, h.2))
  taken-stands call name session w x (Some (Limit n)) s r h = plain call (answer.LimitReached n) s tt
  taken-stands call name session w x None s r h = plain call (answer.TableFull most) s tt
  taken-stands call name session w x (Some Busy) s r h = wait-stands call w x s

  released-stands : (i : ℕ) (call : Invocation) (name : List ℕ) (r : Released) (s : GroupState) → OutcomeStands call (on_released i name r s)
  released-stands i call name Freed s = (stand-hand_over i name s, tt)
  released-stands i call name Kept s = plain call answer.Ok s tt
  released-stands i call name NotOwner s = plain call answer.NotOwner s tt

  owner-stands : (call : Invocation) (name : List ℕ) (s : GroupState) → Names name → OutcomeStands call (answered (owner_answer (lock_at s.locks name)) s)
  owner-stands call name s named = cases (λ (a : Answer). OutcomeStands call (answered a s)) (is_free (lock_at s.locks name)) _ _
      (λ e. plain call answer.Free s tt) (λ e. (none-ended s.locks, (name, named, e, refl, refl, refl)))

  lock-stands : (i : ℕ) (call : Invocation) (name : List ℕ) (l : LockOp) (s : GroupState) → Names name → ((session limit : ℕ) (x : Wish) → l ≡ lock.Acquire session limit x → Asked name session) → OutcomeStands call (lock_rule i call name l s)
  lock-stands i call name lock.Owner s named asked = owner-stands call name s named
  lock-stands i call name (lock.Acquire session limit wish) s named asked = taken-stands call name session _ wish (acquired s.locks i name (record { session = session; thread = call.thread }) limit).taken (record s { locks = (acquired s.locks i name (record { session = session; thread = call.thread }) limit).rows }) (asked session limit wish refl) (acquired-stands i s.locks name (record { session = session; thread = call.thread }) limit)
  lock-stands i call name (lock.Release session) s named asked = released-stands i call name (released_by s.locks name (record { session = session; thread = call.thread })).released (record s { locks = (released_by s.locks name (record { session = session; thread = call.thread })).rows })

  -- semaphores
  abbrev pub SemPlain : SemOutcome → Type 0
  SemPlain (semaphore.Done a) = NoFence a
  SemPlain semaphore.Wants = Unit {0}
  SemPlain (semaphore.Served a available) = NoFence a

  step-plain : (key : List ℕ × Kind) (o : SemOp) (row : Option SemaphoreRow) (s : Semaphores) → SemPlain (sem_step_on key o row s).outcome
  step-plain key sem.Available None s = tt
  step-plain key (sem.Init n) None s = either (λ (r : SemStep). SemPlain r.outcome) (has_room object_cmp most s.rows key) _ _ tt tt
  step-plain key (sem.Acquire session n wish) None s = tt
  step-plain key (sem.Release session n) None s = tt
  step-plain key (sem.Drain session) None s = tt
  step-plain key (sem.Increase session n) None s = tt
  step-plain key (sem.Reduce session n) None s = tt
  step-plain key sem.Available (Some row) s = tt
  step-plain key (sem.Init n) (Some row) s = tt
  step-plain key (sem.Acquire session n wish) (Some row) s = either (λ (r : SemStep). SemPlain r.outcome) (int_lt row.available (pos n)) _ _ tt tt
  step-plain key (sem.Release session n) (Some row) s = either (λ (r : SemStep). SemPlain r.outcome) (is_held key.1) _ _
      (either (λ (r : SemStep). SemPlain r.outcome) (nat_lt (held s.holdings session key.0) n) _ _ tt tt) (either (λ (r : SemStep). SemPlain r.outcome) (int_lt (pos (2 ^ 31 - 1)) (row.total +ℤ pos n)) _ _ tt tt)
  step-plain key (sem.Drain session) (Some row) s = tt
  step-plain key (sem.Increase session n) (Some row) s = either (λ (r : SemStep). SemPlain r.outcome) (int_lt (pos (2 ^ 31 - 1)) (row.total +ℤ pos n)) _ _ tt tt
  step-plain key (sem.Reduce session n) (Some row) s = either (λ (r : SemStep). SemPlain r.outcome) (int_lt (row.available -ℤ pos n) (neg_ℤ (pos (2 ^ 31)))) _ _ tt tt

  sem_wait-stands : (call : Invocation) (key : List ℕ × Kind) (l : SemOp) (s : GroupState) → OutcomeStands call (sem_wait call key l s)
  sem_wait-stands call key sem.Available s = plain call answer.NotInitialized s tt
  sem_wait-stands call key (sem.Init n) s = plain call answer.NotInitialized s tt
  sem_wait-stands call key (sem.Acquire session n wish) s = wait-stands call _ wish s
  sem_wait-stands call key (sem.Release session n) s = plain call answer.NotInitialized s tt
  sem_wait-stands call key (sem.Drain session) s = plain call answer.NotInitialized s tt
  sem_wait-stands call key (sem.Increase session n) s = plain call answer.NotInitialized s tt
  sem_wait-stands call key (sem.Reduce session n) s = plain call answer.NotInitialized s tt

  on_sem-stands : (call : Invocation) (key : List ℕ × Kind) (l : SemOp) (r : SemOutcome) (s t : GroupState) → SemPlain r → OutcomeStands call (on_sem key (sem_wait call key l s) r t)
  on_sem-stands call key l (semaphore.Done a) s t h = plain call a t h
  on_sem-stands call key l semaphore.Wants s t h = sem_wait-stands call key l s
  on_sem-stands call key l (semaphore.Served a available) s t h = (quiet-stand (serve key t).state.locks (serve key t).ended (quiet-serve_from key (find object_cmp t.semaphores.rows key) t).0, no-own (serve key t).state.locks call.thread a h)

  sem-stands : (call : Invocation) (key : List ℕ × Kind) (l : SemOp) (s : GroupState) → OutcomeStands call (sem_rule call key l s)
  sem-stands call key l s = either (OutcomeStands call) (is_behind key l s) _ _ (sem_wait-stands call key l s)
      (on_sem-stands call key l (sem_step key l s.semaphores).outcome s (record s { semaphores = (sem_step key l s.semaphores).after }) (step-plain key l (find object_cmp s.semaphores.rows key) s.semaphores))

  -- latches
  abbrev pub LatchPlain : LatchOutcome → Type 0
  LatchPlain (countdown.Done a) = NoFence a
  LatchPlain countdown.Wants = Unit {0}
  LatchPlain countdown.Opened = Unit {0}

  latch-plain : (rows : List (List ℕ × LatchRow)) (name : List ℕ) (call : Invocation) (l : LatchOp) → LatchPlain (latch_step rows name call l).outcome
  latch-plain rows name call latch.Count = tt
  latch-plain rows name call latch.Round = tt
  latch-plain rows name call (latch.Set n) = either (λ (r : LatchStep). LatchPlain r.outcome) ((latch_at rows name).count == 0) _ _ (either (λ (r : LatchStep). LatchPlain r.outcome) (has_room name_cmp most rows name) _ _ tt tt) tt
  latch-plain rows name call (latch.Down round) = either (λ (r : LatchStep). LatchPlain r.outcome) (is_over call round (latch_at rows name)) _ _ tt
      (either (λ (r : LatchStep). LatchPlain r.outcome) (nat_lt (counted_calls rows) most_counted) _ _ (either LatchPlain ((latch_at rows name).count == 1) _ _ tt tt) tt)
  latch-plain rows name call (latch.Await millis) = either LatchPlain ((latch_at rows name).count == 0) _ _ tt tt

  latch_wait-stands : (call : Invocation) (name : List ℕ) (l : LatchOp) (s : GroupState) → OutcomeStands call (latch_wait call name l s)
  latch_wait-stands call name latch.Count s = plain call answer.Ok s tt
  latch_wait-stands call name latch.Round s = plain call answer.Ok s tt
  latch_wait-stands call name (latch.Set n) s = plain call answer.Ok s tt
  latch_wait-stands call name (latch.Down round) s = plain call answer.Ok s tt
  latch_wait-stands call name (latch.Await millis) s = wait-stands call _ (wish.Within millis) s

  on_latch-stands : (call : Invocation) (name : List ℕ) (l : LatchOp) (r : LatchOutcome) (s : GroupState) → LatchPlain r → OutcomeStands call (on_latch call name l r s)
  on_latch-stands call name l (countdown.Done a) s h = plain call a s h
  on_latch-stands call name l countdown.Wants s h = latch_wait-stands call name l s
  on_latch-stands call name l countdown.Opened s h = (quiet-stand s.locks _ (quiet-answers (λ w. answer.Bool true) (λ w. tt) (filter (waits_on kind.Latch name) s.waiters)), tt)

  opened-stands : (i : ℕ) (call : Invocation) (e : Option (ℕ × SessionRow)) (s : GroupState) → OutcomeStands call (opened i call e s)
  opened-stands i call (Some e) s = plain call (answer.Session e.0) s tt
  opened-stands i call None s = either (OutcomeStands call) (has_room nat_cmp most s.sessions i) _ _ (none-ended s.locks, tt) (plain call (answer.TableFull most) s tt)

  beat-stands : (call : Invocation) (number : ℕ) (row : Option SessionRow) (s : GroupState) → OutcomeStands call (beat number row s)
  beat-stands call number None s = plain call (answer.SessionExpired number) s tt
  beat-stands call number (Some row) s = (none-ended s.locks, tt)

  session-stands : (i : ℕ) (call : Invocation) (l : SessionOp) (s : GroupState) → Rising name_cmp s.locks → OutcomeStands call (session_rule i call l s)
  session-stands i call session.Open s h = opened-stands i call (session_of s.sessions call.client) s
  session-stands i call (session.Beat number) s h = beat-stands call number (find nat_cmp s.sessions number) s
  session-stands i call (session.Close number) s h = either (OutcomeStands call) (is_some (find nat_cmp s.sessions number)) _ _ (stand-close i (number ∷ []) s h, tt) (plain call answer.Ok s tt)

-- the lock and the session that an operation names
abbrev pub AskedBy : Op → List ℕ → ℕ → Type 0
AskedBy o name session = (object_of o ≡ Some (name, kind.Lock)) × (session_in o ≡ Some session)

-- the lock that an operation names
abbrev pub NamedBy : Op → List ℕ → Type 0
NamedBy o name = object_of o ≡ Some (name, kind.Lock)

same-acquire : (name : List ℕ) (l : LockOp) (session limit : ℕ) (x : Wish) → l ≡ lock.Acquire session limit x → session_in (op.Lock name l) ≡ Some session
same-acquire name l session limit x e = rw e

rule-stands : (i : ℕ) (call : Invocation) (o : Op) (s : GroupState) → Rising name_cmp s.locks → OutcomeStands (AskedBy o) (NamedBy o) call (rule i call o s)
rule-stands i call (op.Long name l) s h = (none-ended (AskedBy (op.Long name l)) (NamedBy (op.Long name l)) s.locks, no-own (AskedBy (op.Long name l)) (NamedBy (op.Long name l)) s.locks call.thread (long_step s.longs name l).answer (value-plain (AskedBy (op.Long name l)) (NamedBy (op.Long name l)) s.longs name (long_set (long_at s.longs name) l) (long_answer (long_at s.longs name) l) (long-plain (AskedBy (op.Long name l)) (NamedBy (op.Long name l)) (long_at s.longs name) l)))
rule-stands i call (op.Ref name l) s h = (none-ended (AskedBy (op.Ref name l)) (NamedBy (op.Ref name l)) s.locks, no-own (AskedBy (op.Ref name l)) (NamedBy (op.Ref name l)) s.locks call.thread (ref_step s.refs name l).answer (value-plain (AskedBy (op.Ref name l)) (NamedBy (op.Ref name l)) s.refs name (ref_set (ref_at s.refs name) l) (ref_answer (ref_at s.refs name) l) (ref-plain (AskedBy (op.Ref name l)) (NamedBy (op.Ref name l)) (ref_at s.refs name) l)))
rule-stands i call (op.Map name l) s h = let now = find pair_cmp s.maps (name, key_of l) in
    (none-ended (AskedBy (op.Map name l)) (NamedBy (op.Map name l)) s.locks, no-own (AskedBy (op.Map name l)) (NamedBy (op.Map name l)) s.locks call.thread (map_step s.maps name l).answer (effect-plain (AskedBy (op.Map name l)) (NamedBy (op.Map name l)) s.maps (name, key_of l) (map_effect now l) (map_answer now l) (map-plain (AskedBy (op.Map name l)) (NamedBy (op.Map name l)) now l)))
rule-stands i call (op.Lock name l) s h = lock-stands (AskedBy (op.Lock name l)) (NamedBy (op.Lock name l)) i call name l s refl (λ session limit x e. (refl, same-acquire name l session limit x e))
rule-stands i call (op.Sem name l) s h = sem-stands (AskedBy (op.Sem name l)) (NamedBy (op.Sem name l)) call (name, kind.Sem) l s
rule-stands i call (op.Jsem name l) s h = sem-stands (AskedBy (op.Jsem name l)) (NamedBy (op.Jsem name l)) call (name, kind.Jsem) l s
rule-stands i call (op.Latch name l) s h = on_latch-stands (AskedBy (op.Latch name l)) (NamedBy (op.Latch name l)) call name l (latch_step s.latches name call l).outcome (record s { latches = (latch_step s.latches name call l).after }) (latch-plain (AskedBy (op.Latch name l)) (NamedBy (op.Latch name l)) s.latches name call l)
rule-stands i call (op.Session l) s h = session-stands (AskedBy (op.Session l)) (NamedBy (op.Session l)) i call l s h
rule-stands i call (op.Destroy which name) s h = either (OutcomeStands (AskedBy (op.Destroy which name)) (NamedBy (op.Destroy which name)) call) (has_room object_cmp most s.gone (name, which)) _ _
    (quiet-stand _ _ (quiet-answers (λ w. answer.ObjectDestroyed) (λ w. tt) _), tt) (plain (AskedBy (op.Destroy which name)) (NamedBy (op.Destroy which name)) call (answer.TableFull most) s tt)
rule-stands i call (op.Group o) s h = plain (AskedBy (op.Group o)) (NamedBy (op.Group o)) call answer.Ok s tt
rule-stands i call (op.Member o) s h = plain (AskedBy (op.Member o)) (NamedBy (op.Member o)) call answer.Ok s tt
rule-stands i call (op.Change o) s h = plain (AskedBy (op.Change o)) (NamedBy (op.Change o)) call answer.Ok s tt

pub outcome-stands : (i : ℕ) (call : Invocation) (o : Op) (s : GroupState) → Rising name_cmp s.locks → OutcomeStands (AskedBy o) (NamedBy o) call (outcome i call o s)
outcome-stands i call o s h = either (OutcomeStands (AskedBy o) (NamedBy o) call) (names_gone s (object_of o)) _ _ (plain (AskedBy o) (NamedBy o) call answer.ObjectDestroyed s tt) (rule-stands i call o s h)
