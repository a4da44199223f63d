-- Each waiter waits for the object that its call names, in the session that its call names.
use Rattle.std.proofs.Common.{is_some, ◌≡◌, ℕ, ◌⊎◌, inl, inr, Bool, true, false, ◌&&◌, List, [], Some, None, Option, refl, sym, ◌∙◌, subst, if◌then◌else◌}
use Rattle.std.specs.Prelude.{◌==◌, nat_lt, All, Contains, length, bytes_eq}
use Rattle.std.specs.Ordering.{nat_cmp}
use Rattle.std.proofs.lemmas.List.Elements.{All-nil, All-append, All-weaker, Contains-push_cases}
use Rattle.std.proofs.lemmas.Slice.Eq.{bytes_eq-Decides}
use Rattle.std.proofs.lemmas.Bool.Decides.{nat_tests}
use Rattle.std.proofs.Common.{arith}
use Rattle.cp_op_values.specs.declared.kind.Kind.{Kind}
use Rattle.cp_op_values.specs.declared.kind.Kind.TheVariants as kind
use Rattle.cp_base.specs.declared.identifier.Invocation.{Invocation}
use Rattle.cp_base.proofs.Tests.{no_true}
use Rattle.cp_answers.specs.declared.answer.Answer.{Answer}
use Rattle.cp_answers.specs.declared.answer.Answer.TheVariants as answer
use Rattle.cp_op_values.specs.declared.wish.Wish.{Wish}
use Rattle.cp_op_values.specs.declared.wish.Wish.TheVariants as wish
use Rattle.cp_object_ops.specs.declared.lock_op.LockOp.{LockOp}
use Rattle.cp_object_ops.specs.declared.lock_op.LockOp.TheVariants as lock
use Rattle.cp_object_ops.specs.declared.sem_op.SemOp.{SemOp}
use Rattle.cp_object_ops.specs.declared.sem_op.SemOp.TheVariants as sem
use Rattle.cp_object_ops.specs.declared.latch_op.LatchOp.{LatchOp}
use Rattle.cp_object_ops.specs.declared.latch_op.LatchOp.TheVariants as latch
use Rattle.cp_ops.specs.declared.session_op.SessionOp.{SessionOp}
use Rattle.cp_ops.specs.declared.session_op.SessionOp.TheVariants as session
use Rattle.cp_ops.specs.declared.op.Op.{Op}
use Rattle.cp_ops.specs.declared.op.Op.TheVariants as op
use Rattle.cp_ops.specs.declared.entry.Entry.{Entry}
use Rattle.cp_ops.specs.declared.entry.Entry.TheVariants as entry
use Rattle.cp_group_state.specs.Rows.{Object, find, has_room, most, object_cmp, kind_number}
use Rattle.cp_group_state.specs.Waiters.{Waiter, Ended, stands}
use Rattle.cp_group_state.specs.Memory.{MemoryRow, has_memory}
use Rattle.cp_group_state.specs.Sessions.{SessionRow, session_of, unchanged_since, is_open_for}
use Rattle.cp_group_state.specs.Locks.{LockRow, Taken, Fence, Limit, Busy, Released, Freed, Kept, NotOwner}
use Rattle.cp_group_state.specs.Semaphores.{SemOutcome, sem_step}
use Rattle.cp_group_state.specs.Semaphores as semaphore
use Rattle.cp_group_state.specs.Latches.{LatchOutcome, latch_step}
use Rattle.cp_group_state.specs.Latches as countdown
use Rattle.cp_group_state.specs.GroupState.{GroupState}
use Rattle.cp_group_state.specs.Changes.{Change}
use Rattle.cp_group_state.specs.Outcomes.{Outcome, Reply, Answered, Waits, wait}
use Rattle.cp_group_state.specs.LockRules.{on_taken, on_released, lock_rule}
use Rattle.cp_group_state.specs.SemaphoreRules.{sem_rule, sem_wait, on_sem, is_behind}
use Rattle.cp_group_state.specs.LatchRules.{latch_wait, on_latch}
use Rattle.cp_group_state.specs.SessionRules.{session_rule, opened, beat}
use Rattle.cp_group_state.specs.Destroying.{object_of, names_gone, add_gone, drop_rows}
use Rattle.cp_group_state.specs.Closing.{end_sessions}
use Rattle.cp_group_state.specs.Protected.{session_in}
use Rattle.cp_group_state.specs.Fences.{IsHeldUnder}
use Rattle.cp_group_state.specs.Apply.{Applied, apply, apply_call, by_session, by_memory, perform, settle, remembered, join, is_elsewhere, supersede, outcome, rule}
use Rattle.cp_group_state.proofs.Keyed.{same_kind}
use Rattle.cp_group_state.proofs.Walk.{All-closing, either, Closed, walk_supersede, walk_outcome, walk_on_latch, walk_close, walk_time_out, walk_end_all}
use Rattle.cp_group_state.proofs.Established.{fewer_closed}
use Rattle.cp_group_state.proofs.Told.{IsOwnWait, memory_of, own-outcome}
use Rattle.cp_group_state.proofs.Stand.{IsGiven}

-- A call that waits has the object that it names on its waiter.
abbrev pub NamesIt : Option Object → Reply → Type 0
NamesIt ob (Answered a) = Unit {0}
NamesIt ob (Waits w) = ob ≡ Some (w.name, w.kind)

names-wait : (ob : Option Object) (w : Waiter) (x : Wish) (s : GroupState) → ob ≡ Some (w.name, w.kind) → NamesIt ob (wait w x s).reply
names-wait ob w wish.NoLimit s h = h
names-wait ob w (wish.Within ms) s h = either (λ (r : Outcome). NamesIt ob r.reply) (ms == 0) _ _ tt h

names-taken : (ob : Option Object) (w : Waiter) (x : Wish) (t : Option Taken) (s : GroupState) → ob ≡ Some (w.name, w.kind) → NamesIt ob (on_taken w x t s).reply
names-taken ob w x (Some (Fence f)) s h = tt
names-taken ob w x (Some (Limit n)) s h = tt
names-taken ob w x None s h = tt
names-taken ob w x (Some Busy) s h = names-wait ob w x s h

names-released : (i : ℕ) (ob : Option Object) (name : List ℕ) (r : Released) (s : GroupState) → NamesIt ob (on_released i name r s).reply
names-released i ob name Freed s = tt
names-released i ob name Kept s = tt
names-released i ob name NotOwner s = tt

names-lock : (i : ℕ) (call : Invocation) (name : List ℕ) (l : LockOp) (s : GroupState) → NamesIt (Some (name, kind.Lock)) (lock_rule i call name l s).reply
names-lock i call name lock.Owner s = tt
names-lock i call name (lock.Acquire session limit wish) s = names-taken (Some (name, kind.Lock)) _ wish _ _ refl
names-lock i call name (lock.Release session) s = names-released i (Some (name, kind.Lock)) name _ _

names-sem_wait : (call : Invocation) (key : Object) (l : SemOp) (s : GroupState) → NamesIt (Some key) (sem_wait call key l s).reply
names-sem_wait call key sem.Available s = tt
names-sem_wait call key (sem.Init n) s = tt
names-sem_wait call key (sem.Acquire session n wish) s = names-wait (Some key) _ wish s refl
names-sem_wait call key (sem.Release session n) s = tt
names-sem_wait call key (sem.Drain session) s = tt
names-sem_wait call key (sem.Increase session n) s = tt
names-sem_wait call key (sem.Reduce session n) s = tt

names-on_sem : (call : Invocation) (key : Object) (l : SemOp) (r : SemOutcome) (s t : GroupState) → NamesIt (Some key) (on_sem key (sem_wait call key l s) r t).reply
names-on_sem call key l (semaphore.Done a) s t = tt
names-on_sem call key l semaphore.Wants s t = names-sem_wait call key l s
names-on_sem call key l (semaphore.Served a available) s t = tt

names-sem : (call : Invocation) (key : Object) (l : SemOp) (s : GroupState) → NamesIt (Some key) (sem_rule call key l s).reply
names-sem call key l s = either (λ (r : Outcome). NamesIt (Some key) r.reply) (is_behind key l s) _ _ (names-sem_wait call key l s) (names-on_sem call key l (sem_step key l s.semaphores).outcome s (record s { semaphores = (sem_step key l s.semaphores).after }))

names-latch_wait : (call : Invocation) (name : List ℕ) (l : LatchOp) (s : GroupState) → NamesIt (Some (name, kind.Latch)) (latch_wait call name l s).reply
names-latch_wait call name latch.Count s = tt
names-latch_wait call name latch.Round s = tt
names-latch_wait call name (latch.Set n) s = tt
names-latch_wait call name (latch.Down round) s = tt
names-latch_wait call name (latch.Await millis) s = names-wait (Some (name, kind.Latch)) _ (wish.Within millis) s refl

names-latch : (call : Invocation) (name : List ℕ) (l : LatchOp) (r : LatchOutcome) (s : GroupState) → NamesIt (Some (name, kind.Latch)) (on_latch call name l r s).reply
names-latch call name l (countdown.Done a) s = tt
names-latch call name l countdown.Wants s = names-latch_wait call name l s
names-latch call name l countdown.Opened s = tt

names-opened : (i : ℕ) (call : Invocation) (e : Option (ℕ × SessionRow)) (s : GroupState) → NamesIt None (opened i call e s).reply
names-opened i call (Some e) s = tt
names-opened i call None s = either (λ (r : Outcome). NamesIt None r.reply) (has_room nat_cmp most s.sessions i) _ _ tt tt

names-beat : (number : ℕ) (row : Option SessionRow) (s : GroupState) → NamesIt None (beat number row s).reply
names-beat number None s = tt
names-beat number (Some row) s = tt

names-session : (i : ℕ) (call : Invocation) (l : SessionOp) (s : GroupState) → NamesIt None (session_rule i call l s).reply
names-session i call session.Open s = names-opened i call (session_of s.sessions call.client) s
names-session i call (session.Beat number) s = names-beat number _ s
names-session i call (session.Close number) s = either (λ (r : Outcome). NamesIt None r.reply) (is_some (find nat_cmp s.sessions number)) _ _ tt tt

names-rule : (i : ℕ) (call : Invocation) (o : Op) (s : GroupState) → NamesIt (object_of o) (rule i call o s).reply
names-rule i call (op.Long name l) s = tt
names-rule i call (op.Ref name l) s = tt
names-rule i call (op.Map name l) s = tt
names-rule i call (op.Lock name l) s = names-lock i call name l s
names-rule i call (op.Sem name l) s = names-sem call (name, kind.Sem) l s
names-rule i call (op.Jsem name l) s = names-sem call (name, kind.Jsem) l s
names-rule i call (op.Latch name l) s = names-latch call name l (latch_step s.latches name call l).outcome (record s { latches = (latch_step s.latches name call l).after })
names-rule i call (op.Session l) s = names-session i call l s
names-rule i call (op.Destroy which name) s = either (λ (r : Outcome). NamesIt (Some (name, which)) r.reply) (has_room object_cmp most s.gone (name, which)) _ _ tt tt
names-rule i call (op.Group o) s = tt
names-rule i call (op.Member o) s = tt
names-rule i call (op.Change o) s = tt

names-outcome : (i : ℕ) (call : Invocation) (o : Op) (s : GroupState) → NamesIt (object_of o) (outcome i call o s).reply
names-outcome i call o s = either (λ (r : Outcome). NamesIt (object_of o) r.reply) (names_gone s (object_of o)) _ _ tt (names-rule i call o s)

module _ (all : List Entry) where
  -- the waiter's call is in the history, and names its object and its session
  abbrev pub IsAsked : Waiter → Type 0
  IsAsked w = (o : Op) × Contains all (entry.Call w.call o) × (object_of o ≡ Some (w.name, w.kind)) × (session_in o ≡ memory_of w)

  abbrev pub AllAsked : GroupState → Type 0
  AllAsked s = (w : Waiter) → Contains s.waiters w → IsAsked w

  abbrev pub EndsAsked : List Ended → Type 0
  EndsAsked ended = All (λ (e : Ended). IsAsked e.waiter) ended

  abbrev pub KeepsAsked : GroupState → Change → Type 0
  KeepsAsked s c = AllAsked s → AllAsked c.state × EndsAsked c.ended

  none-ends : EndsAsked []
  none-ends = All-nil (λ (e : Ended). IsAsked e.waiter)

  pub asked_closed : (i : ℕ) → Closed i KeepsAsked
  asked_closed i = record {
    stays = λ s h. (h, none-ends);
    joins = λ s c d f g h. let x = f h in let y = g x.0 in (y.0, All-append (λ (e : Ended). IsAsked e.waiter) c.ended d.ended x.1 y.1);
    ends = λ s ended within h. (λ w there. h w ((fewer_closed i).ends s ended within w there), All-weaker (λ (e : Ended). Contains s.waiters e.waiter) (λ (e : Ended). IsAsked e.waiter) (λ e k. h e.waiter k) ended within);
    handed = λ s c name w g. g;
    freed = λ s c sessions g. g;
    serves = λ s c key row is g. g;
    permits = λ s c key o g. g;
    backs = λ s c sessions g. g;
    closes = λ s sessions h. (λ w there. h w ((fewer_closed i).closes s sessions w there), All-weaker (λ (e : Ended). Contains s.waiters e.waiter) (λ (e : Ended). IsAsked e.waiter) (λ e k. h e.waiter k) (end_sessions sessions s).ended (All-closing s sessions));
    acquires = λ s c name who limit g. g;
    releases = λ s c name who g. g;
    longs = λ s c name o g. g;
    refs = λ s c name o g. g;
    maps = λ s c name o g. g;
    opens = λ s c client fresh g. g;
    beats = λ s c number row is g. g;
    drops = λ s c name which g h. g (λ w there. h w (drop-waiters name which s w there));
  }
    where
      drop-waiters : (name : List ℕ) (which : Kind) (s : GroupState) (w : Waiter) → Contains (add_gone (name, which) (drop_rows name which s)).waiters w → Contains s.waiters w
      drop-waiters name kind.Long s w h = h
      drop-waiters name kind.Ref s w h = h
      drop-waiters name kind.Lock s w h = h
      drop-waiters name kind.Sem s w h = h
      drop-waiters name kind.Jsem s w h = h
      drop-waiters name kind.Latch s w h = h
      drop-waiters name kind.Map s w h = h

  pub asked-outcome : (i : ℕ) (call : Invocation) (o : Op) (s : GroupState) → KeepsAsked s (outcome i call o s).change
  asked-outcome i call o s = walk_outcome i KeepsAsked KeepsAsked (asked_closed i) (λ s c g. g) call o s
      (λ e name l is. walk_on_latch i KeepsAsked (asked_closed i) call name l (latch_step s.latches name call l).outcome (record s { latches = (latch_step s.latches name call l).after }))

  pub asked-supersede : (i : ℕ) (call : Invocation) (s : GroupState) → KeepsAsked s (supersede call s)
  asked-supersede i call s = walk_supersede i KeepsAsked (asked_closed i) call s

  -- the call that is applied
  module _ (i : ℕ) (call : Invocation) (o : Op) (there : Contains all (entry.Call call o)) where
    asked-own : (w : Waiter) → IsOwnWait call (session_in o) (Waits w) → NamesIt (object_of o) (Waits w) → IsAsked w
    asked-own w own names = (o, subst (λ (c : Invocation). Contains all (entry.Call c o)) (sym own.0) there, names, own.1)

    remembered-asked : (so : Option ℕ) (a : Option Answer) (s : GroupState) → AllAsked s → AllAsked (remembered so call a s)
    remembered-asked None a s h = h
    remembered-asked (Some session) a s h = h

    join-asked : (v : Waiter) (s : GroupState) → IsAsked v → AllAsked s → AllAsked (join v s)
    join-asked v s own h w inside = at (Contains-push_cases s.waiters v w inside)
      where
        at : Contains s.waiters w ⊎ (v ≡ w) → IsAsked w
        at (inl x) = h w x
        at (inr e) = subst IsAsked e own

    settle-asked : (so : Option ℕ) (r : Reply) (c : Change) → IsOwnWait call (session_in o) r → NamesIt (object_of o) r → AllAsked c.state → AllAsked (settle so call r c).state
    settle-asked so (Answered a) c own names h = remembered-asked so (Some a) c.state h
    settle-asked so (Waits v) c own names h = either (λ (r : Applied). AllAsked r.state) (stands call c.state.waiters) _ _ h
        (either (λ (r : Applied). AllAsked r.state) (nat_lt (length c.state.waiters) most) _ _ (remembered-asked so None (join v c.state) (join-asked v c.state (asked-own v own names) h)) (remembered-asked so (Some (answer.TableFull most)) c.state h))

    perform-asked : (s : GroupState) → AllAsked s → AllAsked (perform i call o s).state
    perform-asked s h = settle-asked (session_in o) (outcome i call o s).reply (outcome i call o s).change (own-outcome i call o s) (names-outcome i call o s) (asked-outcome i call o s h).0

    memory-asked : (row : Option MemoryRow) (s : GroupState) → AllAsked s → AllAsked (by_memory i call o row s).state
    memory-asked None s h = perform-asked s h
    memory-asked (Some row) s h = either (λ (r : Applied). AllAsked r.state) (row.number == call.number) _ _ h (either (λ (r : Applied). AllAsked r.state) (nat_lt call.number row.number) _ _ h (perform-asked s h))

    session-asked : (so : Option ℕ) (s : GroupState) → AllAsked s → AllAsked (by_session i call o so s).state
    session-asked None s h = perform-asked s h
    session-asked (Some session) s h = either (λ (r : Applied). AllAsked r.state) (is_open_for s.sessions session call.client) _ _ (memory-asked _ s h) h

    pub call-asked : (s : GroupState) → AllAsked s → AllAsked (apply_call i call o s).state
    call-asked s h = either (λ (r : Applied). AllAsked r.state) (s.destroyed_group.0 == 0) _ _ (session-asked (session_in o) (supersede call s).state (asked-supersede i call s h).0) h

  pub asked-apply : (i : ℕ) (e : Entry) (s : GroupState) → Contains all e → AllAsked s → AllAsked (apply i e s).state
  asked-apply i entry.Empty s there h = h
  asked-apply i (entry.Call call o) s there h = either (λ (r : Applied). AllAsked r.state) (is_elsewhere o) _ _ h (call-asked i call o there s h)
  asked-apply i (entry.SessionsExpired pairs) s there h = (walk_close i KeepsAsked (asked_closed i) (unchanged_since s.sessions pairs) s h).0
  asked-apply i (entry.WaitsExpired calls) s there h = (walk_time_out i KeepsAsked (asked_closed i) calls s h).0
  asked-apply i (entry.Members call plan members) s there h = h
  asked-apply i (entry.Destroy group) s there h = (walk_end_all i KeepsAsked (asked_closed i) (λ w. true) (λ w. answer.GroupDestroyed group) (record s { destroyed_group = if s.destroyed_group.0 == 0 then group else s.destroyed_group }) h).0
  asked-apply i (entry.Destroyed group) s there h = h
  asked-apply i (entry.Moved group at members) s there h = h
  asked-apply i (entry.Left member) s there h = h

  and_true : (a b : Bool) → (a && b) ≡ true → (a ≡ true) × (b ≡ true)
  and_true true b h = (refl, h)
  and_true false b h = absurd (no_true (sym h))

  test_same : (a b : ℕ) → (a == b) ≡ true → a ≡ b
  test_same a b h = grind (arith, nat_tests)

  -- the lock that a waiter gets is the one that its call names
  pub given-held : (locks : List (List ℕ × LockRow)) (w : Waiter) (a : Answer) → IsAsked w → IsGiven locks w a → IsHeldUnder all locks w.call a
  given-held locks w (answer.Fence f) asked h = (h.0, w.session, (asked.0, asked.1, asked.2 ∙ (λ j. Some (sym name_is j, sym kind_is j)), asked.3 ∙ memory), h.2, h.3, h.4)
    where
      tests : ((kind_number kind.Lock == kind_number w.kind) ≡ true) × (bytes_eq h.0 w.name ≡ true)
      tests = and_true (kind_number kind.Lock == kind_number w.kind) (bytes_eq h.0 w.name) h.1

      kind_is : kind.Lock ≡ w.kind
      kind_is = same_kind kind.Lock w.kind (test_same (kind_number kind.Lock) (kind_number w.kind) tests.0)

      name_is : h.0 ≡ w.name
      name_is = (bytes_eq-Decides h.0 w.name).0 tests.1

      memory : memory_of w ≡ Some w.session
      memory = subst (λ (k : Kind). (if has_memory k then Some w.session else None) ≡ Some w.session) kind_is refl
  given-held locks w (answer.Held session thread holds f) asked h = absurd h
  given-held locks w a asked h = tt
