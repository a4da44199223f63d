-- An answer in the memory was told before.
use Rattle.std.proofs.Common.{is_some, ◌≡◌, ℕ, ◌-◌, ◌^◌, ◌<◌, ◌⊎◌, inl, inr, Bool, true, false, not, List, [], ◌∷◌, ◌++◌, Some, None, Option, refl, ap, sym, ◌∙◌, subst, if◌then◌else◌, append_assoc}
use Rattle.std.specs.Prelude.{◌==◌, nat_lt, All, Contains, length}
use Rattle.std.proofs.lemmas.List.Elements.{Contains-append_cases, Contains-append_left, Contains-append_right, Contains-push, Contains-push_cases, All-head, All-tail}
use Rattle.std.specs.Ordering.{nat_cmp}
use Rattle.std.specs.BTreeMap.{is_at}
use Rattle.std.proofs.lemmas.Option.{none-some}
use Rattle.cp_op_values.specs.declared.kind.Kind.{Kind}
use Rattle.cp_op_values.specs.declared.kind.Kind.TheVariants as kind
use Rattle.cp_base.specs.declared.identifier.Invocation.{Invocation}
use Rattle.cp_answers.specs.declared.answer.Answer.{Answer}
use Rattle.cp_answers.specs.declared.answer.Answer.TheVariants as answer
use Rattle.cp_op_values.specs.declared.wish.Wish.{Wish}
use Rattle.cp_op_values.specs.declared.wish.Wish.TheVariants as wish
use Rattle.cp_object_ops.specs.declared.lock_op.LockOp.{LockOp}
use Rattle.cp_object_ops.specs.declared.lock_op.LockOp.TheVariants as lock
use Rattle.cp_object_ops.specs.declared.sem_op.SemOp.{SemOp}
use Rattle.cp_object_ops.specs.declared.sem_op.SemOp.TheVariants as sem
use Rattle.cp_object_ops.specs.declared.latch_op.LatchOp.{LatchOp}
use Rattle.cp_object_ops.specs.declared.latch_op.LatchOp.TheVariants as latch
use Rattle.cp_ops.specs.declared.session_op.SessionOp.{SessionOp}
use Rattle.cp_ops.specs.declared.session_op.SessionOp.TheVariants as session
use Rattle.cp_ops.specs.declared.op.Op.{Op}
use Rattle.cp_ops.specs.declared.op.Op.TheVariants as op
use Rattle.cp_ops.specs.declared.entry.Entry.{Entry}
use Rattle.cp_ops.specs.declared.entry.Entry.TheVariants as entry
use Rattle.cp_base.specs.declared.identifier.ClientId.{ClientId}
use Rattle.cp_base.proofs.Tests.{same_some, same_number}
use Rattle.cp_group_state.specs.Rows.{find, holder_cmp, object_cmp, most, has_room}
use Rattle.cp_group_state.specs.Waiters.{Waiter, Ended, stands}
use Rattle.cp_group_state.specs.Memory.{MemoryRow, remember, note, note_at, note_all, has_memory}
use Rattle.cp_group_state.specs.Sessions.{SessionRow, is_of, is_open_for, is_among, session_of, unchanged_since}
use Rattle.cp_group_state.specs.Locks.{Taken, Fence, Limit, Busy, Released, Freed, Kept, NotOwner}
use Rattle.cp_group_state.specs.Semaphores.{sem_step, SemOutcome}
use Rattle.cp_group_state.specs.Semaphores as semaphore
use Rattle.cp_group_state.specs.Latches.{LatchOutcome, latch_step}
use Rattle.cp_group_state.specs.Latches as countdown
use Rattle.cp_group_state.specs.Closing.{end_sessions, forget}
use Rattle.cp_group_state.specs.GroupState.{GroupState}
use Rattle.cp_group_state.specs.Changes.{Change, stay, finish}
use Rattle.cp_group_state.specs.Apply.{Applied, supersede, outcome, rule, remembered, settle, settle_wait, join, perform, by_memory, by_session, apply_call, is_elsewhere, apply, told}
use Rattle.cp_group_state.specs.Outcomes.{Reply, Answered, Waits, Outcome, wait}
use Rattle.cp_group_state.specs.LockRules.{lock_rule, on_taken, on_released}
use Rattle.cp_group_state.specs.SemaphoreRules.{sem_rule, sem_wait, on_sem, is_behind}
use Rattle.cp_group_state.specs.LatchRules.{latch_wait, on_latch}
use Rattle.cp_group_state.specs.SessionRules.{session_rule, opened, beat}
use Rattle.cp_group_state.specs.Protected.{session_in}
use Rattle.cp_group_state.specs.Destroying.{names_gone, object_of, add_gone, drop_rows}
use Rattle.cp_group_state.specs.History.{IsBelow, IsOrderlyAt}
use Rattle.cp_group_state.proofs.Keyed.{equal_is, find-put_same, find-put_other, find-filter_kept, find-filter_gone, holder_key, same-client}
use Rattle.cp_group_state.proofs.Walk.{All-closing, cases, either, Closed, walk_on_latch, walk_supersede, walk_outcome, walk_close, walk_time_out, walk_end_all}
use Rattle.cp_group_state.proofs.Grows.{Grows, opens-opened, beats-opened, forget-opened}
use Rattle.cp_group_state.proofs.Steps.{grows-outcome, RoundsWithin, within-supersede}
use Rattle.cp_group_state.proofs.Established.{fewer_closed}

-- if a waiter's session is open at all, it is open for the waiter's client
abbrev pub IsOwnWaiter : ℕ → List (ℕ × SessionRow) → Waiter → Type 0
IsOwnWaiter i sessions w = has_memory w.kind ≡ true → (w.session < i) × ((client : ClientId) → is_open_for sessions w.session client ≡ true → client ≡ w.call.client)

abbrev pub IsToldRow : ℕ → List (Invocation × Answer) → List (ℕ × SessionRow) → ℕ → ℕ → MemoryRow → Type 0
IsToldRow i past sessions session thread row = (session < i) × ((a : Answer) → row.answer ≡ Some a → (client : ClientId) → is_open_for sessions session client ≡ true → Contains past (record { client = client; thread = record { 0 = thread }; number = row.number }, a))

abbrev pub MemoryTold : ℕ → List (Invocation × Answer) → List (ℕ × SessionRow) → List ((ℕ × ℕ) × MemoryRow) → Type 0
MemoryTold i past sessions rows = (session thread : ℕ) (row : MemoryRow) → find holder_cmp rows (session, thread) ≡ Some row → IsToldRow i past sessions session thread row

pub record Told (i : ℕ) (past : List (Invocation × Answer)) (s : GroupState) : Type 0 where
  pub waiters : (w : Waiter) → Contains s.waiters w → IsOwnWaiter i s.sessions w
  pub memory : MemoryTold i past s.sessions s.memory

pub told_more : (i : ℕ) (past more : List (Invocation × Answer)) (s : GroupState) → ((x : Invocation × Answer) → Contains past x → Contains more x) → Told i past s → Told i more s
told_more i past more s f h = record { waiters = h.waiters; memory = λ session thread row there. let x = h.memory session thread row there in (x.0, λ a is client o. f _ (x.1 a is client o)) }

memory_more : (i : ℕ) (past : List (Invocation × Answer)) (added : Invocation × Answer) (sessions : List (ℕ × SessionRow)) (rows : List ((ℕ × ℕ) × MemoryRow)) → MemoryTold i past sessions rows → MemoryTold i (past ++ added ∷ []) sessions rows
memory_more i past added sessions rows h session thread row there = let x = h session thread row there in (x.0, λ a is client o. Contains-append_left past (added ∷ []) _ (x.1 a is client o))

note_at-told : (i : ℕ) (past : List (Invocation × Answer)) (sessions : List (ℕ × SessionRow)) (rows : List ((ℕ × ℕ) × MemoryRow)) (e : Ended) (o : Option MemoryRow) → find holder_cmp rows (e.waiter.session, e.waiter.call.thread.0) ≡ o
    → ((client : ClientId) → is_open_for sessions e.waiter.session client ≡ true → client ≡ e.waiter.call.client) → MemoryTold i past sessions rows → MemoryTold i (past ++ (e.waiter.call, e.answer) ∷ []) sessions (note_at rows e o)
note_at-told i past sessions rows e None is own h = memory_more i past _ sessions rows h
note_at-told i past sessions rows e (Some old) is own h = cases (MemoryTold i (past ++ (e.waiter.call, e.answer) ∷ []) sessions) (old.number == e.waiter.call.number) _ _
    (λ n session thread row there. at session thread row there n (is_at (holder_cmp (session, thread)) (e.waiter.session, e.waiter.call.thread.0)) refl) (λ n. memory_more i past _ sessions rows h)
  where
    at : (session thread : ℕ) (row : MemoryRow) → find holder_cmp (remember rows e.waiter.session e.waiter.call.thread old.number (Some e.answer)) (session, thread) ≡ Some row → (old.number == e.waiter.call.number) ≡ true
        → (b : Bool) → is_at (holder_cmp (session, thread)) (e.waiter.session, e.waiter.call.thread.0) ≡ b → IsToldRow i (past ++ (e.waiter.call, e.answer) ∷ []) sessions session thread row
    at session thread row there n true x = let key : (session, thread) ≡ (e.waiter.session, e.waiter.call.thread.0) = holder_key.same (session, thread) (e.waiter.session, e.waiter.call.thread.0) (equal_is _ x) in
        let new : MemoryRow = record { number = old.number; answer = Some e.answer } in
        let put_here : find holder_cmp (remember rows e.waiter.session e.waiter.call.thread old.number (Some e.answer)) (session, thread) ≡ Some new = rw key (find-put_same holder_cmp holder_key rows (e.waiter.session, e.waiter.call.thread.0) new) in
        let row_is : new ≡ row = same_some (sym put_here ∙ there) in
        let s_is : e.waiter.session ≡ session = sym (ap (λ (p : ℕ × ℕ). p.0) key) in
        let t_is : e.waiter.call.thread.0 ≡ thread = sym (ap (λ (p : ℕ × ℕ). p.1) key) in
        let old_told : IsToldRow i past sessions e.waiter.session e.waiter.call.thread.0 old = h e.waiter.session e.waiter.call.thread.0 old is in (
          rw (← s_is) old_told.0,
          λ a is client o. let same : client ≡ e.waiter.call.client = own client (subst (λ y. is_open_for sessions y client ≡ true) (sym s_is) o) in
              let a_is : e.answer ≡ a = same_some (ap (λ (r : MemoryRow). r.answer) row_is ∙ is) in
              let n_is : e.waiter.call.number ≡ row.number = sym (same_number old.number e.waiter.call.number n) ∙ ap (λ (r : MemoryRow). r.number) row_is in
              let whole : (e.waiter.call, e.answer) ≡ (record { client = client; thread = record { 0 = thread }; number = row.number }, a) = λ j. (record { client = sym same j; thread = record { 0 = t_is j }; number = n_is j }, a_is j) in
              subst (λ y. Contains (past ++ (e.waiter.call, e.answer) ∷ []) y) whole (Contains-push past (e.waiter.call, e.answer)),
        )
    at session thread row there n false x = let told_row = h session thread row (sym (find-put_other holder_cmp holder_key rows (e.waiter.session, e.waiter.call.thread.0) (session, thread) (record { number = old.number; answer = Some e.answer }) x) ∙ there) in
        (told_row.0, λ a is client o. Contains-append_left past ((e.waiter.call, e.answer) ∷ []) _ (told_row.1 a is client o))

note-told : (i : ℕ) (past : List (Invocation × Answer)) (sessions : List (ℕ × SessionRow)) (rows : List ((ℕ × ℕ) × MemoryRow)) (e : Ended) → IsOwnWaiter i sessions e.waiter → MemoryTold i past sessions rows → MemoryTold i (past ++ (e.waiter.call, e.answer) ∷ []) sessions (note rows e)
note-told i past sessions rows e own h = cases (MemoryTold i (past ++ (e.waiter.call, e.answer) ∷ []) sessions) (has_memory e.waiter.kind) _ _
    (λ m. note_at-told i past sessions rows e _ refl (own m).1 h) (λ m. memory_more i past _ sessions rows h)

note_all-told : (i : ℕ) (past : List (Invocation × Answer)) (sessions : List (ℕ × SessionRow)) (rows : List ((ℕ × ℕ) × MemoryRow)) (es : List Ended) → All (λ (e : Ended). IsOwnWaiter i sessions e.waiter) es → MemoryTold i past sessions rows → MemoryTold i (past ++ told es) sessions (note_all rows es)
note_all-told i past sessions rows [] own h = λ session thread row there. let x = h session thread row there in (x.0, λ a is client o. Contains-append_left past [] _ (x.1 a is client o))
note_all-told i past sessions rows (e ∷ es) own h = subst (λ more. MemoryTold i more sessions (note_all rows (e ∷ es))) (append_assoc past ((e.waiter.call, e.answer) ∷ []) (told es))
    (note_all-told i (past ++ (e.waiter.call, e.answer) ∷ []) sessions (note rows e) es (All-tail (λ (e : Ended). IsOwnWaiter i sessions e.waiter) e es own) (note-told i past sessions rows e (All-head (λ (e : Ended). IsOwnWaiter i sessions e.waiter) e es own) h))

told-append : (c d : List Ended) → told (c ++ d) ≡ told c ++ told d
told-append [] d = refl
told-append (e ∷ c) d = ap (λ (xs : List (Invocation × Answer)). (e.waiter.call, e.answer) ∷ xs) (told-append c d)

-- a change tells what it ends
abbrev pub Tells : ℕ → GroupState → Change → Type 0
Tells i s c = (past : List (Invocation × Answer)) → Told i past s → Told i (past ++ told c.ended) c.state

told_end : (i : ℕ) (past : List (Invocation × Answer)) (s : GroupState) → Told i past s → Told i (past ++ []) s
told_end i past s h = told_more i past (past ++ []) s (λ x y. Contains-append_left past [] x y) h

all-own : (i : ℕ) (s : GroupState) (ended : List Ended) → ((w : Waiter) → Contains s.waiters w → IsOwnWaiter i s.sessions w) → All (λ (e : Ended). Contains s.waiters e.waiter) ended → All (λ (e : Ended). IsOwnWaiter i s.sessions e.waiter) ended
all-own i s ended own all k d l = own _ (all k d l)

told-finish : (i : ℕ) (s : GroupState) (ended : List Ended) → All (λ (e : Ended). Contains s.waiters e.waiter) ended → Tells i s (finish ended s)
told-finish i s ended all past h = record {
  waiters = λ w there. h.waiters w ((fewer_closed i).ends s ended all w there);
  memory = note_all-told i past s.sessions s.memory ended (all-own i s ended h.waiters all) h.memory;
}

told-forget : (i : ℕ) (past : List (Invocation × Answer)) (s : GroupState) (sessions : List ℕ) → Told i past s → Told i past (forget sessions s)
told-forget i past s sessions h = record {
  waiters = λ w there m. let x = h.waiters w there m in (x.0, λ client o. x.1 client (forget-opened s.sessions sessions w.session client o).1);
  memory = λ session thread row there. at session thread row there (is_among sessions session) refl;
}
  where
    no_row : (row : MemoryRow) → None ≡ Some row → ⊥
    no_row row e = cc

    at : (session thread : ℕ) (row : MemoryRow) → find holder_cmp (forget sessions s).memory (session, thread) ≡ Some row → (b : Bool) → is_among sessions session ≡ b → IsToldRow i past (forget sessions s).sessions session thread row
    at session thread row there true e = absurd (no_row row (sym (find-filter_gone holder_cmp holder_key (λ key. not (is_among sessions key.0)) s.memory (session, thread) (rw e)) ∙ there))
    at session thread row there false e = let x = h.memory session thread row (sym (find-filter_kept holder_cmp holder_key (λ key. not (is_among sessions key.0)) s.memory (session, thread) (rw e)) ∙ there) in
        (x.0, λ a is client o. x.1 a is client (forget-opened s.sessions sessions session client o).1)

told-sessions : (i : ℕ) (past : List (Invocation × Answer)) (s : GroupState) (rows : List (ℕ × SessionRow)) → ((session : ℕ) (client : ClientId) → session < i → is_open_for rows session client ≡ true → is_open_for s.sessions session client ≡ true) → Told i past s → Told i past (record s { sessions = rows })
told-sessions i past s rows f h = record {
  waiters = λ w there m. let x = h.waiters w there m in (x.0, λ client o. x.1 client (f w.session client x.0 o));
  memory = λ session thread row there. let x = h.memory session thread row there in (x.0, λ a is client o. x.1 a is client (f session client x.0 o));
}

told-drop : (i : ℕ) (past : List (Invocation × Answer)) (name : List ℕ) (which : Kind) (s : GroupState) → Told i past s → Told i past (add_gone (name, which) (drop_rows name which s))
told-drop i past name kind.Long s h = record { waiters = h.waiters; memory = h.memory }
told-drop i past name kind.Ref s h = record { waiters = h.waiters; memory = h.memory }
told-drop i past name kind.Map s h = record { waiters = h.waiters; memory = h.memory }
told-drop i past name kind.Lock s h = record { waiters = h.waiters; memory = h.memory }
told-drop i past name kind.Sem s h = record { waiters = h.waiters; memory = h.memory }
told-drop i past name kind.Jsem s h = record { waiters = h.waiters; memory = h.memory }
told-drop i past name kind.Latch s h = record { waiters = h.waiters; memory = h.memory }

pub tells_closed : (i : ℕ) → Closed i (Tells i)
tells_closed i = record {
  stays = λ s past h. told_end i past s h;
  joins = λ s c d f g past h. subst (λ more. Told i more d.state) (append_assoc past (told c.ended) (told d.ended) ∙ ap (λ (xs : List (Invocation × Answer)). past ++ xs) (sym (told-append c.ended d.ended))) (g (past ++ told c.ended) (f past h));
  ends = λ s ended all. told-finish i s ended all;
  handed = λ s c name w g past h. g past (record { waiters = h.waiters; memory = h.memory });
  freed = λ s c sessions g past h. g past (record { waiters = h.waiters; memory = h.memory });
  serves = λ s c key row is g past h. g past (record { waiters = h.waiters; memory = h.memory });
  permits = λ s c key o g past h. g past (record { waiters = h.waiters; memory = h.memory });
  backs = λ s c sessions g past h. g past (record { waiters = h.waiters; memory = h.memory });
  closes = λ s sessions past h. told-finish i (forget sessions s) (end_sessions sessions s).ended (All-closing s sessions) past (told-forget i past s sessions h);
  acquires = λ s c name who limit g past h. g past (record { waiters = h.waiters; memory = h.memory });
  releases = λ s c name who g past h. g past (record { waiters = h.waiters; memory = h.memory });
  longs = λ s c name o g past h. g past (record { waiters = h.waiters; memory = h.memory });
  refs = λ s c name o g past h. g past (record { waiters = h.waiters; memory = h.memory });
  maps = λ s c name o g past h. g past (record { waiters = h.waiters; memory = h.memory });
  opens = λ s c client fresh g past h. g past (told-sessions i past s _ (λ session other l o. opens-opened s.sessions i (record { client = client; version = 0 }) session other l o) h);
  beats = λ s c number row is g past h. g past (told-sessions i past s _ (λ session client l o. beats-opened s.sessions number row is session client o) h);
  drops = λ s c name which g past h. g past (told-drop i past name which s h);
}

-- the session whose memory a waiter has
abbrev pub memory_of : Waiter → Option ℕ
memory_of w = if has_memory w.kind then Some w.session else None

-- A call that waits has its own call on its waiter, and its session.
abbrev pub IsOwnWait : Invocation → Option ℕ → Reply → Type 0
IsOwnWait call so (Answered a) = Unit {0}
IsOwnWait call so (Waits w) = (w.call ≡ call) × (so ≡ memory_of w)

pub memory-session : (w : Waiter) (so : Option ℕ) → so ≡ memory_of w → has_memory w.kind ≡ true → so ≡ Some w.session
memory-session w so e m = e ∙ rw m

own-wait : (call : Invocation) (so : Option ℕ) (w : Waiter) (x : Wish) (s : GroupState) → w.call ≡ call → so ≡ memory_of w → IsOwnWait call so (wait w x s).reply
own-wait call so w wish.NoLimit s c h = (c, h)
own-wait call so w (wish.Within ms) s c h = either (λ (r : Outcome). IsOwnWait call so r.reply) (ms == 0) _ _ tt (c, h)

own-taken : (call : Invocation) (so : Option ℕ) (w : Waiter) (x : Wish) (t : Option Taken) (s : GroupState) → w.call ≡ call → so ≡ memory_of w → IsOwnWait call so (on_taken w x t s).reply
own-taken call so w x (Some (Fence f)) s c h = tt
own-taken call so w x (Some (Limit n)) s c h = tt
own-taken call so w x None s c h = tt
own-taken call so w x (Some Busy) s c h = own-wait call so w x s c h

own-released : (i : ℕ) (call : Invocation) (so : Option ℕ) (name : List ℕ) (r : Released) (s : GroupState) → IsOwnWait call so (on_released i name r s).reply
own-released i call so name Freed s = tt
own-released i call so name Kept s = tt
own-released i call so name NotOwner s = tt

own-lock : (i : ℕ) (call : Invocation) (name : List ℕ) (l : LockOp) (s : GroupState) → IsOwnWait call (session_in (op.Lock name l)) (lock_rule i call name l s).reply
own-lock i call name lock.Owner s = tt
own-lock i call name (lock.Acquire session limit wish) s = own-taken call (Some session) _ wish _ _ refl refl
own-lock i call name (lock.Release session) s = own-released i call (Some session) name _ _

own-sem_wait : (call : Invocation) (so : Option ℕ) (key : List ℕ × Kind) (l : SemOp) (s : GroupState) → ((session n : ℕ) (x : Wish) → l ≡ sem.Acquire session n x → so ≡ (if has_memory key.1 then Some session else None)) → IsOwnWait call so (sem_wait call key l s).reply
own-sem_wait call so key sem.Available s h = tt
own-sem_wait call so key (sem.Init n) s h = tt
own-sem_wait call so key (sem.Acquire session n wish) s h = own-wait call so _ wish s refl (h session n wish refl)
own-sem_wait call so key (sem.Release session n) s h = tt
own-sem_wait call so key (sem.Drain session) s h = tt
own-sem_wait call so key (sem.Increase session n) s h = tt
own-sem_wait call so key (sem.Reduce session n) s h = tt

own-on_sem : (call : Invocation) (so : Option ℕ) (key : List ℕ × Kind) (l : SemOp) (r : SemOutcome) (s t : GroupState) → ((session n : ℕ) (x : Wish) → l ≡ sem.Acquire session n x → so ≡ (if has_memory key.1 then Some session else None)) → IsOwnWait call so (on_sem key (sem_wait call key l s) r t).reply
own-on_sem call so key l (semaphore.Done a) s t h = tt
own-on_sem call so key l semaphore.Wants s t h = own-sem_wait call so key l s h
own-on_sem call so key l (semaphore.Served a available) s t h = tt

own-sem : (call : Invocation) (so : Option ℕ) (key : List ℕ × Kind) (l : SemOp) (s : GroupState) → ((session n : ℕ) (x : Wish) → l ≡ sem.Acquire session n x → so ≡ (if has_memory key.1 then Some session else None)) → IsOwnWait call so (sem_rule call key l s).reply
own-sem call so key l s h = either (λ (r : Outcome). IsOwnWait call so r.reply) (is_behind key l s) _ _ (own-sem_wait call so key l s h) (own-on_sem call so key l (sem_step key l s.semaphores).outcome s (record s { semaphores = (sem_step key l s.semaphores).after }) h)

own-latch_wait : (call : Invocation) (name : List ℕ) (l : LatchOp) (s : GroupState) → IsOwnWait call None (latch_wait call name l s).reply
own-latch_wait call name latch.Count s = tt
own-latch_wait call name latch.Round s = tt
own-latch_wait call name (latch.Set n) s = tt
own-latch_wait call name (latch.Down round) s = tt
own-latch_wait call name (latch.Await millis) s = own-wait call None _ (wish.Within millis) s refl refl

own-latch : (call : Invocation) (name : List ℕ) (l : LatchOp) (r : LatchOutcome) (s : GroupState) → IsOwnWait call None (on_latch call name l r s).reply
own-latch call name l (countdown.Done a) s = tt
own-latch call name l countdown.Wants s = own-latch_wait call name l s
own-latch call name l countdown.Opened s = tt

own-opened : (i : ℕ) (call : Invocation) (so : Option ℕ) (e : Option (ℕ × SessionRow)) (s : GroupState) → IsOwnWait call so (opened i call e s).reply
own-opened i call so (Some e) s = tt
own-opened i call so None s = either (λ (r : Outcome). IsOwnWait call so r.reply) (has_room nat_cmp most s.sessions i) _ _ tt tt

own-beat : (call : Invocation) (so : Option ℕ) (number : ℕ) (row : Option SessionRow) (s : GroupState) → IsOwnWait call so (beat number row s).reply
own-beat call so number None s = tt
own-beat call so number (Some row) s = tt

own-session : (i : ℕ) (call : Invocation) (so : Option ℕ) (l : SessionOp) (s : GroupState) → IsOwnWait call so (session_rule i call l s).reply
own-session i call so session.Open s = own-opened i call so (session_of s.sessions call.client) s
own-session i call so (session.Beat number) s = own-beat call so number _ s
own-session i call so (session.Close number) s = either (λ (r : Outcome). IsOwnWait call so r.reply) (is_some (find nat_cmp s.sessions number)) _ _ tt tt

same-acquire : (session n : ℕ) (x : Wish) (l : SemOp) (name : List ℕ) → l ≡ sem.Acquire session n x → session_in (op.Sem name l) ≡ Some session
same-acquire session n x l name e = rw e

own-rule : (i : ℕ) (call : Invocation) (o : Op) (s : GroupState) → IsOwnWait call (session_in o) (rule i call o s).reply
own-rule i call (op.Long name l) s = tt
own-rule i call (op.Ref name l) s = tt
own-rule i call (op.Map name l) s = tt
own-rule i call (op.Lock name l) s = own-lock i call name l s
own-rule i call (op.Sem name l) s = own-sem call (session_in (op.Sem name l)) (name, kind.Sem) l s (λ session n x e. same-acquire session n x l name e)
own-rule i call (op.Jsem name l) s = own-sem call None (name, kind.Jsem) l s (λ session n x e. refl)
own-rule i call (op.Latch name l) s = own-latch call name l (latch_step s.latches name call l).outcome (record s { latches = (latch_step s.latches name call l).after })
own-rule i call (op.Session l) s = own-session i call None l s
own-rule i call (op.Destroy which name) s = either (λ (r : Outcome). IsOwnWait call None r.reply) (has_room object_cmp most s.gone (name, which)) _ _ tt tt
own-rule i call (op.Group o) s = tt
own-rule i call (op.Member o) s = tt
own-rule i call (op.Change o) s = tt

pub own-outcome : (i : ℕ) (call : Invocation) (o : Op) (s : GroupState) → IsOwnWait call (session_in o) (outcome i call o s).reply
own-outcome i call o s = either (λ (r : Outcome). IsOwnWait call (session_in o) r.reply) (names_gone s (object_of o)) _ _ tt (own-rule i call o s)

-- The call's own answer.
is_of-one : (a b : ClientId) (row : Option SessionRow) → is_of a row ≡ true → is_of b row ≡ true → a ≡ b
is_of-one a b None h k = cc
is_of-one a b (Some row) h k = sym (same-client row.client a h) ∙ same-client row.client b k

-- the session of the call, where it has one, is below the index, and open for the call's client if for any
abbrev pub IsOwnSession : ℕ → List (ℕ × SessionRow) → Invocation → Option ℕ → Type 0
IsOwnSession i sessions call None = Unit {0}
IsOwnSession i sessions call (Some session) = (session < i) × ((client : ClientId) → is_open_for sessions session client ≡ true → client ≡ call.client)

told-remembered : (i : ℕ) (past : List (Invocation × Answer)) (so : Option ℕ) (call : Invocation) (o : Option Answer) (s : GroupState) → IsOwnSession i s.sessions call so → ((a : Answer) → o ≡ Some a → Contains past (call, a)) → Told i past s → Told i past (remembered so call o s)
told-remembered i past None call o s own told_it h = h
told-remembered i past (Some number) call o s own told_it h = record { waiters = h.waiters; memory = λ session thread row there. at session thread row there (is_at (holder_cmp (session, thread)) (number, call.thread.0)) refl }
  where
    at : (session thread : ℕ) (row : MemoryRow) → find holder_cmp (remember s.memory number call.thread call.number o) (session, thread) ≡ Some row → (b : Bool) → is_at (holder_cmp (session, thread)) (number, call.thread.0) ≡ b → IsToldRow i past s.sessions session thread row
    at session thread row there true x = let key : (session, thread) ≡ (number, call.thread.0) = holder_key.same (session, thread) (number, call.thread.0) (equal_is _ x) in
        let new : MemoryRow = record { number = call.number; answer = o } in
        let put_here : find holder_cmp (remember s.memory number call.thread call.number o) (session, thread) ≡ Some new = rw key (find-put_same holder_cmp holder_key s.memory (number, call.thread.0) new) in
        let row_is : new ≡ row = same_some (sym put_here ∙ there) in
        let s_is : number ≡ session = sym (ap (λ (p : ℕ × ℕ). p.0) key) in
        let t_is : call.thread.0 ≡ thread = sym (ap (λ (p : ℕ × ℕ). p.1) key) in (
          rw (← s_is) own.0,
          λ a is client opened_for. let same : client ≡ call.client = own.1 client (subst (λ y. is_open_for s.sessions y client ≡ true) (sym s_is) opened_for) in
              let whole : (call, a) ≡ (record { client = client; thread = record { 0 = thread }; number = row.number }, a) = λ j. (record { client = sym same j; thread = record { 0 = t_is j }; number = (row_is j).number }, a) in
              subst (λ y. Contains past y) whole (told_it a (ap (λ (r : MemoryRow). r.answer) row_is ∙ is)),
        )
    at session thread row there false x = h.memory session thread row (sym (find-put_other holder_cmp holder_key s.memory (number, call.thread.0) (session, thread) (record { number = call.number; answer = o }) x) ∙ there)

told-join : (i : ℕ) (past : List (Invocation × Answer)) (w : Waiter) (s : GroupState) → IsOwnWaiter i s.sessions w → Told i past s → Told i past (join w s)
told-join i past w s own h = record { waiters = λ v there. at v (Contains-push_cases s.waiters w v there); memory = h.memory }
  where
    at : (v : Waiter) → Contains s.waiters v ⊎ (w ≡ v) → IsOwnWaiter i s.sessions v
    at v (inl there) = h.waiters v there
    at v (inr e) = subst (λ y. IsOwnWaiter i s.sessions y) e own

Contains-among : {X : Type 0} (past : List X) (y : X) (xs : List X) (x : X) → Contains (past ++ xs) x → Contains (past ++ y ∷ xs) x
Contains-among past y xs x h = at (Contains-append_cases past xs x h)
  where
    at : Contains past x ⊎ Contains xs x → Contains (past ++ y ∷ xs) x
    at (inl a) = Contains-append_left past (y ∷ xs) x a
    at (inr b) = Contains-append_right past (y ∷ xs) x (Contains-append_right (y ∷ []) xs x b)

Contains-here : {X : Type 0} (past : List X) (y : X) (xs : List X) → Contains (past ++ y ∷ xs) y
Contains-here past y xs = Contains-append_right past (y ∷ xs) y (Contains-append_left (y ∷ []) xs y (Contains-push [] y))

-- the answers of a call's last points, after a change that ended these
answer-told : (i : ℕ) (past : List (Invocation × Answer)) (so : Option ℕ) (call : Invocation) (a : Answer) (c : Change) → IsOwnSession i c.state.sessions call so → Told i (past ++ told c.ended) c.state → Told i (past ++ (call, a) ∷ told c.ended) (remembered so call (Some a) c.state)
answer-told i past so call a c own h = told-remembered i (past ++ (call, a) ∷ told c.ended) so call (Some a) c.state own
    (λ b e. subst (λ y. Contains (past ++ (call, a) ∷ told c.ended) (call, y)) (same_some e) (Contains-here past (call, a) (told c.ended)))
    (told_more i (past ++ told c.ended) (past ++ (call, a) ∷ told c.ended) c.state (λ x y. Contains-among past (call, a) (told c.ended) x y) h)

own-waiter : (i : ℕ) (so : Option ℕ) (call : Invocation) (w : Waiter) (s : GroupState) → IsOwnSession i s.sessions call so → IsOwnWait call so (Waits w) → IsOwnWaiter i s.sessions w
own-waiter i None call w s own x m = absurd (none-some w.session (memory-session w None x.1 m))
own-waiter i (Some session) call w s own x m = let same : session ≡ w.session = same_some (memory-session w (Some session) x.1 m) in
    (rw (← same) own.0, λ client o. own.1 client (subst (λ y. is_open_for s.sessions y client ≡ true) (sym same) o) ∙ ap (λ (c : Invocation). c.client) (sym x.0))

wait-told : (i : ℕ) (past : List (Invocation × Answer)) (so : Option ℕ) (call : Invocation) (w : Waiter) (s : GroupState) → IsOwnSession i s.sessions call so → IsOwnWait call so (Waits w)
    → Told i past s → Told i (past ++ (settle_wait so call w s).answers) (settle_wait so call w s).state
wait-told i past so call w s own x h = either (λ (r : Applied). Told i (past ++ r.answers) r.state) (stands call s.waiters) _ _ (told_end i past s h)
    (either (λ (r : Applied). Told i (past ++ r.answers) r.state) (nat_lt (length s.waiters) most) _ _
    (told_end i past (remembered so call None (join w s)) (told-remembered i past so call None (join w s) (own-join so own) (λ a e. absurd (none-some a e)) (told-join i past w s (own-waiter i so call w s own x) h)))
    (answer-told i past so call (answer.TableFull most) (stay s) own (told_end i past s h)))
  where
    own-join : (so : Option ℕ) → IsOwnSession i s.sessions call so → IsOwnSession i (join w s).sessions call so
    own-join None o = tt
    own-join (Some session) o = o

settle-told : (i : ℕ) (past : List (Invocation × Answer)) (so : Option ℕ) (call : Invocation) (r : Reply) (c : Change) → IsOwnSession i c.state.sessions call so → IsOwnWait call so r
    → Told i (past ++ told c.ended) c.state → Told i (past ++ (settle so call r c).answers) (settle so call r c).state
settle-told i past so call (Answered a) c own x h = answer-told i past so call a c own h
settle-told i past so call (Waits w) c own x h = subst (λ more. Told i more (settle_wait so call w c.state).state) (append_assoc past (told c.ended) (settle_wait so call w c.state).answers)
    (wait-told i (past ++ told c.ended) so call w c.state own x h)

-- a rule's changes tell what they end
tells-outcome : (i : ℕ) (call : Invocation) (o : Op) (s : GroupState) → Tells i s (outcome i call o s).change
tells-outcome i call o s = walk_outcome i (Tells i) (Tells i) (tells_closed i) (λ s c g. g) call o s
    (λ e name l is past h. walk_on_latch i (Tells i) (tells_closed i) call name l (latch_step s.latches name call l).outcome (record s { latches = (latch_step s.latches name call l).after }) past (record { waiters = h.waiters; memory = h.memory }))

own-grows : (i : ℕ) (call : Invocation) (so : Option ℕ) (s t : GroupState) → Grows i s t → IsOwnSession i s.sessions call so → IsOwnSession i t.sessions call so
own-grows i call None s t g h = tt
own-grows i call (Some session) s t g h = (h.0, λ client o. h.1 client (g.opened session client h.0 o))

perform-told : (i : ℕ) (past : List (Invocation × Answer)) (call : Invocation) (o : Op) (s : GroupState) → RoundsWithin (2 ^ 62 - 1) s.latches → IsOwnSession i s.sessions call (session_in o) → Told i past s → Told i (past ++ (perform i call o s).answers) (perform i call o s).state
perform-told i past call o s few own h = settle-told i past (session_in o) call (outcome i call o s).reply (outcome i call o s).change
    (own-grows i call (session_in o) s _ (grows-outcome i call o s few) own) (own-outcome i call o s) (tells-outcome i call o s past h)

told_one : (i : ℕ) (past more : List (Invocation × Answer)) (s : GroupState) → Told i past s → Told i (past ++ more) s
told_one i past more s h = told_more i past (past ++ more) s (λ x y. Contains-append_left past more x y) h

memory-told : (i : ℕ) (past : List (Invocation × Answer)) (call : Invocation) (o : Op) (row : Option MemoryRow) (s : GroupState) → RoundsWithin (2 ^ 62 - 1) s.latches → IsOwnSession i s.sessions call (session_in o) → Told i past s → Told i (past ++ (by_memory i call o row s).answers) (by_memory i call o row s).state
memory-told i past call o None s few own h = perform-told i past call o s few own h
memory-told i past call o (Some row) s few own h = either (λ (r : Applied). Told i (past ++ r.answers) r.state) (row.number == call.number) _ _ (told_one i past _ s h)
    (either (λ (r : Applied). Told i (past ++ r.answers) r.state) (nat_lt call.number row.number) _ _ (told_one i past _ s h) (perform-told i past call o s few own h))

pub session-told : (i : ℕ) (past : List (Invocation × Answer)) (call : Invocation) (o : Op) (so : Option ℕ) (s : GroupState) → session_in o ≡ so → IsBelow i so → RoundsWithin (2 ^ 62 - 1) s.latches → Told i past s → Told i (past ++ (by_session i call o so s).answers) (by_session i call o so s).state
session-told i past call o None s is below few h = perform-told i past call o s few (rw is tt) h
session-told i past call o (Some session) s is below few h = cases (λ (r : Applied). Told i (past ++ r.answers) r.state) (is_open_for s.sessions session call.client) _ _
    (λ e. memory-told i past call o _ s few (rw is (below, λ client x. is_of-one client call.client _ x e)) h) (λ e. told_one i past _ s h)

call-told : (i : ℕ) (past : List (Invocation × Answer)) (call : Invocation) (o : Op) (s : GroupState) → IsBelow i (session_in o) → RoundsWithin (2 ^ 62 - 1) s.latches → Told i past s → Told i (past ++ (apply_call i call o s).answers) (apply_call i call o s).state
call-told i past call o s below few h = either (λ (r : Applied). Told i (past ++ r.answers) r.state) (s.destroyed_group.0 == 0) _ _
    (subst (λ more. Told i more (by_session i call o (session_in o) (supersede call s).state).state) (append_assoc past (told (supersede call s).ended) (by_session i call o (session_in o) (supersede call s).state).answers)
    (session-told i (past ++ told (supersede call s).ended) call o (session_in o) (supersede call s).state refl below (within-supersede call _ s few) (tells-supersede i call s past h)))
    (told_one i past _ s h)
  where
    tells-supersede : (i : ℕ) (call : Invocation) (s : GroupState) → Tells i s (supersede call s)
    tells-supersede i call s = walk_supersede i (Tells i) (tells_closed i) call s

pub told-apply : (i : ℕ) (past : List (Invocation × Answer)) (e : Entry) (s : GroupState) → IsOrderlyAt i e s → RoundsWithin (2 ^ 62 - 1) s.latches → Told i past s → Told i (past ++ (apply i e s).answers) (apply i e s).state
told-apply i past entry.Empty s ord few h = told_end i past s h
told-apply i past (entry.Call call o) s ord few h = either (λ (r : Applied). Told i (past ++ r.answers) r.state) (is_elsewhere o) _ _ (told_end i past s h) (call-told i past call o s ord.0 few h)
told-apply i past (entry.SessionsExpired pairs) s ord few h = walk_close i (Tells i) (tells_closed i) (unchanged_since s.sessions pairs) s past h
told-apply i past (entry.WaitsExpired calls) s ord few h = walk_time_out i (Tells i) (tells_closed i) calls s past h
told-apply i past (entry.Members call plan members) s ord few h = told_one i past _ s h
told-apply i past (entry.Destroy group) s ord few h = walk_end_all i (Tells i) (tells_closed i) (λ w. true) (λ w. answer.GroupDestroyed group) _ past (record { waiters = h.waiters; memory = h.memory })
told-apply i past (entry.Destroyed group) s ord few h = told_end i past s h
told-apply i past (entry.Moved group at members) s ord few h = told_end i past s h
told-apply i past (entry.Left member) s ord few h = told_end i past s h
