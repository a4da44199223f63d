-- What a call does keeps states good, and its answer fits.
use Rattle.std.proofs.Common.{◌≡◌, ℕ, Bool, true, false, ◌&&◌, List, [], ◌∷◌, Some, None, Option, refl, sym, subst, arith, is_some}
use Rattle.std.specs.Prelude.{◌==◌}
use Rattle.std.specs.List.{filter, AllByRecursion}
use Rattle.std.specs.Ordering.{nat_cmp}
use Rattle.cp_base.specs.declared.identifier.Invocation.{Invocation}
use Rattle.cp_base.proofs.Tests.{same_some, no_true}
use Rattle.cp_grammar.specs.Common as spelled
use Rattle.cp_grammar.specs.Common.{index, invocation}
use Rattle.cp_op_values.specs.declared.kind.Kind.{Kind}
use Rattle.cp_op_values.specs.declared.kind.Kind.TheVariants as kind
use Rattle.cp_op_values.specs.declared.wish.Wish.{Wish}
use Rattle.cp_op_values.specs.declared.wish.Wish.TheVariants as wish
use Rattle.cp_object_ops.specs.declared.lock_op.LockOp.{LockOp}
use Rattle.cp_object_ops.specs.declared.lock_op.LockOp.TheVariants as lock
use Rattle.cp_object_ops.specs.declared.sem_op.SemOp.{SemOp}
use Rattle.cp_object_ops.specs.declared.sem_op.SemOp.TheVariants as sem
use Rattle.cp_object_ops.specs.declared.latch_op.LatchOp.{LatchOp}
use Rattle.cp_object_ops.specs.declared.latch_op.LatchOp.TheVariants as latch
use Rattle.cp_answers.specs.declared.answer.Answer.{Answer}
use Rattle.cp_answers.specs.declared.answer.Answer.TheVariants as answer
use Rattle.cp_answers.specs.Answers.{answer_grammar}
use Rattle.cp_ops.specs.declared.session_op.SessionOp.{SessionOp}
use Rattle.cp_ops.specs.declared.session_op.SessionOp.TheVariants as session
use Rattle.cp_ops.specs.declared.op.Op.{Op}
use Rattle.cp_ops.specs.declared.op.Op.TheVariants as op
use Rattle.cp_group_state.specs.declared.rows.Waiter.{Waiter}
use Rattle.cp_group_state.specs.declared.rows.SessionRow.{SessionRow}
use Rattle.cp_group_state.specs.Rows.{Object, find, put, has_room, most, object_cmp}
use Rattle.cp_group_state.specs.Waiters.{first, same_client, waits_on, first_on}
use Rattle.cp_group_state.specs.Sessions.{session_of, beaten}
use Rattle.cp_group_state.specs.declared.outcome.Taken.{Taken}
use Rattle.cp_group_state.specs.declared.outcome.Taken.TheVariants.{Fence, Limit, Busy}
use Rattle.cp_group_state.specs.declared.outcome.Released.{Released}
use Rattle.cp_group_state.specs.declared.outcome.Released.TheVariants.{Freed, Kept, NotOwner}
use Rattle.cp_group_state.specs.Locks.{acquired, released_by}
use Rattle.cp_group_state.specs.declared.outcome.SemOutcome.{SemOutcome}
use Rattle.cp_group_state.specs.Semaphores.{sem_step}
use Rattle.cp_group_state.specs.declared.outcome.SemOutcome.TheVariants as semaphore
use Rattle.cp_group_state.specs.declared.outcome.LatchOutcome.{LatchOutcome}
use Rattle.cp_group_state.specs.Latches.{latch_step}
use Rattle.cp_group_state.specs.declared.outcome.LatchOutcome.TheVariants as countdown
use Rattle.cp_group_state.specs.Atomics.{long_step, ref_step}
use Rattle.cp_group_state.specs.Maps.{map_step}
use Rattle.cp_group_state.specs.GroupState.{GroupState}
use Rattle.cp_group_state.specs.Changes.{Change}
use Rattle.cp_group_state.specs.declared.outcome.Reply.{Reply}
use Rattle.cp_group_state.specs.declared.outcome.Reply.TheVariants.{Answered, Waits}
use Rattle.cp_group_state.specs.Outcomes.{Outcome, answered, answered_with, wait}
use Rattle.cp_group_state.specs.LockRules.{on_taken, on_released, lock_rule}
use Rattle.cp_group_state.specs.SemaphoreRules.{on_sem, sem_wait, is_acquire, is_behind, sem_rule}
use Rattle.cp_group_state.specs.LatchRules.{latch_wait, on_latch, latch_rule}
use Rattle.cp_group_state.specs.SessionRules.{opened, beat, session_rule}
use Rattle.cp_group_state.specs.Destroying.{object_of, names_gone}
use Rattle.cp_group_state.specs.Apply.{rule, outcome}
use Rattle.cp_group_state.proofs.Walk.{cases, either}
use Rattle.cp_group_ranges.specs.Rows.{SessionFits, WaiterFits, is_semaphore, can_wait}
use Rattle.cp_group_ranges.specs.States.{HasSemaphore}
use Rattle.cp_group_ranges.proofs.Listed.{each-filter}
use Rattle.cp_group_ranges.proofs.Fitting.{index_fits, call_client, call_thread, fits_ok, fits_bool, fits_fence, fits_session, fits_not_owner, fits_limit, fits_expired, fits_timed_out, fits_not_initialized, fits_object_destroyed, fits_table_full}
use Rattle.cp_group_ranges.proofs.Parts.{LockParts, SemParts, LatchParts, SessionParts, OpParts}
use Rattle.cp_group_ranges.proofs.Atoms.{kept-long, kept-ref, kept-map_step}
use Rattle.cp_group_ranges.proofs.LockSteps.{TakenFits, Handed, kept-acquired, kept-released, owner-fits}
use Rattle.cp_group_ranges.proofs.LatchSteps.{LatchSays, kept-latch}
use Rattle.cp_group_ranges.proofs.Permits.{SemSays, kept-step, wants-there}
use Rattle.cp_group_ranges.proofs.Calls.{kept-open, kept-beat}
use Rattle.cp_group_ranges.proofs.Good.{Good, with-sessions, with-locks, with-permits, with-latches, with-longs, with-refs, with-maps}
use Rattle.cp_group_ranges.proofs.Walks.{GoodChange, good-stay, good-end_all, good-serve, good-hand_over, good-close, good-destroy}

-- what the call is told, or how it waits
abbrev pub ReplyFits : Invocation → GroupState → Reply → Type 0
ReplyFits call s (Answered a) = answer_grammar.Fits a
ReplyFits call s (Waits w) = WaiterFits w × (w.call ≡ call) × HasSemaphore s.semaphores.rows w

pub record GoodOutcome (call : Invocation) (o : Outcome) : Type 0 where
  pub change : GoodChange o.change
  pub reply : ReplyFits call o.change.state o.reply

good-answered : (call : Invocation) (a : Answer) (s : GroupState) → answer_grammar.Fits a → Good s → GoodOutcome call (answered a s)
good-answered call a s f h = record { change = good-stay s h; reply = f }

good-answered_with : (call : Invocation) (a : Answer) (c : Change) → answer_grammar.Fits a → GoodChange c → GoodOutcome call (answered_with a c)
good-answered_with call a c f h = record { change = h; reply = f }

good-wait : (call : Invocation) (w : Waiter) (x : Wish) (s : GroupState) → WaiterFits w → w.call ≡ call → HasSemaphore s.semaphores.rows w → Good s → GoodOutcome call (wait w x s)
good-wait call w wish.NoLimit s f e there h = record { change = good-stay s h; reply = (f, e, there) }
good-wait call w (wish.Within ms) s f e there h = either (GoodOutcome call) (ms == 0) _ _ (good-answered call answer.TimedOut s fits_timed_out h) (record { change = good-stay s h; reply = (f, e, there) })

-- ---- locks

good-taken : (call : Invocation) (w : Waiter) (x : Wish) (taken : Option Taken) (s : GroupState) → TakenFits taken → WaiterFits w → w.call ≡ call → HasSemaphore s.semaphores.rows w → Good s → GoodOutcome call (on_taken w x taken s)
good-taken call w x (Some (Fence n)) s t f e there h = good-answered call (answer.Fence n) s (fits_fence n t) h
good-taken call w x (Some (Limit n)) s t f e there h = good-answered call (answer.LimitReached n) s (fits_limit n t) h
good-taken call w x None s t f e there h = good-answered call (answer.TableFull most) s (fits_table_full most (omega arith)) h
good-taken call w x (Some Busy) s t f e there h = good-wait call w x s f e there h

good-released : (i : ℕ) (call : Invocation) (n : List ℕ) (released : Released) (s : GroupState) → index.Fits i → (released ≡ Freed → Handed s.locks n) → Good s → GoodOutcome call (on_released i n released s)
good-released i call n Freed s f there h = good-answered_with call answer.Ok _ fits_ok (good-hand_over i n s f (there refl) h)
good-released i call n Kept s f there h = good-answered call answer.Ok s fits_ok h
good-released i call n NotOwner s f there h = good-answered call answer.NotOwner s fits_not_owner h

good-lock : (i : ℕ) (call : Invocation) (n : List ℕ) (o : LockOp) (s : GroupState) → index.Fits i → invocation.Fits call → spelled.name.Fits n → LockParts o → Good s → GoodOutcome call (lock_rule i call n o s)
good-lock i call n lock.Owner s g c f p h = good-answered call _ s (owner-fits s.locks n f h.locks) h
good-lock i call n (lock.Acquire session limit x) s g c f p h =
    let k = kept-acquired i s.locks n (record { session = session; thread = call.thread }) limit g f p.0 (call_thread call c) p.1 h.locks in
    good-taken call (record { call = call; kind = kind.Lock; name = n; session = session; permits = 0; wish = x }) x (acquired s.locks i n (record { session = session; thread = call.thread }) limit).taken
    (record s { locks = (acquired s.locks i n (record { session = session; thread = call.thread }) limit).rows }) k.1
    (record { call = c; kind = refl; name = f; session = p.0; permits = omega arith; wish = p.2 }) refl (λ e. absurd (no_true (sym e))) (with-locks s _ k.0 h)
good-lock i call n (lock.Release session) s g c f p h =
    let k = kept-released s.locks n (record { session = session; thread = call.thread }) f h.locks in
    good-released i call n (released_by s.locks n (record { session = session; thread = call.thread })).released
    (record s { locks = (released_by s.locks n (record { session = session; thread = call.thread })).rows }) g k.1 (with-locks s _ k.0 h)

-- ---- semaphores

sem-waits : (k : Kind) → is_semaphore k ≡ true → can_wait k ≡ true
sem-waits kind.Long e = e
sem-waits kind.Ref e = e
sem-waits kind.Lock e = refl
sem-waits kind.Sem e = refl
sem-waits kind.Jsem e = refl
sem-waits kind.Latch e = refl
sem-waits kind.Map e = e

good-sem_wait : (call : Invocation) (key : Object) (o : SemOp) (s : GroupState) → invocation.Fits call → spelled.name.Fits key.0 → is_semaphore key.1 ≡ true → SemParts o → is_some (find object_cmp s.semaphores.rows key) ≡ true → Good s
    → GoodOutcome call (sem_wait call key o s)
good-sem_wait call key sem.Available s c f k p there h = good-answered call answer.NotInitialized s fits_not_initialized h
good-sem_wait call key (sem.Init n) s c f k p there h = good-answered call answer.NotInitialized s fits_not_initialized h
good-sem_wait call key (sem.Acquire session n x) s c f k p there h = good-wait call (record { call = call; kind = key.1; name = key.0; session = session; permits = n; wish = x }) x s
    (record { call = c; kind = sem-waits key.1 k; name = f; session = p.0; permits = p.1; wish = p.2 }) refl (λ e. there) h
good-sem_wait call key (sem.Release session n) s c f k p there h = good-answered call answer.NotInitialized s fits_not_initialized h
good-sem_wait call key (sem.Drain session) s c f k p there h = good-answered call answer.NotInitialized s fits_not_initialized h
good-sem_wait call key (sem.Increase session n) s c f k p there h = good-answered call answer.NotInitialized s fits_not_initialized h
good-sem_wait call key (sem.Reduce session n) s c f k p there h = good-answered call answer.NotInitialized s fits_not_initialized h

good-on_sem : (call : Invocation) (key : Object) (waits : Outcome) (r : SemOutcome) (s : GroupState) → SemSays r → (r ≡ semaphore.Wants → GoodOutcome call waits) → Good s → GoodOutcome call (on_sem key waits r s)
good-on_sem call key waits (semaphore.Done a) s f w h = good-answered call a s f h
good-on_sem call key waits semaphore.Wants s f w h = w refl
good-on_sem call key waits (semaphore.Served a available) s f w h = good-answered_with call a _ f (good-serve key s h)

middle : (a b c : Bool) → (a && (b && c)) ≡ true → b ≡ true
middle true true c e = refl
middle true false c e = e
middle false true c e = refl
middle false false c e = e

good-sem : (call : Invocation) (key : Object) (o : SemOp) (s : GroupState) → invocation.Fits call → spelled.name.Fits key.0 → is_semaphore key.1 ≡ true → SemParts o → Good s → GoodOutcome call (sem_rule call key o s)
good-sem call key o s c f k p h = cases (GoodOutcome call) (is_behind key o s) _ _
    (λ e. good-sem_wait call key o s c f k p (middle (is_acquire o) (is_some (find object_cmp s.semaphores.rows key)) (is_some (first_on key.1 key.0 s.waiters)) e) h)
    (λ e. let step = kept-step key o s.semaphores f k p h.permits in
    good-on_sem call key (sem_wait call key o s) (sem_step key o s.semaphores).outcome (record s { semaphores = (sem_step key o s.semaphores).after }) step.1
    (λ wants. good-sem_wait call key o s c f k p (wants-there key o s.semaphores wants) h) (with-permits s (sem_step key o s.semaphores).after step.0 step.2 h))

-- ---- latches

good-latch_wait : (call : Invocation) (n : List ℕ) (o : LatchOp) (s : GroupState) → invocation.Fits call → spelled.name.Fits n → LatchParts o → Good s → GoodOutcome call (latch_wait call n o s)
good-latch_wait call n latch.Count s c f p h = good-answered call answer.Ok s fits_ok h
good-latch_wait call n latch.Round s c f p h = good-answered call answer.Ok s fits_ok h
good-latch_wait call n (latch.Set count) s c f p h = good-answered call answer.Ok s fits_ok h
good-latch_wait call n (latch.Down round) s c f p h = good-answered call answer.Ok s fits_ok h
good-latch_wait call n (latch.Await millis) s c f p h = good-wait call (record { call = call; kind = kind.Latch; name = n; session = 0; permits = 0; wish = wish.Within millis }) (wish.Within millis) s
    (record { call = c; kind = refl; name = f; session = index_fits 0 (omega arith); permits = omega arith; wish = p }) refl (λ e. absurd (no_true (sym e))) h

good-on_latch : (call : Invocation) (n : List ℕ) (o : LatchOp) (r : LatchOutcome) (s : GroupState) → invocation.Fits call → spelled.name.Fits n → LatchParts o → LatchSays r → Good s → GoodOutcome call (on_latch call n o r s)
good-on_latch call n o (countdown.Done a) s c f p says h = good-answered call a s says h
good-on_latch call n o countdown.Wants s c f p says h = good-latch_wait call n o s c f p h
good-on_latch call n o countdown.Opened s c f p says h = good-answered_with call answer.Ok _ fits_ok (good-end_all (waits_on kind.Latch n) (λ w. answer.Bool true) s (λ w q. fits_bool true) h)

good-latch : (call : Invocation) (n : List ℕ) (o : LatchOp) (s : GroupState) → invocation.Fits call → spelled.name.Fits n → LatchParts o → Good s → GoodOutcome call (latch_rule call n o s)
good-latch call n o s c f p h = let k = kept-latch s.latches n call o f c p h.latches in
    good-on_latch call n o (latch_step s.latches n call o).outcome (record s { latches = (latch_step s.latches n call o).after }) c f p k.1 (with-latches s (latch_step s.latches n call o).after k.0 h)

-- ---- sessions

first-fits : (rows : List (ℕ × SessionRow)) (e : ℕ × SessionRow) → AllByRecursion SessionFits rows → first rows ≡ Some e → SessionFits e
first-fits [] e h is = absurd (none_some is)
  where
    none_some : None ≡ Some e → ⊥
    none_some is = cc
first-fits (x ∷ xs) e h is = subst SessionFits (same_some is) h.0

good-opened : (i : ℕ) (call : Invocation) (o : Option (ℕ × SessionRow)) (s : GroupState) → session_of s.sessions call.client ≡ o → index.Fits i → invocation.Fits call → Good s → GoodOutcome call (opened i call o s)
good-opened i call (Some e) s is g c h = good-answered call (answer.Session e.0) s
    (fits_session e.0 (first-fits (filter (λ e. same_client e.1.client call.client) s.sessions) e (each-filter SessionFits (λ e. same_client e.1.client call.client) s.sessions h.sessions.kept.all) is).number) h
good-opened i call None s is g c h = cases (GoodOutcome call) (has_room nat_cmp most s.sessions i) _ _
    (λ room. good-answered call (answer.Session i) (record s { sessions = put nat_cmp s.sessions i (record { client = call.client; version = 0 }) }) (fits_session i g)
    (with-sessions s (put nat_cmp s.sessions i (record { client = call.client; version = 0 })) (kept-open i s.sessions call.client room g (call_client call c) is h.sessions) h))
    (λ room. good-answered call (answer.TableFull most) s (fits_table_full most (omega arith)) h)

good-beat : (call : Invocation) (number : ℕ) (o : Option SessionRow) (s : GroupState) → find nat_cmp s.sessions number ≡ o → index.Fits number → Good s → GoodOutcome call (beat number o s)
good-beat call number None s is g h = good-answered call (answer.SessionExpired number) s (fits_expired number g) h
good-beat call number (Some row) s is g h = good-answered call answer.Ok (record s { sessions = put nat_cmp s.sessions number (beaten row) }) fits_ok (with-sessions s (put nat_cmp s.sessions number (beaten row)) (kept-beat s.sessions number row is h.sessions) h)

good-session : (i : ℕ) (call : Invocation) (o : SessionOp) (s : GroupState) → index.Fits i → invocation.Fits call → SessionParts o → Good s → GoodOutcome call (session_rule i call o s)
good-session i call session.Open s g c p h = good-opened i call (session_of s.sessions call.client) s refl g c h
good-session i call (session.Beat number) s g c p h = good-beat call number (find nat_cmp s.sessions number) s refl p h
good-session i call (session.Close number) s g c p h = either (GoodOutcome call) (is_some (find nat_cmp s.sessions number)) _ _
    (good-answered_with call answer.Ok _ fits_ok (good-close i (number ∷ []) s g h)) (good-answered call answer.Ok s fits_ok h)

-- ---- every operation

good-rule : (i : ℕ) (call : Invocation) (o : Op) (s : GroupState) → index.Fits i → invocation.Fits call → OpParts o → Good s → GoodOutcome call (rule i call o s)
good-rule i call (op.Long n o) s g c p h = let k = kept-long s.longs n o p.0 p.1 h.longs in good-answered call (long_step s.longs n o).answer (record s { longs = (long_step s.longs n o).after }) k.1 (with-longs s (long_step s.longs n o).after k.0 h)
good-rule i call (op.Ref n o) s g c p h = let k = kept-ref s.refs n o p.0 p.1 h.refs in good-answered call (ref_step s.refs n o).answer (record s { refs = (ref_step s.refs n o).after }) k.1 (with-refs s (ref_step s.refs n o).after k.0 h)
good-rule i call (op.Map n o) s g c p h = let k = kept-map_step s.maps n o p.0 p.1 h.maps in good-answered call (map_step s.maps n o).answer (record s { maps = (map_step s.maps n o).after }) k.1 (with-maps s (map_step s.maps n o).after k.0 h)
good-rule i call (op.Lock n o) s g c p h = good-lock i call n o s g c p.0 p.1 h
good-rule i call (op.Sem n o) s g c p h = good-sem call (n, kind.Sem) o s c p.0 refl p.1 h
good-rule i call (op.Jsem n o) s g c p h = good-sem call (n, kind.Jsem) o s c p.0 refl p.1 h
good-rule i call (op.Latch n o) s g c p h = good-latch call n o s c p.0 p.1 h
good-rule i call (op.Session o) s g c p h = good-session i call o s g c p h
good-rule i call (op.Destroy which n) s g c p h = cases (GoodOutcome call) (has_room object_cmp most s.gone (n, which)) _ _
    (λ room. good-answered_with call answer.Ok _ fits_ok (good-destroy n which s p room h)) (λ room. good-answered call (answer.TableFull most) s (fits_table_full most (omega arith)) h)
good-rule i call (op.Group o) s g c p h = good-answered call answer.Ok s fits_ok h
good-rule i call (op.Member o) s g c p h = good-answered call answer.Ok s fits_ok h
good-rule i call (op.Change o) s g c p h = good-answered call answer.Ok s fits_ok h

pub good-outcome : (i : ℕ) (call : Invocation) (o : Op) (s : GroupState) → index.Fits i → invocation.Fits call → OpParts o → Good s → GoodOutcome call (outcome i call o s)
good-outcome i call o s g c p h = either (GoodOutcome call) (names_gone s (object_of o)) _ _ (good-answered call answer.ObjectDestroyed s fits_object_destroyed h) (good-rule i call o s g c p h)
