-- The session of a waiter is open.
use Rattle.std.proofs.Common.{is_some, ◌≡◌, ℕ, ◌<◌, ◌⊎◌, inl, inr, Bool, true, false, not, List, Some, None, Option, refl, sym, subst, arith, if◌then◌else◌}
use Rattle.std.specs.Prelude.{◌==◌, nat_lt, Contains, length}
use Rattle.std.proofs.lemmas.List.Elements.{Contains-push_cases}
use Rattle.std.specs.List.{filter}
use Rattle.std.specs.Ordering.{nat_cmp}
use Rattle.std.specs.BTreeMap.{is_at}
use Rattle.cp_op_values.specs.declared.kind.Kind.{Kind}
use Rattle.cp_op_values.specs.declared.kind.Kind.TheVariants as kind
use Rattle.cp_base.specs.declared.identifier.Invocation.{Invocation}
use Rattle.cp_answers.specs.declared.answer.Answer.{Answer}
use Rattle.cp_answers.specs.declared.answer.Answer.TheVariants as answer
use Rattle.cp_op_values.specs.declared.wish.Wish.{Wish}
use Rattle.cp_op_values.specs.declared.wish.Wish.TheVariants as wish
use Rattle.cp_object_ops.specs.declared.lock_op.LockOp.{LockOp}
use Rattle.cp_object_ops.specs.declared.lock_op.LockOp.TheVariants as lock
use Rattle.cp_object_ops.specs.declared.sem_op.SemOp.{SemOp}
use Rattle.cp_object_ops.specs.declared.sem_op.SemOp.TheVariants as sem
use Rattle.cp_object_ops.specs.declared.latch_op.LatchOp.{LatchOp}
use Rattle.cp_object_ops.specs.declared.latch_op.LatchOp.TheVariants as latch
use Rattle.cp_ops.specs.declared.session_op.SessionOp.{SessionOp}
use Rattle.cp_ops.specs.declared.session_op.SessionOp.TheVariants as session
use Rattle.cp_ops.specs.declared.op.Op.{Op}
use Rattle.cp_ops.specs.declared.op.Op.TheVariants as op
use Rattle.cp_ops.specs.declared.entry.Entry.{Entry}
use Rattle.cp_ops.specs.declared.entry.Entry.TheVariants as entry
use Rattle.cp_base.specs.declared.identifier.ClientId.{ClientId}
use Rattle.cp_base.proofs.Tests.{same_some}
use Rattle.cp_group_state.specs.Rows.{find, put, has_room, most, object_cmp}
use Rattle.cp_group_state.specs.Waiters.{Waiter, stands}
use Rattle.cp_group_state.specs.Memory.{MemoryRow, has_memory}
use Rattle.cp_group_state.specs.Sessions.{SessionRow, is_of, is_open_for, is_among, beaten, session_of, unchanged_since}
use Rattle.cp_group_state.specs.Locks.{Taken, Fence, Limit, Busy, Released, Freed, Kept, NotOwner}
use Rattle.cp_group_state.specs.Semaphores.{sem_step, SemOutcome}
use Rattle.cp_group_state.specs.Semaphores as semaphore
use Rattle.cp_group_state.specs.Latches.{LatchOutcome, latch_step}
use Rattle.cp_group_state.specs.Latches as countdown
use Rattle.cp_group_state.specs.GroupState.{GroupState}
use Rattle.cp_group_state.specs.Changes.{Change}
use Rattle.cp_group_state.specs.Apply.{Applied, supersede, outcome, rule, remembered, settle, join, perform, by_memory, by_session, apply_call, is_elsewhere, apply}
use Rattle.cp_group_state.specs.Outcomes.{Reply, Answered, Waits, Outcome, wait}
use Rattle.cp_group_state.specs.LockRules.{lock_rule, on_taken, on_released}
use Rattle.cp_group_state.specs.SemaphoreRules.{sem_rule, sem_wait, on_sem, is_behind}
use Rattle.cp_group_state.specs.LatchRules.{latch_wait, on_latch}
use Rattle.cp_group_state.specs.SessionRules.{session_rule, opened, beat}
use Rattle.cp_group_state.specs.Protected.{session_in}
use Rattle.cp_group_state.specs.Destroying.{names_gone, object_of, add_gone, drop_rows}
use Rattle.cp_group_state.specs.Closing.{end_sessions}
use Rattle.cp_group_state.proofs.Keyed.{equal_is, find-put_same, find-put_other, find-filter_kept, number_key, is_at_apart}
use Rattle.cp_group_state.proofs.Walk.{cases, either, Closed, walk_on_latch, walk_supersede, walk_outcome, walk_close, walk_time_out, walk_end_all}
use Rattle.cp_group_state.proofs.Grows.{forget-opened, opens-opened, beats-opened}
use Rattle.cp_group_state.proofs.Established.{fewer_closed}
use Rattle.cp_group_state.proofs.Told.{IsOwnWait, memory-session, own-outcome}
use Rattle.cp_group_state.proofs.Waiting.{Owns, in-ending, still-apart}

abbrev pub Opened : GroupState → Type 0
Opened s = (w : Waiter) → Contains s.waiters w → has_memory w.kind ≡ true → is_open_for s.sessions w.session w.call.client ≡ true

abbrev pub KeepsOpened : ℕ → GroupState → Change → Type 0
KeepsOpened i s c = Owns i s → Opened s → Owns i c.state × Opened c.state

put-opened : (rows : List (ℕ × SessionRow)) (i : ℕ) (row : SessionRow) (session : ℕ) (client : ClientId) → session < i → is_open_for rows session client ≡ true → is_open_for (put nat_cmp rows i row) session client ≡ true
put-opened rows i row session client l h = rw (find-put_other nat_cmp number_key rows i session row (is_at_apart nat_cmp number_key session i (λ e. absurd (omega (arith, e))))) h

beat-opened : (rows : List (ℕ × SessionRow)) (number : ℕ) (row : SessionRow) → find nat_cmp rows number ≡ Some row → (session : ℕ) (client : ClientId) → is_open_for rows session client ≡ true → is_open_for (put nat_cmp rows number (beaten row)) session client ≡ true
beat-opened rows number row is session client h = by (is_at (nat_cmp session) number) refl where
  by : (b : Bool) → is_at (nat_cmp session) number ≡ b → is_open_for (put nat_cmp rows number (beaten row)) session client ≡ true
  by true e = let same : session ≡ number = number_key.same session number (equal_is _ e) in
      let own : is_of client (Some row) ≡ true = subst (λ (o : Option SessionRow). is_of client o ≡ true) is (subst (λ y. is_open_for rows y client ≡ true) same h) in
      subst (λ y. is_open_for (put nat_cmp rows number (beaten row)) y client ≡ true) (sym same) (rw (find-put_same nat_cmp number_key rows number (beaten row)) own)
  by false e = rw (find-put_other nat_cmp number_key rows number session (beaten row) e) h

opened-closes : (i : ℕ) (s : GroupState) (sessions : List ℕ) → Owns i s → Opened s → Opened (end_sessions sessions s).state
opened-closes i s sessions own h w there m = by (is_among sessions w.session) refl
  where
    in_s : Contains s.waiters w
    in_s = (fewer_closed i).closes s sessions w there

    by : (b : Bool) → is_among sessions w.session ≡ b → is_open_for (filter (λ e. not (is_among sessions e.0)) s.sessions) w.session w.call.client ≡ true
    by true e = absurd (in-ending (λ w. is_among sessions w.session) (λ w. answer.SessionExpired w.session) s.waiters w (still-apart (end_sessions sessions s).ended s.waiters w there) in_s e)
    by false e = rw (find-filter_kept nat_cmp number_key (λ n. not (is_among sessions n)) s.sessions w.session (rw e)) (h w in_s m)

owns-of : (i : ℕ) (s t : GroupState) → ((w : Waiter) → Contains t.waiters w → Contains s.waiters w) → ((session : ℕ) (client : ClientId) → session < i → is_open_for t.sessions session client ≡ true → is_open_for s.sessions session client ≡ true) → Owns i s → Owns i t
owns-of i s t fewer f own w there m = let x = own w (fewer w there) m in (x.0, λ client o. x.1 client (f w.session client x.0 o))

-- where a rule leads to a wait, the sessions stay
abbrev pub IsQuietReply : List (ℕ × SessionRow) → Change → Reply → Type 0
IsQuietReply rows c (Answered a) = Unit {0}
IsQuietReply rows c (Waits w) = c.state.sessions ≡ rows

abbrev pub IsQuiet : List (ℕ × SessionRow) → Outcome → Type 0
IsQuiet rows r = IsQuietReply rows r.change r.reply

quiet-wait : (w : Waiter) (x : Wish) (s : GroupState) → IsQuiet s.sessions (wait w x s)
quiet-wait w wish.NoLimit s = refl
quiet-wait w (wish.Within ms) s = either (IsQuiet s.sessions) (ms == 0) _ _ tt refl

quiet-taken : (w : Waiter) (x : Wish) (t : Option Taken) (s : GroupState) → IsQuiet s.sessions (on_taken w x t s)
quiet-taken w x (Some (Fence f)) s = tt
quiet-taken w x (Some (Limit n)) s = tt
quiet-taken w x None s = tt
quiet-taken w x (Some Busy) s = quiet-wait w x s

quiet-released : (i : ℕ) (name : List ℕ) (r : Released) (s : GroupState) → IsQuiet s.sessions (on_released i name r s)
quiet-released i name Freed s = tt
quiet-released i name Kept s = tt
quiet-released i name NotOwner s = tt

quiet-lock : (i : ℕ) (call : Invocation) (name : List ℕ) (l : LockOp) (s : GroupState) → IsQuiet s.sessions (lock_rule i call name l s)
quiet-lock i call name lock.Owner s = tt
quiet-lock i call name (lock.Acquire session limit wish) s = quiet-taken _ wish _ _
quiet-lock i call name (lock.Release session) s = quiet-released i name _ _

quiet-sem_wait : (call : Invocation) (key : List ℕ × Kind) (l : SemOp) (s : GroupState) → IsQuiet s.sessions (sem_wait call key l s)
quiet-sem_wait call key sem.Available s = tt
quiet-sem_wait call key (sem.Init n) s = tt
quiet-sem_wait call key (sem.Acquire session n wish) s = quiet-wait _ wish s
quiet-sem_wait call key (sem.Release session n) s = tt
quiet-sem_wait call key (sem.Drain session) s = tt
quiet-sem_wait call key (sem.Increase session n) s = tt
quiet-sem_wait call key (sem.Reduce session n) s = tt

quiet-on_sem : (call : Invocation) (key : List ℕ × Kind) (l : SemOp) (r : SemOutcome) (s t : GroupState) → IsQuiet s.sessions (on_sem key (sem_wait call key l s) r t)
quiet-on_sem call key l (semaphore.Done a) s t = tt
quiet-on_sem call key l semaphore.Wants s t = quiet-sem_wait call key l s
quiet-on_sem call key l (semaphore.Served a available) s t = tt

quiet-sem : (call : Invocation) (key : List ℕ × Kind) (l : SemOp) (s : GroupState) → IsQuiet s.sessions (sem_rule call key l s)
quiet-sem call key l s = either (IsQuiet s.sessions) (is_behind key l s) _ _ (quiet-sem_wait call key l s) (quiet-on_sem call key l (sem_step key l s.semaphores).outcome s (record s { semaphores = (sem_step key l s.semaphores).after }))

quiet-latch_wait : (call : Invocation) (name : List ℕ) (l : LatchOp) (s : GroupState) → IsQuiet s.sessions (latch_wait call name l s)
quiet-latch_wait call name latch.Count s = tt
quiet-latch_wait call name latch.Round s = tt
quiet-latch_wait call name (latch.Set n) s = tt
quiet-latch_wait call name (latch.Down round) s = tt
quiet-latch_wait call name (latch.Await millis) s = quiet-wait _ (wish.Within millis) s

quiet-latch : (call : Invocation) (name : List ℕ) (l : LatchOp) (r : LatchOutcome) (s : GroupState) → IsQuiet s.sessions (on_latch call name l r s)
quiet-latch call name l (countdown.Done a) s = tt
quiet-latch call name l countdown.Wants s = quiet-latch_wait call name l s
quiet-latch call name l countdown.Opened s = tt

quiet-opened : (i : ℕ) (call : Invocation) (e : Option (ℕ × SessionRow)) (s : GroupState) → IsQuiet s.sessions (opened i call e s)
quiet-opened i call (Some e) s = tt
quiet-opened i call None s = either (IsQuiet s.sessions) (has_room nat_cmp most s.sessions i) _ _ tt tt

quiet-beat : (number : ℕ) (row : Option SessionRow) (s : GroupState) → IsQuiet s.sessions (beat number row s)
quiet-beat number None s = tt
quiet-beat number (Some row) s = tt

quiet-session : (i : ℕ) (call : Invocation) (l : SessionOp) (s : GroupState) → IsQuiet s.sessions (session_rule i call l s)
quiet-session i call session.Open s = quiet-opened i call (session_of s.sessions call.client) s
quiet-session i call (session.Beat number) s = quiet-beat number _ s
quiet-session i call (session.Close number) s = either (IsQuiet s.sessions) (is_some (find nat_cmp s.sessions number)) _ _ tt tt

quiet-rule : (i : ℕ) (call : Invocation) (o : Op) (s : GroupState) → IsQuiet s.sessions (rule i call o s)
quiet-rule i call (op.Long name l) s = tt
quiet-rule i call (op.Ref name l) s = tt
quiet-rule i call (op.Map name l) s = tt
quiet-rule i call (op.Lock name l) s = quiet-lock i call name l s
quiet-rule i call (op.Sem name l) s = quiet-sem call (name, kind.Sem) l s
quiet-rule i call (op.Jsem name l) s = quiet-sem call (name, kind.Jsem) l s
quiet-rule i call (op.Latch name l) s = quiet-latch call name l (latch_step s.latches name call l).outcome (record s { latches = (latch_step s.latches name call l).after })
quiet-rule i call (op.Session l) s = quiet-session i call l s
quiet-rule i call (op.Destroy which name) s = either (IsQuiet s.sessions) (has_room object_cmp most s.gone (name, which)) _ _ tt tt
quiet-rule i call (op.Group o) s = tt
quiet-rule i call (op.Member o) s = tt
quiet-rule i call (op.Change o) s = tt

quiet-outcome : (i : ℕ) (call : Invocation) (o : Op) (s : GroupState) → IsQuiet s.sessions (outcome i call o s)
quiet-outcome i call o s = either (IsQuiet s.sessions) (names_gone s (object_of o)) _ _ tt (quiet-rule i call o s)

opened-same : (i : ℕ) (s t : GroupState) → t.waiters ≡ s.waiters → t.sessions ≡ s.sessions → Owns i s → Opened s → Owns i t × Opened t
opened-same i s t ws ss own h = (λ w there. rw ss (own w (rw ws at there)), λ w there m. rw ss (h w (rw ws at there) m))

drop-waiters : (name : List ℕ) (which : Kind) (s : GroupState) → (drop_rows name which s).waiters ≡ s.waiters
drop-waiters name kind.Long s = refl
drop-waiters name kind.Ref s = refl
drop-waiters name kind.Map s = refl
drop-waiters name kind.Lock s = refl
drop-waiters name kind.Sem s = refl
drop-waiters name kind.Jsem s = refl
drop-waiters name kind.Latch s = refl

drop-sessions : (name : List ℕ) (which : Kind) (s : GroupState) → (drop_rows name which s).sessions ≡ s.sessions
drop-sessions name kind.Long s = refl
drop-sessions name kind.Ref s = refl
drop-sessions name kind.Map s = refl
drop-sessions name kind.Lock s = refl
drop-sessions name kind.Sem s = refl
drop-sessions name kind.Jsem s = refl
drop-sessions name kind.Latch s = refl

opened_closed : (i : ℕ) → Closed i (KeepsOpened i)
opened_closed i = record {
  stays = λ s own h. (own, h);
  joins = λ s c d f g own h. let x = f own h in g x.0 x.1;
  ends = λ s ended all own h. (λ w there. own w ((fewer_closed i).ends s ended all w there), λ w there m. h w ((fewer_closed i).ends s ended all w there) m);
  handed = λ s c name w g. g;
  freed = λ s c sessions g. g;
  serves = λ s c key row is g. g;
  permits = λ s c key o g. g;
  backs = λ s c sessions g. g;
  closes = λ s sessions own h. (owns-of i s (end_sessions sessions s).state ((fewer_closed i).closes s sessions) (λ session client l o. (forget-opened s.sessions sessions session client o).1) own, opened-closes i s sessions own h);
  acquires = λ s c name who limit g. g;
  releases = λ s c name who g. g;
  longs = λ s c name o g. g;
  refs = λ s c name o g. g;
  maps = λ s c name o g. g;
  opens = λ s c client fresh g own h. let row : SessionRow = record { client = client; version = 0 } in
      g (owns-of i s (record s { sessions = put nat_cmp s.sessions i row }) (λ w there. there) (λ session other l o. opens-opened s.sessions i row session other l o) own)
      (λ w there m. put-opened s.sessions i row w.session w.call.client (own w there m).0 (h w there m));
  beats = λ s c number row is g own h. g (owns-of i s (record s { sessions = put nat_cmp s.sessions number (beaten row) }) (λ w there. there) (λ session client l o. beats-opened s.sessions number row is session client o) own)
      (λ w there m. beat-opened s.sessions number row is w.session w.call.client (h w there m));
  drops = λ s c name which g own h. let x = opened-same i s (add_gone (name, which) (drop_rows name which s)) (drop-waiters name which s) (drop-sessions name which s) own h in g x.0 x.1;
}

opened-remembered : (so : Option ℕ) (call : Invocation) (a : Option Answer) (u : GroupState) → Opened u → Opened (remembered so call a u)
opened-remembered None call a u h = h
opened-remembered (Some session) call a u h = h

-- the session of the call is open
abbrev pub OpenFor : List (ℕ × SessionRow) → Option ℕ → Invocation → Type 0
OpenFor rows None call = Unit {0}
OpenFor rows (Some session) call = is_open_for rows session call.client ≡ true

none_some : (x : ℕ) → None ≡ Some x → ⊥
none_some x e = cc

open-own : (rows : List (ℕ × SessionRow)) (so : Option ℕ) (call : Invocation) (v : Waiter) → OpenFor rows so call → IsOwnWait call so (Waits v) → has_memory v.kind ≡ true → is_open_for rows v.session v.call.client ≡ true
open-own rows None call v o own m = absurd (none_some v.session (memory-session v None own.1 m))
open-own rows (Some session) call v o own m = let same : session ≡ v.session = same_some (memory-session v (Some session) own.1 m) in
    subst (λ (y : ℕ). is_open_for rows y v.call.client ≡ true) same (subst (λ (c : Invocation). is_open_for rows session c.client ≡ true) (sym own.0) o)

opened-join : (v : Waiter) (u : GroupState) → (has_memory v.kind ≡ true → is_open_for u.sessions v.session v.call.client ≡ true) → Opened u → Opened (join v u)
opened-join v u own h w there m = at (Contains-push_cases u.waiters v w there)
  where
    at : Contains u.waiters w ⊎ (v ≡ w) → is_open_for u.sessions w.session w.call.client ≡ true
    at (inl x) = h w x m
    at (inr e) = subst (λ (x : Waiter). is_open_for u.sessions x.session x.call.client ≡ true) e (own (subst (λ (x : Waiter). has_memory x.kind ≡ true) (sym e) m))

opened-settle : (rows : List (ℕ × SessionRow)) (so : Option ℕ) (call : Invocation) (r : Reply) (c : Change) → OpenFor rows so call → IsOwnWait call so r → IsQuietReply rows c r → Opened c.state → Opened (settle so call r c).state
opened-settle rows so call (Answered a) c o own quiet h = opened-remembered so call (Some a) c.state h
opened-settle rows so call (Waits v) c o own quiet h = either (λ (r : Applied). Opened r.state) (stands call c.state.waiters) _ _ h
    (either (λ (r : Applied). Opened r.state) (nat_lt (length c.state.waiters) most) _ _
    (opened-remembered so call None (join v c.state) (opened-join v c.state (λ m. rw quiet (open-own rows so call v o own m)) h)) (opened-remembered so call (Some (answer.TableFull most)) c.state h))

opened-outcome : (i : ℕ) (call : Invocation) (o : Op) (s : GroupState) → KeepsOpened i s (outcome i call o s).change
opened-outcome i call o s = walk_outcome i (KeepsOpened i) (KeepsOpened i) (opened_closed i) (λ s c g. g) call o s
    (λ e name l is. walk_on_latch i (KeepsOpened i) (opened_closed i) call name l (latch_step s.latches name call l).outcome (record s { latches = (latch_step s.latches name call l).after }))

opened-perform : (i : ℕ) (call : Invocation) (o : Op) (s : GroupState) → OpenFor s.sessions (session_in o) call → Owns i s → Opened s → Opened (perform i call o s).state
opened-perform i call o s opened_for own h = opened-settle s.sessions (session_in o) call (outcome i call o s).reply (outcome i call o s).change opened_for (own-outcome i call o s) (quiet-outcome i call o s) (opened-outcome i call o s own h).1

opened-memory : (i : ℕ) (call : Invocation) (o : Op) (row : Option MemoryRow) (s : GroupState) → OpenFor s.sessions (session_in o) call → Owns i s → Opened s → Opened (by_memory i call o row s).state
opened-memory i call o None s opened_for own h = opened-perform i call o s opened_for own h
opened-memory i call o (Some row) s opened_for own h = either (λ (r : Applied). Opened r.state) (row.number == call.number) _ _ h (either (λ (r : Applied). Opened r.state) (nat_lt call.number row.number) _ _ h (opened-perform i call o s opened_for own h))

opened-session : (i : ℕ) (call : Invocation) (o : Op) (so : Option ℕ) (s : GroupState) → session_in o ≡ so → Owns i s → Opened s → Opened (by_session i call o so s).state
opened-session i call o None s so own h = opened-perform i call o s (subst (λ x. OpenFor s.sessions x call) (sym so) tt) own h
opened-session i call o (Some session) s so own h = cases (λ (r : Applied). Opened r.state) (is_open_for s.sessions session call.client) _ _
    (λ e. opened-memory i call o _ s (subst (λ x. OpenFor s.sessions x call) (sym so) e) own h) (λ e. h)

opened-call : (i : ℕ) (call : Invocation) (o : Op) (s : GroupState) → Owns i s → Opened s → Opened (apply_call i call o s).state
opened-call i call o s own h = either (λ (r : Applied). Opened r.state) (s.destroyed_group.0 == 0) _ _
    (let x = walk_supersede i (KeepsOpened i) (opened_closed i) call s own h in opened-session i call o (session_in o) (supersede call s).state refl x.0 x.1) h

pub opened-supersede : (i : ℕ) (call : Invocation) (s : GroupState) → KeepsOpened i s (supersede call s)
opened-supersede i call s = walk_supersede i (KeepsOpened i) (opened_closed i) call s

pub opened-apply : (i : ℕ) (e : Entry) (s : GroupState) → Owns i s → Opened s → Opened (apply i e s).state
opened-apply i entry.Empty s own h = h
opened-apply i (entry.Call call o) s own h = either (λ (r : Applied). Opened r.state) (is_elsewhere o) _ _ h (opened-call i call o s own h)
opened-apply i (entry.SessionsExpired pairs) s own h = (walk_close i (KeepsOpened i) (opened_closed i) (unchanged_since s.sessions pairs) s own h).1
opened-apply i (entry.WaitsExpired calls) s own h = (walk_time_out i (KeepsOpened i) (opened_closed i) calls s own h).1
opened-apply i (entry.Members call plan members) s own h = h
opened-apply i (entry.Destroy group) s own h = (walk_end_all i (KeepsOpened i) (opened_closed i) (λ w. true) (λ w. answer.GroupDestroyed group) (record s { destroyed_group = if s.destroyed_group.0 == 0 then group else s.destroyed_group }) own h).1
opened-apply i (entry.Destroyed group) s own h = h
opened-apply i (entry.Moved group at members) s own h = h
opened-apply i (entry.Left member) s own h = h
