-- A relation that each change of one list keeps is kept by every change.
use Rattle.std.proofs.Common.{is_some, ◌≡◌, ℕ, Bool, true, false, List, [], ◌∷◌, ◌++◌, map, Some, None, Option, refl, if◌then◌else◌}
use Rattle.std.specs.Prelude.{All, Contains, length, nat_lt, int_lt, pos, ℤ, ◌-ℤ◌, ◌==◌}
use Rattle.std.specs.List.{filter}
use Rattle.std.specs.Ordering.{nat_cmp}
use Rattle.std.proofs.lemmas.List.Elements.{All-nil, All-cons, All-map, All-filter, All-head, All-tail, All-contains_itself}
use Rattle.cp_op_values.specs.declared.kind.Kind.{Kind}
use Rattle.cp_op_values.specs.declared.kind.Kind.TheVariants as kind
use Rattle.cp_base.specs.declared.identifier.Invocation.{Invocation}
use Rattle.cp_answers.specs.declared.answer.Answer.{Answer}
use Rattle.cp_answers.specs.declared.answer.Answer.TheVariants as answer
use Rattle.cp_op_values.specs.declared.wish.Wish.{Wish}
use Rattle.cp_op_values.specs.declared.wish.Wish.TheVariants as wish
use Rattle.cp_object_ops.specs.declared.long_op.LongOp.{LongOp}
use Rattle.cp_object_ops.specs.declared.ref_op.RefOp.{RefOp}
use Rattle.cp_object_ops.specs.declared.map_op.MapOp.{MapOp}
use Rattle.cp_base.specs.declared.identifier.ClientId.{ClientId}
use Rattle.cp_group_state.specs.declared.rows.Holder.{Holder}
use Rattle.cp_group_state.specs.Atomics.{long_step, ref_step}
use Rattle.cp_group_state.specs.Maps.{map_step}
use Rattle.cp_object_ops.specs.declared.lock_op.LockOp.{LockOp}
use Rattle.cp_object_ops.specs.declared.lock_op.LockOp.TheVariants as lock
use Rattle.cp_object_ops.specs.declared.sem_op.SemOp.{SemOp}
use Rattle.cp_object_ops.specs.declared.sem_op.SemOp.TheVariants as sem
use Rattle.cp_object_ops.specs.declared.latch_op.LatchOp.{LatchOp}
use Rattle.cp_object_ops.specs.declared.latch_op.LatchOp.TheVariants as latch
use Rattle.cp_ops.specs.declared.session_op.SessionOp.{SessionOp}
use Rattle.cp_ops.specs.declared.session_op.SessionOp.TheVariants as session
use Rattle.cp_ops.specs.declared.op.Op.{Op}
use Rattle.cp_ops.specs.declared.op.Op.TheVariants as op
use Rattle.cp_group_state.specs.Rows.{find, put, has_room, most, name_cmp, object_cmp}
use Rattle.cp_group_state.specs.Waiters.{Waiter, Ended, answered_by, ending, first, waits_on, same_call, stands}
use Rattle.cp_group_state.specs.Sessions.{SessionRow, beaten, session_of, is_open_for, is_among}
use Rattle.cp_group_state.specs.Memory.{MemoryRow, remember}
use Rattle.cp_group_state.specs.Locks.{Taken, Fence, Limit, Busy, Released, Freed, Kept, NotOwner, acquired, released_by, held_once}
use Rattle.cp_group_state.specs.Semaphores.{Semaphores, SemaphoreRow, SemOutcome, sem_step, served, take_all}
use Rattle.cp_group_state.specs.Semaphores as semaphore
use Rattle.cp_group_state.specs.Latches.{LatchOutcome}
use Rattle.cp_group_state.specs.Latches as countdown
use Rattle.cp_group_state.specs.GroupState.{GroupState}
use Rattle.cp_group_state.specs.Changes.{Change, stay, for_each, finish, end_all}
use Rattle.cp_group_state.specs.Outcomes.{Outcome, wait, Reply, Answered, Waits}
use Rattle.cp_group_state.specs.Serving.{serve_from, serve, left_by, serve_left, serve_each_left, hand_to, hand_over}
use Rattle.cp_group_state.specs.Closing.{free_locks, free_permits, end_sessions, close}
use Rattle.cp_group_state.specs.Apply.{supersede, time_out, is_older, outcome, rule, Applied, remembered, settle, settle_wait, join, by_memory, by_session}
use Rattle.cp_group_state.specs.Destroying.{add_gone, drop_rows, destroy_rule, names_gone, object_of}
use Rattle.cp_group_state.specs.LockRules.{lock_rule, on_taken, on_released}
use Rattle.cp_group_state.specs.SemaphoreRules.{sem_rule, sem_wait, on_sem, is_behind}
use Rattle.cp_group_state.specs.SessionRules.{session_rule, opened, beat}
use Rattle.cp_group_state.specs.LatchRules.{latch_rule, on_latch, latch_wait}
use Rattle.cp_group_state.specs.Protected.{session_in}

-- both branches of an `if`, each with what it knows
pub cases : {X : Type 0} (P : X → Type 0) (b : Bool) (x y : X) → (b ≡ true → P x) → (b ≡ false → P y) → P (if b then x else y)
cases P true x y f g = f refl
cases P false x y f g = g refl

pub either : {X : Type 0} (P : X → Type 0) (b : Bool) (x y : X) → P x → P y → P (if b then x else y)
either P true x y p q = p
either P false x y p q = q

-- what holds of all waiters holds of those that are served
pub All-served : (P : Waiter → Type 0) (key : List ℕ × Kind) (available : ℤ) (ws : List Waiter) → All P ws → All P (served key available ws)
All-served P key available [] all = All-nil P
All-served P key available (w ∷ ws) all = either (All P) (waits_on key.1 key.0 w) _ _
    (either (All P) (int_lt available (pos w.permits)) _ _ (All-nil P) (All-cons P w _ (All-head P w ws all) (All-served P key (available -ℤ pos w.permits) ws (All-tail P w ws all))))
    (All-served P key available ws (All-tail P w ws all))

-- the waiters that end with sessions stood
pub All-closing : (s : GroupState) (sessions : List ℕ) → All (λ (e : Ended). Contains s.waiters e.waiter) (end_sessions sessions s).ended
All-closing s sessions = All-map (λ e. Contains s.waiters e.waiter) (answered_by (λ w. answer.SessionExpired w.session)) (filter (λ w. is_among sessions w.session) s.waiters)
    (All-filter (λ w. is_among sessions w.session) (Contains s.waiters) s.waiters (All-contains_itself s.waiters))

pub record Closed (i : ℕ) (R : GroupState → Change → Type 0) : Type 0 where
  pub stays : (s : GroupState) → R s (stay s)
  pub joins : (s : GroupState) (c d : Change) → R s c → R c.state d → R s (record { state = d.state; ended = c.ended ++ d.ended })
  pub ends : (s : GroupState) (ended : List Ended) → All (λ e. Contains s.waiters e.waiter) ended → R s (finish ended s)
  pub handed : (s : GroupState) (c : Change) (name : List ℕ) (w : Waiter) → R (record s { locks = put name_cmp s.locks name (held_once (record { session = w.session; thread = w.call.thread }) i) }) c → R s c
  pub freed : (s : GroupState) (c : Change) (sessions : List ℕ) → R (free_locks sessions s) c → R s c
  pub serves : (s : GroupState) (c : Change) (key : List ℕ × Kind) (row : SemaphoreRow) → find object_cmp s.semaphores.rows key ≡ Some row → R (record s { semaphores = take_all key (served key row.available s.waiters) s.semaphores }) c → R s c
  pub permits : (s : GroupState) (c : Change) (key : List ℕ × Kind) (o : SemOp) → R (record s { semaphores = (sem_step key o s.semaphores).after }) c → R s c
  pub backs : (s : GroupState) (c : Change) (sessions : List ℕ) → R (free_permits sessions s) c → R s c
  pub closes : (s : GroupState) (sessions : List ℕ) → R s (end_sessions sessions s)
  pub acquires : (s : GroupState) (c : Change) (name : List ℕ) (who : Holder) (limit : ℕ) → R (record s { locks = (acquired s.locks i name who limit).rows }) c → R s c
  pub releases : (s : GroupState) (c : Change) (name : List ℕ) (who : Holder) → R (record s { locks = (released_by s.locks name who).rows }) c → R s c
  pub longs : (s : GroupState) (c : Change) (name : List ℕ) (o : LongOp) → R (record s { longs = (long_step s.longs name o).after }) c → R s c
  pub refs : (s : GroupState) (c : Change) (name : List ℕ) (o : RefOp) → R (record s { refs = (ref_step s.refs name o).after }) c → R s c
  pub maps : (s : GroupState) (c : Change) (name : List ℕ) (o : MapOp) → R (record s { maps = (map_step s.maps name o).after }) c → R s c
  pub opens : (s : GroupState) (c : Change) (client : ClientId) → session_of s.sessions client ≡ None → R (record s { sessions = put nat_cmp s.sessions i (record { client = client; version = 0 }) }) c → R s c
  pub beats : (s : GroupState) (c : Change) (number : ℕ) (row : SessionRow) → find nat_cmp s.sessions number ≡ Some row → R (record s { sessions = put nat_cmp s.sessions number (beaten row) }) c → R s c
  pub drops : (s : GroupState) (c : Change) (name : List ℕ) (which : Kind) → R (add_gone (name, which) (drop_rows name which s)) c → R s c

module _ (i : ℕ) (R : GroupState → Change → Type 0) (k : Closed i R) where
  pub walk_each : {X : Type 0} (f : X → GroupState → Change) → ((x : X) (s : GroupState) → R s (f x s)) → (xs : List X) (s : GroupState) → R s (for_each f xs s)
  walk_each f h [] s = k.stays s
  walk_each f h (x ∷ xs) s = k.joins s (f x s) (for_each f xs (f x s).state) (h x s) (walk_each f h xs (f x s).state)

  pub walk_end_all : (test : Waiter → Bool) (a : Waiter → Answer) (s : GroupState) → R s (end_all test a s)
  walk_end_all test a s = k.ends s (ending test a s.waiters) (All-map (λ e. Contains s.waiters e.waiter) (answered_by a) (filter test s.waiters) (All-filter test (Contains s.waiters) s.waiters (All-contains_itself s.waiters)))

  walk_serve_from : (key : List ℕ × Kind) (o : Option SemaphoreRow) (s : GroupState) → find object_cmp s.semaphores.rows key ≡ o → R s (serve_from key o s)
  walk_serve_from key None s is = k.stays s
  walk_serve_from key (Some row) s is = k.serves s _ key row is
      (k.ends (record s { semaphores = take_all key (served key row.available s.waiters) s.semaphores }) (map (answered_by (λ w. answer.Ok)) (served key row.available s.waiters))
      (All-map (λ e. Contains s.waiters e.waiter) (answered_by (λ w. answer.Ok)) (served key row.available s.waiters) (All-served (Contains s.waiters) key row.available s.waiters (All-contains_itself s.waiters))))

  pub walk_serve : (key : List ℕ × Kind) (s : GroupState) → R s (serve key s)
  walk_serve key s = walk_serve_from key (find object_cmp s.semaphores.rows key) s refl

  pub walk_serve_left : (s : GroupState) (c : Change) → R s c → R s (serve_left c)
  walk_serve_left s c r = k.joins s c (for_each serve (left_by c.ended c.state) c.state) r (walk_each serve walk_serve (left_by c.ended c.state) c.state)

  pub walk_serve_each_left : (s : GroupState) (c : Change) → R s c → R s (serve_each_left c)
  walk_serve_each_left s c r = k.joins s c (for_each serve (map (λ e. (e.waiter.name, e.waiter.kind)) c.ended) c.state) r (walk_each serve walk_serve (map (λ e. (e.waiter.name, e.waiter.kind)) c.ended) c.state)

  walk_hand_to : (name : List ℕ) (s : GroupState) (ws : List Waiter) → All (Contains s.waiters) ws → R s (hand_to i name (first ws) s)
  walk_hand_to name s [] all = k.stays s
  walk_hand_to name s (w ∷ ws) all = k.handed s _ name w
      (k.ends (record s { locks = put name_cmp s.locks name (held_once (record { session = w.session; thread = w.call.thread }) i) }) (record { waiter = w; answer = answer.Fence i } ∷ [])
      (All-cons (λ (e : Ended). Contains s.waiters e.waiter) (record { waiter = w; answer = answer.Fence i }) [] (All-head (Contains s.waiters) w ws all) (All-nil _)))

  pub walk_hand_over : (name : List ℕ) (s : GroupState) → R s (hand_over i name s)
  walk_hand_over name s = walk_hand_to name s (filter (waits_on kind.Lock name) s.waiters) (All-filter (waits_on kind.Lock name) (Contains s.waiters) s.waiters (All-contains_itself s.waiters))

  pub walk_supersede : (call : Invocation) (s : GroupState) → R s (supersede call s)
  walk_supersede call s = walk_serve_each_left s _ (walk_end_all (is_older call) (λ w. answer.WaitCancelled call.number) s)

  pub walk_time_out : (calls : List Invocation) (s : GroupState) → R s (serve_left (for_each time_out calls s))
  walk_time_out calls s = walk_serve_left s _ (walk_each time_out (λ call t. walk_end_all (λ w. same_call call w.call) (λ w. answer.TimedOut) t) calls s)

  walk_hand_all : (sessions : List ℕ) (names : List (List ℕ)) (s : GroupState) → R s (for_each (hand_over i) names (free_locks sessions s))
  walk_hand_all sessions names s = k.freed s _ sessions (walk_each (hand_over i) walk_hand_over names (free_locks sessions s))

  walk_serve_all : (sessions : List ℕ) (keys : List (List ℕ × Kind)) (s : GroupState) → R s (for_each serve keys (free_permits sessions s))
  walk_serve_all sessions keys s = k.backs s _ sessions (walk_each serve walk_serve keys (free_permits sessions s))

  pub walk_close : (sessions : List ℕ) (s : GroupState) → R s (close i sessions s)
  walk_close sessions s = k.joins s _ _ (k.joins s _ _ (k.closes s sessions) (walk_hand_all sessions _ _)) (walk_serve_all sessions _ _)

  walk_wait : (w : Waiter) (wish : Wish) (s : GroupState) → R s (wait w wish s).change
  walk_wait w wish.NoLimit s = k.stays s
  walk_wait w (wish.Within ms) s = either (λ (o : Outcome). R s o.change) (ms == 0) _ _ (k.stays s) (k.stays s)

  walk_on_taken : (w : Waiter) (wish : Wish) (taken : Option Taken) (s : GroupState) → R s (on_taken w wish taken s).change
  walk_on_taken w wish (Some (Fence f)) s = k.stays s
  walk_on_taken w wish (Some (Limit n)) s = k.stays s
  walk_on_taken w wish None s = k.stays s
  walk_on_taken w wish (Some Busy) s = walk_wait w wish s

  walk_on_released : (name : List ℕ) (released : Released) (s : GroupState) → R s (on_released i name released s).change
  walk_on_released name Freed s = walk_hand_over name s
  walk_on_released name Kept s = k.stays s
  walk_on_released name NotOwner s = k.stays s

  walk_lock : (call : Invocation) (name : List ℕ) (o : LockOp) (s : GroupState) → R s (lock_rule i call name o s).change
  walk_lock call name lock.Owner s = k.stays s
  walk_lock call name (lock.Acquire session limit wish) s = k.acquires s _ name (record { session = session; thread = call.thread }) limit (walk_on_taken _ wish _ _)
  walk_lock call name (lock.Release session) s = k.releases s _ name (record { session = session; thread = call.thread }) (walk_on_released name _ _)

  walk_sem_wait : (call : Invocation) (key : List ℕ × Kind) (o : SemOp) (s : GroupState) → R s (sem_wait call key o s).change
  walk_sem_wait call key sem.Available s = k.stays s
  walk_sem_wait call key (sem.Init n) s = k.stays s
  walk_sem_wait call key (sem.Acquire session n wish) s = walk_wait _ wish s
  walk_sem_wait call key (sem.Release session n) s = k.stays s
  walk_sem_wait call key (sem.Drain session) s = k.stays s
  walk_sem_wait call key (sem.Increase session n) s = k.stays s
  walk_sem_wait call key (sem.Reduce session n) s = k.stays s

  walk_on_sem : (key : List ℕ × Kind) (call : Invocation) (o : SemOp) (r : SemOutcome) (s : GroupState) → R s (on_sem key (sem_wait call key o s) r (record s { semaphores = (sem_step key o s.semaphores).after })).change
  walk_on_sem key call o (semaphore.Done a) s = k.permits s _ key o (k.stays _)
  walk_on_sem key call o semaphore.Wants s = walk_sem_wait call key o s
  walk_on_sem key call o (semaphore.Served a available) s = k.permits s _ key o (walk_serve key (record s { semaphores = (sem_step key o s.semaphores).after }))

  walk_sem : (call : Invocation) (key : List ℕ × Kind) (o : SemOp) (s : GroupState) → R s (sem_rule call key o s).change
  walk_sem call key o s = either (λ (r : Outcome). R s r.change) (is_behind key o s) _ _ (walk_sem_wait call key o s)
      (walk_on_sem key call o (sem_step key o s.semaphores).outcome s)

  walk_opened : (call : Invocation) (o : Option (ℕ × SessionRow)) (s : GroupState) → session_of s.sessions call.client ≡ o → R s (opened i call o s).change
  walk_opened call (Some e) s is = k.stays s
  walk_opened call None s is = either (λ (r : Outcome). R s r.change) (has_room nat_cmp most s.sessions i) _ _ (k.opens s _ call.client is (k.stays _)) (k.stays s)

  walk_beat : (number : ℕ) (s : GroupState) (o : Option SessionRow) → find nat_cmp s.sessions number ≡ o → R s (beat number o s).change
  walk_beat number s None is = k.stays s
  walk_beat number s (Some row) is = k.beats s _ number row is (k.stays _)

  walk_session : (call : Invocation) (o : SessionOp) (s : GroupState) → R s (session_rule i call o s).change
  walk_session call session.Open s = walk_opened call (session_of s.sessions call.client) s refl
  walk_session call (session.Beat number) s = walk_beat number s (find nat_cmp s.sessions number) refl
  walk_session call (session.Close number) s = either (λ (r : Outcome). R s r.change) (is_some (find nat_cmp s.sessions number)) _ _ (walk_close (number ∷ []) s) (k.stays s)

  walk_destroy : (which : Kind) (name : List ℕ) (s : GroupState) → R s (destroy_rule which name s).change
  walk_destroy which name s = either (λ (r : Outcome). R s r.change) (has_room object_cmp most s.gone (name, which)) _ _
      (k.drops s _ name which (walk_end_all _ _ _)) (k.stays s)

  walk_latch_wait : (call : Invocation) (name : List ℕ) (o : LatchOp) (s : GroupState) → R s (latch_wait call name o s).change
  walk_latch_wait call name latch.Count s = k.stays s
  walk_latch_wait call name latch.Round s = k.stays s
  walk_latch_wait call name (latch.Set n) s = k.stays s
  walk_latch_wait call name (latch.Down round) s = k.stays s
  walk_latch_wait call name (latch.Await millis) s = walk_wait _ (wish.Within millis) s

  pub walk_on_latch : (call : Invocation) (name : List ℕ) (o : LatchOp) (r : LatchOutcome) (s : GroupState) → R s (on_latch call name o r s).change
  walk_on_latch call name o (countdown.Done a) s = k.stays s
  walk_on_latch call name o countdown.Wants s = walk_latch_wait call name o s
  walk_on_latch call name o countdown.Opened s = walk_end_all (waits_on kind.Latch name) (λ w. answer.Bool true) s

-- A call, to a relation S that is weaker; latches are the caller's.
module _ (i : ℕ) (R S : GroupState → Change → Type 0) (k : Closed i R) (weaken : (s : GroupState) (c : Change) → R s c → S s c) where
  walk_rule : (call : Invocation) (o : Op) (s : GroupState) → ((name : List ℕ) (l : LatchOp) → o ≡ op.Latch name l → S s (latch_rule call name l s).change) → S s (rule i call o s).change
  walk_rule call (op.Long name o) s latches = weaken s _ (k.longs s _ name o (k.stays _))
  walk_rule call (op.Ref name o) s latches = weaken s _ (k.refs s _ name o (k.stays _))
  walk_rule call (op.Map name o) s latches = weaken s _ (k.maps s _ name o (k.stays _))
  walk_rule call (op.Lock name o) s latches = weaken s _ (walk_lock i R k call name o s)
  walk_rule call (op.Sem name o) s latches = weaken s _ (walk_sem i R k call (name, kind.Sem) o s)
  walk_rule call (op.Jsem name o) s latches = weaken s _ (walk_sem i R k call (name, kind.Jsem) o s)
  walk_rule call (op.Latch name o) s latches = latches name o refl
  walk_rule call (op.Session o) s latches = weaken s _ (walk_session i R k call o s)
  walk_rule call (op.Destroy which name) s latches = weaken s _ (walk_destroy i R k which name s)
  walk_rule call (op.Group o) s latches = weaken s _ (k.stays s)
  walk_rule call (op.Member o) s latches = weaken s _ (k.stays s)
  walk_rule call (op.Change o) s latches = weaken s _ (k.stays s)

  pub walk_outcome : (call : Invocation) (o : Op) (s : GroupState) → (names_gone s (object_of o) ≡ false → (name : List ℕ) (l : LatchOp) → o ≡ op.Latch name l → S s (latch_rule call name l s).change) → S s (outcome i call o s).change
  walk_outcome call o s latches = cases (λ (r : Outcome). S s r.change) (names_gone s (object_of o)) _ _ (λ e. weaken s _ (k.stays s)) (λ e. walk_rule call o s (latches e))

-- a call's own memory row and wait touch nothing else
module _ (T : GroupState → Type 0) (k : (t : GroupState) (ws : List Waiter) (m : List ((ℕ × ℕ) × MemoryRow)) → T t → T (record t { waiters = ws; memory = m })) where
  keep_remembered : (so : Option ℕ) (call : Invocation) (a : Option Answer) (t : GroupState) → T t → T (remembered so call a t)
  keep_remembered None call a t h = h
  keep_remembered (Some session) call a t h = k t t.waiters (remember t.memory session call.thread call.number a) h

  keep_wait : (so : Option ℕ) (call : Invocation) (w : Waiter) (t : GroupState) → T t → T (settle_wait so call w t).state
  keep_wait so call w t h = either (λ (r : Applied). T r.state) (stands call t.waiters) _ _ h
      (either (λ (r : Applied). T r.state) (nat_lt (length t.waiters) most) _ _ (keep_remembered so call None (join w t) (k t (t.waiters ++ w ∷ []) t.memory h)) (keep_remembered so call _ t h))

  pub keep_settle : (so : Option ℕ) (call : Invocation) (r : Reply) (c : Change) → T c.state → T (settle so call r c).state
  keep_settle so call (Answered a) c h = keep_remembered so call (Some a) c.state h
  keep_settle so call (Waits w) c h = keep_wait so call w c.state h

  keep_memory : (i : ℕ) (call : Invocation) (o : Op) (row : Option MemoryRow) (s : GroupState) → T s → T (outcome i call o s).change.state → T (by_memory i call o row s).state
  keep_memory i call o None s h g = keep_settle (session_in o) call _ _ g
  keep_memory i call o (Some row) s h g = either (λ (r : Applied). T r.state) (row.number == call.number) _ _ h
      (either (λ (r : Applied). T r.state) (nat_lt call.number row.number) _ _ h (keep_settle (session_in o) call _ _ g))

  pub keep_session : (i : ℕ) (call : Invocation) (o : Op) (so : Option ℕ) (s : GroupState) → T s → T (outcome i call o s).change.state → T (by_session i call o so s).state
  keep_session i call o None s h g = keep_settle (session_in o) call _ _ g
  keep_session i call o (Some session) s h g = either (λ (r : Applied). T r.state) (is_open_for s.sessions session call.client) _ _ (keep_memory i call o _ s h g) h
