-- What one entry may do to those who wait, to sessions, to the memory and to the names that are gone.
use Rattle.std.proofs.Common.{is_some, ◌≡◌, ℕ, ◌<◌, ◌≤◌, ◌⊎◌, inl, inr, Bool, true, false, not, ◌&&◌, ◌||◌, List, [], ◌∷◌, ◌++◌, map, Some, None, Option, refl, sym, subst, ap, ◌∙◌, arith, le_refl}
use Rattle.std.specs.Prelude.{All, Contains, ◌==◌, nat_lt, bytes_eq}
use Rattle.std.specs.Ordering.{nat_cmp}
use Rattle.std.specs.BTreeMap.{is_at}
use Rattle.std.specs.List.{filter}
use Rattle.std.proofs.lemmas.Bool.Decides.{nat_tests}
use Rattle.std.proofs.lemmas.Slice.Eq.{bytes_eq-Decides}
use Rattle.std.proofs.lemmas.List.Elements.{All-nil, All-cons, All-append, All-map, All-weaker, All-contains_itself, All-filter, All-head}
use Rattle.cp_base.specs.declared.identifier.ClientId.{ClientId}
use Rattle.cp_base.specs.declared.identifier.GroupId.{GroupId}
use Rattle.cp_base.specs.declared.identifier.Invocation.{Invocation}
use Rattle.cp_base.proofs.Tests.{same_some}
use Rattle.cp_answers.specs.declared.answer.Answer.{Answer}
use Rattle.cp_answers.specs.declared.answer.Answer.TheVariants as answer
use Rattle.cp_ops.specs.declared.entry.Entry.{Entry}
use Rattle.cp_ops.specs.declared.entry.Entry.TheVariants as entry
use Rattle.cp_op_values.specs.declared.kind.Kind.{Kind}
use Rattle.cp_op_values.specs.declared.kind.Kind.TheVariants as kind
use Rattle.cp_object_ops.specs.declared.latch_op.LatchOp.{LatchOp}
use Rattle.cp_object_ops.specs.declared.latch_op.LatchOp.TheVariants as latch
use Rattle.cp_object_ops.specs.declared.lock_op.LockOp.{LockOp}
use Rattle.cp_object_ops.specs.declared.lock_op.LockOp.TheVariants as lock
use Rattle.cp_ops.specs.declared.op.Op.{Op}
use Rattle.cp_ops.specs.declared.op.Op.TheVariants as op
use Rattle.cp_object_ops.specs.declared.sem_op.SemOp.{SemOp}
use Rattle.cp_object_ops.specs.declared.sem_op.SemOp.TheVariants as sem
use Rattle.cp_ops.specs.declared.session_op.SessionOp.{SessionOp}
use Rattle.cp_ops.specs.declared.session_op.SessionOp.TheVariants as session
use Rattle.cp_op_values.specs.declared.wish.Wish.{Wish}
use Rattle.cp_op_values.specs.declared.wish.Wish.TheVariants as wish
use Rattle.cp_group_state.specs.Rows.{Object, find, put, has_room, most, holder_cmp, object_cmp, kind_number}
use Rattle.cp_group_state.specs.declared.rows.Waiter.{Waiter}
use Rattle.cp_group_state.specs.Waiters.{Ended, answered_by, ending, first, waits_on, same_call, same_client}
use Rattle.cp_group_state.specs.declared.rows.MemoryRow.{MemoryRow}
use Rattle.cp_group_state.specs.Memory.{note, note_at, note_all, has_memory}
use Rattle.cp_group_state.specs.declared.rows.SessionRow.{SessionRow}
use Rattle.cp_group_state.specs.Sessions.{beaten, session_of, is_of, is_open_for, is_among, is_at_version, unchanged_since}
use Rattle.cp_group_state.specs.declared.outcome.Taken.{Taken}
use Rattle.cp_group_state.specs.declared.outcome.Taken.TheVariants.{Fence, Limit, Busy}
use Rattle.cp_group_state.specs.declared.outcome.Released.{Released}
use Rattle.cp_group_state.specs.declared.outcome.Released.TheVariants.{Freed, Kept, NotOwner}
use Rattle.cp_group_state.specs.Locks.{acquired, held_among, released_by}
use Rattle.cp_group_state.specs.declared.rows.SemaphoreRow.{SemaphoreRow}
use Rattle.cp_group_state.specs.declared.outcome.SemOutcome.{SemOutcome}
use Rattle.cp_group_state.specs.Semaphores.{sem_step, served}
use Rattle.cp_group_state.specs.declared.outcome.SemOutcome.TheVariants as semaphore
use Rattle.cp_group_state.specs.declared.outcome.LatchOutcome.{LatchOutcome}
use Rattle.cp_group_state.specs.Latches.{latch_step}
use Rattle.cp_group_state.specs.declared.outcome.LatchOutcome.TheVariants as countdown
use Rattle.cp_group_state.specs.Atomics.{long_step, ref_step}
use Rattle.cp_group_state.specs.Maps.{map_step}
use Rattle.cp_group_state.specs.GroupState.{GroupState}
use Rattle.cp_group_state.specs.Changes.{Change, stay, for_each, finish, end_all}
use Rattle.cp_group_state.specs.Serving.{serve_from, serve, left_by, serve_left, serve_each_left, hand_to, hand_over}
use Rattle.cp_group_state.specs.Closing.{concerned, forget, free_locks, free_permits, end_sessions, close}
use Rattle.cp_group_state.specs.Outcomes.{Outcome, wait}
use Rattle.cp_group_state.specs.declared.outcome.Reply.{Reply}
use Rattle.cp_group_state.specs.declared.outcome.Reply.TheVariants.{Answered}
use Rattle.cp_group_state.specs.Apply.{supersede, time_out, is_older, outcome, rule}
use Rattle.cp_group_state.specs.Destroying.{is_gone, add_gone, drop_rows, destroy_rule, names_gone, object_of}
use Rattle.cp_group_state.specs.LockRules.{lock_rule, on_taken, on_released}
use Rattle.cp_group_state.specs.SemaphoreRules.{sem_rule, sem_wait, on_sem, is_behind}
use Rattle.cp_group_state.specs.SessionRules.{session_rule, opened, beat}
use Rattle.cp_group_state.specs.LatchRules.{latch_rule, on_latch, latch_wait}
use Rattle.cp_group_state.proofs.Keyed.{equal_is, find-put_same, find-put_other, find-filter_kept, find-filter_gone, is_at_apart, holder_key, number_key, object_key, same_kind, same-client, same-thread}
use Rattle.cp_group_state.proofs.Walk.{cases, either, All-served}
use Rattle.cp_group_state.proofs.Grows.{is_of-same}
use Rattle.cp_group_state.proofs.Once.{same-call}
use Rattle.cp_group_state.proofs.Established.{fewer_closed}
use Rattle.cp_group_causes.proofs.Lists.{at-head, at-tail}

-- the entry closes this session
abbrev pub Closes : Entry → ℕ → Type 0
Closes e s = ((by : Invocation) × (e ≡ entry.Call by (op.Session (session.Close s)))) ⊎ ((pairs : List (ℕ × ℕ)) × (e ≡ entry.SessionsExpired pairs) × Contains (map (λ p. p.0) pairs) s)

-- the entry destroys this object
abbrev pub Destroys : Entry → Object → Type 0
Destroys e key = (by : Invocation) × (e ≡ entry.Call by (op.Destroy key.1 key.0))

-- the entry is a later call of this one's thread
abbrev pub Overtakes : Entry → Invocation → ℕ → Type 0
Overtakes e call n = (by : Invocation) × (o : Op) × (e ≡ entry.Call by o) × (by.client ≡ call.client) × (by.thread ≡ call.thread) × (by.number ≡ n) × (call.number < n)

-- why the entry ends a waiter with this answer, where these sessions are closed and these objects are destroyed
module _ (C : ℕ → Type 0) (D : Object → Type 0) where
  abbrev pub MayEndBy : Entry → Waiter → Answer → Type 0
  MayEndBy e w answer.Ok = Unit {0}
  MayEndBy e w (answer.Bool b) = Unit {0}
  MayEndBy e w (answer.Fence f) = Unit {0}
  MayEndBy e w (answer.SessionExpired s) = C s
  MayEndBy e w answer.TimedOut = (calls : List Invocation) × (e ≡ entry.WaitsExpired calls) × Contains calls w.call
  MayEndBy e w (answer.WaitCancelled n) = Overtakes e w.call n
  MayEndBy e w answer.ObjectDestroyed = D (w.name, w.kind)
  MayEndBy e w (answer.GroupDestroyed g) = e ≡ entry.Destroy g
  MayEndBy e w a = ⊥

  abbrev pub IsEndedFor : Entry → GroupState → Ended → Type 0
  IsEndedFor e s x = Contains s.waiters x.waiter × MayEndBy e x.waiter x.answer

abbrev pub MayEnd : Entry → Waiter → Answer → Type 0
MayEnd e w a = MayEndBy (Closes e) (Destroys e) e w a

abbrev pub IsEndedBy : Entry → GroupState → Ended → Type 0
IsEndedBy e s x = IsEndedFor (Closes e) (Destroys e) e s x

abbrev pub Fewer : GroupState → Change → Type 0
Fewer s c = (w : Waiter) → Contains c.state.waiters w → Contains s.waiters w

abbrev pub SessionsStay : (ℕ → Type 0) → ℕ → GroupState → Change → Type 0
SessionsStay C i s c = (x : ℕ) (client : ClientId) → x < i → is_open_for s.sessions x client ≡ true → (is_open_for c.state.sessions x client ≡ true) ⊎ C x

-- sessions have numbers up to this one
abbrev pub SessionsUpTo : ℕ → GroupState → Type 0
SessionsUpTo i s = (x : ℕ) (client : ClientId) → is_open_for s.sessions x client ≡ true → x ≤ i

abbrev pub GoneBy : (Object → Type 0) → GroupState → Change → Type 0
GoneBy D s c = (key : Object) → is_gone c.state key ≡ true → (is_gone s key ≡ true) ⊎ D key

-- memory rows keep their numbers
abbrev pub MemoryStays : List ((ℕ × ℕ) × MemoryRow) → List ((ℕ × ℕ) × MemoryRow) → Type 0
MemoryStays before after = (q : ℕ × ℕ) (row : MemoryRow) → find holder_cmp after q ≡ Some row → (old : MemoryRow) × (find holder_cmp before q ≡ Some old) × (old.number ≡ row.number)

abbrev pub ActsBy : (ℕ → Type 0) → (Object → Type 0) → ℕ → Entry → GroupState → Change → Type 0
ActsBy C D i e s c = Fewer s c × All (IsEndedFor C D e s) c.ended × SessionsStay C i s c × (SessionsUpTo i s → SessionsUpTo i c.state) × GoneBy D s c
    × MemoryStays s.memory c.state.memory × (c.state.destroyed_group ≡ s.destroyed_group)

abbrev pub Acts : ℕ → Entry → GroupState → Change → Type 0
Acts i e s c = ActsBy (Closes e) (Destroys e) i e s c

-- for further reasons
may-weaker : (C D : ℕ → Type 0) (E F : Object → Type 0) → ((x : ℕ) → C x → D x) → ((key : Object) → E key → F key) → (e : Entry) (w : Waiter) (a : Answer) → MayEndBy C E e w a → MayEndBy D F e w a
may-weaker C D E F f g e w answer.Ok h = h
may-weaker C D E F f g e w (answer.Bool b) h = h
may-weaker C D E F f g e w (answer.Fence n) h = h
may-weaker C D E F f g e w (answer.SessionExpired s) h = f s h
may-weaker C D E F f g e w answer.TimedOut h = h
may-weaker C D E F f g e w (answer.WaitCancelled n) h = h
may-weaker C D E F f g e w answer.ObjectDestroyed h = g (w.name, w.kind) h
may-weaker C D E F f g e w (answer.GroupDestroyed n) h = h
may-weaker C D E F f g e w a h = absurd h

pub acts-weaker : (C D : ℕ → Type 0) (E F : Object → Type 0) → ((x : ℕ) → C x → D x) → ((key : Object) → E key → F key) → (i : ℕ) (e : Entry) (s : GroupState) (c : Change) → ActsBy C E i e s c → ActsBy D F i e s c
acts-weaker C D E F f g i e s c h = (
  h.0,
  All-weaker (IsEndedFor C E e s) (IsEndedFor D F e s) (λ x k. (k.0, may-weaker C D E F f g e x.waiter x.answer k.1)) c.ended h.1,
  λ x client l k. closed x (h.2 x client l k),
  h.3,
  λ key k. gone key (h.4 key k),
  h.5,
  h.6,
)
  where
    closed : {A : Type 0} → (x : ℕ) → A ⊎ C x → A ⊎ D x
    closed x (inl k) = inl k
    closed x (inr k) = inr (f x k)

    gone : {A : Type 0} → (key : Object) → A ⊎ E key → A ⊎ F key
    gone key (inl k) = inl k
    gone key (inr k) = inr (g key k)

-- memory
memory-same : (rows : List ((ℕ × ℕ) × MemoryRow)) → MemoryStays rows rows
memory-same rows q row h = (row, h, refl)

memory-on : (a b c : List ((ℕ × ℕ) × MemoryRow)) → MemoryStays a b → MemoryStays b c → MemoryStays a c
memory-on a b c f g q row h = let x = g q row h in let y = f q x.0 x.1 in (y.0, y.1, y.2 ∙ x.2)

memory-put : (rows : List ((ℕ × ℕ) × MemoryRow)) (k : ℕ × ℕ) (old : MemoryRow) (a : Option Answer) → find holder_cmp rows k ≡ Some old → MemoryStays rows (put holder_cmp rows k (record { number = old.number; answer = a }))
memory-put rows k old a is q row there = by (is_at (holder_cmp q) k) refl where
  new : MemoryRow
  new = record { number = old.number; answer = a }

  by : (b : Bool) → is_at (holder_cmp q) k ≡ b → (x : MemoryRow) × (find holder_cmp rows q ≡ Some x) × (x.number ≡ row.number)
  by true e = let same : q ≡ k = holder_key.same q k (equal_is _ e) in
      let put_here : find holder_cmp (put holder_cmp rows k new) q ≡ Some new = rw same (find-put_same holder_cmp holder_key rows k new) in
      let row_is : new ≡ row = same_some (sym put_here ∙ there) in
      (old, rw same is, ap (λ (r : MemoryRow). r.number) row_is)
  by false e = (row, sym (find-put_other holder_cmp holder_key rows k q new e) ∙ there, refl)

memory-note_at : (rows : List ((ℕ × ℕ) × MemoryRow)) (e : Ended) (o : Option MemoryRow) → find holder_cmp rows (e.waiter.session, e.waiter.call.thread.0) ≡ o → MemoryStays rows (note_at rows e o)
memory-note_at rows e None is = memory-same rows
memory-note_at rows e (Some old) is = either (MemoryStays rows) (old.number == e.waiter.call.number) _ _ (memory-put rows (e.waiter.session, e.waiter.call.thread.0) old (Some e.answer) is) (memory-same rows)

memory-note_all : (rows : List ((ℕ × ℕ) × MemoryRow)) (es : List Ended) → MemoryStays rows (note_all rows es)
memory-note_all rows [] = memory-same rows
memory-note_all rows (e ∷ es) = memory-on rows (note rows e) (note_all (note rows e) es)
    (either (MemoryStays rows) (has_memory e.waiter.kind) _ _ (memory-note_at rows e _ refl) (memory-same rows)) (memory-note_all (note rows e) es)

memory-forget : (rows : List ((ℕ × ℕ) × MemoryRow)) (sessions : List ℕ) → MemoryStays rows (filter (λ e. not (is_among sessions e.0.0)) rows)
memory-forget rows sessions q row there = by (is_among sessions q.0) refl where
  by : (b : Bool) → is_among sessions q.0 ≡ b → (x : MemoryRow) × (find holder_cmp rows q ≡ Some x) × (x.number ≡ row.number)
  by true e = absurd (no_row (sym (find-filter_gone holder_cmp holder_key (λ key. not (is_among sessions key.0)) rows q (rw e)) ∙ there)) where
    no_row : None ≡ Some row → ⊥
    no_row x = cc
  by false e = (row, sym (find-filter_kept holder_cmp holder_key (λ key. not (is_among sessions key.0)) rows q (rw e)) ∙ there, refl)

-- waiters that pass a test, each with its answer
all-ending : (P : Ended → Type 0) (test : Waiter → Bool) (a : Waiter → Answer) (ws : List Waiter) → ((w : Waiter) → Contains ws w → test w ≡ true → P (answered_by a w)) → All P (map (answered_by a) (filter test ws))
all-ending P test a [] h = All-nil P
all-ending P test a (w ∷ ws) h = let rest = all-ending P test a ws (λ v b t. h v (at-tail w v ws b) t) in
    cases (λ (xs : List Waiter). All P (map (answered_by a) xs)) (test w) _ _ (λ t. All-cons P (answered_by a w) (map (answered_by a) (filter test ws)) (h w (at-head w ws) t) rest) (λ t. rest)

module _ (C : ℕ → Type 0) (D : Object → Type 0) (i : ℕ) (e : Entry) where
  pub stays-by : (s : GroupState) → ActsBy C D i e s (stay s)
  stays-by s = (λ w h. h, All-nil (IsEndedFor C D e s), λ x client l h. inl h, λ h. h, λ key h. inl h, memory-same s.memory, refl)

  pub acts-joins : (s : GroupState) (c d : Change) → ActsBy C D i e s c → ActsBy C D i e c.state d → ActsBy C D i e s (record { state = d.state; ended = c.ended ++ d.ended })
  acts-joins s c d f g = (
    λ w h. f.0 w (g.0 w h),
    All-append (IsEndedFor C D e s) c.ended d.ended f.1 (All-weaker (IsEndedFor C D e c.state) (IsEndedFor C D e s) (λ x h. (f.0 x.waiter h.0, h.1)) d.ended g.1),
    λ x client l h. sessions x client l (f.2 x client l h),
    λ h. g.3 (f.3 h),
    λ key h. gone key (g.4 key h),
    memory-on s.memory c.state.memory d.state.memory f.5 g.5,
    g.6 ∙ f.6,
  )
    where
      sessions : (x : ℕ) (client : ClientId) → x < i → (is_open_for c.state.sessions x client ≡ true) ⊎ C x → (is_open_for d.state.sessions x client ≡ true) ⊎ C x
      sessions x client l (inl h) = g.2 x client l h
      sessions x client l (inr h) = inr h

      gone : (key : Object) → (is_gone c.state key ≡ true) ⊎ D key → (is_gone s key ≡ true) ⊎ D key
      gone key (inl h) = f.4 key h
      gone key (inr h) = inr h

  contained : (s : GroupState) (ended : List Ended) → All (IsEndedFor C D e s) ended → All (λ (x : Ended). Contains s.waiters x.waiter) ended
  contained s ended all = All-weaker (IsEndedFor C D e s) (λ (x : Ended). Contains s.waiters x.waiter) (λ x h. h.0) ended all

  pub acts-finish : (s : GroupState) (ended : List Ended) → All (IsEndedFor C D e s) ended → ActsBy C D i e s (finish ended s)
  acts-finish s ended all = (λ w h. (fewer_closed i).ends s ended (contained s ended all) w h, all, λ x client l h. inl h, λ h. h, λ key h. inl h, memory-note_all s.memory ended, refl)

  pub acts-each : {X : Type 0} (f : X → GroupState → Change) → ((x : X) (s : GroupState) → ActsBy C D i e s (f x s)) → (xs : List X) (s : GroupState) → ActsBy C D i e s (for_each f xs s)
  acts-each f h [] s = stays-by s
  acts-each f h (x ∷ xs) s = acts-joins s (f x s) (for_each f xs (f x s).state) (h x s) (acts-each f h xs (f x s).state)

  pub acts-end_all : (test : Waiter → Bool) (a : Waiter → Answer) (s : GroupState) → ((w : Waiter) → test w ≡ true → MayEndBy C D e w (a w)) → ActsBy C D i e s (end_all test a s)
  acts-end_all test a s h = acts-finish s (ending test a s.waiters) (all-ending (IsEndedFor C D e s) test a s.waiters (λ w there t. (there, h w t)))

  acts-serve_from : (key : Object) (o : Option SemaphoreRow) (s : GroupState) → ActsBy C D i e s (serve_from key o s)
  acts-serve_from key None s = stays-by s
  acts-serve_from key (Some row) s = acts-finish s (map (answered_by (λ w. answer.Ok)) (served key row.available s.waiters))
      (All-map (IsEndedFor C D e s) (answered_by (λ w. answer.Ok)) (served key row.available s.waiters)
      (All-weaker (Contains s.waiters) (λ (w : Waiter). Contains s.waiters w × Unit {0}) (λ w h. (h, tt)) (served key row.available s.waiters) (All-served (Contains s.waiters) key row.available s.waiters (All-contains_itself s.waiters))))

  pub acts-serve : (key : Object) (s : GroupState) → ActsBy C D i e s (serve key s)
  acts-serve key s = acts-serve_from key (find object_cmp s.semaphores.rows key) s

  pub acts-serve_left : (s : GroupState) (c : Change) → ActsBy C D i e s c → ActsBy C D i e s (serve_left c)
  acts-serve_left s c h = acts-joins s c (for_each serve (left_by c.ended c.state) c.state) h (acts-each serve acts-serve (left_by c.ended c.state) c.state)

  pub acts-serve_each_left : (s : GroupState) (c : Change) → ActsBy C D i e s c → ActsBy C D i e s (serve_each_left c)
  acts-serve_each_left s c h = acts-joins s c (for_each serve (map (λ x. (x.waiter.name, x.waiter.kind)) c.ended) c.state) h (acts-each serve acts-serve (map (λ x. (x.waiter.name, x.waiter.kind)) c.ended) c.state)

  acts-hand_to : (name : List ℕ) (s : GroupState) (ws : List Waiter) → All (Contains s.waiters) ws → ActsBy C D i e s (hand_to i name (first ws) s)
  acts-hand_to name s [] all = stays-by s
  acts-hand_to name s (w ∷ ws) all = acts-finish s (record { waiter = w; answer = answer.Fence i } ∷ []) (All-cons (IsEndedFor C D e s) (record { waiter = w; answer = answer.Fence i }) [] (All-head (Contains s.waiters) w ws all, tt) (All-nil (IsEndedFor C D e s)))

  pub acts-hand_over : (name : List ℕ) (s : GroupState) → ActsBy C D i e s (hand_over i name s)
  acts-hand_over name s = acts-hand_to name s (filter (waits_on kind.Lock name) s.waiters) (All-filter (waits_on kind.Lock name) (Contains s.waiters) s.waiters (All-contains_itself s.waiters))

  -- closing
  forget-stay : (s : GroupState) (sessions : List ℕ) → ((x : ℕ) → is_among sessions x ≡ true → C x) → (x : ℕ) (client : ClientId) → is_open_for s.sessions x client ≡ true → (is_open_for (forget sessions s).sessions x client ≡ true) ⊎ C x
  forget-stay s sessions closes x client h = by (is_among sessions x) refl where
    by : (b : Bool) → is_among sessions x ≡ b → (is_open_for (forget sessions s).sessions x client ≡ true) ⊎ C x
    by true t = inr (closes x t)
    by false t = inl (is_of-same client _ _ (sym (find-filter_kept nat_cmp number_key (λ y. not (is_among sessions y)) s.sessions x (rw t))) h)

  forget-before : (s : GroupState) (sessions : List ℕ) (x : ℕ) (client : ClientId) → is_open_for (forget sessions s).sessions x client ≡ true → is_open_for s.sessions x client ≡ true
  forget-before s sessions x client h = by (is_among sessions x) refl where
    no : is_of client None ≡ true → ⊥
    no e = cc

    by : (b : Bool) → is_among sessions x ≡ b → is_open_for s.sessions x client ≡ true
    by true t = absurd (no (is_of-same client _ None (find-filter_gone nat_cmp number_key (λ y. not (is_among sessions y)) s.sessions x (rw t)) h))
    by false t = is_of-same client _ _ (find-filter_kept nat_cmp number_key (λ y. not (is_among sessions y)) s.sessions x (rw t)) h

  acts-end_sessions : (sessions : List ℕ) (s : GroupState) → ((x : ℕ) → is_among sessions x ≡ true → C x) → ActsBy C D i e s (end_sessions sessions s)
  acts-end_sessions sessions s closes = let f = acts-end_all (λ w. is_among sessions w.session) (λ w. answer.SessionExpired w.session) (forget sessions s) (λ w t. closes w.session t) in (
    f.0,
    f.1,
    λ x client l h. forget-stay s sessions closes x client h,
    λ h x client k. h x client (forget-before s sessions x client k),
    λ key h. inl h,
    memory-on s.memory (forget sessions s).memory (end_sessions sessions s).state.memory (memory-forget s.memory sessions) f.5,
    refl,
  )

  acts-hand_all : (sessions : List ℕ) (names : List (List ℕ)) (s : GroupState) → ActsBy C D i e s (for_each (hand_over i) names (free_locks sessions s))
  acts-hand_all sessions names s = acts-each (hand_over i) acts-hand_over names (free_locks sessions s)

  acts-serve_all : (sessions : List ℕ) (keys : List Object) (s : GroupState) → ActsBy C D i e s (for_each serve keys (free_permits sessions s))
  acts-serve_all sessions keys s = acts-each serve acts-serve keys (free_permits sessions s)

  pub acts-close : (sessions : List ℕ) (s : GroupState) → ((x : ℕ) → is_among sessions x ≡ true → C x) → ActsBy C D i e s (close i sessions s)
  acts-close sessions s closes =
      acts-joins s (record { state = (for_each (hand_over i) (held_among sessions s.locks) (free_locks sessions (end_sessions sessions s).state)).state; ended = (end_sessions sessions s).ended ++ (for_each (hand_over i) (held_among sessions s.locks) (free_locks sessions (end_sessions sessions s).state)).ended })
      (for_each serve (concerned sessions (end_sessions sessions s).ended s) (free_permits sessions (for_each (hand_over i) (held_among sessions s.locks) (free_locks sessions (end_sessions sessions s).state)).state))
      (acts-joins s (end_sessions sessions s) (for_each (hand_over i) (held_among sessions s.locks) (free_locks sessions (end_sessions sessions s).state)) (acts-end_sessions sessions s closes) (acts-hand_all sessions (held_among sessions s.locks) (end_sessions sessions s).state))
      (acts-serve_all sessions (concerned sessions (end_sessions sessions s).ended s) (for_each (hand_over i) (held_among sessions s.locks) (free_locks sessions (end_sessions sessions s).state)).state)

  acts-wait : (w : Waiter) (x : Wish) (s : GroupState) → ActsBy C D i e s (wait w x s).change
  acts-wait w wish.NoLimit s = stays-by s
  acts-wait w (wish.Within ms) s = either (λ (o : Outcome). ActsBy C D i e s o.change) (ms == 0) _ _ (stays-by s) (stays-by s)

  acts-on_taken : (w : Waiter) (x : Wish) (taken : Option Taken) (s : GroupState) → ActsBy C D i e s (on_taken w x taken s).change
  acts-on_taken w x (Some (Fence f)) s = stays-by s
  acts-on_taken w x (Some (Limit n)) s = stays-by s
  acts-on_taken w x None s = stays-by s
  acts-on_taken w x (Some Busy) s = acts-wait w x s

  acts-on_released : (name : List ℕ) (released : Released) (s : GroupState) → ActsBy C D i e s (on_released i name released s).change
  acts-on_released name Freed s = acts-hand_over name s
  acts-on_released name Kept s = stays-by s
  acts-on_released name NotOwner s = stays-by s

  acts-lock : (call : Invocation) (name : List ℕ) (l : LockOp) (s : GroupState) → ActsBy C D i e s (lock_rule i call name l s).change
  acts-lock call name lock.Owner s = stays-by s
  acts-lock call name (lock.Acquire session limit x) s = acts-on_taken _ x _ (record s { locks = (acquired s.locks i name (record { session = session; thread = call.thread }) limit).rows })
  acts-lock call name (lock.Release session) s = acts-on_released name _ (record s { locks = (released_by s.locks name (record { session = session; thread = call.thread })).rows })

  acts-sem_wait : (call : Invocation) (key : Object) (l : SemOp) (s : GroupState) → ActsBy C D i e s (sem_wait call key l s).change
  acts-sem_wait call key sem.Available s = stays-by s
  acts-sem_wait call key (sem.Init n) s = stays-by s
  acts-sem_wait call key (sem.Acquire session n x) s = acts-wait _ x s
  acts-sem_wait call key (sem.Release session n) s = stays-by s
  acts-sem_wait call key (sem.Drain session) s = stays-by s
  acts-sem_wait call key (sem.Increase session n) s = stays-by s
  acts-sem_wait call key (sem.Reduce session n) s = stays-by s

  acts-on_sem : (call : Invocation) (key : Object) (l : SemOp) (r : SemOutcome) (s : GroupState) → ActsBy C D i e s (on_sem key (sem_wait call key l s) r (record s { semaphores = (sem_step key l s.semaphores).after })).change
  acts-on_sem call key l (semaphore.Done a) s = stays-by s
  acts-on_sem call key l semaphore.Wants s = acts-sem_wait call key l s
  acts-on_sem call key l (semaphore.Served a available) s = acts-serve key (record s { semaphores = (sem_step key l s.semaphores).after })

  acts-sem : (call : Invocation) (key : Object) (l : SemOp) (s : GroupState) → ActsBy C D i e s (sem_rule call key l s).change
  acts-sem call key l s = either (λ (r : Outcome). ActsBy C D i e s r.change) (is_behind key l s) _ _ (acts-sem_wait call key l s) (acts-on_sem call key l (sem_step key l s.semaphores).outcome s)

  acts-latch_wait : (call : Invocation) (name : List ℕ) (l : LatchOp) (s : GroupState) → ActsBy C D i e s (latch_wait call name l s).change
  acts-latch_wait call name latch.Count s = stays-by s
  acts-latch_wait call name latch.Round s = stays-by s
  acts-latch_wait call name (latch.Set n) s = stays-by s
  acts-latch_wait call name (latch.Down round) s = stays-by s
  acts-latch_wait call name (latch.Await millis) s = acts-wait _ (wish.Within millis) s

  acts-on_latch : (call : Invocation) (name : List ℕ) (l : LatchOp) (r : LatchOutcome) (s : GroupState) → ActsBy C D i e s (on_latch call name l r s).change
  acts-on_latch call name l (countdown.Done a) s = stays-by s
  acts-on_latch call name l countdown.Wants s = acts-latch_wait call name l s
  acts-on_latch call name l countdown.Opened s = acts-end_all (waits_on kind.Latch name) (λ w. answer.Bool true) s (λ w t. tt)

  acts-latch : (call : Invocation) (name : List ℕ) (l : LatchOp) (s : GroupState) → ActsBy C D i e s (latch_rule call name l s).change
  acts-latch call name l s = acts-on_latch call name l (latch_step s.latches name call l).outcome (record s { latches = (latch_step s.latches name call l).after })

  -- sessions that are opened and beaten
  open-put : (rows : List (ℕ × SessionRow)) (row : SessionRow) (x : ℕ) (client : ClientId) → x < i → is_open_for rows x client ≡ true → is_open_for (put nat_cmp rows i row) x client ≡ true
  open-put rows row x client l h = is_of-same client _ _ (sym (find-put_other nat_cmp number_key rows i x row (is_at_apart nat_cmp number_key x i (λ k. absurd (omega (arith, k, l)))))) h

  open-upto : (rows : List (ℕ × SessionRow)) (k : ℕ) (row : SessionRow) → k ≤ i → ((x : ℕ) (client : ClientId) → is_open_for rows x client ≡ true → x ≤ i) → (x : ℕ) (client : ClientId) → is_open_for (put nat_cmp rows k row) x client ≡ true → x ≤ i
  open-upto rows k row l all x client h = by (is_at (nat_cmp x) k) refl where
    by : (b : Bool) → is_at (nat_cmp x) k ≡ b → x ≤ i
    by true t = let same : x ≡ k = number_key.same x k (equal_is _ t) in omega (arith, same, l)
    by false t = all x client (is_of-same client _ _ (find-put_other nat_cmp number_key rows k x row t) h)

  open-beaten : (rows : List (ℕ × SessionRow)) (k : ℕ) (row : SessionRow) → find nat_cmp rows k ≡ Some row → (x : ℕ) (client : ClientId) → is_open_for rows x client ≡ true → is_open_for (put nat_cmp rows k (beaten row)) x client ≡ true
  open-beaten rows k row is x client h = by (is_at (nat_cmp x) k) refl where
    by : (b : Bool) → is_at (nat_cmp x) k ≡ b → is_open_for (put nat_cmp rows k (beaten row)) x client ≡ true
    by true t = let same : x ≡ k = number_key.same x k (equal_is _ t) in
        let there : find nat_cmp (put nat_cmp rows k (beaten row)) x ≡ Some (beaten row) = rw same (find-put_same nat_cmp number_key rows k (beaten row)) in
        let here : find nat_cmp rows x ≡ Some row = rw same is in
        let own : is_of client (Some (beaten row)) ≡ true = is_of-same client _ (Some row) here h in is_of-same client (Some (beaten row)) _ (sym there) own
    by false t = is_of-same client _ _ (sym (find-put_other nat_cmp number_key rows k x (beaten row) t)) h

  beaten-upto : (rows : List (ℕ × SessionRow)) (k : ℕ) (row : SessionRow) → find nat_cmp rows k ≡ Some row → ((x : ℕ) (client : ClientId) → is_open_for rows x client ≡ true → x ≤ i) → (x : ℕ) (client : ClientId) → is_open_for (put nat_cmp rows k (beaten row)) x client ≡ true → x ≤ i
  beaten-upto rows k row is all x client h = by (is_at (nat_cmp x) k) refl where
    by : (b : Bool) → is_at (nat_cmp x) k ≡ b → x ≤ i
    by true t = let same : x ≡ k = number_key.same x k (equal_is _ t) in
        let there : find nat_cmp (put nat_cmp rows k (beaten row)) x ≡ Some (beaten row) = rw same (find-put_same nat_cmp number_key rows k (beaten row)) in
        let here : find nat_cmp rows x ≡ Some row = rw same is in
        let own : is_of client (Some (beaten row)) ≡ true = is_of-same client _ _ there h in all x client (is_of-same client (Some row) _ (sym here) own)
    by false t = all x client (is_of-same client _ _ (find-put_other nat_cmp number_key rows k x (beaten row) t) h)

  acts-opened : (call : Invocation) (o : Option (ℕ × SessionRow)) (s : GroupState) → ActsBy C D i e s (opened i call o s).change
  acts-opened call (Some r) s = stays-by s
  acts-opened call None s = either (λ (r : Outcome). ActsBy C D i e s r.change) (has_room nat_cmp most s.sessions i) _ _ (
    λ w h. h,
    All-nil (IsEndedFor C D e s),
    λ x client l h. inl (open-put s.sessions (record { client = call.client; version = 0 }) x client l h),
    λ h. open-upto s.sessions i (record { client = call.client; version = 0 }) (le_refl i) h,
    λ key h. inl h,
    memory-same s.memory,
    refl,
  ) (stays-by s)

  acts-beat : (number : ℕ) (s : GroupState) (o : Option SessionRow) → find nat_cmp s.sessions number ≡ o → ActsBy C D i e s (beat number o s).change
  acts-beat number s None is = stays-by s
  acts-beat number s (Some row) is = (λ w h. h, All-nil (IsEndedFor C D e s), λ x client l h. inl (open-beaten s.sessions number row is x client h), λ h. beaten-upto s.sessions number row is h, λ key h. inl h, memory-same s.memory, refl)

-- what an entry of a call does
among-one : (n x : ℕ) → is_among (n ∷ []) x ≡ true → n ≡ x
among-one n x h = at (n == x) refl where
  at : (b : Bool) → (n == x) ≡ b → n ≡ x
  at true e = grind (arith, nat_tests)
  at false e = absurd (no (sym h ∙ rw e refl)) where
    no : true ≡ false → ⊥
    no k = cc

abbrev object_named : List ℕ → Kind → Object
object_named name which = (name, which)

abbrev object_waited : Waiter → Object
object_waited w = (w.name, w.kind)

waits-object : (which : Kind) (name : List ℕ) (w : Waiter) → waits_on which name w ≡ true → object_named name which ≡ object_waited w
waits-object which name w h = both (kind_number which == kind_number w.kind) (bytes_eq name w.name) refl refl h where
  both : (a b : Bool) → (kind_number which == kind_number w.kind) ≡ a → bytes_eq name w.name ≡ b → (a && b) ≡ true → object_named name which ≡ object_waited w
  both true true k n t = let ks : which ≡ w.kind = same_kind which w.kind (test_same (kind_number which) (kind_number w.kind) k) in
      let ns : name ≡ w.name = (bytes_eq-Decides name w.name).0 n in λ j. (ns j, ks j)
    where
      test_same : (a b : ℕ) → (a == b) ≡ true → a ≡ b
      test_same a b h = grind (arith, nat_tests)
  both true false k n t = cc
  both false b k n t = cc

drop-gone : (name : List ℕ) (which : Kind) (s : GroupState) → (drop_rows name which s).gone ≡ s.gone
drop-gone name kind.Long s = refl
drop-gone name kind.Ref s = refl
drop-gone name kind.Lock s = refl
drop-gone name kind.Sem s = refl
drop-gone name kind.Jsem s = refl
drop-gone name kind.Latch s = refl
drop-gone name kind.Map s = refl

-- of the parts that are read here dropping rows changes the names that are gone alone
abbrev IsReadSame : List ℕ → Kind → GroupState → Type 0
IsReadSame name which s = let t = add_gone (name, which) (drop_rows name which s) in (t.waiters ≡ s.waiters) × (t.sessions ≡ s.sessions) × (t.memory ≡ s.memory) × (t.destroyed_group ≡ s.destroyed_group)

read-same : (name : List ℕ) (which : Kind) (s : GroupState) → IsReadSame name which s
read-same name kind.Long s = (refl, refl, refl, refl)
read-same name kind.Ref s = (refl, refl, refl, refl)
read-same name kind.Lock s = (refl, refl, refl, refl)
read-same name kind.Sem s = (refl, refl, refl, refl)
read-same name kind.Jsem s = (refl, refl, refl, refl)
read-same name kind.Latch s = (refl, refl, refl, refl)
read-same name kind.Map s = (refl, refl, refl, refl)

-- a call closes this session, which was open
abbrev pub ClosesNow : Op → GroupState → ℕ → Type 0
ClosesNow o s x = (o ≡ op.Session (session.Close x)) × (is_some (find nat_cmp s.sessions x) ≡ true)

-- a call destroys this object, and is told so
abbrev pub DestroysNow : Op → Reply → Object → Type 0
DestroysNow o reply key = (o ≡ op.Destroy key.1 key.0) × (reply ≡ Answered answer.Ok)

module _ (i : ℕ) (call : Invocation) where
  abbrev pub ActsSo : Op → GroupState → Outcome → Type 0
  ActsSo o s r = ActsBy (ClosesNow o s) (DestroysNow o r.reply) i (entry.Call call o) s r.change

  quiet : (o : Op) (s t : GroupState) (reply : Reply) → ActsBy (ClosesNow o s) (DestroysNow o reply) i (entry.Call call o) t (stay t)
  quiet o s t reply = stays-by (ClosesNow o s) (DestroysNow o reply) i (entry.Call call o) t

  so-session : (l : SessionOp) (s : GroupState) → ActsSo (op.Session l) s (session_rule i call l s)
  so-session session.Open s = acts-opened (ClosesNow (op.Session session.Open) s) (DestroysNow (op.Session session.Open) (session_rule i call session.Open s).reply) i (entry.Call call (op.Session session.Open)) call (session_of s.sessions call.client) s
  so-session (session.Beat number) s = acts-beat (ClosesNow (op.Session (session.Beat number)) s) (DestroysNow (op.Session (session.Beat number)) (session_rule i call (session.Beat number) s).reply) i (entry.Call call (op.Session (session.Beat number))) number s (find nat_cmp s.sessions number) refl
  so-session (session.Close number) s = cases (λ (r : Outcome). ActsSo (op.Session (session.Close number)) s r) (is_some (find nat_cmp s.sessions number)) _ _
      (λ there. acts-close (ClosesNow (op.Session (session.Close number)) s) (DestroysNow (op.Session (session.Close number)) (Answered answer.Ok)) i (entry.Call call (op.Session (session.Close number))) (number ∷ []) s (λ x t. closes there x (among-one number x t)))
      (λ none. quiet (op.Session (session.Close number)) s s (Answered answer.Ok))
    where
      closes : is_some (find nat_cmp s.sessions number) ≡ true → (x : ℕ) → number ≡ x → ClosesNow (op.Session (session.Close number)) s x
      closes there x same = (ap (λ n. op.Session (session.Close n)) same, subst (λ n. is_some (find nat_cmp s.sessions n) ≡ true) same there)

  -- an object is destroyed
  module _ (which : Kind) (name : List ℕ) (s : GroupState) where
    abbrev o : Op
    o = op.Destroy which name

    abbrev C : ℕ → Type 0
    C x = ClosesNow (op.Destroy which name) s x

    abbrev D : Object → Type 0
    D key = DestroysNow (op.Destroy which name) (Answered answer.Ok) key

    abbrev dropped : GroupState
    dropped = add_gone (name, which) (drop_rows name which s)

    this : (key : Object) → object_named name which ≡ key → D key
    this key same = (ap (λ (k : Object). op.Destroy k.1 k.0) same, refl)

    end-dropped : ActsBy C D i (entry.Call call o) dropped (end_all (waits_on which name) (λ w. answer.ObjectDestroyed) dropped)
    end-dropped = acts-end_all C D i (entry.Call call o) (waits_on which name) (λ w. answer.ObjectDestroyed) dropped (λ w t. this (object_waited w) (waits-object which name w t))

    gone-now : (key : Object) → is_some (find object_cmp (put object_cmp (drop_rows name which s).gone (name, which) tt) key) ≡ true → (is_gone s key ≡ true) ⊎ D key
    gone-now key h = by (is_at (object_cmp key) (name, which)) refl where
      by : (b : Bool) → is_at (object_cmp key) (name, which) ≡ b → (is_gone s key ≡ true) ⊎ D key
      by true t = inr (this key (sym (object_key.same key (name, which) (equal_is _ t))))
      by false t = inl (subst (λ rows. is_some (find object_cmp rows key) ≡ true) (drop-gone name which s) (subst (λ (o : Option (Unit {0})). is_some o ≡ true) (find-put_other object_cmp object_key (drop_rows name which s).gone (name, which) key tt t) h))

    gone-after : (key : Object) → (is_gone dropped key ≡ true) ⊎ D key → (is_gone s key ≡ true) ⊎ D key
    gone-after key (inl h) = gone-now key h
    gone-after key (inr h) = inr h

    -- of the parts that are read here dropping rows changes the names that are gone alone
    from-dropped : (c : Change) → IsReadSame name which s → ActsBy C D i (entry.Call call o) dropped c → ActsBy C D i (entry.Call call o) s c
    from-dropped c same f = (
      λ w h. subst (λ ws. Contains ws w) same.0 (f.0 w h),
      All-weaker (IsEndedFor C D (entry.Call call o) dropped) (IsEndedFor C D (entry.Call call o) s) (λ x h. (subst (λ ws. Contains ws x.waiter) same.0 h.0, h.1)) c.ended f.1,
      λ x client l h. f.2 x client l (subst (λ rows. is_open_for rows x client ≡ true) (sym same.1) h),
      λ h. f.3 (λ x client k. h x client (subst (λ rows. is_open_for rows x client ≡ true) same.1 k)),
      λ key h. gone-after key (f.4 key h),
      subst (λ rows. MemoryStays rows c.state.memory) same.2 f.5,
      f.6 ∙ same.3,
    )

    so-destroy : ActsSo (op.Destroy which name) s (destroy_rule which name s)
    so-destroy = either (λ (r : Outcome). ActsSo (op.Destroy which name) s r) (has_room object_cmp most s.gone (name, which)) _ _
        (from-dropped (end_all (waits_on which name) (λ w. answer.ObjectDestroyed) dropped) (read-same name which s) end-dropped) (quiet (op.Destroy which name) s s (Answered (answer.TableFull most)))

  so-rule : (o : Op) (s : GroupState) → ActsSo o s (rule i call o s)
  so-rule (op.Long name l) s = quiet (op.Long name l) s (record s { longs = (long_step s.longs name l).after }) (Answered (long_step s.longs name l).answer)
  so-rule (op.Ref name l) s = quiet (op.Ref name l) s (record s { refs = (ref_step s.refs name l).after }) (Answered (ref_step s.refs name l).answer)
  so-rule (op.Map name l) s = quiet (op.Map name l) s (record s { maps = (map_step s.maps name l).after }) (Answered (map_step s.maps name l).answer)
  so-rule (op.Lock name l) s = acts-lock (ClosesNow (op.Lock name l) s) (DestroysNow (op.Lock name l) (lock_rule i call name l s).reply) i (entry.Call call (op.Lock name l)) call name l s
  so-rule (op.Sem name l) s = acts-sem (ClosesNow (op.Sem name l) s) (DestroysNow (op.Sem name l) (sem_rule call (name, kind.Sem) l s).reply) i (entry.Call call (op.Sem name l)) call (name, kind.Sem) l s
  so-rule (op.Jsem name l) s = acts-sem (ClosesNow (op.Jsem name l) s) (DestroysNow (op.Jsem name l) (sem_rule call (name, kind.Jsem) l s).reply) i (entry.Call call (op.Jsem name l)) call (name, kind.Jsem) l s
  so-rule (op.Latch name l) s = acts-latch (ClosesNow (op.Latch name l) s) (DestroysNow (op.Latch name l) (latch_rule call name l s).reply) i (entry.Call call (op.Latch name l)) call name l s
  so-rule (op.Session l) s = so-session l s
  so-rule (op.Destroy which name) s = so-destroy which name s
  so-rule (op.Group l) s = quiet (op.Group l) s s (Answered answer.Ok)
  so-rule (op.Member l) s = quiet (op.Member l) s s (Answered answer.Ok)
  so-rule (op.Change l) s = quiet (op.Change l) s s (Answered answer.Ok)

  pub outcome-by : (o : Op) (s : GroupState) → ActsSo o s (outcome i call o s)
  outcome-by o s = either (λ (r : Outcome). ActsSo o s r) (names_gone s (object_of o)) _ _ (quiet o s s (Answered answer.ObjectDestroyed)) (so-rule o s)

  and-first : (a b : Bool) → (a && b) ≡ true → a ≡ true
  and-first true b h = refl
  and-first false b h = cc

  and-last : (a b : Bool) → (a && b) ≡ true → b ≡ true
  and-last true b h = h
  and-last false b h = cc

  test_same : (a b : ℕ) → (a == b) ≡ true → a ≡ b
  test_same a b h = grind (arith, nat_tests)

  test_less : (a b : ℕ) → nat_lt a b ≡ true → a < b
  test_less a b h = grind (arith, nat_tests)

  overtakes : (o : Op) (w : Waiter) → is_older call w ≡ true → Overtakes (entry.Call call o) w.call call.number
  overtakes o w h = let c = and-first (same_client call.client w.call.client) ((call.thread.0 == w.call.thread.0) && nat_lt w.call.number call.number) h in
      let r = and-last (same_client call.client w.call.client) ((call.thread.0 == w.call.thread.0) && nat_lt w.call.number call.number) h in (
        call,
        o,
        refl,
        same-client call.client w.call.client c,
        same-thread call.thread w.call.thread (test_same call.thread.0 w.call.thread.0 (and-first (call.thread.0 == w.call.thread.0) (nat_lt w.call.number call.number) r)),
        refl,
        test_less w.call.number call.number (and-last (call.thread.0 == w.call.thread.0) (nat_lt w.call.number call.number) r),
      )

  pub supersede-by : (C : ℕ → Type 0) (D : Object → Type 0) (o : Op) (s : GroupState) → ActsBy C D i (entry.Call call o) s (supersede call s)
  supersede-by C D o s = acts-serve_each_left C D i (entry.Call call o) s _ (acts-end_all C D i (entry.Call call o) (is_older call) (λ w. answer.WaitCancelled call.number) s (λ w t. overtakes o w t))

-- the other entries that end waits
pub time_out-by : (C : ℕ → Type 0) (D : Object → Type 0) (i : ℕ) (calls : List Invocation) (s : GroupState) → ActsBy C D i (entry.WaitsExpired calls) s (serve_left (for_each time_out calls s))
time_out-by C D i calls s = acts-serve_left C D i (entry.WaitsExpired calls) s _ (each calls s (λ c h. h)) where
  each : (some : List Invocation) (t : GroupState) → ((c : Invocation) → Contains some c → Contains calls c) → ActsBy C D i (entry.WaitsExpired calls) t (for_each time_out some t)
  each [] t f = stays-by C D i (entry.WaitsExpired calls) t
  each (c ∷ some) t f = acts-joins C D i (entry.WaitsExpired calls) t (time_out c t) (for_each time_out some (time_out c t).state)
      (acts-end_all C D i (entry.WaitsExpired calls) (λ w. same_call c w.call) (λ w. answer.TimedOut) t (λ w h. (calls, refl, subst (Contains calls) (same-call c w.call h) (f c (at-head c some)))))
      (each some (time_out c t).state (λ d h. f d (at-tail c d some h)))

pub destroy-by : (C : ℕ → Type 0) (D : Object → Type 0) (i : ℕ) (group : GroupId) (s : GroupState) → ActsBy C D i (entry.Destroy group) s (end_all (λ w. true) (λ w. answer.GroupDestroyed group) s)
destroy-by C D i group s = acts-end_all C D i (entry.Destroy group) (λ w. true) (λ w. answer.GroupDestroyed group) s (λ w t. refl)

pub unchanged-among : (rows : List (ℕ × SessionRow)) (pairs : List (ℕ × ℕ)) (x : ℕ) → is_among (unchanged_since rows pairs) x ≡ true → Contains (map (λ p. p.0) pairs) x
unchanged-among rows [] x h = absurd (no h) where
  no : false ≡ true → ⊥
  no e = cc
unchanged-among rows (p ∷ pairs) x h = let rest = unchanged-among rows pairs x in by (is_at_version p.1 (find nat_cmp rows p.0)) refl rest h where
  by : (b : Bool) → is_at_version p.1 (find nat_cmp rows p.0) ≡ b → (is_among (unchanged_since rows pairs) x ≡ true → Contains (map (λ q. q.0) pairs) x) → is_among (unchanged_since rows (p ∷ pairs)) x ≡ true → Contains (map (λ q. q.0) (p ∷ pairs)) x
  by true e rest h = at (p.0 == x) refl (subst (λ (ps : List (ℕ × ℕ)). is_among (map (λ q. q.0) ps) x ≡ true) (picked e) h) where
    picked : is_at_version p.1 (find nat_cmp rows p.0) ≡ true → filter (λ q. is_at_version q.1 (find nat_cmp rows q.0)) (p ∷ pairs) ≡ p ∷ filter (λ q. is_at_version q.1 (find nat_cmp rows q.0)) pairs
    picked k = rw k refl

    at : (b : Bool) → (p.0 == x) ≡ b → is_among (p.0 ∷ unchanged_since rows pairs) x ≡ true → Contains (p.0 ∷ map (λ q. q.0) pairs) x
    at true k g = subst (Contains (p.0 ∷ map (λ q. q.0) pairs)) (test p.0 x k) (at-head p.0 (map (λ q. q.0) pairs)) where
      test : (a b : ℕ) → (a == b) ≡ true → a ≡ b
      test a b h = grind (arith, nat_tests)
    at false k g = at-tail p.0 x (map (λ q. q.0) pairs) (rest (subst (λ (c : Bool). (c || is_among (unchanged_since rows pairs) x) ≡ true) k g))
  by false e rest h = at-tail p.0 x (map (λ q. q.0) pairs) (rest (subst (λ (ps : List (ℕ × ℕ)). is_among (map (λ q. q.0) ps) x ≡ true) (passed e) h)) where
    passed : is_at_version p.1 (find nat_cmp rows p.0) ≡ false → filter (λ q. is_at_version q.1 (find nat_cmp rows q.0)) (p ∷ pairs) ≡ filter (λ q. is_at_version q.1 (find nat_cmp rows q.0)) pairs
    passed k = rw k refl

-- sessions that expire were open
pub unchanged-open : (rows : List (ℕ × SessionRow)) (pairs : List (ℕ × ℕ)) (x : ℕ) → is_among (unchanged_since rows pairs) x ≡ true → is_some (find nat_cmp rows x) ≡ true
unchanged-open rows [] x h = absurd (no h) where
  no : false ≡ true → ⊥
  no e = cc
unchanged-open rows (p ∷ pairs) x h = let rest = unchanged-open rows pairs x in by (is_at_version p.1 (find nat_cmp rows p.0)) refl rest h where
  at_version : (v : ℕ) (o : Option SessionRow) → is_at_version v o ≡ true → is_some o ≡ true
  at_version v None e = e
  at_version v (Some row) e = refl

  by : (b : Bool) → is_at_version p.1 (find nat_cmp rows p.0) ≡ b → (is_among (unchanged_since rows pairs) x ≡ true → is_some (find nat_cmp rows x) ≡ true) → is_among (unchanged_since rows (p ∷ pairs)) x ≡ true → is_some (find nat_cmp rows x) ≡ true
  by true e rest h = at (p.0 == x) refl (subst (λ (ps : List (ℕ × ℕ)). is_among (map (λ q. q.0) ps) x ≡ true) (picked e) h) where
    picked : is_at_version p.1 (find nat_cmp rows p.0) ≡ true → filter (λ q. is_at_version q.1 (find nat_cmp rows q.0)) (p ∷ pairs) ≡ p ∷ filter (λ q. is_at_version q.1 (find nat_cmp rows q.0)) pairs
    picked k = rw k refl

    at : (b : Bool) → (p.0 == x) ≡ b → is_among (p.0 ∷ unchanged_since rows pairs) x ≡ true → is_some (find nat_cmp rows x) ≡ true
    at true k g = subst (λ n. is_some (find nat_cmp rows n) ≡ true) (test p.0 x k) (at_version p.1 (find nat_cmp rows p.0) e) where
      test : (a b : ℕ) → (a == b) ≡ true → a ≡ b
      test a b h = grind (arith, nat_tests)
    at false k g = rest (subst (λ (c : Bool). (c || is_among (unchanged_since rows pairs) x) ≡ true) k g)
  by false e rest h = rest (subst (λ (ps : List (ℕ × ℕ)). is_among (map (λ q. q.0) ps) x ≡ true) (passed e) h) where
    passed : is_at_version p.1 (find nat_cmp rows p.0) ≡ false → filter (λ q. is_at_version q.1 (find nat_cmp rows q.0)) (p ∷ pairs) ≡ filter (λ q. is_at_version q.1 (find nat_cmp rows q.0)) pairs
    passed k = rw k refl

abbrev pub Expires : List (ℕ × ℕ) → GroupState → ℕ → Type 0
Expires pairs s x = is_among (unchanged_since s.sessions pairs) x ≡ true

pub expire-by : (D : Object → Type 0) (i : ℕ) (pairs : List (ℕ × ℕ)) (s : GroupState) → ActsBy (Expires pairs s) D i (entry.SessionsExpired pairs) s (close i (unchanged_since s.sessions pairs) s)
expire-by D i pairs s = acts-close (Expires pairs s) D i (entry.SessionsExpired pairs) (unchanged_since s.sessions pairs) s (λ x h. h)

-- ---- by what the entry is alone
pub acts-stays : (i : ℕ) (e : Entry) (s : GroupState) → Acts i e s (stay s)
acts-stays i e s = stays-by (Closes e) (Destroys e) i e s

pub acts-outcome : (i : ℕ) (call : Invocation) (o : Op) (s : GroupState) → Acts i (entry.Call call o) s (outcome i call o s).change
acts-outcome i call o s = acts-weaker (ClosesNow o s) (Closes (entry.Call call o)) (DestroysNow o (outcome i call o s).reply) (Destroys (entry.Call call o))
    (λ x h. inl (call, ap (entry.Call call) h.0)) (λ key h. (call, ap (entry.Call call) h.0)) i (entry.Call call o) s (outcome i call o s).change (outcome-by i call o s)

pub acts-supersede : (i : ℕ) (call : Invocation) (o : Op) (s : GroupState) → Acts i (entry.Call call o) s (supersede call s)
acts-supersede i call o s = supersede-by i call (Closes (entry.Call call o)) (Destroys (entry.Call call o)) o s

pub acts-time_out : (i : ℕ) (calls : List Invocation) (s : GroupState) → Acts i (entry.WaitsExpired calls) s (serve_left (for_each time_out calls s))
acts-time_out i calls s = time_out-by (Closes (entry.WaitsExpired calls)) (Destroys (entry.WaitsExpired calls)) i calls s

pub acts-expire : (i : ℕ) (pairs : List (ℕ × ℕ)) (s : GroupState) → Acts i (entry.SessionsExpired pairs) s (close i (unchanged_since s.sessions pairs) s)
acts-expire i pairs s = acts-weaker (Expires pairs s) (Closes (entry.SessionsExpired pairs)) (Destroys (entry.SessionsExpired pairs)) (Destroys (entry.SessionsExpired pairs))
    (λ x h. inr (pairs, refl, unchanged-among s.sessions pairs x h)) (λ key h. h) i (entry.SessionsExpired pairs) s (close i (unchanged_since s.sessions pairs) s) (expire-by (Destroys (entry.SessionsExpired pairs)) i pairs s)
