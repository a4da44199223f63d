-- What one entry leaves of sessions, of the memory, of the names that are gone, and of the group.
use Rattle.std.proofs.Common.{is_some, ◌≡◌, ℕ, ◌<◌, ◌⊎◌, inl, inr, Bool, true, false, not, ◌||◌, List, [], ◌∷◌, Some, None, Option, refl, sym, subst, ap, ◌∙◌, arith, if◌then◌else◌}
use Rattle.std.specs.Prelude.{◌==◌, nat_lt, length, Contains}
use Rattle.std.specs.BTreeMap.{is_at}
use Rattle.std.specs.List.{filter}
use Rattle.std.specs.Ordering.{nat_cmp}
use Rattle.std.proofs.lemmas.Bool.Decides.{nat_tests}
use Rattle.std.proofs.lemmas.List.Elements.{Contains-append_right}
use Rattle.cp_base.specs.declared.identifier.ClientId.{ClientId}
use Rattle.cp_base.specs.declared.identifier.GroupId.{GroupId}
use Rattle.cp_base.specs.declared.identifier.Invocation.{Invocation}
use Rattle.cp_base.proofs.Tests.{no_true, same_some}
use Rattle.cp_answers.specs.declared.answer.Answer.{Answer}
use Rattle.cp_answers.specs.declared.answer.Answer.TheVariants as answer
use Rattle.cp_op_values.specs.declared.kind.Kind.TheVariants as kind
use Rattle.cp_ops.specs.declared.entry.Entry.{Entry}
use Rattle.cp_ops.specs.declared.entry.Entry.TheVariants as entry
use Rattle.cp_ops.specs.declared.op.Op.{Op}
use Rattle.cp_ops.specs.declared.op.Op.TheVariants as op
use Rattle.cp_ops.specs.declared.session_op.SessionOp.TheVariants as session
use Rattle.cp_group_state.specs.Rows.{Object, find, most, holder_cmp, object_cmp}
use Rattle.cp_group_state.specs.declared.rows.Waiter.{Waiter}
use Rattle.cp_group_state.specs.Waiters.{first_on, stands}
use Rattle.cp_group_state.specs.declared.rows.MemoryRow.{MemoryRow}
use Rattle.cp_group_state.specs.Memory.{remember}
use Rattle.cp_group_state.specs.declared.rows.SessionRow.{SessionRow}
use Rattle.cp_group_state.specs.declared.rows.SemaphoreRow.{SemaphoreRow}
use Rattle.cp_group_state.specs.Sessions.{is_among, is_open_for}
use Rattle.cp_group_state.specs.Locks.{held_among}
use Rattle.cp_group_state.specs.GroupState.{GroupState}
use Rattle.cp_group_state.specs.Changes.{Change, for_each}
use Rattle.cp_group_state.specs.Serving.{serve, serve_from, hand_over, hand_to}
use Rattle.cp_group_state.specs.Closing.{close, concerned, end_sessions, free_locks, free_permits}
use Rattle.cp_group_state.specs.declared.outcome.Reply.{Reply}
use Rattle.cp_group_state.specs.declared.outcome.Reply.TheVariants.{Answered, Waits}
use Rattle.cp_group_state.specs.Outcomes.{Outcome}
use Rattle.cp_group_state.specs.Destroying.{is_gone}
use Rattle.cp_group_state.specs.Protected.{session_in}
use Rattle.cp_group_state.specs.Apply.{Applied, after_change, apply, apply_call, by_memory, by_session, give_again, is_elsewhere, join, outcome, perform, remembered, settle, supersede, told}
use Rattle.cp_group_state.proofs.Keyed.{equal_is, find-filter_gone, find-put_same, find-put_other, holder_key, number_key}
use Rattle.cp_group_state.proofs.Walk.{cases, either}
use Rattle.cp_group_causes.proofs.Lists.{at-head}
use Rattle.cp_group_causes.proofs.Acts.{Acts, Closes, ClosesNow, DestroysNow, SessionsUpTo, acts-expire, acts-outcome, acts-supersede, acts-time_out, destroy-by, expire-by, outcome-by, supersede-by, time_out-by}

-- the row that the entry's own call has in the memory
abbrev pub IsOwnRow : Entry → GroupState → ℕ × ℕ → MemoryRow → Type 0
IsOwnRow e s q row = (call : Invocation) × (o : Op) × (e ≡ entry.Call call o) × (session_in o ≡ Some q.0) × (call.thread.0 ≡ q.1) × (call.number ≡ row.number)
    × (is_open_for (supersede call s).state.sessions q.0 call.client ≡ true)

abbrev pub IsOldRow : GroupState → ℕ × ℕ → MemoryRow → Type 0
IsOldRow s q row = (old : MemoryRow) × (find holder_cmp s.memory q ≡ Some old) × (old.number ≡ row.number)

pub record After (i : ℕ) (e : Entry) (s t : GroupState) : Type 0 where
  pub stay : (x : ℕ) (client : ClientId) → x < i → is_open_for s.sessions x client ≡ true → (is_open_for t.sessions x client ≡ true) ⊎ Closes e x
  pub upto : SessionsUpTo i s → SessionsUpTo i t
  pub memory : (q : ℕ × ℕ) (row : MemoryRow) → find holder_cmp t.memory q ≡ Some row → IsOldRow s q row ⊎ IsOwnRow e s q row
  pub destroyed : (t.destroyed_group ≡ s.destroyed_group) ⊎ (e ≡ entry.Destroy t.destroyed_group)

after-same : (i : ℕ) (e : Entry) (s : GroupState) → After i e s s
after-same i e s = record { stay = λ x client l h. inl h; upto = λ h. h; memory = λ q row h. inl (row, h, refl); destroyed = inl refl }

after-acts : (i : ℕ) (e : Entry) (s : GroupState) (c : Change) → Acts i e s c → After i e s c.state
after-acts i e s c f = record { stay = f.2; upto = f.3; memory = λ q row h. inl (f.5 q row h); destroyed = inl f.6 }

-- a change and what follows it, in an entry of a call
module _ (i : ℕ) (call : Invocation) (o : Op) (s : GroupState) where
  abbrev pub e : Entry
  e = entry.Call call o

  -- from the state after the older waits ended
  record From (t : GroupState) : Type 0 where
    pub stay : (x : ℕ) (client : ClientId) → x < i → is_open_for s.sessions x client ≡ true → (is_open_for t.sessions x client ≡ true) ⊎ Closes e x
    pub upto : SessionsUpTo i s → SessionsUpTo i t
    pub memory : (q : ℕ × ℕ) (row : MemoryRow) → find holder_cmp t.memory q ≡ Some row → IsOldRow s q row ⊎ IsOwnRow e s q row
    pub destroyed : t.destroyed_group ≡ s.destroyed_group

  from-acts : (t : GroupState) (c : Change) → From t → Acts i e t c → From c.state
  from-acts t c f g = record {
    stay = λ x client l h. stay x client l (f.stay x client l h);
    upto = λ h. g.3 (f.upto h);
    memory = λ q row h. let old = g.5 q row h in numbered q row old.0 old.2 (f.memory q old.0 old.1);
    destroyed = g.6 ∙ f.destroyed;
  }
    where
      stay : (x : ℕ) (client : ClientId) → x < i → (is_open_for t.sessions x client ≡ true) ⊎ Closes e x → (is_open_for c.state.sessions x client ≡ true) ⊎ Closes e x
      stay x client l (inl h) = g.2 x client l h
      stay x client l (inr h) = inr h

      numbered : (q : ℕ × ℕ) (row old : MemoryRow) → old.number ≡ row.number → IsOldRow s q old ⊎ IsOwnRow e s q old → IsOldRow s q row ⊎ IsOwnRow e s q row
      numbered q row old n (inl h) = inl (h.0, h.1, h.2 ∙ n)
      numbered q row old n (inr h) = inr (h.0, h.1, h.2, h.3, h.4, h.5 ∙ n, h.6)

  superseded : From (supersede call s).state
  superseded = let f = acts-supersede i call o s in record { stay = f.2; upto = f.3; memory = λ q row h. inl (f.5 q row h); destroyed = f.6 }

  -- the call's own row
  abbrev pub IsOpenHere : Option ℕ → Type 0
  IsOpenHere None = Unit {0}
  IsOpenHere (Some x) = is_open_for (supersede call s).state.sessions x call.client ≡ true

  from-remembered : (so : Option ℕ) (a : Option Answer) (t : GroupState) → session_in o ≡ so → IsOpenHere so → From t → From (remembered so call a t)
  from-remembered None a t is there f = f
  from-remembered (Some x) a t is there f = record { stay = f.stay; upto = f.upto; memory = λ q row h. at q row h (is_at (holder_cmp q) (x, call.thread.0)) refl; destroyed = f.destroyed } where
    new : MemoryRow
    new = record { number = call.number; answer = a }

    at : (q : ℕ × ℕ) (row : MemoryRow) → find holder_cmp (remember t.memory x call.thread call.number a) q ≡ Some row → (b : Bool) → is_at (holder_cmp q) (x, call.thread.0) ≡ b → IsOldRow s q row ⊎ IsOwnRow e s q row
    at q row h true k = let same : q ≡ (x, call.thread.0) = holder_key.same q (x, call.thread.0) (equal_is _ k) in
        let put_here : find holder_cmp (remember t.memory x call.thread call.number a) q ≡ Some new = rw same (find-put_same holder_cmp holder_key t.memory (x, call.thread.0) new) in
        let row_is : new ≡ row = same_some (sym put_here ∙ h) in
        let x_is : x ≡ q.0 = sym (ap (λ (p : ℕ × ℕ). p.0) same) in
        inr (
          call,
          o,
          refl,
          is ∙ ap Some x_is,
          sym (ap (λ (p : ℕ × ℕ). p.1) same),
          ap (λ (r : MemoryRow). r.number) row_is,
          subst (λ y. is_open_for (supersede call s).state.sessions y call.client ≡ true) x_is there,
        )
    at q row h false k = f.memory q row (sym (find-put_other holder_cmp holder_key t.memory (x, call.thread.0) q new k) ∙ h)

  from-joined : (w : Waiter) (t : GroupState) → From t → From (join w t)
  from-joined w t f = record { stay = f.stay; upto = f.upto; memory = f.memory; destroyed = f.destroyed }

  from-settle : (so : Option ℕ) (r : Reply) (c : Change) → session_in o ≡ so → IsOpenHere so → From c.state → From (settle so call r c).state
  from-settle so (Answered a) c is there f = from-remembered so (Some a) c.state is there f
  from-settle so (Waits w) c is there f = either (λ (r : Applied). From r.state) (stands call c.state.waiters) _ _ f
      (either (λ (r : Applied). From r.state) (nat_lt (length c.state.waiters) most) _ _ (from-remembered so None (join w c.state) is there (from-joined w c.state f)) (from-remembered so (Some (answer.TableFull most)) c.state is there f))

  from-perform : (so : Option ℕ) (t : GroupState) → session_in o ≡ so → IsOpenHere so → From t → From (settle so call (outcome i call o t).reply (outcome i call o t).change).state
  from-perform so t is there f = from-settle so (outcome i call o t).reply (outcome i call o t).change is there (from-acts t (outcome i call o t).change f (acts-outcome i call o t))

  -- `perform` settles under the session that the operation names
  performed : (so : Option ℕ) (t : GroupState) → session_in o ≡ so → IsOpenHere so → From t → From (perform i call o t).state
  performed so t is there f = subst (λ x. From (settle x call (outcome i call o t).reply (outcome i call o t).change).state) (sym is) (from-perform so t is there f)

  from-memory : (so : Option ℕ) (row : Option MemoryRow) (t : GroupState) → session_in o ≡ so → IsOpenHere so → From t → From (by_memory i call o row t).state
  from-memory so None t is there f = performed so t is there f
  from-memory so (Some row) t is there f = either (λ (r : Applied). From r.state) (row.number == call.number) _ _ f (either (λ (r : Applied). From r.state) (nat_lt call.number row.number) _ _ f (performed so t is there f))

  from-session : (so : Option ℕ) → session_in o ≡ so → From (by_session i call o so (supersede call s).state).state
  from-session None is = performed None (supersede call s).state is tt superseded
  from-session (Some x) is = cases (λ (r : Applied). From r.state) (is_open_for (supersede call s).state.sessions x call.client) _ _
      (λ there. from-memory (Some x) (find holder_cmp (supersede call s).state.memory (x, call.thread.0)) (supersede call s).state is there superseded) (λ closed. superseded)

  from-whole : (t : GroupState) → From t → After i e s t
  from-whole t f = record { stay = f.stay; upto = f.upto; memory = f.memory; destroyed = inl f.destroyed }

  pub after-call : After i e s (apply_call i call o s).state
  after-call = either (λ (r : Applied). After i e s r.state) (s.destroyed_group.0 == 0) _ _ (from-whole (by_session i call o (session_in o) (supersede call s).state).state (from-session (session_in o) refl)) (after-same i e s)

pub after-apply : (i : ℕ) (e : Entry) (s : GroupState) → After i e s (apply i e s).state
after-apply i entry.Empty s = after-same i entry.Empty s
after-apply i (entry.Call call o) s = either (λ (r : Applied). After i (entry.Call call o) s r.state) (is_elsewhere o) _ _ (after-same i (entry.Call call o) s) (after-call i call o s)
after-apply i (entry.SessionsExpired pairs) s = after-acts i (entry.SessionsExpired pairs) s _ (acts-expire i pairs s)
after-apply i (entry.WaitsExpired calls) s = after-acts i (entry.WaitsExpired calls) s _ (acts-time_out i calls s)
after-apply i (entry.Members call plan members) s = after-same i (entry.Members call plan members) s
after-apply i (entry.Destroy group) s = let f = destroy-by (λ x. ⊥) (λ key. ⊥) i group (record s { destroyed_group = if s.destroyed_group.0 == 0 then group else s.destroyed_group }) in record {
  stay = λ x client l h. inl h;
  upto = f.3;
  memory = λ q row h. inl (f.5 q row h);
  destroyed = either (λ (g : GroupId). (g ≡ s.destroyed_group) ⊎ (entry.Destroy group ≡ entry.Destroy g)) (s.destroyed_group.0 == 0) group s.destroyed_group (inr refl) (inl refl);
}
after-apply i (entry.Destroyed group) s = after-same i (entry.Destroyed group) s
after-apply i (entry.Moved group at members) s = after-same i (entry.Moved group at members) s
after-apply i (entry.Left member) s = after-same i (entry.Left member) s

-- ---- objects that are destroyed
-- a call destroys this object, and is told so
abbrev pub DestroysTold : Invocation → Op → Applied → Object → Type 0
DestroysTold call o r key = (o ≡ op.Destroy key.1 key.0) × Contains r.answers (call, answer.Ok)

module _ (i : ℕ) (call : Invocation) (o : Op) where
  -- what is gone after this was gone before, or is destroyed by this
  abbrev pub GoneSo : GroupState → Applied → Type 0
  GoneSo s r = (key : Object) → is_gone r.state key ≡ true → (is_gone s key ≡ true) ⊎ DestroysTold call o r key

  gone-same : (s : GroupState) (r : Applied) → r.state ≡ s → GoneSo s r
  gone-same s r same key h = inl (subst (λ (t : GroupState). is_gone t key ≡ true) same h)

  settled-gone : (so : Option ℕ) (reply : Reply) (c : Change) → (settle so call reply c).state.gone ≡ c.state.gone
  settled-gone None (Answered a) c = refl
  settled-gone (Some x) (Answered a) c = refl
  settled-gone None (Waits w) c = either (λ (r : Applied). r.state.gone ≡ c.state.gone) (stands call c.state.waiters) _ _ refl (either (λ (r : Applied). r.state.gone ≡ c.state.gone) (nat_lt (length c.state.waiters) most) _ _ refl refl)
  settled-gone (Some x) (Waits w) c = either (λ (r : Applied). r.state.gone ≡ c.state.gone) (stands call c.state.waiters) _ _ refl (either (λ (r : Applied). r.state.gone ≡ c.state.gone) (nat_lt (length c.state.waiters) most) _ _ refl refl)

  settled-told : (so : Option ℕ) (reply : Reply) (c : Change) → reply ≡ Answered answer.Ok → Contains (settle so call reply c).answers (call, answer.Ok)
  settled-told so reply c is = subst (λ (r : Reply). Contains (settle so call r c).answers (call, answer.Ok)) (sym is) (at-head (call, answer.Ok) (told c.ended))

  pub performed-told : (s : GroupState) → (outcome i call o s).reply ≡ Answered answer.Ok → Contains (perform i call o s).answers (call, answer.Ok)
  performed-told s is = settled-told (session_in o) (outcome i call o s).reply (outcome i call o s).change is

  gone-perform : (s : GroupState) → GoneSo s (perform i call o s)
  gone-perform s key h = by ((outcome-by i call o s).4 key (subst (λ gone. is_some (find object_cmp gone key) ≡ true) (settled-gone (session_in o) (outcome i call o s).reply (outcome i call o s).change) h)) where
    by : (is_gone s key ≡ true) ⊎ DestroysNow o (outcome i call o s).reply key → (is_gone s key ≡ true) ⊎ DestroysTold call o (perform i call o s) key
    by (inl k) = inl k
    by (inr k) = inr (k.0, performed-told s k.1)

  gone-memory : (row : Option MemoryRow) (s : GroupState) → GoneSo s (by_memory i call o row s)
  gone-memory None s = gone-perform s
  gone-memory (Some row) s = either (GoneSo s) (row.number == call.number) _ _ (gone-same s (record { state = s; answers = give_again call row.answer }) refl)
      (either (GoneSo s) (nat_lt call.number row.number) _ _ (gone-same s (record { state = s; answers = (call, answer.Stale row.number) ∷ [] }) refl) (gone-perform s))

  gone-session : (so : Option ℕ) (s : GroupState) → GoneSo s (by_session i call o so s)
  gone-session None s = gone-perform s
  gone-session (Some x) s = either (GoneSo s) (is_open_for s.sessions x call.client) _ _ (gone-memory (find holder_cmp s.memory (x, call.thread.0)) s) (gone-same s (record { state = s; answers = (call, answer.SessionExpired x) ∷ [] }) refl)

  gone-call : (s : GroupState) → GoneSo s (apply_call i call o s)
  gone-call s = either (GoneSo s) (s.destroyed_group.0 == 0) _ _ live (gone-same s (record { state = s; answers = (call, answer.GroupDestroyed s.destroyed_group) ∷ [] }) refl) where
    live : GoneSo s (after_change (supersede call s) (by_session i call o (session_in o)))
    live key h = by (gone-session (session_in o) (supersede call s).state key h) where
      before : (is_gone s key ≡ true) ⊎ ⊥ → (is_gone s key ≡ true) ⊎ DestroysTold call o (after_change (supersede call s) (by_session i call o (session_in o))) key
      before (inl k) = inl k
      before (inr k) = absurd k

      by : (is_gone (supersede call s).state key ≡ true) ⊎ DestroysTold call o (by_session i call o (session_in o) (supersede call s).state) key → (is_gone s key ≡ true) ⊎ DestroysTold call o (after_change (supersede call s) (by_session i call o (session_in o))) key
      by (inl k) = before ((supersede-by i call (λ x. ⊥) (λ key. ⊥) o s).4 key k)
      by (inr k) = inr (k.0, Contains-append_right (told (supersede call s).ended) (by_session i call o (session_in o) (supersede call s).state).answers (call, answer.Ok) k.1)

  pub gone-entry : (s : GroupState) → GoneSo s (apply i (entry.Call call o) s)
  gone-entry s = either (GoneSo s) (is_elsewhere o) _ _ (gone-same s (record { state = s; answers = [] }) refl) (gone-call s)

-- what is gone after an entry was gone before, or is destroyed by it, and its call is told so
abbrev pub GoneByEntry : ℕ → Entry → GroupState → Object → Type 0
GoneByEntry i e s key = (is_gone s key ≡ true) ⊎ ((by : Invocation) × (e ≡ entry.Call by (op.Destroy key.1 key.0)) × Contains (apply i e s).answers (by, answer.Ok))

pub gone-after : (i : ℕ) (e : Entry) (s : GroupState) (key : Object) → is_gone (apply i e s).state key ≡ true → GoneByEntry i e s key
gone-after i e s key h = by e h where
  old : {A : Type 0} → (is_gone s key ≡ true) ⊎ ⊥ → (is_gone s key ≡ true) ⊎ A
  old (inl k) = inl k
  old (inr k) = absurd k

  told_so : (call : Invocation) (o : Op) → (is_gone s key ≡ true) ⊎ DestroysTold call o (apply i (entry.Call call o) s) key → GoneByEntry i (entry.Call call o) s key
  told_so call o (inl k) = inl k
  told_so call o (inr k) = inr (call, ap (entry.Call call) k.0, k.1)

  by : (e : Entry) → is_gone (apply i e s).state key ≡ true → GoneByEntry i e s key
  by entry.Empty h = inl h
  by (entry.Call call o) h = told_so call o (gone-entry i call o s key h)
  by (entry.SessionsExpired pairs) h = old ((expire-by (λ key. ⊥) i pairs s).4 key h)
  by (entry.WaitsExpired calls) h = old ((time_out-by (λ x. ⊥) (λ key. ⊥) i calls s).4 key h)
  by (entry.Members call plan members) h = inl h
  by (entry.Destroy group) h = inl h
  by (entry.Destroyed group) h = inl h
  by (entry.Moved group at members) h = inl h
  by (entry.Left member) h = inl h

-- ---- sessions that are closed
each-sessions : {X : Type 0} (f : X → GroupState → Change) → ((x : X) (s : GroupState) → (f x s).state.sessions ≡ s.sessions) → (xs : List X) (s : GroupState) → (for_each f xs s).state.sessions ≡ s.sessions
each-sessions f h [] s = refl
each-sessions f h (x ∷ xs) s = each-sessions f h xs (f x s).state ∙ h x s

serve-sessions : (key : Object) (s : GroupState) → (serve key s).state.sessions ≡ s.sessions
serve-sessions key s = by (find object_cmp s.semaphores.rows key) where
  by : (o : Option SemaphoreRow) → (serve_from key o s).state.sessions ≡ s.sessions
  by None = refl
  by (Some row) = refl

hand-sessions : (i : ℕ) (name : List ℕ) (s : GroupState) → (hand_over i name s).state.sessions ≡ s.sessions
hand-sessions i name s = by (first_on kind.Lock name s.waiters) where
  by : (o : Option Waiter) → (hand_to i name o s).state.sessions ≡ s.sessions
  by None = refl
  by (Some w) = refl

close-sessions : (i : ℕ) (sessions : List ℕ) (s : GroupState) → (close i sessions s).state.sessions ≡ filter (λ e. not (is_among sessions e.0)) s.sessions
close-sessions i sessions s = each-sessions serve serve-sessions (concerned sessions (end_sessions sessions s).ended s)
    (free_permits sessions (for_each (hand_over i) (held_among sessions s.locks) (free_locks sessions (end_sessions sessions s).state)).state)
    ∙ each-sessions (hand_over i) (hand-sessions i) (held_among sessions s.locks) (free_locks sessions (end_sessions sessions s).state)

pub closed-none : (i : ℕ) (sessions : List ℕ) (s : GroupState) (x : ℕ) → is_among sessions x ≡ true → is_some (find nat_cmp (close i sessions s).state.sessions x) ≡ false
closed-none i sessions s x h = subst (λ rows. is_some (find nat_cmp rows x) ≡ false) (sym (close-sessions i sessions s))
    (subst (λ (o : Option SessionRow). is_some o ≡ false) (sym (find-filter_gone nat_cmp number_key (λ y. not (is_among sessions y)) s.sessions x (rw h))) refl)

one-among : (x : ℕ) → is_among (x ∷ []) x ≡ true
one-among x = by (x == x) refl where
  by : (b : Bool) → (x == x) ≡ b → (b || false) ≡ true
  by true e = refl
  by false e = absurd (no x e) where
    no : (n : ℕ) → (n == n) ≡ false → ⊥
    no n e = grind (arith, nat_tests)

-- a call closes the session for good
pub closes-now : (i : ℕ) (call : Invocation) (o : Op) (s : GroupState) (x : ℕ) → ClosesNow o s x → is_some (find nat_cmp (perform i call o s).state.sessions x) ≡ false
closes-now i call o s x h = subst (λ (p : Op). is_some (find nat_cmp (perform i call p s).state.sessions x) ≡ false) (sym h.0) closed where
  no : is_some (find nat_cmp s.sessions x) ≡ false → ⊥
  no e = no_true (sym h.1 ∙ e)

  closed : is_some (find nat_cmp (perform i call (op.Session (session.Close x)) s).state.sessions x) ≡ false
  closed = cases (λ (r : Outcome). is_some (find nat_cmp (settle None call r.reply r.change).state.sessions x) ≡ false) (is_some (find nat_cmp s.sessions x)) _ _ (λ there. closed-none i (x ∷ []) s x (one-among x)) (λ none. absurd (no none))
