-- A client has one session, and a call waits once.
use Rattle.std.proofs.Common.{◌≡◌, ℕ, Bool, true, false, ◌||◌, List, [], ◌∷◌, ◌++◌, Some, None, Option, refl, sym, ◌∙◌, subst, if◌then◌else◌, cond}
use Rattle.std.specs.Prelude.{◌==◌, nat_lt, length}
use Rattle.std.specs.List.{filter}
use Rattle.std.specs.Ordering.{nat_cmp}
use Rattle.std.specs.BTreeMap.{is_at}
use Rattle.cp_op_values.specs.declared.kind.Kind.{Kind}
use Rattle.cp_op_values.specs.declared.kind.Kind.TheVariants as kind
use Rattle.cp_base.specs.declared.identifier.ClientId.{ClientId}
use Rattle.cp_base.specs.declared.identifier.Invocation.{Invocation}
use Rattle.cp_base.proofs.Tests.{no_true}
use Rattle.cp_answers.specs.declared.answer.Answer.{Answer}
use Rattle.cp_answers.specs.declared.answer.Answer.TheVariants as answer
use Rattle.cp_ops.specs.declared.op.Op.{Op}
use Rattle.cp_ops.specs.declared.entry.Entry.{Entry}
use Rattle.cp_ops.specs.declared.entry.Entry.TheVariants as entry
use Rattle.cp_group_state.specs.Rows.{find, put, most}
use Rattle.cp_group_state.specs.Waiters.{Waiter, first, same_client, same_call, stands}
use Rattle.cp_group_state.specs.Memory.{MemoryRow}
use Rattle.cp_group_state.specs.Sessions.{SessionRow, is_of, is_open_for, session_of, unchanged_since}
use Rattle.cp_group_state.specs.Latches.{latch_step}
use Rattle.cp_group_state.specs.GroupState.{GroupState, empty}
use Rattle.cp_group_state.specs.Changes.{Change}
use Rattle.cp_group_state.specs.Destroying.{add_gone, drop_rows}
use Rattle.cp_group_state.specs.Outcomes.{Reply, Answered, Waits}
use Rattle.cp_group_state.specs.Protected.{session_in}
use Rattle.cp_group_state.specs.Apply.{Applied, apply, apply_call, by_session, by_memory, perform, settle, remembered, join, is_elsewhere, supersede, outcome}
use Rattle.cp_group_state.specs.Invariants.{Always, OneSession, CallsDiffer}
use Rattle.cp_group_state.proofs.Keyed.{equal_is, find-put_same, find-put_other, number_key, same-client}
use Rattle.cp_group_state.proofs.Walk.{cases, either, Closed, walk_supersede, walk_outcome, walk_on_latch, walk_close, walk_time_out, keep_session}
use Rattle.cp_group_state.proofs.Grows.{is_of-same, beats-opened, forget-opened}
use Rattle.cp_group_state.proofs.Latches.{same_call_itself}
use Rattle.cp_group_state.proofs.Told.{IsOwnWait, own-outcome}
use Rattle.cp_group_state.proofs.Once.{same-call}
use Rattle.cp_group_state.proofs.Ordered.{always}

-- One session
none-open : (rows : List (ℕ × SessionRow)) (b : ℕ) (client : ClientId) → session_of rows client ≡ None → is_open_for rows b client ≡ false
none-open [] b client h = refl
none-open (e ∷ es) b client h = at (same_client e.1.client client) refl h (none-open es b client)
  where
    some_none : (x : ℕ × SessionRow) → Some x ≡ None → ⊥
    some_none x e = cc

    at : (c : Bool) → same_client e.1.client client ≡ c → first (if c then e ∷ filter (λ x. same_client x.1.client client) es else filter (λ x. same_client x.1.client client) es) ≡ None → (session_of es client ≡ None → is_open_for es b client ≡ false) → is_open_for (e ∷ es) b client ≡ false
    at true x h rest = absurd (some_none e h)
    at false x h rest = by (is_at (nat_cmp b) e.0)
      where
        by : (d : Bool) → is_of client (cond d (Some e.1) (find nat_cmp es b)) ≡ false
        by true = x
        by false = rest h

one-open : (i : ℕ) (rows : List (ℕ × SessionRow)) (client : ClientId) → session_of rows client ≡ None → OneSession rows → OneSession (put nat_cmp rows i (record { client = client; version = 0 }))
one-open i rows client fresh h a b who x y = at (is_at (nat_cmp a) i) (is_at (nat_cmp b) i) refl refl
  where
    row : SessionRow
    row = record { client = client; version = 0 }

    old : (a : ℕ) → is_at (nat_cmp a) i ≡ false → is_open_for (put nat_cmp rows i row) a who ≡ true → is_open_for rows a who ≡ true
    old a e x = is_of-same who _ _ (find-put_other nat_cmp number_key rows i a row e) x

    clash : (a b : ℕ) → is_at (nat_cmp a) i ≡ true → is_at (nat_cmp b) i ≡ false → is_open_for (put nat_cmp rows i row) a who ≡ true → is_open_for (put nat_cmp rows i row) b who ≡ true → ⊥
    clash a b e f x y = let same : a ≡ i = number_key.same a i (equal_is _ e) in
        let here : find nat_cmp (put nat_cmp rows i row) a ≡ Some row = rw same (find-put_same nat_cmp number_key rows i row) in
        let mine : is_of who (Some row) ≡ true = is_of-same who _ _ here x in
        let who_is : client ≡ who = same-client client who mine in
        no_true (sym (old b f y) ∙ none-open rows b who (subst (λ c. session_of rows c ≡ None) who_is fresh))

    at : (c d : Bool) → is_at (nat_cmp a) i ≡ c → is_at (nat_cmp b) i ≡ d → a ≡ b
    at true true e f = number_key.same a i (equal_is _ e) ∙ sym (number_key.same b i (equal_is _ f))
    at true false e f = absurd (clash a b e f x y)
    at false true e f = absurd (clash b a f e y x)
    at false false e f = h a b who (old a e x) (old b f y)

drop-one : (name : List ℕ) (which : Kind) (s : GroupState) → OneSession s.sessions → OneSession (add_gone (name, which) (drop_rows name which s)).sessions
drop-one name kind.Long s h = h
drop-one name kind.Ref s h = h
drop-one name kind.Lock s h = h
drop-one name kind.Sem s h = h
drop-one name kind.Jsem s h = h
drop-one name kind.Latch s h = h
drop-one name kind.Map s h = h

abbrev pub KeepsOne : GroupState → Change → Type 0
KeepsOne s c = OneSession s.sessions → OneSession c.state.sessions

one_closed : (i : ℕ) → Closed i KeepsOne
one_closed i = record {
  stays = λ s h. h;
  joins = λ s c d f g h. g (f h);
  ends = λ s ended all h. h;
  handed = λ s c name w g. g;
  freed = λ s c sessions g. g;
  serves = λ s c key row is g. g;
  permits = λ s c key o g. g;
  backs = λ s c sessions g. g;
  closes = λ s sessions h a b client x y. h a b client (forget-opened s.sessions sessions a client x).1 (forget-opened s.sessions sessions b client y).1;
  acquires = λ s c name who limit g. g;
  releases = λ s c name who g. g;
  longs = λ s c name o g. g;
  refs = λ s c name o g. g;
  maps = λ s c name o g. g;
  opens = λ s c client fresh g h. g (one-open i s.sessions client fresh h);
  beats = λ s c number row is g h. g (λ a b client x y. h a b client (beats-opened s.sessions number row is a client x) (beats-opened s.sessions number row is b client y));
  drops = λ s c name which g h. g (drop-one name which s h);
}

one-call : (i : ℕ) (call : Invocation) (o : Op) (s : GroupState) → OneSession s.sessions → OneSession (apply_call i call o s).state.sessions
one-call i call o s h = either (λ (r : Applied). OneSession r.state.sessions) (s.destroyed_group.0 == 0) _ _
    (let before : OneSession (supersede call s).state.sessions = walk_supersede i KeepsOne (one_closed i) call s h in
    keep_session (λ t. OneSession t.sessions) (λ t ws m g. g) i call o (session_in o) (supersede call s).state before
    (walk_outcome i KeepsOne KeepsOne (one_closed i) (λ s c g. g) call o (supersede call s).state
    (λ e name l is. walk_on_latch i KeepsOne (one_closed i) call name l (latch_step (supersede call s).state.latches name call l).outcome (record (supersede call s).state { latches = (latch_step (supersede call s).state.latches name call l).after })) before)) h

one-apply : (i : ℕ) (e : Entry) (s : GroupState) → OneSession s.sessions → OneSession (apply i e s).state.sessions
one-apply i entry.Empty s h = h
one-apply i (entry.Call call o) s h = either (λ (r : Applied). OneSession r.state.sessions) (is_elsewhere o) _ _ h (one-call i call o s h)
one-apply i (entry.SessionsExpired pairs) s h = walk_close i KeepsOne (one_closed i) (unchanged_since s.sessions pairs) s h
one-apply i (entry.WaitsExpired calls) s h = walk_time_out i KeepsOne (one_closed i) calls s h
one-apply i (entry.Members call plan members) s h = h
one-apply i (entry.Destroy group) s h = h
one-apply i (entry.Destroyed group) s h = h
one-apply i (entry.Moved group at members) s h = h
one-apply i (entry.Left member) s h = h

none-at-first : OneSession []
none-at-first a b client x y = absurd (no_true (sym x))

pub always-one_session : (es : List Entry) → Always (λ s. OneSession s.sessions) es
always-one_session es = always (λ s. OneSession s.sessions) one-apply 1 es empty none-at-first

-- One wait
pub stands-filter : (call : Invocation) (test : Waiter → Bool) (ws : List Waiter) → stands call ws ≡ false → stands call (filter test ws) ≡ false
stands-filter call test [] h = refl
stands-filter call test (w ∷ ws) h = at (test w) (same_call call w.call) refl h (stands-filter call test ws)
  where
    at : (b c : Bool) → same_call call w.call ≡ c → (c || stands call ws) ≡ false → (stands call ws ≡ false → stands call (filter test ws) ≡ false) → stands call (if b then w ∷ filter test ws else filter test ws) ≡ false
    at b true e h rest = absurd (no_true h)
    at true false e h rest = rw e (rest h)
    at false false e h rest = rest h

pub differ-filter : (test : Waiter → Bool) (ws : List Waiter) → CallsDiffer ws → CallsDiffer (filter test ws)
differ-filter test [] h = tt
differ-filter test (w ∷ ws) h = either CallsDiffer (test w) (w ∷ filter test ws) (filter test ws) (stands-filter w.call test ws h.0, differ-filter test ws h.1) (differ-filter test ws h.1)

pub apart-back : (a b : Invocation) → same_call a b ≡ false → same_call b a ≡ false
apart-back a b h = at (same_call b a) refl
  where
    at : (c : Bool) → same_call b a ≡ c → same_call b a ≡ false
    at true e = absurd (no_true (sym (subst (λ c. same_call a c ≡ true) (sym (same-call b a e)) (same_call_itself a)) ∙ h))
    at false e = e

pub stands-push : (call : Invocation) (ws : List Waiter) (v : Waiter) → stands call ws ≡ false → same_call call v.call ≡ false → stands call (ws ++ v ∷ []) ≡ false
stands-push call [] v h e = rw e
stands-push call (w ∷ ws) v h e = at (same_call call w.call) refl h (stands-push call ws v)
  where
    at : (c : Bool) → same_call call w.call ≡ c → (c || stands call ws) ≡ false → (stands call ws ≡ false → same_call call v.call ≡ false → stands call (ws ++ v ∷ []) ≡ false) → stands call ((w ∷ ws) ++ v ∷ []) ≡ false
    at true x h rest = absurd (no_true h)
    at false x h rest = rw x (rest h e)

pub differ-push : (ws : List Waiter) (v : Waiter) → stands v.call ws ≡ false → CallsDiffer ws → CallsDiffer (ws ++ v ∷ [])
differ-push [] v s h = (refl, tt)
differ-push (w ∷ ws) v s h = at (same_call v.call w.call) refl s (λ k. differ-push ws v k h.1)
  where
    at : (c : Bool) → same_call v.call w.call ≡ c → (c || stands v.call ws) ≡ false → (stands v.call ws ≡ false → CallsDiffer (ws ++ v ∷ [])) → CallsDiffer ((w ∷ ws) ++ v ∷ [])
    at true e s rest = absurd (no_true s)
    at false e s rest = (stands-push w.call ws v h.0 (apart-back v.call w.call e), rest s)

drop-differ : (name : List ℕ) (which : Kind) (s : GroupState) → CallsDiffer s.waiters → CallsDiffer (add_gone (name, which) (drop_rows name which s)).waiters
drop-differ name kind.Long s h = h
drop-differ name kind.Ref s h = h
drop-differ name kind.Lock s h = h
drop-differ name kind.Sem s h = h
drop-differ name kind.Jsem s h = h
drop-differ name kind.Latch s h = h
drop-differ name kind.Map s h = h

abbrev pub KeepsDiffer : GroupState → Change → Type 0
KeepsDiffer s c = CallsDiffer s.waiters → CallsDiffer c.state.waiters

differ_closed : (i : ℕ) → Closed i KeepsDiffer
differ_closed i = record {
  stays = λ s h. h;
  joins = λ s c d f g h. g (f h);
  ends = λ s ended all h. differ-filter _ s.waiters h;
  handed = λ s c name w g. g;
  freed = λ s c sessions g. g;
  serves = λ s c key row is g. g;
  permits = λ s c key o g. g;
  backs = λ s c sessions g. g;
  closes = λ s sessions h. differ-filter _ s.waiters h;
  acquires = λ s c name who limit g. g;
  releases = λ s c name who g. g;
  longs = λ s c name o g. g;
  refs = λ s c name o g. g;
  maps = λ s c name o g. g;
  opens = λ s c client fresh g. g;
  beats = λ s c number row is g. g;
  drops = λ s c name which g h. g (drop-differ name which s h);
}

remembered-differ : (so : Option ℕ) (call : Invocation) (a : Option Answer) (s : GroupState) → CallsDiffer s.waiters → CallsDiffer (remembered so call a s).waiters
remembered-differ None call a s h = h
remembered-differ (Some session) call a s h = h

differ-settle : (so wanted : Option ℕ) (call : Invocation) (r : Reply) (c : Change) → IsOwnWait call wanted r → CallsDiffer c.state.waiters → CallsDiffer (settle so call r c).state.waiters
differ-settle so wanted call (Answered a) c own h = remembered-differ so call (Some a) c.state h
differ-settle so wanted call (Waits v) c own h = cases (λ (r : Applied). CallsDiffer r.state.waiters) (stands call c.state.waiters) _ _ (λ e. h)
    (λ e. either (λ (r : Applied). CallsDiffer r.state.waiters) (nat_lt (length c.state.waiters) most) _ _
    (remembered-differ so call None (join v c.state) (differ-push c.state.waiters v (subst (λ (x : Invocation). stands x c.state.waiters ≡ false) (sym own.0) e) h))
    (remembered-differ so call (Some (answer.TableFull most)) c.state h))

differ-perform : (i : ℕ) (call : Invocation) (o : Op) (s : GroupState) → CallsDiffer s.waiters → CallsDiffer (perform i call o s).state.waiters
differ-perform i call o s h = differ-settle (session_in o) (session_in o) call (outcome i call o s).reply (outcome i call o s).change (own-outcome i call o s)
    (walk_outcome i KeepsDiffer KeepsDiffer (differ_closed i) (λ s c g. g) call o s
    (λ e name l is. walk_on_latch i KeepsDiffer (differ_closed i) call name l (latch_step s.latches name call l).outcome (record s { latches = (latch_step s.latches name call l).after })) h)

differ-memory : (i : ℕ) (call : Invocation) (o : Op) (row : Option MemoryRow) (s : GroupState) → CallsDiffer s.waiters → CallsDiffer (by_memory i call o row s).state.waiters
differ-memory i call o None s h = differ-perform i call o s h
differ-memory i call o (Some row) s h = either (λ (r : Applied). CallsDiffer r.state.waiters) (row.number == call.number) _ _ h
    (either (λ (r : Applied). CallsDiffer r.state.waiters) (nat_lt call.number row.number) _ _ h (differ-perform i call o s h))

differ-session : (i : ℕ) (call : Invocation) (o : Op) (so : Option ℕ) (s : GroupState) → CallsDiffer s.waiters → CallsDiffer (by_session i call o so s).state.waiters
differ-session i call o None s h = differ-perform i call o s h
differ-session i call o (Some session) s h = either (λ (r : Applied). CallsDiffer r.state.waiters) (is_open_for s.sessions session call.client) _ _ (differ-memory i call o _ s h) h

differ-call : (i : ℕ) (call : Invocation) (o : Op) (s : GroupState) → CallsDiffer s.waiters → CallsDiffer (apply_call i call o s).state.waiters
differ-call i call o s h = either (λ (r : Applied). CallsDiffer r.state.waiters) (s.destroyed_group.0 == 0) _ _
    (differ-session i call o (session_in o) (supersede call s).state (walk_supersede i KeepsDiffer (differ_closed i) call s h)) h

differ-apply : (i : ℕ) (e : Entry) (s : GroupState) → CallsDiffer s.waiters → CallsDiffer (apply i e s).state.waiters
differ-apply i entry.Empty s h = h
differ-apply i (entry.Call call o) s h = either (λ (r : Applied). CallsDiffer r.state.waiters) (is_elsewhere o) _ _ h (differ-call i call o s h)
differ-apply i (entry.SessionsExpired pairs) s h = walk_close i KeepsDiffer (differ_closed i) (unchanged_since s.sessions pairs) s h
differ-apply i (entry.WaitsExpired calls) s h = walk_time_out i KeepsDiffer (differ_closed i) calls s h
differ-apply i (entry.Members call plan members) s h = h
differ-apply i (entry.Destroy group) s h = differ-filter _ s.waiters h
differ-apply i (entry.Destroyed group) s h = h
differ-apply i (entry.Moved group at members) s h = h
differ-apply i (entry.Left member) s h = h

pub always-differ : (es : List Entry) → Always (λ s. CallsDiffer s.waiters) es
always-differ es = always (λ s. CallsDiffer s.waiters) differ-apply 1 es empty tt
