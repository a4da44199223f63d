-- A waiter with a session has a memory row that waits, under its number.
use Rattle.std.proofs.Common.{◌≡◌, ℕ, ◌-◌, ◌^◌, ◌<◌, ◌⊎◌, inl, inr, Bool, true, false, not, ◌||◌, List, [], ◌∷◌, map, Some, None, Option, refl, ap, sym, ◌∙◌, subst, arith, if◌then◌else◌}
use Rattle.std.specs.Prelude.{◌==◌, nat_lt, All, Contains, length}
use Rattle.std.proofs.lemmas.Bool.Decides.{nat_tests}
use Rattle.std.proofs.lemmas.List.Elements.{All-nil, All-cons, All-head, All-tail, All-filter, All-contains, All-contains_itself, filter_passes, Contains-push_cases, Contains-append_cases}
use Rattle.std.specs.List.{list_any, filter}
use Rattle.std.specs.BTreeMap.{is_at}
use Rattle.std.proofs.lemmas.Bool.{not-true}
use Rattle.cp_op_values.specs.declared.kind.Kind.{Kind}
use Rattle.cp_op_values.specs.declared.kind.Kind.TheVariants as kind
use Rattle.cp_base.specs.declared.identifier.Invocation.{Invocation}
use Rattle.cp_answers.specs.declared.answer.Answer.{Answer}
use Rattle.cp_answers.specs.declared.answer.Answer.TheVariants as answer
use Rattle.cp_ops.specs.declared.op.Op.{Op}
use Rattle.cp_ops.specs.declared.entry.Entry.{Entry}
use Rattle.cp_ops.specs.declared.entry.Entry.TheVariants as entry
use Rattle.cp_base.specs.declared.identifier.ClientId.{ClientId}
use Rattle.cp_base.proofs.Tests.{same_some, no_true, same_number, number_itself}
use Rattle.cp_group_state.specs.Rows.{find, holder_cmp, most}
use Rattle.cp_group_state.specs.Waiters.{Waiter, Ended, stands, same_call, still_waiting, ending, answered_by}
use Rattle.cp_group_state.specs.Memory.{MemoryRow, remember, note, note_at, note_all, has_memory}
use Rattle.cp_group_state.specs.Sessions.{SessionRow, is_open_for, is_among, unchanged_since}
use Rattle.cp_group_state.specs.Latches.{latch_step}
use Rattle.cp_group_state.specs.Closing.{end_sessions, forget}
use Rattle.cp_group_state.specs.GroupState.{GroupState}
use Rattle.cp_group_state.specs.Changes.{Change, finish, end_all}
use Rattle.cp_group_state.specs.Apply.{Applied, supersede, is_older, outcome, remembered, settle, join, perform, by_memory, by_session, apply_call, is_elsewhere, apply}
use Rattle.cp_group_state.specs.Outcomes.{Reply, Answered, Waits}
use Rattle.cp_group_state.specs.Serving.{serve}
use Rattle.cp_group_state.specs.Protected.{session_in}
use Rattle.cp_group_state.specs.Destroying.{add_gone, drop_rows}
use Rattle.cp_group_state.proofs.Keyed.{client-itself, same-thread, equal_is, find-put_same, find-put_other, find-filter_kept, holder_key, is_at_apart}
use Rattle.cp_group_state.proofs.Walk.{All-closing, cases, either, Closed, walk_supersede, walk_outcome, walk_on_latch, walk_close, walk_time_out, walk_end_all, walk_each, walk_serve}
use Rattle.cp_group_state.proofs.Grows.{Grows, opens-opened, beats-opened, forget-opened}
use Rattle.cp_group_state.proofs.Steps.{RoundsWithin, grows-outcome, within-supersede}
use Rattle.cp_group_state.proofs.Established.{fewer_closed}
use Rattle.cp_group_state.proofs.Told.{IsOwnWaiter, IsOwnWait, memory_of, memory-session, own-outcome}

abbrev pub waiting_row : Waiter → MemoryRow
waiting_row w = record { number = w.call.number; answer = None }

abbrev pub Waiting : GroupState → Type 0
Waiting s = (w : Waiter) → Contains s.waiters w → has_memory w.kind ≡ true → is_open_for s.sessions w.session w.call.client ≡ true → find holder_cmp s.memory (w.session, w.call.thread.0) ≡ Some (waiting_row w)

abbrev pub Owns : ℕ → GroupState → Type 0
Owns i s = (w : Waiter) → Contains s.waiters w → IsOwnWaiter i s.sessions w

-- this ended waiter isn't the call that waits
abbrev pub IsApart : Ended → Waiter → Type 0
IsApart e w = e.waiter.session ≡ w.session → e.waiter.call.thread ≡ w.call.thread → e.waiter.call.number ≡ w.call.number → ⊥

note_at-waits : (rows : List ((ℕ × ℕ) × MemoryRow)) (e : Ended) (o : Option MemoryRow) (w : Waiter) → find holder_cmp rows (e.waiter.session, e.waiter.call.thread.0) ≡ o → IsApart e w
    → find holder_cmp rows (w.session, w.call.thread.0) ≡ Some (waiting_row w) → find holder_cmp (note_at rows e o) (w.session, w.call.thread.0) ≡ Some (waiting_row w)
note_at-waits rows e None w is apart there = there
note_at-waits rows e (Some old) w is apart there = cases (λ (m : List ((ℕ × ℕ) × MemoryRow)). find holder_cmp m (w.session, w.call.thread.0) ≡ Some (waiting_row w)) (old.number == e.waiter.call.number) _ _
    (λ n. at n (is_at (holder_cmp (w.session, w.call.thread.0)) (e.waiter.session, e.waiter.call.thread.0)) refl) (λ n. there)
  where
    at : (old.number == e.waiter.call.number) ≡ true → (b : Bool) → is_at (holder_cmp (w.session, w.call.thread.0)) (e.waiter.session, e.waiter.call.thread.0) ≡ b
        → find holder_cmp (remember rows e.waiter.session e.waiter.call.thread old.number (Some e.answer)) (w.session, w.call.thread.0) ≡ Some (waiting_row w)
    at n true x = let key : (w.session, w.call.thread.0) ≡ (e.waiter.session, e.waiter.call.thread.0) = holder_key.same (w.session, w.call.thread.0) (e.waiter.session, e.waiter.call.thread.0) (equal_is _ x) in
        let old_is : old ≡ waiting_row w = same_some (sym is ∙ ap (λ (q : ℕ × ℕ). find holder_cmp rows q) (sym key) ∙ there) in
        absurd (apart (sym (ap (λ (q : ℕ × ℕ). q.0) key)) (same-thread e.waiter.call.thread w.call.thread (sym (ap (λ (q : ℕ × ℕ). q.1) key))) (sym (same_number old.number e.waiter.call.number n) ∙ ap (λ (r : MemoryRow). r.number) old_is))
    at n false x = find-put_other holder_cmp holder_key rows (e.waiter.session, e.waiter.call.thread.0) (w.session, w.call.thread.0) (record { number = old.number; answer = Some e.answer }) x ∙ there

note_all-waits : (rows : List ((ℕ × ℕ) × MemoryRow)) (es : List Ended) (w : Waiter) → All (λ (e : Ended). has_memory e.waiter.kind ≡ true → IsApart e w) es
    → find holder_cmp rows (w.session, w.call.thread.0) ≡ Some (waiting_row w) → find holder_cmp (note_all rows es) (w.session, w.call.thread.0) ≡ Some (waiting_row w)
note_all-waits rows [] w apart there = there
note_all-waits rows (e ∷ es) w apart there = note_all-waits (note rows e) es w (All-tail (λ (e : Ended). has_memory e.waiter.kind ≡ true → IsApart e w) e es apart)
    (cases (λ (m : List ((ℕ × ℕ) × MemoryRow)). find holder_cmp m (w.session, w.call.thread.0) ≡ Some (waiting_row w)) (has_memory e.waiter.kind) _ _
    (λ m. note_at-waits rows e _ w refl (All-head (λ (e : Ended). has_memory e.waiter.kind ≡ true → IsApart e w) e es apart m) there) (λ m. there))

any-none : {X : Type 0} (test : X → Bool) (xs : List X) → list_any test xs ≡ false → All (λ x. test x ≡ false) xs
any-none test [] h = All-nil (λ x. test x ≡ false)
any-none test (x ∷ xs) h = at (test x) refl h (any-none test xs)
  where
    at : (b : Bool) → test x ≡ b → (b || list_any test xs) ≡ false → (list_any test xs ≡ false → All (λ x. test x ≡ false) xs) → All (λ x. test x ≡ false) (x ∷ xs)
    at true e h rest = absurd (no_true h)
    at false e h rest = All-cons (λ x. test x ≡ false) x xs e (rest h)

-- one that still waits is none of those that ended
pub still-apart : (ended : List Ended) (ws : List Waiter) (w : Waiter) → Contains (still_waiting ended ws) w → All (λ (e : Ended). same_call e.waiter.call w.call ≡ false) ended
still-apart ended ws w there = any-none (λ (e : Ended). same_call e.waiter.call w.call) ended
    (not-true _ (All-contains (λ (w : Waiter). not (list_any (λ (e : Ended). same_call e.waiter.call w.call) ended) ≡ true) (still_waiting ended ws) w (filter_passes (λ (w : Waiter). not (list_any (λ (e : Ended). same_call e.waiter.call w.call) ended)) ws) there))

call-test : (a b : Invocation) → a.client ≡ b.client → a.thread ≡ b.thread → a.number ≡ b.number → same_call a b ≡ true
call-test a b c t n = rw (c, t, n, client-itself b.client, number_itself b.thread.0, number_itself b.number)

apart-of : (i : ℕ) (sessions : List (ℕ × SessionRow)) (w : Waiter) → is_open_for sessions w.session w.call.client ≡ true → (ended : List Ended) → All (λ (e : Ended). IsOwnWaiter i sessions e.waiter) ended → All (λ (e : Ended). same_call e.waiter.call w.call ≡ false) ended
    → All (λ (e : Ended). has_memory e.waiter.kind ≡ true → IsApart e w) ended
apart-of i sessions w opened_for ended own apart k d l m s t n = let e = own k d l m in
    no_true (sym (call-test _ w.call (sym (e.1 w.call.client (subst (λ y. is_open_for sessions y w.call.client ≡ true) (sym s) opened_for))) t n) ∙ apart k d l)

abbrev pub KeepsWaits : ℕ → GroupState → Change → Type 0
KeepsWaits i s c = Owns i s → Waiting s → Owns i c.state × Waiting c.state

waits-finish : (i : ℕ) (s : GroupState) (ended : List Ended) → All (λ (e : Ended). Contains s.waiters e.waiter) ended → KeepsWaits i s (finish ended s)
waits-finish i s ended all own wait = (
  λ w there. own w ((fewer_closed i).ends s ended all w there),
  λ w there m opened_for. note_all-waits s.memory ended w (apart-of i s.sessions w opened_for ended (λ k d l. own _ (all k d l)) (still-apart ended s.waiters w there))
      (wait w ((fewer_closed i).ends s ended all w there) m opened_for),
)

waits-forget : (i : ℕ) (s : GroupState) (sessions : List ℕ) → Owns i s → Waiting s → Owns i (forget sessions s) × Waiting (forget sessions s)
waits-forget i s sessions own wait = (
  λ w there m. let x = own w there m in (x.0, λ client o. x.1 client (forget-opened s.sessions sessions w.session client o).1),
  λ w there m o. let f = forget-opened s.sessions sessions w.session w.call.client o in find-filter_kept holder_cmp holder_key (λ key. not (is_among sessions key.0)) s.memory (w.session, w.call.thread.0) (rw f.0) ∙ wait w there m f.1,
)

waits-sessions : (i : ℕ) (s : GroupState) (rows : List (ℕ × SessionRow)) → ((session : ℕ) (client : ClientId) → session < i → is_open_for rows session client ≡ true → is_open_for s.sessions session client ≡ true) → Owns i s → Waiting s → Owns i (record s { sessions = rows }) × Waiting (record s { sessions = rows })
waits-sessions i s rows f own wait = (
  λ w there m. let x = own w there m in (x.0, λ client o. x.1 client (f w.session client x.0 o)),
  λ w there m o. wait w there m (f w.session w.call.client (own w there m).0 o),
)

waits-drop : (i : ℕ) (name : List ℕ) (which : Kind) (s : GroupState) → Owns i s → Waiting s → Owns i (add_gone (name, which) (drop_rows name which s)) × Waiting (add_gone (name, which) (drop_rows name which s))
waits-drop i name kind.Long s own wait = (own, wait)
waits-drop i name kind.Ref s own wait = (own, wait)
waits-drop i name kind.Map s own wait = (own, wait)
waits-drop i name kind.Lock s own wait = (own, wait)
waits-drop i name kind.Sem s own wait = (own, wait)
waits-drop i name kind.Jsem s own wait = (own, wait)
waits-drop i name kind.Latch s own wait = (own, wait)

waits_closed : (i : ℕ) → Closed i (KeepsWaits i)
waits_closed i = record {
  stays = λ s own wait. (own, wait);
  joins = λ s c d f g own wait. let x = f own wait in g x.0 x.1;
  ends = λ s ended all. waits-finish i s ended all;
  handed = λ s c name w g. g;
  freed = λ s c sessions g. g;
  serves = λ s c key row is g. g;
  permits = λ s c key o g. g;
  backs = λ s c sessions g. g;
  closes = λ s sessions own wait. let x = waits-forget i s sessions own wait in waits-finish i (forget sessions s) (end_sessions sessions s).ended (All-closing s sessions) x.0 x.1;
  acquires = λ s c name who limit g. g;
  releases = λ s c name who g. g;
  longs = λ s c name o g. g;
  refs = λ s c name o g. g;
  maps = λ s c name o g. g;
  opens = λ s c client fresh g own wait. let x = waits-sessions i s _ (λ session other l o. opens-opened s.sessions i (record { client = client; version = 0 }) session other l o) own wait in g x.0 x.1;
  beats = λ s c number row is g own wait. let x = waits-sessions i s _ (λ session client l o. beats-opened s.sessions number row is session client o) own wait in g x.0 x.1;
  drops = λ s c name which g own wait. let x = waits-drop i name which s own wait in g x.0 x.1;
}

-- after a call began, no older waiter of its thread stands
abbrev pub NoOlder : Invocation → List Waiter → Type 0
NoOlder call ws = (w : Waiter) → Contains ws w → is_older call w ≡ false

pub in-ending : (test : Waiter → Bool) (a : Waiter → Answer) (ws : List Waiter) (w : Waiter) → All (λ (e : Ended). same_call e.waiter.call w.call ≡ false) (ending test a ws) → Contains ws w → test w ≡ true → ⊥
in-ending test a ws w apart there passes = at ws apart (All-contains (λ (v : Waiter). Contains ws v) ws w (All-contains_itself ws) there)
  where
    at : (vs : List Waiter) → All (λ (e : Ended). same_call e.waiter.call w.call ≡ false) (ending test a vs) → Contains vs w → ⊥
    at [] apart there = let l = there.1 in absurd (omega arith)
    at (v ∷ vs) apart there = by (test v) refl apart (Contains-append_cases (v ∷ []) vs w there) (at vs)
      where
        one : Contains (v ∷ []) w → v ≡ w
        one h = pick (Contains-push_cases [] v w h) where
          pick : Contains [] w ⊎ (v ≡ w) → v ≡ w
          pick (inl k) = let l = k.1 in absurd (omega arith)
          pick (inr e) = e

        by : (b : Bool) → test v ≡ b → All (λ (e : Ended). same_call e.waiter.call w.call ≡ false) (map (answered_by a) (if b then v ∷ filter test vs else filter test vs)) → Contains (v ∷ []) w ⊎ Contains vs w → (All (λ (e : Ended). same_call e.waiter.call w.call ≡ false) (ending test a vs) → Contains vs w → ⊥) → ⊥
        by true e apart (inl h) rest = no_true (sym (call-test v.call w.call (ap (λ (x : Waiter). x.call.client) (one h)) (ap (λ (x : Waiter). x.call.thread) (one h)) (ap (λ (x : Waiter). x.call.number) (one h))) ∙ All-head (λ (e : Ended). same_call e.waiter.call w.call ≡ false) (answered_by a v) (map (answered_by a) (filter test vs)) apart)
        by true e apart (inr h) rest = rest (All-tail (λ (e : Ended). same_call e.waiter.call w.call ≡ false) (answered_by a v) (map (answered_by a) (filter test vs)) apart) h
        by false e apart (inl h) rest = no_true (sym passes ∙ ap test (sym (one h)) ∙ e)
        by false e apart (inr h) rest = rest apart h

older-gone : (call : Invocation) (s : GroupState) → NoOlder call (end_all (is_older call) (λ w. answer.WaitCancelled call.number) s).state.waiters
older-gone call s w there = at (is_older call w) refl
  where
    at : (b : Bool) → is_older call w ≡ b → is_older call w ≡ false
    at true e = absurd (in-ending (is_older call) (λ w. answer.WaitCancelled call.number) s.waiters w (still-apart (ending (is_older call) (λ w. answer.WaitCancelled call.number) s.waiters) s.waiters w there)
        (All-contains (Contains s.waiters) _ w (All-filter (λ w. not (list_any (λ e. same_call e.waiter.call w.call) (ending (is_older call) (λ w. answer.WaitCancelled call.number) s.waiters))) (Contains s.waiters) s.waiters (All-contains_itself s.waiters)) there) e)
    at false e = e

pub none-older : (call : Invocation) (s : GroupState) → NoOlder call (supersede call s).state.waiters
none-older call s w there = let first = end_all (is_older call) (λ w. answer.WaitCancelled call.number) s in
    older-gone call s w (walk_each 0 (λ s c. (w : Waiter) → Contains c.state.waiters w → Contains s.waiters w) (fewer_closed 0) serve (walk_serve 0 (λ s c. (w : Waiter) → Contains c.state.waiters w → Contains s.waiters w) (fewer_closed 0)) (map (λ e. (e.waiter.name, e.waiter.kind)) first.ended) first.state w there)

-- no waiter that has a memory row has this one
abbrev pub ApartFrom : Option ℕ → Invocation → GroupState → Type 0
ApartFrom None call u = Unit {0}
ApartFrom (Some session) call u = (w : Waiter) → Contains u.waiters w → has_memory w.kind ≡ true → is_open_for u.sessions w.session w.call.client ≡ true → w.session ≡ session → w.call.thread ≡ call.thread → ⊥

number-less : (n m : ℕ) → n < m → nat_lt n m ≡ true
number-less n m h = grind (arith, nat_tests)

older-test : (call : Invocation) (w : Waiter) → call.client ≡ w.call.client → call.thread ≡ w.call.thread → w.call.number < call.number → is_older call w ≡ true
older-test call w c t n = rw (c, t, client-itself w.call.client, number_itself w.call.thread.0, number-less w.call.number call.number n)

apart-thread : (i : ℕ) (session : ℕ) (call : Invocation) (t : GroupState) → Owns i t → Waiting t → NoOlder call t.waiters → is_open_for t.sessions session call.client ≡ true
    → ((row : MemoryRow) → find holder_cmp t.memory (session, call.thread.0) ≡ Some row → row.number < call.number) → ApartFrom (Some session) call t
apart-thread i session call t own wait none opened_for less w there m o s th =
    let row : find holder_cmp t.memory (session, call.thread.0) ≡ Some (waiting_row w) = ap (λ (q : ℕ × ℕ). find holder_cmp t.memory q) (λ j. (sym s j, (sym th j).0)) ∙ wait w there m o in
    let client : call.client ≡ w.call.client = (own w there m).1 call.client (subst (λ y. is_open_for t.sessions y call.client ≡ true) (sym s) opened_for) in
    no_true (sym (older-test call w client (sym th) (less (waiting_row w) row)) ∙ none w there)

apart-grows : (i : ℕ) (so : Option ℕ) (call : Invocation) (t u : GroupState) → Owns i t → ((w : Waiter) → Contains u.waiters w → Contains t.waiters w) → Grows i t u → ApartFrom so call t → ApartFrom so call u
apart-grows i None call t u own fewer g h = tt
apart-grows i (Some session) call t u own fewer g h = λ w there m o s th. h w (fewer w there) m (g.opened w.session w.call.client (own w (fewer w there) m).0 o) s th

waits-remembered : (so : Option ℕ) (call : Invocation) (a : Option Answer) (u : GroupState) → ApartFrom so call u → Waiting u → Waiting (remembered so call a u)
waits-remembered None call a u apart wait = wait
waits-remembered (Some session) call a u apart wait = λ w there m o. find-put_other holder_cmp holder_key u.memory (session, call.thread.0) (w.session, w.call.thread.0) (record { number = call.number; answer = a })
    (is_at_apart holder_cmp holder_key (w.session, w.call.thread.0) (session, call.thread.0) (λ e. apart w there m o (ap (λ (q : ℕ × ℕ). q.0) e) (same-thread w.call.thread call.thread (ap (λ (q : ℕ × ℕ). q.1) e)))) ∙ wait w there m o

no_memory : (w : Waiter) → None ≡ memory_of w → has_memory w.kind ≡ true → ⊥
no_memory w e m = none_some (memory-session w None e m) where
  none_some : None ≡ Some w.session → ⊥
  none_some e = cc

waits-joined : (so : Option ℕ) (call : Invocation) (v : Waiter) (u : GroupState) → IsOwnWait call so (Waits v) → ApartFrom so call u → Waiting u → Waiting (remembered so call None (join v u))
waits-joined None call v u own apart wait w there m o = at (Contains-push_cases u.waiters v w there)
  where
    at : Contains u.waiters w ⊎ (v ≡ w) → find holder_cmp u.memory (w.session, w.call.thread.0) ≡ Some (waiting_row w)
    at (inl h) = wait w h m o
    at (inr e) = absurd (no_memory w (own.1 ∙ ap memory_of e) m)
waits-joined (Some session) call v u own apart wait w there m o = at (Contains-push_cases u.waiters v w there)
  where
    at : Contains u.waiters w ⊎ (v ≡ w) → find holder_cmp (remember u.memory session call.thread call.number None) (w.session, w.call.thread.0) ≡ Some (waiting_row w)
    at (inl h) = waits-remembered (Some session) call None u apart wait w h m o
    at (inr e) = let so_is : session ≡ w.session = same_some (memory-session w (Some session) (own.1 ∙ ap memory_of e) m) in
        let call_is : call ≡ w.call = sym own.0 ∙ ap (λ (x : Waiter). x.call) e in
        subst (λ (q : ℕ × ℕ). find holder_cmp (remember u.memory session call.thread call.number None) q ≡ Some (waiting_row w)) (λ j. (so_is j, (call_is j).thread.0))
        (find-put_same holder_cmp holder_key u.memory (session, call.thread.0) (record { number = call.number; answer = None }) ∙ ap (λ (c : Invocation). Some (record { number = c.number; answer = None })) call_is)

waits-settle : (so : Option ℕ) (call : Invocation) (r : Reply) (c : Change) → IsOwnWait call so r → ApartFrom so call c.state → Waiting c.state → Waiting (settle so call r c).state
waits-settle so call (Answered a) c own apart wait = waits-remembered so call (Some a) c.state apart wait
waits-settle so call (Waits v) c own apart wait = either (λ (r : Applied). Waiting r.state) (stands call c.state.waiters) _ _ wait
    (either (λ (r : Applied). Waiting r.state) (nat_lt (length c.state.waiters) most) _ _ (waits-joined so call v c.state own apart wait) (waits-remembered so call (Some (answer.TableFull most)) c.state apart wait))

pub fewer-outcome : (i : ℕ) (call : Invocation) (o : Op) (s : GroupState) (w : Waiter) → Contains (outcome i call o s).change.state.waiters w → Contains s.waiters w
fewer-outcome i call o s = walk_outcome i (λ s c. (w : Waiter) → Contains c.state.waiters w → Contains s.waiters w) (λ s c. (w : Waiter) → Contains c.state.waiters w → Contains s.waiters w) (fewer_closed i) (λ s c g. g) call o s
    (λ e name l is. walk_on_latch i (λ s c. (w : Waiter) → Contains c.state.waiters w → Contains s.waiters w) (fewer_closed i) call name l (latch_step s.latches name call l).outcome (record s { latches = (latch_step s.latches name call l).after }))

waits-outcome : (i : ℕ) (call : Invocation) (o : Op) (s : GroupState) → KeepsWaits i s (outcome i call o s).change
waits-outcome i call o s = walk_outcome i (KeepsWaits i) (KeepsWaits i) (waits_closed i) (λ s c g. g) call o s
    (λ e name l is. walk_on_latch i (KeepsWaits i) (waits_closed i) call name l (latch_step s.latches name call l).outcome (record s { latches = (latch_step s.latches name call l).after }))

waits-perform : (i : ℕ) (call : Invocation) (o : Op) (s : GroupState) → RoundsWithin (2 ^ 62 - 1) s.latches → Owns i s → Waiting s → ApartFrom (session_in o) call s → Waiting (perform i call o s).state
waits-perform i call o s few own wait apart = waits-settle (session_in o) call (outcome i call o s).reply (outcome i call o s).change (own-outcome i call o s)
    (apart-grows i (session_in o) call s _ own (fewer-outcome i call o s) (grows-outcome i call o s few) apart) (waits-outcome i call o s own wait).1

none_row : (row : MemoryRow) → None ≡ Some row → ⊥
none_row row e = cc

strictly : (a b : ℕ) → (a == b) ≡ false → nat_lt b a ≡ false → a < b
strictly a b h k = grind (arith, nat_tests)

waits-memory : (i : ℕ) (session : ℕ) (call : Invocation) (o : Op) (row : Option MemoryRow) (s : GroupState) → session_in o ≡ Some session → find holder_cmp s.memory (session, call.thread.0) ≡ row → is_open_for s.sessions session call.client ≡ true
    → RoundsWithin (2 ^ 62 - 1) s.latches → Owns i s → Waiting s → NoOlder call s.waiters → Waiting (by_memory i call o row s).state
waits-memory i session call o None s so is opened_for few own wait none = waits-perform i call o s few own wait
    (subst (λ x. ApartFrom x call s) (sym so) (apart-thread i session call s own wait none opened_for (λ row there. absurd (none_row row (sym is ∙ there)))))
waits-memory i session call o (Some row) s so is opened_for few own wait none = cases (λ (r : Applied). Waiting r.state) (row.number == call.number) _ _ (λ e. wait)
    (λ e. cases (λ (r : Applied). Waiting r.state) (nat_lt call.number row.number) _ _ (λ l. wait)
    (λ l. waits-perform i call o s few own wait (subst (λ x. ApartFrom x call s) (sym so) (apart-thread i session call s own wait none opened_for
    (λ other there. let same : other ≡ row = same_some (sym there ∙ is) in rw same (strictly row.number call.number e l))))))

waits-session : (i : ℕ) (call : Invocation) (o : Op) (so : Option ℕ) (s : GroupState) → session_in o ≡ so → RoundsWithin (2 ^ 62 - 1) s.latches → Owns i s → Waiting s → NoOlder call s.waiters → Waiting (by_session i call o so s).state
waits-session i call o None s so few own wait none = waits-perform i call o s few own wait (subst (λ x. ApartFrom x call s) (sym so) tt)
waits-session i call o (Some session) s so few own wait none = cases (λ (r : Applied). Waiting r.state) (is_open_for s.sessions session call.client) _ _
    (λ e. waits-memory i session call o _ s so refl e few own wait none) (λ e. wait)

waits-call : (i : ℕ) (call : Invocation) (o : Op) (s : GroupState) → RoundsWithin (2 ^ 62 - 1) s.latches → RoundsWithin (2 ^ 62 - 1) (supersede call s).state.latches → Owns i s → Waiting s → Waiting (apply_call i call o s).state
waits-call i call o s few few_then own wait = either (λ (r : Applied). Waiting r.state) (s.destroyed_group.0 == 0) _ _
    (let x = walk_supersede i (KeepsWaits i) (waits_closed i) call s own wait in waits-session i call o (session_in o) (supersede call s).state refl few_then x.0 x.1 (none-older call s)) wait

pub waits-apply : (i : ℕ) (e : Entry) (s : GroupState) → RoundsWithin (2 ^ 62 - 1) s.latches → Owns i s → Waiting s → Waiting (apply i e s).state
waits-apply i entry.Empty s few own wait = wait
waits-apply i (entry.Call call o) s few own wait = either (λ (r : Applied). Waiting r.state) (is_elsewhere o) _ _ wait (waits-call i call o s few (within-supersede call _ s few) own wait)
waits-apply i (entry.SessionsExpired pairs) s few own wait = (walk_close i (KeepsWaits i) (waits_closed i) (unchanged_since s.sessions pairs) s own wait).1
waits-apply i (entry.WaitsExpired calls) s few own wait = (walk_time_out i (KeepsWaits i) (waits_closed i) calls s own wait).1
waits-apply i (entry.Members call plan members) s few own wait = wait
waits-apply i (entry.Destroy group) s few own wait = (walk_end_all i (KeepsWaits i) (waits_closed i) (λ w. true) (λ w. answer.GroupDestroyed group) (record s { destroyed_group = if s.destroyed_group.0 == 0 then group else s.destroyed_group }) own wait).1
waits-apply i (entry.Destroyed group) s few own wait = wait
waits-apply i (entry.Moved group at members) s few own wait = wait
waits-apply i (entry.Left member) s few own wait = wait

pub waits-supersede : (i : ℕ) (call : Invocation) (s : GroupState) → KeepsWaits i s (supersede call s)
waits-supersede i call s = walk_supersede i (KeepsWaits i) (waits_closed i) call s
