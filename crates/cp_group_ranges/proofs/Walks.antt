-- Changes that end waiters keep states good, and what ends has an answer that fits.
use Rattle.std.proofs.Common.{◌≡◌, ℕ, Bool, true, false, not, List, [], ◌∷◌, ◌++◌, map, Some, None, Option, refl, ap, sym, ◌∙◌, subst, is_some, if◌then◌else◌}
use Rattle.std.specs.Prelude.{◌==◌, ℤ, pos, int_lt, ◌-ℤ◌, bytes_eq}
use Rattle.std.specs.List.{filter, list_any, AllByRecursion}
use Rattle.std.proofs.lemmas.Cmp.{nat_list_cmp_total}
use Rattle.std.proofs.lemmas.Slice.Eq.{bytes_eq-Decides}
use Rattle.std.proofs.lemmas.Bool.{and_from}
use Rattle.cp_base.specs.declared.identifier.GroupId.{GroupId}
use Rattle.cp_base.specs.declared.identifier.Invocation.{Invocation}
use Rattle.cp_base.proofs.Tests.{no_true, number_itself}
use Rattle.cp_grammar.specs.Common as spelled
use Rattle.cp_grammar.specs.Common.{index, group_id, invocation}
use Rattle.cp_op_values.specs.declared.kind.Kind.{Kind}
use Rattle.cp_op_values.specs.declared.kind.Kind.TheVariants as kind
use Rattle.cp_answers.specs.declared.answer.Answer.{Answer}
use Rattle.cp_answers.specs.declared.answer.Answer.TheVariants as answer
use Rattle.cp_answers.specs.Answers.{answer_grammar}
use Rattle.cp_group_state.specs.declared.rows.Waiter.{Waiter}
use Rattle.cp_group_state.specs.declared.rows.SemaphoreRow.{SemaphoreRow}
use Rattle.cp_group_state.specs.Rows.{Object, find, put, without, has_room, most, name_cmp, object_cmp, pair_cmp, kind_number}
use Rattle.cp_group_state.specs.Waiters.{Ended, waits_on, first, same_call, answered_by, ending, still_waiting}
use Rattle.cp_group_state.specs.Memory.{note_all}
use Rattle.cp_group_state.specs.Sessions.{is_among}
use Rattle.cp_group_state.specs.Locks.{held_once, held_among, freed_all}
use Rattle.cp_group_state.specs.Semaphores.{served, take_all, all_back, sem_destroyed}
use Rattle.cp_group_state.specs.Maps.{map_destroyed}
use Rattle.cp_group_state.specs.GroupState.{GroupState}
use Rattle.cp_group_state.specs.Changes.{Change, stay, for_each, finish, end_all}
use Rattle.cp_group_state.specs.Serving.{serve_from, serve, left_by, serve_left, hand_to, hand_over}
use Rattle.cp_group_state.specs.Closing.{forget, free_locks, free_permits, concerned, end_sessions, close}
use Rattle.cp_group_state.specs.Destroying.{add_gone, drop_rows}
use Rattle.cp_group_state.specs.Apply.{supersede, is_older, time_out, destroy_group}
use Rattle.cp_group_state.proofs.Keyed.{name_key, object_key, pair_key, is_at_apart, find-without_other}
use Rattle.cp_group_state.proofs.Latches.{same_call_itself}
use Rattle.cp_group_state.proofs.Walk.{cases, either}
use Rattle.cp_group_state.proofs.Ordered.{object_total}
use Rattle.cp_group_ranges.specs.Rows.{LockFits, LongFits, RefFits, PairFits, GoneFits, WaiterFits, MemoryFits}
use Rattle.cp_group_ranges.specs.States.{HasSemaphore}
use Rattle.cp_group_ranges.proofs.Listed.{kept-put, kept-without, kept-filter, each-append, each-filter, each-weaker, each-both, found-put, or-right}
use Rattle.cp_group_ranges.proofs.Fitting.{call_thread, call_number, kind_fits, fits_ok, fits_fence, fits_expired, fits_timed_out, fits_cancelled, fits_object_destroyed, fits_group_destroyed}
use Rattle.cp_group_ranges.proofs.Atoms.{pair_total}
use Rattle.cp_group_ranges.proofs.LockSteps.{Handed, kept-freed, kept-handed, handed-among}
use Rattle.cp_group_ranges.proofs.LatchSteps.{kept-latch_gone}
use Rattle.cp_group_ranges.proofs.Permits.{kept-served}
use Rattle.cp_group_ranges.proofs.Returned.{kept-back, grew-back, kept-sem_gone}
use Rattle.cp_group_ranges.proofs.Calls.{EndedFits, ended-fits, kept-sessions, kept-waiting, kept-noted}
use Rattle.cp_group_ranges.proofs.Good.{Good, with-group, with-sessions, with-locks, with-permits, with-latches, with-longs, with-refs, with-maps, with-gone, with-calls, with-fewer}

pub record GoodChange (c : Change) : Type 0 where
  pub state : Good c.state
  pub ended : AllByRecursion EndedFits c.ended

pub good-stay : (s : GroupState) → Good s → GoodChange (stay s)
good-stay s h = record { state = h; ended = tt }

good-then : (c d : Change) → GoodChange c → GoodChange d → GoodChange (record { state = d.state; ended = c.ended ++ d.ended })
good-then c d g k = record { state = k.state; ended = each-append EndedFits c.ended d.ended g.ended k.ended }

good-each : {X : Type 0} (f : X → GroupState → Change) → ((x : X) (s : GroupState) → Good s → GoodChange (f x s)) → (xs : List X) (s : GroupState) → Good s → GoodChange (for_each f xs s)
good-each f k [] s h = good-stay s h
good-each f k (x ∷ xs) s h = let one = k x s h in good-then (f x s) (for_each f xs (f x s).state) one (good-each f k xs (f x s).state one.state)

good-finish : (s : GroupState) (ended : List Ended) → AllByRecursion EndedFits ended → Good s → GoodChange (finish ended s)
good-finish s ended f h = record {
  state = with-calls s (still_waiting ended s.waiters) (note_all s.memory ended) (kept-waiting s.semaphores.rows (λ w. not (list_any (λ e. same_call e.waiter.call w.call) ended)) s.waiters h.waiters) (kept-noted s.memory ended f h.memory) h;
  ended = f;
}

pub good-end_all : (test : Waiter → Bool) (a : Waiter → Answer) (s : GroupState) → ((w : Waiter) → WaiterFits w → answer_grammar.Fits (a w)) → Good s → GoodChange (end_all test a s)
good-end_all test a s f h = good-finish s (ending test a s.waiters) (ended-fits a f (filter test s.waiters) (each-filter WaiterFits test s.waiters h.waiters.all)) h

-- ---- who is served

served-fits : (key : Object) (available : ℤ) (ws : List Waiter) → AllByRecursion WaiterFits ws → AllByRecursion WaiterFits (served key available ws)
served-fits key available [] h = tt
served-fits key available (w ∷ ws) h = either (AllByRecursion WaiterFits) (waits_on key.1 key.0 w) _ _
    (either (AllByRecursion WaiterFits) (int_lt available (pos w.permits)) [] (w ∷ served key (available -ℤ pos w.permits) ws) tt (h.0, served-fits key (available -ℤ pos w.permits) ws h.1))
    (served-fits key available ws h.1)

pub good-serve : (key : Object) (s : GroupState) → Good s → GoodChange (serve key s)
good-serve key s h = at (find object_cmp s.semaphores.rows key) refl
  where
    at : (o : Option SemaphoreRow) → find object_cmp s.semaphores.rows key ≡ o → GoodChange (serve_from key o s)
    at None is = good-stay s h
    at (Some row) is = let k = kept-served key s.waiters s.semaphores row is h.waiters.all h.permits in
        good-finish (record s { semaphores = take_all key (served key row.available s.waiters) s.semaphores }) (map (answered_by (λ w. answer.Ok)) (served key row.available s.waiters))
        (ended-fits (λ w. answer.Ok) (λ w p. fits_ok) (served key row.available s.waiters) (served-fits key row.available s.waiters h.waiters.all))
        (with-permits s (take_all key (served key row.available s.waiters) s.semaphores) k.0 k.1 h)

good-serve_all : (c : Change) (keys : List Object) → GoodChange c → GoodChange (record { state = (for_each serve keys c.state).state; ended = c.ended ++ (for_each serve keys c.state).ended })
good-serve_all c keys g = good-then c (for_each serve keys c.state) g (good-each serve good-serve keys c.state g.state)

pub good-supersede : (call : Invocation) (s : GroupState) → invocation.Fits call → Good s → GoodChange (supersede call s)
good-supersede call s f h = let c = end_all (is_older call) (λ w. answer.WaitCancelled call.number) s in
    good-serve_all c (map (λ e. (e.waiter.name, e.waiter.kind)) c.ended)
    (good-end_all (is_older call) (λ w. answer.WaitCancelled call.number) s (λ w p. fits_cancelled call.number (call_number call f)) h)

pub good-times : (calls : List Invocation) (s : GroupState) → Good s → GoodChange (serve_left (for_each time_out calls s))
good-times calls s h = let c = for_each time_out calls s in
    good-serve_all c (left_by c.ended c.state)
    (good-each time_out (λ call t k. good-end_all (λ w. same_call call w.call) (λ w. answer.TimedOut) t (λ w p. fits_timed_out) k) calls s h)

-- ---- locks that are handed over

good-hand_to : (i : ℕ) (n : List ℕ) (ws : List Waiter) (s : GroupState) → index.Fits i → Handed s.locks n → AllByRecursion WaiterFits ws → Good s → GoodChange (hand_to i n (first ws) s)
good-hand_to i n [] s f there k h = good-stay s h
good-hand_to i n (w ∷ ws) s f there k h = good-finish (record s { locks = put name_cmp s.locks n (held_once (record { session = w.session; thread = w.call.thread }) i) }) (record { waiter = w; answer = answer.Fence i } ∷ [])
    (record { waiter = k.0; answer = fits_fence i f }, tt)
    (with-locks s (put name_cmp s.locks n (held_once (record { session = w.session; thread = w.call.thread }) i))
    (kept-handed i s.locks n (record { session = w.session; thread = w.call.thread }) f there k.0.session (call_thread w.call k.0.call) h.locks) h)

pub good-hand_over : (i : ℕ) (n : List ℕ) (s : GroupState) → index.Fits i → Handed s.locks n → Good s → GoodChange (hand_over i n s)
good-hand_over i n s f there h = good-hand_to i n (filter (waits_on kind.Lock n) s.waiters) s f there (each-filter WaiterFits (waits_on kind.Lock n) s.waiters h.waiters.all) h

still-handed : (i : ℕ) (n m : List ℕ) (o : Option Waiter) (s : GroupState) → Handed s.locks m → Handed (hand_to i n o s).state.locks m
still-handed i n m None s there = there
still-handed i n m (Some w) s there = (there.0, found-put name_cmp name_key nat_list_cmp_total s.locks n m (held_once (record { session = w.session; thread = w.call.thread }) i) there.1)

good-hand_all : (i : ℕ) (ns : List (List ℕ)) (s : GroupState) → index.Fits i → AllByRecursion (Handed s.locks) ns → Good s → GoodChange (for_each (hand_over i) ns s)
good-hand_all i [] s f all h = good-stay s h
good-hand_all i (n ∷ ns) s f all h = let one = good-hand_over i n s f all.0 h in
    good-then (hand_over i n s) (for_each (hand_over i) ns (hand_over i n s).state) one
    (good-hand_all i ns (hand_over i n s).state f (each-weaker (Handed s.locks) (Handed (hand_over i n s).state.locks) (λ m there. still-handed i n m (first (filter (waits_on kind.Lock n) s.waiters)) s there) ns all.1) one.state)

-- ---- sessions that end

good-forget : (sessions : List ℕ) (s : GroupState) → Good s → Good (forget sessions s)
good-forget sessions s h = let rows = filter (λ e. not (is_among sessions e.0)) s.sessions in
    with-calls (record s { sessions = rows }) s.waiters (filter (λ e. not (is_among sessions e.0.0)) s.memory) h.waiters (each-filter MemoryFits (λ e. not (is_among sessions e.0.0)) s.memory h.memory)
    (with-sessions s rows (kept-sessions sessions s.sessions h.sessions) h)

good-end_sessions : (sessions : List ℕ) (s : GroupState) → Good s → GoodChange (end_sessions sessions s)
good-end_sessions sessions s h = good-end_all (λ w. is_among sessions w.session) (λ w. answer.SessionExpired w.session) (forget sessions s) (λ w p. fits_expired w.session p.session) (good-forget sessions s h)

pub good-close : (i : ℕ) (sessions : List ℕ) (s : GroupState) → index.Fits i → Good s → GoodChange (close i sessions s)
good-close i sessions s f h =
    let c = end_sessions sessions s in
    let ended = good-end_sessions sessions s h in
    let t = free_locks sessions c.state in
    let freed : Good t = with-locks c.state (freed_all sessions c.state.locks) (kept-freed sessions c.state.locks ended.state.locks) ended.state in
    let d = for_each (hand_over i) (held_among sessions s.locks) t in
    let handed : GoodChange d = good-hand_all i (held_among sessions s.locks) t f (handed-among sessions s.locks h.locks) freed in
    let u = free_permits sessions d.state in
    let back : Good u = with-permits d.state (all_back sessions d.state.semaphores) (kept-back sessions d.state.semaphores handed.state.permits) (grew-back sessions d.state.semaphores) handed.state in
    let keys = concerned sessions c.ended s in
    good-then (record { state = d.state; ended = c.ended ++ d.ended }) (for_each serve keys u) (good-then c d ended handed) (good-each serve good-serve keys u back)

pub good-destroy_group : (group : GroupId) (s : GroupState) → group_id.Fits group → Good s → GoodChange (destroy_group group s)
good-destroy_group group s f h = good-end_all (λ w. true) (λ w. answer.GroupDestroyed group) (record s { destroyed_group = if s.destroyed_group.0 == 0 then group else s.destroyed_group })
    (λ w p. fits_group_destroyed group f)
    (with-group s (if s.destroyed_group.0 == 0 then group else s.destroyed_group) (either group_id.Fits (s.destroyed_group.0 == 0) group s.destroyed_group f h.destroyed_group) h)

-- ---- objects that are destroyed

-- the waiters that pass the test end
pub ended-all : (test : Waiter → Bool) (a : Waiter → Answer) (ws : List Waiter) (ended : List Ended) → ((c : Invocation) → list_any (λ e. same_call e.waiter.call c) (ending test a ws) ≡ true → list_any (λ e. same_call e.waiter.call c) ended ≡ true)
    → AllByRecursion (λ (w : Waiter). test w ≡ true → list_any (λ e. same_call e.waiter.call w.call) ended ≡ true) ws
ended-all test a [] ended sub = tt
ended-all test a (w ∷ ws) ended sub = (λ t. sub w.call (here t), ended-all test a ws ended (λ c h. sub c (later c h)))
  where
    here : test w ≡ true → list_any (λ e. same_call e.waiter.call w.call) (ending test a (w ∷ ws)) ≡ true
    here t = rw (t, same_call_itself w.call)

    later : (c : Invocation) → list_any (λ e. same_call e.waiter.call c) (ending test a ws) ≡ true → list_any (λ e. same_call e.waiter.call c) (ending test a (w ∷ ws)) ≡ true
    later c h = either (λ (vs : List Waiter). list_any (λ e. same_call e.waiter.call c) (map (answered_by a) vs) ≡ true) (test w) (w ∷ filter test ws) (filter test ws) (or-right (same_call w.call c) _ h) h

-- those that still wait don't
pub still-fails : (test : Waiter → Bool) (ended : List Ended) (ws : List Waiter) → AllByRecursion (λ (w : Waiter). test w ≡ true → list_any (λ e. same_call e.waiter.call w.call) ended ≡ true) ws → AllByRecursion (λ (w : Waiter). test w ≡ false) (still_waiting ended ws)
still-fails test ended [] h = tt
still-fails test ended (w ∷ ws) h = let rest = still-fails test ended ws h.1 in
    cases (AllByRecursion (λ (w : Waiter). test w ≡ false)) (not (list_any (λ e. same_call e.waiter.call w.call) ended)) (w ∷ still_waiting ended ws) (still_waiting ended ws) (λ k. (fails (test w) refl k h.0, rest)) (λ k. rest)
  where
    fails : (b : Bool) → test w ≡ b → not (list_any (λ e. same_call e.waiter.call w.call) ended) ≡ true → (test w ≡ true → list_any (λ e. same_call e.waiter.call w.call) ended ≡ true) → test w ≡ false
    fails false e k p = e
    fails true e k p = absurd (no_true (sym k ∙ ap not (p e)))

waits-there : (which : Kind) (n : List ℕ) (w : Waiter) → w.name ≡ n → w.kind ≡ which → waits_on which n w ≡ true
waits-there which n w e f = and_from (kind_number which == kind_number w.kind) (bytes_eq n w.name) (subst (λ (k : Kind). (kind_number which == kind_number k) ≡ true) (sym f) (number_itself (kind_number which))) ((bytes_eq-Decides n w.name).1 (sym e))

-- who waits for another semaphore has it still
other-stands : (which : Kind) (n : List ℕ) (rows : List (Object × SemaphoreRow)) (w : Waiter) → HasSemaphore rows w → waits_on which n w ≡ false → HasSemaphore (without object_cmp rows (n, which)) w
other-stands which n rows w there away sem = ap is_some (find-without_other object_cmp object_key rows (n, which) (w.name, w.kind) (is_at_apart object_cmp object_key (w.name, w.kind) (n, which)
    (λ e. no_true (sym (waits-there which n w (ap (λ (k : Object). k.0) e) (ap (λ (k : Object). k.1) e)) ∙ away)))) ∙ there sem

good-gone : (n : List ℕ) (which : Kind) (s : GroupState) → spelled.name.Fits n → has_room object_cmp most s.gone (n, which) ≡ true → Good s → Good (add_gone (n, which) s)
good-gone n which s f room h = with-gone s (put object_cmp s.gone (n, which) tt) (kept-put object_cmp object_key object_total GoneFits s.gone (n, which) tt room (record { name = f; kind = kind_fits which }) h.gone) h

-- a semaphore goes with its waiters
good-sem_gone : (n : List ℕ) (which : Kind) (s : GroupState) → spelled.name.Fits n → has_room object_cmp most s.gone (n, which) ≡ true → Good s
    → GoodChange (end_all (waits_on which n) (λ w. answer.ObjectDestroyed) (add_gone (n, which) (record s { semaphores = sem_destroyed (n, which) s.semaphores })))
good-sem_gone n which s f room h =
    let ended = ending (waits_on which n) (λ w. answer.ObjectDestroyed) s.waiters in
    let waiting = still_waiting ended s.waiters in
    let first = good-end_all (waits_on which n) (λ w. answer.ObjectDestroyed) s (λ w p. fits_object_destroyed) h in
    let w = first.state.waiters in
    let fails = still-fails (waits_on which n) ended s.waiters (ended-all (waits_on which n) (λ w. answer.ObjectDestroyed) s.waiters ended (λ c h. h)) in
    let stands = each-weaker (λ (w : Waiter). HasSemaphore s.semaphores.rows w × (waits_on which n w ≡ false)) (HasSemaphore (without object_cmp s.semaphores.rows (n, which))) (λ w p. other-stands which n s.semaphores.rows w p.0 p.1) waiting
    (each-both (HasSemaphore s.semaphores.rows) (λ (w : Waiter). waits_on which n w ≡ false) waiting w.stand fails) in
    let t = finish ended s in
    let fewer : Good (record t.state { semaphores = sem_destroyed (n, which) s.semaphores }) = with-fewer t.state (sem_destroyed (n, which) s.semaphores) (kept-sem_gone (n, which) s.semaphores h.permits) (record { all = w.all; few = w.few; differ = w.differ; stand = stands }) first.state in
    record { state = good-gone n which (record t.state { semaphores = sem_destroyed (n, which) s.semaphores }) f room fewer; ended = first.ended }

pub good-destroy : (n : List ℕ) (which : Kind) (s : GroupState) → spelled.name.Fits n → has_room object_cmp most s.gone (n, which) ≡ true → Good s
    → GoodChange (end_all (waits_on which n) (λ w. answer.ObjectDestroyed) (add_gone (n, which) (drop_rows n which s)))
good-destroy n kind.Long s f room h = good-end_all (waits_on kind.Long n) (λ w. answer.ObjectDestroyed) _ (λ w p. fits_object_destroyed)
    (good-gone n kind.Long (drop_rows n kind.Long s) f room (with-longs s (without name_cmp s.longs n) (kept-without name_cmp name_key nat_list_cmp_total LongFits s.longs n h.longs) h))
good-destroy n kind.Ref s f room h = good-end_all (waits_on kind.Ref n) (λ w. answer.ObjectDestroyed) _ (λ w p. fits_object_destroyed)
    (good-gone n kind.Ref (drop_rows n kind.Ref s) f room (with-refs s (without name_cmp s.refs n) (kept-without name_cmp name_key nat_list_cmp_total RefFits s.refs n h.refs) h))
good-destroy n kind.Lock s f room h = good-end_all (waits_on kind.Lock n) (λ w. answer.ObjectDestroyed) _ (λ w p. fits_object_destroyed)
    (good-gone n kind.Lock (drop_rows n kind.Lock s) f room (with-locks s (without name_cmp s.locks n) (kept-without name_cmp name_key nat_list_cmp_total LockFits s.locks n h.locks) h))
good-destroy n kind.Sem s f room h = good-sem_gone n kind.Sem s f room h
good-destroy n kind.Jsem s f room h = good-sem_gone n kind.Jsem s f room h
good-destroy n kind.Latch s f room h = good-end_all (waits_on kind.Latch n) (λ w. answer.ObjectDestroyed) _ (λ w p. fits_object_destroyed)
    (good-gone n kind.Latch (drop_rows n kind.Latch s) f room (with-latches s (without name_cmp s.latches n) (kept-latch_gone s.latches n h.latches) h))
good-destroy n kind.Map s f room h = good-end_all (waits_on kind.Map n) (λ w. answer.ObjectDestroyed) _ (λ w p. fits_object_destroyed)
    (good-gone n kind.Map (drop_rows n kind.Map s) f room (with-maps s (map_destroyed n s.maps) (kept-filter pair_cmp pair_key pair_total PairFits (λ e. not (bytes_eq n e.0.0)) s.maps h.maps) h))
