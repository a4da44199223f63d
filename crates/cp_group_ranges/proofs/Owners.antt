-- Permits and memory rows stay with open sessions.
use Rattle.std.proofs.Common.{◌≡◌, ℕ, ◌+◌, ◌-◌, Bool, true, false, not, ◌&&◌, List, [], ◌∷◌, map, Some, None, Option, refl, ap, sym, ◌∙◌, subst, is_some, if◌then◌else◌}
use Rattle.std.specs.Prelude.{◌==◌, nat_lt, length, ℤ, pos, neg_ℤ, int_lt, ◌+ℤ◌, ◌-ℤ◌, bytes_eq}
use Rattle.std.specs.List.{filter, list_any, AllByRecursion}
use Rattle.std.specs.Ordering.{nat_cmp}
use Rattle.std.proofs.lemmas.Cmp.{nat_cmp_total}
use Rattle.std.proofs.lemmas.Bool.{not-true}
use Rattle.cp_base.specs.declared.identifier.Invocation.{Invocation}
use Rattle.cp_base.proofs.Tests.{same_number, no_true}
use Rattle.cp_op_values.specs.declared.kind.Kind.{Kind}
use Rattle.cp_op_values.specs.declared.kind.Kind.TheVariants as kind
use Rattle.cp_op_values.specs.declared.wish.Wish.{Wish}
use Rattle.cp_op_values.specs.declared.wish.Wish.TheVariants as wish
use Rattle.cp_object_ops.specs.declared.lock_op.LockOp.{LockOp}
use Rattle.cp_object_ops.specs.declared.lock_op.LockOp.TheVariants as lock
use Rattle.cp_object_ops.specs.declared.sem_op.SemOp.{SemOp}
use Rattle.cp_object_ops.specs.declared.sem_op.SemOp.TheVariants as sem
use Rattle.cp_object_ops.specs.declared.latch_op.LatchOp.{LatchOp}
use Rattle.cp_object_ops.specs.declared.latch_op.LatchOp.TheVariants as latch
use Rattle.cp_answers.specs.declared.answer.Answer.{Answer}
use Rattle.cp_answers.specs.declared.answer.Answer.TheVariants as answer
use Rattle.cp_ops.specs.declared.session_op.SessionOp.{SessionOp}
use Rattle.cp_ops.specs.declared.session_op.SessionOp.TheVariants as session
use Rattle.cp_ops.specs.declared.op.Op.{Op}
use Rattle.cp_ops.specs.declared.op.Op.TheVariants as op
use Rattle.cp_ops.specs.declared.entry.Entry.{Entry}
use Rattle.cp_ops.specs.declared.entry.Entry.TheVariants as entry
use Rattle.cp_group_state.specs.declared.rows.Waiter.{Waiter}
use Rattle.cp_group_state.specs.declared.rows.MemoryRow.{MemoryRow}
use Rattle.cp_group_state.specs.declared.rows.SessionRow.{SessionRow}
use Rattle.cp_group_state.specs.declared.rows.SemaphoreRow.{SemaphoreRow}
use Rattle.cp_group_state.specs.Rows.{Object, find, put, has_room, most, object_cmp, holding_cmp, holder_cmp, kind_number}
use Rattle.cp_group_state.specs.Waiters.{Ended, waits_on, first, same_call, answered_by, ending, still_waiting, stands}
use Rattle.cp_group_state.specs.Memory.{has_memory, note_at, note, note_all}
use Rattle.cp_group_state.specs.Sessions.{is_of, is_open_for, session_of, is_among, unchanged_since, beaten}
use Rattle.cp_group_state.specs.declared.outcome.Taken.{Taken}
use Rattle.cp_group_state.specs.declared.outcome.Taken.TheVariants.{Fence, Limit, Busy}
use Rattle.cp_group_state.specs.declared.outcome.Released.{Released}
use Rattle.cp_group_state.specs.declared.outcome.Released.TheVariants.{Freed, Kept, NotOwner}
use Rattle.cp_group_state.specs.Locks.{acquired, released_by, held_among}
use Rattle.cp_group_state.specs.declared.outcome.SemOutcome.{SemOutcome}
use Rattle.cp_group_state.specs.Semaphores.{Semaphores, SemStep, is_held, held, set_held, take, at_least_none, raise_total, release_held, sem_step, sem_step_on, served, take_on, take_all}
use Rattle.cp_group_state.specs.declared.outcome.SemOutcome.TheVariants as semaphore
use Rattle.cp_group_state.specs.declared.outcome.LatchOutcome.{LatchOutcome}
use Rattle.cp_group_state.specs.Latches.{latch_step}
use Rattle.cp_group_state.specs.declared.outcome.LatchOutcome.TheVariants as countdown
use Rattle.cp_group_state.specs.GroupState.{GroupState, empty}
use Rattle.cp_group_state.specs.Changes.{Change, for_each, finish, end_all}
use Rattle.cp_group_state.specs.Serving.{serve_from, serve, left_by, serve_left, hand_to, hand_over}
use Rattle.cp_group_state.specs.Closing.{free_locks, free_permits, concerned, end_sessions, close}
use Rattle.cp_group_state.specs.Destroying.{add_gone, drop_rows, destroy_rule, names_gone, object_of}
use Rattle.cp_group_state.specs.declared.outcome.Reply.{Reply}
use Rattle.cp_group_state.specs.declared.outcome.Reply.TheVariants.{Answered, Waits}
use Rattle.cp_group_state.specs.Outcomes.{Outcome, wait}
use Rattle.cp_group_state.specs.LockRules.{on_taken, on_released, lock_rule}
use Rattle.cp_group_state.specs.SemaphoreRules.{on_sem, sem_wait, is_behind, sem_rule}
use Rattle.cp_group_state.specs.LatchRules.{on_latch}
use Rattle.cp_group_state.specs.SessionRules.{opened, beat, session_rule}
use Rattle.cp_group_state.specs.Protected.{session_of_sem, session_in}
use Rattle.cp_group_state.specs.Apply.{Applied, supersede, is_older, time_out, rule, outcome, remembered, settle, join, perform, by_memory, by_session, is_elsewhere, apply_call, apply}
use Rattle.cp_group_state.proofs.Keyed.{number_key, holder_key, same_kind, find-filter_kept}
use Rattle.cp_group_state.proofs.Walk.{cases, either}
use Rattle.cp_group_state.proofs.Told.{IsOwnWait, memory_of, own-outcome}
use Rattle.cp_group_state.proofs.Ordered.{holding_key, holding_total}
use Rattle.cp_group_ranges.specs.Owners.{IsOpen, IsOwned}
use Rattle.cp_group_ranges.proofs.Listed.{each-append, each-filter, each-weaker, each-both, each-put, each-without, each-find, found-put}
use Rattle.cp_group_ranges.proofs.Calls.{holder_total}
use Rattle.cp_group_ranges.proofs.Walks.{ended-all, still-fails}

abbrev Holdings : Type 0
Holdings = List ((ℕ × List ℕ) × ℕ)

abbrev Memories : Type 0
Memories = List ((ℕ × ℕ) × MemoryRow)

-- holdings are of open sessions, but for those of sessions that end
abbrev HoldingOwned : List ℕ → List (ℕ × SessionRow) → (ℕ × List ℕ) × ℕ → Type 0
HoldingOwned but rows e = is_among but e.0.0 ≡ false → IsOpen rows e.0.0

abbrev MemoryOwned : List (ℕ × SessionRow) → (ℕ × ℕ) × MemoryRow → Type 0
MemoryOwned rows e = IsOpen rows e.0.0

abbrev WaiterOwned : List (ℕ × SessionRow) → Waiter → Type 0
WaiterOwned rows w = has_memory w.kind ≡ true → IsOpen rows w.session

record Owned (but : List ℕ) (rows : List (ℕ × SessionRow)) (h : Holdings) (m : Memories) (ws : List Waiter) : Type 0 where
  holdings : AllByRecursion (HoldingOwned but rows) h
  memory : AllByRecursion (MemoryOwned rows) m
  waiters : AllByRecursion (WaiterOwned rows) ws

abbrev Of : List ℕ → GroupState → Type 0
Of but s = Owned but s.sessions s.semaphores.holdings s.memory s.waiters

-- a change, after which sessions that were open are so
record OwnedChange (but : List ℕ) (s : GroupState) (c : Change) : Type 0 where
  state : Of but c.state
  open_still : (n : ℕ) → IsOpen s.sessions n → IsOpen c.state.sessions n

-- ---- waiters that end

own-note_at : (rows : List (ℕ × SessionRow)) (m : Memories) (e : Ended) (o : Option MemoryRow) → find holder_cmp m (e.waiter.session, e.waiter.call.thread.0) ≡ o → AllByRecursion (MemoryOwned rows) m → AllByRecursion (MemoryOwned rows) (note_at m e o)
own-note_at rows m e None is h = h
own-note_at rows m e (Some row) is h = either (AllByRecursion (MemoryOwned rows)) (row.number == e.waiter.call.number) _ _
    (each-put holder_cmp holder_key holder_total (MemoryOwned rows) m (e.waiter.session, e.waiter.call.thread.0) (record { number = row.number; answer = Some e.answer })
    (each-find holder_cmp holder_key holder_total (MemoryOwned rows) m (e.waiter.session, e.waiter.call.thread.0) row h is) h) h

own-noted : (rows : List (ℕ × SessionRow)) (m : Memories) (ended : List Ended) → AllByRecursion (MemoryOwned rows) m → AllByRecursion (MemoryOwned rows) (note_all m ended)
own-noted rows m [] h = h
own-noted rows m (e ∷ es) h = own-noted rows (note m e) es (either (AllByRecursion (MemoryOwned rows)) (has_memory e.waiter.kind) _ _ (own-note_at rows m e (find holder_cmp m (e.waiter.session, e.waiter.call.thread.0)) refl h) h)

own-finish : (but : List ℕ) (s : GroupState) (ended : List Ended) → Of but s → Of but (finish ended s).state
own-finish but s ended h = record {
  holdings = h.holdings;
  memory = own-noted s.sessions s.memory ended h.memory;
  waiters = each-filter (WaiterOwned s.sessions) (λ w. not (list_any (λ e. same_call e.waiter.call w.call) ended)) s.waiters h.waiters;
}

own-end_all : (but : List ℕ) (test : Waiter → Bool) (a : Waiter → Answer) (s : GroupState) → Of but s → Of but (end_all test a s).state
own-end_all but test a s h = own-finish but s (ending test a s.waiters) h

-- ---- permits

module _ (but : List ℕ) (rows : List (ℕ × SessionRow)) where
  own-set : (h : Holdings) (session : ℕ) (name : List ℕ) (n : ℕ) → IsOpen rows session → AllByRecursion (HoldingOwned but rows) h → AllByRecursion (HoldingOwned but rows) (set_held h session name n)
  own-set h session name n there all = either (AllByRecursion (HoldingOwned but rows)) (n == 0) _ _ (each-without holding_cmp holding_key holding_total (HoldingOwned but rows) h (session, name) all)
      (each-put holding_cmp holding_key holding_total (HoldingOwned but rows) h (session, name) n (λ e. there) all)

  own-take : (key : Object) (row : SemaphoreRow) (session n : ℕ) (s : Semaphores) → (is_held key.1 ≡ true → IsOpen rows session) → AllByRecursion (HoldingOwned but rows) s.holdings → AllByRecursion (HoldingOwned but rows) (take key row session n s).holdings
  own-take key row session n s there all = cases (λ (t : Semaphores). AllByRecursion (HoldingOwned but rows) t.holdings) (is_held key.1) _ _ (λ e. own-set s.holdings session key.0 (held s.holdings session key.0 + n) (there e) all) (λ e. all)

  abbrev OpenNamed : Option ℕ → Type 0
  OpenNamed None = Unit {0}
  OpenNamed (Some n) = IsOpen rows n

  own-step : (key : Object) (o : SemOp) (s : Semaphores) → (is_held key.1 ≡ true → OpenNamed (session_of_sem o)) → AllByRecursion (HoldingOwned but rows) s.holdings → AllByRecursion (HoldingOwned but rows) (sem_step key o s).after.holdings
  own-step key o s there all = on (find object_cmp s.rows key) o there
    where
      raise : (row : SemaphoreRow) (n : ℕ) → AllByRecursion (HoldingOwned but rows) (raise_total key row n s).after.holdings
      raise row n = either (λ (r : SemStep). AllByRecursion (HoldingOwned but rows) r.after.holdings) (int_lt (pos 2147483647) (row.total +ℤ pos n)) _ _ all all

      release : (row : SemaphoreRow) (session n : ℕ) → IsOpen rows session → AllByRecursion (HoldingOwned but rows) (release_held key row session n s).after.holdings
      release row session n there = either (λ (r : SemStep). AllByRecursion (HoldingOwned but rows) r.after.holdings) (nat_lt (held s.holdings session key.0) n) _ _ all (own-set s.holdings session key.0 (held s.holdings session key.0 - n) there all)

      on : (r : Option SemaphoreRow) (l : SemOp) → (is_held key.1 ≡ true → OpenNamed (session_of_sem l)) → AllByRecursion (HoldingOwned but rows) (sem_step_on key l r s).after.holdings
      on None sem.Available there = all
      on None (sem.Init n) there = either (λ (r : SemStep). AllByRecursion (HoldingOwned but rows) r.after.holdings) (has_room object_cmp most s.rows key) _ _ all all
      on None (sem.Acquire session n x) there = all
      on None (sem.Release session n) there = all
      on None (sem.Drain session) there = all
      on None (sem.Increase session n) there = all
      on None (sem.Reduce session n) there = all
      on (Some row) sem.Available there = all
      on (Some row) (sem.Init n) there = all
      on (Some row) (sem.Acquire session n x) there = either (λ (r : SemStep). AllByRecursion (HoldingOwned but rows) r.after.holdings) (int_lt row.available (pos n)) _ _ all (own-take key row session n s there all)
      on (Some row) (sem.Release session n) there = cases (λ (r : SemStep). AllByRecursion (HoldingOwned but rows) r.after.holdings) (is_held key.1) _ _ (λ e. release row session n (there e)) (λ e. raise row n)
      on (Some row) (sem.Drain session) there = own-take key row session (at_least_none row.available) s there all
      on (Some row) (sem.Increase session n) there = raise row n
      on (Some row) (sem.Reduce session n) there = either (λ (r : SemStep). AllByRecursion (HoldingOwned but rows) r.after.holdings) (int_lt (row.available -ℤ pos n) (neg_ℤ (pos 2147483648))) _ _ all all

  held-memory : (k : Kind) → is_held k ≡ true → has_memory k ≡ true
  held-memory kind.Long e = e
  held-memory kind.Ref e = e
  held-memory kind.Lock e = refl
  held-memory kind.Sem e = refl
  held-memory kind.Jsem e = e
  held-memory kind.Latch e = e
  held-memory kind.Map e = e

  left-of : (a b : Bool) → (a && b) ≡ true → a ≡ true
  left-of true b e = refl
  left-of false b e = e

  waiter-open : (key : Object) (w : Waiter) → waits_on key.1 key.0 w ≡ true → WaiterOwned rows w → is_held key.1 ≡ true → IsOpen rows w.session
  waiter-open key w waits there e = there (subst (λ (k : Kind). has_memory k ≡ true) (same_kind key.1 w.kind (same_number (kind_number key.1) (kind_number w.kind) (left-of (kind_number key.1 == kind_number w.kind) (bytes_eq key.0 w.name) waits))) (held-memory key.1 e))

  own-served : (key : Object) (ws : List Waiter) (available : ℤ) (s : Semaphores) → AllByRecursion (WaiterOwned rows) ws → AllByRecursion (HoldingOwned but rows) s.holdings → AllByRecursion (HoldingOwned but rows) (take_all key (served key available ws) s).holdings
  own-served key [] available s h all = all
  own-served key (w ∷ ws) available s h all = let rest = own-served key ws in
      cases (λ (vs : List Waiter). AllByRecursion (HoldingOwned but rows) (take_all key vs s).holdings) (waits_on key.1 key.0 w) _ _
      (λ waits. either (λ (vs : List Waiter). AllByRecursion (HoldingOwned but rows) (take_all key vs s).holdings) (int_lt available (pos w.permits)) [] (w ∷ served key (available -ℤ pos w.permits) ws) all
      (rest (available -ℤ pos w.permits) (take_on key (find object_cmp s.rows key) w s) h.1 (one waits (find object_cmp s.rows key))))
      (λ waits. rest available s h.1 all)
    where
      one : waits_on key.1 key.0 w ≡ true → (o : Option SemaphoreRow) → AllByRecursion (HoldingOwned but rows) (take_on key o w s).holdings
      one waits None = all
      one waits (Some row) = own-take key row w.session w.permits s (waiter-open key w waits h.0) all

own-serve : (but : List ℕ) (key : Object) (s : GroupState) → Of but s → OwnedChange but s (serve key s)
own-serve but key s h = at (find object_cmp s.semaphores.rows key)
  where
    at : (o : Option SemaphoreRow) → OwnedChange but s (serve_from key o s)
    at None = record { state = h; open_still = λ n there. there }
    at (Some row) = record {
      state = own-finish but (record s { semaphores = take_all key (served key row.available s.waiters) s.semaphores }) (map (answered_by (λ w. answer.Ok)) (served key row.available s.waiters))
          (record { holdings = own-served but s.sessions key s.waiters row.available s.semaphores h.waiters h.holdings; memory = h.memory; waiters = h.waiters });
      open_still = λ n there. there;
    }

own-hand_over : (but : List ℕ) (i : ℕ) (n : List ℕ) (s : GroupState) → Of but s → OwnedChange but s (hand_over i n s)
own-hand_over but i n s h = at (filter (waits_on kind.Lock n) s.waiters)
  where
    at : (ws : List Waiter) → OwnedChange but s (hand_to i n (first ws) s)
    at [] = record { state = h; open_still = λ m there. there }
    at (w ∷ ws) = record { state = own-finish but s (record { waiter = w; answer = answer.Fence i } ∷ []) h; open_still = λ m there. there }

own-each : {X : Type 0} (but : List ℕ) (f : X → GroupState → Change) → ((x : X) (s : GroupState) → Of but s → OwnedChange but s (f x s)) → (xs : List X) (s : GroupState) → Of but s → OwnedChange but s (for_each f xs s)
own-each but f k [] s h = record { state = h; open_still = λ n there. there }
own-each but f k (x ∷ xs) s h = let one = k x s h in let rest = own-each but f k xs (f x s).state one.state in record { state = rest.state; open_still = λ n there. rest.open_still n (one.open_still n there) }

own-supersede : (call : Invocation) (s : GroupState) → Of [] s → Of [] (supersede call s).state
own-supersede call s h = let c = end_all (is_older call) (λ w. answer.WaitCancelled call.number) s in
    (own-each [] serve (own-serve []) (map (λ e. (e.waiter.name, e.waiter.kind)) c.ended) c.state (own-end_all [] (is_older call) (λ w. answer.WaitCancelled call.number) s h)).state

own-times : (calls : List Invocation) (s : GroupState) → Of [] s → Of [] (serve_left (for_each time_out calls s)).state
own-times calls s h = let c = for_each time_out calls s in
    let timed = own-each [] time_out (λ call t k. record { state = own-end_all [] (λ w. same_call call w.call) (λ w. answer.TimedOut) t k; open_still = λ n there. there }) calls s h in
    (own-each [] serve (own-serve []) (left_by c.ended c.state) c.state timed.state).state

-- ---- sessions that end

open-kept : (sessions : List ℕ) (rows : List (ℕ × SessionRow)) (n : ℕ) → is_among sessions n ≡ false → IsOpen rows n → IsOpen (filter (λ e. not (is_among sessions e.0)) rows) n
open-kept sessions rows n e there = ap is_some (find-filter_kept nat_cmp number_key (λ k. not (is_among sessions k)) rows n (ap not e)) ∙ there

-- what stays of the holdings
rest-owned : (sessions : List ℕ) (rows : List (ℕ × SessionRow)) (h : Holdings) → AllByRecursion (HoldingOwned sessions rows) h → AllByRecursion (HoldingOwned [] rows) (filter (λ e. not (is_among sessions e.0.0)) h)
rest-owned sessions rows [] all = tt
rest-owned sessions rows (e ∷ es) all = let rest = rest-owned sessions rows es all.1 in
    cases (AllByRecursion (HoldingOwned [] rows)) (not (is_among sessions e.0.0)) (e ∷ filter (λ e. not (is_among sessions e.0.0)) es) (filter (λ e. not (is_among sessions e.0.0)) es)
    (λ stays. ((λ x. all.0 (not-true (is_among sessions e.0.0) stays)), rest)) (λ stays. rest)

rest-memory : (sessions : List ℕ) (rows : List (ℕ × SessionRow)) (m : Memories) → AllByRecursion (MemoryOwned rows) m → AllByRecursion (MemoryOwned (filter (λ e. not (is_among sessions e.0)) rows)) (filter (λ e. not (is_among sessions e.0.0)) m)
rest-memory sessions rows [] all = tt
rest-memory sessions rows (e ∷ es) all = let rest = rest-memory sessions rows es all.1 in
    cases (AllByRecursion (MemoryOwned (filter (λ e. not (is_among sessions e.0)) rows))) (not (is_among sessions e.0.0)) (e ∷ filter (λ e. not (is_among sessions e.0.0)) es) (filter (λ e. not (is_among sessions e.0.0)) es)
    (λ stays. (open-kept sessions rows e.0.0 (not-true (is_among sessions e.0.0) stays) all.0, rest)) (λ stays. rest)

-- the sessions end with their waiters and their memory, and their permits are still to go back
own-end_sessions : (sessions : List ℕ) (s : GroupState) → Of [] s → Of sessions (end_sessions sessions s).state
own-end_sessions sessions s h =
    let rows = filter (λ e. not (is_among sessions e.0)) s.sessions in
    let memory = filter (λ e. not (is_among sessions e.0.0)) s.memory in
    let ended = ending (λ w. is_among sessions w.session) (λ w. answer.SessionExpired w.session) s.waiters in
    let waiting = still_waiting ended s.waiters in
    let fails = still-fails (λ w. is_among sessions w.session) ended s.waiters (ended-all (λ w. is_among sessions w.session) (λ w. answer.SessionExpired w.session) s.waiters ended (λ c x. x)) in
    record {
      holdings = each-weaker (HoldingOwned [] s.sessions) (HoldingOwned sessions rows) (λ e p away. open-kept sessions s.sessions e.0.0 away (p refl)) s.semaphores.holdings h.holdings;
      memory = own-noted rows memory ended (rest-memory sessions s.sessions s.memory h.memory);
      waiters = each-weaker (λ (w : Waiter). WaiterOwned s.sessions w × (is_among sessions w.session ≡ false)) (WaiterOwned rows) (λ w p m. open-kept sessions s.sessions w.session p.1 (p.0 m)) waiting
          (each-both (WaiterOwned s.sessions) (λ (w : Waiter). is_among sessions w.session ≡ false) waiting (each-filter (WaiterOwned s.sessions) (λ w. not (list_any (λ e. same_call e.waiter.call w.call) ended)) s.waiters h.waiters) fails);
    }

own-close : (i : ℕ) (sessions : List ℕ) (s : GroupState) → Of [] s → Of [] (close i sessions s).state
own-close i sessions s h =
    let c = end_sessions sessions s in
    let t = free_locks sessions c.state in
    let d = for_each (hand_over i) (held_among sessions s.locks) t in
    let handed = own-each sessions (hand_over i) (own-hand_over sessions i) (held_among sessions s.locks) t (own-end_sessions sessions s h) in
    let u = free_permits sessions d.state in
    let back : Of [] u = record { holdings = rest-owned sessions d.state.sessions d.state.semaphores.holdings handed.state.holdings; memory = handed.state.memory; waiters = handed.state.waiters } in
    (own-each [] serve (own-serve []) (concerned sessions c.ended s) u back).state

-- ---- operations

abbrev NamedOpen : GroupState → Option ℕ → Type 0
NamedOpen s None = Unit {0}
NamedOpen s (Some n) = IsOpen s.sessions n

record OwnedOutcome (so : Option ℕ) (o : Outcome) : Type 0 where
  state : Of [] o.change.state
  named : NamedOpen o.change.state so

own-wait : (so : Option ℕ) (w : Waiter) (x : Wish) (s : GroupState) → Of [] s → NamedOpen s so → OwnedOutcome so (wait w x s)
own-wait so w wish.NoLimit s h n = record { state = h; named = n }
own-wait so w (wish.Within ms) s h n = either (OwnedOutcome so) (ms == 0) _ _ (record { state = h; named = n }) (record { state = h; named = n })

own-taken : (so : Option ℕ) (w : Waiter) (x : Wish) (taken : Option Taken) (s : GroupState) → Of [] s → NamedOpen s so → OwnedOutcome so (on_taken w x taken s)
own-taken so w x (Some (Fence f)) s h n = record { state = h; named = n }
own-taken so w x (Some (Limit l)) s h n = record { state = h; named = n }
own-taken so w x None s h n = record { state = h; named = n }
own-taken so w x (Some Busy) s h n = own-wait so w x s h n

still-named : (s : GroupState) (c : Change) (so : Option ℕ) → OwnedChange [] s c → NamedOpen s so → NamedOpen c.state so
still-named s c None k n = tt
still-named s c (Some x) k n = k.open_still x n

own-released : (i : ℕ) (so : Option ℕ) (name : List ℕ) (r : Released) (s : GroupState) → Of [] s → NamedOpen s so → OwnedOutcome so (on_released i name r s)
own-released i so name Freed s h n = let k = own-hand_over [] i name s h in record { state = k.state; named = still-named s (hand_over i name s) so k n }
own-released i so name Kept s h n = record { state = h; named = n }
own-released i so name NotOwner s h n = record { state = h; named = n }

own-lock : (i : ℕ) (call : Invocation) (name : List ℕ) (o : LockOp) (so : Option ℕ) (s : GroupState) → Of [] s → NamedOpen s so → OwnedOutcome so (lock_rule i call name o s)
own-lock i call name lock.Owner so s h n = record { state = h; named = n }
own-lock i call name (lock.Acquire session limit x) so s h n = own-taken so _ x _ (record s { locks = (acquired s.locks i name (record { session = session; thread = call.thread }) limit).rows }) h n
own-lock i call name (lock.Release session) so s h n = own-released i so name _ (record s { locks = (released_by s.locks name (record { session = session; thread = call.thread })).rows }) h n

own-sem_wait : (call : Invocation) (key : Object) (o : SemOp) (so : Option ℕ) (s : GroupState) → Of [] s → NamedOpen s so → OwnedOutcome so (sem_wait call key o s)
own-sem_wait call key sem.Available so s h n = record { state = h; named = n }
own-sem_wait call key (sem.Init k) so s h n = record { state = h; named = n }
own-sem_wait call key (sem.Acquire session k x) so s h n = own-wait so _ x s h n
own-sem_wait call key (sem.Release session k) so s h n = record { state = h; named = n }
own-sem_wait call key (sem.Drain session) so s h n = record { state = h; named = n }
own-sem_wait call key (sem.Increase session k) so s h n = record { state = h; named = n }
own-sem_wait call key (sem.Reduce session k) so s h n = record { state = h; named = n }

own-on_sem : (key : Object) (waits : Outcome) (r : SemOutcome) (so : Option ℕ) (s : GroupState) → OwnedOutcome so waits → Of [] s → NamedOpen s so → OwnedOutcome so (on_sem key waits r s)
own-on_sem key waits (semaphore.Done a) so s w h n = record { state = h; named = n }
own-on_sem key waits semaphore.Wants so s w h n = w
own-on_sem key waits (semaphore.Served a available) so s w h n = let k = own-serve [] key s h in record { state = k.state; named = still-named s (serve key s) so k n }

own-sem : (call : Invocation) (key : Object) (o : SemOp) (so : Option ℕ) (s : GroupState) → (is_held key.1 ≡ true → OpenNamed [] s.sessions (session_of_sem o)) → Of [] s → NamedOpen s so → OwnedOutcome so (sem_rule call key o s)
own-sem call key o so s there h n = either (OwnedOutcome so) (is_behind key o s) _ _ (own-sem_wait call key o so s h n)
    (own-on_sem key (sem_wait call key o s) (sem_step key o s.semaphores).outcome so (record s { semaphores = (sem_step key o s.semaphores).after }) (own-sem_wait call key o so s h n)
    (record { holdings = own-step [] s.sessions key o s.semaphores there h.holdings; memory = h.memory; waiters = h.waiters }) n)

own-latch : (call : Invocation) (name : List ℕ) (o : LatchOp) (r : LatchOutcome) (s : GroupState) → Of [] s → Of [] (on_latch call name o r s).change.state
own-latch call name o (countdown.Done a) s h = h
own-latch call name latch.Count countdown.Wants s h = h
own-latch call name latch.Round countdown.Wants s h = h
own-latch call name (latch.Set n) countdown.Wants s h = h
own-latch call name (latch.Down round) countdown.Wants s h = h
own-latch call name (latch.Await millis) countdown.Wants s h = (own-wait None _ (wish.Within millis) s h tt).state
own-latch call name o countdown.Opened s h = own-end_all [] (waits_on kind.Latch name) (λ w. answer.Bool true) s h

-- more sessions are open
more-open : (rows next : List (ℕ × SessionRow)) (h : Holdings) (m : Memories) (ws : List Waiter) → ((n : ℕ) → IsOpen rows n → IsOpen next n) → Owned [] rows h m ws → Owned [] next h m ws
more-open rows next h m ws grew o = record {
  holdings = each-weaker (HoldingOwned [] rows) (HoldingOwned [] next) (λ e p x. grew e.0.0 (p x)) h o.holdings;
  memory = each-weaker (MemoryOwned rows) (MemoryOwned next) (λ e p. grew e.0.0 p) m o.memory;
  waiters = each-weaker (WaiterOwned rows) (WaiterOwned next) (λ w p x. grew w.session (p x)) ws o.waiters;
}

put-open : (s : GroupState) (i : ℕ) (row : SessionRow) → Of [] s → Of [] (record s { sessions = put nat_cmp s.sessions i row })
put-open s i row h = more-open s.sessions (put nat_cmp s.sessions i row) s.semaphores.holdings s.memory s.waiters (λ n there. found-put nat_cmp number_key nat_cmp_total s.sessions i n row there) h

own-session : (i : ℕ) (call : Invocation) (o : SessionOp) (s : GroupState) → Of [] s → Of [] (session_rule i call o s).change.state
own-session i call session.Open s h = at (session_of s.sessions call.client)
  where
    at : (o : Option (ℕ × SessionRow)) → Of [] (opened i call o s).change.state
    at (Some e) = h
    at None = either (λ (r : Outcome). Of [] r.change.state) (has_room nat_cmp most s.sessions i) _ _ (put-open s i (record { client = call.client; version = 0 }) h) h
own-session i call (session.Beat number) s h = at (find nat_cmp s.sessions number)
  where
    at : (o : Option SessionRow) → Of [] (beat number o s).change.state
    at None = h
    at (Some row) = put-open s number (beaten row) h
own-session i call (session.Close number) s h = either (λ (r : Outcome). Of [] r.change.state) (is_some (find nat_cmp s.sessions number)) _ _ (own-close i (number ∷ []) s h) h

own-drop : (name : List ℕ) (which : Kind) (s : GroupState) → Of [] s → Of [] (add_gone (name, which) (drop_rows name which s))
own-drop name kind.Long s h = h
own-drop name kind.Ref s h = h
own-drop name kind.Lock s h = h
own-drop name kind.Sem s h = record { holdings = each-filter (HoldingOwned [] s.sessions) (λ e. not (bytes_eq name e.0.1)) s.semaphores.holdings h.holdings; memory = h.memory; waiters = h.waiters }
own-drop name kind.Jsem s h = record { holdings = each-filter (HoldingOwned [] s.sessions) (λ e. true) s.semaphores.holdings h.holdings; memory = h.memory; waiters = h.waiters }
own-drop name kind.Latch s h = h
own-drop name kind.Map s h = h

own-destroy : (which : Kind) (name : List ℕ) (s : GroupState) → Of [] s → Of [] (destroy_rule which name s).change.state
own-destroy which name s h = either (λ (r : Outcome). Of [] r.change.state) (has_room object_cmp most s.gone (name, which)) _ _
    (own-end_all [] (waits_on which name) (λ w. answer.ObjectDestroyed) (add_gone (name, which) (drop_rows name which s)) (own-drop name which s h)) h

open-named : (s : GroupState) (o : Option ℕ) → NamedOpen s o → OpenNamed [] s.sessions o
open-named s None n = tt
open-named s (Some x) n = n

own-rule : (i : ℕ) (call : Invocation) (o : Op) (s : GroupState) → Of [] s → NamedOpen s (session_in o) → OwnedOutcome (session_in o) (rule i call o s)
own-rule i call (op.Long name o) s h n = record { state = h; named = tt }
own-rule i call (op.Ref name o) s h n = record { state = h; named = tt }
own-rule i call (op.Map name o) s h n = record { state = h; named = tt }
own-rule i call (op.Lock name o) s h n = own-lock i call name o (session_in (op.Lock name o)) s h n
own-rule i call (op.Sem name o) s h n = own-sem call (name, kind.Sem) o (session_in (op.Sem name o)) s (λ e. open-named s (session_of_sem o) n) h n
own-rule i call (op.Jsem name o) s h n = own-sem call (name, kind.Jsem) o None s (λ e. absurd (no_true (sym e))) h tt
own-rule i call (op.Latch name o) s h n = record { state = own-latch call name o (latch_step s.latches name call o).outcome (record s { latches = (latch_step s.latches name call o).after }) h; named = tt }
own-rule i call (op.Session o) s h n = record { state = own-session i call o s h; named = tt }
own-rule i call (op.Destroy which name) s h n = record { state = own-destroy which name s h; named = tt }
own-rule i call (op.Group o) s h n = record { state = h; named = tt }
own-rule i call (op.Member o) s h n = record { state = h; named = tt }
own-rule i call (op.Change o) s h n = record { state = h; named = tt }

own-done : (i : ℕ) (call : Invocation) (o : Op) (s : GroupState) → Of [] s → NamedOpen s (session_in o) → OwnedOutcome (session_in o) (outcome i call o s)
own-done i call o s h n = either (OwnedOutcome (session_in o)) (names_gone s (object_of o)) _ _ (record { state = h; named = n }) (own-rule i call o s h n)

-- ---- calls

own-remembered : (so : Option ℕ) (call : Invocation) (a : Option Answer) (s : GroupState) → NamedOpen s so → Of [] s → Of [] (remembered so call a s)
own-remembered None call a s n h = h
own-remembered (Some session) call a s n h = record { holdings = h.holdings; memory = each-put holder_cmp holder_key holder_total (MemoryOwned s.sessions) s.memory (session, call.thread.0) (record { number = call.number; answer = a }) n h.memory; waiters = h.waiters }

-- a call that waits with a memory row does so in the session that it names
own-waiter : (so : Option ℕ) (w : Waiter) (s : GroupState) → NamedOpen s so → so ≡ memory_of w → WaiterOwned s.sessions w
own-waiter so w s n e m = subst (NamedOpen s) (e ∙ ap (λ (b : Bool). if b then Some w.session else None) m) n

own-settle : (so : Option ℕ) (call : Invocation) (r : Reply) (c : Change) → IsOwnWait call so r → NamedOpen c.state so → Of [] c.state → Of [] (settle so call r c).state
own-settle so call (Answered a) c own n h = own-remembered so call (Some a) c.state n h
own-settle so call (Waits w) c own n h = either (λ (r : Applied). Of [] r.state) (stands call c.state.waiters) _ _ h
    (either (λ (r : Applied). Of [] r.state) (nat_lt (length c.state.waiters) most) _ _ (joined so n) (own-remembered so call (Some (answer.TableFull most)) c.state n h))
  where
    waiting : Of [] (join w c.state)
    waiting = record { holdings = h.holdings; memory = h.memory; waiters = each-append (WaiterOwned c.state.sessions) c.state.waiters (w ∷ []) h.waiters (own-waiter so w c.state n own.1, tt) }

    joined : (so : Option ℕ) → NamedOpen c.state so → Of [] (remembered so call None (join w c.state))
    joined None n = waiting
    joined (Some x) n = own-remembered (Some x) call None (join w c.state) n waiting

own-perform : (i : ℕ) (call : Invocation) (o : Op) (s : GroupState) → Of [] s → NamedOpen s (session_in o) → Of [] (perform i call o s).state
own-perform i call o s h n = let out = own-done i call o s h n in own-settle (session_in o) call (outcome i call o s).reply (outcome i call o s).change (own-outcome i call o s) out.named out.state

own-memory : (i : ℕ) (call : Invocation) (o : Op) (row : Option MemoryRow) (s : GroupState) → Of [] s → NamedOpen s (session_in o) → Of [] (by_memory i call o row s).state
own-memory i call o None s h n = own-perform i call o s h n
own-memory i call o (Some row) s h n = either (λ (r : Applied). Of [] r.state) (row.number == call.number) _ _ h (either (λ (r : Applied). Of [] r.state) (nat_lt call.number row.number) _ _ h (own-perform i call o s h n))

found-open : (call : Invocation) (o : Option SessionRow) → is_of call.client o ≡ true → is_some o ≡ true
found-open call None e = e
found-open call (Some row) e = refl

own-by_session : (i : ℕ) (call : Invocation) (o : Op) (so : Option ℕ) (s : GroupState) → session_in o ≡ so → Of [] s → Of [] (by_session i call o so s).state
own-by_session i call o None s is h = own-perform i call o s h (subst (NamedOpen s) (sym is) tt)
own-by_session i call o (Some session) s is h = cases (λ (r : Applied). Of [] r.state) (is_open_for s.sessions session call.client) _ _
    (λ e. own-memory i call o (find holder_cmp s.memory (session, call.thread.0)) s h (subst (NamedOpen s) (sym is) (found-open call (find nat_cmp s.sessions session) e))) (λ e. h)

own-call : (i : ℕ) (call : Invocation) (o : Op) (s : GroupState) → Of [] s → Of [] (apply_call i call o s).state
own-call i call o s h = either (λ (r : Applied). Of [] r.state) (s.destroyed_group.0 == 0) _ _ (own-by_session i call o (session_in o) (supersede call s).state refl (own-supersede call s h)) h

own-entry : (i : ℕ) (e : Entry) (s : GroupState) → Of [] s → Of [] (apply i e s).state
own-entry i entry.Empty s h = h
own-entry i (entry.Call call o) s h = either (λ (r : Applied). Of [] r.state) (is_elsewhere o) _ _ h (own-call i call o s h)
own-entry i (entry.SessionsExpired pairs) s h = own-close i (unchanged_since s.sessions pairs) s h
own-entry i (entry.WaitsExpired calls) s h = own-times calls s h
own-entry i (entry.Members call plan members) s h = h
own-entry i (entry.Destroy group) s h = own-end_all [] (λ w. true) (λ w. answer.GroupDestroyed group) (record s { destroyed_group = if s.destroyed_group.0 == 0 then group else s.destroyed_group }) h
own-entry i (entry.Destroyed group) s h = h
own-entry i (entry.Moved group at members) s h = h
own-entry i (entry.Left member) s h = h

pub own-apply : (i : ℕ) (e : Entry) (s : GroupState) → IsOwned s → IsOwned (apply i e s).state
own-apply i e s h = let r = own-entry i e s (record { holdings = each-weaker (λ (x : (ℕ × List ℕ) × ℕ). IsOpen s.sessions x.0.0) (HoldingOwned [] s.sessions) (λ x p y. p) s.semaphores.holdings h.holdings; memory = h.memory; waiters = h.waiters }) in
    record { holdings = each-weaker (HoldingOwned [] (apply i e s).state.sessions) (λ (x : (ℕ × List ℕ) × ℕ). IsOpen (apply i e s).state.sessions x.0.0) (λ x p. p refl) (apply i e s).state.semaphores.holdings r.holdings; memory = r.memory; waiters = r.waiters }

pub own-empty : IsOwned empty
own-empty = record { holdings = tt; memory = tt; waiters = tt }
