-- The total of a semaphore is what stands available and what is held.
use Rattle.std.proofs.Common.{is_some, ◌<◌, ◌≡◌, ℕ, ◌+◌, ◌-◌, ◌^◌, ◌≤◌, Bool, true, false, not, ◌&&◌, List, [], ◌∷◌, map, sum, Some, None, Option, refl, ap, sym, ◌∙◌, subst, arith, if◌then◌else◌, cond}
use Rattle.std.specs.Prelude.{◌==◌, nat_lt, All, ℤ, pos, neg_ℤ, int_lt, ◌-ℤ◌, ◌+ℤ◌, bytes_eq, unwrap_or}
use Rattle.std.specs.declared.cmp.Ordering.{Ordering}
use Rattle.std.specs.declared.cmp.Ordering.TheVariants.{Less, Equal, Greater}
use Rattle.std.specs.Ordering.{match_ordering, is_eq}
use Rattle.std.specs.BTreeMap.{is_at}
use Rattle.std.specs.List.{filter}
use Rattle.std.specs.List.Sorted.{IsStrictlySortedBy}
use Rattle.std.proofs.lemmas.Bool.Decides.{nat_tests}
use Rattle.std.proofs.lemmas.List.Elements.{All-nil, All-cons, All-head, All-tail}
use Rattle.std.proofs.lemmas.Map.Views.{All-values-insert_entry}
use Rattle.std.specs.Map.{values_of}
use Rattle.std.proofs.lemmas.List.Sums.{sum_by-cons}
use Rattle.std.proofs.Math.IntN.{+ℤ_assoc, +ℤ_comm, +ℤ_idr, -ℤ-+ℤ_cancel, pos-+ℤ-pos}
use Rattle.cp_op_values.specs.declared.kind.Kind.{Kind}
use Rattle.cp_op_values.specs.declared.kind.Kind.TheVariants as kind
use Rattle.cp_base.specs.declared.identifier.Invocation.{Invocation}
use Rattle.cp_base.proofs.Tests.{same_number, not_less, bytes_itself, bytes_same, no_true}
use Rattle.cp_object_ops.specs.declared.sem_op.SemOp.{SemOp}
use Rattle.cp_object_ops.specs.declared.sem_op.SemOp.TheVariants as sem
use Rattle.cp_ops.specs.declared.op.Op.{Op}
use Rattle.cp_ops.specs.declared.entry.Entry.{Entry}
use Rattle.cp_ops.specs.declared.entry.Entry.TheVariants as entry
use Rattle.cp_group_state.specs.Rows.{Object, find, put, without, has_room, most, object_cmp, holding_cmp}
use Rattle.cp_group_state.specs.Waiters.{Waiter}
use Rattle.cp_group_state.specs.Sessions.{is_among, unchanged_since}
use Rattle.cp_group_state.specs.Semaphores.{Semaphores, SemaphoreRow, SemStep, is_held, held, set_held, take, give_back, change_total, at_least_none, raise_total, release_held, sem_step, sem_step_on, served, take_on, take_all, held_together, with_back, all_back, sem_destroyed}
use Rattle.cp_group_state.specs.Latches.{latch_step}
use Rattle.cp_group_state.specs.GroupState.{GroupState, empty}
use Rattle.cp_group_state.specs.Changes.{Change}
use Rattle.cp_group_state.specs.Destroying.{add_gone, drop_rows}
use Rattle.cp_group_state.specs.Protected.{session_in}
use Rattle.cp_group_state.specs.Apply.{Applied, apply, apply_call, is_elsewhere, supersede}
use Rattle.cp_group_state.specs.History.{state_before}
use Rattle.cp_group_state.specs.Invariants.{Always, HoldingsStand, IsBalanced, IsBalancedAt, held_by_all, held_of}
use Rattle.cp_group_state.proofs.Keyed.{equal_is, pair_same, find-put_same, find-put_other, find-without_other, object_key}
use Rattle.cp_group_state.proofs.Rising.{Rising, rising-without, rising-filter, find-without_same, less-none, above-all}
use Rattle.cp_group_state.proofs.Walk.{cases, either, Closed, walk_supersede, walk_outcome, walk_on_latch, walk_close, walk_time_out, keep_session}
use Rattle.cp_group_state.proofs.Ordered.{always, SemsRise, object_total, holding_total, holding_key, take_all-rises, step-rises, keys-map}

abbrev pub Holdings : Type 0
Holdings = List ((ℕ × List ℕ) × ℕ)

-- sums
take-int : (a : ℤ) (n h : ℕ) → (a -ℤ pos n) +ℤ pos (h + n) ≡ a +ℤ pos h
take-int a n h = ap (λ (x : ℤ). (a -ℤ pos n) +ℤ x) (sym (pos-+ℤ-pos h n) ∙ +ℤ_comm (pos h) (pos n)) ∙ sym (+ℤ_assoc (a -ℤ pos n) (pos n) (pos h)) ∙ ap (λ (x : ℤ). x +ℤ pos h) (-ℤ-+ℤ_cancel a (pos n))

back-int : (a : ℤ) (n h : ℕ) → a +ℤ pos (h + n) ≡ (a +ℤ pos n) +ℤ pos h
back-int a n h = ap (λ (x : ℤ). a +ℤ x) (sym (pos-+ℤ-pos h n) ∙ +ℤ_comm (pos h) (pos n)) ∙ sym (+ℤ_assoc a (pos n) (pos h))

change-int : (a d b : ℤ) → (a +ℤ b) +ℤ d ≡ (a +ℤ d) +ℤ b
change-int a d b = +ℤ_assoc a b d ∙ ap (λ (x : ℤ). a +ℤ x) (+ℤ_comm b d) ∙ sym (+ℤ_assoc a d b)

-- what is held of a name, after a change of one holding
at-key : (name : List ℕ) (session : ℕ) (e : (ℕ × List ℕ) × ℕ) → holding_cmp (session, name) e.0 ≡ Equal → bytes_eq name e.0.1 ≡ true
at-key name session e i = subst (λ (q : ℕ × List ℕ). bytes_eq name q.1 ≡ true) (holding_key.same (session, name) e.0 i) (bytes_itself name)

all-put : (name : List ℕ) (session n : ℕ) (h : Holdings) → Rising holding_cmp h → held_by_all name (put holding_cmp h (session, name) n) + held h session name ≡ held_by_all name h + n
unfolding IsStrictlySortedBy
all-put name session n [] r = rw (bytes_itself name) (omega arith)
all-put name session n (e ∷ es) r = by (all-put name session n es r.1) (holding_cmp (session, name) e.0) refl
  where
    by : held_by_all name (put holding_cmp es (session, name) n) + held es session name ≡ held_by_all name es + n → (o : Ordering) → holding_cmp (session, name) e.0 ≡ o
        → held_by_all name (match_ordering o (((session, name), n) ∷ e ∷ es) ((e.0, n) ∷ es) (e ∷ put holding_cmp es (session, name) n)) + unwrap_or (cond (is_eq o) (Some e.1) (find holding_cmp es (session, name))) 0 ≡ held_by_all name (e ∷ es) + n
    by rest Less i = let none : find holding_cmp es (session, name) ≡ None = less-none holding_cmp holding_key holding_total (session, name) es (above-all holding_cmp holding_key holding_total (session, name) e.0 es i r.0) in
        rw (none, bytes_itself name) (omega arith)
    by rest Equal i = rw (at-key name session e i) (omega arith)
    by rest Greater i = omega arith

all-without : (name : List ℕ) (session : ℕ) (h : Holdings) → held_by_all name (without holding_cmp h (session, name)) + held h session name ≡ held_by_all name h
all-without name session [] = refl
all-without name session (e ∷ es) = by (all-without name session es) (holding_cmp (session, name) e.0) refl
  where
    by : held_by_all name (without holding_cmp es (session, name)) + held es session name ≡ held_by_all name es → (o : Ordering) → holding_cmp (session, name) e.0 ≡ o
        → held_by_all name (cond (is_eq o) es (e ∷ without holding_cmp es (session, name))) + unwrap_or (cond (is_eq o) (Some e.1) (find holding_cmp es (session, name))) 0 ≡ held_by_all name (e ∷ es)
    by rest Less i = omega arith
    by rest Equal i = rw (at-key name session e i) (omega arith)
    by rest Greater i = omega arith

all-set : (name : List ℕ) (session n : ℕ) (h : Holdings) → Rising holding_cmp h → held_by_all name (set_held h session name n) + held h session name ≡ held_by_all name h + n
all-set name session n h r = cases (λ (x : Holdings). held_by_all name x + held h session name ≡ held_by_all name h + n) (n == 0) _ _
    (λ e. let z : n ≡ 0 = same_number n 0 e in let a = all-without name session h in omega arith) (λ e. all-put name session n h r)

other-at : (name q : List ℕ) (session : ℕ) (e : (ℕ × List ℕ) × ℕ) → bytes_eq q name ≡ false → holding_cmp (session, name) e.0 ≡ Equal → bytes_eq q e.0.1 ≡ false
other-at name q session e far i = subst (λ (k : ℕ × List ℕ). bytes_eq q k.1 ≡ false) (holding_key.same (session, name) e.0 i) far

other-put : (name q : List ℕ) (session n : ℕ) (h : Holdings) → bytes_eq q name ≡ false → held_by_all q (put holding_cmp h (session, name) n) ≡ held_by_all q h
other-put name q session n [] far = rw far
other-put name q session n (e ∷ es) far = by (other-put name q session n es far) (holding_cmp (session, name) e.0) refl
  where
    by : held_by_all q (put holding_cmp es (session, name) n) ≡ held_by_all q es → (o : Ordering) → holding_cmp (session, name) e.0 ≡ o
        → held_by_all q (match_ordering o (((session, name), n) ∷ e ∷ es) ((e.0, n) ∷ es) (e ∷ put holding_cmp es (session, name) n)) ≡ held_by_all q (e ∷ es)
    by rest Less i = rw far (omega arith)
    by rest Equal i = rw (other-at name q session e far i)
    by rest Greater i = omega arith

other-without : (name q : List ℕ) (session : ℕ) (h : Holdings) → bytes_eq q name ≡ false → held_by_all q (without holding_cmp h (session, name)) ≡ held_by_all q h
other-without name q session [] far = refl
other-without name q session (e ∷ es) far = by (other-without name q session es far) (holding_cmp (session, name) e.0) refl
  where
    by : held_by_all q (without holding_cmp es (session, name)) ≡ held_by_all q es → (o : Ordering) → holding_cmp (session, name) e.0 ≡ o
        → held_by_all q (cond (is_eq o) es (e ∷ without holding_cmp es (session, name))) ≡ held_by_all q (e ∷ es)
    by rest Less i = omega arith
    by rest Equal i = rw (other-at name q session e far i) (omega arith)
    by rest Greater i = omega arith

other-set : (name q : List ℕ) (session n : ℕ) (h : Holdings) → bytes_eq q name ≡ false → held_by_all q (set_held h session name n) ≡ held_by_all q h
other-set name q session n h far = either (λ (x : Holdings). held_by_all q x ≡ held_by_all q h) (n == 0) _ _ (other-without name q session h far) (other-put name q session n h far)

-- one kind is held
held-kind : (k : Kind) → is_held k ≡ true → k ≡ kind.Sem
held-kind kind.Long h = cc
held-kind kind.Ref h = cc
held-kind kind.Lock h = cc
held-kind kind.Sem h = refl
held-kind kind.Jsem h = cc
held-kind kind.Latch h = cc
held-kind kind.Map h = cc

names-apart : (q key : Object) → is_held q.1 ≡ true → is_held key.1 ≡ true → is_at (object_cmp q) key ≡ false → bytes_eq q.0 key.0 ≡ false
names-apart q key a b far = at (bytes_eq q.0 key.0) refl
  where
    at : (c : Bool) → bytes_eq q.0 key.0 ≡ c → bytes_eq q.0 key.0 ≡ false
    at false e = e
    at true e = let same : q ≡ key = pair_same q key (bytes_same q.0 key.0 e) (held-kind q.1 a ∙ sym (held-kind key.1 b)) in
        let itself : is_at (object_cmp key) key ≡ true = ap is_eq (object_key.here key) in
        absurd (no_true (sym (subst (λ (x : Object). is_at (object_cmp x) key ≡ true) (sym same) itself) ∙ far))

of-held : (key : Object) (h : Holdings) → is_held key.1 ≡ true → held_of key h ≡ held_by_all key.0 h
of-held key h e = rw e

of-none : (key : Object) (h : Holdings) → is_held key.1 ≡ false → held_of key h ≡ 0
of-none key h e = rw e

of-other : (q key : Object) (h next : Holdings) → is_held key.1 ≡ true → is_at (object_cmp q) key ≡ false → (bytes_eq q.0 key.0 ≡ false → held_by_all q.0 next ≡ held_by_all q.0 h) → held_of q next ≡ held_of q h
of-other q key h next held_key far f = at (is_held q.1) refl
  where
    at : (c : Bool) → is_held q.1 ≡ c → (if c then held_by_all q.0 next else 0) ≡ (if c then held_by_all q.0 h else 0)
    at true e = f (names-apart q key e held_key far)
    at false e = refl

-- one row changes
balanced-put : (s : Semaphores) (key : Object) (row : SemaphoreRow) (next : Holdings) → IsBalanced s → row.total ≡ row.available +ℤ pos (held_of key next) → ((q : Object) → is_at (object_cmp q) key ≡ false → held_of q next ≡ held_of q s.holdings)
    → IsBalanced (record { rows = put object_cmp s.rows key row; holdings = next })
balanced-put s key row next b here other q = at (is_at (object_cmp q) key) refl
  where
    at : (c : Bool) → is_at (object_cmp q) key ≡ c → IsBalancedAt (find object_cmp (put object_cmp s.rows key row) q) (held_of q next)
    at true e = let same : q ≡ key = object_key.same q key (equal_is _ e) in
        subst (λ (x : Object). IsBalancedAt (find object_cmp (put object_cmp s.rows key row) x) (held_of x next)) (sym same) (rw (find-put_same object_cmp object_key s.rows key row) here)
    at false e = rw (find-put_other object_cmp object_key s.rows key q row e, other q e) (b q)

balance-of : (s : Semaphores) (key : Object) (row : SemaphoreRow) → IsBalanced s → find object_cmp s.rows key ≡ Some row → row.total ≡ row.available +ℤ pos (held_of key s.holdings)
balance-of s key row b is = subst (λ (o : Option SemaphoreRow). IsBalancedAt o (held_of key s.holdings)) is (b key)

change-balanced : (key : Object) (row : SemaphoreRow) (d : ℤ) (s : Semaphores) → find object_cmp s.rows key ≡ Some row → IsBalanced s → IsBalanced (change_total key row d s)
change-balanced key row d s is b = balanced-put s key (record { total = row.total +ℤ d; available = row.available +ℤ d }) s.holdings b
    (ap (λ (x : ℤ). x +ℤ d) (balance-of s key row b is) ∙ change-int row.available d (pos (held_of key s.holdings))) (λ q far. refl)

take-balanced : (key : Object) (row : SemaphoreRow) (session n : ℕ) (s : Semaphores) → find object_cmp s.rows key ≡ Some row → SemsRise s → IsBalanced s → IsBalanced (take key row session n s)
take-balanced key row session n s is r b = cases IsBalanced (is_held key.1) _ _ with_sessions (λ e. change-balanced key row (neg_ℤ (pos n)) s is b)
  where
    with_sessions : is_held key.1 ≡ true → IsBalanced (record { rows = put object_cmp s.rows key (record row { available = row.available -ℤ pos n }); holdings = set_held s.holdings session key.0 (held s.holdings session key.0 + n) })
    with_sessions e = balanced-put s key (record row { available = row.available -ℤ pos n }) (set_held s.holdings session key.0 (held s.holdings session key.0 + n)) b here
        (λ q far. of-other q key s.holdings (set_held s.holdings session key.0 (held s.holdings session key.0 + n)) e far (other-set key.0 q.0 session (held s.holdings session key.0 + n) s.holdings))
      where
        sums : held_by_all key.0 (set_held s.holdings session key.0 (held s.holdings session key.0 + n)) ≡ held_by_all key.0 s.holdings + n
        sums = let a = all-set key.0 session (held s.holdings session key.0 + n) s.holdings r.1 in omega arith

        here : row.total ≡ (row.available -ℤ pos n) +ℤ pos (held_of key (set_held s.holdings session key.0 (held s.holdings session key.0 + n)))
        here = balance-of s key row b is ∙ ap (λ (m : ℕ). row.available +ℤ pos m) (of-held key s.holdings e) ∙ sym (take-int row.available n (held_by_all key.0 s.holdings))
            ∙ ap (λ (m : ℕ). (row.available -ℤ pos n) +ℤ pos m) (sym (of-held key (set_held s.holdings session key.0 (held s.holdings session key.0 + n)) e ∙ sums))

back-balanced : (key : Object) (row : SemaphoreRow) (session n : ℕ) (s : Semaphores) → is_held key.1 ≡ true → find object_cmp s.rows key ≡ Some row → n ≤ held s.holdings session key.0 → SemsRise s → IsBalanced s → IsBalanced (give_back key row session n s)
back-balanced key row session n s e is few r b = balanced-put s key (record row { available = row.available +ℤ pos n }) (set_held s.holdings session key.0 (held s.holdings session key.0 - n)) b here
    (λ q far. of-other q key s.holdings (set_held s.holdings session key.0 (held s.holdings session key.0 - n)) e far (other-set key.0 q.0 session (held s.holdings session key.0 - n) s.holdings))
  where
    sums : held_by_all key.0 s.holdings ≡ held_by_all key.0 (set_held s.holdings session key.0 (held s.holdings session key.0 - n)) + n
    sums = let a = all-set key.0 session (held s.holdings session key.0 - n) s.holdings r.1 in omega arith

    here : row.total ≡ (row.available +ℤ pos n) +ℤ pos (held_of key (set_held s.holdings session key.0 (held s.holdings session key.0 - n)))
    here = balance-of s key row b is ∙ ap (λ (m : ℕ). row.available +ℤ pos m) (of-held key s.holdings e ∙ sums) ∙ back-int row.available n (held_by_all key.0 (set_held s.holdings session key.0 (held s.holdings session key.0 - n)))
        ∙ ap (λ (m : ℕ). (row.available +ℤ pos n) +ℤ pos m) (sym (of-held key (set_held s.holdings session key.0 (held s.holdings session key.0 - n)) e))

pub step-balanced : (key : Object) (o : SemOp) (s : Semaphores) → SemsRise s → IsBalanced s → IsBalanced (sem_step key o s).after
step-balanced key o s r b = on (find object_cmp s.rows key) refl o
  where
    raise : (row : SemaphoreRow) (n : ℕ) → find object_cmp s.rows key ≡ Some row → IsBalanced (raise_total key row n s).after
    raise row n is = either (λ (r : SemStep). IsBalanced r.after) (int_lt (pos (2 ^ 31 - 1)) (row.total +ℤ pos n)) _ _ b (change-balanced key row (pos n) s is b)

    release : (row : SemaphoreRow) (session n : ℕ) → find object_cmp s.rows key ≡ Some row → is_held key.1 ≡ true → IsBalanced (release_held key row session n s).after
    release row session n is e = cases (λ (r : SemStep). IsBalanced r.after) (nat_lt (held s.holdings session key.0) n) _ _ (λ l. b)
        (λ l. back-balanced key row session n s e is (not_less (held s.holdings session key.0) n l) r b)

    made : (n : ℕ) → find object_cmp s.rows key ≡ None → pos n ≡ pos n +ℤ pos (held_of key s.holdings)
    made n is = let none : held_of key s.holdings ≡ 0 = subst (λ (o : Option SemaphoreRow). IsBalancedAt o (held_of key s.holdings)) is (b key) in
        sym (ap (λ (m : ℕ). pos n +ℤ pos m) none ∙ +ℤ_idr (pos n))

    on : (row : Option SemaphoreRow) → find object_cmp s.rows key ≡ row → (o : SemOp) → IsBalanced (sem_step_on key o row s).after
    on None is sem.Available = b
    on None is (sem.Init n) = either (λ (r : SemStep). IsBalanced r.after) (has_room object_cmp most s.rows key) _ _ (balanced-put s key (record { total = pos n; available = pos n }) s.holdings b (made n is) (λ q far. refl)) b
    on None is (sem.Acquire session n wish) = b
    on None is (sem.Release session n) = b
    on None is (sem.Drain session) = b
    on None is (sem.Increase session n) = b
    on None is (sem.Reduce session n) = b
    on (Some row) is sem.Available = b
    on (Some row) is (sem.Init n) = b
    on (Some row) is (sem.Acquire session n wish) = either (λ (r : SemStep). IsBalanced r.after) (int_lt row.available (pos n)) _ _ b (take-balanced key row session n s is r b)
    on (Some row) is (sem.Release session n) = cases (λ (r : SemStep). IsBalanced r.after) (is_held key.1) _ _ (λ e. release row session n is e) (λ e. raise row n is)
    on (Some row) is (sem.Drain session) = take-balanced key row session (at_least_none row.available) s is r b
    on (Some row) is (sem.Increase session n) = raise row n is
    on (Some row) is (sem.Reduce session n) = either (λ (r : SemStep). IsBalanced r.after) (int_lt (row.available -ℤ pos n) (neg_ℤ (pos (2 ^ 31)))) _ _ b (change-balanced key row (neg_ℤ (pos n)) s is b)

pub take_all-balanced : (key : Object) (ws : List Waiter) (s : Semaphores) → SemsRise s → IsBalanced s → IsBalanced (take_all key ws s)
take_all-balanced key [] s r b = b
take_all-balanced key (w ∷ ws) s r b = take_all-balanced key ws (take_on key (find object_cmp s.rows key) w s) (take_all-rises key (w ∷ []) s r) (at (find object_cmp s.rows key) refl)
  where
    at : (o : Option SemaphoreRow) → find object_cmp s.rows key ≡ o → IsBalanced (take_on key o w s)
    at None is = b
    at (Some row) is = take-balanced key row w.session w.permits s is r b

-- all that sessions hold goes back
abbrev pub mapped : (Object × SemaphoreRow → SemaphoreRow) → Object → Option SemaphoreRow → Option SemaphoreRow
mapped f q None = None
mapped f q (Some row) = Some (f (q, row))

find-mapped : (f : Object × SemaphoreRow → SemaphoreRow) (rows : List (Object × SemaphoreRow)) (q : Object) → find object_cmp (map (λ e. (e.0, f e)) rows) q ≡ mapped f q (find object_cmp rows q)
find-mapped f [] q = refl
find-mapped f (e ∷ es) q = by (find-mapped f es q) (is_at (object_cmp q) e.0) refl
  where
    by : find object_cmp (map (λ e. (e.0, f e)) es) q ≡ mapped f q (find object_cmp es q) → (c : Bool) → is_at (object_cmp q) e.0 ≡ c
        → cond c (Some (f e)) (find object_cmp (map (λ e. (e.0, f e)) es) q) ≡ mapped f q (cond c (Some e.1) (find object_cmp es q))
    by rest true i = let same : q ≡ e.0 = object_key.same q e.0 (equal_is _ i) in ap (λ (k : Object). Some (f (k, e.1))) (sym same)
    by rest false i = rest

split : (sessions : List ℕ) (name : List ℕ) (h : Holdings) → held_by_all name h ≡ held_together sessions name h + held_by_all name (filter (λ e. not (is_among sessions e.0.0)) h)
split sessions name [] = refl
split sessions name (e ∷ es) = by (is_among sessions e.0.0) (bytes_eq name e.0.1) refl (split sessions name es)
  where
    by : (a b : Bool) → bytes_eq name e.0.1 ≡ b → held_by_all name es ≡ held_together sessions name es + held_by_all name (filter (λ e. not (is_among sessions e.0.0)) es)
        → (if b then e.1 else 0) + held_by_all name es ≡ sum (map (λ e. e.1) (if (a && b) then e ∷ filter (λ e. is_among sessions e.0.0 && bytes_eq name e.0.1) es else filter (λ e. is_among sessions e.0.0 && bytes_eq name e.0.1) es))
        + held_by_all name (if (not a) then e ∷ filter (λ e. not (is_among sessions e.0.0)) es else filter (λ e. not (is_among sessions e.0.0)) es)
    by true true i rest = let one : sum (map (λ e. e.1) (e ∷ filter (λ e. is_among sessions e.0.0 && bytes_eq name e.0.1) es)) ≡ e.1 + held_together sessions name es = sum_by-cons (λ (n : ℕ). n) e.1 (map (λ e. e.1) (filter (λ e. is_among sessions e.0.0 && bytes_eq name e.0.1) es)) in rw one (omega arith)
    by true false i rest = omega arith
    by false true i rest = rw i (omega arith)
    by false false i rest = rw i (omega arith)

abbrev pub back : List ℕ → Holdings → Object × SemaphoreRow → SemaphoreRow
back sessions h e = if is_held e.0.1 then with_back (held_together sessions e.0.0 h) e.1 else e.1

abbrev pub left : List ℕ → Holdings → Holdings
left sessions h = filter (λ e. not (is_among sessions e.0.0)) h

back-none : (sessions : List ℕ) (name : List ℕ) (h : Holdings) (c : Bool) → (if c then held_by_all name h else 0) ≡ 0 → (if c then held_by_all name (left sessions h) else 0) ≡ 0
back-none sessions name h true e = let x = split sessions name h in omega arith
back-none sessions name h false e = refl

back-some : (sessions : List ℕ) (name : List ℕ) (h : Holdings) (row : SemaphoreRow) (c : Bool) → row.total ≡ row.available +ℤ pos (if c then held_by_all name h else 0)
    → (if c then with_back (held_together sessions name h) row else row).total ≡ (if c then with_back (held_together sessions name h) row else row).available +ℤ pos (if c then held_by_all name (left sessions h) else 0)
back-some sessions name h row true e = let sums : held_by_all name h ≡ held_by_all name (left sessions h) + held_together sessions name h = (let x = split sessions name h in omega arith) in
    e ∙ ap (λ (m : ℕ). row.available +ℤ pos m) sums ∙ back-int row.available (held_together sessions name h) (held_by_all name (left sessions h))
back-some sessions name h row false e = e

all_back-balanced : (sessions : List ℕ) (s : Semaphores) → IsBalanced s → IsBalanced (all_back sessions s)
all_back-balanced sessions s b q = subst (λ (o : Option SemaphoreRow). IsBalancedAt o (held_of q (left sessions s.holdings))) (sym (find-mapped (back sessions s.holdings) s.rows q)) (at (find object_cmp s.rows q) (b q))
  where
    at : (o : Option SemaphoreRow) → IsBalancedAt o (held_of q s.holdings) → IsBalancedAt (mapped (back sessions s.holdings) q o) (held_of q (left sessions s.holdings))
    at None h = back-none sessions q.0 s.holdings (is_held q.1) h
    at (Some row) h = back-some sessions q.0 s.holdings row (is_held q.1) h

-- a semaphore goes
none-left : (name : List ℕ) (h : Holdings) → held_by_all name (filter (λ e. not (bytes_eq name e.0.1)) h) ≡ 0
none-left name [] = refl
none-left name (e ∷ es) = by (bytes_eq name e.0.1) refl (none-left name es)
  where
    by : (c : Bool) → bytes_eq name e.0.1 ≡ c → held_by_all name (filter (λ e. not (bytes_eq name e.0.1)) es) ≡ 0 → held_by_all name (if (not c) then e ∷ filter (λ e. not (bytes_eq name e.0.1)) es else filter (λ e. not (bytes_eq name e.0.1)) es) ≡ 0
    by true i rest = rest
    by false i rest = rw i (omega arith)

others-left : (name q : List ℕ) (h : Holdings) → bytes_eq q name ≡ false → held_by_all q (filter (λ e. not (bytes_eq name e.0.1)) h) ≡ held_by_all q h
others-left name q [] far = refl
others-left name q (e ∷ es) far = by (bytes_eq name e.0.1) refl (others-left name q es far)
  where
    by : (c : Bool) → bytes_eq name e.0.1 ≡ c → held_by_all q (filter (λ e. not (bytes_eq name e.0.1)) es) ≡ held_by_all q es → held_by_all q (if (not c) then e ∷ filter (λ e. not (bytes_eq name e.0.1)) es else filter (λ e. not (bytes_eq name e.0.1)) es) ≡ held_by_all q (e ∷ es)
    by true i rest = let away : bytes_eq q e.0.1 ≡ false = subst (λ (x : List ℕ). bytes_eq q x ≡ false) (bytes_same name e.0.1 i) far in rw away (omega arith)
    by false i rest = omega arith

all-left : (q : List ℕ) (h : Holdings) → held_by_all q (filter (λ e. true) h) ≡ held_by_all q h
all-left q [] = refl
all-left q (e ∷ es) = ap (λ (m : ℕ). (if bytes_eq q e.0.1 then e.1 else 0) + m) (all-left q es)

gone-balanced : (key : Object) (next : Holdings) (s : Semaphores) → Rising object_cmp s.rows → IsBalanced s → held_of key next ≡ 0 → ((q : Object) → is_at (object_cmp q) key ≡ false → held_of q next ≡ held_of q s.holdings) → IsBalanced (record { rows = without object_cmp s.rows key; holdings = next })
gone-balanced key next s r b here other q = at (is_at (object_cmp q) key) refl
  where
    at : (c : Bool) → is_at (object_cmp q) key ≡ c → IsBalancedAt (find object_cmp (without object_cmp s.rows key) q) (held_of q next)
    at true e = let same : q ≡ key = object_key.same q key (equal_is _ e) in
        subst (λ (x : Object). IsBalancedAt (find object_cmp (without object_cmp s.rows key) x) (held_of x next)) (sym same) (rw (find-without_same object_cmp object_key object_total s.rows key r) here)
    at false e = rw (find-without_other object_cmp object_key s.rows key q e, other q e) (b q)

sem-gone : (name : List ℕ) (s : Semaphores) → Rising object_cmp s.rows → IsBalanced s → IsBalanced (sem_destroyed (name, kind.Sem) s)
sem-gone name s r b = gone-balanced (name, kind.Sem) (filter (λ e. not (bytes_eq name e.0.1)) s.holdings) s r b (none-left name s.holdings)
    (λ q far. of-other q (name, kind.Sem) s.holdings (filter (λ e. not (bytes_eq name e.0.1)) s.holdings) refl far (others-left name q.0 s.holdings))

jsem-gone : (name : List ℕ) (s : Semaphores) → Rising object_cmp s.rows → IsBalanced s → IsBalanced (sem_destroyed (name, kind.Jsem) s)
jsem-gone name s r b = gone-balanced (name, kind.Jsem) (filter (λ e. true) s.holdings) s r b refl (λ q far. ap (λ (m : ℕ). if is_held q.1 then m else 0) (all-left q.0 s.holdings))

-- a holding has a permit
abbrev pub Positive : Holdings → Type 0
Positive h = All (λ (n : ℕ). 0 < n) (values_of h)

more-than-none : (n : ℕ) → (n == 0) ≡ false → 0 < n
more-than-none n h = grind (arith, nat_tests)

positive-without : (h : Holdings) (k : ℕ × List ℕ) → Positive h → Positive (without holding_cmp h k)
positive-without [] k p = p
positive-without (e ∷ es) k p = either Positive (is_at (holding_cmp k) e.0) _ _ (All-tail (λ (n : ℕ). 0 < n) e.1 (values_of es) p)
    (All-cons (λ (n : ℕ). 0 < n) e.1 (values_of (without holding_cmp es k)) (All-head (λ (n : ℕ). 0 < n) e.1 (values_of es) p) (positive-without es k (All-tail (λ (n : ℕ). 0 < n) e.1 (values_of es) p)))

positive-filter : (test : (ℕ × List ℕ) × ℕ → Bool) (h : Holdings) → Positive h → Positive (filter test h)
positive-filter test [] p = p
positive-filter test (e ∷ es) p = either Positive (test e) (e ∷ filter test es) (filter test es)
    (All-cons (λ (n : ℕ). 0 < n) e.1 (values_of (filter test es)) (All-head (λ (n : ℕ). 0 < n) e.1 (values_of es) p) (positive-filter test es (All-tail (λ (n : ℕ). 0 < n) e.1 (values_of es) p)))
    (positive-filter test es (All-tail (λ (n : ℕ). 0 < n) e.1 (values_of es) p))

positive-set : (h : Holdings) (session : ℕ) (name : List ℕ) (n : ℕ) → Positive h → Positive (set_held h session name n)
positive-set h session name n p = cases Positive (n == 0) _ _ (λ e. positive-without h (session, name) p)
    (λ e. All-values-insert_entry holding_cmp (session, name) n (λ (n : ℕ). 0 < n) h p (more-than-none n e))

positive-take : (key : Object) (row : SemaphoreRow) (session n : ℕ) (s : Semaphores) → Positive s.holdings → Positive (take key row session n s).holdings
positive-take key row session n s p = either (λ (x : Semaphores). Positive x.holdings) (is_held key.1) _ _ (positive-set s.holdings session key.0 (held s.holdings session key.0 + n) p) p

positive-step : (key : Object) (o : SemOp) (s : Semaphores) → Positive s.holdings → Positive (sem_step key o s).after.holdings
positive-step key o s p = on (find object_cmp s.rows key) o
  where
    raise : (row : SemaphoreRow) (n : ℕ) → Positive (raise_total key row n s).after.holdings
    raise row n = either (λ (r : SemStep). Positive r.after.holdings) (int_lt (pos (2 ^ 31 - 1)) (row.total +ℤ pos n)) _ _ p p

    release : (row : SemaphoreRow) (session n : ℕ) → Positive (release_held key row session n s).after.holdings
    release row session n = either (λ (r : SemStep). Positive r.after.holdings) (nat_lt (held s.holdings session key.0) n) _ _ p (positive-set s.holdings session key.0 (held s.holdings session key.0 - n) p)

    on : (row : Option SemaphoreRow) (o : SemOp) → Positive (sem_step_on key o row s).after.holdings
    on None sem.Available = p
    on None (sem.Init n) = either (λ (r : SemStep). Positive r.after.holdings) (has_room object_cmp most s.rows key) _ _ p p
    on None (sem.Acquire session n wish) = p
    on None (sem.Release session n) = p
    on None (sem.Drain session) = p
    on None (sem.Increase session n) = p
    on None (sem.Reduce session n) = p
    on (Some row) sem.Available = p
    on (Some row) (sem.Init n) = p
    on (Some row) (sem.Acquire session n wish) = either (λ (r : SemStep). Positive r.after.holdings) (int_lt row.available (pos n)) _ _ p (positive-take key row session n s p)
    on (Some row) (sem.Release session n) = either (λ (r : SemStep). Positive r.after.holdings) (is_held key.1) _ _ (release row session n) (raise row n)
    on (Some row) (sem.Drain session) = positive-take key row session (at_least_none row.available) s p
    on (Some row) (sem.Increase session n) = raise row n
    on (Some row) (sem.Reduce session n) = either (λ (r : SemStep). Positive r.after.holdings) (int_lt (row.available -ℤ pos n) (neg_ℤ (pos (2 ^ 31)))) _ _ p p

positive-take_all : (key : Object) (ws : List Waiter) (s : Semaphores) → Positive s.holdings → Positive (take_all key ws s).holdings
positive-take_all key [] s p = p
positive-take_all key (w ∷ ws) s p = positive-take_all key ws (take_on key (find object_cmp s.rows key) w s) (at (find object_cmp s.rows key))
  where
    at : (o : Option SemaphoreRow) → Positive (take_on key o w s).holdings
    at None = p
    at (Some row) = positive-take key row w.session w.permits s p

-- every history
abbrev pub Balances : Semaphores → Type 0
Balances s = SemsRise s × IsBalanced s × Positive s.holdings

abbrev pub KeepsBalance : GroupState → Change → Type 0
KeepsBalance s c = Balances s.semaphores → Balances c.state.semaphores

drop-balanced : (name : List ℕ) (which : Kind) (s : GroupState) → Balances s.semaphores → Balances (add_gone (name, which) (drop_rows name which s)).semaphores
drop-balanced name kind.Long s h = h
drop-balanced name kind.Ref s h = h
drop-balanced name kind.Lock s h = h
drop-balanced name kind.Latch s h = h
drop-balanced name kind.Map s h = h
drop-balanced name kind.Sem s h = ((rising-without object_cmp object_key object_total s.semaphores.rows (name, kind.Sem) h.0.0, rising-filter holding_cmp holding_key holding_total _ s.semaphores.holdings h.0.1), sem-gone name s.semaphores h.0.0 h.1, positive-filter _ s.semaphores.holdings h.2)
drop-balanced name kind.Jsem s h = ((rising-without object_cmp object_key object_total s.semaphores.rows (name, kind.Jsem) h.0.0, rising-filter holding_cmp holding_key holding_total (λ e. true) s.semaphores.holdings h.0.1), jsem-gone name s.semaphores h.0.0 h.1, positive-filter (λ e. true) s.semaphores.holdings h.2)

back-both : (sessions : List ℕ) (s : Semaphores) → Balances s → Balances (all_back sessions s)
back-both sessions s h = ((subst (IsStrictlySortedBy object_cmp) (sym (keys-map _ s.rows)) h.0.0, rising-filter holding_cmp holding_key holding_total _ s.holdings h.0.1), all_back-balanced sessions s h.1, positive-filter _ s.holdings h.2)

balance_closed : (i : ℕ) → Closed i KeepsBalance
balance_closed i = record {
  stays = λ s h. h;
  joins = λ s c d f g h. g (f h);
  ends = λ s ended all h. h;
  handed = λ s c name w g. g;
  freed = λ s c sessions g. g;
  serves = λ s c key row is g h. g (take_all-rises key (served key row.available s.waiters) s.semaphores h.0, take_all-balanced key (served key row.available s.waiters) s.semaphores h.0 h.1, positive-take_all key (served key row.available s.waiters) s.semaphores h.2);
  permits = λ s c key o g h. g (step-rises key o s.semaphores h.0, step-balanced key o s.semaphores h.0 h.1, positive-step key o s.semaphores h.2);
  backs = λ s c sessions g h. g (back-both sessions s.semaphores h);
  closes = λ s sessions h. h;
  acquires = λ s c name who limit g. g;
  releases = λ s c name who g. g;
  longs = λ s c name o g. g;
  refs = λ s c name o g. g;
  maps = λ s c name o g. g;
  opens = λ s c client fresh g. g;
  beats = λ s c number row is g. g;
  drops = λ s c name which g h. g (drop-balanced name which s h);
}

balance-call : (i : ℕ) (call : Invocation) (o : Op) (s : GroupState) → Balances s.semaphores → Balances (apply_call i call o s).state.semaphores
balance-call i call o s h = either (λ (r : Applied). Balances r.state.semaphores) (s.destroyed_group.0 == 0) _ _
    (let before : Balances (supersede call s).state.semaphores = walk_supersede i KeepsBalance (balance_closed i) call s h in
    keep_session (λ t. Balances t.semaphores) (λ t ws m g. g) i call o (session_in o) (supersede call s).state before
    (walk_outcome i KeepsBalance KeepsBalance (balance_closed i) (λ s c g. g) call o (supersede call s).state
    (λ e name l is. walk_on_latch i KeepsBalance (balance_closed i) call name l (latch_step (supersede call s).state.latches name call l).outcome (record (supersede call s).state { latches = (latch_step (supersede call s).state.latches name call l).after })) before)) h

balance-apply : (i : ℕ) (e : Entry) (s : GroupState) → Balances s.semaphores → Balances (apply i e s).state.semaphores
balance-apply i entry.Empty s h = h
balance-apply i (entry.Call call o) s h = either (λ (r : Applied). Balances r.state.semaphores) (is_elsewhere o) _ _ h (balance-call i call o s h)
balance-apply i (entry.SessionsExpired pairs) s h = walk_close i KeepsBalance (balance_closed i) (unchanged_since s.sessions pairs) s h
balance-apply i (entry.WaitsExpired calls) s h = walk_time_out i KeepsBalance (balance_closed i) calls s h
balance-apply i (entry.Members call plan members) s h = h
balance-apply i (entry.Destroy group) s h = h
balance-apply i (entry.Destroyed group) s h = h
balance-apply i (entry.Moved group at members) s h = h
balance-apply i (entry.Left member) s h = h

first-held : (key : Object) (c : Bool) → is_held key.1 ≡ c → held_of key [] ≡ 0
first-held key true e = rw e
first-held key false e = rw e

at-first : Balances empty.semaphores
unfolding IsStrictlySortedBy
at-first = ((tt, tt), λ key. first-held key (is_held key.1) refl, All-nil (λ (n : ℕ). 0 < n))

-- a holding's semaphore is there
holdings-stand : (s : Semaphores) → Balances s → HoldingsStand s
holdings-stand s h session name n is = (positive, at (find object_cmp s.rows (name, kind.Sem)) refl)
  where
    positive : 0 < n
    positive = find-positive s.holdings h.2 is
      where
        find-positive : (h : Holdings) → Positive h → find holding_cmp h (session, name) ≡ Some n → 0 < n
        find-positive [] p is = cc
        find-positive (e ∷ es) p is = by (is_at (holding_cmp (session, name)) e.0) is (λ k. find-positive es (All-tail (λ (n : ℕ). 0 < n) e.1 (values_of es) p) k)
          where
            some_is : (a b : ℕ) → Some a ≡ Some b → a ≡ b
            some_is a b e = cc

            by : (c : Bool) → cond c (Some e.1) (find holding_cmp es (session, name)) ≡ Some n → (find holding_cmp es (session, name) ≡ Some n → 0 < n) → 0 < n
            by true is rest = subst (λ (m : ℕ). 0 < m) (some_is e.1 n is) (All-head (λ (n : ℕ). 0 < n) e.1 (values_of es) p)
            by false is rest = rest is

    at : (o : Option SemaphoreRow) → find object_cmp s.rows (name, kind.Sem) ≡ o → is_some (find object_cmp s.rows (name, kind.Sem)) ≡ true
    at (Some row) e = rw e
    at None e = let none : held_by_all name s.holdings ≡ 0 = subst (λ (o : Option SemaphoreRow). IsBalancedAt o (held_by_all name s.holdings)) e (h.1 (name, kind.Sem)) in
        let sums = all-without name session s.holdings in
        let one : held s.holdings session name ≡ n = ap (λ (o : Option ℕ). unwrap_or o 0) is in
        absurd (omega (arith, positive))

all-states : (Q : Semaphores → Type 0) → ((s : Semaphores) → Balances s → Q s) → (es : List Entry) → (moment : ℕ) → Q (state_before es moment).semaphores
all-states Q f es moment = f (state_before es moment).semaphores (always (λ (s : GroupState). Balances s.semaphores) balance-apply 1 es empty at-first moment)

pub always-balanced : (es : List Entry) → Always (λ s. IsBalanced s.semaphores) es
always-balanced es = all-states IsBalanced (λ s h. h.1) es

pub always-stand : (es : List Entry) → Always (λ s. HoldingsStand s.semaphores) es
always-stand es = all-states HoldingsStand holdings-stand es
