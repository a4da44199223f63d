-- Fences rise, and a lock has one owner under each fence.
use Rattle.std.proofs.Common.{◌≡◌, ℕ, zero, suc, ◌+◌, ◌-◌, ◌<◌, ◌≤◌, ◌⊎◌, inl, inr, Bool, true, false, not, List, [], ◌∷◌, Some, refl, ap, sym, ◌∙◌, subst, arith, if◌then◌else◌}
use Rattle.std.specs.Prelude.{◌==◌, nat_lt}
use Rattle.std.specs.BTreeMap.{is_at}
use Rattle.std.proofs.lemmas.Cmp.{nat_list_cmp_total}
use Rattle.std.specs.List.Sorted.{IsStrictlySortedBy}
use Rattle.std.specs.Map.{keys_of}
use Rattle.std.proofs.lemmas.Bool.{not-true}
use Rattle.cp_op_values.specs.declared.kind.Kind.{Kind}
use Rattle.cp_op_values.specs.declared.kind.Kind.TheVariants as kind
use Rattle.cp_base.specs.declared.identifier.Invocation.{Invocation}
use Rattle.cp_base.proofs.Tests.{first_true, no_true}
use Rattle.cp_ops.specs.declared.op.Op.{Op}
use Rattle.cp_ops.specs.declared.entry.Entry.{Entry}
use Rattle.cp_ops.specs.declared.entry.Entry.TheVariants as entry
use Rattle.cp_group_state.specs.declared.rows.Holder.{Holder}
use Rattle.cp_group_state.specs.Rows.{find, put, without, name_cmp, has_room, most}
use Rattle.cp_group_state.specs.Sessions.{unchanged_since}
use Rattle.cp_group_state.specs.Locks.{LockRow, Acquired, Release, free_lock, held_once, or_free, lock_at, is_free, is_held_by, is_held_among, most_holds, acquired, released_by, freed, freed_all}
use Rattle.cp_group_state.specs.Latches.{latch_step}
use Rattle.cp_group_state.specs.GroupState.{GroupState, empty}
use Rattle.cp_group_state.specs.Apply.{Applied, apply, apply_call, is_elsewhere, supersede, outcome}
use Rattle.cp_group_state.specs.Protected.{session_in}
use Rattle.cp_group_state.specs.Destroying.{add_gone, drop_rows}
use Rattle.cp_group_state.specs.Fences.{IsSameHold, IsHeldThen, IsOneHold, HoldsRise, FencesRise}
use Rattle.cp_group_state.specs.History.{state_after}
use Rattle.cp_group_state.proofs.Keyed.{equal_is, find-put_same, find-put_other, find-without_other, name_key}
use Rattle.cp_group_state.proofs.Rising.{Rising, rising-put, rising-without, find-without_same}
use Rattle.cp_group_state.proofs.Walk.{cases, either, Closed, walk_supersede, walk_outcome, walk_on_latch, walk_close, walk_time_out, keep_session}

-- at this index a lock was freed, or granted under the index, or is held as before
abbrev pub HoldsOn : ℕ → LockRow → LockRow → Type 0
HoldsOn i before after = (is_free after ≡ true) ⊎ ((after.fence ≡ i) ⊎ ((is_free before ≡ false) × IsSameHold before after))

holds-same : (i : ℕ) (row : LockRow) → HoldsOn i row row
holds-same i row = at (is_free row) refl where
  at : (b : Bool) → is_free row ≡ b → HoldsOn i row row
  at true e = inl e
  at false e = inr (inr (e, (refl, refl)))

holds-on : (i : ℕ) (a b c : LockRow) → HoldsOn i a b → HoldsOn i b c → HoldsOn i a c
holds-on i a b c f (inl x) = inl x
holds-on i a b c f (inr (inl x)) = inr (inl x)
holds-on i a b c (inl x) (inr (inr y)) = absurd (no_true (sym x ∙ y.0))
holds-on i a b c (inr (inl x)) (inr (inr y)) = inr (inl (y.1.1 ∙ x))
holds-on i a b c (inr (inr x)) (inr (inr y)) = inr (inr (x.0, (y.1.0 ∙ x.1.0, y.1.1 ∙ x.1.1)))

-- every lock holds on, and the names stay in order
abbrev pub LocksHold : ℕ → List (List ℕ × LockRow) → List (List ℕ × LockRow) → Type 0
LocksHold i rows next = Rising name_cmp rows → Rising name_cmp next × ((name : List ℕ) → HoldsOn i (lock_at rows name) (lock_at next name))

locks-same : (i : ℕ) (rows : List (List ℕ × LockRow)) → LocksHold i rows rows
locks-same i rows h = (h, λ name. holds-same i (lock_at rows name))

locks-on : (i : ℕ) (a b c : List (List ℕ × LockRow)) → LocksHold i a b → LocksHold i b c → LocksHold i a c
locks-on i a b c f g h = let x = f h in let y = g x.0 in (y.0, λ name. holds-on i (lock_at a name) (lock_at b name) (lock_at c name) (x.1 name) (y.1 name))

lock-put_same : (rows : List (List ℕ × LockRow)) (name : List ℕ) (row : LockRow) → lock_at (put name_cmp rows name row) name ≡ row
lock-put_same rows name row = rw (find-put_same name_cmp name_key rows name row)

locks-put : (i : ℕ) (rows : List (List ℕ × LockRow)) (name : List ℕ) (row : LockRow) → HoldsOn i (lock_at rows name) row → LocksHold i rows (put name_cmp rows name row)
locks-put i rows name row on h = (rising-put name_cmp name_key nat_list_cmp_total rows name row h, λ q. at q (is_at (name_cmp q) name) refl)
  where
    at : (q : List ℕ) (b : Bool) → is_at (name_cmp q) name ≡ b → HoldsOn i (lock_at rows q) (lock_at (put name_cmp rows name row) q)
    at q true e = let same : q ≡ name = name_key.same q name (equal_is _ e) in subst (λ y. HoldsOn i (lock_at rows y) (lock_at (put name_cmp rows name row) y)) (sym same) (rw (lock-put_same rows name row) on)
    at q false e = rw (find-put_other name_cmp name_key rows name q row e) (holds-same i (lock_at rows q))

locks-without : (i : ℕ) (rows : List (List ℕ × LockRow)) (name : List ℕ) → LocksHold i rows (without name_cmp rows name)
locks-without i rows name h = (rising-without name_cmp name_key nat_list_cmp_total rows name h, λ q. at q (is_at (name_cmp q) name) refl)
  where
    at : (q : List ℕ) (b : Bool) → is_at (name_cmp q) name ≡ b → HoldsOn i (lock_at rows q) (lock_at (without name_cmp rows name) q)
    at q true e = let same : q ≡ name = name_key.same q name (equal_is _ e) in subst (λ y. HoldsOn i (lock_at rows y) (lock_at (without name_cmp rows name) y)) (sym same) (inl (rw (find-without_same name_cmp name_key nat_list_cmp_total rows name h)))
    at q false e = rw (find-without_other name_cmp name_key rows name q e) (holds-same i (lock_at rows q))

-- freeing what sessions hold
freed-keys : (sessions : List ℕ) (rows : List (List ℕ × LockRow)) → keys_of (freed_all sessions rows) ≡ keys_of rows
freed-keys sessions [] = refl
freed-keys sessions (e ∷ es) = ap (λ (ks : List (List ℕ)). e.0 ∷ ks) (freed-keys sessions es)

freed-at : (i : ℕ) (sessions : List ℕ) (rows : List (List ℕ × LockRow)) (name : List ℕ) → HoldsOn i (lock_at rows name) (lock_at (freed_all sessions rows) name)
freed-at i sessions [] name = inl refl
freed-at i sessions (e ∷ es) name = at (is_at (name_cmp name) e.0) (freed-at i sessions es name)
  where
    at : (b : Bool) → HoldsOn i (lock_at es name) (lock_at (freed_all sessions es) name) → HoldsOn i (or_free (if b then Some e.1 else find name_cmp es name)) (or_free (if b then Some (freed sessions e.1) else find name_cmp (freed_all sessions es) name))
    at true rest = either (λ (r : LockRow). HoldsOn i e.1 r) (is_held_among sessions e.1) _ _ (inl refl) (holds-same i e.1)
    at false rest = rest

pub locks-freed : (i : ℕ) (sessions : List ℕ) (rows : List (List ℕ × LockRow)) → LocksHold i rows (freed_all sessions rows)
locks-freed i sessions rows h = (subst (IsStrictlySortedBy name_cmp) (sym (freed-keys sessions rows)) h, λ name. freed-at i sessions rows name)

pub locks-acquired : (i : ℕ) (rows : List (List ℕ × LockRow)) (name : List ℕ) (who : Holder) (limit : ℕ) → LocksHold i rows (acquired rows i name who limit).rows
locks-acquired i rows name who limit = let row = lock_at rows name in
    cases (λ (r : Acquired). LocksHold i rows r.rows) (is_free row) _ _
    (λ e. either (λ (r : Acquired). LocksHold i rows r.rows) (has_room name_cmp most rows name) _ _ (locks-put i rows name (held_once who i) (inr (inl refl))) (locks-same i rows))
    (λ e. either (λ (r : Acquired). LocksHold i rows r.rows) (is_held_by who row) _ _
    (either (λ (r : Acquired). LocksHold i rows r.rows) (nat_lt row.holds (most_holds limit)) _ _ (locks-put i rows name (record row { holds = row.holds + 1 }) (inr (inr (e, (refl, refl))))) (locks-same i rows))
    (locks-same i rows))

pub locks-released : (i : ℕ) (rows : List (List ℕ × LockRow)) (name : List ℕ) (who : Holder) → LocksHold i rows (released_by rows name who).rows
locks-released i rows name who = let row = lock_at rows name in
    cases (λ (r : Release). LocksHold i rows r.rows) (is_held_by who row) _ _
    (λ e. either (λ (r : Release). LocksHold i rows r.rows) (row.holds == 1) _ _ (locks-put i rows name free_lock (inl refl))
    (locks-put i rows name (record row { holds = row.holds - 1 }) (inr (inr (not-true (is_free row) (first_true (not (is_free row)) _ e), (refl, refl))))))
    (λ e. locks-same i rows)

locks-drop : (i : ℕ) (name : List ℕ) (which : Kind) (s : GroupState) → LocksHold i s.locks (add_gone (name, which) (drop_rows name which s)).locks
locks-drop i name kind.Long s = locks-same i s.locks
locks-drop i name kind.Ref s = locks-same i s.locks
locks-drop i name kind.Map s = locks-same i s.locks
locks-drop i name kind.Lock s = locks-without i s.locks name
locks-drop i name kind.Sem s = locks-same i s.locks
locks-drop i name kind.Jsem s = locks-same i s.locks
locks-drop i name kind.Latch s = locks-same i s.locks

pub locks_closed : (i : ℕ) → Closed i (λ s c. LocksHold i s.locks c.state.locks)
locks_closed i = record {
  stays = λ s. locks-same i s.locks;
  joins = λ s c d f g. locks-on i s.locks c.state.locks d.state.locks f g;
  ends = λ s ended all. locks-same i s.locks;
  handed = λ s c name w g. locks-on i s.locks _ c.state.locks (locks-put i s.locks name (held_once (record { session = w.session; thread = w.call.thread }) i) (inr (inl refl))) g;
  freed = λ s c sessions g. locks-on i s.locks _ c.state.locks (locks-freed i sessions s.locks) g;
  serves = λ s c key row is g. g;
  permits = λ s c key o g. g;
  backs = λ s c sessions g. g;
  closes = λ s sessions. locks-same i s.locks;
  acquires = λ s c name who limit g. locks-on i s.locks _ c.state.locks (locks-acquired i s.locks name who limit) g;
  releases = λ s c name who g. locks-on i s.locks _ c.state.locks (locks-released i s.locks name who) g;
  longs = λ s c name o g. g;
  refs = λ s c name o g. g;
  maps = λ s c name o g. g;
  opens = λ s c client fresh g. g;
  beats = λ s c number row is g. g;
  drops = λ s c name which g. locks-on i s.locks _ c.state.locks (locks-drop i name which s) g;
}

locks-outcome : (i : ℕ) (call : Invocation) (o : Op) (s : GroupState) → LocksHold i s.locks (outcome i call o s).change.state.locks
locks-outcome i call o s = walk_outcome i (λ s c. LocksHold i s.locks c.state.locks) (λ s c. LocksHold i s.locks c.state.locks) (locks_closed i) (λ s c g. g) call o s
    (λ e name l is. walk_on_latch i (λ s c. LocksHold i s.locks c.state.locks) (locks_closed i) call name l (latch_step s.latches name call l).outcome (record s { latches = (latch_step s.latches name call l).after }))

locks-call : (i : ℕ) (call : Invocation) (o : Op) (s : GroupState) → LocksHold i s.locks (apply_call i call o s).state.locks
locks-call i call o s = either (λ (r : Applied). LocksHold i s.locks r.state.locks) (s.destroyed_group.0 == 0) _ _
    (locks-on i s.locks (supersede call s).state.locks _ (walk_supersede i (λ s c. LocksHold i s.locks c.state.locks) (locks_closed i) call s)
    (keep_session (λ t. LocksHold i (supersede call s).state.locks t.locks) (λ t ws m g. g) i call o (session_in o) (supersede call s).state (locks-same i (supersede call s).state.locks) (locks-outcome i call o (supersede call s).state)))
    (locks-same i s.locks)

pub locks-apply : (i : ℕ) (e : Entry) (s : GroupState) → LocksHold i s.locks (apply i e s).state.locks
locks-apply i entry.Empty s = locks-same i s.locks
locks-apply i (entry.Call call o) s = either (λ (r : Applied). LocksHold i s.locks r.state.locks) (is_elsewhere o) _ _ (locks-same i s.locks) (locks-call i call o s)
locks-apply i (entry.SessionsExpired pairs) s = walk_close i (λ s c. LocksHold i s.locks c.state.locks) (locks_closed i) (unchanged_since s.sessions pairs) s
locks-apply i (entry.WaitsExpired calls) s = walk_time_out i (λ s c. LocksHold i s.locks c.state.locks) (locks_closed i) calls s
locks-apply i (entry.Members call plan members) s = locks-same i s.locks
locks-apply i (entry.Destroy group) s = locks-same i s.locks
locks-apply i (entry.Destroyed group) s = locks-same i s.locks
locks-apply i (entry.Moved group at members) s = locks-same i s.locks
locks-apply i (entry.Left member) s = locks-same i s.locks

-- the locks once so many of these entries were applied
abbrev pub locks_from : ℕ → List Entry → GroupState → ℕ → List (List ℕ × LockRow)
locks_from i es s moment = (state_after moment i es s).locks

-- later moments: a lock that is held is held as at first, or under a fence from here on
abbrev pub Follows : ℕ → List (List ℕ × LockRow) → List (List ℕ × LockRow) → Type 0
Follows i rows next = (name : List ℕ) → is_free (lock_at next name) ≡ false → ((is_free (lock_at rows name) ≡ false) × IsSameHold (lock_at rows name) (lock_at next name)) ⊎ (i ≤ (lock_at next name).fence)

follows-same : (i : ℕ) (rows : List (List ℕ × LockRow)) → Follows i rows rows
follows-same i rows name held = inl (held, (refl, refl))

follows-on : (i : ℕ) (a b c : List (List ℕ × LockRow)) → ((name : List ℕ) → HoldsOn i (lock_at a name) (lock_at b name)) → Follows (i + 1) b c → Follows i a c
follows-on i a b c on f name held = by (f name held)
  where
    by : ((is_free (lock_at b name) ≡ false) × IsSameHold (lock_at b name) (lock_at c name)) ⊎ (i + 1 ≤ (lock_at c name).fence) → ((is_free (lock_at a name) ≡ false) × IsSameHold (lock_at a name) (lock_at c name)) ⊎ (i ≤ (lock_at c name).fence)
    by (inr x) = inr (omega arith)
    by (inl x) = at (on name)
      where
        at : HoldsOn i (lock_at a name) (lock_at b name) → ((is_free (lock_at a name) ≡ false) × IsSameHold (lock_at a name) (lock_at c name)) ⊎ (i ≤ (lock_at c name).fence)
        at (inl y) = absurd (no_true (sym y ∙ x.0))
        at (inr (inl y)) = let e : (lock_at c name).fence ≡ i = x.1.1 ∙ y in inr (omega arith)
        at (inr (inr y)) = inl (y.0, (x.1.0 ∙ y.1.0, x.1.1 ∙ y.1.1))

follows : (i : ℕ) (es : List Entry) (s : GroupState) → Rising name_cmp s.locks → (k : ℕ) → Follows i s.locks (state_after k i es s).locks
follows i es s h zero = follows-same i s.locks
follows i [] s h (suc k) = follows-same i s.locks
follows i (x ∷ es) s h (suc k) = let first = locks-apply i x s h in
    follows-on i s.locks (apply i x s).state.locks (state_after k (i + 1) es (apply i x s).state).locks first.1 (follows (i + 1) es (apply i x s).state first.0 k)

-- one hold that lasts from the first moment on
hold-none : (locks : ℕ → List (List ℕ × LockRow)) (name : List ℕ) → IsHeldThen locks name 0 → IsOneHold locks name 0 0
hold-none locks name held moment l m = let e : moment ≡ 0 = omega (arith, m) in subst (λ n. IsHeldThen locks name n × IsSameHold (lock_at (locks 0) name) (lock_at (locks n) name)) (sym e) (held, (refl, refl))

hold-more : (locks : ℕ → List (List ℕ × LockRow)) (name : List ℕ) (k : ℕ) → IsHeldThen locks name 0 → IsSameHold (lock_at (locks 0) name) (lock_at (locks 1) name) → IsOneHold (λ n. locks (suc n)) name 0 k → IsOneHold locks name 0 (suc k)
hold-more locks name k held same rest zero l m = (held, (refl, refl))
hold-more locks name k held same rest (suc n) l m = let r = rest n (omega arith) (omega (arith, m)) in (r.0, (r.1.0 ∙ same.0, r.1.1 ∙ same.1))

hold-later : (locks : ℕ → List (List ℕ × LockRow)) (name : List ℕ) (j k : ℕ) → IsOneHold (λ n. locks (suc n)) name j k → IsOneHold locks name (suc j) (suc k)
hold-later locks name j k rest zero l m = absurd (omega (arith, l))
hold-later locks name j k rest (suc n) l m = rest n (omega (arith, l)) (omega (arith, m))

hold-still : (rows : List (List ℕ × LockRow)) (name : List ℕ) (j k : ℕ) → is_free (lock_at rows name) ≡ false → IsOneHold (λ n. rows) name j k
hold-still rows name j k held moment l m = (held, (refl, refl))

-- with no entries all moments are the first
no-entries : (n i : ℕ) (s : GroupState) → state_after n i [] s ≡ s
no-entries zero i s = refl
no-entries (suc n) i s = refl

hold-empty : (i : ℕ) (s : GroupState) (name : List ℕ) (j k : ℕ) → is_free (lock_at s.locks name) ≡ false → IsOneHold (locks_from i [] s) name j k
hold-empty i s name j k held moment l m = subst (λ (t : GroupState). (is_free (lock_at t.locks name) ≡ false) × IsSameHold (lock_at (state_after j i [] s).locks name) (lock_at t.locks name)) (sym (no-entries moment i s))
    (subst (λ (t : GroupState). (is_free (lock_at s.locks name) ≡ false) × IsSameHold (lock_at t.locks name) (lock_at s.locks name)) (sym (no-entries j i s)) (held, (refl, refl)))

-- a lock that is held at first is held so until then, or it is held then under a fence from here on
lasts : (i : ℕ) (es : List Entry) (s : GroupState) → Rising name_cmp s.locks → (k : ℕ) (name : List ℕ) → is_free (lock_at s.locks name) ≡ false → is_free (lock_at (state_after k i es s).locks name) ≡ false
    → IsOneHold (locks_from i es s) name 0 k ⊎ (i ≤ (lock_at (state_after k i es s).locks name).fence)
lasts i es s h zero name held then_held = inl (hold-none (locks_from i es s) name held)
lasts i [] s h (suc k) name held then_held = inl (hold-empty i s name 0 (suc k) held)
lasts i (x ∷ es) s h (suc k) name held then_held = by (is_free (lock_at (apply i x s).state.locks name)) refl (first.1 name) (λ kept. lasts (i + 1) es (apply i x s).state first.0 k name kept then_held)
  where
    first : Rising name_cmp (apply i x s).state.locks × ((name : List ℕ) → HoldsOn i (lock_at s.locks name) (lock_at (apply i x s).state.locks name))
    first = locks-apply i x s h

    -- it was free in between
    anew : is_free (lock_at (apply i x s).state.locks name) ≡ true → i ≤ (lock_at (state_after k (i + 1) es (apply i x s).state).locks name).fence
    anew free = at (follows (i + 1) es (apply i x s).state first.0 k name then_held) where
      at : ((is_free (lock_at (apply i x s).state.locks name) ≡ false) × IsSameHold (lock_at (apply i x s).state.locks name) (lock_at (state_after k (i + 1) es (apply i x s).state).locks name)) ⊎ (i + 1 ≤ (lock_at (state_after k (i + 1) es (apply i x s).state).locks name).fence)
          → i ≤ (lock_at (state_after k (i + 1) es (apply i x s).state).locks name).fence
      at (inl y) = absurd (no_true (sym free ∙ y.0))
      at (inr y) = omega (arith, y)

    -- it was granted by the first entry
    granted : (lock_at (apply i x s).state.locks name).fence ≡ i → i ≤ (lock_at (state_after k (i + 1) es (apply i x s).state).locks name).fence
    granted e = at (follows (i + 1) es (apply i x s).state first.0 k name then_held) where
      at : ((is_free (lock_at (apply i x s).state.locks name) ≡ false) × IsSameHold (lock_at (apply i x s).state.locks name) (lock_at (state_after k (i + 1) es (apply i x s).state).locks name)) ⊎ (i + 1 ≤ (lock_at (state_after k (i + 1) es (apply i x s).state).locks name).fence)
          → i ≤ (lock_at (state_after k (i + 1) es (apply i x s).state).locks name).fence
      at (inl y) = let f : (lock_at (state_after k (i + 1) es (apply i x s).state).locks name).fence ≡ i = y.1.1 ∙ e in omega (arith, f)
      at (inr y) = omega (arith, y)

    goes : IsSameHold (lock_at s.locks name) (lock_at (apply i x s).state.locks name)
        → IsOneHold (locks_from (i + 1) es (apply i x s).state) name 0 k ⊎ (i + 1 ≤ (lock_at (state_after k (i + 1) es (apply i x s).state).locks name).fence)
        → IsOneHold (locks_from i (x ∷ es) s) name 0 (suc k) ⊎ (i ≤ (lock_at (state_after k (i + 1) es (apply i x s).state).locks name).fence)
    goes same (inl y) = inl (hold-more (locks_from i (x ∷ es) s) name k held same y)
    goes same (inr y) = inr (omega (arith, y))

    by : (b : Bool) → is_free (lock_at (apply i x s).state.locks name) ≡ b → HoldsOn i (lock_at s.locks name) (lock_at (apply i x s).state.locks name)
        → (is_free (lock_at (apply i x s).state.locks name) ≡ false → IsOneHold (locks_from (i + 1) es (apply i x s).state) name 0 k ⊎ (i + 1 ≤ (lock_at (state_after k (i + 1) es (apply i x s).state).locks name).fence))
        → IsOneHold (locks_from i (x ∷ es) s) name 0 (suc k) ⊎ (i ≤ (lock_at (state_after k (i + 1) es (apply i x s).state).locks name).fence)
    by true free on rest = inr (anew free)
    by false kept (inl y) rest = absurd (no_true (sym y ∙ kept))
    by false kept (inr (inl y)) rest = inr (granted y)
    by false kept (inr (inr y)) rest = goes y.1 (rest kept)

-- the fences of the locks that are held lie below the index
abbrev pub FencesBelow : ℕ → List (List ℕ × LockRow) → Type 0
FencesBelow i rows = (name : List ℕ) → is_free (lock_at rows name) ≡ false → (lock_at rows name).fence < i

below-next : (i : ℕ) (a b : List (List ℕ × LockRow)) → FencesBelow i a → ((name : List ℕ) → HoldsOn i (lock_at a name) (lock_at b name)) → FencesBelow (i + 1) b
below-next i a b below on name held = by (on name)
  where
    by : HoldsOn i (lock_at a name) (lock_at b name) → (lock_at b name).fence < i + 1
    by (inl y) = absurd (no_true (sym y ∙ held))
    by (inr (inl y)) = omega (arith, y)
    by (inr (inr y)) = let l = below name y.0 in let e = y.1.1 in omega arith

rise-from : (i : ℕ) (es : List Entry) (s : GroupState) → Rising name_cmp s.locks → FencesBelow i s.locks → HoldsRise (locks_from i es s)
rise-from i es s h below zero k name l held then_held = by (lasts i es s h k name held then_held) (below name held) where
  by : IsOneHold (locks_from i es s) name 0 k ⊎ (i ≤ (lock_at (state_after k i es s).locks name).fence) → (lock_at s.locks name).fence < i
      → IsOneHold (locks_from i es s) name 0 k ⊎ ((lock_at s.locks name).fence < (lock_at (state_after k i es s).locks name).fence)
  by (inl y) f = inl y
  by (inr y) f = inr (omega (arith, y, f))
rise-from i es s h below (suc j) zero name l held then_held = absurd (omega (arith, l))
rise-from i [] s h below (suc j) (suc k) name l held then_held = inl (hold-empty i s name (suc j) (suc k) held)
rise-from i (x ∷ es) s h below (suc j) (suc k) name l held then_held = let first = locks-apply i x s h in
    by (rise-from (i + 1) es (apply i x s).state first.0 (below-next i s.locks (apply i x s).state.locks below first.1) j k name (omega (arith, l)) held then_held)
  where
    by : IsOneHold (locks_from (i + 1) es (apply i x s).state) name j k ⊎ ((lock_at (state_after j (i + 1) es (apply i x s).state).locks name).fence < (lock_at (state_after k (i + 1) es (apply i x s).state).locks name).fence)
        → IsOneHold (locks_from i (x ∷ es) s) name (suc j) (suc k) ⊎ ((lock_at (state_after j (i + 1) es (apply i x s).state).locks name).fence < (lock_at (state_after k (i + 1) es (apply i x s).state).locks name).fence)
    by (inl y) = inl (hold-later (locks_from i (x ∷ es) s) name j k y)
    by (inr y) = inr y

empty-below : FencesBelow 1 empty.locks
empty-below name held = absurd (no_true held)

pub fences-rise : (es : List Entry) → FencesRise es
unfolding IsStrictlySortedBy
fences-rise es = rise-from 1 es empty tt empty-below
