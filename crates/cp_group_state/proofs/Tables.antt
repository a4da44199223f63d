-- Lock rows are held or free, no two waiters are of one call, no client has two sessions.
use Rattle.std.proofs.Common.{◌≡◌, ℕ, ◌+◌, ◌-◌, ◌<◌, Bool, true, false, not, List, [], ◌∷◌, Some, refl, arith, if◌then◌else◌}
use Rattle.std.specs.Prelude.{◌==◌, nat_lt}
use Rattle.std.proofs.lemmas.Bool.Decides.{nat_tests}
use Rattle.std.proofs.lemmas.List.Elements.{All-nil, All-cons, All-head, All-tail}
use Rattle.std.proofs.lemmas.Map.Views.{All-values-insert_entry}
use Rattle.std.specs.Map.{values_of}
use Rattle.std.specs.BTreeMap.{is_at}
use Rattle.std.proofs.lemmas.Bool.{not-true}
use Rattle.cp_op_values.specs.declared.kind.Kind.{Kind}
use Rattle.cp_op_values.specs.declared.kind.Kind.TheVariants as kind
use Rattle.cp_base.specs.declared.identifier.Invocation.{Invocation}
use Rattle.cp_base.proofs.Tests.{first_true}
use Rattle.cp_ops.specs.declared.op.Op.{Op}
use Rattle.cp_ops.specs.declared.entry.Entry.{Entry}
use Rattle.cp_ops.specs.declared.entry.Entry.TheVariants as entry
use Rattle.cp_group_state.specs.declared.rows.Holder.{Holder}
use Rattle.cp_group_state.specs.Rows.{find, put, without, has_room, most, name_cmp}
use Rattle.cp_group_state.specs.Sessions.{unchanged_since}
use Rattle.cp_group_state.specs.Locks.{LockRow, Acquired, Release, free_lock, held_once, or_free, lock_at, is_free, is_held_by, is_held_among, most_holds, acquired, released_by, freed, freed_all}
use Rattle.cp_group_state.specs.Latches.{latch_step}
use Rattle.cp_group_state.specs.GroupState.{GroupState, empty}
use Rattle.cp_group_state.specs.Changes.{Change}
use Rattle.cp_group_state.specs.Apply.{Applied, apply, apply_call, is_elsewhere, supersede}
use Rattle.cp_group_state.specs.Protected.{session_in}
use Rattle.cp_group_state.specs.Destroying.{drop_rows}
use Rattle.cp_group_state.specs.Invariants.{Always, IsHeldOrFree, LocksWell}
use Rattle.cp_group_state.proofs.Walk.{cases, either, Closed, walk_supersede, walk_outcome, walk_on_latch, walk_close, walk_time_out, keep_session}
use Rattle.cp_group_state.proofs.Ordered.{always}

free-well : IsHeldOrFree free_lock
free-well h = refl

find-well : (rows : List (List ℕ × LockRow)) (name : List ℕ) → LocksWell rows → IsHeldOrFree (lock_at rows name)
find-well [] name h = free-well
find-well (e ∷ es) name h = by (is_at (name_cmp name) e.0) (find-well es name (All-tail IsHeldOrFree e.1 (values_of es) h)) where
  by : (c : Bool) → IsHeldOrFree (lock_at es name) → IsHeldOrFree (or_free (if c then Some e.1 else find name_cmp es name))
  by true rest = All-head IsHeldOrFree e.1 (values_of es) h
  by false rest = rest

put-well : (rows : List (List ℕ × LockRow)) (name : List ℕ) (row : LockRow) → IsHeldOrFree row → LocksWell rows → LocksWell (put name_cmp rows name row)
put-well rows name row r h = All-values-insert_entry name_cmp name row IsHeldOrFree rows h r

without-well : (rows : List (List ℕ × LockRow)) (name : List ℕ) → LocksWell rows → LocksWell (without name_cmp rows name)
without-well [] name h = h
without-well (e ∷ es) name h = either LocksWell (is_at (name_cmp name) e.0) _ _ (All-tail IsHeldOrFree e.1 (values_of es) h)
    (All-cons IsHeldOrFree e.1 (values_of (without name_cmp es name)) (All-head IsHeldOrFree e.1 (values_of es) h) (without-well es name (All-tail IsHeldOrFree e.1 (values_of es) h)))

freed-well : (sessions : List ℕ) (rows : List (List ℕ × LockRow)) → LocksWell rows → LocksWell (freed_all sessions rows)
freed-well sessions [] h = h
freed-well sessions (e ∷ es) h = All-cons IsHeldOrFree (freed sessions e.1) (values_of (freed_all sessions es))
    (either IsHeldOrFree (is_held_among sessions e.1) _ _ free-well (All-head IsHeldOrFree e.1 (values_of es) h)) (freed-well sessions es (All-tail IsHeldOrFree e.1 (values_of es) h))

positive-well : (row : LockRow) → 0 < row.holds → IsHeldOrFree row
positive-well row l h = absurd (no l h) where
  no : 0 < row.holds → (row.holds == 0) ≡ true → ⊥
  no l h = grind (arith, nat_tests)

more-than-one : (n : ℕ) → (n == 0) ≡ false → (n == 1) ≡ false → 0 < n - 1
more-than-one n a b = grind (arith, nat_tests)

acquired-well : (i : ℕ) (rows : List (List ℕ × LockRow)) (name : List ℕ) (who : Holder) (limit : ℕ) → LocksWell rows → LocksWell (acquired rows i name who limit).rows
acquired-well i rows name who limit h = let row = lock_at rows name in
    either (λ (r : Acquired). LocksWell r.rows) (is_free row) _ _
    (either (λ (r : Acquired). LocksWell r.rows) (has_room name_cmp most rows name) _ _ (put-well rows name (held_once who i) (positive-well (held_once who i) (omega arith)) h) h)
    (either (λ (r : Acquired). LocksWell r.rows) (is_held_by who row) _ _
    (either (λ (r : Acquired). LocksWell r.rows) (nat_lt row.holds (most_holds limit)) _ _ (put-well rows name (record row { holds = row.holds + 1 }) (positive-well (record row { holds = row.holds + 1 }) (omega arith)) h) h) h)

released-well : (rows : List (List ℕ × LockRow)) (name : List ℕ) (who : Holder) → LocksWell rows → LocksWell (released_by rows name who).rows
released-well rows name who h = let row = lock_at rows name in
    cases (λ (r : Release). LocksWell r.rows) (is_held_by who row) _ _
    (λ e. cases (λ (r : Release). LocksWell r.rows) (row.holds == 1) _ _ (λ x. put-well rows name free_lock free-well h)
    (λ x. put-well rows name (record row { holds = row.holds - 1 }) (positive-well (record row { holds = row.holds - 1 }) (more-than-one row.holds (not-true (is_free row) (first_true (not (is_free row)) _ e)) x)) h))
    (λ e. h)

drop-well : (name : List ℕ) (which : Kind) (s : GroupState) → LocksWell s.locks → LocksWell (drop_rows name which s).locks
drop-well name kind.Long s h = h
drop-well name kind.Ref s h = h
drop-well name kind.Map s h = h
drop-well name kind.Lock s h = without-well s.locks name h
drop-well name kind.Sem s h = h
drop-well name kind.Jsem s h = h
drop-well name kind.Latch s h = h

abbrev pub KeepsLocks : GroupState → Change → Type 0
KeepsLocks s c = LocksWell s.locks → LocksWell c.state.locks

locks_well : (i : ℕ) → Closed i KeepsLocks
locks_well i = record {
  stays = λ s h. h;
  joins = λ s c d f g h. g (f h);
  ends = λ s ended all h. h;
  handed = λ s c name w g h. g (put-well s.locks name (held_once (record { session = w.session; thread = w.call.thread }) i) (positive-well (held_once (record { session = w.session; thread = w.call.thread }) i) (omega arith)) h);
  freed = λ s c sessions g h. g (freed-well sessions s.locks h);
  serves = λ s c key row is g. g;
  permits = λ s c key o g. g;
  backs = λ s c sessions g. g;
  closes = λ s sessions h. h;
  acquires = λ s c name who limit g h. g (acquired-well i s.locks name who limit h);
  releases = λ s c name who g h. g (released-well s.locks name who h);
  longs = λ s c name o g. g;
  refs = λ s c name o g. g;
  maps = λ s c name o g. g;
  opens = λ s c client fresh g. g;
  beats = λ s c number row is g. g;
  drops = λ s c name which g h. g (drop-well name which s h);
}

locks-call : (i : ℕ) (call : Invocation) (o : Op) (s : GroupState) → LocksWell s.locks → LocksWell (apply_call i call o s).state.locks
locks-call i call o s h = either (λ (r : Applied). LocksWell r.state.locks) (s.destroyed_group.0 == 0) _ _
    (let first : LocksWell (supersede call s).state.locks = walk_supersede i KeepsLocks (locks_well i) call s h in
    keep_session (λ t. LocksWell t.locks) (λ t ws m g. g) i call o (session_in o) (supersede call s).state first
    (walk_outcome i KeepsLocks KeepsLocks (locks_well i) (λ s c g. g) call o (supersede call s).state
    (λ e name l is. walk_on_latch i KeepsLocks (locks_well i) call name l (latch_step (supersede call s).state.latches name call l).outcome (record (supersede call s).state { latches = (latch_step (supersede call s).state.latches name call l).after })) first)) h

locks-apply : (i : ℕ) (e : Entry) (s : GroupState) → LocksWell s.locks → LocksWell (apply i e s).state.locks
locks-apply i entry.Empty s h = h
locks-apply i (entry.Call call o) s h = either (λ (r : Applied). LocksWell r.state.locks) (is_elsewhere o) _ _ h (locks-call i call o s h)
locks-apply i (entry.SessionsExpired pairs) s h = walk_close i KeepsLocks (locks_well i) (unchanged_since s.sessions pairs) s h
locks-apply i (entry.WaitsExpired calls) s h = walk_time_out i KeepsLocks (locks_well i) calls s h
locks-apply i (entry.Members call plan members) s h = h
locks-apply i (entry.Destroy group) s h = h
locks-apply i (entry.Destroyed group) s h = h
locks-apply i (entry.Moved group at members) s h = h
locks-apply i (entry.Left member) s h = h

pub always-held-or-free : (es : List Entry) → Always (λ s. LocksWell s.locks) es
always-held-or-free es = always (λ s. LocksWell s.locks) locks-apply 1 es empty (All-nil IsHeldOrFree)
