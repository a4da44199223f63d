-- Every list stays in rising order of its keys.
use Rattle.std.proofs.Common.{◌≡◌, ℕ, zero, suc, ◌+◌, ◌-◌, ◌^◌, true, not, ◌&&◌, List, [], ◌∷◌, map, Some, None, Option, refl, ap, sym, subst, if◌then◌else◌}
use Rattle.std.specs.Prelude.{◌==◌, nat_lt, length, ℤ, pos, neg_ℤ, int_lt, ◌-ℤ◌, ◌+ℤ◌, bytes_eq}
use Rattle.std.specs.Ordering.{nat_cmp}
use Rattle.std.specs.List.Sorted.{IsStrictlySortedBy}
use Rattle.std.specs.Map.{keys_of}
use Rattle.std.specs.Cmp.{IsTotalOrder}
use Rattle.std.proofs.lemmas.Cmp.{nat_cmp_total, nat_list_cmp_total, on_total, then_total}
use Rattle.cp_op_values.specs.declared.kind.Kind.{Kind}
use Rattle.cp_op_values.specs.declared.kind.Kind.TheVariants as kind
use Rattle.cp_base.specs.declared.identifier.Invocation.{Invocation}
use Rattle.cp_answers.specs.declared.answer.Answer.{Answer}
use Rattle.cp_answers.specs.declared.answer.Answer.TheVariants as answer
use Rattle.cp_object_ops.specs.declared.sem_op.SemOp.{SemOp}
use Rattle.cp_object_ops.specs.declared.sem_op.SemOp.TheVariants as sem
use Rattle.cp_object_ops.specs.declared.latch_op.LatchOp.{LatchOp}
use Rattle.cp_object_ops.specs.declared.latch_op.LatchOp.TheVariants as latch
use Rattle.cp_ops.specs.declared.op.Op.{Op}
use Rattle.cp_ops.specs.declared.entry.Entry.{Entry}
use Rattle.cp_ops.specs.declared.entry.Entry.TheVariants as entry
use Rattle.cp_group_state.specs.Rows.{find, put, has_room, most, name_cmp, object_cmp, holding_cmp, holder_cmp, kind_number}
use Rattle.cp_group_state.specs.Waiters.{Waiter, Ended, stands, ending}
use Rattle.cp_group_state.specs.Memory.{MemoryRow, note, note_at, note_all, has_memory}
use Rattle.cp_group_state.specs.Sessions.{SessionRow, is_open_for, beaten, unchanged_since}
use Rattle.cp_group_state.specs.Locks.{LockRow, held_once}
use Rattle.cp_group_state.specs.Semaphores.{Semaphores, SemaphoreRow, SemStep, is_held, held, set_held, take, change_total, sem_step, sem_step_on, raise_total, release_held, at_least_none, served, take_on, take_all, all_back}
use Rattle.cp_group_state.specs.Latches.{LatchRow, LatchStep, latch_at, latch_step, next_round, counted_down, is_over, counted_calls, most_counted}
use Rattle.cp_group_state.specs.Atomics.{AtomicStep, set_value, long_at, long_set, long_answer, ref_at, ref_set, ref_answer}
use Rattle.cp_group_state.specs.GroupState.{GroupState, empty}
use Rattle.cp_group_state.specs.Changes.{Change, finish}
use Rattle.cp_group_state.specs.Apply.{Applied, supersede, outcome, remembered, settle, join, perform, by_memory, by_session, apply_call, is_elsewhere, apply}
use Rattle.cp_group_state.specs.Outcomes.{Reply, Answered, Waits}
use Rattle.cp_group_state.specs.Protected.{session_in}
use Rattle.cp_group_state.specs.Destroying.{add_gone, drop_rows}
use Rattle.cp_group_state.specs.Closing.{forget, end_sessions}
use Rattle.cp_group_state.specs.Rows.{pair_cmp}
use Rattle.cp_object_ops.specs.declared.map_op.MapOp.{MapOp}
use Rattle.cp_group_state.specs.Maps.{Pairs, Effect, Stays, Sets, Goes, MapStep, key_of, map_effect, map_answer, with_effect, map_step}
use Rattle.cp_group_state.specs.Invariants.{IsRising, IsOrdered, Always}
use Rattle.cp_group_state.specs.History.{state_after}
use Rattle.cp_group_state.proofs.Keyed.{IsKey, number_key, name_key, object_key, holder_key, pair_key, pair_same, then_equal}
use Rattle.cp_group_state.proofs.Rising.{rising-put, rising-without, rising-filter}
use Rattle.cp_group_state.proofs.Fences.{locks-acquired, locks-released, locks-freed}
use Rattle.cp_group_state.proofs.Walk.{either, Closed, walk_on_latch, walk_supersede, walk_outcome, walk_close, walk_time_out}

pub object_total : IsTotalOrder object_cmp
object_total = then_total (on_total (λ (k : List ℕ × Kind). k.0) nat_list_cmp_total) (on_total (λ (k : List ℕ × Kind). kind_number k.1) nat_cmp_total)

pub holding_total : IsTotalOrder holding_cmp
holding_total = then_total (on_total (λ (k : ℕ × List ℕ). k.0) nat_cmp_total) (on_total (λ (k : ℕ × List ℕ). k.1) nat_list_cmp_total)

holder_total : IsTotalOrder holder_cmp
holder_total = then_total (on_total (λ (k : ℕ × ℕ). k.0) nat_cmp_total) (on_total (λ (k : ℕ × ℕ). k.1) nat_cmp_total)

pair_total : IsTotalOrder pair_cmp
pair_total = then_total (on_total (λ (k : List ℕ × List ℕ). k.0) nat_list_cmp_total) (on_total (λ (k : List ℕ × List ℕ). k.1) nat_list_cmp_total)

pub holding_key : IsKey holding_cmp
holding_key = record {
  here = λ k. rw (number_key.here k.0) (name_key.here k.1);
  same = λ k q e. let both = then_equal (nat_cmp k.0 q.0) (name_cmp k.1 q.1) e in pair_same k q (number_key.same k.0 q.0 both.0) (name_key.same k.1 q.1 both.1);
}

note_all-rising : (rows : List ((ℕ × ℕ) × MemoryRow)) (es : List Ended) → IsRising holder_cmp rows → IsRising holder_cmp (note_all rows es)
note_all-rising rows [] h = h
note_all-rising rows (e ∷ es) h = note_all-rising (note rows e) es (either (IsRising holder_cmp) (has_memory e.waiter.kind) _ _ (at (find holder_cmp rows (e.waiter.session, e.waiter.call.thread.0))) h)
  where
    at : (o : Option MemoryRow) → IsRising holder_cmp (note_at rows e o)
    at None = h
    at (Some old) = either (IsRising holder_cmp) (old.number == e.waiter.call.number) _ _ (rising-put holder_cmp holder_key holder_total rows (e.waiter.session, e.waiter.call.thread.0) (record { number = old.number; answer = Some e.answer }) h) h

-- semaphores
abbrev pub SemsRise : Semaphores → Type 0
SemsRise s = IsRising object_cmp s.rows × IsRising holding_cmp s.holdings

put-sem : (rows : List ((List ℕ × Kind) × SemaphoreRow)) (key : List ℕ × Kind) (row : SemaphoreRow) → IsRising object_cmp rows → IsRising object_cmp (put object_cmp rows key row)
put-sem rows key row h = rising-put object_cmp object_key object_total rows key row h

set_held-rises : (holdings : List ((ℕ × List ℕ) × ℕ)) (session : ℕ) (name : List ℕ) (n : ℕ) → IsRising holding_cmp holdings → IsRising holding_cmp (set_held holdings session name n)
set_held-rises holdings session name n h = either (IsRising holding_cmp) (n == 0) _ _ (rising-without holding_cmp holding_key holding_total holdings (session, name) h) (rising-put holding_cmp holding_key holding_total holdings (session, name) n h)

take-rises : (key : List ℕ × Kind) (row : SemaphoreRow) (session n : ℕ) (s : Semaphores) → SemsRise s → SemsRise (take key row session n s)
take-rises key row session n s h = either SemsRise (is_held key.1) _ _
    (put-sem s.rows key (record row { available = row.available -ℤ pos n }) h.0, set_held-rises s.holdings session key.0 (held s.holdings session key.0 + n) h.1)
    (put-sem s.rows key (record { total = row.total -ℤ pos n; available = row.available -ℤ pos n }) h.0, h.1)

pub take_all-rises : (key : List ℕ × Kind) (ws : List Waiter) (s : Semaphores) → SemsRise s → SemsRise (take_all key ws s)
take_all-rises key [] s h = h
take_all-rises key (w ∷ ws) s h = take_all-rises key ws (take_on key (find object_cmp s.rows key) w s) (at (find object_cmp s.rows key))
  where
    at : (o : Option SemaphoreRow) → SemsRise (take_on key o w s)
    at None = h
    at (Some row) = take-rises key row w.session w.permits s h

change-rises : (key : List ℕ × Kind) (row : SemaphoreRow) (n : ℤ) (s : Semaphores) → SemsRise s → SemsRise (change_total key row n s)
change-rises key row n s h = (put-sem s.rows key (record { total = row.total +ℤ n; available = row.available +ℤ n }) h.0, h.1)

pub step-rises : (key : List ℕ × Kind) (o : SemOp) (s : Semaphores) → SemsRise s → SemsRise (sem_step key o s).after
step-rises key o s h = on (find object_cmp s.rows key) o
  where
    raise : (row : SemaphoreRow) (n : ℕ) → SemsRise (raise_total key row n s).after
    raise row n = either (λ (r : SemStep). SemsRise r.after) (int_lt (pos (2 ^ 31 - 1)) (row.total +ℤ pos n)) _ _ h (change-rises key row (pos n) s h)

    release : (row : SemaphoreRow) (session n : ℕ) → SemsRise (release_held key row session n s).after
    release row session n = either (λ (r : SemStep). SemsRise r.after) (nat_lt (held s.holdings session key.0) n) _ _ h
        (put-sem s.rows key (record row { available = row.available +ℤ pos n }) h.0, set_held-rises s.holdings session key.0 (held s.holdings session key.0 - n) h.1)

    on : (row : Option SemaphoreRow) (o : SemOp) → SemsRise (sem_step_on key o row s).after
    on None sem.Available = h
    on None (sem.Init n) = either (λ (r : SemStep). SemsRise r.after) (has_room object_cmp most s.rows key) _ _ (put-sem s.rows key (record { total = pos n; available = pos n }) h.0, h.1) h
    on None (sem.Acquire session n wish) = h
    on None (sem.Release session n) = h
    on None (sem.Drain session) = h
    on None (sem.Increase session n) = h
    on None (sem.Reduce session n) = h
    on (Some row) sem.Available = h
    on (Some row) (sem.Init n) = h
    on (Some row) (sem.Acquire session n wish) = either (λ (r : SemStep). SemsRise r.after) (int_lt row.available (pos n)) _ _ h (take-rises key row session n s h)
    on (Some row) (sem.Release session n) = either (λ (r : SemStep). SemsRise r.after) (is_held key.1) _ _ (release row session n) (raise row n)
    on (Some row) (sem.Drain session) = take-rises key row session (at_least_none row.available) s h
    on (Some row) (sem.Increase session n) = raise row n
    on (Some row) (sem.Reduce session n) = either (λ (r : SemStep). SemsRise r.after) (int_lt (row.available -ℤ pos n) (neg_ℤ (pos (2 ^ 31)))) _ _ h (change-rises key row (neg_ℤ (pos n)) s h)

-- rows whose values alone change
pub keys-map : {K X : Type 0} (f : K × X → X) (rows : List (K × X)) → keys_of (map (λ e. (e.0, f e)) rows) ≡ keys_of rows
keys-map f [] = refl
keys-map {K} f (e ∷ es) = ap (λ (ks : List K). e.0 ∷ ks) (keys-map f es)

latch-rises : (rows : List (List ℕ × LatchRow)) (name : List ℕ) (call : Invocation) (o : LatchOp) → IsRising name_cmp rows → IsRising name_cmp (latch_step rows name call o).after
latch-rises rows name call latch.Count h = h
latch-rises rows name call latch.Round h = h
latch-rises rows name call (latch.Await millis) h = h
latch-rises rows name call (latch.Set n) h = let row = latch_at rows name in
    either (λ (r : LatchStep). IsRising name_cmp r.after) (row.count == 0) _ _
    (either (λ (r : LatchStep). IsRising name_cmp r.after) (has_room name_cmp most rows name) _ _ (rising-put name_cmp name_key nat_list_cmp_total rows name (next_round row n) h) h) h
latch-rises rows name call (latch.Down round) h = let row = latch_at rows name in
    either (λ (r : LatchStep). IsRising name_cmp r.after) (is_over call round row) _ _ h
    (either (λ (r : LatchStep). IsRising name_cmp r.after) (nat_lt (counted_calls rows) most_counted) _ _ (rising-put name_cmp name_key nat_list_cmp_total rows name (counted_down call row) h) h)

value-rises : {X : Type 0} (rows : List (List ℕ × X)) (name : List ℕ) (o : Option X) (a : Answer) → IsRising name_cmp rows → IsRising name_cmp (set_value rows name o a).after
value-rises rows name None a h = h
value-rises {X} rows name (Some x) a h = either (λ (r : AtomicStep X). IsRising name_cmp r.after) (has_room name_cmp most rows name) _ _ (rising-put name_cmp name_key nat_list_cmp_total rows name x h) h

effect-rises : (pairs : Pairs) (place : List ℕ × List ℕ) (e : Effect) (a : Answer) → IsRising pair_cmp pairs → IsRising pair_cmp (with_effect pairs place e a).after
effect-rises pairs place Stays a h = h
effect-rises pairs place (Sets value) a h = either (λ (r : MapStep). IsRising pair_cmp r.after) (has_room pair_cmp most pairs place) _ _ (rising-put pair_cmp pair_key pair_total pairs place value h) h
effect-rises pairs place Goes a h = rising-without pair_cmp pair_key pair_total pairs place h

map-rises : (pairs : Pairs) (name : List ℕ) (o : MapOp) → IsRising pair_cmp pairs → IsRising pair_cmp (map_step pairs name o).after
map-rises pairs name o h = let now = find pair_cmp pairs (name, key_of o) in effect-rises pairs (name, key_of o) (map_effect now o) (map_answer now o) h

ordered-drop : (name : List ℕ) (which : Kind) (s : GroupState) → IsOrdered s → IsOrdered (add_gone (name, which) (drop_rows name which s))
ordered-drop name kind.Long s h = record { sessions = h.sessions; locks = h.locks; semaphores = h.semaphores; holdings = h.holdings; latches = h.latches; longs = rising-without name_cmp name_key nat_list_cmp_total s.longs name h.longs; refs = h.refs; maps = h.maps; gone = rising-put object_cmp object_key object_total s.gone (name, kind.Long) tt h.gone; memory = h.memory }
ordered-drop name kind.Ref s h = record { sessions = h.sessions; locks = h.locks; semaphores = h.semaphores; holdings = h.holdings; latches = h.latches; longs = h.longs; refs = rising-without name_cmp name_key nat_list_cmp_total s.refs name h.refs; maps = h.maps; gone = rising-put object_cmp object_key object_total s.gone (name, kind.Ref) tt h.gone; memory = h.memory }
ordered-drop name kind.Lock s h = record { sessions = h.sessions; locks = rising-without name_cmp name_key nat_list_cmp_total s.locks name h.locks; semaphores = h.semaphores; holdings = h.holdings; latches = h.latches; longs = h.longs; refs = h.refs; maps = h.maps; gone = rising-put object_cmp object_key object_total s.gone (name, kind.Lock) tt h.gone; memory = h.memory }
ordered-drop name kind.Sem s h = record { sessions = h.sessions; locks = h.locks; semaphores = rising-without object_cmp object_key object_total s.semaphores.rows (name, kind.Sem) h.semaphores; holdings = rising-filter holding_cmp holding_key holding_total _ s.semaphores.holdings h.holdings; latches = h.latches; longs = h.longs; refs = h.refs; maps = h.maps; gone = rising-put object_cmp object_key object_total s.gone (name, kind.Sem) tt h.gone; memory = h.memory }
ordered-drop name kind.Jsem s h = record { sessions = h.sessions; locks = h.locks; semaphores = rising-without object_cmp object_key object_total s.semaphores.rows (name, kind.Jsem) h.semaphores; holdings = rising-filter holding_cmp holding_key holding_total (λ e. not (is_held kind.Jsem && bytes_eq name e.0.1)) s.semaphores.holdings h.holdings; latches = h.latches; longs = h.longs; refs = h.refs; maps = h.maps; gone = rising-put object_cmp object_key object_total s.gone (name, kind.Jsem) tt h.gone; memory = h.memory }
ordered-drop name kind.Latch s h = record { sessions = h.sessions; locks = h.locks; semaphores = h.semaphores; holdings = h.holdings; latches = rising-without name_cmp name_key nat_list_cmp_total s.latches name h.latches; longs = h.longs; refs = h.refs; maps = h.maps; gone = rising-put object_cmp object_key object_total s.gone (name, kind.Latch) tt h.gone; memory = h.memory }
ordered-drop name kind.Map s h = record { sessions = h.sessions; locks = h.locks; semaphores = h.semaphores; holdings = h.holdings; latches = h.latches; longs = h.longs; refs = h.refs; maps = rising-filter pair_cmp pair_key pair_total _ s.maps h.maps; gone = rising-put object_cmp object_key object_total s.gone (name, kind.Map) tt h.gone; memory = h.memory }

with-memory : (s : GroupState) (m : List ((ℕ × ℕ) × MemoryRow)) (ws : List Waiter) → IsRising holder_cmp m → IsOrdered s → IsOrdered (record s { waiters = ws; memory = m })
with-memory s m ws r h = record { sessions = h.sessions; locks = h.locks; semaphores = h.semaphores; holdings = h.holdings; latches = h.latches; longs = h.longs; refs = h.refs; maps = h.maps; gone = h.gone; memory = r }

with-locks : (s : GroupState) (l : List (List ℕ × LockRow)) → IsRising name_cmp l → IsOrdered s → IsOrdered (record s { locks = l })
with-locks s l r h = record { sessions = h.sessions; locks = r; semaphores = h.semaphores; holdings = h.holdings; latches = h.latches; longs = h.longs; refs = h.refs; maps = h.maps; gone = h.gone; memory = h.memory }

with-sems : (s : GroupState) (x : Semaphores) → SemsRise x → IsOrdered s → IsOrdered (record s { semaphores = x })
with-sems s x r h = record { sessions = h.sessions; locks = h.locks; semaphores = r.0; holdings = r.1; latches = h.latches; longs = h.longs; refs = h.refs; maps = h.maps; gone = h.gone; memory = h.memory }

with-sessions : (s : GroupState) (x : List (ℕ × SessionRow)) → IsRising nat_cmp x → IsOrdered s → IsOrdered (record s { sessions = x })
with-sessions s x r h = record { sessions = r; locks = h.locks; semaphores = h.semaphores; holdings = h.holdings; latches = h.latches; longs = h.longs; refs = h.refs; maps = h.maps; gone = h.gone; memory = h.memory }

with-latches : (s : GroupState) (x : List (List ℕ × LatchRow)) → IsRising name_cmp x → IsOrdered s → IsOrdered (record s { latches = x })
with-latches s x r h = record { sessions = h.sessions; locks = h.locks; semaphores = h.semaphores; holdings = h.holdings; latches = r; longs = h.longs; refs = h.refs; maps = h.maps; gone = h.gone; memory = h.memory }

ordered-finish : (s : GroupState) (ended : List Ended) → IsOrdered s → IsOrdered (finish ended s).state
ordered-finish s ended h = with-memory s (note_all s.memory ended) _ (note_all-rising s.memory ended h.memory) h

ordered-forget : (s : GroupState) (sessions : List ℕ) → IsOrdered s → IsOrdered (forget sessions s)
ordered-forget s sessions h = record { sessions = rising-filter nat_cmp number_key nat_cmp_total _ s.sessions h.sessions; locks = h.locks; semaphores = h.semaphores; holdings = h.holdings; latches = h.latches; longs = h.longs; refs = h.refs; maps = h.maps; gone = h.gone; memory = rising-filter holder_cmp holder_key holder_total _ s.memory h.memory }

abbrev pub KeepsOrder : GroupState → Change → Type 0
KeepsOrder s c = IsOrdered s → IsOrdered c.state

order_closed : (i : ℕ) → Closed i KeepsOrder
order_closed i = record {
  stays = λ s h. h;
  joins = λ s c d f g h. g (f h);
  ends = λ s ended all h. ordered-finish s ended h;
  handed = λ s c name w g h. g (with-locks s _ (rising-put name_cmp name_key nat_list_cmp_total s.locks name (held_once (record { session = w.session; thread = w.call.thread }) i) h.locks) h);
  freed = λ s c sessions g h. g (with-locks s _ (locks-freed i sessions s.locks h.locks).0 h);
  serves = λ s c key row is g h. g (with-sems s _ (take_all-rises key (served key row.available s.waiters) s.semaphores (h.semaphores, h.holdings)) h);
  permits = λ s c key o g h. g (with-sems s _ (step-rises key o s.semaphores (h.semaphores, h.holdings)) h);
  backs = λ s c sessions g h. g (with-sems s (all_back sessions s.semaphores) (subst (IsStrictlySortedBy object_cmp) (sym (keys-map _ s.semaphores.rows)) h.semaphores, rising-filter holding_cmp holding_key holding_total _ s.semaphores.holdings h.holdings) h);
  closes = λ s sessions h. ordered-finish (forget sessions s) (end_sessions sessions s).ended (ordered-forget s sessions h);
  acquires = λ s c name who limit g h. g (with-locks s _ (locks-acquired i s.locks name who limit h.locks).0 h);
  releases = λ s c name who g h. g (with-locks s _ (locks-released i s.locks name who h.locks).0 h);
  longs = λ s c name o g h. g (record { sessions = h.sessions; locks = h.locks; semaphores = h.semaphores; holdings = h.holdings; latches = h.latches; longs = value-rises s.longs name (long_set (long_at s.longs name) o) (long_answer (long_at s.longs name) o) h.longs; refs = h.refs; maps = h.maps; gone = h.gone; memory = h.memory });
  refs = λ s c name o g h. g (record { sessions = h.sessions; locks = h.locks; semaphores = h.semaphores; holdings = h.holdings; latches = h.latches; longs = h.longs; refs = value-rises s.refs name (ref_set (ref_at s.refs name) o) (ref_answer (ref_at s.refs name) o) h.refs; maps = h.maps; gone = h.gone; memory = h.memory });
  maps = λ s c name o g h. g (record { sessions = h.sessions; locks = h.locks; semaphores = h.semaphores; holdings = h.holdings; latches = h.latches; longs = h.longs; refs = h.refs; maps = map-rises s.maps name o h.maps; gone = h.gone; memory = h.memory });
  opens = λ s c client fresh g h. g (with-sessions s _ (rising-put nat_cmp number_key nat_cmp_total s.sessions i (record { client = client; version = 0 }) h.sessions) h);
  beats = λ s c number row is g h. g (with-sessions s _ (rising-put nat_cmp number_key nat_cmp_total s.sessions number (beaten row) h.sessions) h);
  drops = λ s c name which g h. g (ordered-drop name which s h);
}

order-outcome : (i : ℕ) (call : Invocation) (o : Op) (s : GroupState) → KeepsOrder s (outcome i call o s).change
order-outcome i call o s = walk_outcome i KeepsOrder KeepsOrder (order_closed i) (λ s c g. g) call o s
    (λ e name l is h. walk_on_latch i KeepsOrder (order_closed i) call name l (latch_step s.latches name call l).outcome (record s { latches = (latch_step s.latches name call l).after }) (with-latches s _ (latch-rises s.latches name call l h.latches) h))

order-remembered : (so : Option ℕ) (call : Invocation) (a : Option Answer) (s : GroupState) → IsOrdered s → IsOrdered (remembered so call a s)
order-remembered None call a s h = h
order-remembered (Some session) call a s h = with-memory s _ s.waiters (rising-put holder_cmp holder_key holder_total s.memory (session, call.thread.0) (record { number = call.number; answer = a }) h.memory) h

order-settle : (so : Option ℕ) (call : Invocation) (r : Reply) (c : Change) → IsOrdered c.state → IsOrdered (settle so call r c).state
order-settle so call (Answered a) c h = order-remembered so call (Some a) c.state h
order-settle so call (Waits v) c h = either (λ (r : Applied). IsOrdered r.state) (stands call c.state.waiters) _ _ h
    (either (λ (r : Applied). IsOrdered r.state) (nat_lt (length c.state.waiters) most) _ _ (order-remembered so call None (join v c.state) (with-memory c.state c.state.memory _ h.memory h)) (order-remembered so call (Some (answer.TableFull most)) c.state h))

order-perform : (i : ℕ) (call : Invocation) (o : Op) (s : GroupState) → IsOrdered s → IsOrdered (perform i call o s).state
order-perform i call o s h = order-settle (session_in o) call (outcome i call o s).reply (outcome i call o s).change (order-outcome i call o s h)

order-memory : (i : ℕ) (call : Invocation) (o : Op) (row : Option MemoryRow) (s : GroupState) → IsOrdered s → IsOrdered (by_memory i call o row s).state
order-memory i call o None s h = order-perform i call o s h
order-memory i call o (Some row) s h = either (λ (r : Applied). IsOrdered r.state) (row.number == call.number) _ _ h (either (λ (r : Applied). IsOrdered r.state) (nat_lt call.number row.number) _ _ h (order-perform i call o s h))

order-session : (i : ℕ) (call : Invocation) (o : Op) (so : Option ℕ) (s : GroupState) → IsOrdered s → IsOrdered (by_session i call o so s).state
order-session i call o None s h = order-perform i call o s h
order-session i call o (Some session) s h = either (λ (r : Applied). IsOrdered r.state) (is_open_for s.sessions session call.client) _ _ (order-memory i call o _ s h) h

order-call : (i : ℕ) (call : Invocation) (o : Op) (s : GroupState) → IsOrdered s → IsOrdered (apply_call i call o s).state
order-call i call o s h = either (λ (r : Applied). IsOrdered r.state) (s.destroyed_group.0 == 0) _ _ (order-session i call o (session_in o) (supersede call s).state (walk_supersede i KeepsOrder (order_closed i) call s h)) h

pub order-apply : (i : ℕ) (e : Entry) (s : GroupState) → IsOrdered s → IsOrdered (apply i e s).state
order-apply i entry.Empty s h = h
order-apply i (entry.Call call o) s h = either (λ (r : Applied). IsOrdered r.state) (is_elsewhere o) _ _ h (order-call i call o s h)
order-apply i (entry.SessionsExpired pairs) s h = walk_close i KeepsOrder (order_closed i) (unchanged_since s.sessions pairs) s h
order-apply i (entry.WaitsExpired calls) s h = walk_time_out i KeepsOrder (order_closed i) calls s h
order-apply i (entry.Members call plan members) s h = h
order-apply i (entry.Destroy group) s h = ordered-finish (record s { destroyed_group = if s.destroyed_group.0 == 0 then group else s.destroyed_group }) (ending (λ w. true) (λ w. answer.GroupDestroyed group) s.waiters) (record { sessions = h.sessions; locks = h.locks; semaphores = h.semaphores; holdings = h.holdings; latches = h.latches; longs = h.longs; refs = h.refs; maps = h.maps; gone = h.gone; memory = h.memory })
order-apply i (entry.Destroyed group) s h = h
order-apply i (entry.Moved group at members) s h = h
order-apply i (entry.Left member) s h = h

pub order-empty : IsOrdered empty
unfolding IsStrictlySortedBy
order-empty = record { sessions = tt; locks = tt; semaphores = tt; holdings = tt; latches = tt; longs = tt; refs = tt; maps = tt; gone = tt; memory = tt }

-- what each entry keeps holds of every state
pub always : (P : GroupState → Type 0) → ((i : ℕ) (e : Entry) (s : GroupState) → P s → P (apply i e s).state) → (i : ℕ) (es : List Entry) (s : GroupState) → P s → (moment : ℕ) → P (state_after moment i es s)
always P keeps i es s h zero = h
always P keeps i [] s h (suc n) = h
always P keeps i (e ∷ es) s h (suc n) = always P keeps (i + 1) es (apply i e s).state (keeps i e s h) n

pub always-ordered : (es : List Entry) → Always IsOrdered es
always-ordered es = always IsOrdered order-apply 1 es empty order-empty
