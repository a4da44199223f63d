-- What one entry leaves.
use Rattle.std.proofs.Common.{◌≡◌, ℕ, suc, ◌-◌, ◌^◌, ◌<◌, ◌≤◌, inr, Bool, true, false, not, List, [], ◌∷◌, Some, None, Option, refl, sym, ◌∙◌, subst, arith, if◌then◌else◌}
use Rattle.std.specs.Prelude.{◌==◌, nat_lt, All}
use Rattle.std.proofs.lemmas.List.Elements.{All-cons, All-head, All-tail}
use Rattle.std.proofs.lemmas.Map.Views.{All-values-insert_entry}
use Rattle.std.specs.List.{filter}
use Rattle.std.specs.Map.{values_of}
use Rattle.std.specs.BTreeMap.{is_at}
use Rattle.cp_op_values.specs.declared.kind.Kind.{Kind}
use Rattle.cp_op_values.specs.declared.kind.Kind.TheVariants as kind
use Rattle.cp_base.specs.declared.identifier.Invocation.{Invocation}
use Rattle.cp_answers.specs.declared.answer.Answer.{Answer}
use Rattle.cp_answers.specs.declared.answer.Answer.TheVariants as answer
use Rattle.cp_object_ops.specs.declared.latch_op.LatchOp.{LatchOp}
use Rattle.cp_object_ops.specs.declared.latch_op.LatchOp.TheVariants as latch
use Rattle.cp_ops.specs.declared.op.Op.{Op}
use Rattle.cp_ops.specs.declared.entry.Entry.{Entry}
use Rattle.cp_ops.specs.declared.entry.Entry.TheVariants as entry
use Rattle.cp_base.specs.declared.identifier.GroupId.{GroupId}
use Rattle.cp_base.proofs.Tests.{same_some, not_less}
use Rattle.cp_group_state.specs.Rows.{find, without, name_cmp, holder_cmp, has_room, most}
use Rattle.cp_group_state.specs.Waiters.{Waiter, Ended, stands}
use Rattle.cp_group_state.specs.Memory.{MemoryRow, has_memory, remember, note, note_at, note_all}
use Rattle.cp_group_state.specs.Sessions.{is_open_for, is_among, unchanged_since}
use Rattle.cp_group_state.specs.Latches.{LatchRow, LatchStep, latch_at, latch_step, next_round, counted_down, is_over, counted_calls, most_counted}
use Rattle.cp_group_state.specs.Closing.{forget, end_sessions}
use Rattle.cp_group_state.specs.GroupState.{GroupState}
use Rattle.cp_group_state.specs.Changes.{Change}
use Rattle.cp_group_state.specs.Apply.{Applied, supersede, destroy_group, outcome, remembered, settle, join, perform, by_memory, by_session, apply_call, is_elsewhere, apply}
use Rattle.cp_group_state.specs.Outcomes.{Reply, Answered, Waits}
use Rattle.cp_group_state.specs.LatchRules.{latch_rule}
use Rattle.cp_group_state.specs.Destroying.{drop_rows}
use Rattle.cp_group_state.specs.Protected.{session_in}
use Rattle.cp_group_state.proofs.Keyed.{equal_is, find-put_same, find-put_other, find-filter_kept, find-filter_gone, holder_key}
use Rattle.cp_group_state.proofs.Walk.{cases, either, Closed, walk_supersede, walk_close, walk_time_out, walk_end_all, walk_on_latch, walk_outcome, keep_session}
use Rattle.cp_group_state.proofs.Grows.{Grows, remember-reaches, grows_same, grows_on, grows-same_parts, grows_closed}
use Rattle.cp_group_state.proofs.Latches.{over-step}

-- The row of a thread, if there is one, has at most this number; a change of the lists keeps that.
abbrev pub AtMost : List ((ℕ × ℕ) × MemoryRow) → ℕ × ℕ → ℕ → Type 0
AtMost rows key n = (row : MemoryRow) → find holder_cmp rows key ≡ Some row → row.number ≤ n

note_at-most : (rows : List ((ℕ × ℕ) × MemoryRow)) (e : Ended) (o : Option MemoryRow) → find holder_cmp rows (e.waiter.session, e.waiter.call.thread.0) ≡ o → (q : ℕ × ℕ) (n : ℕ) → AtMost rows q n → AtMost (note_at rows e o) q n
note_at-most rows e None is q n h = h
note_at-most rows e (Some old) is q n h = either (λ (m : List ((ℕ × ℕ) × MemoryRow)). AtMost m q n) (old.number == e.waiter.call.number) _ _ (λ row there. by row there (is_at (holder_cmp q) (e.waiter.session, e.waiter.call.thread.0)) refl) h
  where
    by : (row : MemoryRow) → find holder_cmp (remember rows e.waiter.session e.waiter.call.thread old.number (Some e.answer)) q ≡ Some row → (b : Bool) → is_at (holder_cmp q) (e.waiter.session, e.waiter.call.thread.0) ≡ b → row.number ≤ n
    by row there true x = let same : q ≡ (e.waiter.session, e.waiter.call.thread.0) = holder_key.same q (e.waiter.session, e.waiter.call.thread.0) (equal_is _ x) in
        let new : MemoryRow = record { number = old.number; answer = Some e.answer } in
        let put_here : find holder_cmp (remember rows e.waiter.session e.waiter.call.thread old.number (Some e.answer)) q ≡ Some new = rw same (find-put_same holder_cmp holder_key rows (e.waiter.session, e.waiter.call.thread.0) new) in
        let row_is : row ≡ new = same_some (sym there ∙ put_here) in
        rw row_is (h old (rw same is))
    by row there false x = h row (sym (find-put_other holder_cmp holder_key rows (e.waiter.session, e.waiter.call.thread.0) q (record { number = old.number; answer = Some e.answer }) x) ∙ there)

note_all-most : (rows : List ((ℕ × ℕ) × MemoryRow)) (es : List Ended) (q : ℕ × ℕ) (n : ℕ) → AtMost rows q n → AtMost (note_all rows es) q n
note_all-most rows [] q n h = h
note_all-most rows (e ∷ es) q n h = note_all-most (note rows e) es q n (either (λ (m : List ((ℕ × ℕ) × MemoryRow)). AtMost m q n) (has_memory e.waiter.kind) _ _ (note_at-most rows e _ refl q n h) h)

forget-most : (rows : List ((ℕ × ℕ) × MemoryRow)) (sessions : List ℕ) (q : ℕ × ℕ) (n : ℕ) → AtMost rows q n → AtMost (filter (λ e. not (is_among sessions e.0.0)) rows) q n
forget-most rows sessions q n h row there = by (is_among sessions q.0) refl where
  by : (b : Bool) → is_among sessions q.0 ≡ b → row.number ≤ n
  by true e = absurd (no_row (sym (find-filter_gone holder_cmp holder_key (λ key. not (is_among sessions key.0)) rows q (rw e)) ∙ there)) where
    no_row : None ≡ Some row → ⊥
    no_row x = cc
  by false e = h row (sym (find-filter_kept holder_cmp holder_key (λ key. not (is_among sessions key.0)) rows q (rw e)) ∙ there)

drop-memory : (name : List ℕ) (which : Kind) (s : GroupState) → (drop_rows name which s).memory ≡ s.memory
drop-memory name kind.Long s = refl
drop-memory name kind.Ref s = refl
drop-memory name kind.Map s = refl
drop-memory name kind.Lock s = refl
drop-memory name kind.Sem s = refl
drop-memory name kind.Jsem s = refl
drop-memory name kind.Latch s = refl

pub most_closed : (i : ℕ) → Closed i (λ s c. (q : ℕ × ℕ) (n : ℕ) → AtMost s.memory q n → AtMost c.state.memory q n)
most_closed i = record {
  stays = λ s q n h. h;
  joins = λ s c d f g q n h. g q n (f q n h);
  ends = λ s ended all q n h. note_all-most s.memory ended q n h;
  handed = λ s c name w g. g;
  freed = λ s c sessions g. g;
  serves = λ s c key row is g. g;
  permits = λ s c key o g. g;
  backs = λ s c sessions g. g;
  closes = λ s sessions q n h. note_all-most (forget sessions s).memory (end_sessions sessions s).ended q n (forget-most s.memory sessions q n h);
  acquires = λ s c name who limit g. g;
  releases = λ s c name who g. g;
  longs = λ s c name o g. g;
  refs = λ s c name o g. g;
  maps = λ s c name o g. g;
  opens = λ s c client fresh g. g;
  beats = λ s c number row is g. g;
  drops = λ s c name which g q n h. g q n (subst (λ m. AtMost m q n) (sym (drop-memory name which s)) h);
}

-- Rounds are at most this.
abbrev pub RoundsWithin : ℕ → List (List ℕ × LatchRow) → Type 0
RoundsWithin b rows = All (λ (r : LatchRow). r.round ≤ b) (values_of rows)

within-find : (b : ℕ) (rows : List (List ℕ × LatchRow)) (name : List ℕ) → RoundsWithin b rows → (latch_at rows name).round ≤ b
within-find b [] name h = omega arith
within-find b (e ∷ es) name h = by (is_at (name_cmp name) e.0) refl (within-find b es name (All-tail (λ (r : LatchRow). r.round ≤ b) e.1 (values_of es) h)) where
  by : (c : Bool) → is_at (name_cmp name) e.0 ≡ c → (latch_at es name).round ≤ b → (latch_at (e ∷ es) name).round ≤ b
  by true x rest = rw x (All-head (λ (r : LatchRow). r.round ≤ b) e.1 (values_of es) h)
  by false x rest = rw x rest

within-without : (b : ℕ) (rows : List (List ℕ × LatchRow)) (name : List ℕ) → RoundsWithin b rows → RoundsWithin b (without name_cmp rows name)
within-without b [] name h = h
within-without b (e ∷ es) name h = either (RoundsWithin b) (is_at (name_cmp name) e.0) _ _ (All-tail (λ (r : LatchRow). r.round ≤ b) e.1 (values_of es) h)
    (All-cons (λ (r : LatchRow). r.round ≤ b) e.1 (values_of (without name_cmp es name)) (All-head (λ (r : LatchRow). r.round ≤ b) e.1 (values_of es) h) (within-without b es name (All-tail (λ (r : LatchRow). r.round ≤ b) e.1 (values_of es) h)))

within-more : (b : ℕ) (rows : List (List ℕ × LatchRow)) → RoundsWithin b rows → RoundsWithin (suc b) rows
within-more b rows h = λ k d l. let x = h k d l in omega arith

within-step : (b : ℕ) (rows : List (List ℕ × LatchRow)) (name : List ℕ) (call : Invocation) (o : LatchOp) → RoundsWithin b rows → RoundsWithin (suc b) (latch_step rows name call o).after
within-step b rows name call latch.Count h = within-more b rows h
within-step b rows name call latch.Round h = within-more b rows h
within-step b rows name call (latch.Await millis) h = within-more b rows h
within-step b rows name call (latch.Set n) h = let row = latch_at rows name in let at : row.round ≤ b = within-find b rows name h in
    either (λ (r : LatchStep). RoundsWithin (suc b) r.after) (row.count == 0) _ _
    (either (λ (r : LatchStep). RoundsWithin (suc b) r.after) (has_room name_cmp most rows name) _ _
    (All-values-insert_entry name_cmp name (next_round row n) (λ (r : LatchRow). r.round ≤ suc b) rows (within-more b rows h) (omega arith)) (within-more b rows h)) (within-more b rows h)
within-step b rows name call (latch.Down round) h = let row = latch_at rows name in let at : row.round ≤ b = within-find b rows name h in
    either (λ (r : LatchStep). RoundsWithin (suc b) r.after) (is_over call round row) _ _ (within-more b rows h)
    (either (λ (r : LatchStep). RoundsWithin (suc b) r.after) (nat_lt (counted_calls rows) most_counted) _ _
    (All-values-insert_entry name_cmp name (counted_down call row) (λ (r : LatchRow). r.round ≤ suc b) rows (within-more b rows h) (omega arith)) (within-more b rows h))

within-drop : (b : ℕ) (name : List ℕ) (which : Kind) (s : GroupState) → RoundsWithin b s.latches → RoundsWithin b (drop_rows name which s).latches
within-drop b name kind.Long s h = h
within-drop b name kind.Ref s h = h
within-drop b name kind.Map s h = h
within-drop b name kind.Lock s h = h
within-drop b name kind.Sem s h = h
within-drop b name kind.Jsem s h = h
within-drop b name kind.Latch s h = within-without b s.latches name h

within_closed : (i b : ℕ) → Closed i (λ s c. RoundsWithin b s.latches → RoundsWithin b c.state.latches)
within_closed i b = record {
  stays = λ s h. h;
  joins = λ s c d f g h. g (f h);
  ends = λ s ended all h. h;
  handed = λ s c name w g. g;
  freed = λ s c sessions g. g;
  serves = λ s c key row is g. g;
  permits = λ s c key o g. g;
  backs = λ s c sessions g. g;
  closes = λ s sessions h. h;
  acquires = λ s c name who limit g. g;
  releases = λ s c name who g. g;
  longs = λ s c name o g. g;
  refs = λ s c name o g. g;
  maps = λ s c name o g. g;
  opens = λ s c client fresh g. g;
  beats = λ s c number row is g. g;
  drops = λ s c name which g h. g (within-drop b name which s h);
}

-- one entry raises a round by one at most
within-latch : (i b : ℕ) (call : Invocation) (name : List ℕ) (l : LatchOp) (s : GroupState) → RoundsWithin b s.latches → RoundsWithin (suc b) (latch_rule call name l s).change.state.latches
within-latch i b call name l s h = walk_on_latch i (λ s c. RoundsWithin (suc b) s.latches → RoundsWithin (suc b) c.state.latches) (within_closed i (suc b)) call name l (latch_step s.latches name call l).outcome
    (record s { latches = (latch_step s.latches name call l).after }) (within-step b s.latches name call l h)

pub within-supersede : (call : Invocation) (b : ℕ) (s : GroupState) → RoundsWithin b s.latches → RoundsWithin b (supersede call s).state.latches
within-supersede call b s h = walk_supersede 0 (λ s c. RoundsWithin b s.latches → RoundsWithin b c.state.latches) (within_closed 0 b) call s h

within-session : (i b : ℕ) (call : Invocation) (o : Op) (t : GroupState) → RoundsWithin b t.latches → RoundsWithin (suc b) (by_session i call o (session_in o) t).state.latches
within-session i b call o t at = keep_session (λ u. RoundsWithin (suc b) u.latches) (λ u ws m g. g) i call o (session_in o) t (within-more b t.latches at)
    (walk_outcome i (λ s c. RoundsWithin b s.latches → RoundsWithin b c.state.latches) (λ s c. RoundsWithin b s.latches → RoundsWithin (suc b) c.state.latches) (within_closed i b)
    (λ s c f g. within-more b c.state.latches (f g)) call o t (λ e name l is g. within-latch i b call name l t g) at)

within-call : (i b : ℕ) (call : Invocation) (o : Op) (s : GroupState) → RoundsWithin b s.latches → RoundsWithin (suc b) (apply_call i call o s).state.latches
within-call i b call o s h = either (λ (r : Applied). RoundsWithin (suc b) r.state.latches) (s.destroyed_group.0 == 0) _ _ (within-session i b call o (supersede call s).state (within-supersede call b s h)) (within-more b s.latches h)

pub within-apply : (i b : ℕ) (e : Entry) (s : GroupState) → RoundsWithin b s.latches → RoundsWithin (suc b) (apply i e s).state.latches
within-apply i b entry.Empty s h = within-more b s.latches h
within-apply i b (entry.Call call o) s h = either (λ (r : Applied). RoundsWithin (suc b) r.state.latches) (is_elsewhere o) _ _ (within-more b s.latches h) (within-call i b call o s h)
within-apply i b (entry.SessionsExpired pairs) s h = within-more b _ (walk_close i (λ s c. RoundsWithin b s.latches → RoundsWithin b c.state.latches) (within_closed i b) (unchanged_since s.sessions pairs) s h)
within-apply i b (entry.WaitsExpired calls) s h = within-more b _ (walk_time_out i (λ s c. RoundsWithin b s.latches → RoundsWithin b c.state.latches) (within_closed i b) calls s h)
within-apply i b (entry.Members call plan members) s h = within-more b s.latches h
within-apply i b (entry.Destroy group) s h = within-more b s.latches h
within-apply i b (entry.Destroyed group) s h = within-more b s.latches h
within-apply i b (entry.Moved group at members) s h = within-more b s.latches h
within-apply i b (entry.Left member) s h = within-more b s.latches h

-- What one entry leaves grows.
grows-latch : (i : ℕ) (call : Invocation) (name : List ℕ) (l : LatchOp) (s : GroupState) → RoundsWithin (2 ^ 62 - 1) s.latches → Grows i s (latch_rule call name l s).change.state
grows-latch i call name l s few = grows_on i s (record s { latches = (latch_step s.latches name call l).after }) _
    (record {
      destroyed_group = λ h. refl;
      gone = λ key h. h;
      opened = λ session client x h. h;
      memory = λ session client thread n x y h. h;
      latch = λ q other round h. inr (over-step s.latches name call l q other round below h);
    })
    (walk_on_latch i (λ s c. Grows i s c.state) (grows_closed i) call name l (latch_step s.latches name call l).outcome (record s { latches = (latch_step s.latches name call l).after }))
  where
    below : (latch_at s.latches name).round < 2 ^ 62
    below = let x = within-find (2 ^ 62 - 1) s.latches name few in omega arith

pub grows-outcome : (i : ℕ) (call : Invocation) (o : Op) (s : GroupState) → RoundsWithin (2 ^ 62 - 1) s.latches → Grows i s (outcome i call o s).change.state
grows-outcome i call o s few = walk_outcome i (λ s c. Grows i s c.state) (λ s c. Grows i s c.state) (grows_closed i) (λ s c g. g) call o s (λ e name l is. grows-latch i call name l s few)

most-outcome : (i : ℕ) (call : Invocation) (o : Op) (s : GroupState) (q : ℕ × ℕ) (n : ℕ) → AtMost s.memory q n → AtMost (outcome i call o s).change.state.memory q n
most-outcome i call o s = walk_outcome i (λ s c. (q : ℕ × ℕ) (n : ℕ) → AtMost s.memory q n → AtMost c.state.memory q n) (λ s c. (q : ℕ × ℕ) (n : ℕ) → AtMost s.memory q n → AtMost c.state.memory q n) (most_closed i) (λ s c g. g) call o s
    (λ e name l is. walk_on_latch i (λ s c. (q : ℕ × ℕ) (n : ℕ) → AtMost s.memory q n → AtMost c.state.memory q n) (most_closed i) call name l (latch_step s.latches name call l).outcome (record s { latches = (latch_step s.latches name call l).after }))

-- the memory row of a call with a session may take the call's number
abbrev pub MayTake : Option ℕ → Invocation → GroupState → Type 0
MayTake None call s = Unit {0}
MayTake (Some session) call s = AtMost s.memory (session, call.thread.0) call.number

grows-remembered : (i : ℕ) (so : Option ℕ) (call : Invocation) (a : Option Answer) (s : GroupState) → MayTake so call s → Grows i s (remembered so call a s)
grows-remembered i None call a s may = grows_same i s
grows-remembered i (Some session) call a s may = record {
  destroyed_group = λ h. refl;
  gone = λ key h. h;
  latch = λ name c round h. inr h;
  opened = λ n client l h. h;
  memory = λ n client thread m l o h. remember-reaches s.memory session call.thread call.number a (n, thread) m may h;
}

may-join : (so : Option ℕ) (call : Invocation) (w : Waiter) (s : GroupState) → MayTake so call s → MayTake so call (join w s)
may-join None call w s h = h
may-join (Some session) call w s h = h

grows-settle : (i : ℕ) (so : Option ℕ) (call : Invocation) (r : Reply) (c : Change) → MayTake so call c.state → Grows i c.state (settle so call r c).state
grows-settle i so call (Answered a) c may = grows-remembered i so call (Some a) c.state may
grows-settle i so call (Waits w) c may = either (λ (r : Applied). Grows i c.state r.state) (stands call c.state.waiters) _ _ (grows_same i c.state)
    (either (λ (r : Applied). Grows i c.state r.state) _ _ _
    (grows_on i c.state (join w c.state) _ (grows-same_parts i c.state (join w c.state) refl refl refl refl refl) (grows-remembered i so call None (join w c.state) (may-join so call w c.state may)))
    (grows-remembered i so call (Some (answer.TableFull most)) c.state may))

may-outcome : (i : ℕ) (so : Option ℕ) (call : Invocation) (o : Op) (s : GroupState) → MayTake so call s → MayTake so call (outcome i call o s).change.state
may-outcome i None call o s h = tt
may-outcome i (Some session) call o s h = most-outcome i call o s (session, call.thread.0) call.number h

pub grows-perform : (i : ℕ) (call : Invocation) (o : Op) (s : GroupState) → RoundsWithin (2 ^ 62 - 1) s.latches → MayTake (session_in o) call s → Grows i s (perform i call o s).state
grows-perform i call o s few may = grows_on i s (outcome i call o s).change.state _ (grows-outcome i call o s few) (grows-settle i (session_in o) call _ (outcome i call o s).change (may-outcome i (session_in o) call o s may))

-- where the memory row has no greater number
pub fresh : (call : Invocation) (session : ℕ) (s : GroupState) (o : Option MemoryRow) → find holder_cmp s.memory (session, call.thread.0) ≡ o → ((row : MemoryRow) → o ≡ Some row → row.number ≤ call.number) → AtMost s.memory (session, call.thread.0) call.number
fresh call session s o is most row there = most row (sym is ∙ there)

grows-memory : (i : ℕ) (call : Invocation) (o : Op) (session : ℕ) (row : Option MemoryRow) (s : GroupState) → session_in o ≡ Some session → find holder_cmp s.memory (session, call.thread.0) ≡ row → RoundsWithin (2 ^ 62 - 1) s.latches → Grows i s (by_memory i call o row s).state
grows-memory i call o session None s so is few = grows-perform i call o s few (rw so (λ row there. absurd (none_some row (sym is ∙ there))))
  where
    none_some : (row : MemoryRow) → None ≡ Some row → ⊥
    none_some row e = cc
grows-memory i call o session (Some row) s so is few = either (λ (r : Applied). Grows i s r.state) (row.number == call.number) _ _ (grows_same i s)
    (cases (λ (r : Applied). Grows i s r.state) (nat_lt call.number row.number) _ _ (λ e. grows_same i s)
    (λ e. grows-perform i call o s few (rw so (λ other there. let same : other ≡ row = same_some (sym there ∙ is) in rw same (not_less call.number row.number e)))))

grows-session : (i : ℕ) (call : Invocation) (o : Op) (so : Option ℕ) (s : GroupState) → session_in o ≡ so → RoundsWithin (2 ^ 62 - 1) s.latches → Grows i s (by_session i call o so s).state
grows-session i call o None s is few = grows-perform i call o s few (rw is tt)
grows-session i call o (Some session) s is few = either (λ (r : Applied). Grows i s r.state) (is_open_for s.sessions session call.client) _ _
    (grows-memory i call o session _ s is refl few) (grows_same i s)

pub grows-supersede : (i : ℕ) (call : Invocation) (s : GroupState) → Grows i s (supersede call s).state
grows-supersede i call s = walk_supersede i (λ s c. Grows i s c.state) (grows_closed i) call s

grows-call : (i : ℕ) (call : Invocation) (o : Op) (s : GroupState) → RoundsWithin (2 ^ 62 - 1) s.latches → Grows i s (apply_call i call o s).state
grows-call i call o s few = either (λ (r : Applied). Grows i s r.state) (s.destroyed_group.0 == 0) _ _
    (grows_on i s (supersede call s).state _ (grows-supersede i call s) (grows-session i call o (session_in o) (supersede call s).state refl (within-supersede call _ s few))) (grows_same i s)

grows-destroy : (i : ℕ) (group : GroupId) (s : GroupState) → Grows i s (destroy_group group s).state
grows-destroy i group s = grows_on i s (record s { destroyed_group = if s.destroyed_group.0 == 0 then group else s.destroyed_group }) _
    (record { destroyed_group = λ h. rw h; gone = λ key h. h; latch = λ name c round h. inr h; opened = λ n client l h. h; memory = λ n client thread m l o h. h })
    (walk_end_all i (λ s c. Grows i s c.state) (grows_closed i) (λ w. true) (λ w. answer.GroupDestroyed group) _)

pub grows-apply : (i : ℕ) (e : Entry) (s : GroupState) → RoundsWithin (2 ^ 62 - 1) s.latches → Grows i s (apply i e s).state
grows-apply i entry.Empty s few = grows_same i s
grows-apply i (entry.Call call o) s few = either (λ (r : Applied). Grows i s r.state) (is_elsewhere o) _ _ (grows_same i s) (grows-call i call o s few)
grows-apply i (entry.SessionsExpired pairs) s few = walk_close i (λ s c. Grows i s c.state) (grows_closed i) (unchanged_since s.sessions pairs) s
grows-apply i (entry.WaitsExpired calls) s few = walk_time_out i (λ s c. Grows i s c.state) (grows_closed i) calls s
grows-apply i (entry.Members call plan members) s few = grows_same i s
grows-apply i (entry.Destroy group) s few = grows-destroy i group s
grows-apply i (entry.Destroyed group) s few = grows_same i s
grows-apply i (entry.Moved group at members) s few = grows_same i s
grows-apply i (entry.Left member) s few = grows_same i s
