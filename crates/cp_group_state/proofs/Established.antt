-- After its entry a call is settled, unless it counts down and was told that the latches are full.
use Rattle.std.proofs.Common.{◌≡◌, ℕ, ◌<◌, ◌≤◌, ◌⊎◌, inl, inr, Bool, true, false, not, ◌&&◌, ◌||◌, List, [], ◌∷◌, ◌++◌, Some, None, Option, refl, sym, ◌∙◌, subst, arith, le_refl}
use Rattle.std.specs.Prelude.{◌==◌, nat_lt, is_some, Contains, length}
use Rattle.std.proofs.lemmas.Bool.Decides.{nat_tests}
use Rattle.std.proofs.lemmas.List.Elements.{All-filter, All-contains, All-contains_itself}
use Rattle.std.specs.List.{list_any}
use Rattle.std.specs.BTreeMap.{is_at}
use Rattle.cp_op_values.specs.declared.kind.Kind.{Kind}
use Rattle.cp_op_values.specs.declared.kind.Kind.TheVariants as kind
use Rattle.cp_base.specs.declared.identifier.Invocation.{Invocation}
use Rattle.cp_base.proofs.Tests.{no_true}
use Rattle.cp_answers.specs.declared.answer.Answer.{Answer}
use Rattle.cp_answers.specs.declared.answer.Answer.TheVariants as answer
use Rattle.cp_object_ops.specs.declared.latch_op.LatchOp.TheVariants as latch
use Rattle.cp_ops.specs.declared.op.Op.{Op}
use Rattle.cp_ops.specs.declared.op.Op.TheVariants as op
use Rattle.cp_group_state.specs.Rows.{find, put, without, holder_cmp, name_cmp, object_cmp, most}
use Rattle.cp_group_state.specs.Waiters.{Waiter, stands, same_call, still_waiting}
use Rattle.cp_group_state.specs.Memory.{MemoryRow}
use Rattle.cp_group_state.specs.Sessions.{is_open_for}
use Rattle.cp_group_state.specs.Latches.{LatchRow, latch_at, latch_step, most_counted, LatchOutcome}
use Rattle.cp_group_state.specs.Latches as countdown
use Rattle.cp_group_state.specs.Closing.{end_sessions}
use Rattle.cp_group_state.specs.GroupState.{GroupState}
use Rattle.cp_group_state.specs.Changes.{Change}
use Rattle.cp_group_state.specs.Apply.{Applied, supersede, outcome, remembered, settle, join, perform, by_memory, by_session}
use Rattle.cp_group_state.specs.Outcomes.{Reply, Answered, Waits}
use Rattle.cp_group_state.specs.Protected.{session_in}
use Rattle.cp_group_state.specs.Destroying.{is_gone, add_gone, drop_rows}
use Rattle.cp_group_state.specs.LatchRules.{on_latch}
use Rattle.cp_group_state.specs.Protected.{down_in}
use Rattle.cp_group_state.specs.Repeats.{is_full_answer}
use Rattle.cp_group_state.specs.History.{IsReached}
use Rattle.cp_group_state.proofs.Keyed.{equal_is, find-put_same, find-without_other, holder_key, name_key}
use Rattle.cp_group_state.proofs.Walk.{cases, either, Closed, walk_on_latch, walk_supersede, keep_settle}
use Rattle.cp_group_state.proofs.Grows.{Reaches, Grows, Over, grows_closed, gone-put, gone-put_same}
use Rattle.cp_group_state.proofs.Latches.{down-over, same_call_itself}
use Rattle.cp_group_state.proofs.Settled.{Settled, alive, SettledDown}

-- No change makes waiters.
pub fewer_closed : (i : ℕ) → Closed i (λ s c. (w : Waiter) → Contains c.state.waiters w → Contains s.waiters w)
fewer_closed i = record {
  stays = λ s w h. h;
  joins = λ s c d f g w h. f w (g w h);
  ends = λ s ended all w h. All-contains (Contains s.waiters) (still_waiting ended s.waiters) w (All-filter (λ w. not (list_any (λ e. same_call e.waiter.call w.call) ended)) (Contains s.waiters) s.waiters (All-contains_itself s.waiters)) h;
  handed = λ s c name w g. g;
  freed = λ s c sessions g. g;
  serves = λ s c key row is g. g;
  permits = λ s c key o g. g;
  backs = λ s c sessions g. g;
  closes = λ s sessions w h. All-contains (Contains s.waiters) (still_waiting (end_sessions sessions s).ended s.waiters) w (All-filter (λ w. not (list_any (λ e. same_call e.waiter.call w.call) (end_sessions sessions s).ended)) (Contains s.waiters) s.waiters (All-contains_itself s.waiters)) h;
  acquires = λ s c name who limit g. g;
  releases = λ s c name who g. g;
  longs = λ s c name o g. g;
  refs = λ s c name o g. g;
  maps = λ s c name o g. g;
  opens = λ s c client fresh g. g;
  beats = λ s c number row is g. g;
  drops = λ s c name which g w h. subst (λ ws. Contains ws w) (drop-waiters name which s) (g w h);
}
  where
    drop-waiters : (name : List ℕ) (which : Kind) (s : GroupState) → (drop_rows name which s).waiters ≡ s.waiters
    drop-waiters name kind.Long s = refl
    drop-waiters name kind.Ref s = refl
    drop-waiters name kind.Map s = refl
    drop-waiters name kind.Lock s = refl
    drop-waiters name kind.Sem s = refl
    drop-waiters name kind.Jsem s = refl
    drop-waiters name kind.Latch s = refl

-- A round that was reached stays so, or its latch is destroyed.
reached-latch : (rows : List (List ℕ × LatchRow)) (gone : List ((List ℕ × Kind) × Unit {0})) (name q : List ℕ) (round : ℕ) → round ≤ (latch_at rows q).round
    → (is_some (find object_cmp (put object_cmp gone (name, kind.Latch) tt) (q, kind.Latch)) ≡ true) ⊎ (round ≤ (latch_at (without name_cmp rows name) q).round)
reached-latch rows gone name q round h = by (is_at (name_cmp q) name) refl where
  by : (b : Bool) → is_at (name_cmp q) name ≡ b → (is_some (find object_cmp (put object_cmp gone (name, kind.Latch) tt) (q, kind.Latch)) ≡ true) ⊎ (round ≤ (latch_at (without name_cmp rows name) q).round)
  by true e = let same : q ≡ name = name_key.same q name (equal_is _ e) in inl (rw same (gone-put_same gone (name, kind.Latch)))
  by false e = inr (rw (find-without_other name_cmp name_key rows name q e) h)

reached-drop : (name : List ℕ) (which : Kind) (s : GroupState) (q : List ℕ) (round : ℕ) → IsReached s (Some (q, round)) → IsReached (add_gone (name, which) (drop_rows name which s)) (Some (q, round))
reached-drop name kind.Long s q round (inl h) = inl (gone-put s.gone (name, kind.Long) (q, kind.Latch) h)
reached-drop name kind.Ref s q round (inl h) = inl (gone-put s.gone (name, kind.Ref) (q, kind.Latch) h)
reached-drop name kind.Map s q round (inl h) = inl (gone-put s.gone (name, kind.Map) (q, kind.Latch) h)
reached-drop name kind.Lock s q round (inl h) = inl (gone-put s.gone (name, kind.Lock) (q, kind.Latch) h)
reached-drop name kind.Sem s q round (inl h) = inl (gone-put s.gone (name, kind.Sem) (q, kind.Latch) h)
reached-drop name kind.Jsem s q round (inl h) = inl (gone-put s.gone (name, kind.Jsem) (q, kind.Latch) h)
reached-drop name kind.Latch s q round (inl h) = inl (gone-put s.gone (name, kind.Latch) (q, kind.Latch) h)
reached-drop name kind.Long s q round (inr h) = inr h
reached-drop name kind.Ref s q round (inr h) = inr h
reached-drop name kind.Map s q round (inr h) = inr h
reached-drop name kind.Lock s q round (inr h) = inr h
reached-drop name kind.Sem s q round (inr h) = inr h
reached-drop name kind.Jsem s q round (inr h) = inr h
reached-drop name kind.Latch s q round (inr h) = reached-latch s.latches s.gone name q round h

reached_closed : (i : ℕ) → Closed i (λ s c. (q : List ℕ) (round : ℕ) → IsReached s (Some (q, round)) → IsReached c.state (Some (q, round)))
reached_closed i = record {
  stays = λ s q n h. h;
  joins = λ s c d f g q n h. g q n (f q n h);
  ends = λ s ended all q n h. h;
  handed = λ s c name w g. g;
  freed = λ s c sessions g. g;
  serves = λ s c key row is g. g;
  permits = λ s c key o g. g;
  backs = λ s c sessions g. g;
  closes = λ s sessions q n h. h;
  acquires = λ s c name who limit g. g;
  releases = λ s c name who g. g;
  longs = λ s c name o g. g;
  refs = λ s c name o g. g;
  maps = λ s c name o g. g;
  opens = λ s c client fresh g. g;
  beats = λ s c number row is g. g;
  drops = λ s c name which g q n h. g q n (reached-drop name which s q n h);
}

pub reached-supersede : (call : Invocation) (s : GroupState) (down : Option (List ℕ × ℕ)) → IsReached s down → IsReached (supersede call s).state down
reached-supersede call s None h = tt
reached-supersede call s (Some down) h = walk_supersede 0 (λ s c. (q : List ℕ) (round : ℕ) → IsReached s (Some (q, round)) → IsReached c.state (Some (q, round))) (reached_closed 0) call s down.0 down.1 h

-- a call with a session
remembered-reaches : (session : ℕ) (call : Invocation) (a : Option Answer) (s : GroupState) → Reaches (remembered (Some session) call a s).memory (session, call.thread.0) call.number
remembered-reaches session call a s = (record { number = call.number; answer = a }, find-put_same holder_cmp holder_key s.memory (session, call.thread.0) (record { number = call.number; answer = a }), le_refl call.number)

session-no_down : (o : Op) (session : ℕ) → session_in o ≡ Some session → down_in o ≡ None
session-no_down (op.Long name l) session e = refl
session-no_down (op.Ref name l) session e = refl
session-no_down (op.Map name l) session e = refl
session-no_down (op.Lock name l) session e = refl
session-no_down (op.Sem name l) session e = refl
session-no_down (op.Jsem name l) session e = refl
session-no_down (op.Latch name l) session e = absurd (none_some session e)
  where
    none_some : (x : ℕ) → None ≡ Some x → ⊥
    none_some x e = cc
session-no_down (op.Session l) session e = refl
session-no_down (op.Destroy which name) session e = refl
session-no_down (op.Group o) session e = refl
session-no_down (op.Member o) session e = refl
session-no_down (op.Change o) session e = refl

of-reaches : (i : ℕ) (s : GroupState) (call : Invocation) (o : Op) (session : ℕ) → session_in o ≡ Some session → session < i → (is_open_for s.sessions session call.client ≡ true → Reaches s.memory (session, call.thread.0) call.number) → Settled i s call o
of-reaches i s call o session so below h = alive (rw so (below, h)) (rw (session-no_down o session so) tt)

settle-settled : (i : ℕ) (session : ℕ) (call : Invocation) (o : Op) (r : Reply) (c : Change) → session_in o ≡ Some session → session < i → (stands call c.state.waiters ≡ true → Settled i c.state call o)
    → Settled i (settle (Some session) call r c).state call o
settle-settled i session call o (Answered a) c so below h = of-reaches i _ call o session so below (λ x. remembered-reaches session call (Some a) c.state)
settle-settled i session call o (Waits w) c so below h = cases (λ (r : Applied). Settled i r.state call o) (stands call c.state.waiters) _ _ h
    (λ e. either (λ (r : Applied). Settled i r.state call o) (nat_lt (length c.state.waiters) most) _ _
    (of-reaches i (remembered (Some session) call None (join w c.state)) call o session so below (λ x. remembered-reaches session call None (join w c.state)))
    (of-reaches i (remembered (Some session) call (Some (answer.TableFull most)) c.state) call o session so below (λ x. remembered-reaches session call (Some (answer.TableFull most)) c.state)))

-- a standing waiter of this call was settled, after its rule too
abbrev pub StandsSettled : ℕ → GroupState → Invocation → Op → Type 0
StandsSettled i s call o = stands call (outcome i call o s).change.state.waiters ≡ true → Settled i (outcome i call o s).change.state call o

perform-settled : (i : ℕ) (session : ℕ) (call : Invocation) (o : Op) (s : GroupState) → session_in o ≡ Some session → session < i → StandsSettled i s call o → Settled i (perform i call o s).state call o
perform-settled i session call o s so below h = subst (λ x. Settled i (settle x call (outcome i call o s).reply (outcome i call o s).change).state call o) (sym so)
    (settle-settled i session call o (outcome i call o s).reply (outcome i call o s).change so below h)

memory-settled : (i : ℕ) (session : ℕ) (call : Invocation) (o : Op) (s : GroupState) (row : Option MemoryRow) → find holder_cmp s.memory (session, call.thread.0) ≡ row → session_in o ≡ Some session → session < i → StandsSettled i s call o → Settled i (by_memory i call o row s).state call o
memory-settled i session call o s None is so below h = perform-settled i session call o s so below h
memory-settled i session call o s (Some row) is so below h = cases (λ (r : Applied). Settled i r.state call o) (row.number == call.number) _ _
    (λ e. of-reaches i s call o session so below (λ x. (row, is, at_same row.number call.number e)))
    (λ e. cases (λ (r : Applied). Settled i r.state call o) (nat_lt call.number row.number) _ _
    (λ l. of-reaches i s call o session so below (λ x. (row, is, at_less call.number row.number l)))
    (λ l. perform-settled i session call o s so below h))
  where
    at_same : (a b : ℕ) → (a == b) ≡ true → b ≤ a
    at_same a b h = grind (arith, nat_tests)

    at_less : (a b : ℕ) → nat_lt a b ≡ true → a ≤ b
    at_less a b h = grind (arith, nat_tests)

pub session-settled : (i : ℕ) (session : ℕ) (call : Invocation) (o : Op) (s : GroupState) → session_in o ≡ Some session → session < i → StandsSettled i s call o → Settled i (by_session i call o (Some session) s).state call o
session-settled i session call o s so below h = cases (λ (r : Applied). Settled i r.state call o) (is_open_for s.sessions session call.client) _ _
    (λ e. memory-settled i session call o s _ refl so below h)
    (λ e. of-reaches i s call o session so below (λ x. absurd (no_true (sym x ∙ e))))

-- a count down
pub list_any-right : {X : Type 0} (test : X → Bool) (xs ys : List X) → list_any test ys ≡ true → list_any test (xs ++ ys) ≡ true
list_any-right test [] ys h = h
list_any-right test (x ∷ xs) ys h = at (test x) (list_any-right test xs ys h) where
  at : (b : Bool) → list_any test (xs ++ ys) ≡ true → (b || list_any test (xs ++ ys)) ≡ true
  at true e = refl
  at false e = e

abbrev pub DownSettled : GroupState → List (Invocation × Answer) → Invocation → List ℕ → ℕ → Type 0
DownSettled s answers call name round = SettledDown s call (Some (name, round)) ⊎ (list_any (λ a. same_call call a.0 && is_full_answer a.1) answers ≡ true)

over-settled : (i : ℕ) (s t : GroupState) (call : Invocation) (name : List ℕ) (round : ℕ) → Grows i s t → Over s.latches name call round → SettledDown t call (Some (name, round))
over-settled i s t call name round g over = g.latch name call round over

down-rule : (i : ℕ) (call : Invocation) (name : List ℕ) (round : ℕ) (s : GroupState) → (r : LatchOutcome) (rows : List (List ℕ × LatchRow)) → (r ≡ countdown.Done (answer.TableFull most_counted)) ⊎ Over rows name call round
    → DownSettled (settle None call (on_latch call name (latch.Down round) r (record s { latches = rows })).reply (on_latch call name (latch.Down round) r (record s { latches = rows })).change).state
    (settle None call (on_latch call name (latch.Down round) r (record s { latches = rows })).reply (on_latch call name (latch.Down round) r (record s { latches = rows })).change).answers call name round
down-rule i call name round s r rows (inl e) = inr (rw (e, same_call_itself call))
down-rule i call name round s r rows (inr over) = inl (keep_settle (λ t. SettledDown t call (Some (name, round))) (λ t ws m g. g) None call (on_latch call name (latch.Down round) r (record s { latches = rows })).reply (on_latch call name (latch.Down round) r (record s { latches = rows })).change
    (over-settled i (record s { latches = rows }) _ call name round (walk_on_latch i (λ s c. Grows i s c.state) (grows_closed i) call name (latch.Down round) r (record s { latches = rows })) over))

pub down-perform : (i : ℕ) (call : Invocation) (name : List ℕ) (round : ℕ) (s : GroupState) → IsReached s (Some (name, round)) → DownSettled (perform i call (op.Latch name (latch.Down round)) s).state (perform i call (op.Latch name (latch.Down round)) s).answers call name round
down-perform i call name round s reached = at (is_gone s (name, kind.Latch)) refl reached
  where
    at : (b : Bool) → is_gone s (name, kind.Latch) ≡ b → IsReached s (Some (name, round)) → DownSettled (perform i call (op.Latch name (latch.Down round)) s).state (perform i call (op.Latch name (latch.Down round)) s).answers call name round
    at true e h = inl (inl (rw e e))
    at false e (inl h) = absurd (no_true (sym h ∙ e))
    at false e (inr h) = rw e (down-rule i call name round s (latch_step s.latches name call (latch.Down round)).outcome (latch_step s.latches name call (latch.Down round)).after (down-over s.latches name call round h))
