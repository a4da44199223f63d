-- Each call acts at most once.
use Rattle.std.proofs.Common.{◌≡◌, ℕ, suc, ◌+◌, ◌-◌, ◌^◌, ◌<◌, ◌≤◌, ◌⊎◌, inl, inr, Bool, true, false, not, ◌&&◌, ◌||◌, List, [], ◌∷◌, ◌++◌, Some, None, Option, refl, ap, sym, ◌∙◌, subst, arith, if◌then◌else◌}
use Rattle.std.specs.Prelude.{◌==◌, nat_lt, is_some, Contains, length}
use Rattle.std.proofs.lemmas.List.Elements.{Contains-append_left, Contains-append_right, Contains-push, Contains-push_cases, Contains-append_cases, All-nil}
use Rattle.std.specs.List.{list_any}
use Rattle.std.proofs.lemmas.Bool.{and_parts}
use Rattle.cp_op_values.specs.declared.kind.Kind.TheVariants as kind
use Rattle.cp_base.specs.declared.identifier.Invocation.{Invocation}
use Rattle.cp_base.proofs.Tests.{same_some, no_true, same_number, number_itself}
use Rattle.cp_answers.specs.declared.answer.Answer.{Answer}
use Rattle.cp_answers.specs.declared.answer.Answer.TheVariants as answer
use Rattle.cp_object_ops.specs.declared.latch_op.LatchOp.TheVariants as latch
use Rattle.cp_ops.specs.declared.op.Op.{Op}
use Rattle.cp_ops.specs.declared.op.Op.TheVariants as op
use Rattle.cp_ops.specs.declared.entry.Entry.{Entry}
use Rattle.cp_ops.specs.declared.entry.Entry.TheVariants as entry
use Rattle.cp_group_state.specs.Rows.{find, holder_cmp, most}
use Rattle.cp_group_state.specs.Waiters.{Waiter, stands, same_call, same_client}
use Rattle.cp_group_state.specs.Memory.{MemoryRow, has_memory}
use Rattle.cp_group_state.specs.Sessions.{is_open_for, unchanged_since}
use Rattle.cp_group_state.specs.Latches.{LatchRow, LatchOutcome, latch_step}
use Rattle.cp_group_state.specs.Latches as countdown
use Rattle.cp_group_state.specs.GroupState.{GroupState, empty}
use Rattle.cp_group_state.specs.Changes.{Change}
use Rattle.cp_group_state.specs.Apply.{Applied, supersede, outcome, remembered, settle, settle_wait, join, perform, by_memory, by_session, apply_call, is_elsewhere, apply, run, told}
use Rattle.cp_group_state.specs.Outcomes.{Reply, Answered, Waits, Outcome}
use Rattle.cp_group_state.specs.LatchRules.{on_latch}
use Rattle.cp_group_state.specs.Protected.{session_in}
use Rattle.cp_group_state.specs.Destroying.{is_gone}
use Rattle.cp_group_state.specs.Protected.{down_in, is_protected}
use Rattle.cp_group_state.specs.Repeats.{EntryOrRepeat, apply_or_repeat, apply_repeat, run_without_repeats, is_refused, is_full_answer, settled_by, without_repeat, without_repeats_from, IsOwnAnswer, MayAnswer, IsRepeat, SameAnswers, Agree, ActsAtMostOnce}
use Rattle.cp_group_state.specs.History.{IsBelow, IsReached, IsOrderlyAt, IsOrderlyFrom, IsOrderly}
use Rattle.cp_group_state.proofs.Keyed.{same-client, same-thread}
use Rattle.cp_group_state.proofs.Walk.{cases, either, walk_supersede, walk_outcome, walk_on_latch, walk_close, walk_time_out, walk_end_all}
use Rattle.cp_group_state.proofs.Grows.{Grows, grows_on}
use Rattle.cp_group_state.proofs.Steps.{RoundsWithin, grows-supersede, grows-outcome, within-supersede, grows-apply, within-apply}
use Rattle.cp_group_state.proofs.Settled.{Settled, dead, alive, SettledSession, SettledDown, grows-settled, grows-settled_session, grows-settled_down, later, Again, again, down-shape}
use Rattle.cp_group_state.proofs.Established.{fewer_closed, reached-supersede, StandsSettled, session-settled, down-perform, DownSettled, list_any-right}
use Rattle.cp_group_state.proofs.Told.{Told, Tells, tells_closed, own-outcome, IsOwnWait, memory_of, told-apply}
use Rattle.cp_group_state.proofs.Waiting.{Waiting, waiting_row, waits-apply, waits-supersede, fewer-outcome}
use Rattle.cp_group_state.proofs.Opened.{Opened, opened-apply, opened-supersede}
use Rattle.cp_group_state.proofs.Dead.{NoneLeft, left-apply}

pub same-call : (a b : Invocation) → same_call a b ≡ true → a ≡ b
same-call a b h = let x = and_parts (same_client a.client b.client) _ h in let y = and_parts (a.thread.0 == b.thread.0) (a.number == b.number) x.1 in
    let c = same-client a.client b.client x.0 in let t = same-thread a.thread b.thread (same_number a.thread.0 b.thread.0 y.0) in let n = same_number a.number b.number y.1 in
    λ j. record { client = c j; thread = t j; number = n j }

any-some : {X : Type 0} (test : X → Bool) (xs : List X) → list_any test xs ≡ true → (x : X) × Contains xs x × (test x ≡ true)
any-some test [] h = absurd (no_true (sym h))
any-some {X} test (x ∷ xs) h = at (test x) refl h (any-some test xs)
  where
    at : (b : Bool) → test x ≡ b → (b || list_any test xs) ≡ true → (list_any test xs ≡ true → (y : X) × Contains xs y × (test y ≡ true)) → (y : X) × Contains (x ∷ xs) y × (test y ≡ true)
    at true e h rest = (x, Contains-append_left (x ∷ []) xs x (Contains-push [] x), e)
    at false e h rest = let r = rest h in (r.0, Contains-append_right (x ∷ []) xs r.0 r.1, r.2)

acts-here : (o : Op) → is_protected o ≡ true → is_elsewhere o ≡ false
acts-here (op.Long name l) h = refl
acts-here (op.Ref name l) h = refl
acts-here (op.Map name l) h = refl
acts-here (op.Lock name l) h = refl
acts-here (op.Sem name l) h = refl
acts-here (op.Jsem name l) h = refl
acts-here (op.Latch name l) h = refl
acts-here (op.Session l) h = refl
acts-here (op.Destroy which name) h = refl
acts-here (op.Group o) h = cc
acts-here (op.Member o) h = cc
acts-here (op.Change o) h = cc

-- A repeat of a settled call.
abbrev pub Repeats : ℕ → List (Invocation × Answer) → Invocation → Op → GroupState → Type 0
Repeats i past call o s = ((apply_repeat call s).state ≡ (apply_call i call o s).state) × IsRepeat past call o (apply_repeat call s) (apply_call i call o s)

may-answer : (i : ℕ) (past : List (Invocation × Answer)) (call : Invocation) (o : Op) (t : GroupState) (a : Again i t call o) → Told i past t → MayAnswer past call o a.own
may-answer i past call o t a h = at a.own refl
  where
    from_row : (x : Answer) (session : ℕ) (row : MemoryRow) → is_open_for t.sessions session call.client ≡ true → find holder_cmp t.memory (session, call.thread.0) ≡ Some row → row.number ≡ call.number → row.answer ≡ Some x → Contains past (call, x)
    from_row x session row opened_for there n is = let in_past = (h.memory session call.thread.0 row there).1 x is call.client opened_for in
        subst (λ (m : ℕ). Contains past (record { client = call.client; thread = call.thread; number = m }, x)) n in_past

    at : (own : Option Answer) → a.own ≡ own → MayAnswer past call o own
    at None e = tt
    at (Some x) e = by (a.from x e)
      where
        by : IsOwnAnswer o x ⊎ ((session : ℕ) × (row : MemoryRow) × (session_in o ≡ Some session) × (is_open_for t.sessions session call.client ≡ true) × (find holder_cmp t.memory (session, call.thread.0) ≡ Some row) × (row.number ≡ call.number) × (row.answer ≡ Some x)) → MayAnswer past call o (Some x)
        by (inl y) = inr y
        by (inr y) = inl (from_row x y.0 y.1 y.3 y.4 y.5 y.6)

-- the waiter of a call that acts once has the call's session, which is open, and a row that waits
abbrev pub StandsFor : Invocation → Op → GroupState → Type 0
StandsFor call o s = (w : Waiter) → Contains s.waiters w → w.call ≡ call → (session_in o ≡ memory_of w) × (is_some (down_in o) ≡ false)

waits-silent : (i : ℕ) (call : Invocation) (o : Op) (t : GroupState) → is_protected o ≡ true → StandsFor call o t → Waiting t → Opened t → stands call t.waiters ≡ true → (a : Again i t call o) → a.own ≡ None
waits-silent i call o t acts origin waiting opened_all standing a =
    let found = any-some (λ w. same_call call w.call) t.waiters standing in
    at found.0 found.1 (sym (same-call call found.0.call found.2)) (session_in o) refl
  where
    both : (x y : Bool) → (x || y) ≡ true → y ≡ false → x ≡ true
    both true y h k = refl
    both false y h k = absurd (no_true (sym h ∙ k))

    has : (w : Waiter) (session : ℕ) → Some session ≡ memory_of w → (has_memory w.kind ≡ true) × (session ≡ w.session)
    has w session e = by (has_memory w.kind) refl e
      where
        by : (b : Bool) → has_memory w.kind ≡ b → Some session ≡ (if b then Some w.session else None) → (has_memory w.kind ≡ true) × (session ≡ w.session)
        by true m e = (m, same_some e)
        by false m e = absurd (some_none e)
          where
            some_none : Some session ≡ None → ⊥
            some_none e = cc

    at : (w : Waiter) → Contains t.waiters w → w.call ≡ call → (so : Option ℕ) → session_in o ≡ so → a.own ≡ None
    at w there same None so = absurd (no_true (sym (both (is_some (session_in o)) (is_some (down_in o)) acts (origin w there same).1) ∙ ap (λ (x : Option ℕ). is_some x) so))
    at w there same (Some session) so = let m = has w session (sym so ∙ (origin w there same).0) in
        let row : find holder_cmp t.memory (session, call.thread.0) ≡ Some (waiting_row w) = ap (λ (q : ℕ × ℕ). find holder_cmp t.memory q) (λ j. (m.1 j, (sym same j).thread.0)) ∙ waiting w there m.0 (opened_all w there m.0) in
        let o_is : is_open_for t.sessions session call.client ≡ true = subst (λ (c : Invocation). is_open_for t.sessions session c.client ≡ true) same (subst (λ (y : ℕ). is_open_for t.sessions y w.call.client ≡ true) (sym m.1) (opened_all w there m.0)) in
        a.by session so ∙ (rw (o_is, row, ap (λ (c : Invocation). c.number) same, number_itself call.number) refl)

repeats-alive : (i : ℕ) (past : List (Invocation × Answer)) (call : Invocation) (o : Op) (s : GroupState) → (s.destroyed_group.0 == 0) ≡ true → is_protected o ≡ true → SettledSession i s call (session_in o) → SettledDown s call (down_in o) → Told i past s → StandsFor call o s → Waiting s → Opened s → Repeats i past call o s
repeats-alive i past call o s live acts a b h origin waiting opened_all =
    let t : GroupState = (supersede call s).state in
    let x : Again i (supersede call s).state call o = again i (supersede call s).state call o acts (grows-settled_session i s (supersede call s).state call (session_in o) (grows-supersede i call s) a) (grows-settled_down i s (supersede call s).state call (down_in o) (grows-supersede i call s) b) in
    let told_then : Told i (past ++ told (supersede call s).ended) (supersede call s).state = walk_supersede i (Tells i) (tells_closed i) call s past h in
    rw (live, x.step) (refl, record { own = x.own; answers = refl; may = may-answer i (past ++ told (supersede call s).ended) call o (supersede call s).state x told_then; waits = λ st. waits-silent i call o (supersede call s).state acts (λ w there e. origin w (walk_supersede i (λ s c. (w : Waiter) → Contains c.state.waiters w → Contains s.waiters w) (fewer_closed i) call s w there) e) (waits-supersede i call s h.waiters waiting).1 (opened-supersede i call s h.waiters opened_all).1 st x })

repeats-dead : (i : ℕ) (past : List (Invocation × Answer)) (call : Invocation) (o : Op) (s : GroupState) → (s.destroyed_group.0 == 0) ≡ false → NoneLeft s → Repeats i past call o s
repeats-dead i past call o s gone none = rw gone (
  refl,
  record {
    own = Some (answer.GroupDestroyed s.destroyed_group);
    answers = refl;
    may = inr tt;
    waits = λ st. let found = any-some (λ w. same_call call w.call) s.waiters st in absurd (none gone found.0 found.1);
  },
)

repeats : (i : ℕ) (past : List (Invocation × Answer)) (call : Invocation) (o : Op) (s : GroupState) → is_protected o ≡ true → Settled i s call o → Told i past s → StandsFor call o s → Waiting s → Opened s → NoneLeft s → Repeats i past call o s
repeats i past call o s acts (dead e) h origin waiting opened_all none = repeats-dead i past call o s e none
repeats i past call o s acts (alive a b) h origin waiting opened_all none = at (s.destroyed_group.0 == 0) refl
  where
    at : (c : Bool) → (s.destroyed_group.0 == 0) ≡ c → Repeats i past call o s
    at true e = repeats-alive i past call o s e acts a b h origin waiting opened_all
    at false e = repeats-dead i past call o s e none

-- What holds before the entry at an index, in a history whose entries are all among these.
pub record Well (all : List Entry) (b i : ℕ) (seen : List Invocation) (past : List (Invocation × Answer)) (s : GroupState) : Type 0 where
  pub rounds : RoundsWithin b s.latches
  pub answers : Told i past s
  pub settled : (call : Invocation) → Contains seen call → (o : Op) → Contains all (entry.Call call o) → is_protected o ≡ true → Settled i s call o
  pub waiters : (w : Waiter) → Contains s.waiters w → (o : Op) → Contains all (entry.Call w.call o) → is_protected o ≡ true → Settled i s w.call o
  pub origin : (w : Waiter) → Contains s.waiters w → (o : Op) → Contains all (entry.Call w.call o) → (session_in o ≡ memory_of w) × (is_some (down_in o) ≡ false)
  pub waiting : Waiting s
  pub opened : Opened s
  pub left : NoneLeft s

-- After its entry a call is settled, unless it was told that the latches are full.
stands-settled : (all : List Entry) (i : ℕ) (s : GroupState) (call : Invocation) (o : Op) → RoundsWithin (2 ^ 62 - 1) s.latches → is_protected o ≡ true → Contains all (entry.Call call o)
    → ((w : Waiter) → Contains s.waiters w → (o : Op) → Contains all (entry.Call w.call o) → is_protected o ≡ true → Settled i s w.call o) → StandsSettled i (supersede call s).state call o
stands-settled all i s call o few acts there waiters standing =
    let found = any-some (λ w. same_call call w.call) _ standing in
    let same : call ≡ found.0.call = same-call call found.0.call found.2 in
    let in_t : Contains (supersede call s).state.waiters found.0 = walk_outcome i (λ s c. (w : Waiter) → Contains c.state.waiters w → Contains s.waiters w) (λ s c. (w : Waiter) → Contains c.state.waiters w → Contains s.waiters w) (fewer_closed i) (λ s c g. g) call o (supersede call s).state
    (λ e name l is. walk_on_latch i (λ s c. (w : Waiter) → Contains c.state.waiters w → Contains s.waiters w) (fewer_closed i) call name l (latch_step (supersede call s).state.latches name call l).outcome (record (supersede call s).state { latches = (latch_step (supersede call s).state.latches name call l).after })) found.0 found.1 in
    let in_s : Contains s.waiters found.0 = walk_supersede i (λ s c. (w : Waiter) → Contains c.state.waiters w → Contains s.waiters w) (fewer_closed i) call s found.0 in_t in
    let before : Settled i s call o = subst (λ c. Settled i s c o) (sym same) (waiters found.0 in_s o (subst (λ c. Contains all (entry.Call c o)) same there) acts) in
    grows-settled i s _ call o (grows_on i s (supersede call s).state _ (grows-supersede i call s) (grows-outcome i call o (supersede call s).state (within-supersede call _ s few))) before

abbrev pub IsSettledBy : ℕ → Invocation → Op → Applied → Type 0
IsSettledBy i call o step = Settled i step.state call o ⊎ ((is_some (down_in o) ≡ true) × (is_refused call step ≡ true))

settled-down : (i : ℕ) (call : Invocation) (name : List ℕ) (round : ℕ) (t : GroupState) (before : List (Invocation × Answer)) → IsReached t (Some (name, round))
    → (step : Applied) → step.state ≡ (perform i call (op.Latch name (latch.Down round)) t).state → step.answers ≡ before ++ (perform i call (op.Latch name (latch.Down round)) t).answers → IsSettledBy i call (op.Latch name (latch.Down round)) step
settled-down i call name round t before reached step is answers = at (down-perform i call name round t reached)
  where
    at : DownSettled (perform i call (op.Latch name (latch.Down round)) t).state (perform i call (op.Latch name (latch.Down round)) t).answers call name round → IsSettledBy i call (op.Latch name (latch.Down round)) step
    at (inl h) = inl (rw is (alive tt h))
    at (inr h) = inr (refl, rw answers (list_any-right (λ (a : Invocation × Answer). same_call call a.0 && is_full_answer a.1) before _ h))

settled-alive : (i : ℕ) (call : Invocation) (o : Op) (t : GroupState) (before : List (Invocation × Answer)) → is_protected o ≡ true → IsBelow i (session_in o) → IsReached t (down_in o) → StandsSettled i t call o
    → IsSettledBy i call o (record { state = (by_session i call o (session_in o) t).state; answers = before ++ (by_session i call o (session_in o) t).answers })
settled-alive i call o t before acts below reached stands_it = at (session_in o) refl below
  where
    by_down : session_in o ≡ None → (d : Option (List ℕ × ℕ)) → down_in o ≡ d → IsSettledBy i call o (record { state = (by_session i call o (session_in o) t).state; answers = before ++ (by_session i call o (session_in o) t).answers })
    by_down none None e = absurd (no_true (sym acts ∙ both (session_in o) (down_in o) none e))
      where
        both : (a : Option ℕ) (b : Option (List ℕ × ℕ)) → a ≡ None → b ≡ None → (is_some a || is_some b) ≡ false
        both a b x y = rw (x, y)
    by_down none (Some d) e = let shape : o ≡ op.Latch d.0 (latch.Down d.1) = down-shape o d e in
        subst (λ p. IsSettledBy i call p (record { state = (by_session i call p (session_in p) t).state; answers = before ++ (by_session i call p (session_in p) t).answers })) (sym shape)
        (settled-down i call d.0 d.1 t before (subst (IsReached t) e reached) _ refl refl)

    at : (so : Option ℕ) → session_in o ≡ so → IsBelow i so → IsSettledBy i call o (record { state = (by_session i call o (session_in o) t).state; answers = before ++ (by_session i call o (session_in o) t).answers })
    at (Some session) e h = inl (subst (λ so. Settled i (by_session i call o so t).state call o) (sym e) (session-settled i session call o t e h stands_it))
    at None e h = by_down e (down_in o) refl

call-settled : (all : List Entry) (i : ℕ) (s : GroupState) (call : Invocation) (o : Op) → RoundsWithin (2 ^ 62 - 1) s.latches → is_protected o ≡ true → Contains all (entry.Call call o) → IsBelow i (session_in o) → IsReached s (down_in o)
    → ((w : Waiter) → Contains s.waiters w → (o : Op) → Contains all (entry.Call w.call o) → is_protected o ≡ true → Settled i s w.call o) → IsSettledBy i call o (apply_call i call o s)
call-settled all i s call o few acts there below reached waiters = cases (λ (r : Applied). IsSettledBy i call o r) (s.destroyed_group.0 == 0) _ _
    (λ e. settled-alive i call o (supersede call s).state (told (supersede call s).ended) acts below (reached-supersede call s (down_in o) reached) (stands-settled all i s call o few acts there waiters))
    (λ e. inl (dead e))

-- New waiters.
remembered-waiters : (so : Option ℕ) (call : Invocation) (a : Option Answer) (s : GroupState) (w : Waiter) → Contains (remembered so call a s).waiters w → Contains s.waiters w
remembered-waiters None call a s w h = h
remembered-waiters (Some session) call a s w h = h

abbrev pub IsWaiterOf : Invocation → Option ℕ → Waiter → Type 0
IsWaiterOf call so w = (w.call ≡ call) × (so ≡ memory_of w)

abbrev pub IsNewFor : Invocation → Option ℕ → GroupState → Applied → Type 0
IsNewFor call so s step = (w : Waiter) → Contains step.state.waiters w → Contains s.waiters w ⊎ IsWaiterOf call so w

wait-new : (so : Option ℕ) (call : Invocation) (v : Waiter) (s : GroupState) → IsWaiterOf call so v → IsNewFor call so s (settle_wait so call v s)
wait-new so call v s same = either (λ (r : Applied). IsNewFor call so s r) (stands call s.waiters) _ _ (λ w h. inl h)
    (either (λ (r : Applied). IsNewFor call so s r) (nat_lt (length s.waiters) most) _ _
    (λ w h. at w (Contains-push_cases s.waiters v w (remembered-waiters so call None (join v s) w h))) (λ w h. inl (remembered-waiters so call _ s w h)))
  where
    at : (w : Waiter) → Contains s.waiters w ⊎ (v ≡ w) → Contains s.waiters w ⊎ IsWaiterOf call so w
    at w (inl h) = inl h
    at w (inr e) = inr (subst (IsWaiterOf call so) e same)

settle-new : (so : Option ℕ) (call : Invocation) (r : Reply) (c : Change) → IsOwnWait call so r → IsNewFor call so c.state (settle so call r c)
settle-new so call (Answered a) c own w h = inl (remembered-waiters so call (Some a) c.state w h)
settle-new so call (Waits v) c own w h = wait-new so call v c.state own w h

perform-new : (i : ℕ) (call : Invocation) (o : Op) (s : GroupState) → IsNewFor call (session_in o) s (perform i call o s)
perform-new i call o s w h = at (settle-new (session_in o) call (outcome i call o s).reply (outcome i call o s).change (own-outcome i call o s) w h)
  where
    at : Contains (outcome i call o s).change.state.waiters w ⊎ IsWaiterOf call (session_in o) w → Contains s.waiters w ⊎ IsWaiterOf call (session_in o) w
    at (inl x) = inl (fewer-outcome i call o s w x)
    at (inr x) = inr x

memory-new : (i : ℕ) (call : Invocation) (o : Op) (row : Option MemoryRow) (s : GroupState) → IsNewFor call (session_in o) s (by_memory i call o row s)
memory-new i call o None s = perform-new i call o s
memory-new i call o (Some row) s = either (λ (r : Applied). IsNewFor call (session_in o) s r) (row.number == call.number) _ _ (λ w h. inl h)
    (either (λ (r : Applied). IsNewFor call (session_in o) s r) (nat_lt call.number row.number) _ _ (λ w h. inl h) (perform-new i call o s))

session-new : (i : ℕ) (call : Invocation) (o : Op) (so : Option ℕ) (s : GroupState) → IsNewFor call (session_in o) s (by_session i call o so s)
session-new i call o None s = perform-new i call o s
session-new i call o (Some session) s = either (λ (r : Applied). IsNewFor call (session_in o) s r) (is_open_for s.sessions session call.client) _ _ (memory-new i call o _ s) (λ w h. inl h)

call-new : (i : ℕ) (call : Invocation) (o : Op) (s : GroupState) → IsNewFor call (session_in o) s (apply_call i call o s)
call-new i call o s = either (λ (r : Applied). IsNewFor call (session_in o) s r) (s.destroyed_group.0 == 0) _ _ (λ w h. at w (session-new i call o (session_in o) (supersede call s).state w h)) (λ w h. inl h)
  where
    at : (w : Waiter) → Contains (supersede call s).state.waiters w ⊎ IsWaiterOf call (session_in o) w → Contains s.waiters w ⊎ IsWaiterOf call (session_in o) w
    at w (inl x) = inl (walk_supersede i (λ s c. (w : Waiter) → Contains c.state.waiters w → Contains s.waiters w) (fewer_closed i) call s w x)
    at w (inr x) = inr x

-- a count down makes no waiter
down-fewer : (i : ℕ) (call : Invocation) (name : List ℕ) (round : ℕ) (s : GroupState) (w : Waiter) → Contains (perform i call (op.Latch name (latch.Down round)) s).state.waiters w → Contains s.waiters w
down-fewer i call name round s w = cases (λ (r : Outcome). Contains (settle None call r.reply r.change).state.waiters w → Contains s.waiters w) (is_gone s (name, kind.Latch)) _ _ (λ e h. h)
    (λ e h. by (latch_step s.latches name call (latch.Down round)).outcome (latch_step s.latches name call (latch.Down round)).after h)
  where
    by : (r : LatchOutcome) (rows : List (List ℕ × LatchRow)) → Contains (settle None call (on_latch call name (latch.Down round) r (record s { latches = rows })).reply (on_latch call name (latch.Down round) r (record s { latches = rows })).change).state.waiters w → Contains s.waiters w
    by (countdown.Done a) rows h = h
    by countdown.Wants rows h = h
    by countdown.Opened rows h = walk_on_latch i (λ s c. (w : Waiter) → Contains c.state.waiters w → Contains s.waiters w) (fewer_closed i) call name (latch.Down round) countdown.Opened (record s { latches = rows }) w h

-- the call of an entry
abbrev pub IsCallOf : Entry → Waiter → Type 0
IsCallOf (entry.Call call o) w = IsWaiterOf call (session_in o) w
IsCallOf e w = ⊥

new-apply : (i : ℕ) (e : Entry) (s : GroupState) (w : Waiter) → Contains (apply i e s).state.waiters w → Contains s.waiters w ⊎ IsCallOf e w
new-apply i entry.Empty s w h = inl h
new-apply i (entry.Call call o) s w h = either (λ (r : Applied). Contains r.state.waiters w → Contains s.waiters w ⊎ IsWaiterOf call (session_in o) w) (is_elsewhere o) _ _ (λ h. inl h) (call-new i call o s w) h
new-apply i (entry.SessionsExpired pairs) s w h = inl (walk_close i (λ s c. (w : Waiter) → Contains c.state.waiters w → Contains s.waiters w) (fewer_closed i) (unchanged_since s.sessions pairs) s w h)
new-apply i (entry.WaitsExpired calls) s w h = inl (walk_time_out i (λ s c. (w : Waiter) → Contains c.state.waiters w → Contains s.waiters w) (fewer_closed i) calls s w h)
new-apply i (entry.Members call plan members) s w h = inl h
new-apply i (entry.Destroy group) s w h = inl (walk_end_all i (λ s c. (w : Waiter) → Contains c.state.waiters w → Contains s.waiters w) (fewer_closed i) (λ w. true) (λ w. answer.GroupDestroyed group) (record s { destroyed_group = if s.destroyed_group.0 == 0 then group else s.destroyed_group }) w h)
new-apply i (entry.Destroyed group) s w h = inl h
new-apply i (entry.Moved group at members) s w h = inl h
new-apply i (entry.Left member) s w h = inl h

abbrev pub OneOp : List Entry → Type 0
OneOp all = (call : Invocation) (o p : Op) → Contains all (entry.Call call o) → Contains all (entry.Call call p) → o ≡ p

apply-acts : (i : ℕ) (call : Invocation) (o : Op) (s : GroupState) → is_protected o ≡ true → apply i (entry.Call call o) s ≡ apply_call i call o s
apply-acts i call o s acts = rw (acts-here o acts)

down-waiters : (i : ℕ) (call : Invocation) (o : Op) (s : GroupState) → is_some (down_in o) ≡ true → (w : Waiter) → Contains (apply_call i call o s).state.waiters w → Contains s.waiters w
down-waiters i call o s is w h = at (down_in o) refl is h
  where
    of_down : (name : List ℕ) (round : ℕ) → Contains (apply_call i call (op.Latch name (latch.Down round)) s).state.waiters w → Contains s.waiters w
    of_down name round = either (λ (r : Applied). Contains r.state.waiters w → Contains s.waiters w) (s.destroyed_group.0 == 0) _ _
        (λ h. walk_supersede i (λ s c. (w : Waiter) → Contains c.state.waiters w → Contains s.waiters w) (fewer_closed i) call s w (down-fewer i call name round (supersede call s).state w h)) (λ h. h)

    at : (d : Option (List ℕ × ℕ)) → down_in o ≡ d → is_some (down_in o) ≡ true → Contains (apply_call i call o s).state.waiters w → Contains s.waiters w
    at None e is h = absurd (no_true (sym is ∙ ap is_some e))
    at (Some d) e is h = of_down d.0 d.1 (subst (λ p. Contains (apply_call i call p s).state.waiters w) (down-shape o d e) h)

one-is : {X : Type 0} (x y : X) → Contains (x ∷ []) y → y ≡ x
one-is x y h = at (Contains-push_cases [] x y h)
  where
    at : Contains [] y ⊎ (x ≡ y) → y ≡ x
    at (inl k) = let l = k.1 in absurd (omega arith)
    at (inr e) = sym e

within-le : (a b : ℕ) (rows : List (List ℕ × LatchRow)) → a ≤ b → RoundsWithin a rows → RoundsWithin b rows
within-le a b rows l h = λ k d m. let x = h k d m in omega arith

settled-one : (i : ℕ) (call : Invocation) (o : Op) (step : Applied) → IsSettledBy i call o step → (is_protected o && not (is_some (down_in o) && is_refused call step)) ≡ true → Settled i step.state call o
settled-one i call o step (inl h) e = h
settled-one i call o step (inr h) e = absurd (at (is_protected o) (is_some (down_in o)) (is_refused call step) h.0 h.1 e)
  where
    at : (a d r : Bool) → d ≡ true → r ≡ true → (a && not (d && r)) ≡ true → ⊥
    at true true true x y e = no_true (sym e)
    at false d r x y e = no_true (sym e)
    at true false r x y e = no_true (sym x)
    at true true false x y e = no_true (sym y)

module _ (all : List Entry) (one : OneOp all) where
  -- the call's own entry: what it settles
  by-entry : (b i : ℕ) (seen : List Invocation) (past : List (Invocation × Answer)) (call : Invocation) (o : Op) (s : GroupState) → b < 2 ^ 62 → Well all b i seen past s → Contains all (entry.Call call o) → IsOrderlyAt i (entry.Call call o) s → is_protected o ≡ true
      → IsSettledBy i call o (apply i (entry.Call call o) s)
  by-entry b i seen past call o s few well there ord acts = rw (apply-acts i call o s acts)
      (call-settled all i s call o (within-le b (2 ^ 62 - 1) s.latches (omega arith) well.rounds) acts there ord.0 ord.1 well.waiters)

  settled-next : (b i : ℕ) (seen : List Invocation) (past : List (Invocation × Answer)) (e : Entry) (s : GroupState) → b < 2 ^ 62 → Well all b i seen past s → Contains all e → IsOrderlyAt i e s
      → (c : Invocation) → Contains (settled_by e (apply i e s)) c → (o : Op) → Contains all (entry.Call c o) → is_protected o ≡ true → Settled i (apply i e s).state c o
  settled-next b i seen past (entry.Call call o) s few well there ord c h p in_all acts = at (is_protected o && not (is_some (down_in o) && is_refused call (apply i (entry.Call call o) s))) refl h
    where
      at : (x : Bool) → (is_protected o && not (is_some (down_in o) && is_refused call (apply i (entry.Call call o) s))) ≡ x → Contains (if x then call ∷ [] else []) c → Settled i (apply i (entry.Call call o) s).state c p
      at true e h = let same : c ≡ call = one-is call c h in
          let same_op : o ≡ p = one call o p there (subst (λ y. Contains all (entry.Call y p)) same in_all) in
          let mine : Settled i (apply i (entry.Call call o) s).state call o = settled-one i call o (apply i (entry.Call call o) s) (by-entry b i seen past call o s few well there ord (rw same_op acts)) e in
          subst (λ y. Settled i (apply i (entry.Call call o) s).state y p) (sym same) (subst (λ q. Settled i (apply i (entry.Call call o) s).state call q) same_op mine)
      at false e h = let l = h.1 in absurd (omega arith)
  settled-next b i seen past entry.Empty s few well there ord c h p in_all acts = let l = h.1 in absurd (omega arith)
  settled-next b i seen past (entry.SessionsExpired pairs) s few well there ord c h p in_all acts = let l = h.1 in absurd (omega arith)
  settled-next b i seen past (entry.WaitsExpired calls) s few well there ord c h p in_all acts = let l = h.1 in absurd (omega arith)
  settled-next b i seen past (entry.Members call plan members) s few well there ord c h p in_all acts = let l = h.1 in absurd (omega arith)
  settled-next b i seen past (entry.Destroy group) s few well there ord c h p in_all acts = let l = h.1 in absurd (omega arith)
  settled-next b i seen past (entry.Destroyed group) s few well there ord c h p in_all acts = let l = h.1 in absurd (omega arith)
  settled-next b i seen past (entry.Moved group index members) s few well there ord c h p in_all acts = let l = h.1 in absurd (omega arith)
  settled-next b i seen past (entry.Left member) s few well there ord c h p in_all acts = let l = h.1 in absurd (omega arith)

  waiters-next : (b i : ℕ) (seen : List Invocation) (past : List (Invocation × Answer)) (e : Entry) (s : GroupState) → b < 2 ^ 62 → Well all b i seen past s → Contains all e → IsOrderlyAt i e s → Grows i s (apply i e s).state
      → (w : Waiter) → Contains (apply i e s).state.waiters w → (o : Op) → Contains all (entry.Call w.call o) → is_protected o ≡ true → Settled i (apply i e s).state w.call o
  waiters-next b i seen past e s few well there ord g w h p in_all acts = at (new-apply i e s w h)
    where
      old : Contains s.waiters w → Settled i (apply i e s).state w.call p
      old x = grows-settled i s (apply i e s).state w.call p g (well.waiters w x p in_all acts)

      fresh_one : (e : Entry) → Contains all e → IsOrderlyAt i e s → Contains (apply i e s).state.waiters w → (Contains s.waiters w → Settled i (apply i e s).state w.call p) → IsCallOf e w → Settled i (apply i e s).state w.call p
      fresh_one (entry.Call call o) there ord h old new = by (by-entry b i seen past call o s few well there ord (rw same_op acts))
        where
          same : w.call ≡ call
          same = new.0

          same_op : o ≡ p
          same_op = one call o p there (subst (λ y. Contains all (entry.Call y p)) same in_all)

          by : IsSettledBy i call o (apply i (entry.Call call o) s) → Settled i (apply i (entry.Call call o) s).state w.call p
          by (inl x) = subst (λ y. Settled i (apply i (entry.Call call o) s).state y p) (sym same) (subst (λ q. Settled i (apply i (entry.Call call o) s).state call q) same_op x)
          by (inr x) = old (down-waiters i call o s x.0 w (subst (λ (r : Applied). Contains r.state.waiters w) (apply-acts i call o s (rw same_op acts)) h))
      fresh_one entry.Empty there ord h old same = absurd same
      fresh_one (entry.SessionsExpired pairs) there ord h old same = absurd same
      fresh_one (entry.WaitsExpired calls) there ord h old same = absurd same
      fresh_one (entry.Members call plan members) there ord h old same = absurd same
      fresh_one (entry.Destroy group) there ord h old same = absurd same
      fresh_one (entry.Destroyed group) there ord h old same = absurd same
      fresh_one (entry.Moved group index members) there ord h old same = absurd same
      fresh_one (entry.Left member) there ord h old same = absurd same

      at : Contains s.waiters w ⊎ IsCallOf e w → Settled i (apply i e s).state w.call p
      at (inl x) = old x
      at (inr x) = fresh_one e there ord h old x

  origin-next : (i : ℕ) (e : Entry) (s : GroupState) → Contains all e → ((w : Waiter) → Contains s.waiters w → (o : Op) → Contains all (entry.Call w.call o) → (session_in o ≡ memory_of w) × (is_some (down_in o) ≡ false))
      → (w : Waiter) → Contains (apply i e s).state.waiters w → (o : Op) → Contains all (entry.Call w.call o) → (session_in o ≡ memory_of w) × (is_some (down_in o) ≡ false)
  origin-next i e s there origin w h p in_all = at e there h (new-apply i e s w h)
    where
      at : (e : Entry) → Contains all e → Contains (apply i e s).state.waiters w → Contains s.waiters w ⊎ IsCallOf e w → (session_in p ≡ memory_of w) × (is_some (down_in p) ≡ false)
      at e there h (inl x) = origin w x p in_all
      at (entry.Call call o) there h (inr x) = by (is_some (down_in o)) refl
        where
          same_op : o ≡ p
          same_op = one call o p there (subst (λ y. Contains all (entry.Call y p)) x.0 in_all)

          acts : is_some (down_in o) ≡ true → is_protected o ≡ true
          acts e = or_right (is_some (session_in o)) (is_some (down_in o)) e
            where
              or_right : (a b : Bool) → b ≡ true → (a || b) ≡ true
              or_right true b h = refl
              or_right false b h = h

          by : (b : Bool) → is_some (down_in o) ≡ b → (session_in p ≡ memory_of w) × (is_some (down_in p) ≡ false)
          by true e = origin w (down-waiters i call o s e w (subst (λ (r : Applied). Contains r.state.waiters w) (apply-acts i call o s (acts e)) h)) p in_all
          by false e = (ap session_in (sym same_op) ∙ x.1, ap (λ (q : Op). is_some (down_in q)) (sym same_op) ∙ e)
      at entry.Empty there h (inr x) = absurd x
      at (entry.SessionsExpired pairs) there h (inr x) = absurd x
      at (entry.WaitsExpired calls) there h (inr x) = absurd x
      at (entry.Members call plan members) there h (inr x) = absurd x
      at (entry.Destroy group) there h (inr x) = absurd x
      at (entry.Destroyed group) there h (inr x) = absurd x
      at (entry.Moved group index members) there h (inr x) = absurd x
      at (entry.Left member) there h (inr x) = absurd x

  told-later : (i : ℕ) (past : List (Invocation × Answer)) (s : GroupState) → Told i past s → Told (i + 1) past s
  told-later i past s h = record {
    waiters = λ w there m. let x = h.waiters w there m in let l = x.0 in (omega arith, x.1);
    memory = λ session thread row there. let x = h.memory session thread row there in let l = x.0 in (omega arith, x.1);
  }

  well-next : (b i : ℕ) (seen : List Invocation) (past : List (Invocation × Answer)) (e : Entry) (s : GroupState) → b < 2 ^ 62 → Well all b i seen past s → Contains all e → IsOrderlyAt i e s
      → Well all (suc b) (i + 1) (settled_by e (apply i e s) ++ seen) (past ++ (apply i e s).answers) (apply i e s).state
  well-next b i seen past e s few well there ord =
      let within : RoundsWithin (2 ^ 62 - 1) s.latches = within-le b (2 ^ 62 - 1) s.latches (omega arith) well.rounds in
      let g : Grows i s (apply i e s).state = grows-apply i e s within in record {
        rounds = within-apply i b e s well.rounds;
        answers = told-later i _ _ (told-apply i past e s ord within well.answers);
        settled = λ c h o in_all acts. later i (apply i e s).state c o (at g c o in_all acts (Contains-append_cases (settled_by e (apply i e s)) seen c h));
        waiters = λ w h o in_all acts. later i (apply i e s).state w.call o (waiters-next b i seen past e s few well there ord g w h o in_all acts);
        origin = origin-next i e s there well.origin;
        waiting = waits-apply i e s within well.answers.waiters well.waiting;
        opened = opened-apply i e s well.answers.waiters well.opened;
        left = left-apply i e s well.left;
      }
    where
      at : Grows i s (apply i e s).state → (c : Invocation) (o : Op) → Contains all (entry.Call c o) → is_protected o ≡ true → Contains (settled_by e (apply i e s)) c ⊎ Contains seen c → Settled i (apply i e s).state c o
      at g c o in_all acts (inl h) = settled-next b i seen past e s few well there ord c h o in_all acts
      at g c o in_all acts (inr h) = grows-settled i s (apply i e s).state c o g (well.settled c h o in_all acts)

  -- one entry and its event
  abbrev pub SameStep : ℕ → List (Invocation × Answer) → Entry → GroupState → EntryOrRepeat → Type 0
  SameStep i past e s v = ((apply_or_repeat i v s).state ≡ (apply i e s).state) × SameAnswers past v (apply_or_repeat i v s) (apply i e s)

  same-step : (b i : ℕ) (seen : List Invocation) (past : List (Invocation × Answer)) (e : Entry) (s : GroupState) → Well all b i seen past s → Contains all e → SameStep i past e s (without_repeat seen e)
  same-step b i seen past (entry.Call call o) s well there = cases (SameStep i past (entry.Call call o) s) (is_protected o && list_any (same_call call) seen) _ _
      (λ e. let x = and_parts (is_protected o) _ e in let found = any-some (same_call call) seen x.1 in
      let same : call ≡ found.0 = same-call call found.0 found.2 in
      let done : Settled i s call o = subst (λ c. Settled i s c o) (sym same) (well.settled found.0 found.1 o (subst (λ c. Contains all (entry.Call c o)) same there) x.0) in
      let r : Repeats i past call o s = repeats i past call o s x.0 done well.answers (λ w h e. well.origin w h o (subst (λ c. Contains all (entry.Call c o)) (sym e) there)) well.waiting well.opened well.left in
      rw (apply-acts i call o s x.0) r)
      (λ e. (refl, refl))
  same-step b i seen past entry.Empty s well there = (refl, refl)
  same-step b i seen past (entry.SessionsExpired pairs) s well there = (refl, refl)
  same-step b i seen past (entry.WaitsExpired calls) s well there = (refl, refl)
  same-step b i seen past (entry.Members call plan members) s well there = (refl, refl)
  same-step b i seen past (entry.Destroy group) s well there = (refl, refl)
  same-step b i seen past (entry.Destroyed group) s well there = (refl, refl)
  same-step b i seen past (entry.Moved group index members) s well there = (refl, refl)
  same-step b i seen past (entry.Left member) s well there = (refl, refl)

  agree-from : (b i : ℕ) (seen : List Invocation) (past : List (Invocation × Answer)) (es : List Entry) (s : GroupState) → ((e : Entry) → Contains es e → Contains all e) → b + length es ≤ 2 ^ 62 → Well all b i seen past s → IsOrderlyFrom i es s
      → Agree past (without_repeats_from i seen es s) (run_without_repeats i (without_repeats_from i seen es s) s) (run i es s)
  agree-from b i seen past [] s sub few well ord = tt
  agree-from b i seen past (e ∷ es) s sub few well ord =
      let there : Contains all e = sub e (Contains-append_left (e ∷ []) es e (Contains-push [] e)) in
      let st : SameStep i past e s (without_repeat seen e) = same-step b i seen past e s well there in
      let rest = agree-from (suc b) (i + 1) (settled_by e (apply i e s) ++ seen) (past ++ (apply i e s).answers) es (apply i e s).state
      (λ x h. sub x (Contains-append_right (e ∷ []) es x h)) (omega arith) (well-next b i seen past e s (omega arith) well there ord.0) ord.1 in (
        st.0,
        st.1,
        subst (λ x. Agree (past ++ (apply i e s).answers) (without_repeats_from (i + 1) (settled_by e (apply i e s) ++ seen) es (apply i e s).state)
            (run_without_repeats (i + 1) (without_repeats_from (i + 1) (settled_by e (apply i e s) ++ seen) es (apply i e s).state) x) (run (i + 1) es (apply i e s).state)) (sym st.0) rest,
      )

no-element : {X : Type 0} (x : X) → Contains [] x → ⊥
no-element x h = let l = h.1 in absurd (omega arith)

no_row : (session thread : ℕ) (row : MemoryRow) → find holder_cmp empty.memory (session, thread) ≡ Some row → ⊥
no_row session thread row e = cc

pub acts-once : (es : List Entry) → IsOrderly es → ActsAtMostOnce es
acts-once es orderly = agree-from es orderly.one_op 0 1 [] [] es empty (λ e h. h) (let f = orderly.few in omega arith) (record {
  rounds = All-nil (λ (r : LatchRow). r.round ≤ 0);
  answers = record { waiters = λ w h. absurd (no-element w h); memory = λ session thread row e. absurd (no_row session thread row e) };
  settled = λ c h. absurd (no-element c h);
  waiters = λ w h. absurd (no-element w h);
  origin = λ w h. absurd (no-element w h);
  waiting = λ w h. absurd (no-element w h);
  opened = λ w h. absurd (no-element w h);
  left = λ e w h. no-element w h;
}) orderly.entries
