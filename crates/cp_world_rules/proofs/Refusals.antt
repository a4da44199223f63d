-- Each wrong execution is refused, computed.
use Rattle.std.proofs.Common.{◌≡◌, ℕ, ◌+◌, ◌≤◌, ◌⊎◌, inl, inr, true, false, List, [], ◌∷◌, ◌++◌, Some, None, refl, sym, subst, ap, ◌∙◌, arith, length, zero, suc, le_refl}
use Rattle.std.specs.Prelude.{Contains, slice_get, ℤ, pos, unsigned_abs}
use Rattle.std.proofs.lemmas.List.Elements.{Contains-push}
use Rattle.cp_base.proofs.Tests.{no_false, no_true, none_some, same_some}
use Rattle.cp_base.specs.declared.identifier.Invocation.{Invocation}
use Rattle.cp_base.specs.declared.identifier.ThreadNo.{ThreadNo}
use Rattle.cp_answers.specs.declared.answer.Answer.{Answer}
use Rattle.cp_answers.specs.declared.answer.Answer.TheVariants as answer
use Rattle.cp_answers.specs.declared.ended_by.EndedBy.TheVariants as ended_by
use Rattle.cp_ops.specs.declared.entry.Entry.{Entry}
use Rattle.cp_ops.specs.declared.entry.Entry.TheVariants as entry
use Rattle.cp_object_ops.specs.declared.latch_op.LatchOp.TheVariants as latch
use Rattle.cp_object_ops.specs.declared.lock_op.LockOp.{LockOp}
use Rattle.cp_object_ops.specs.declared.lock_op.LockOp.TheVariants as lock
use Rattle.cp_ops.specs.declared.op.Op.{Op}
use Rattle.cp_ops.specs.declared.op.Op.TheVariants as op
use Rattle.cp_ops.specs.declared.session_op.SessionOp.TheVariants as session
use Rattle.cp_events.specs.declared.effects.Effects.{Effects}
use Rattle.cp_events.specs.declared.effects.Ending.TheVariants as ending
use Rattle.cp_base.specs.declared.identifier.ClientNo.{ClientNo}
use Rattle.cp_events.specs.declared.effects.Ignored.TheVariants as ignored
use Rattle.cp_events.specs.declared.effects.Return.{Return}
use Rattle.cp_events.specs.declared.event.Event.{Event}
use Rattle.cp_events.specs.declared.schedule.Line.{Line}
use Rattle.cp_events.specs.declared.schedule.Line.TheVariants as line
use Rattle.cp_events.specs.declared.user_op.UserOp.TheVariants as user
use Rattle.cp_group_state.specs.Sessions.{is_open_for}
use Rattle.cp_group_state.specs.History.{Given, IsFullyOrderly, state_before}
use Rattle.cp_group_causes.proofs.Lists.{at-head, get-in, no-element, one-is, one-only}
use Rattle.cp_client_rules.specs.Asking.{default_group, wish_of}
use Rattle.cp_client_rules.specs.Calls.{patience}
use Rattle.cp_world_rules.specs.Rows.{Called, Committed, End, Request, Returned, entries_of}
use Rattle.cp_world_rules.specs.Execution.{Execution, history}
use Rattle.cp_world_rules.specs.Requests.{AskedNothing, AsksItselfOnce, CallsStand, EndsOnce, IsBeat, IsCallOf, IsRequestOfCall, MayAsk, NumbersRise, Requested, ReturnsOnce, RoundsAreTold}
use Rattle.cp_world_rules.specs.Entries.{EntriesAreAsked, EventsRise, HistoriesStand, IsOfRequest, IsOwnEntry, LengthsAreTrue, NamesOwnSessions, RowsAreInOrder}
use Rattle.cp_world_rules.specs.Answers.{AllAnswered, GoesOn, IsAnswered, IsOfEndedGroup, lets_go_on}
use Rattle.cp_world_rules.specs.Holding.{holds_before}
use Rattle.cp_world_rules.specs.Returns.{AllReturnsTell, HasNoSession, IsTold, LostOwnership, PassedDeadline, answered, at_once, clock_after, late, lost}
use Rattle.cp_world_rules.specs.Telling.{EventsTell, FollowsLines, IsReturnOf}
use Rattle.cp_world_rules.specs.Judging.{BeginsAtOnce, ClientsAct, IsOver, ended, went_on}
use Rattle.cp_world_rules.specs.Judging as judging
use Rattle.cp_world_rules.specs.Prompt.{IsPrompt}
use Rattle.cp_world_rules.specs.Wrong.{AreRefused, acquire, add, answers_at_will, answers_nobody, answers_too_early, answers_twice, asks, asks_as_if_nothing_stood, asks_for_an_older_call, asks_in_an_ignored_event, asks_twice, call_of, client, closes_a_session_to_come, closes_anothers_session, closes_without_asking, commits_nothing, counts_an_older_round, counts_wrongly, does_nothing, enters, enters_before_it_is_asked, enters_in_the_wrong_order, enters_unasked, forgets_a_call, get, gets, gives, gives_up_early, gives_up_for_an_older_call, gives_up_without_a_deadline, goes_nowhere, hides_a_session, hides_the_loss, ignores_a_client, ignores_an_idle_thread, ignores_and_returns, increments, invocation, is_told, keeps_an_answer, lists_in_the_wrong_order, locks, loses_what_it_gave_back, makes, makes_a_call_up, never_returns, one_client, one_is, opening, opens_what_nobody_asked, release, returns_at_will, returns_by_an_older_request, returns_to_nobody, returns_twice, returns_what_it_needed, shows, skips_a_line, takes_a_number_twice, takes_an_old_number, tells_two_histories, thread, zero_is}

-- a return of client 1 and its thread 1
abbrev row : ℕ → ℕ → Answer → Returned
row number n a = record { event = number; client = client 1; what = record { thread = thread; number = n; ending = ending.Answered a } }

-- a call that is the only one
only-call : (x : Execution) (c : Called) (number : ℕ) → x.calls ≡ c ∷ [] → c.event ≤ number → IsCallOf x c.client c.thread number c
only-call x c number e l = record {
  began = subst (λ rows. Contains rows c) (sym e) (at-head c []);
  client_is = refl;
  thread_is = refl;
  by_then = l;
  latest = λ d there mine of_thread by. let same = ap (λ (z : Called). z.event) (one-is c d (subst (λ rows. Contains rows d) e there)) in omega (arith, same);
}

two_histories : HistoriesStand tells_two_histories.histories → ⊥
two_histories h = let l = h.apart 0 1 (default_group, enters 1 1 get ∷ []) (default_group, enters 1 1 add ∷ []) (omega arith) refl refl in absurd (omega (arith, l))

listed : RowsAreInOrder lists_in_the_wrong_order → ⊥
listed h = let l = (h.requests 0 1 (asks 2 1 2 get) (asks 1 0 1 get) (omega arith) refl refl).0 in absurd (omega (arith, l))

wrong_order : EventsRise (history enters_in_the_wrong_order default_group) → ⊥
wrong_order h = let l = h 0 1 (enters 2 2 get) (enters 1 1 add) (omega arith) refl refl in absurd (omega (arith, l))

session_to_come : IsFullyOrderly (entries_of (history closes_a_session_to_come default_group)) → ⊥
session_to_come h = let l = h.sessions 0 (entry.Call (invocation 1 1) (op.Session (session.Close 1))) 1 refl (at-head 1 []) in absurd (omega (arith, l))

abbrev stood : List Entry
stood = entry.Call (invocation 1 1) (op.Session session.Open) ∷ entry.Call (invocation 2 1) (op.Session (session.Close 1)) ∷ []

anothers_session : NamesOwnSessions (entries_of (history closes_anothers_session default_group)) → ⊥
anothers_session h = let o = h 1 (invocation 2 1) (op.Session (session.Close 1)) 1 refl (at-head 1 []) in at o.moment o.before o.is_open where
  at : (m : ℕ) → m ≤ 1 → is_open_for (state_before stood m).sessions 1 (invocation 2 1).client ≡ true → ⊥
  at zero l e = no_false e
  at (suc zero) l e = no_false e
  at (suc (suc m)) l e = absurd (omega (arith, l))

unasked : EntriesAreAsked one_client enters_unasked → ⊥
unasked h = at (h default_group 0 (enters 1 1 get) refl) where
  at : IsOfRequest enters_unasked default_group 0 (enters 1 1 get) ⊎ IsOwnEntry one_client default_group (entry.Call (invocation 1 1) get) → ⊥
  at (inl r) = no-element r.request r.began
  at (inr x) = x

before_asked : EntriesAreAsked one_client enters_before_it_is_asked → ⊥
before_asked h = at (h default_group 0 (enters 1 1 get) refl) where
  at : IsOfRequest enters_before_it_is_asked default_group 0 (enters 1 1 get) ⊎ IsOwnEntry one_client default_group (entry.Call (invocation 1 1) get) → ⊥
  at (inl r) = let e = ap (λ (z : Request). z.event) (one-is (asks 2 0 1 get) r.request r.began) in let l = r.begins_early in absurd (omega (arith, e, l))
  at (inr x) = x

lengths : LengthsAreTrue asks_as_if_nothing_stood → ⊥
lengths h = let l = (h.requests (asks 2 0 2 get) (at-head (asks 2 0 2 get) [])).behind 0 (enters 1 1 get) refl (omega arith) in absurd (omega (arith, l))

made_up : CallsStand makes_a_call_up → ⊥
made_up h = none_some (h.printed (makes 1 gets) (at-head (makes 1 gets) [])).stands

forgotten : CallsStand forgets_a_call → ⊥
forgotten h = let c = h.noted 1 (client 1) thread gets (record { shown = shows 1 (call_of gets) [] (gives 1 zero_is ∷ []); stands = refl; event_is = refl; not_ignored = refl }) in no-element c.0 c.1

older_call : Requested one_client asks_for_an_older_call → ⊥
older_call h = at (h (asks 2 0 1 add) (at-head (asks 2 0 1 add) [])) where
  may : MayAsk one_client gets add → ⊥
  may (inl f) = not_get f.2 where
    not_get : add ≡ get → ⊥
    not_get e = cc
  may (inr (inl f)) = no_false f.0
  may (inr (inr f)) = not_round f.2 where
    not_round : {name : List ℕ} → add ≡ op.Latch name latch.Round → ⊥
    not_round e = cc

  of : (c : Called) → IsRequestOfCall one_client asks_for_an_older_call (asks 2 0 1 add) c → (c ≡ makes 1 increments) ⊎ Contains (makes 2 gets ∷ []) c → ⊥
  of c r (inl e) = let l = r.last.latest (makes 2 gets) (there) (sym (ap (λ (z : Called). z.client) e)) (sym (ap (λ (z : Called). z.thread) e)) (omega arith) in let k = ap (λ (z : Called). z.event) e in absurd (omega (arith, l, k)) where
    there : Contains (makes 1 increments ∷ makes 2 gets ∷ []) (makes 2 gets)
    there = Contains-push (makes 1 increments ∷ []) (makes 2 gets)
  of c r (inr t) = may (subst (λ (z : Called). MayAsk one_client z.op add) (one-is (makes 2 gets) c t) r.asks)

  beat : {s : ℕ} → add ≡ op.Session (session.Beat s) → ⊥
  beat e = cc

  at : ((c : Called) × IsRequestOfCall one_client asks_for_an_older_call (asks 2 0 1 add) c) ⊎ IsBeat asks_for_an_older_call (asks 2 0 1 add) → ⊥
  at (inl r) = of r.0 r.1 (one-only (makes 1 increments) r.0 (makes 2 gets ∷ []) r.1.last.began)
  at (inr b) = beat b.asks

asked_twice : AsksItselfOnce one_client asks_twice → ⊥
asked_twice h = let e = h 0 1 (asks 1 0 1 add) (asks 1 1 2 add) (makes 1 increments) refl refl (of (asks 1 0 1 add) refl refl refl refl) (of (asks 1 1 2 add) refl refl refl refl) (0, 0, refl) (0, 0, refl) in absurd (omega (arith, e)) where
  of : (q : Request) → q.event ≡ 1 → q.call.client ≡ (invocation 1 1).client → q.call.thread ≡ thread → q.op ≡ add → IsRequestOfCall one_client asks_twice q (makes 1 increments)
  of q at mine of_thread is = record { last = only-call asks_twice (makes 1 increments) q.event refl (omega (arith, at)); by_client = mine; by_thread = of_thread; asks = inl (0, 0, is) }

number_twice : NumbersRise takes_a_number_twice.requests → ⊥
number_twice h = let l = h 0 1 (asks 1 0 1 get) (asks 2 1 1 get) (omega arith) refl refl refl refl in absurd (omega (arith, l))

-- without members each answer is of an entry
only-answered : (x : Execution) (e : End) → IsAnswered x e ⊎ IsOfEndedGroup one_client x e → IsAnswered x e
only-answered x e (inl a) = a
only-answered x e (inr a) = absurd a

abbrev value-of : Answer → ℤ
value-of (answer.Value v) = v
value-of a = pos 0

older_round : RoundsAreTold counts_an_older_round → ⊥
older_round h = let t = h (asks 1 2 3 (op.Latch (97 ∷ []) (latch.Down 0))) (97 ∷ []) 0 (Contains-push (asks 1 1 2 (op.Latch (97 ∷ []) latch.Round) ∷ []) (asks 1 2 3 (op.Latch (97 ∷ []) (latch.Down 0)))) refl in
    let is : one_is ≡ answer.Value t.value = sym (ap (λ (z : End). z.answer) (one-is (is_told 1 2 2 one_is) t.end t.ended)) ∙ t.says in
    let n = ap (λ v. unsigned_abs (value-of v)) is ∙ t.is_round in absurd (omega (arith, n))

nobody : AllAnswered one_client answers_nobody → ⊥
nobody h = let a = only-answered answers_nobody (is_told 1 1 2 zero_is) (h (is_told 1 1 2 zero_is) (at-head (is_told 1 1 2 zero_is) [])) in
    let e = ap (λ (z : Request). z.call.number) (one-is (asks 1 0 1 get) a.request a.began) in let k = ap (λ (z : Invocation). z.number) a.call_is in absurd (omega (arith, e, k))

at_will : AllAnswered one_client answers_at_will → ⊥
at_will h = let a = only-answered answers_at_will (is_told 1 1 1 one_is) (h (is_told 1 1 1 one_is) (at-head (is_told 1 1 1 one_is) [])) in
    no (ap (λ (g : Given). value-of g.answer) (one-is (record { index = 1; call = invocation 1 1; answer = zero_is }) (record { index = a.index; call = invocation 1 1; answer = one_is }) a.given))
  where
    no : pos 1 ≡ pos 0 → ⊥
    no e = cc

too_early : AllAnswered one_client answers_too_early → ⊥
too_early h = let a = only-answered answers_too_early (is_told 1 0 1 zero_is) (h (is_told 1 0 1 zero_is) (at-head (is_told 1 0 1 zero_is) [])) in let k = a.begins_first in let l = a.own_first in let m = a.ends_last in absurd (omega (arith, k, l, m))

answered_twice : EndsOnce answers_twice.ends → ⊥
answered_twice h = let e = h 0 1 (is_told 1 1 1 zero_is) (is_told 1 1 1 zero_is) refl refl refl in absurd (omega (arith, e))

gone_nowhere : GoesOn one_client goes_nowhere → ⊥
gone_nowhere h = let x = h (asks 1 0 1 (op.Session session.Open)) (is_told 1 1 1 (answer.Session 1)) (makes 1 locks) (at-head (asks 1 0 1 (op.Session session.Open)) []) (at-head (is_told 1 1 1 (answer.Session 1)) []) refl refl
    (record { last = only-call goes_nowhere (makes 1 locks) 1 refl (le_refl 1); by_client = refl; by_thread = refl; asks = inr (inl (refl, refl)) }) in
    no (sym (ap (λ (z : Request). z.op) (one-is (asks 1 0 1 (op.Session session.Open)) x.0 x.1)) ∙ x.3.2)
  where
    no : {n : List ℕ} {o : LockOp} → op.Session session.Open ≡ op.Lock n o → ⊥
    no e = cc

returned_twice : ReturnsOnce one_client returns_twice → ⊥
returned_twice h = let c = only-call returns_twice (makes 1 gets) 1 refl (le_refl 1) in let e = h.once 0 1 (row 1 1 zero_is) (row 1 1 zero_is) (makes 1 gets) refl refl c c in absurd (omega (arith, e))

to_nobody : ReturnsOnce one_client returns_to_nobody → ⊥
to_nobody h = let c = h.of_call (row 1 1 zero_is) (at-head (row 1 1 zero_is) []) in no-element c.0 c.1.began

older_request : ReturnsOnce one_client returns_by_an_older_request → ⊥
older_request h = let c = h.of_call (row 1 1 (answer.Session 1)) (at-head (row 1 1 (answer.Session 1)) []) in
    let l = c.2.greatest (asks 1 1 2 (acquire 1)) there (subst (IsRequestOfCall one_client returns_by_an_older_request (asks 1 1 2 (acquire 1))) (sym (one-is (makes 1 locks) c.0 c.1.began)) of) in absurd (omega (arith, l))
  where
    there : Contains (asks 1 0 1 (op.Session session.Open) ∷ asks 1 1 2 (acquire 1) ∷ []) (asks 1 1 2 (acquire 1))
    there = Contains-push (asks 1 0 1 (op.Session session.Open) ∷ []) (asks 1 1 2 (acquire 1))

    of : IsRequestOfCall one_client returns_by_an_older_request (asks 1 1 2 (acquire 1)) (makes 1 locks)
    of = record { last = only-call returns_by_an_older_request (makes 1 locks) 1 refl (le_refl 1); by_client = refl; by_thread = refl; asks = inl (1, 0, refl) }

old_number : ReturnsOnce one_client takes_an_old_number → ⊥
old_number h = let x = h.of_call (row 2 1 answer.Ok) (Contains-push (row 1 1 zero_is ∷ []) (row 2 1 answer.Ok)) in at x.0 x.1 x.2.asked where
  late_call : (c : Called) → IsCallOf takes_an_old_number (client 1) thread 2 c → 2 ≤ c.event
  late_call c l = l.latest (makes 2 (user.CloseSession None)) (Contains-push (makes 1 gets ∷ []) (makes 2 (user.CloseSession None))) refl refl (omega arith)

  at : (c : Called) → IsCallOf takes_an_old_number (client 1) thread 2 c
      → ((q : Request) × Contains takes_an_old_number.requests q × IsRequestOfCall one_client takes_an_old_number q c × (q.call.number ≡ 1)) ⊎ AskedNothing one_client takes_an_old_number (row 2 1 answer.Ok) c → ⊥
  at c l (inl q) = let e = ap (λ (z : Request). z.event) (one-is (asks 1 0 1 get) q.0 q.1) in let m = q.2.last.by_then in let k = late_call c l in absurd (omega (arith, e, m, k))
  at c l (inr a) = let k = a.before (asks 1 0 1 get) (at-head (asks 1 0 1 get) []) (refl, refl) (omega arith) in absurd (omega (arith, k))

answered-is : {a b : Answer} → ending.Answered a ≡ ending.Answered b → a ≡ b
answered-is e = cc

session-lost : {s : ℕ} → ending.Answered (answer.Session s) ≡ ending.Answered answer.OwnershipLost → ⊥
session-lost e = cc

session-ok : {s : ℕ} → ending.Answered (answer.Session s) ≡ ending.Answered answer.Ok → ⊥
session-ok e = cc

session-late : {s : ℕ} → ending.Answered (answer.Session s) ≡ ending.Answered (answer.Indeterminate ended_by.Deadline) → ⊥
session-late e = cc

needed : AllReturnsTell one_client returns_what_it_needed → ⊥
needed h = at (h (row 1 1 (answer.Session 1)) (at-head (row 1 1 (answer.Session 1)) [])) where
  at : IsTold one_client returns_what_it_needed (row 1 1 (answer.Session 1)) → ⊥
  at (answered a e t kept) = no_true (subst (λ (z : Request). lets_go_on z.op (answer.Session 1) ≡ false) (one-is (asks 1 0 1 (op.Session session.Open)) t.here.request t.here.began) (subst (λ x. lets_go_on t.here.request.op x ≡ false) (sym (answered-is e)) t.last))
  at (lost e t) = session-lost e
  at (at_once e t) = session-ok e
  at (late e t) = session-late e

value-lost : {v : ℤ} → ending.Answered (answer.Value v) ≡ ending.Answered answer.OwnershipLost → ⊥
value-lost e = cc

value-ok : {v : ℤ} → ending.Answered (answer.Value v) ≡ ending.Answered answer.Ok → ⊥
value-ok e = cc

value-late : {v : ℤ} → ending.Answered (answer.Value v) ≡ ending.Answered (answer.Indeterminate ended_by.Deadline) → ⊥
value-late e = cc

untold : AllReturnsTell one_client returns_at_will → ⊥
untold h = at (h (row 1 1 zero_is) (at-head (row 1 1 zero_is) [])) where
  at : IsTold one_client returns_at_will (row 1 1 zero_is) → ⊥
  at (answered a e t kept) = no-element t.here.end t.here.ended
  at (lost e t) = value-lost e
  at (at_once e t) = value-ok e
  at (late e t) = value-late e

-- a session that was told, and not taken
ok-lost : ending.Answered answer.Ok ≡ ending.Answered answer.OwnershipLost → ⊥
ok-lost e = cc

ok-late : ending.Answered answer.Ok ≡ ending.Answered (answer.Indeterminate ended_by.Deadline) → ⊥
ok-late e = cc

closed : AllReturnsTell one_client closes_without_asking → ⊥
closed h = at (h (row 2 2 answer.Ok) (at-head (row 2 2 answer.Ok) [])) where
  early_end : (e : End) → Contains (is_told 1 1 1 (answer.Session 1) ∷ []) e → 2 ≤ e.event → ⊥
  early_end e there l = let same = ap (λ (z : End). z.event) (one-is (is_told 1 1 1 (answer.Session 1)) e there) in absurd (omega (arith, same, l))

  -- the one end stands before, and none behind it
  by : (before behind : List End) → is_told 1 1 1 (answer.Session 1) ∷ [] ≡ before ++ behind → ((e : End) → Contains behind e → 2 ≤ e.event) → (before ≡ is_told 1 1 1 (answer.Session 1) ∷ []) ⊎ ⊥
  by [] [] e later = absurd (none_some (sym (ap (λ (rows : List End). slice_get rows 0) e)))
  by [] (x ∷ behind) e later = inr (early_end x (subst (λ rows. Contains rows x) (sym e) (at-head x behind)) (later x (at-head x behind)))
  by (x ∷ before) behind e later = inl (ends before behind (ap (λ (rows : List End). length rows) e) ∙ same) where
    same : x ∷ [] ≡ is_told 1 1 1 (answer.Session 1) ∷ []
    same = ap (λ y. y ∷ []) (sym (same_some (ap (λ (rows : List End). slice_get rows 0) e)))

    ends : (xs ys : List End) → 1 ≡ suc (length (xs ++ ys)) → x ∷ xs ≡ x ∷ []
    ends [] ys l = refl
    ends (y ∷ xs) ys l = absurd (omega (arith, l))

  no : HasNoSession one_client closes_without_asking (row 2 2 answer.Ok) → ⊥
  no n = from (by n.before n.behind n.parts n.later) where
    from : (n.before ≡ is_told 1 1 1 (answer.Session 1) ∷ []) ⊎ ⊥ → ⊥
    from (inr x) = x
    from (inl e) = let t = n.taken 0 1 (is_told 1 1 1 (answer.Session 1)) (subst (λ rows. slice_get rows 0 ≡ Some (is_told 1 1 1 (answer.Session 1))) (sym e) refl) refl
        (record { request = asks 1 0 1 (op.Session session.Open); began = at-head (asks 1 0 1 (op.Session session.Open)) []; of_request = refl; by_client = refl; opens = refl; says = refl }) in
        let k = get-in n.before t.0 t.1 t.3 in let l = t.2 in let size = ap (λ (rows : List End). length rows) e in absurd (omega (arith, k, l, size))

  at : IsTold one_client closes_without_asking (row 2 2 answer.Ok) → ⊥
  at (answered a e t kept) = let same = ap (λ (z : End). z.event) (one-is (is_told 1 1 1 (answer.Session 1)) t.here.end t.here.ended) in let here = t.here.here in absurd (omega (arith, same, here))
  at (lost e t) = ok-lost e
  at (at_once e t) = no t
  at (late e t) = ok-late e

-- ownership that is lost
lost-expired : {x : ℕ} → ending.Answered (answer.SessionExpired x) ≡ ending.Answered answer.OwnershipLost → ⊥
lost-expired e = cc

expired-ok : {x : ℕ} → ending.Answered (answer.SessionExpired x) ≡ ending.Answered answer.Ok → ⊥
expired-ok e = cc

expired-late : {x : ℕ} → ending.Answered (answer.SessionExpired x) ≡ ending.Answered (answer.Indeterminate ended_by.Deadline) → ⊥
expired-late e = cc

lost-ok : ending.Answered answer.OwnershipLost ≡ ending.Answered answer.Ok → ⊥
lost-ok e = cc

lost-late : ending.Answered answer.OwnershipLost ≡ ending.Answered (answer.Indeterminate ended_by.Deadline) → ⊥
lost-late e = cc

abbrev name-of : Op → List ℕ
name-of (op.Lock n o) = n
name-of o = []

abbrev first : End
first = is_told 1 0 2 (answer.Fence 2)

abbrev second : End
second = is_told 1 0 3 answer.Ok

abbrev third : End
third = is_told 1 0 4 (answer.SessionExpired 1)

given_back : AllReturnsTell one_client loses_what_it_gave_back → ⊥
given_back h = at (h (row 1 4 answer.OwnershipLost) (at-head (row 1 4 answer.OwnershipLost) [])) where
  -- the end of number 4 is the third
  the-end : (e : End) → Contains (first ∷ second ∷ third ∷ []) e → e.call ≡ invocation 1 4 → e ≡ third
  the-end e there call = one (one-only first e (second ∷ third ∷ []) there) where
    number : e.call.number ≡ 4
    number = ap (λ (z : Invocation). z.number) call

    two : (e ≡ second) ⊎ Contains (third ∷ []) e → e ≡ third
    two (inl same) = let n = ap (λ (z : End). z.call.number) same in absurd (omega (arith, n, number))
    two (inr t) = one-is third e t

    one : (e ≡ first) ⊎ Contains (second ∷ third ∷ []) e → e ≡ third
    one (inl same) = let n = ap (λ (z : End). z.call.number) same in absurd (omega (arith, n, number))
    one (inr t) = two (one-only second e (third ∷ []) t)

  said : {x y : Answer} → x ≡ y → x ≡ answer.SessionExpired 1 → y ≡ answer.OwnershipLost → ⊥
  said e f g = no (sym f ∙ (e ∙ g)) where
    no : answer.SessionExpired 1 ≡ answer.OwnershipLost → ⊥
    no k = cc

  the-op : (q : Request) → Contains (asks 1 0 2 (acquire 1) ∷ asks 1 0 3 (release 1) ∷ asks 1 0 4 (release 1) ∷ []) q → name-of q.op ≡ 97 ∷ []
  the-op q there = one (one-only (asks 1 0 2 (acquire 1)) q (asks 1 0 3 (release 1) ∷ asks 1 0 4 (release 1) ∷ []) there) where
    two : (q ≡ asks 1 0 3 (release 1)) ⊎ Contains (asks 1 0 4 (release 1) ∷ []) q → name-of q.op ≡ 97 ∷ []
    two (inl same) = ap (λ (z : Request). name-of z.op) same
    two (inr t) = ap (λ (z : Request). name-of z.op) (one-is (asks 1 0 4 (release 1)) q t)

    one : (q ≡ asks 1 0 2 (acquire 1)) ⊎ Contains (asks 1 0 3 (release 1) ∷ asks 1 0 4 (release 1) ∷ []) q → name-of q.op ≡ 97 ∷ []
    one (inl same) = ap (λ (z : Request). name-of z.op) same
    one (inr t) = two (one-only (asks 1 0 3 (release 1)) q (asks 1 0 4 (release 1) ∷ []) t)

  the-place : (place : ℕ) → slice_get (first ∷ second ∷ third ∷ []) place ≡ Some third → place ≡ 2
  the-place zero e = let n = ap (λ (z : End). z.call.number) (same_some e) in absurd (omega (arith, n))
  the-place (suc zero) e = let n = ap (λ (z : End). z.call.number) (same_some e) in absurd (omega (arith, n))
  the-place (suc (suc zero)) e = refl
  the-place (suc (suc (suc place))) e = absurd (none_some e)

  not_lost : LostOwnership one_client loses_what_it_gave_back (row 1 4 answer.OwnershipLost) → ⊥
  not_lost l = let e = the-end l.here.end l.here.ended l.here.call_is in
      let name : l.lock ≡ 97 ∷ [] = sym (ap name-of l.on_lock) ∙ the-op l.here.request l.here.began in
      let place : l.place ≡ 2 = the-place l.place (l.at_place ∙ ap Some e) in
      none_some (subst (λ n. holds_before loses_what_it_gave_back.requests loses_what_it_gave_back.ends (97 ∷ []) third n ≡ Some l.held) place
      (subst (λ (z : End). holds_before loses_what_it_gave_back.requests loses_what_it_gave_back.ends (97 ∷ []) z l.place ≡ Some l.held) e
      (subst (λ n. holds_before loses_what_it_gave_back.requests loses_what_it_gave_back.ends n l.here.end l.place ≡ Some l.held) name l.told)))

  at : IsTold one_client loses_what_it_gave_back (row 1 4 answer.OwnershipLost) → ⊥
  at (answered a e t kept) = said t.answer_is (ap (λ (z : End). z.answer) (the-end t.here.end t.here.ended t.here.call_is)) (sym (answered-is e))
  at (lost e t) = not_lost t
  at (at_once e t) = lost-ok e
  at (late e t) = lost-late e

loss_hidden : AllReturnsTell one_client hides_the_loss → ⊥
loss_hidden h = at (h (row 1 3 (answer.SessionExpired 1)) (at-head (row 1 3 (answer.SessionExpired 1)) [])) where
  at : IsTold one_client hides_the_loss (row 1 3 (answer.SessionExpired 1)) → ⊥
  at (answered a e t kept) = kept (record {
    here = record {
      end = is_told 1 0 3 (answer.SessionExpired 1);
      ended = Contains-push (is_told 1 0 2 (answer.Fence 2) ∷ []) (is_told 1 0 3 (answer.SessionExpired 1));
      here = refl;
      call_is = refl;
      request = asks 1 0 3 (release 1);
      began = Contains-push (asks 1 0 2 (acquire 1) ∷ []) (asks 1 0 3 (release 1));
      of_call = refl;
    };
    expired = 1;
    says = refl;
    lock = 97 ∷ [];
    what = lock.Release 1;
    on_lock = refl;
    session = 1;
    in_session = refl;
    place = 1;
    at_place = refl;
    held = record { session = 1; holds = 1 };
    told = refl;
  })
  at (lost e t) = lost-expired e
  at (at_once e t) = expired-ok e
  at (late e t) = expired-late e

-- calls that are given up
abbrev late_row : ℕ → ℕ → Returned
late_row number n = row number n (answer.Indeterminate ended_by.Deadline)

late-lost : ending.Answered (answer.Indeterminate ended_by.Deadline) ≡ ending.Answered answer.OwnershipLost → ⊥
late-lost e = cc

late-ok : ending.Answered (answer.Indeterminate ended_by.Deadline) ≡ ending.Answered answer.Ok → ⊥
late-ok e = cc

-- where no request ended, only a deadline can be told
only-late : (x : Execution) (number n : ℕ) → x.ends ≡ [] → (PassedDeadline one_client x (late_row number n) → ⊥) → IsTold one_client x (late_row number n) → ⊥
only-late x number n none never (answered a e t kept) = no-element t.here.end (subst (λ rows. Contains rows t.here.end) none t.here.ended)
only-late x number n none never (lost e t) = late-lost e
only-late x number n none never (at_once e t) = late-ok e
only-late x number n none never (late e t) = never t

early : AllReturnsTell one_client gives_up_early → ⊥
early h = only-late gives_up_early 2 1 refl no (h (late_row 2 1) (at-head (late_row 2 1) [])) where
  no : PassedDeadline one_client gives_up_early (late_row 2 1) → ⊥
  no p = let l = subst (λ (z : Called). clock_after (client 1) z.event gives_up_early.effects + patience + p.wish ≤ clock_after (client 1) 2 gives_up_early.effects) (one-is (makes 1 gets) p.call p.call_is.began) p.passed in absurd (short p.wish l) where
    short : (wish : ℕ) → 0 + 60000 + wish ≤ 59999 → ⊥
    short wish l = absurd (omega (arith, l))

older_deadline : AllReturnsTell one_client gives_up_for_an_older_call → ⊥
older_deadline h = only-late gives_up_for_an_older_call 4 2 refl no (h (late_row 4 2) (at-head (late_row 4 2) [])) where
  short : (wish : ℕ) → 59999 + 60000 + wish ≤ 60000 → ⊥
  short wish l = absurd (omega (arith, l))

  by : (p : PassedDeadline one_client gives_up_for_an_older_call (late_row 4 2)) → (p.call ≡ makes 1 gets) ⊎ Contains (makes 3 gets ∷ []) p.call → ⊥
  by p (inl e) = let l = p.call_is.latest (makes 3 gets) (Contains-push (makes 1 gets ∷ []) (makes 3 gets)) refl refl (omega arith) in let k = ap (λ (z : Called). z.event) e in absurd (omega (arith, l, k))
  by p (inr t) = short p.wish (subst (λ (z : Called). clock_after (client 1) z.event gives_up_for_an_older_call.effects + patience + p.wish ≤ clock_after (client 1) 4 gives_up_for_an_older_call.effects) (one-is (makes 3 gets) p.call t) p.passed)

  no : PassedDeadline one_client gives_up_for_an_older_call (late_row 4 2) → ⊥
  no p = by p (one-only (makes 1 gets) p.call (makes 3 gets ∷ []) p.call_is.began)

no_deadline : AllReturnsTell one_client gives_up_without_a_deadline → ⊥
no_deadline h = only-late gives_up_without_a_deadline 2 1 refl no (h (late_row 2 1) (at-head (late_row 2 1) [])) where
  no : PassedDeadline one_client gives_up_without_a_deadline (late_row 2 1) → ⊥
  no p = none_some (subst (λ (z : Called). wish_of z.op ≡ Some p.wish) (one-is (makes 1 locks) p.call p.call_is.began) p.bounded)

skipped : FollowsLines (line.One (call_of gets) ∷ []) skips_a_line → ⊥
skipped h = let f = h in let e = ap (λ (rows : List Event). length rows) f.1 in let k = ap (λ (rows : List Event). length rows) f.2.1 in absurd (omega (arith, e, k))

counted : EventsTell counts_wrongly → ⊥
counted h = let e = h.numbers 1 (shows 2 (call_of gets) [] (gives 1 zero_is ∷ [])) refl in absurd (omega (arith, e))

abbrev not_shown : Effects
not_shown = record { number = 1; event = call_of gets; ignored = Some ignored.NoSuchClient; opened = []; returns = gives 1 zero_is ∷ [] }

not_quiet : EventsTell ignores_and_returns → ⊥
not_quiet h = let q = h.quiet not_shown ignored.NoSuchClient (Contains-push (opening ∷ []) not_shown) refl in let e = ap (λ (rows : List (ClientNo × Return)). length rows) q.1 in absurd (omega (arith, e))

asked_ignored : EventsTell asks_in_an_ignored_event → ⊥
asked_ignored h = let x = h.begins (asks 1 0 1 get) (at-head (asks 1 0 1 get) []) in
    none_some (sym x.2 ∙ ap (λ (z : Effects). z.ignored) (sym (same_some x.1)))

not_asked : EventsTell opens_what_nobody_asked → ⊥
not_asked h = let o = h.opened (record { event = 1; client = client 1; what = record { group = default_group; session = 1 } }) (at-head (record { event = 1; client = client 1; what = record { group = default_group; session = 1 } }) []) in
    no (sym (ap (λ (z : End). z.answer) (one-is (is_told 1 1 1 zero_is) o.0 o.1)) ∙ o.2.says)
  where
    no : zero_is ≡ answer.Session 1 → ⊥
    no e = cc

hidden : EventsTell hides_a_session → ⊥
hidden h = let o = h.told (client 1) 1 (is_told 1 1 1 (answer.Session 1)) (at-head (is_told 1 1 1 (answer.Session 1)) [])
    (record { request = asks 1 0 1 (op.Session session.Open); began = at-head (asks 1 0 1 (op.Session session.Open)) []; of_request = refl; by_client = refl; opens = refl; says = refl }) in no-element o.0 o.1

not_returned : EventsTell never_returns → ⊥
not_returned h = at (h.returned (asks 1 0 1 get) (is_told 1 1 1 zero_is) (at-head (asks 1 0 1 get) []) (at-head (is_told 1 1 1 zero_is) []) refl refl) where
  no : {s : ℕ} → get ≡ op.Session (session.Beat s) → ⊥
  no e = cc

  at : IsBeat never_returns (asks 1 0 1 get) ⊎ IsReturnOf never_returns (is_told 1 1 1 zero_is) → ⊥
  at (inl b) = no b.asks
  at (inr r) = no-element r.told r.printed

ignored_client : ClientsAct one_client ignores_a_client → ⊥
ignored_client h = no_true (h.judged 1 (record { number = 1; event = call_of gets; ignored = Some ignored.NoSuchClient; opened = []; returns = [] }) refl)

ignored_thread : ClientsAct one_client ignores_an_idle_thread → ⊥
ignored_thread h = let b = h.judged 1 (record { number = 1; event = call_of gets; ignored = Some (ignored.ThreadBusy 1); opened = []; returns = [] }) refl in no-element b.1.request b.1.began

nothing : ClientsAct one_client does_nothing → ⊥
nothing h = at (h.begins (makes 1 gets) (at-head (makes 1 gets) [])) where
  at : BeginsAtOnce does_nothing (makes 1 gets) → ⊥
  at (inl q) = no-element q.0 q.1
  at (inr r) = no-element r.0 r.1

not_committed : (lines : List Line) → IsPrompt one_client lines commits_nothing → ⊥
not_committed lines h = let e = ap (λ (rows : List Committed). length rows) h.committed in absurd (omega (arith, e))

kept : (lines : List Line) → IsPrompt one_client lines keeps_an_answer → ⊥
kept lines h = at (h.answered (record { index = 1; call = invocation 1 1; answer = zero_is }) (enters 1 1 get) (at-head (record { index = 1; call = invocation 1 1; answer = zero_is }) []) (0, refl, refl)) where
  at : IsOver keeps_an_answer 1 (invocation 1 1) → ⊥
  at (ended e there same l) = no-element e there
  at (judging.returned r there same l) = no-element r there
  at (went_on q there own mine of_thread less l) = let e = ap (λ (z : ThreadNo). z.0) own in absurd (omega (arith, e))

pub are-refused : AreRefused
are-refused = record {
  right_is = refl;
  two_histories = two_histories;
  wrong_order = wrong_order;
  session_to_come = session_to_come;
  anothers_session = anothers_session;
  unasked = unasked;
  before_asked = before_asked;
  lengths = lengths;
  listed = listed;
  made_up = made_up;
  forgotten = forgotten;
  older_call = older_call;
  asked_twice = asked_twice;
  number_twice = number_twice;
  older_round = older_round;
  nobody = nobody;
  at_will = at_will;
  too_early = too_early;
  answered_twice = answered_twice;
  gone_nowhere = gone_nowhere;
  returned_twice = returned_twice;
  to_nobody = to_nobody;
  older_request = older_request;
  old_number = old_number;
  needed = needed;
  untold = untold;
  closed = closed;
  given_back = given_back;
  loss_hidden = loss_hidden;
  early = early;
  older_deadline = older_deadline;
  no_deadline = no_deadline;
  skipped = skipped;
  counted = counted;
  not_quiet = not_quiet;
  asked_ignored = asked_ignored;
  not_asked = not_asked;
  hidden = hidden;
  not_returned = not_returned;
  ignored_client = ignored_client;
  ignored_thread = ignored_thread;
  nothing = nothing;
  not_committed = not_committed;
  kept = kept;
}
