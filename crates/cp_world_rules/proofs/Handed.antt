-- Each answer is handed on in the event that gave it, unless its request was over.
use Rattle.std.proofs.Common.{◌≡◌, ℕ, ◌+◌, ◌^◌, ◌<◌, ◌≤◌, ◌⊎◌, inl, inr, false, List, [], ◌∷◌, ◌++◌, Some, None, Option, refl, sym, subst, ap, ◌∙◌, arith, length, map, suc}
use Rattle.std.specs.Prelude.{Contains, slice_get, nat_lt, ◌==◌}
use Rattle.std.proofs.lemmas.Bool.Decides.{nat_tests}
use Rattle.std.proofs.lemmas.List.Elements.{Contains-append_cases, Contains-append_left, Contains-append_right}
use Rattle.cp_base.specs.Identifiers.{replay_id}
use Rattle.cp_base.specs.declared.identifier.ClientNo.{ClientNo}
use Rattle.cp_base.specs.declared.identifier.Invocation.{Invocation}
use Rattle.cp_base.specs.declared.identifier.ThreadNo.{ThreadNo}
use Rattle.cp_base.proofs.Tests.{none_some}
use Rattle.cp_answers.specs.declared.answer.Answer.{Answer}
use Rattle.cp_ops.specs.declared.entry.Entry.TheVariants as entry
use Rattle.cp_events.specs.declared.event.Event.{Event}
use Rattle.cp_events.specs.declared.event.Event.TheVariants as event
use Rattle.cp_events.specs.declared.plan.Plan.{Plan}
use Rattle.cp_events.specs.declared.user_op.UserOp.{UserOp}
use Rattle.cp_group_state.specs.GroupState.{empty}
use Rattle.cp_group_state.specs.Apply.{Applied, apply, run}
use Rattle.cp_group_state.specs.History.{Given, given_from}
use Rattle.cp_group_state.proofs.Walk.{cases, either}
use Rattle.cp_group_causes.proofs.Lists.{at-head, at-tail, mapped, no-element, one-only}
use Rattle.cp_client_rules.specs.declared.rows.Pending.{Pending}
use Rattle.cp_client_rules.specs.Calls.{call_client}
use Rattle.cp_client_rules.specs.Clients.{Asked, Client, Did, nothing, thread_at}
use Rattle.cp_client_rules.specs.Answers.{answer_client, on_pending}
use Rattle.cp_client_rules.specs.Ticks.{own_thread, tick_client}
use Rattle.cp_world_rules.specs.Rows.{Committed, End, Request, Returned, entries_of}
use Rattle.cp_world_rules.specs.Returns.{request_of}
use Rattle.cp_world_rules.specs.World.{World, begin, begins_now, calls_if_idle, client_at, client_of, commit, commit_all, does, ends_now, hand_all, hand_on, handed, is_client, moves_if_room, new_world, note, returns_now, start, world_after, world_step}
use Rattle.cp_world_rules.proofs.Lists.{after-one_more, all_after, entries-length, entries-more, get-append, one-there, run-length, run-one_more}
use Rattle.cp_world_rules.proofs.Good.{Given as GivenTo, Good}
use Rattle.cp_world_rules.proofs.Does.{does-given, does-good}
use Rattle.cp_world_rules.proofs.Answers.{answer-ok}
use Rattle.cp_world_rules.proofs.Runs.{begin-good, handed-good, started}
use Rattle.cp_world_rules.proofs.Settled.{RestsAfter, rests, step-rests}
use Rattle.cp_world_rules.proofs.Desks.{OverIn, Owns, has_gone_on, was_ended, was_returned}
use Rattle.cp_world_rules.proofs.Desked.{Desked, Sound, begin-desked, emptied-good, hand-desked, handed-desked, none-sound, of-client, step-sound}

-- over by the end of an event
pub data OverBy (requests : List Request) (ends : List End) (returned : List Returned) (number : ℕ) (call : Invocation) : Type 0 where
  ended_by : (e : End) → Contains ends e → e.call ≡ call → e.event ≤ number → OverBy requests ends returned number call
  returned_by : (r : Returned) → Contains returned r → request_of r ≡ call → r.event ≤ number → OverBy requests ends returned number call
  gone_on_by : (q : Request) → Contains requests q → call.thread ≡ own_thread → q.call.client ≡ call.client → q.call.thread ≡ call.thread → call.number < q.call.number → q.event ≤ number → OverBy requests ends returned number call

by-more : (requests more_requests : List Request) (ends more_ends : List End) (returned more_returned : List Returned) (number : ℕ) (call : Invocation) → OverBy requests ends returned number call → OverBy (requests ++ more_requests) (ends ++ more_ends) (returned ++ more_returned) number call
by-more requests mq ends me returned mr number call (ended_by e there same at) = ended_by e (Contains-append_left ends me e there) same at
by-more requests mq ends me returned mr number call (returned_by r there same at) = returned_by r (Contains-append_left returned mr r there) same at
by-more requests mq ends me returned mr number call (gone_on_by q there own client thread less at) = gone_on_by q (Contains-append_left requests mq q there) own client thread less at

in-more : (requests more_requests : List Request) (ends more_ends : List End) (returned more_returned : List Returned) (call : Invocation) → OverIn requests ends returned call → OverIn (requests ++ more_requests) (ends ++ more_ends) (returned ++ more_returned) call
in-more requests mq ends me returned mr call (was_ended e there same) = was_ended e (Contains-append_left ends me e there) same
in-more requests mq ends me returned mr call (was_returned r there same) = was_returned r (Contains-append_left returned mr r there) same
in-more requests mq ends me returned mr call (has_gone_on q there own client thread less) = has_gone_on q (Contains-append_left requests mq q there) own client thread less

abbrev IsOverIn : World → Invocation → Type 0
IsOverIn w call = OverIn w.requests w.ends w.returns call

abbrev IsOverBy : World → ℕ → Invocation → Type 0
IsOverBy w number call = OverBy w.requests w.ends w.returns number call

over-now : (plan : Plan) (w : World) → Good plan w → Desked plan w → (call : Invocation) → IsOverIn w call → IsOverBy w w.shown.number call
over-now plan w good h call (was_ended e there same) = ended_by e there same (good.ended_by_now e there)
over-now plan w good h call (was_returned r there same) = returned_by r there same (h.book.returned_now r there)
over-now plan w good h call (has_gone_on q there own client thread less) = gone_on_by q there own client thread less (h.book.requests_now q there)

-- Where these answers wait: each answer of the history waits, as one of the event under way, or its request is over.
pub record Gone (waiting : List (Invocation × Answer)) (w : World) : Type 0 where
  pub state : all_after 1 (entries_of w.history) empty ≡ w.state
  pub gone : (place : ℕ) (c : Committed) (step : Applied) (x : Invocation × Answer) → slice_get w.history place ≡ Some c → slice_get (run 1 (entries_of w.history) empty) place ≡ Some step → Contains step.answers x
      → IsOverBy w c.event x.0 ⊎ ((Contains waiting x ⊎ Contains w.queue x) × (c.event ≡ w.shown.number))

module _ (waiting : List (Invocation × Answer)) where
  note-gone : (me : ClientNo) (d : Did) (w : World) → Gone waiting w → Gone waiting (note me d w)
  note-gone me d w h = record { state = h.state; gone = λ place c step x at_c at_step told. by c x (h.gone place c step x at_c at_step told) } where
    by : (c : Committed) (x : Invocation × Answer) → IsOverBy w c.event x.0 ⊎ ((Contains waiting x ⊎ Contains w.queue x) × (c.event ≡ w.shown.number)) → IsOverBy (note me d w) c.event x.0 ⊎ ((Contains waiting x ⊎ Contains w.queue x) × (c.event ≡ w.shown.number))
    by c x (inl o) = inl (by-more w.requests (map (begins_now w) d.asked) w.ends (map (ends_now w) d.ended) w.returns (map (returns_now w me) d.returns) c.event x.0 o)
    by c x (inr q) = inr q

  module _ (a : Asked) (w : World) (h : Gone waiting w) where
    abbrev here : Committed
    here = record { event = w.shown.number; entry = entry.Call a.call a.op }

    abbrev done : Applied
    done = apply (length w.history + 1) (entry.Call a.call a.op) w.state

    plain-size : length (entries_of w.history) ≡ length w.history
    plain-size = entries-length w.history

    run-here : run 1 (entries_of (w.history ++ here ∷ [])) empty ≡ run 1 (entries_of w.history) empty ++ done ∷ []
    run-here = ap (λ es. run 1 es empty) (entries-more w.history (here ∷ [])) ∙ (run-one_more 1 (length w.history + 1) (entries_of w.history) (entry.Call a.call a.op) empty (omega (arith, plain-size))
        ∙ ap (λ s. run 1 (entries_of w.history) empty ++ apply (length w.history + 1) (entry.Call a.call a.op) s ∷ []) h.state)

    gone-here : (place : ℕ) (c : Committed) (step : Applied) (x : Invocation × Answer) → ((slice_get w.history place ≡ Some c) × (place < length w.history)) ⊎ ((k : ℕ) × (place ≡ length w.history + k) × (slice_get (here ∷ []) k ≡ Some c))
        → ((slice_get (run 1 (entries_of w.history) empty) place ≡ Some step) × (place < length (run 1 (entries_of w.history) empty))) ⊎ ((k : ℕ) × (place ≡ length (run 1 (entries_of w.history) empty) + k) × (slice_get (done ∷ []) k ≡ Some step))
        → Contains step.answers x → IsOverBy w c.event x.0 ⊎ ((Contains waiting x ⊎ Contains (w.queue ++ done.answers) x) × (c.event ≡ w.shown.number))
    gone-here place c step x (inl u) (inl v) told = by (h.gone place c step x u.0 v.0 told) where
      by : IsOverBy w c.event x.0 ⊎ ((Contains waiting x ⊎ Contains w.queue x) × (c.event ≡ w.shown.number)) → IsOverBy w c.event x.0 ⊎ ((Contains waiting x ⊎ Contains (w.queue ++ done.answers) x) × (c.event ≡ w.shown.number))
      by (inl o) = inl o
      by (inr q) = inr (wait q.0, q.1) where
        wait : Contains waiting x ⊎ Contains w.queue x → Contains waiting x ⊎ Contains (w.queue ++ done.answers) x
        wait (inl k) = inl k
        wait (inr k) = inr (Contains-append_left w.queue done.answers x k)
    gone-here place c step x (inl u) (inr v) told = let l = u.1 in let e = v.1 in let n = run-length 1 (entries_of w.history) empty in absurd (omega (arith, l, e, n, plain-size))
    gone-here place c step x (inr u) (inl v) told = let l = v.1 in let e = u.1 in let n = run-length 1 (entries_of w.history) empty in absurd (omega (arith, l, e, n, plain-size))
    gone-here place c step x (inr u) (inr v) told = let p = one-there here u.0 c u.2 in let s = one-there done v.0 step v.2 in
        inr (inr (Contains-append_right w.queue done.answers x (subst (λ (y : Applied). Contains y.answers x) (sym s.1) told)), ap (λ (z : Committed). z.event) (sym p.1))

    commit-gone : Gone waiting (commit a w)
    commit-gone = record {
      state = ap (λ es. all_after 1 es empty) (entries-more w.history (here ∷ [])) ∙ (after-one_more 1 (length w.history + 1) (entries_of w.history) (entry.Call a.call a.op) empty (omega (arith, plain-size)) ∙ ap (λ s. (apply (length w.history + 1) (entry.Call a.call a.op) s).state) h.state);
      gone = λ place c step x at_c at_step told. gone-here place c step x (get-append w.history (here ∷ []) place c at_c) (get-append (run 1 (entries_of w.history) empty) (done ∷ []) place step (subst (λ rows. slice_get rows place ≡ Some step) run-here at_step)) told;
    }

  commits-gone : (asked : List Asked) (w : World) → Gone waiting w → Gone waiting (commit_all asked w)
  commits-gone [] w h = h
  commits-gone (a ∷ asked) w h = commits-gone asked (commit a w) (commit-gone a w h)

  does-gone : (me : ClientNo) (d : Did) (w : World) → Gone waiting w → Gone waiting (does me d w)
  does-gone me d w h = commits-gone d.asked (note me d w) (note-gone me d w h)

-- what commits leave
commits-over : (asked : List Asked) (w : World) (call : Invocation) → IsOverIn w call → IsOverIn (commit_all asked w) call
commits-over [] w call h = h
commits-over (a ∷ asked) w call h = commits-over asked (commit a w) call h

commits-number : (asked : List Asked) (w : World) → (commit_all asked w).shown.number ≡ w.shown.number
commits-number [] w = refl
commits-number (a ∷ asked) w = commits-number asked (commit a w)

same-test : (n : ℕ) → (n == n) ≡ false → ⊥
same-test n h = grind (arith, nat_tests)

module _ (plan : Plan) where
  -- once an answer was handed on, its request is over
  module _ (w : World) (a : Invocation × Answer) (good : Good plan w) (given : GivenTo w a.0 a.1) (h : Desked plan w) where
    abbrev me : ClientNo
    me = client_of a.0

    abbrev c : Client
    c = client_at w (client_of a.0)

    mine : Owns (client_of a.0) a.0.thread a.0
    mine = (of-client plan w good a.0 a.1 given, refl)

    -- its request may be over already
    over-before : ((p : Pending) → (thread_at c a.0.thread).pending ≡ Some p → (thread_at c a.0.thread).number ≡ a.0.number → ⊥) → IsOverIn w a.0
    over-before never = let e = given.answered.entered in by e.request e.mine ((h.threads (client_of a.0) a.0.thread).overs e.request e.begun (ap (λ (z : Invocation). z.client) e.mine ∙ mine.0, ap (λ (z : Invocation). z.thread) e.mine)) where
      by : (q : Request) → q.call ≡ a.0 → ((p : Pending) × ((thread_at c a.0.thread).pending ≡ Some p) × (q.call.number ≡ (thread_at c a.0.thread).number)) ⊎ IsOverIn w q.call → IsOverIn w a.0
      by q same (inl n) = absurd (never n.0 n.1 (sym n.2 ∙ ap (λ (z : Invocation). z.number) same))
      by q same (inr o) = subst (IsOverIn w) same o

    abbrev OverAfter : Did → Type 0
    OverAfter d = OverIn (w.requests ++ map (begins_now w) d.asked) (w.ends ++ map (ends_now w) d.ended) (w.returns ++ map (returns_now w (client_of a.0)) d.returns) a.0

    dropped : ((p : Pending) → (thread_at c a.0.thread).pending ≡ Some p → (thread_at c a.0.thread).number ≡ a.0.number → ⊥) → OverAfter (nothing c)
    dropped never = in-more w.requests [] w.ends [] w.returns [] a.0 (over-before never)

    open-over : (o : Option Pending) → (thread_at c a.0.thread).pending ≡ o → OverAfter (on_pending plan (replay_id (client_of a.0)) a.0 o a.1 c)
    open-over None is = dropped (λ p at n. none_some (sym is ∙ at))
    open-over (Some now) is = was_ended (ends_now w a) (Contains-append_right w.ends (ends_now w a ∷ []) (ends_now w a) (at-head (ends_now w a) [])) refl

    after-over : OverAfter (answer_client plan (replay_id (client_of a.0)) a.0 a.1 c)
    after-over = cases OverAfter ((thread_at c a.0.thread).number == a.0.number) _ _ (λ e. open-over (thread_at c a.0.thread).pending refl)
        (λ e. dropped (λ p at n. same-test a.0.number (subst (λ k. (k == a.0.number) ≡ false) n e)))

    hand-over : IsOverIn (hand_on plan a w) a.0
    hand-over = commits-over (answer_client plan (replay_id (client_of a.0)) a.0 a.1 c).asked (note (client_of a.0) (answer_client plan (replay_id (client_of a.0)) a.0 a.1 c) w) a.0 after-over

  -- the next answer
  hand-gone : (a : Invocation × Answer) (queue : List (Invocation × Answer)) (w v : World) → v.shown.number ≡ w.shown.number → IsOverBy v v.shown.number a.0 → Gone (a ∷ queue) v → Gone queue v
  hand-gone a queue w v same over h = record { state = h.state; gone = λ place c step x at_c at_step told. by c x (h.gone place c step x at_c at_step told) } where
    at-one : (c : Committed) (x : Invocation × Answer) → c.event ≡ v.shown.number → (x ≡ a) ⊎ Contains queue x → IsOverBy v c.event x.0 ⊎ ((Contains queue x ⊎ Contains v.queue x) × (c.event ≡ v.shown.number))
    at-one c x at (inl e) = inl (subst (λ n. IsOverBy v n x.0) (sym at) (subst (λ (y : Invocation × Answer). IsOverBy v v.shown.number y.0) (sym e) over))
    at-one c x at (inr k) = inr (inl k, at)

    by : (c : Committed) (x : Invocation × Answer) → IsOverBy v c.event x.0 ⊎ ((Contains (a ∷ queue) x ⊎ Contains v.queue x) × (c.event ≡ v.shown.number)) → IsOverBy v c.event x.0 ⊎ ((Contains queue x ⊎ Contains v.queue x) × (c.event ≡ v.shown.number))
    by c x (inl o) = inl o
    by c x (inr q) = wait q.0 where
      wait : Contains (a ∷ queue) x ⊎ Contains v.queue x → IsOverBy v c.event x.0 ⊎ ((Contains queue x ⊎ Contains v.queue x) × (c.event ≡ v.shown.number))
      wait (inl k) = at-one c x q.1 (one-only a x queue k)
      wait (inr k) = inr (inr k, q.1)

  hands-gone : (queue : List (Invocation × Answer)) (w : World) → Good plan w → ((a : Invocation × Answer) → Contains queue a → GivenTo w a.0 a.1) → Desked plan w → Gone queue w → Gone [] (hand_all plan queue w)
  hands-gone [] w good given h g = g
  hands-gone (a ∷ queue) w good given h g = let ok = answer-ok plan w a.0 a.1 good (given a (at-head a queue)) in
      let d = answer_client plan (replay_id (client_of a.0)) a.0 a.1 (client_at w (client_of a.0)) in
      let good_after : Good plan (hand_on plan a w) = does-good plan w (client_of a.0) (answer_client plan (replay_id (client_of a.0)) a.0 a.1 (client_at w (client_of a.0))) good ok in
      let desked_after : Desked plan (hand_on plan a w) = hand-desked plan w a good (given a (at-head a queue)) h in
      hands-gone queue (hand_on plan a w) good_after
      (λ b there. does-given plan w (client_of a.0) (answer_client plan (replay_id (client_of a.0)) a.0 a.1 (client_at w (client_of a.0))) good ok b (given b (at-tail a b queue there)))
      desked_after
      (hand-gone a queue w (hand_on plan a w) (commits-number (answer_client plan (replay_id (client_of a.0)) a.0 a.1 (client_at w (client_of a.0))).asked (note (client_of a.0) (answer_client plan (replay_id (client_of a.0)) a.0 a.1 (client_at w (client_of a.0))) w))
      (over-now plan (hand_on plan a w) good_after desked_after a.0 (hand-over w a good (given a (at-head a queue)) h))
      (does-gone (a ∷ queue) (client_of a.0) (answer_client plan (replay_id (client_of a.0)) a.0 a.1 (client_at w (client_of a.0))) w g))

  handed-gone : (w : World) → Good plan w → Desked plan w → Gone [] w → Gone [] (handed plan w)
  handed-gone w good h g = hands-gone w.queue (record w { queue = [] }) (emptied-good plan w good) (λ a there. let x = good.queue a there in record { answered = x.answered; fits = x.fits }) (record { book = h.book; threads = h.threads })
      (record { state = g.state; gone = λ place c step x at_c at_step told. by c x (g.gone place c step x at_c at_step told) })
    where
      by : (c : Committed) (x : Invocation × Answer) → IsOverBy w c.event x.0 ⊎ ((Contains [] x ⊎ Contains w.queue x) × (c.event ≡ w.shown.number)) → IsOverBy w c.event x.0 ⊎ ((Contains w.queue x ⊎ Contains [] x) × (c.event ≡ w.shown.number))
      by c x (inl o) = inl o
      by c x (inr q) = wait q.0 where
        wait : Contains [] x ⊎ Contains w.queue x → IsOverBy w c.event x.0 ⊎ ((Contains w.queue x ⊎ Contains [] x) × (c.event ≡ w.shown.number))
        wait (inl k) = absurd (no-element x k)
        wait (inr k) = inr (inl k, q.1)

  -- the begin of an event
  same-gone : (w v : World) → v.history ≡ w.history → v.state ≡ w.state → v.requests ≡ w.requests → v.ends ≡ w.ends → v.returns ≡ w.returns → v.queue ≡ w.queue → v.shown.number ≡ w.shown.number → Gone [] w → Gone [] v
  same-gone w v history state requests ends returned queue number g = record {
    state = ap (λ rows. all_after 1 (entries_of rows) empty) history ∙ (g.state ∙ sym state);
    gone = λ place c step x at_c at_step told. by c x (g.gone place c step x (subst (λ rows. slice_get rows place ≡ Some c) history at_c) (subst (λ rows. slice_get (run 1 (entries_of rows) empty) place ≡ Some step) history at_step) told);
  }
    where
      by : (c : Committed) (x : Invocation × Answer) → IsOverBy w c.event x.0 ⊎ ((Contains [] x ⊎ Contains w.queue x) × (c.event ≡ w.shown.number)) → IsOverBy v c.event x.0 ⊎ ((Contains [] x ⊎ Contains v.queue x) × (c.event ≡ v.shown.number))
      by c x (inl o) = inl (subst (λ rows. OverBy rows v.ends v.returns c.event x.0) (sym requests) (subst (λ rows. OverBy w.requests rows v.returns c.event x.0) (sym ends) (subst (λ rows. OverBy w.requests w.ends rows c.event x.0) (sym returned) o)))
      by c x (inr q) = wait q.0 where
        wait : Contains [] x ⊎ Contains w.queue x → IsOverBy v c.event x.0 ⊎ ((Contains [] x ⊎ Contains v.queue x) × (c.event ≡ v.shown.number))
        wait (inl k) = absurd (no-element x k)
        wait (inr k) = inr (inr (subst (λ rows. Contains rows x) (sym queue) k), q.1 ∙ sym number)

  start-gone : (e : Event) (w : World) → w.queue ≡ [] → Gone [] w → Gone [] (start e w)
  start-gone e w none g = record { state = g.state; gone = λ place c step x at_c at_step told. by c x (g.gone place c step x at_c at_step told) } where
    by : (c : Committed) (x : Invocation × Answer) → IsOverBy w c.event x.0 ⊎ ((Contains [] x ⊎ Contains w.queue x) × (c.event ≡ w.shown.number)) → IsOverBy w c.event x.0 ⊎ ((Contains [] x ⊎ Contains w.queue x) × (c.event ≡ length w.effects))
    by c x (inl o) = inl o
    by c x (inr q) = wait q.0 where
      wait : Contains [] x ⊎ Contains w.queue x → IsOverBy w c.event x.0 ⊎ ((Contains [] x ⊎ Contains w.queue x) × (c.event ≡ length w.effects))
      wait (inl k) = absurd (no-element x k)
      wait (inr k) = absurd (no-element x (subst (λ rows. Contains rows x) none k))

  call-gone : (me : ClientNo) (t : ThreadNo) (o : UserOp) (now : Option Pending) (w : World) → Gone [] w → Gone [] (calls_if_idle plan me t o now w)
  call-gone me t o (Some now) w g = same-gone w _ refl refl refl refl refl refl refl g
  call-gone me t o None w g = does-gone [] me (call_client plan (replay_id me) t o (client_at w me)) (record w { calls = w.calls ++ record { event = w.shown.number; client = me; thread = t; op = o; clock = (client_at w me).clock } ∷ [] })
      (same-gone w (record w { calls = w.calls ++ record { event = w.shown.number; client = me; thread = t; op = o; clock = (client_at w me).clock } ∷ [] }) refl refl refl refl refl refl refl g)

  tick-gone : (me : ClientNo) (ms : ℕ) (w : World) → Gone [] w → Gone [] (moves_if_room me ms w)
  tick-gone me ms w g = either (Gone []) (nat_lt (2 ^ 62) ((client_at w me).clock + ms)) _ _ (same-gone w _ refl refl refl refl refl refl refl g)
      (does-gone [] me (tick_client (replay_id me) ms (client_at w me)) (record w { moves = w.moves ++ record { event = w.shown.number; client = me; ms = ms; clock = (client_at w me).clock + ms } ∷ [] })
      (same-gone w (record w { moves = w.moves ++ record { event = w.shown.number; client = me; ms = ms; clock = (client_at w me).clock + ms } ∷ [] }) refl refl refl refl refl refl refl g))

  begin-gone : (e : Event) (w : World) → Gone [] w → Gone [] (begin plan e w)
  begin-gone (event.Call me t o) w g = either (Gone []) (is_client plan me) _ _ (call-gone me t o (thread_at (client_at w me) t).pending w g) (same-gone w _ refl refl refl refl refl refl refl g)
  begin-gone (event.ClientTick me ms) w g = either (Gone []) (is_client plan me) _ _ (tick-gone me ms w g) (same-gone w _ refl refl refl refl refl refl refl g)
  begin-gone (event.Deliver n) w g = same-gone w _ refl refl refl refl refl refl refl g
  begin-gone (event.Tick m ms) w g = same-gone w _ refl refl refl refl refl refl refl g
  begin-gone (event.Crash m) w g = same-gone w _ refl refl refl refl refl refl refl g
  begin-gone (event.CrashAfter m calls choice) w g = same-gone w _ refl refl refl refl refl refl refl g
  begin-gone (event.Start m) w g = same-gone w _ refl refl refl refl refl refl refl g
  begin-gone event.Open w g = g

  step-gone : (e : Event) (w : World) → w.queue ≡ [] → Sound plan w → Gone [] w → Gone [] (world_step plan w e)
  step-gone e w none s g = let l : w.shown.number ≤ length w.effects = (let b = s.between in omega (arith, b)) in
      let g0 = begin-good plan e (start e w) (started plan e w l none s.good) in
      let d0 = begin-desked plan e w s.between s.desked in
      let g1 = handed-good plan (begin plan e (start e w)) g0 in
      let d1 = handed-desked plan (begin plan e (start e w)) g0 d0 in
      same-gone (handed plan (handed plan (begin plan e (start e w)))) (world_step plan w e) refl refl refl refl refl refl refl
      (handed-gone (handed plan (begin plan e (start e w))) g1 d1 (handed-gone (begin plan e (start e w)) g0 d0 (begin-gone e (start e w) (start-gone e w none g))))

  run-gone : (n : ℕ) (events : List Event) (w : World) → RestsAfter plan n w → Sound plan w → Gone [] w → Gone [] (world_after plan w events)
  run-gone n [] w rest s g = g
  run-gone n (e ∷ events) w rest s g = run-gone (n + 1) events (world_step plan w e) (step-rests plan n e w rest) (step-sound plan e w rest.queue s) (step-gone e w rest.queue s g)

  pub all-gone : (events : List Event) → Gone [] (world_after plan new_world events)
  all-gone events = run-gone 0 events new_world (rests plan []) (none-sound plan) (record { state = refl; gone = λ place c step x at_c. absurd (none_some at_c) })

-- an answer of the history, with the step that gave it
pub given-back : (i : ℕ) (xs : List Applied) (g : Given) → Contains (given_from i xs) g → (q : ℕ) × (step : Applied) × (slice_get xs q ≡ Some step) × (g.index ≡ i + q) × Contains step.answers (g.call, g.answer)
given-back i [] g h = absurd (no-element g h)
given-back i (x ∷ xs) g h = by (Contains-append_cases (map (λ (b : Invocation × Answer). record { index = i; call = b.0; answer = b.1 }) x.answers) (given_from (i + 1) xs) g h) (given-back (i + 1) xs g) where
  by : Contains (map (λ (b : Invocation × Answer). record { index = i; call = b.0; answer = b.1 }) x.answers) g ⊎ Contains (given_from (i + 1) xs) g → (Contains (given_from (i + 1) xs) g → (q : ℕ) × (step : Applied) × (slice_get xs q ≡ Some step) × (g.index ≡ i + 1 + q) × Contains step.answers (g.call, g.answer))
      → (q : ℕ) × (step : Applied) × (slice_get (x ∷ xs) q ≡ Some step) × (g.index ≡ i + q) × Contains step.answers (g.call, g.answer)
  by (inl k) rest = let b = mapped (λ (b : Invocation × Answer). record { index = i; call = b.0; answer = b.1 }) x.answers g k in
      (0, x, refl, ap (λ (z : Given). z.index) b.2 ∙ plus i, subst (λ (z : Given). Contains x.answers (z.call, z.answer)) (sym b.2) b.1)
    where
      plus : (n : ℕ) → n ≡ n + 0
      plus n = omega arith
  by (inr k) rest = let r = rest k in (suc r.0, r.1, r.2, r.3 ∙ add i r.0, r.4) where
    add : (n m : ℕ) → n + 1 + m ≡ n + suc m
    add n m = omega arith
