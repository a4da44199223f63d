-- The laws refuse histories that are wrong, and answers without a cause. Beside some stands what is right about them, and so
-- what would not be enough to refuse them.
use Rattle.std.proofs.Common.{◌≡◌, ℕ, zero, suc, ◌+◌, ◌<◌, ◌≤◌, ◌⊎◌, inl, inr, Bool, true, false, List, [], ◌∷◌, map, Option, Some, None, refl, sym, subst, ap, ◌∙◌, arith}
use Rattle.std.specs.Prelude.{Contains, slice_get}
use Rattle.cp_base.specs.declared.identifier.Invocation.{Invocation}
use Rattle.cp_base.proofs.Tests.{no_true, same_some}
use Rattle.cp_answers.specs.declared.answer.Answer.{Answer}
use Rattle.cp_answers.specs.declared.answer.Answer.TheVariants as answer
use Rattle.cp_op_values.specs.declared.kind.Kind.TheVariants as kind
use Rattle.cp_op_values.specs.declared.wish.Wish.TheVariants as wish
use Rattle.cp_object_ops.specs.declared.latch_op.LatchOp.TheVariants as latch
use Rattle.cp_object_ops.specs.declared.lock_op.LockOp.TheVariants as lock
use Rattle.cp_object_ops.specs.declared.long_op.LongOp.TheVariants as long
use Rattle.cp_object_ops.specs.declared.sem_op.SemOp.TheVariants as sem
use Rattle.cp_ops.specs.declared.entry.Entry.TheVariants as entry
use Rattle.cp_ops.specs.declared.op.Op.{Op}
use Rattle.cp_ops.specs.declared.op.Op.TheVariants as op
use Rattle.cp_ops.specs.declared.session_op.SessionOp.TheVariants as session
use Rattle.cp_group_state.specs.Rows.{Object}
use Rattle.cp_group_state.specs.Destroying.{object_of}
use Rattle.cp_group_state.specs.Locks.{held_once, is_free, lock_at}
use Rattle.cp_group_state.specs.GroupState.{GroupState, empty}
use Rattle.cp_group_state.specs.Waiters.{stands}
use Rattle.cp_group_state.specs.Apply.{Applied, after_change, apply, give_again, perform, supersede}
use Rattle.cp_group_state.specs.Fences.{HaveOneOwner, HoldsRise, IsHeldUnder, IsSameHold}
use Rattle.cp_group_state.specs.History.{Given, IsFullyOrderly, IsOrderlyFrom, state_before}
use Rattle.cp_group_state.specs.Repeats.{Agree, IsOwnAnswer, MayAnswer}
use Rattle.cp_group_causes.specs.Causes.{HasCause, IsOvertaken, is_open, must_wait, wish_in}
use Rattle.cp_group_causes.specs.Moments.{StandsBy}
use Rattle.cp_group_causes.specs.WrongHistories.{AreRefused, acquire, acts_once, acts_twice, asks, asks_for_the_owner, asks_two_things_in_one_call, beats_a_session_above_itself, call, closes_a_session_above_itself, closes_before_it_opens, comes_late_too_soon, counts_a_round_to_come, destroys_in_vain, expires_a_session_above_itself, expires_after_a_beat, fence, gives_an_old_fence_back, gives_up_with_permits, has_two_owners, name, once_more, says_not_owner_when_closed, tells_another_fence, times_out_who_holds, who}
use Rattle.cp_group_causes.proofs.Lists.{at-head, at-tail, no-element, one-is, one-only}

-- ---- order

pub beats_passed : IsOrderlyFrom 1 beats_a_session_above_itself empty
beats_passed = ((tt, tt), ((tt, tt), tt))

pub closes_passed : IsOrderlyFrom 1 closes_a_session_above_itself empty
closes_passed = ((tt, tt), ((tt, tt), tt))

pub expires_passed : IsOrderlyFrom 1 expires_a_session_above_itself empty
expires_passed = ((tt, tt), (tt, tt))

pub refuses_two_things : IsFullyOrderly asks_two_things_in_one_call → ⊥
refuses_two_things h = no (h.one_op (call 1 1) (op.Session session.Open) (op.Long name long.Get) (at-head (asks 1 1 (op.Session session.Open)) (asks 1 1 (op.Long name long.Get) ∷ []))
    (at-tail (asks 1 1 (op.Session session.Open)) (asks 1 1 (op.Long name long.Get)) (asks 1 1 (op.Long name long.Get) ∷ []) (at-head (asks 1 1 (op.Long name long.Get)) []))) where
      no : op.Session session.Open ≡ op.Long name long.Get → ⊥
      no e = cc

pub refuses_beats_above : IsFullyOrderly beats_a_session_above_itself → ⊥
refuses_beats_above h = let l : 9 < 1 + 1 = h.sessions 1 (asks 1 2 (op.Session (session.Beat 9))) 9 refl (at-head 9 []) in absurd (omega (arith, l))

pub refuses_closes_above : IsFullyOrderly closes_a_session_above_itself → ⊥
refuses_closes_above h = let l : 2 < 1 + 1 = h.sessions 1 (asks 1 2 (op.Session (session.Close 2))) 2 refl (at-head 2 []) in absurd (omega (arith, l))

second : Contains {X = ℕ} (1 ∷ 9 ∷ []) 9
second = at-tail 1 9 (9 ∷ []) (at-head 9 [])

pub refuses_expiries_above : IsFullyOrderly expires_a_session_above_itself → ⊥
refuses_expiries_above h = let l : 9 < 1 + 1 = h.sessions 1 (entry.SessionsExpired ((1, 0) ∷ (9, 0) ∷ [])) 9 refl second in absurd (omega (arith, l))

pub refuses_rounds_to_come : IsFullyOrderly counts_a_round_to_come → ⊥
refuses_rounds_to_come h = by (h.rounds 0 (call 1 1) (op.Latch name (latch.Down 3)) refl) where
  by : (false ≡ true) ⊎ (3 ≤ 0) → ⊥
  by (inl e) = no_true (sym e)
  by (inr l) = absurd (omega (arith, l))

-- ---- repeats

pub refuses_acting_twice : Agree [] once_more acts_once acts_twice → ⊥
refuses_acting_twice h = let e : 1 ≡ 2 = ap (λ (g : GroupState). (lock_at g.locks name).holds) h.2.0 in absurd (omega (arith, e))

-- the state is right after each entry
pub another_fence_passed : map (λ (r : Applied). r.state) acts_once ≡ map (λ (r : Applied). r.state) tells_another_fence
another_fence_passed = refl

fence_of : Answer → ℕ
fence_of (answer.Fence f) = f
fence_of a = 0

no-own : (own : Option Answer) → fence 3 ≡ give_again (call 1 2) own → MayAnswer (fence 2) (call 1 2) (acquire 1) own → ⊥
unfolding fence_of
no-own None e may = no e where
  no : fence 3 ≡ [] → ⊥
  no k = cc
no-own (Some a) e may = by (subst (λ (x : Answer). Contains (fence 2) (call 1 2, x) ⊎ IsOwnAnswer (acquire 1) x) (sym (same e)) may) where
  same : fence 3 ≡ (call 1 2, a) ∷ [] → answer.Fence 3 ≡ a
  same k = ap (λ (xs : List (Invocation × Answer)). answer_of xs) k where
    answer_of : List (Invocation × Answer) → Answer
    answer_of [] = answer.Fence 3
    answer_of (x ∷ xs) = x.1

  by : Contains (fence 2) (call 1 2, answer.Fence 3) ⊎ ⊥ → ⊥
  by (inl h) = let e : 3 ≡ 2 = ap (λ (x : Invocation × Answer). fence_of x.1) (one-is (call 1 2, answer.Fence 2) (call 1 2, answer.Fence 3) h) in absurd (omega (arith, e))
  by (inr h) = h

pub refuses_another_fence : Agree [] once_more acts_once tells_another_fence → ⊥
refuses_another_fence h = no-own h.2.1.own h.2.1.answers h.2.1.may

-- ---- fences

-- at the two moments owner and fence are the same
pub old_fence_passed : IsSameHold (lock_at (gives_an_old_fence_back 1) name) (lock_at (gives_an_old_fence_back 3) name)
old_fence_passed = (refl, refl)

pub refuses_old_fences : HoldsRise gives_an_old_fence_back → ⊥
refuses_old_fences h = by (h 1 3 name (omega arith) refl refl) where
  by : ((moment : ℕ) → 1 ≤ moment → moment ≤ 3 → (is_free (lock_at (gives_an_old_fence_back moment) name) ≡ false) × IsSameHold (lock_at (gives_an_old_fence_back 1) name) (lock_at (gives_an_old_fence_back moment) name)) ⊎ (2 < 2) → ⊥
  by (inl one) = no_true (one 2 (omega arith) (omega arith)).0
  by (inr less) = absurd (omega (arith, less))

pub refuses_two_owners : HaveOneOwner has_two_owners → ⊥
refuses_two_owners h = let e : 0 ≡ 1 = h 0 0 1 (name, held_once who 2) (name, held_once (record { session = 3; thread = record { 0 = 1 } }) 4) refl refl refl in absurd (omega (arith, e))

op-of : {c d : Invocation} {o p : Op} → entry.Call c o ≡ entry.Call d p → o ≡ p
op-of e = cc

pub refuses_old_fences_of_owners : IsHeldUnder asks_for_the_owner ((name, held_once who 4) ∷ []) (call 1 1) (answer.Held 1 (record { 0 = 1 }) 1 2) → ⊥
refuses_old_fences_of_owners h = let asked : h.1.0 ≡ op.Lock name lock.Owner = op-of (one-is (asks 1 1 (op.Lock name lock.Owner)) (entry.Call (call 1 1) h.1.0) h.1.1) in
    let named : (name, kind.Lock) ≡ (h.0, kind.Lock) = same_some (subst (λ (p : Op). object_of p ≡ Some (h.0, kind.Lock)) asked h.1.2) in
    let e : 4 ≡ 2 = subst (λ (key : Object). (lock_at ((name, held_once who 4) ∷ []) key.0).fence ≡ 2) (sym named) h.5 in absurd (omega (arith, e))

-- ---- causes

-- an expiry names the session
pub expiry_passed : StandsBy expires_after_a_beat 4 (entry.SessionsExpired ((1, 0) ∷ []))
expiry_passed = record { place = 2; in_time = omega arith; there = refl }

pub refuses_stale_expiries : HasCause expires_after_a_beat 4 (call 1 3) (answer.SessionExpired 1) → ⊥
refuses_stale_expiries h = by h.place h.in_time h.before h.after where
  by : (place : ℕ) → place < 4 → is_open (state_before expires_after_a_beat place) 1 ≡ true → is_open (state_before expires_after_a_beat (place + 1)) 1 ≡ false → ⊥
  by zero l before after = no_true (sym before)
  by (suc zero) l before after = no_true after
  by (suc (suc zero)) l before after = no_true after
  by (suc (suc (suc zero))) l before after = no_true after
  by (suc (suc (suc (suc n)))) l before after = absurd (omega (arith, l))

-- a close of the session stands before
pub close_passed : StandsBy closes_before_it_opens 3 (entry.Call (call 2 1) (op.Session (session.Close 2)))
close_passed = record { place = 0; in_time = omega arith; there = refl }

pub refuses_early_closes : HasCause closes_before_it_opens 3 (call 1 2) (answer.SessionExpired 2) → ⊥
refuses_early_closes h = by h.place h.in_time h.before h.after where
  by : (place : ℕ) → place < 3 → is_open (state_before closes_before_it_opens place) 2 ≡ true → is_open (state_before closes_before_it_opens (place + 1)) 2 ≡ false → ⊥
  by zero l before after = no_true (sym before)
  by (suc zero) l before after = no_true (sym before)
  by (suc (suc zero)) l before after = no_true after
  by (suc (suc (suc n))) l before after = absurd (omega (arith, l))

-- the wish is 0
pub wish_passed : wish_in (op.Sem name (sem.Acquire 1 1 (wish.Within 0))) ≡ Some (wish.Within 0)
wish_passed = refl

same-op : {c d : Invocation} {o p : Op} → Some (entry.Call c o) ≡ Some (entry.Call d p) → o ≡ p
same-op e = cc

same-number : {c d : Invocation} {o p : Op} → Some (entry.Call c o) ≡ Some (entry.Call d p) → c.number ≡ d.number
same-number e = cc

no-call : {calls : List Invocation} {c : Invocation} {o : Op} → Some (entry.Call c o) ≡ Some (entry.WaitsExpired calls) → ⊥
no-call e = cc

no-expiry : {calls : List Invocation} {c : Invocation} {o : Op} → Some (entry.WaitsExpired calls) ≡ Some (entry.Call c o) → ⊥
no-expiry e = cc

same-wish : {m n : ℕ} → Some (wish.Within m) ≡ Some (wish.Within n) → m ≡ n
same-wish e = cc

pub refuses_giving_up : HasCause gives_up_with_permits 3 (call 1 3) answer.TimedOut → ⊥
refuses_giving_up (inl h) = by h.ruled.place h.ruled.in_time h.ruled.op h.ruled.own h.in_vain where
  by : (place : ℕ) → place < 3 → (o : Op) → slice_get gives_up_with_permits place ≡ Some (entry.Call (call 1 3) o) → must_wait (call 1 3) o (supersede (call 1 3) (state_before gives_up_with_permits place)).state ≡ true → ⊥
  by zero l o own must = let e : 1 ≡ 3 = same-number own in absurd (omega (arith, e))
  by (suc zero) l o own must = let e : 2 ≡ 3 = same-number own in absurd (omega (arith, e))
  by (suc (suc zero)) l o own must = no_true (sym (subst (λ p. must_wait (call 1 3) p (supersede (call 1 3) (state_before gives_up_with_permits 2)).state ≡ true) (sym (same-op own)) must))
  by (suc (suc (suc n))) l o own must = absurd (omega (arith, l))
refuses_giving_up (inr h) = by h.place h.in_time h.there where
  by : (place : ℕ) → place < 3 → slice_get gives_up_with_permits place ≡ Some (entry.WaitsExpired h.calls) → ⊥
  by zero l there = no-call there
  by (suc zero) l there = no-call there
  by (suc (suc zero)) l there = no-call there
  by (suc (suc (suc n))) l there = absurd (omega (arith, l))

-- an expiry names the call
pub time_out_passed : StandsBy times_out_who_holds 3 (entry.WaitsExpired (call 1 2 ∷ []))
time_out_passed = record { place = 2; in_time = omega arith; there = refl }

pub refuses_timing_out_who_holds : HasCause times_out_who_holds 3 (call 1 2) answer.TimedOut → ⊥
refuses_timing_out_who_holds (inl h) = by h.ruled.place h.ruled.in_time h.ruled.op h.ruled.own h.at_once where
  by : (place : ℕ) → place < 3 → (o : Op) → slice_get times_out_who_holds place ≡ Some (entry.Call (call 1 2) o) → wish_in o ≡ Some (wish.Within 0) → ⊥
  by zero l o own wished = let e : 1 ≡ 2 = same-number own in absurd (omega (arith, e))
  by (suc zero) l o own wished = let e : 5 ≡ 0 = same-wish (subst (λ p. wish_in p ≡ Some (wish.Within 0)) (sym (same-op own)) wished) in absurd (omega (arith, e))
  by (suc (suc zero)) l o own wished = no-expiry own
  by (suc (suc (suc n))) l o own wished = absurd (omega (arith, l))
refuses_timing_out_who_holds (inr h) = by h.place h.in_time h.there h.waited where
  by : (place : ℕ) → place < 3 → slice_get times_out_who_holds place ≡ Some (entry.WaitsExpired h.calls) → stands (call 1 2) (state_before times_out_who_holds place).waiters ≡ true → ⊥
  by zero l there waited = no-call there
  by (suc zero) l there waited = no-call there
  by (suc (suc zero)) l there waited = no_true (sym waited)
  by (suc (suc (suc n))) l there waited = absurd (omega (arith, l))

-- a later call stands there by then
pub late_passed : IsOvertaken comes_late_too_soon 2 (call 1 1) 2
late_passed = (call 1 2, op.Long name long.Get, record { place = 1; in_time = omega arith; there = refl }, refl, refl, refl, omega arith)

pub refuses_late_too_soon : HasCause comes_late_too_soon 2 (call 1 1) (answer.Stale 2) → ⊥
refuses_late_too_soon h = let l = h.1 in let m = h.2.2.in_time in by h.2.2.place (omega (arith, l, m)) h.2.0 h.2.1 h.2.2.there h.2.5 where
  by : (place : ℕ) → place < 1 → (c : Invocation) (o : Op) → slice_get comes_late_too_soon place ≡ Some (entry.Call c o) → c.number ≡ 2 → ⊥
  by zero l c o there two = let e : 1 ≡ c.number = same-number there in absurd (omega (arith, e, two))
  by (suc n) l c o there two = absurd (omega (arith, l))

-- the rule alone would say so
pub rule_passed : Contains (perform 3 (call 1 3) (op.Lock name (lock.Release 1)) (supersede (call 1 3) (state_before says_not_owner_when_closed 2)).state).answers (call 1 3, answer.NotOwner)
rule_passed = at-head (call 1 3, answer.NotOwner) []

says : Answer → Bool
says answer.NotOwner = true
says a = false

first_says : List (Invocation × Answer) → Bool
first_says [] = false
first_says (a ∷ rest) = says a.1

pub refuses_not_owner_when_closed : HasCause says_not_owner_when_closed 3 (call 1 3) answer.NotOwner → ⊥
unfolding says first_says
refuses_not_owner_when_closed h = by h.place h.in_time h.op h.own h.judged where
  by : (place : ℕ) → place < 3 → (o : Op) → slice_get says_not_owner_when_closed place ≡ Some (entry.Call (call 1 3) o)
      → apply (place + 1) (entry.Call (call 1 3) o) (state_before says_not_owner_when_closed place) ≡ after_change (supersede (call 1 3) (state_before says_not_owner_when_closed place)) (perform (place + 1) (call 1 3) o) → ⊥
  by zero l o own judged = let e : 1 ≡ 3 = same-number own in absurd (omega (arith, e))
  by (suc zero) l o own judged = let e : 2 ≡ 3 = same-number own in absurd (omega (arith, e))
  by (suc (suc zero)) l o own judged = no_true (sym (ap (λ (r : Applied). first_says r.answers)
      (subst (λ p. apply 3 (entry.Call (call 1 3) p) (state_before says_not_owner_when_closed 2) ≡ after_change (supersede (call 1 3) (state_before says_not_owner_when_closed 2)) (perform 3 (call 1 3) p)) (sym (same-op own)) judged)))
  by (suc (suc (suc n))) l o own judged = absurd (omega (arith, l))

-- a destroy of the object stands before
pub destroy_passed : StandsBy destroys_in_vain 3 (entry.Call (call 1 1) (op.Destroy kind.Long name))
destroy_passed = record { place = 1; in_time = omega arith; there = refl }

abbrev given : ℕ → Invocation → Answer → Given
given index c a = record { index = index; call = c; answer = a }

is_ok : Answer → Bool
is_ok answer.Ok = true
is_ok a = false

-- no answer of this history is Ok
gone_first : Given
gone_first = given 2 (call 1 1) (answer.GroupDestroyed (record { 0 = 7 }))

gone_next : Given
gone_next = given 3 (call 1 2) (answer.GroupDestroyed (record { 0 = 7 }))

not_ok : (g h : Given) → is_ok g.answer ≡ true → is_ok h.answer ≡ false → g ≡ h → ⊥
not_ok g h ok other e = no_true (sym ok ∙ ap (λ (x : Given). is_ok x.answer) e ∙ other)

pub refuses_destroys_in_vain : HasCause destroys_in_vain 3 (call 1 2) answer.ObjectDestroyed → ⊥
unfolding is_ok gone_first gone_next
refuses_destroys_in_vain h = by (one-only gone_first (given (h.place + 1) h.by answer.Ok) (gone_next ∷ []) h.done) where
  last : (given (h.place + 1) h.by answer.Ok ≡ gone_next) ⊎ Contains [] (given (h.place + 1) h.by answer.Ok) → ⊥
  last (inl e) = not_ok (given (h.place + 1) h.by answer.Ok) gone_next refl refl e
  last (inr n) = no-element (given (h.place + 1) h.by answer.Ok) n

  by : (given (h.place + 1) h.by answer.Ok ≡ gone_first) ⊎ Contains (gone_next ∷ []) (given (h.place + 1) h.by answer.Ok) → ⊥
  by (inl e) = not_ok (given (h.place + 1) h.by answer.Ok) gone_first refl refl e
  by (inr c) = last (one-only gone_next (given (h.place + 1) h.by answer.Ok) [] c)

-- ---- all of them

pub refused : AreRefused
refused = record {
  two_things = refuses_two_things;
  early_beats = refuses_beats_above;
  early_closes = refuses_closes_above;
  early_expiries = refuses_expiries_above;
  rounds_to_come = refuses_rounds_to_come;
  acting_twice = refuses_acting_twice;
  another_fence = refuses_another_fence;
  old_fences = refuses_old_fences;
  two_owners = refuses_two_owners;
  old_fences_of_owners = refuses_old_fences_of_owners;
  stale_expiries = refuses_stale_expiries;
  closes_of_nothing = refuses_early_closes;
  giving_up = refuses_giving_up;
  timing_out_who_holds = refuses_timing_out_who_holds;
  late_too_soon = refuses_late_too_soon;
  not_owner_when_closed = refuses_not_owner_when_closed;
  destroys_of_nothing = refuses_destroys_in_vain;
}
