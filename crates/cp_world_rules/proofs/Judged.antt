-- An event is ignored exactly where it has a cause.
use Rattle.std.proofs.Common.{◌≡◌, ℕ, ◌+◌, ◌<◌, ◌≤◌, ◌⊎◌, inl, inr, Bool, true, false, ◌&&◌, List, [], ◌∷◌, ◌++◌, Some, None, Option, refl, sym, subst, ap, ◌∙◌, arith, length, map, zero, suc, le_refl, append_assoc, if◌then◌else◌}
use Rattle.std.specs.Prelude.{Contains, slice_get, nat_le, nat_lt, is_none}
use Rattle.std.proofs.lemmas.Bool.Decides.{nat_tests}
use Rattle.std.proofs.lemmas.List.{length_push}
use Rattle.std.proofs.lemmas.List.Elements.{Contains-append_cases, Contains-append_left}
use Rattle.cp_base.specs.declared.limits.TheConstants.{LAST_NUMBER}
use Rattle.cp_base.specs.Identifiers.{replay_id}
use Rattle.cp_base.specs.declared.identifier.ClientNo.{ClientNo}
use Rattle.cp_base.specs.declared.identifier.Invocation.{Invocation}
use Rattle.cp_base.specs.declared.identifier.ThreadNo.{ThreadNo}
use Rattle.cp_base.proofs.Tests.{none_some}
use Rattle.cp_events.specs.declared.effects.Effects.{Effects}
use Rattle.cp_events.specs.declared.effects.Ignored.{Ignored}
use Rattle.cp_events.specs.declared.effects.Ignored.TheVariants as ignored
use Rattle.cp_events.specs.declared.event.Event.{Event}
use Rattle.cp_events.specs.declared.event.Event.TheVariants as event
use Rattle.cp_events.specs.declared.plan.Plan.{Plan}
use Rattle.cp_events.specs.declared.user_op.UserOp.{UserOp}
use Rattle.cp_group_state.proofs.Walk.{cases}
use Rattle.cp_group_causes.proofs.Lists.{get-in, get-last, get-left, mapped}
use Rattle.cp_client_rules.specs.declared.rows.Pending.{Pending}
use Rattle.cp_client_rules.specs.Calls.{call_client}
use Rattle.cp_client_rules.specs.Clients.{Did, thread_at}
use Rattle.cp_client_rules.specs.Ticks.{tick_client}
use Rattle.cp_world_rules.specs.Rows.{End, Request, Returned}
use Rattle.cp_world_rules.specs.World.{World, begin, begins_now, calls_if_idle, client_at, close, commit, ends_now, handed, ignore, is_client, moves_if_room, new_world, note, returns_now, shows_nothing, start, world_after, world_step}
use Rattle.cp_world_rules.specs.Execution.{Execution, executed, returns_in}
use Rattle.cp_world_rules.specs.Returns.{clock_after, moved_by}
use Rattle.cp_world_rules.specs.Judging.{CallIsIgnored, IsBusy, IsJudged, IsOver, TickIsIgnored, ended, returned, went_on}
use Rattle.cp_world_rules.specs.Prompt.{IsIgnoredSo}
use Rattle.cp_world_rules.proofs.Lists.{get-right, push-none}
use Rattle.cp_world_rules.proofs.Walking.{IsHanded, IsKeptBetween, between-after, does-kept, event-kept, from-kept, handed-kept}
use Rattle.cp_world_rules.proofs.Printed.{Printed, clock_of, printed-next}
use Rattle.cp_world_rules.proofs.Settled.{RestsAfter, step-rests}
use Rattle.cp_world_rules.proofs.Desks.{IsOpen, OverIn, Owns, has_gone_on, was_ended, was_returned}
use Rattle.cp_world_rules.proofs.Desked.{Sound, step-sound}

-- ---- what an event is judged by

module _ (plan : Plan) (w : World) where
  abbrev pub JudgedCall : ClientNo → ThreadNo → Option Ignored → Type 0
  JudgedCall c t None = (is_client plan c ≡ true) × ((thread_at (client_at w c) t).pending ≡ None)
  JudgedCall c t (Some (ignored.ThreadBusy n)) = (is_client plan c ≡ true) × ((now : Pending) × ((thread_at (client_at w c) t).pending ≡ Some now)) × (n ≡ (thread_at (client_at w c) t).number)
  JudgedCall c t (Some ignored.NoSuchClient) = is_client plan c ≡ false
  JudgedCall c t cause = ⊥

  abbrev pub JudgedTick : ClientNo → ℕ → Option Ignored → Type 0
  JudgedTick c ms None = (is_client plan c ≡ true) × (clock_of w c + ms ≤ LAST_NUMBER)
  JudgedTick c ms (Some (ignored.ClockEnd clock)) = (is_client plan c ≡ true) × (clock ≡ clock_of w c) × (LAST_NUMBER < clock_of w c + ms)
  JudgedTick c ms (Some ignored.NoSuchClient) = is_client plan c ≡ false
  JudgedTick c ms cause = ⊥

  abbrev pub Judged : Event → Option Ignored → Type 0
  Judged event.Open cause = cause ≡ None
  Judged (event.Call c t o) cause = JudgedCall c t cause
  Judged (event.ClientTick c ms) cause = JudgedTick c ms cause
  Judged (event.Deliver k) cause = cause ≡ Some (ignored.NoMessage 0)
  Judged (event.Tick m ms) cause = cause ≡ Some ignored.NoSuchMember
  Judged (event.Crash m) cause = cause ≡ Some ignored.NoSuchMember
  Judged (event.CrashAfter m calls choice) cause = cause ≡ Some ignored.NoSuchMember
  Judged (event.Start m) cause = cause ≡ Some ignored.NoSuchMember

abbrev IgnoredIs : Option Ignored → World → Type 0
IgnoredIs cause w = w.shown.ignored ≡ cause

ignored-handed : (cause : Option Ignored) → IsHanded (IgnoredIs cause)
ignored-handed cause = record { notes = λ me d w h. h; commits = λ a w h. h; empties = λ w h. h }

less-than : (a b : ℕ) → nat_lt a b ≡ true → a < b
less-than a b h = grind (arith, nat_tests)

not-less : (a b : ℕ) → nat_lt a b ≡ false → b ≤ a
not-less a b h = grind (arith, nat_tests)

module _ (plan : Plan) where
  call-judged : (c : ClientNo) (t : ThreadNo) (o : UserOp) (w : World) → is_client plan c ≡ true → (now : Option Pending) → (thread_at (client_at w c) t).pending ≡ now
      → JudgedCall plan w c t (calls_if_idle plan c t o now (start (event.Call c t o) w)).shown.ignored
  call-judged c t o w client None is = subst (JudgedCall plan w c t) (sym (does-kept plan (IgnoredIs None) (ignored-handed None) c (call_client plan (replay_id c) t o (client_at w c))
      (record (start (event.Call c t o) w) { calls = w.calls ++ record { event = length w.effects; client = c; thread = t; op = o; clock = (client_at w c).clock } ∷ [] }) refl)) (client, is)
  call-judged c t o w client (Some now) is = (client, (now, is), refl)

  tick-judged : (c : ClientNo) (ms : ℕ) (w : World) → is_client plan c ≡ true → JudgedTick plan w c ms (moves_if_room c ms (start (event.ClientTick c ms) w)).shown.ignored
  tick-judged c ms w client = cases (λ (v : World). JudgedTick plan w c ms v.shown.ignored) (nat_lt LAST_NUMBER ((client_at w c).clock + ms)) _ _
      (λ e. (client, refl, less-than LAST_NUMBER ((client_at w c).clock + ms) e))
      (λ e. subst (JudgedTick plan w c ms) (sym (does-kept plan (IgnoredIs None) (ignored-handed None) c (tick_client (replay_id c) ms (client_at w c))
      (record (start (event.ClientTick c ms) w) { moves = w.moves ++ record { event = length w.effects; client = c; ms = ms; clock = (client_at w c).clock + ms } ∷ [] }) refl)) (client, not-less LAST_NUMBER ((client_at w c).clock + ms) e))

  begin-judged : (e : Event) (w : World) → Judged plan w e (begin plan e (start e w)).shown.ignored
  begin-judged (event.Call c t o) w = cases (λ (v : World). JudgedCall plan w c t v.shown.ignored) (is_client plan c) _ _ (λ e. call-judged c t o w e (thread_at (client_at w c) t).pending refl) (λ e. e)
  begin-judged (event.ClientTick c ms) w = cases (λ (v : World). JudgedTick plan w c ms v.shown.ignored) (is_client plan c) _ _ (λ e. tick-judged c ms w e) (λ e. e)
  begin-judged (event.Deliver k) w = refl
  begin-judged (event.Tick m ms) w = refl
  begin-judged (event.Crash m) w = refl
  begin-judged (event.CrashAfter m calls choice) w = refl
  begin-judged (event.Start m) w = refl
  begin-judged event.Open w = refl

  pub shown-judged : (e : Event) (w : World) → Judged plan w e (handed plan (handed plan (begin plan e (start e w)))).shown.ignored
  shown-judged e w = subst (Judged plan w e) (sym (handed-kept plan (IgnoredIs cause) (ignored-handed cause) (handed plan (begin plan e (start e w))) (handed-kept plan (IgnoredIs cause) (ignored-handed cause) (begin plan e (start e w)) refl))) (begin-judged e w) where
    cause : Option Ignored
    cause = (begin plan e (start e w)).shown.ignored

-- ---- what comes later is of later events

pub record Later (w v : World) : Type 0 where
  pub requests : (q : Request) → Contains v.requests q → Contains w.requests q ⊎ (length w.effects ≤ q.event)
  pub ends : (e : End) → Contains v.ends e → Contains w.ends e ⊎ (length w.effects ≤ e.event)
  pub returns : (r : Returned) → Contains v.returns r → Contains w.returns r ⊎ (length w.effects ≤ r.event)
  pub requests_kept : (q : Request) → Contains w.requests q → Contains v.requests q
  pub ends_kept : (e : End) → Contains w.ends e → Contains v.ends e
  pub returns_kept : (r : Returned) → Contains w.returns r → Contains v.returns r
  pub number : length w.effects ≤ v.shown.number

module _ (w : World) where
  note-later : (me : ClientNo) (d : Did) (v : World) → Later w v → Later w (note me d v)
  note-later me d v h = record {
    requests = λ q there. request q (Contains-append_cases v.requests (map (begins_now v) d.asked) q there);
    ends = λ e there. end e (Contains-append_cases v.ends (map (ends_now v) d.ended) e there);
    returns = λ r there. return_at r (Contains-append_cases v.returns (map (returns_now v me) d.returns) r there);
    requests_kept = λ q there. Contains-append_left v.requests (map (begins_now v) d.asked) q (h.requests_kept q there);
    ends_kept = λ e there. Contains-append_left v.ends (map (ends_now v) d.ended) e (h.ends_kept e there);
    returns_kept = λ r there. Contains-append_left v.returns (map (returns_now v me) d.returns) r (h.returns_kept r there);
    number = h.number;
  }
    where
      request : (q : Request) → Contains v.requests q ⊎ Contains (map (begins_now v) d.asked) q → Contains w.requests q ⊎ (length w.effects ≤ q.event)
      request q (inl x) = h.requests q x
      request q (inr x) = let y = mapped (begins_now v) d.asked q x in inr (subst (λ (z : Request). length w.effects ≤ z.event) (sym y.2) h.number)

      end : (e : End) → Contains v.ends e ⊎ Contains (map (ends_now v) d.ended) e → Contains w.ends e ⊎ (length w.effects ≤ e.event)
      end e (inl x) = h.ends e x
      end e (inr x) = let y = mapped (ends_now v) d.ended e x in inr (subst (λ (z : End). length w.effects ≤ z.event) (sym y.2) h.number)

      return_at : (r : Returned) → Contains v.returns r ⊎ Contains (map (returns_now v me) d.returns) r → Contains w.returns r ⊎ (length w.effects ≤ r.event)
      return_at r (inl x) = h.returns r x
      return_at r (inr x) = let y = mapped (returns_now v me) d.returns r x in inr (subst (λ (z : Returned). length w.effects ≤ z.event) (sym y.2) h.number)

  same-later : (v u : World) → u.requests ≡ v.requests → u.ends ≡ v.ends → u.returns ≡ v.returns → length w.effects ≤ u.shown.number → Later w v → Later w u
  same-later v u requests ends returns l h = record {
    requests = λ q there. h.requests q (subst (λ rows. Contains rows q) requests there);
    ends = λ e there. h.ends e (subst (λ rows. Contains rows e) ends there);
    returns = λ r there. h.returns r (subst (λ rows. Contains rows r) returns there);
    requests_kept = λ q there. subst (λ rows. Contains rows q) (sym requests) (h.requests_kept q there);
    ends_kept = λ e there. subst (λ rows. Contains rows e) (sym ends) (h.ends_kept e there);
    returns_kept = λ r there. subst (λ rows. Contains rows r) (sym returns) (h.returns_kept r there);
    number = l;
  }

  later-kept : IsKeptBetween (Later w)
  later-kept = record {
    within = record {
      steps = record { notes = note-later; commits = λ a v h. same-later v (commit a v) refl refl refl h.number h; empties = λ v h. same-later v (record v { queue = [] }) refl refl refl h.number h };
      ignores = λ cause v h. same-later v (ignore cause v) refl refl refl h.number h;
      calls = λ c v h. same-later v (record v { calls = v.calls ++ c ∷ [] }) refl refl refl h.number h;
      moves = λ m v h. same-later v (record v { moves = v.moves ++ m ∷ [] }) refl refl refl h.number h;
    };
    starts = λ e v b h. same-later v (start e v) refl refl refl (let n = h.number in omega (arith, n, b)) h;
    closes = λ v h. same-later v (close v) refl refl refl h.number h;
  }

  first-later : (e : Event) → Later w (start e w)
  first-later e = record { requests = λ q there. inl there; ends = λ x there. inl there; returns = λ r there. inl there; requests_kept = λ q there. there; ends_kept = λ x there. there; returns_kept = λ r there. there; number = le_refl (length w.effects) }

  pub later-all : (plan : Plan) (e : Event) (events : List Event) → Later w (world_after plan (world_step plan w e) events)
  later-all plan e events = from-kept plan (Later w) later-kept events (world_step plan w e) (between-after plan e w)
      (same-later (handed plan (handed plan (begin plan e (start e w)))) (world_step plan w e) refl refl refl l.number l)
    where
      l : Later w (handed plan (handed plan (begin plan e (start e w))))
      l = event-kept plan (Later w) later-kept.within e w (first-later e)

-- effects that stand stay in front
abbrev pub Fronted : List Effects → World → Type 0
Fronted effects w = (rest : List Effects) × (w.effects ≡ effects ++ rest)

fronted-kept : (effects : List Effects) → IsKeptBetween (Fronted effects)
fronted-kept effects = record {
  within = record { steps = record { notes = λ me d w h. h; commits = λ a w h. h; empties = λ w h. h }; ignores = λ cause w h. h; calls = λ c w h. h; moves = λ m w h. h };
  starts = λ e w b h. h;
  closes = λ w h. (h.0 ++ w.shown ∷ [], ap (λ rows. rows ++ w.shown ∷ []) h.1 ∙ append_assoc effects h.0 (w.shown ∷ []));
}

-- ---- clocks

clock-append : (me : ClientNo) (n : ℕ) (xs ys : List Effects) → clock_after me n (xs ++ ys) ≡ clock_after me n xs + clock_after me n ys
clock-append me n [] ys = plus (clock_after me n ys) where
  plus : (k : ℕ) → k ≡ 0 + k
  plus k = omega arith
clock-append me n (x ∷ xs) ys = let e = clock-append me n xs ys in sums (if nat_le x.number n && is_none x.ignored then moved_by me x.event else 0) (clock_after me n (xs ++ ys)) (clock_after me n xs) (clock_after me n ys) e where
  sums : (a b c k : ℕ) → b ≡ c + k → a + b ≡ a + c + k
  sums a b c k h = omega (arith, h)

clock-none : (me : ClientNo) (n from : ℕ) (ys : List Effects) → n < from → ((k : ℕ) (y : Effects) → slice_get ys k ≡ Some y → y.number ≡ from + k) → clock_after me n ys ≡ 0
clock-none me n from [] l all = refl
clock-none me n from (y ∷ ys) l all = let first = all 0 y refl in let rest = clock-none me n (from + 1) ys (omega (arith, l)) (λ k x is. let e = all (suc k) x is in turn k x.number e) in
    rw (no-le y.number n (omega (arith, first, l))) (zero-and (clock_after me n ys) rest)
  where
    no-le : (a b : ℕ) → b < a → nat_le a b ≡ false
    no-le a b h = grind (arith, nat_tests)

    zero-and : (k : ℕ) → k ≡ 0 → 0 + k ≡ 0
    zero-and k e = omega (arith, e)

    turn : (k m : ℕ) → m ≡ from + suc k → m ≡ from + 1 + k
    turn k m h = omega (arith, h)

-- ---- the final rows against those of the moment

module _ (plan : Plan) (w : World) (s : Sound plan w) (v : World) (later : Later w v) (clocks : (c : ClientNo) (n : ℕ) → length w.effects ≤ n + 1 → clock_of w c ≡ clock_after c n w.effects)
    (rest : List Effects) (front : v.effects ≡ w.effects ++ rest) (returned_is : v.returns ≡ returns_in v.effects) (numbers : (place : ℕ) (x : Effects) → slice_get v.effects place ≡ Some x → x.number ≡ place)
  where
    abbrev number : ℕ
    number = length w.effects

    before : w.shown.number < length w.effects
    before = s.between

    request-before : (q : Request) → Contains v.requests q → q.event < number → Contains w.requests q
    request-before q there l = by (later.requests q there) where
      by : Contains w.requests q ⊎ (number ≤ q.event) → Contains w.requests q
      by (inl h) = h
      by (inr h) = absurd (omega (arith, h, l))

    end-before : (e : End) → Contains v.ends e → e.event < number → Contains w.ends e
    end-before e there l = by (later.ends e there) where
      by : Contains w.ends e ⊎ (number ≤ e.event) → Contains w.ends e
      by (inl h) = h
      by (inr h) = absurd (omega (arith, h, l))

    return-before : (r : Returned) → Contains (returns_in v.effects) r → r.event < number → Contains w.returns r
    return-before r there l = by (later.returns r (subst (λ rows. Contains rows r) (sym returned_is) there)) where
      by : Contains w.returns r ⊎ (number ≤ r.event) → Contains w.returns r
      by (inl h) = h
      by (inr h) = absurd (omega (arith, h, l))

    -- what is over then
    over-then : (call : Invocation) → OverIn w.requests w.ends w.returns call → IsOver (executed v) w.shown.number call
    over-then call (was_ended e there same) = ended e (later.ends_kept e there) same (let b = s.desked.book in ends-now e there)
      where
        ends-now : (e : End) → Contains w.ends e → e.event ≤ w.shown.number
        ends-now = s.good.ended_by_now
    over-then call (was_returned r there same) = returned r (subst (λ rows. Contains rows r) returned_is (later.returns_kept r there)) same (s.desked.book.returned_now r there)
    over-then call (has_gone_on q there own client thread less) = went_on q (later.requests_kept q there) own client thread less (s.desked.book.requests_now q there)

    -- no thread that is idle has an open request
    idle-then : (c : ClientNo) (t : ThreadNo) → (thread_at (client_at w c) t).pending ≡ None → (n : ℕ) → IsBusy (executed v) number c t n → ⊥
    idle-then c t none n busy = busy.not_over w.shown.number before (over-then busy.request.call (by ((s.desked.threads c t).overs busy.request there mine))) where
      there : Contains w.requests busy.request
      there = request-before busy.request busy.began busy.before

      mine : Owns c t busy.request.call
      mine = (ap (λ (z : Invocation). z.client) busy.call_is, ap (λ (z : Invocation). z.thread) busy.call_is)

      by : ((p : Pending) × ((thread_at (client_at w c) t).pending ≡ Some p) × (busy.request.call.number ≡ (thread_at (client_at w c) t).number)) ⊎ OverIn w.requests w.ends w.returns busy.request.call → OverIn w.requests w.ends w.returns busy.request.call
      by (inl h) = absurd (none_some (sym none ∙ h.1))
      by (inr h) = h

    -- a thread with an open request is busy
    busy-then : (c : ClientNo) (t : ThreadNo) (now : Pending) → (thread_at (client_at w c) t).pending ≡ Some now → IsBusy (executed v) number c t (thread_at (client_at w c) t).number
    busy-then c t now is = let o = (s.desked.threads c t).open_ok now is in record {
      request = o.asked;
      began = later.requests_kept o.asked o.there;
      call_is = o.call_is;
      before = let l = s.desked.book.requests_now o.asked o.there in let b = before in omega (arith, l, b);
      last = λ q there mine thread l. (s.desked.threads c t).numbers q (request-before q there l) (mine, thread);
      not_over = λ k l over. open-then k l o over;
    }
      where
        open-then : (k : ℕ) → k < number → (o : IsOpen plan (record { calls = w.calls; requests = w.requests; ends = w.ends; returned = w.returns; moves = w.moves }) c t (thread_at (client_at w c) t).number now) → IsOver (executed v) k o.asked.call → ⊥
        open-then k l o (ended e there same at) = o.not_ended e (end-before e there (omega (arith, at, l))) (same ∙ o.call_is)
        open-then k l o (returned r there same at) = o.not_told r (return-before r there (omega (arith, at, l))) (same ∙ o.call_is)
        open-then k l o (went_on q there own client thread less at) = let n = (s.desked.threads c t).numbers q (request-before q there (omega (arith, at, l))) (client ∙ ap (λ (z : Invocation). z.client) o.call_is, thread ∙ ap (λ (z : Invocation). z.thread) o.call_is) in
            let m = ap (λ (z : Invocation). z.number) o.call_is in absurd (omega (arith, n, m, less))

    -- clocks
    clock-then : (c : ClientNo) (n : ℕ) → number ≡ n + 1 → clock_of w c ≡ clock_after c n v.effects
    clock-then c n e = clocks c n (omega (arith, e)) ∙ (sym (plus (clock_after c n w.effects) (clock_after c n rest) (clock-none c n number rest (omega (arith, e)) rest-numbers)) ∙ (sym (clock-append c n w.effects rest) ∙ ap (λ rows. clock_after c n rows) (sym front))) where
      plus : (a b : ℕ) → b ≡ 0 → a + b ≡ a
      plus a b h = omega (arith, h)

      rest-numbers : (k : ℕ) (y : Effects) → slice_get rest k ≡ Some y → y.number ≡ number + k
      rest-numbers k y is = numbers (number + k) y (subst (λ rows. slice_get rows (number + k) ≡ Some y) (sym front) (get-right w.effects rest k (number + k) y refl is))

    call-so : (c : ClientNo) (t : ThreadNo) (cause : Option Ignored) → JudgedCall plan w c t cause → CallIsIgnored plan (executed v) number c t cause
    call-so c t None h = (h.0, λ n busy. idle-then c t h.1 n busy)
    call-so c t (Some (ignored.ThreadBusy n)) h = (h.0, subst (IsBusy (executed v) number c t) (sym h.2) (busy-then c t h.1.0 h.1.1))
    call-so c t (Some ignored.NoSuchClient) h = h
    call-so c t (Some (ignored.NoMessage n)) h = absurd h
    call-so c t (Some ignored.MemberDown) h = absurd h
    call-so c t (Some ignored.MemberUp) h = absurd h
    call-so c t (Some ignored.NoSuchMember) h = absurd h
    call-so c t (Some (ignored.ClockEnd n)) h = absurd h

    last-number : (n : ℕ) × (number ≡ n + 1)
    last-number = by (length w.effects) refl where
      by : (m : ℕ) → length w.effects ≡ m → (n : ℕ) × (number ≡ n + 1)
      by zero e = let b = before in absurd (omega (arith, b, e))
      by (suc m) e = (m, omega (arith, e))

    tick-so : (c : ClientNo) (ms : ℕ) (cause : Option Ignored) → JudgedTick plan w c ms cause → TickIsIgnored plan (executed v) number c ms cause
    tick-so c ms None h = (h.0, λ clock is. let e = is.2 ∙ sym (clock-then c is.0 is.1) in let l = h.1 in subst (λ k. k + ms ≤ LAST_NUMBER) (sym e) l)
    tick-so c ms (Some (ignored.ClockEnd clock)) h = (h.0, (last-number.0, last-number.1, h.1 ∙ clock-then c last-number.0 last-number.1), subst (λ k. LAST_NUMBER < k + ms) (sym h.1) h.2)
    tick-so c ms (Some ignored.NoSuchClient) h = h
    tick-so c ms (Some (ignored.NoMessage n)) h = absurd h
    tick-so c ms (Some ignored.MemberDown) h = absurd h
    tick-so c ms (Some ignored.MemberUp) h = absurd h
    tick-so c ms (Some ignored.NoSuchMember) h = absurd h
    tick-so c ms (Some (ignored.ThreadBusy n)) h = absurd h

    pub ignored-so : (e : Event) (cause : Option Ignored) → Judged plan w e cause → IsIgnoredSo plan (executed v) number e cause
    ignored-so (event.Call c t o) cause h = call-so c t cause h
    ignored-so (event.ClientTick c ms) cause h = tick-so c ms cause h
    ignored-so (event.Deliver k) cause h = h
    ignored-so (event.Tick m ms) cause h = h
    ignored-so (event.Crash m) cause h = h
    ignored-so (event.CrashAfter m calls choice) cause h = h
    ignored-so (event.Start m) cause h = h
    ignored-so event.Open cause h = h

-- calls and ticks alone
pub judged-of : (plan : Plan) (x : Execution) (number : ℕ) (e : Event) (cause : Option Ignored) → IsIgnoredSo plan x number e cause → IsJudged plan x number e cause
judged-of plan x number (event.Call c t o) cause h = h
judged-of plan x number (event.ClientTick c ms) cause h = h
judged-of plan x number e cause h = tt

-- ---- each event

module _ (plan : Plan) where
  abbrev pub FromNow : World → World → Type 0
  FromNow w v = (number : ℕ) (shown : Effects) → length w.effects ≤ number → slice_get v.effects number ≡ Some shown → IsIgnoredSo plan (executed v) number shown.event shown.ignored

  from-now : (n : ℕ) (past events : List Event) (w v : World) → world_after plan w events ≡ v → RestsAfter plan n w → Sound plan w → Printed past w → Printed (past ++ events) v → FromNow w v
  from-now n past [] w v same rest s p q number shown l is = let k = get-in v.effects number shown is in let e = ap (λ (x : World). length x.effects) same in absurd (omega (arith, l, k, e))
  from-now n past (e ∷ events) w v same rest s p q number shown l is = by (at-most number (length w.effects)) (from-now (n + 1) (past ++ e ∷ []) events (world_step plan w e) v same (step-rests plan n e w rest) (step-sound plan e w rest.queue s)
      (printed-next plan past e w p) (subst (λ es. Printed es v) (sym (append_assoc past (e ∷ []) events)) q))
    where
      step : World
      step = world_step plan w e

      now_shown : Effects
      now_shown = (handed plan (handed plan (begin plan e (start e w)))).shown

      at-most : (a b : ℕ) → (a ≡ b) ⊎ ((b + 1 ≤ a) ⊎ (a < b))
      at-most a b = first (nat_lt a b) refl where
        second : (t : Bool) → nat_lt b a ≡ t → b ≤ a → (a ≡ b) ⊎ ((b + 1 ≤ a) ⊎ (a < b))
        second true h m = let k = less-than b a h in inr (inl (omega (arith, k)))
        second false h m = let k = not-less b a h in inl (omega (arith, k, m))

        first : (t : Bool) → nat_lt a b ≡ t → (a ≡ b) ⊎ ((b + 1 ≤ a) ⊎ (a < b))
        first true h = inr (inr (less-than a b h))
        first false h = second (nat_lt b a) refl (not-less a b h)

      later : Later w v
      later = subst (Later w) same (later-all w plan e events)

      front_now : Fronted (world_step plan w e).effects v
      front_now = subst (Fronted (world_step plan w e).effects) same (from-kept plan (Fronted (world_step plan w e).effects) (fronted-kept (world_step plan w e).effects) events (world_step plan w e) (between-after plan e w) ([], sym (push-none (world_step plan w e).effects [] refl)))

      effects_now : (world_step plan w e).effects ≡ w.effects ++ now_shown ∷ []
      effects_now = ap (λ rows. rows ++ now_shown ∷ []) (event-kept plan (λ x. x.effects ≡ w.effects) (record { steps = record { notes = λ me d x h. h; commits = λ a x h. h; empties = λ x h. h }; ignores = λ cause x h. h; calls = λ c x h. h; moves = λ m x h. h }) e w refl)

      all_effects : v.effects ≡ w.effects ++ (now_shown ∷ front_now.0)
      all_effects = front_now.1 ∙ (ap (λ rows. rows ++ front_now.0) effects_now ∙ append_assoc w.effects (now_shown ∷ []) front_now.0)

      event_is : now_shown.event ≡ e
      event_is = event-kept plan (λ x. x.shown.event ≡ e) (record { steps = record { notes = λ me d x h. h; commits = λ a x h. h; empties = λ x h. h }; ignores = λ cause x h. h; calls = λ c x h. h; moves = λ m x h. h }) e w refl

      here : IsIgnoredSo plan (executed v) (length w.effects) now_shown.event now_shown.ignored
      here = subst (λ x. IsIgnoredSo plan (executed v) (length w.effects) x now_shown.ignored) (sym event_is)
          (ignored-so plan w s v later p.clocks (now_shown ∷ front_now.0) all_effects q.returns q.numbers e now_shown.ignored (shown-judged plan e w))

      at : slice_get (w.effects ++ (now_shown ∷ front_now.0)) (length w.effects) ≡ Some now_shown
      at = subst (λ rows. slice_get rows (length w.effects) ≡ Some now_shown) (append_assoc w.effects (now_shown ∷ []) front_now.0) (get-left (w.effects ++ now_shown ∷ []) front_now.0 (length w.effects) now_shown (get-last w.effects now_shown))

      by : (number ≡ length w.effects) ⊎ ((length w.effects + 1 ≤ number) ⊎ (number < length w.effects)) → FromNow (world_step plan w e) v → IsIgnoredSo plan (executed v) number shown.event shown.ignored
      by (inl k) next = subst (λ m. IsIgnoredSo plan (executed v) m shown.event shown.ignored) (sym k) (subst (λ (x : Effects). IsIgnoredSo plan (executed v) (length w.effects) x.event x.ignored) same_shown here) where
        same_shown : now_shown ≡ shown
        same_shown = some (sym at ∙ (ap (λ rows. slice_get rows (length w.effects)) (sym all_effects) ∙ (ap (slice_get v.effects) (sym k) ∙ is))) where
          some : Some now_shown ≡ Some shown → now_shown ≡ shown
          some r = cc
      by (inr (inl k)) next = next number shown (let m = ap (λ (rows : List Effects). length rows) effects_now in let j = length_push w.effects now_shown in omega (arith, k, m, j)) is
      by (inr (inr k)) next = absurd (omega (arith, k, l))

  -- all events, event 0 too
  pub all-ignored : (events : List Event) → RestsAfter plan 0 new_world → Sound plan new_world → Printed [] new_world → Printed events (world_after plan new_world events) → (number : ℕ) (shown : Effects) → slice_get (world_after plan new_world events).effects number ≡ Some shown
      → IsIgnoredSo plan (executed (world_after plan new_world events)) number shown.event shown.ignored
  all-ignored events rest s p q (suc number) shown is = from-now 0 [] events new_world (world_after plan new_world events) refl rest s p q (suc number) shown (omega arith) is
  all-ignored events rest s p q zero shown is = subst (λ (x : Effects). IsIgnoredSo plan (executed (world_after plan new_world events)) 0 x.event x.ignored) (first events is) refl where
    first : (events : List Event) → slice_get (world_after plan new_world events).effects 0 ≡ Some shown → shows_nothing 0 event.Open ≡ shown
    first events at = let f = from-kept plan (Fronted new_world.effects) (fronted-kept new_world.effects) events new_world (omega arith) ([], refl) in some (subst (λ rows. slice_get rows 0 ≡ Some shown) f.1 at) where
      some : Some (shows_nothing 0 event.Open) ≡ Some shown → shows_nothing 0 event.Open ≡ shown
      some r = cc
