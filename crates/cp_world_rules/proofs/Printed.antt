-- What stands printed: the events in their order, the calls and ticks that took place, the returns, and clocks.
use Rattle.std.proofs.Common.{◌≡◌, ℕ, ◌+◌, ◌<◌, ◌≤◌, ◌⊎◌, inl, inr, Bool, true, false, ◌&&◌, List, [], ◌∷◌, ◌++◌, Some, None, Option, refl, sym, subst, ap, ◌∙◌, arith, length, map, append_assoc, if◌then◌else◌}
use Rattle.std.specs.Prelude.{Contains, slice_get, nat_lt, nat_le, ◌^◌, is_none, ◌==◌}
use Rattle.std.specs.Ordering.{is_eq, nat_cmp}
use Rattle.std.specs.BTreeMap.{is_at}
use Rattle.std.proofs.lemmas.Bool.Decides.{nat_tests}
use Rattle.std.proofs.lemmas.List.{length_push, map-append}
use Rattle.std.proofs.lemmas.List.Elements.{Contains-append_left, Contains-push, Contains-push_cases}
use Rattle.cp_base.specs.Identifiers.{replay_id}
use Rattle.cp_base.specs.declared.identifier.ClientNo.{ClientNo}
use Rattle.cp_base.specs.declared.identifier.Invocation.{Invocation}
use Rattle.cp_base.specs.declared.identifier.ThreadNo.{ThreadNo}
use Rattle.cp_base.proofs.Tests.{none_some}
use Rattle.cp_answers.specs.declared.answer.Answer.{Answer}
use Rattle.cp_events.specs.declared.effects.Effects.{Effects}
use Rattle.cp_events.specs.declared.effects.Ignored.{Ignored}
use Rattle.cp_events.specs.declared.effects.Ignored.TheVariants as ignored
use Rattle.cp_events.specs.declared.effects.Return.{Return}
use Rattle.cp_events.specs.declared.event.Event.{Event}
use Rattle.cp_events.specs.declared.event.Event.TheVariants as event
use Rattle.cp_events.specs.declared.plan.Plan.{Plan}
use Rattle.cp_events.specs.declared.user_op.UserOp.{UserOp}
use Rattle.cp_events.specs.declared.user_op.UserOp.TheVariants as user
use Rattle.cp_group_state.specs.Rows.{find, put}
use Rattle.cp_group_state.proofs.Keyed.{equal_is, find-put_same, find-put_other, number_key}
use Rattle.cp_group_state.proofs.Walk.{either}
use Rattle.cp_group_causes.proofs.Lists.{get-in, get-last, get-left, no-element}
use Rattle.cp_client_rules.specs.declared.rows.Pending.{Pending}
use Rattle.cp_client_rules.specs.Clients.{Asked, Did, thread_at}
use Rattle.cp_client_rules.specs.Calls.{call_client}
use Rattle.cp_client_rules.specs.Answers.{answer_client}
use Rattle.cp_client_rules.specs.Ticks.{tick_client}
use Rattle.cp_world_rules.specs.Rows.{Called, Moved, Returned}
use Rattle.cp_world_rules.specs.World.{World, begin, calls_if_idle, calls_now, client_at, client_of, commit, commit_all, does, hand_all, hand_on, handed, ignore, is_client, moves_now, new_world, note, or_new, returns_now, shows_nothing, start, world_after, world_step}
use Rattle.cp_world_rules.specs.Execution.{returns_in}
use Rattle.cp_world_rules.specs.Returns.{clock_after, moved_by}
use Rattle.cp_world_rules.proofs.Lists.{get-append, one-there, push-none}
use Rattle.cp_world_rules.proofs.Prompt.{AllCommitted, does-committed}
use Rattle.cp_world_rules.proofs.Clocks.{answer-clock, call-clock, tick-clock}

-- the rows of returns behind those of before are those of the event under way
abbrev pub as_row : ℕ → ClientNo × Return → Returned
as_row number r = record { event = number; client = r.0; what = r.1 }

abbrev pub ReturnsNoted : List Returned → World → Type 0
ReturnsNoted before w = w.returns ≡ before ++ map (as_row w.shown.number) w.shown.returns

-- what commits leave
pub record SameShown (w v : World) : Type 0 where
  pub shown : v.shown ≡ w.shown
  pub effects : v.effects ≡ w.effects
  pub returns : v.returns ≡ w.returns
  pub calls : v.calls ≡ w.calls
  pub moves : v.moves ≡ w.moves
  pub clients : v.clients ≡ w.clients

commits-shown : (asked : List Asked) (w : World) → SameShown w (commit_all asked w)
commits-shown [] w = record { shown = refl; effects = refl; returns = refl; calls = refl; moves = refl; clients = refl }
commits-shown (a ∷ asked) w = let s = commits-shown asked (commit a w) in record { shown = s.shown; effects = s.effects; returns = s.returns; calls = s.calls; moves = s.moves; clients = s.clients }

-- what a step of a client leaves, where its clock comes to this
pub record Steps (w v : World) : Type 0 where
  pub effects : v.effects ≡ w.effects
  pub calls : v.calls ≡ w.calls
  pub moves : v.moves ≡ w.moves
  pub number : v.shown.number ≡ w.shown.number
  pub event_is : v.shown.event ≡ w.shown.event
  pub ignored_is : v.shown.ignored ≡ w.shown.ignored
  pub noted : (before : List Returned) → ReturnsNoted before w → ReturnsNoted before v
  pub committed : AllCommitted w → AllCommitted v

abbrev pub clock_of : World → ClientNo → ℕ
clock_of w me = (client_at w me).clock

abbrev with_client : ClientNo → Return → ClientNo × Return
with_client me r = (me, r)

module _ (me : ClientNo) (d : Did) (w : World) where
  same : SameShown (note me d w) (does me d w)
  same = commits-shown d.asked (note me d w)

  rows-of : (rs : List Return) → map (as_row w.shown.number) (map (with_client me) rs) ≡ map (returns_now w me) rs
  rows-of [] = refl
  rows-of (r ∷ rs) = ap (λ rest. returns_now w me r ∷ rest) (rows-of rs)

  note-noted : (before : List Returned) → ReturnsNoted before w → ReturnsNoted before (note me d w)
  note-noted before h = ap (λ (rows : List Returned). rows ++ map (returns_now w me) d.returns) h ∙ (append_assoc before (map (as_row w.shown.number) w.shown.returns) (map (returns_now w me) d.returns)
      ∙ ap (λ (rows : List Returned). before ++ rows) (ap (λ (rows : List Returned). map (as_row w.shown.number) w.shown.returns ++ rows) (sym (rows-of d.returns)) ∙ sym (map-append (as_row w.shown.number) w.shown.returns (map (with_client me) d.returns))))

  pub does-steps : Steps w (does me d w)
  does-steps = let s = same in record {
    effects = s.effects;
    calls = s.calls;
    moves = s.moves;
    number = ap (λ (x : Effects). x.number) s.shown;
    event_is = ap (λ (x : Effects). x.event) s.shown;
    ignored_is = ap (λ (x : Effects). x.ignored) s.shown;
    noted = λ before h. s.returns ∙ (note-noted before h ∙ ap (λ (x : Effects). before ++ map (as_row x.number) x.returns) (sym s.shown));
    committed = does-committed me d w;
  }

  -- clocks
  pub does-clocks : (k : ℕ) → d.client.clock ≡ clock_of w me + k → (x : ClientNo) → clock_of (does me d w) x ≡ clock_of w x + (if x.0 == me.0 then k else 0)
  does-clocks k e x = ap (λ rows. (or_new (find nat_cmp rows x.0)).clock) same.clients ∙ by (is_at (nat_cmp x.0) me.0) refl where
    self : (n : ℕ) → (n == n) ≡ true
    self n = grind (arith, nat_tests)

    apart : (a b : ℕ) → (a ≡ b → ⊥) → (a == b) ≡ false
    apart a b h = grind (arith, nat_tests)

    not_at : (t : ℕ) → is_at (nat_cmp t) t ≡ false → ⊥
    not_at t h = no (sym (ap is_eq (number_key.here t)) ∙ h) where
      no : true ≡ false → ⊥
      no f = cc

    by : (b : Bool) → is_at (nat_cmp x.0) me.0 ≡ b → (or_new (find nat_cmp (put nat_cmp w.clients me.0 d.client) x.0)).clock ≡ clock_of w x + (if x.0 == me.0 then k else 0)
    by true t = let is : x.0 ≡ me.0 = number_key.same x.0 me.0 (equal_is _ t) in
        let here : (or_new (find nat_cmp (put nat_cmp w.clients me.0 d.client) me.0)).clock ≡ clock_of w me + k = ap (λ o. (or_new o).clock) (find-put_same nat_cmp number_key w.clients me.0 d.client) ∙ e in
        let sum : clock_of w me + (if me.0 == me.0 then k else 0) ≡ clock_of w me + k = rw (self me.0) refl in
        subst (λ (y : ClientNo). (or_new (find nat_cmp (put nat_cmp w.clients me.0 d.client) y.0)).clock ≡ clock_of w y + (if y.0 == me.0 then k else 0)) (sym (ap (λ n. record { 0 = n }) is)) (here ∙ sym sum)
    by false t = let off : (x.0 == me.0) ≡ false = apart x.0 me.0 (λ is. not_at x.0 (subst (λ n. is_at (nat_cmp x.0) n ≡ false) (sym is) t)) in
        let kept : clock_of w x + (if x.0 == me.0 then k else 0) ≡ clock_of w x = rw off (zero-behind (clock_of w x)) in
        ap (λ o. (or_new o).clock) (find-put_other nat_cmp number_key w.clients me.0 x.0 d.client t) ∙ sym kept
      where
        zero-behind : (n : ℕ) → n + 0 ≡ n
        zero-behind n = omega arith

pub steps-on : (u v w : World) → Steps u v → Steps v w → Steps u w
steps-on u v w f g = record {
  effects = g.effects ∙ f.effects;
  calls = g.calls ∙ f.calls;
  moves = g.moves ∙ f.moves;
  number = g.number ∙ f.number;
  event_is = g.event_is ∙ f.event_is;
  ignored_is = g.ignored_is ∙ f.ignored_is;
  noted = λ before h. g.noted before (f.noted before h);
  committed = λ h. g.committed (f.committed h);
}

-- passes over the queue move no clock
module _ (plan : Plan) where
  abbrev pub Passes : World → World → Type 0
  Passes w v = Steps w v × ((x : ClientNo) → clock_of v x ≡ clock_of w x)

  one-passes : (a : Invocation × Answer) (w : World) → Passes w (hand_on plan a w)
  one-passes a w = (
    does-steps (client_of a.0) (answer_client plan (replay_id (client_of a.0)) a.0 a.1 (client_at w (client_of a.0))) w,
    λ x. does-clocks (client_of a.0) (answer_client plan (replay_id (client_of a.0)) a.0 a.1 (client_at w (client_of a.0))) w 0 (answer-clock plan (replay_id (client_of a.0)) a.0 (client_at w (client_of a.0)) a.1 ∙ plus (clock_of w (client_of a.0))) x ∙ drop (clock_of w x) (x.0 == (client_of a.0).0),
  )
    where
      plus : (n : ℕ) → n ≡ n + 0
      plus n = omega arith

      drop : (n : ℕ) (b : Bool) → n + (if b then 0 else 0) ≡ n
      drop n true = omega arith
      drop n false = omega arith

  all-pass : (queue : List (Invocation × Answer)) (w : World) → Passes w (hand_all plan queue w)
  all-pass [] w = (record { effects = refl; calls = refl; moves = refl; number = refl; event_is = refl; ignored_is = refl; noted = λ before h. h; committed = λ h. h }, λ x. refl)
  all-pass (a ∷ queue) w = let f = one-passes a w in let g = all-pass queue (hand_on plan a w) in (steps-on w (hand_on plan a w) (hand_all plan queue (hand_on plan a w)) f.0 g.0, λ x. g.1 x ∙ f.1 x)

  pub pass : (w : World) → Passes w (handed plan w)
  pass w = let f = all-pass w.queue (record w { queue = [] }) in let s = f.0 in
      (record { effects = s.effects; calls = s.calls; moves = s.moves; number = s.number; event_is = s.event_is; ignored_is = s.ignored_is; noted = s.noted; committed = s.committed }, f.1)

-- a row of a call
abbrev pub IsMade : List Called → ℕ → ClientNo → ThreadNo → UserOp → Type 0
IsMade calls number me t o = (c : Called) × Contains calls c × (c.event ≡ number) × (c.client ≡ me) × (c.thread ≡ t) × (c.op ≡ o)

-- how an event begins, seen from the world between events
pub record Starts (e : Event) (w v : World) : Type 0 where
  pub effects : v.effects ≡ w.effects
  pub number : v.shown.number ≡ length w.effects
  pub event_is : v.shown.event ≡ e
  pub calls : (c : Called) → Contains v.calls c → Contains w.calls c ⊎ ((c.event ≡ length w.effects) × (e ≡ event.Call c.client c.thread c.op) × (v.shown.ignored ≡ None) × (c.clock ≡ clock_of w c.client))
  pub moves : (m : Moved) → Contains v.moves m → Contains w.moves m ⊎ ((m.event ≡ length w.effects) × (e ≡ event.ClientTick m.client m.ms) × (v.shown.ignored ≡ None) × (m.clock ≡ clock_of w m.client + m.ms))
  pub clocks : (x : ClientNo) → clock_of v x ≡ clock_of w x + (if is_none v.shown.ignored then moved_by x e else 0)
  pub kept : (c : Called) → Contains w.calls c → Contains v.calls c
  pub made : (me : ClientNo) (t : ThreadNo) (o : UserOp) → e ≡ event.Call me t o → v.shown.ignored ≡ None → IsMade v.calls (length w.effects) me t o
  pub noted : ReturnsNoted w.returns v
  pub committed : AllCommitted w → AllCommitted v

nothing-behind : (rows : List Returned) → rows ++ [] ≡ rows
nothing-behind rows = push-none rows [] refl

call-same : {me you : ClientNo} {t u : ThreadNo} {o p : UserOp} → event.Call me t o ≡ event.Call you u p → (me ≡ you) × (t ≡ u) × (o ≡ p)
call-same e = (ap client_in e, ap thread_in e, ap op_in e) where
  client_in : Event → ClientNo
  client_in (event.Call c t o) = c
  client_in e = record { 0 = 0 }

  thread_in : Event → ThreadNo
  thread_in (event.Call c t o) = t
  thread_in e = record { 0 = 0 }

  op_in : Event → UserOp
  op_in (event.Call c t o) = o
  op_in e = user.CloseSession None

call-tick : {me you : ClientNo} {t : ThreadNo} {o : UserOp} {ms : ℕ} → event.ClientTick you ms ≡ event.Call me t o → ⊥
call-tick e = cc

open-call : {me : ClientNo} {t : ThreadNo} {o : UserOp} → event.Open ≡ event.Call me t o → ⊥
open-call e = cc

no-clock : (n : ℕ) → n ≡ n + 0
no-clock n = omega arith

ignored-starts : (e : Event) (cause : Ignored) (w : World) → Starts e w (ignore cause (start e w))
ignored-starts e cause w = record {
  effects = refl;
  number = refl;
  event_is = refl;
  calls = λ c h. inl h;
  moves = λ m h. inl h;
  clocks = λ x. no-clock (clock_of w x);
  kept = λ c h. h;
  made = λ me t o is ok. absurd (none_some (sym ok));
  noted = sym (nothing-behind w.returns);
  committed = λ h. h;
}

call-starts : (plan : Plan) (me : ClientNo) (t : ThreadNo) (o : UserOp) (w : World) → Starts (event.Call me t o) w (calls_now plan me t o (start (event.Call me t o) w))
call-starts plan me t o w = let e = event.Call me t o in
    let v = record (start (event.Call me t o) w) { calls = w.calls ++ record { event = length w.effects; client = me; thread = t; op = o; clock = clock_of w me } ∷ [] } in
    let d = call_client plan (replay_id me) t o (client_at w me) in
    let s = does-steps me (call_client plan (replay_id me) t o (client_at w me)) (record (start (event.Call me t o) w) { calls = w.calls ++ record { event = length w.effects; client = me; thread = t; op = o; clock = clock_of w me } ∷ [] }) in record {
      effects = s.effects;
      number = s.number;
      event_is = s.event_is;
      calls = λ c h. at c s.ignored_is (Contains-push_cases w.calls (record { event = length w.effects; client = me; thread = t; op = o; clock = clock_of w me }) c (subst (λ rows. Contains rows c) s.calls h));
      moves = λ m h. inl (subst (λ rows. Contains rows m) s.moves h);
      clocks = λ x. clocks x s.ignored_is;
      kept = λ c h. subst (λ rows. Contains rows c) (sym s.calls) (Contains-append_left w.calls _ c h);
      made = λ you u p is ok. let k = call-same is in (record { event = length w.effects; client = me; thread = t; op = o; clock = clock_of w me }, subst (λ rows. Contains rows (record { event = length w.effects; client = me; thread = t; op = o; clock = clock_of w me })) (sym s.calls) (Contains-push w.calls (record { event = length w.effects; client = me; thread = t; op = o; clock = clock_of w me })), refl, k.0, k.1, k.2);
      noted = s.noted w.returns (sym (nothing-behind w.returns));
      committed = s.committed;
    }
  where
    after : World
    after = calls_now plan me t o (start (event.Call me t o) w)

    at : (c : Called) → (calls_now plan me t o (start (event.Call me t o) w)).shown.ignored ≡ None → Contains w.calls c ⊎ (record { event = length w.effects; client = me; thread = t; op = o; clock = clock_of w me } ≡ c)
        → Contains w.calls c ⊎ ((c.event ≡ length w.effects) × (event.Call me t o ≡ event.Call c.client c.thread c.op) × ((calls_now plan me t o (start (event.Call me t o) w)).shown.ignored ≡ None) × (c.clock ≡ clock_of w c.client))
    at c ok (inl h) = inl h
    at c ok (inr k) = inr (sym (ap (λ (x : Called). x.event) k), ap (λ (x : Called). event.Call x.client x.thread x.op) k, ok, sym (ap (λ (x : Called). x.clock) k) ∙ ap (λ (x : Called). clock_of w x.client) k)

    drop : (n : ℕ) (b : Bool) → n + (if b then 0 else 0) ≡ n
    drop n true = omega arith
    drop n false = omega arith

    clocks : (x : ClientNo) → (calls_now plan me t o (start (event.Call me t o) w)).shown.ignored ≡ None → clock_of (calls_now plan me t o (start (event.Call me t o) w)) x ≡ clock_of w x + (if is_none (calls_now plan me t o (start (event.Call me t o) w)).shown.ignored then 0 else 0)
    clocks x ok = does-clocks me (call_client plan (replay_id me) t o (client_at w me)) (record (start (event.Call me t o) w) { calls = w.calls ++ record { event = length w.effects; client = me; thread = t; op = o; clock = clock_of w me } ∷ [] }) 0 (call-clock plan (replay_id me) t o (client_at w me) ∙ no-clock (clock_of w me)) x
        ∙ (drop (clock_of w x) (x.0 == me.0) ∙ sym (drop (clock_of w x) (is_none (calls_now plan me t o (start (event.Call me t o) w)).shown.ignored)))

tick-starts : (me : ClientNo) (ms : ℕ) (w : World) → Starts (event.ClientTick me ms) w (moves_now me ms (start (event.ClientTick me ms) w))
tick-starts me ms w = let s = does-steps me (tick_client (replay_id me) ms (client_at w me)) (record (start (event.ClientTick me ms) w) { moves = w.moves ++ record { event = length w.effects; client = me; ms = ms; clock = clock_of w me + ms } ∷ [] }) in record {
  effects = s.effects;
  number = s.number;
  event_is = s.event_is;
  calls = λ c h. inl (subst (λ rows. Contains rows c) s.calls h);
  moves = λ m h. at m s.ignored_is (Contains-push_cases w.moves (record { event = length w.effects; client = me; ms = ms; clock = clock_of w me + ms }) m (subst (λ rows. Contains rows m) s.moves h));
  clocks = λ x. clocks x s.ignored_is;
  kept = λ c h. subst (λ rows. Contains rows c) (sym s.calls) h;
  made = λ you u p is ok. absurd (call-tick is);
  noted = s.noted w.returns (sym (nothing-behind w.returns));
  committed = s.committed;
}
  where
    at : (m : Moved) → (moves_now me ms (start (event.ClientTick me ms) w)).shown.ignored ≡ None → Contains w.moves m ⊎ (record { event = length w.effects; client = me; ms = ms; clock = clock_of w me + ms } ≡ m)
        → Contains w.moves m ⊎ ((m.event ≡ length w.effects) × (event.ClientTick me ms ≡ event.ClientTick m.client m.ms) × ((moves_now me ms (start (event.ClientTick me ms) w)).shown.ignored ≡ None) × (m.clock ≡ clock_of w m.client + m.ms))
    at m ok (inl h) = inl h
    at m ok (inr k) = inr (sym (ap (λ (x : Moved). x.event) k), ap (λ (x : Moved). event.ClientTick x.client x.ms) k, ok, sym (ap (λ (x : Moved). x.clock) k) ∙ ap (λ (x : Moved). clock_of w x.client + x.ms) k)

    test_turned : (a b : ℕ) → (a == b) ≡ (b == a)
    test_turned a b = by (a == b) (b == a) refl refl where
      by : (c d : Bool) → (a == b) ≡ c → (b == a) ≡ d → (a == b) ≡ (b == a)
      by true true e f = e ∙ sym f
      by false false e f = e ∙ sym f
      by true false e f = absurd (grind (arith, nat_tests))
      by false true e f = absurd (grind (arith, nat_tests))

    clocks : (x : ClientNo) → (moves_now me ms (start (event.ClientTick me ms) w)).shown.ignored ≡ None
        → clock_of (moves_now me ms (start (event.ClientTick me ms) w)) x ≡ clock_of w x + (if is_none (moves_now me ms (start (event.ClientTick me ms) w)).shown.ignored then (if me.0 == x.0 then ms else 0) else 0)
    clocks x ok = does-clocks me (tick_client (replay_id me) ms (client_at w me)) (record (start (event.ClientTick me ms) w) { moves = w.moves ++ record { event = length w.effects; client = me; ms = ms; clock = clock_of w me + ms } ∷ [] }) ms (tick-clock (replay_id me) ms (client_at w me)) x
        ∙ (ap (λ b. clock_of w x + (if b then ms else 0)) (test_turned x.0 me.0) ∙ sym (ap (λ (o : Option Ignored). clock_of w x + (if is_none o then (if me.0 == x.0 then ms else 0) else 0)) ok))

begin-starts : (plan : Plan) (e : Event) (w : World) → Starts e w (begin plan e (start e w))
begin-starts plan (event.Call me t o) w = either (Starts (event.Call me t o) w) (is_client plan me) _ _ (at (thread_at (client_at w me) t).pending) (ignored-starts (event.Call me t o) ignored.NoSuchClient w) where
  at : (now : Option Pending) → Starts (event.Call me t o) w (calls_if_idle plan me t o now (start (event.Call me t o) w))
  at None = call-starts plan me t o w
  at (Some now) = ignored-starts (event.Call me t o) (ignored.ThreadBusy (thread_at (client_at w me) t).number) w
begin-starts plan (event.ClientTick me ms) w = either (Starts (event.ClientTick me ms) w) (is_client plan me) _ _
    (either (Starts (event.ClientTick me ms) w) (nat_lt (2 ^ 62) ((client_at w me).clock + ms)) _ _ (ignored-starts (event.ClientTick me ms) (ignored.ClockEnd (client_at w me).clock) w) (tick-starts me ms w)) (ignored-starts (event.ClientTick me ms) ignored.NoSuchClient w)
begin-starts plan (event.Deliver k) w = ignored-starts (event.Deliver k) (ignored.NoMessage 0) w
begin-starts plan (event.Tick m ms) w = ignored-starts (event.Tick m ms) ignored.NoSuchMember w
begin-starts plan (event.Crash m) w = ignored-starts (event.Crash m) ignored.NoSuchMember w
begin-starts plan (event.CrashAfter m calls choice) w = ignored-starts (event.CrashAfter m calls choice) ignored.NoSuchMember w
begin-starts plan (event.Start m) w = ignored-starts (event.Start m) ignored.NoSuchMember w
begin-starts plan event.Open w = record {
  effects = refl;
  number = refl;
  event_is = refl;
  calls = λ c h. inl h;
  moves = λ m h. inl h;
  clocks = λ x. no-clock (clock_of w x);
  kept = λ c h. h;
  made = λ me t o is ok. absurd (open-call is);
  noted = sym (nothing-behind w.returns);
  committed = λ h. h;
}

-- clocks over printed events
clock-push : (me : ClientNo) (n : ℕ) (effects : List Effects) (x : Effects) → clock_after me n (effects ++ x ∷ []) ≡ clock_after me n effects + (if nat_le x.number n && is_none x.ignored then moved_by me x.event else 0)
clock-push me n [] x = turn (if nat_le x.number n && is_none x.ignored then moved_by me x.event else 0) where
  turn : (k : ℕ) → k + 0 ≡ 0 + k
  turn k = omega arith
clock-push me n (y ∷ effects) x = let e = clock-push me n effects x in sums (if nat_le y.number n && is_none y.ignored then moved_by me y.event else 0) (clock_after me n (effects ++ x ∷ [])) (clock_after me n effects) (if nat_le x.number n && is_none x.ignored then moved_by me x.event else 0) e where
  sums : (a b c k : ℕ) → b ≡ c + k → a + b ≡ a + c + k
  sums a b c k h = omega (arith, h)

-- an event that took place stands printed
pub record Stands (effects : List Effects) (number : ℕ) (e : Event) : Type 0 where
  pub shown : Effects
  pub there : slice_get effects number ≡ Some shown
  pub event_is : shown.event ≡ e
  pub not_ignored : shown.ignored ≡ None

stands-on : (effects : List Effects) (x : Effects) (number : ℕ) (e : Event) → Stands effects number e → Stands (effects ++ x ∷ []) number e
stands-on effects x number e h = record { shown = h.shown; there = get-left effects (x ∷ []) number h.shown h.there; event_is = h.event_is; not_ignored = h.not_ignored }

pub record Printed (events : List Event) (w : World) : Type 0 where
  pub events_are : map (λ (x : Effects). x.event) w.effects ≡ event.Open ∷ events
  pub numbers : (place : ℕ) (x : Effects) → slice_get w.effects place ≡ Some x → x.number ≡ place
  pub calls : (c : Called) → Contains w.calls c → Stands w.effects c.event (event.Call c.client c.thread c.op)
  pub made : (number : ℕ) (me : ClientNo) (t : ThreadNo) (o : UserOp) → Stands w.effects number (event.Call me t o) → IsMade w.calls number me t o
  pub moves : (m : Moved) → Contains w.moves m → Stands w.effects m.event (event.ClientTick m.client m.ms)
  pub call_clocks : (c : Called) → Contains w.calls c → c.clock ≡ clock_after c.client c.event w.effects
  pub move_clocks : (m : Moved) → Contains w.moves m → m.clock ≡ clock_after m.client m.event w.effects
  pub clocks : (x : ClientNo) (n : ℕ) → length w.effects ≤ n + 1 → clock_of w x ≡ clock_after x n w.effects
  pub returns : w.returns ≡ returns_in w.effects
  pub committed : AllCommitted w

-- returns of one event more
returns-push : (effects : List Effects) (x : Effects) → returns_in (effects ++ x ∷ []) ≡ returns_in effects ++ map (as_row x.number) x.returns
returns-push [] x = push-none (map (as_row x.number) x.returns) [] refl
returns-push (y ∷ effects) x = ap (λ (rows : List Returned). map (as_row y.number) y.returns ++ rows) (returns-push effects x) ∙ sym (append_assoc (map (as_row y.number) y.returns) (returns_in effects) (map (as_row x.number) x.returns))

module _ (plan : Plan) (events : List Event) (e : Event) (w : World) (old : Printed events w) where
  begun : Starts e w (begin plan e (start e w))
  begun = begin-starts plan e w

  first : Passes plan (begin plan e (start e w)) (handed plan (begin plan e (start e w)))
  first = pass plan (begin plan e (start e w))

  second : Passes plan (handed plan (begin plan e (start e w))) (handed plan (handed plan (begin plan e (start e w))))
  second = pass plan (handed plan (begin plan e (start e w)))

  both : Steps (begin plan e (start e w)) (handed plan (handed plan (begin plan e (start e w))))
  both = steps-on _ _ _ first.0 second.0

  abbrev shown : Effects
  shown = (handed plan (handed plan (begin plan e (start e w)))).shown

  abbrev grown : List Effects
  grown = w.effects ++ (handed plan (handed plan (begin plan e (start e w)))).shown ∷ []

  effects-now : (world_step plan w e).effects ≡ grown
  effects-now = ap (λ rows. rows ++ (handed plan (handed plan (begin plan e (start e w)))).shown ∷ []) (both.effects ∙ begun.effects)

  number-now : shown.number ≡ length w.effects
  number-now = both.number ∙ begun.number

  event-now : shown.event ≡ e
  event-now = both.event_is ∙ begun.event_is

  there-now : slice_get grown (length w.effects) ≡ Some shown
  there-now = get-last w.effects shown

  stands-now : (x : Event) → e ≡ x → (begin plan e (start e w)).shown.ignored ≡ None → Stands grown (length w.effects) x
  stands-now x same ok = record { shown = shown; there = there-now; event_is = event-now ∙ same; not_ignored = both.ignored_is ∙ ok }

  not-le : (n : ℕ) → n < length w.effects → nat_le shown.number n ≡ false
  not-le n l = let k = number-now in test _ n (omega (arith, k, l)) where
    test : (a b : ℕ) → b < a → nat_le a b ≡ false
    test a b h = grind (arith, nat_tests)

  is-le : (n : ℕ) → length w.effects ≤ n → nat_le shown.number n ≡ true
  is-le n l = let k = number-now in test _ n (omega (arith, k, l)) where
    test : (a b : ℕ) → a ≤ b → nat_le a b ≡ true
    test a b h = grind (arith, nat_tests)

  -- a clock that was told before
  old-clock : (me : ClientNo) (n : ℕ) → n < length w.effects → clock_after me n grown ≡ clock_after me n w.effects
  old-clock me n l = clock-push me n w.effects shown ∙ rw (not-le n l) (plus (clock_after me n w.effects)) where
    plus : (k : ℕ) → k + 0 ≡ k
    plus k = omega arith

  -- the clock after this event
  new-clock : (me : ClientNo) (n : ℕ) → length w.effects ≤ n → clock_after me n grown ≡ clock_of w me + (if is_none (begin plan e (start e w)).shown.ignored then moved_by me e else 0)
  new-clock me n l = clock-push me n w.effects shown
      ∙ (ap (λ b. clock_after me n w.effects + (if b && is_none shown.ignored then moved_by me shown.event else 0)) (is-le n l)
      ∙ (ap (λ (o : Option Ignored). clock_after me n w.effects + (if true && is_none o then moved_by me shown.event else 0)) both.ignored_is
      ∙ (ap (λ x. clock_after me n w.effects + (if true && is_none (begin plan e (start e w)).shown.ignored then moved_by me x else 0)) event-now
      ∙ ap (λ k. k + (if is_none (begin plan e (start e w)).shown.ignored then moved_by me e else 0)) (sym (old.clocks me n (omega (arith, l)))))))

  event-below : (number : ℕ) (x : Event) → Stands w.effects number x → number < length w.effects
  event-below number x h = get-in w.effects number h.shown h.there

  size-now : length grown ≡ length w.effects + 1
  size-now = length_push w.effects shown

  pub printed-next : Printed (events ++ e ∷ []) (world_step plan w e)
  printed-next = record {
    events_are = ap (map (λ (x : Effects). x.event)) effects-now ∙ (map-append (λ (x : Effects). x.event) w.effects (shown ∷ [])
        ∙ (ap (λ rows. rows ++ shown.event ∷ []) old.events_are ∙ ap (λ x. event.Open ∷ (events ++ x ∷ [])) event-now));
    numbers = λ place x at_place. numbers place x (get-append w.effects (shown ∷ []) place x (subst (λ rows. slice_get rows place ≡ Some x) effects-now at_place));
    calls = λ c h. subst (λ rows. Stands rows c.event (event.Call c.client c.thread c.op)) (sym effects-now) (called c (begun.calls c (subst (λ rows. Contains rows c) both.calls h)));
    made = λ number me t o h. subst (λ rows. IsMade rows number me t o) (sym both.calls) (made number me t o (subst (λ rows. Stands rows number (event.Call me t o)) effects-now h));
    moves = λ m h. subst (λ rows. Stands rows m.event (event.ClientTick m.client m.ms)) (sym effects-now) (moved m (begun.moves m (subst (λ rows. Contains rows m) both.moves h)));
    call_clocks = λ c h. subst (λ rows. c.clock ≡ clock_after c.client c.event rows) (sym effects-now) (call_clock c (begun.calls c (subst (λ rows. Contains rows c) both.calls h)));
    move_clocks = λ m h. subst (λ rows. m.clock ≡ clock_after m.client m.event rows) (sym effects-now) (move_clock m (begun.moves m (subst (λ rows. Contains rows m) both.moves h)));
    clocks = λ x n l. second.1 x ∙ (first.1 x ∙ (begun.clocks x ∙ (sym (new-clock x n (long n l)) ∙ ap (λ rows. clock_after x n rows) (sym effects-now))));
    returns = both.noted w.returns begun.noted ∙ (ap (λ (rows : List Returned). rows ++ map (as_row shown.number) shown.returns) old.returns ∙ (sym (returns-push w.effects shown) ∙ ap returns_in (sym effects-now)));
    committed = both.committed (begun.committed old.committed);
  }
    where
      long : (n : ℕ) → length (world_step plan w e).effects ≤ n + 1 → length w.effects ≤ n
      long n l = let k = ap (λ (rows : List Effects). length rows) effects-now ∙ size-now in omega (arith, l, k)

      numbers : (place : ℕ) (x : Effects) → ((slice_get w.effects place ≡ Some x) × (place < length w.effects)) ⊎ ((k : ℕ) × (place ≡ length w.effects + k) × (slice_get (shown ∷ []) k ≡ Some x)) → x.number ≡ place
      numbers place x (inl h) = old.numbers place x h.0
      numbers place x (inr h) = let one = one-there shown h.0 x h.2 in let k = one.0 in let p = h.1 in let same = ap (λ (y : Effects). y.number) one.1 in let n = number-now in omega (arith, k, p, same, n)

      called : (c : Called) → Contains w.calls c ⊎ ((c.event ≡ length w.effects) × (e ≡ event.Call c.client c.thread c.op) × ((begin plan e (start e w)).shown.ignored ≡ None) × (c.clock ≡ clock_of w c.client)) → Stands grown c.event (event.Call c.client c.thread c.op)
      called c (inl h) = stands-on w.effects shown c.event (event.Call c.client c.thread c.op) (old.calls c h)
      called c (inr h) = subst (λ n. Stands grown n (event.Call c.client c.thread c.op)) (sym h.0) (stands-now (event.Call c.client c.thread c.op) h.1 h.2)

      made_at : (number : ℕ) (me : ClientNo) (t : ThreadNo) (o : UserOp) → (h : Stands grown number (event.Call me t o)) → ((slice_get w.effects number ≡ Some h.shown) × (number < length w.effects)) ⊎ ((k : ℕ) × (number ≡ length w.effects + k) × (slice_get (shown ∷ []) k ≡ Some h.shown))
          → IsMade (begin plan e (start e w)).calls number me t o
      made_at number me t o h (inl x) = let m = old.made number me t o (record { shown = h.shown; there = x.0; event_is = h.event_is; not_ignored = h.not_ignored }) in (m.0, begun.kept m.0 m.1, m.2, m.3, m.4, m.5)
      made_at number me t o h (inr x) = let one = one-there shown x.0 h.shown x.2 in let k = one.0 in let p = x.1 in
          let n : length w.effects ≡ number = omega (arith, k, p) in
          subst (λ i. IsMade (begin plan e (start e w)).calls i me t o) n (begun.made me t o (sym event-now ∙ (ap (λ (y : Effects). y.event) one.1 ∙ h.event_is)) (sym both.ignored_is ∙ (ap (λ (y : Effects). y.ignored) one.1 ∙ h.not_ignored)))

      made : (number : ℕ) (me : ClientNo) (t : ThreadNo) (o : UserOp) → Stands grown number (event.Call me t o) → IsMade (begin plan e (start e w)).calls number me t o
      made number me t o h = made_at number me t o h (get-append w.effects (shown ∷ []) number h.shown h.there)

      moved : (m : Moved) → Contains w.moves m ⊎ ((m.event ≡ length w.effects) × (e ≡ event.ClientTick m.client m.ms) × ((begin plan e (start e w)).shown.ignored ≡ None) × (m.clock ≡ clock_of w m.client + m.ms)) → Stands grown m.event (event.ClientTick m.client m.ms)
      moved m (inl h) = stands-on w.effects shown m.event (event.ClientTick m.client m.ms) (old.moves m h)
      moved m (inr h) = subst (λ n. Stands grown n (event.ClientTick m.client m.ms)) (sym h.0) (stands-now (event.ClientTick m.client m.ms) h.1 h.2)

      call_clock : (c : Called) → Contains w.calls c ⊎ ((c.event ≡ length w.effects) × (e ≡ event.Call c.client c.thread c.op) × ((begin plan e (start e w)).shown.ignored ≡ None) × (c.clock ≡ clock_of w c.client)) → c.clock ≡ clock_after c.client c.event grown
      call_clock c (inl h) = old.call_clocks c h ∙ sym (old-clock c.client c.event (event-below c.event _ (old.calls c h)))
      call_clock c (inr h) = h.3 ∙ (plus (clock_of w c.client) (is_none (begin plan e (start e w)).shown.ignored) ∙ (ap (λ x. clock_of w c.client + (if is_none (begin plan e (start e w)).shown.ignored then moved_by c.client x else 0)) (sym h.1)
          ∙ sym (new-clock c.client c.event (at_least c.event h.0))))
        where
          at_least : (n : ℕ) → n ≡ length w.effects → length w.effects ≤ n
          at_least n k = omega (arith, k)

          plus : (k : ℕ) (b : Bool) → k ≡ k + (if b then 0 else 0)
          plus k true = omega arith
          plus k false = omega arith

      move_clock : (m : Moved) → Contains w.moves m ⊎ ((m.event ≡ length w.effects) × (e ≡ event.ClientTick m.client m.ms) × ((begin plan e (start e w)).shown.ignored ≡ None) × (m.clock ≡ clock_of w m.client + m.ms)) → m.clock ≡ clock_after m.client m.event grown
      move_clock m (inl h) = old.move_clocks m h ∙ sym (old-clock m.client m.event (event-below m.event _ (old.moves m h)))
      move_clock m (inr h) = h.3 ∙ (by_tick ∙ (ap (λ x. clock_of w m.client + (if is_none (begin plan e (start e w)).shown.ignored then moved_by m.client x else 0)) (sym h.1)
          ∙ sym (new-clock m.client m.event (at_least m.event h.0))))
        where
          at_least : (n : ℕ) → n ≡ length w.effects → length w.effects ≤ n
          at_least n k = omega (arith, k)

          self : (n : ℕ) → (n == n) ≡ true
          self n = grind (arith, nat_tests)

          by_tick : clock_of w m.client + m.ms ≡ clock_of w m.client + (if is_none (begin plan e (start e w)).shown.ignored then (if m.client.0 == m.client.0 then m.ms else 0) else 0)
          by_tick = sym (ap (λ (o : Option Ignored). clock_of w m.client + (if is_none o then (if m.client.0 == m.client.0 then m.ms else 0) else 0)) h.2 ∙ ap (λ b. clock_of w m.client + (if b then m.ms else 0)) (self m.client.0))

pub printed-none : Printed [] new_world
printed-none = record {
  events_are = refl;
  numbers = λ place x at_place. let one = one-there (shows_nothing 0 event.Open) place x at_place in let k = one.0 in let n = ap (λ (y : Effects). y.number) one.1 in omega (arith, k, n);
  calls = λ c h. absurd (no-element c h);
  made = λ number me t o h. absurd (open-call (ap (λ (y : Effects). y.event) (one-there (shows_nothing 0 event.Open) number h.shown h.there).1 ∙ h.event_is));
  moves = λ m h. absurd (no-element m h);
  call_clocks = λ c h. absurd (no-element c h);
  move_clocks = λ m h. absurd (no-element m h);
  clocks = λ x n l. drop (nat_le 0 n && true);
  returns = refl;
  committed = refl;
}
  where
    drop : (b : Bool) → 0 ≡ (if b then 0 else 0) + 0
    drop true = refl
    drop false = refl

pub all-printed : (plan : Plan) (before events : List Event) (w : World) → Printed before w → Printed (before ++ events) (world_after plan w events)
all-printed plan before [] w h = subst (λ es. Printed es w) (sym (behind before)) h where
  behind : (es : List Event) → es ++ [] ≡ es
  behind [] = refl
  behind (e ∷ es) = ap (λ rest. e ∷ rest) (behind es)
all-printed plan before (e ∷ events) w h = subst (λ es. Printed es (world_after plan (world_step plan w e) events)) (append_assoc before (e ∷ []) events) (all-printed plan (before ++ e ∷ []) events (world_step plan w e) (printed-next plan before e w h))
