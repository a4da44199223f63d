-- What is kept where clients take their own steps, and are handed answers of the fold.
use Rattle.std.proofs.Common.{◌≡◌, ℕ, ◌+◌, ◌<◌, ◌≤◌, List, [], ◌∷◌, ◌++◌, Some, None, Option, arith, length}
use Rattle.std.specs.Prelude.{Contains, nat_lt}
use Rattle.std.proofs.lemmas.List.Elements.{Contains-push}
use Rattle.cp_base.specs.declared.limits.TheConstants.{LAST_NUMBER}
use Rattle.cp_base.specs.Identifiers.{replay_id}
use Rattle.cp_base.specs.declared.identifier.ClientNo.{ClientNo}
use Rattle.cp_base.specs.declared.identifier.Invocation.{Invocation}
use Rattle.cp_base.specs.declared.identifier.ThreadNo.{ThreadNo}
use Rattle.cp_answers.specs.declared.answer.Answer.{Answer}
use Rattle.cp_events.specs.declared.effects.Ignored.{Ignored}
use Rattle.cp_events.specs.declared.event.Event.{Event}
use Rattle.cp_events.specs.declared.event.Event.TheVariants as event
use Rattle.cp_events.specs.declared.plan.Plan.{Plan}
use Rattle.cp_events.specs.declared.user_op.UserOp.{UserOp}
use Rattle.cp_group_state.proofs.Walk.{either}
use Rattle.cp_group_causes.proofs.Lists.{at-head, at-tail}
use Rattle.cp_client_rules.specs.declared.rows.Pending.{Pending}
use Rattle.cp_client_rules.specs.Answers.{answer_client}
use Rattle.cp_client_rules.specs.Calls.{call_client}
use Rattle.cp_client_rules.specs.Clients.{Asked, thread_at}
use Rattle.cp_client_rules.specs.Ticks.{tick_client}
use Rattle.cp_world_rules.specs.Rows.{Called, End, Moved}
use Rattle.cp_world_rules.specs.World.{World, begin, calls_if_idle, client_at, client_of, close, commit, commit_all, hand_all, hand_on, handed, ignore, is_client, moves_now, new_world, note, start, world_after, world_step}
use Rattle.cp_world_rules.proofs.Answers.{answer-ok, tick-ok}
use Rattle.cp_world_rules.proofs.Clients.{call-ok}
use Rattle.cp_world_rules.proofs.Desked.{Desked, Sound, begin-desked, emptied-good, hand-desked, handed-desked, none-sound, step-sound}
use Rattle.cp_world_rules.proofs.Does.{does-given, does-good, note-good}
use Rattle.cp_world_rules.proofs.Good.{Given as GivenTo, Good}
use Rattle.cp_world_rules.proofs.Runs.{begin-good, called-good, handed-good, moved-good, started}
use Rattle.cp_world_rules.proofs.Settled.{RestsAfter, rests, step-rests}

-- Kept within an event, and between events.
pub record IsServed (plan : Plan) (P Q : World → Type 0) : Type 0 where
  pub calls : (me : ClientNo) (t : ThreadNo) (o : UserOp) (w : World) → Good plan w → Good plan (note me (call_client plan (replay_id me) t o (client_at w me)) w) → P w → P (note me (call_client plan (replay_id me) t o (client_at w me)) w)
  pub ticks : (me : ClientNo) (ms : ℕ) (w : World) → Good plan w → Good plan (note me (tick_client (replay_id me) ms (client_at w me)) w) → P w → P (note me (tick_client (replay_id me) ms (client_at w me)) w)
  pub answers : (request : Invocation) (a : Answer) (w : World) → Good plan w → Desked plan w → GivenTo w request a → Good plan (note (client_of request) (answer_client plan (replay_id (client_of request)) request a (client_at w (client_of request))) w) → P w
      → P (note (client_of request) (answer_client plan (replay_id (client_of request)) request a (client_at w (client_of request))) w)
  pub commits : (a : Asked) (w : World) → P w → P (commit a w)
  pub empties : (w : World) → P w → P (record w { queue = [] })
  pub ignores : (cause : Ignored) (w : World) → P w → P (ignore cause w)
  pub called : (c : Called) (w : World) → ((e : End) → Contains w.ends e → e.event < c.event) → P w → P (record w { calls = w.calls ++ c ∷ [] })
  pub moved : (m : Moved) (w : World) → P w → P (record w { moves = w.moves ++ m ∷ [] })
  pub starts : (e : Event) (w : World) → w.shown.number ≤ length w.effects → Q w → P (start e w)
  pub closes : (w : World) → P w → Q (close w)

module _ (plan : Plan) (P Q : World → Type 0) (k : IsServed plan P Q) where
  commits-served : (asked : List Asked) (w : World) → P w → P (commit_all asked w)
  commits-served [] w h = h
  commits-served (a ∷ asked) w h = commits-served asked (commit a w) (k.commits a w h)

  hands-served : (queue : List (Invocation × Answer)) (w : World) → Good plan w → Desked plan w → ((a : Invocation × Answer) → Contains queue a → GivenTo w a.0 a.1) → P w → P (hand_all plan queue w)
  hands-served [] w good desked given h = h
  hands-served (a ∷ queue) w good desked given h = let g = given a (at-head a queue) in let ok = answer-ok plan w a.0 a.1 good g in
      hands-served queue (hand_on plan a w) (does-good plan w (client_of a.0) (answer_client plan (replay_id (client_of a.0)) a.0 a.1 (client_at w (client_of a.0))) good ok)
      (hand-desked plan w a good g desked) (λ b there. does-given plan w (client_of a.0) (answer_client plan (replay_id (client_of a.0)) a.0 a.1 (client_at w (client_of a.0))) good ok b (given b (at-tail a b queue there)))
      (commits-served (answer_client plan (replay_id (client_of a.0)) a.0 a.1 (client_at w (client_of a.0))).asked (note (client_of a.0) (answer_client plan (replay_id (client_of a.0)) a.0 a.1 (client_at w (client_of a.0))) w)
      (k.answers a.0 a.1 w good desked g (note-good plan w (client_of a.0) (answer_client plan (replay_id (client_of a.0)) a.0 a.1 (client_at w (client_of a.0))) good ok) h))

  handed-served : (w : World) → Good plan w → Desked plan w → P w → P (handed plan w)
  handed-served w good desked h = hands-served w.queue (record w { queue = [] }) (emptied-good plan w good) (record { book = desked.book; threads = desked.threads }) (λ a there. let g = good.queue a there in record { answered = g.answered; fits = g.fits }) (k.empties w h)

  -- the ends so far are of earlier events
  abbrev IsLater : World → Type 0
  IsLater w = (e : End) → Contains w.ends e → e.event < w.shown.number

  -- a call
  module _ (me : ClientNo) (t : ThreadNo) (o : UserOp) (w : World) (good : Good plan w) (earlier : IsLater w) (h : P w) where
    abbrev made : Called
    made = record { event = w.shown.number; client = me; thread = t; op = o; clock = (client_at w me).clock }

    abbrev v : World
    v = record w { calls = w.calls ++ record { event = w.shown.number; client = me; thread = t; op = o; clock = (client_at w me).clock } ∷ [] }

    g : Good plan v
    g = called-good plan made w good

    call-served : P (calls_if_idle plan me t o None w)
    call-served = commits-served (call_client plan (replay_id me) t o (client_at w me)).asked (note me (call_client plan (replay_id me) t o (client_at w me)) v)
        (k.calls me t o v g (note-good plan v me (call_client plan (replay_id me) t o (client_at w me)) g (call-ok plan v me t o g (Contains-push w.calls made))) (k.called made w earlier h))

  idle-served : (me : ClientNo) (t : ThreadNo) (o : UserOp) (now : Option Pending) (w : World) → Good plan w → IsLater w → P w → P (calls_if_idle plan me t o now w)
  idle-served me t o None w good earlier h = call-served me t o w good earlier h
  idle-served me t o (Some now) w good earlier h = k.ignores _ w h

  -- a tick
  module _ (me : ClientNo) (ms : ℕ) (w : World) (good : Good plan w) (h : P w) where
    abbrev row : Moved
    row = record { event = w.shown.number; client = me; ms = ms; clock = (client_at w me).clock + ms }

    abbrev u : World
    u = record w { moves = w.moves ++ record { event = w.shown.number; client = me; ms = ms; clock = (client_at w me).clock + ms } ∷ [] }

    f : Good plan u
    f = moved-good plan row w good

    tick-served : P (moves_now me ms w)
    tick-served = commits-served (tick_client (replay_id me) ms (client_at w me)).asked (note me (tick_client (replay_id me) ms (client_at w me)) u)
        (k.ticks me ms u f (note-good plan u me (tick_client (replay_id me) ms (client_at w me)) f (tick-ok plan u me ms f (Contains-push w.moves row))) (k.moved row w h))

  begin-served : (e : Event) (w : World) → Good plan w → IsLater w → P w → P (begin plan e w)
  begin-served (event.Call me t o) w good earlier h = either P (is_client plan me) _ _ (idle-served me t o (thread_at (client_at w me) t).pending w good earlier h) (k.ignores _ w h)
  begin-served (event.ClientTick me ms) w good earlier h = either P (is_client plan me) _ _ (either P (nat_lt LAST_NUMBER ((client_at w me).clock + ms)) _ _ (k.ignores _ w h) (tick-served me ms w good h)) (k.ignores _ w h)
  begin-served (event.Deliver n) w good earlier h = k.ignores _ w h
  begin-served (event.Tick m ms) w good earlier h = k.ignores _ w h
  begin-served (event.Crash m) w good earlier h = k.ignores _ w h
  begin-served (event.CrashAfter m calls choice) w good earlier h = k.ignores _ w h
  begin-served (event.Start m) w good earlier h = k.ignores _ w h
  begin-served event.Open w good earlier h = h

  step-served : (e : Event) (w : World) → w.queue ≡ [] → Sound plan w → Q w → Q (world_step plan w e)
  step-served e w none s h = let l : w.shown.number ≤ length w.effects = (let b = s.between in omega (arith, b)) in
      let g0 = begin-good plan e (start e w) (started plan e w l none s.good) in
      let d0 = begin-desked plan e w s.between s.desked in
      let g1 = handed-good plan (begin plan e (start e w)) g0 in
      let d1 = handed-desked plan (begin plan e (start e w)) g0 d0 in
      k.closes (handed plan (handed plan (begin plan e (start e w)))) (handed-served (handed plan (begin plan e (start e w))) g1 d1
      (handed-served (begin plan e (start e w)) g0 d0 (begin-served e (start e w) (started plan e w l none s.good) earlier (k.starts e w l h))))
    where
      earlier : (x : End) → Contains w.ends x → x.event < length w.effects
      earlier x there = let m = s.good.ended_by_now x there in let b = s.between in omega (arith, m, b)

  run-served : (n : ℕ) (events : List Event) (w : World) → RestsAfter plan n w → Sound plan w → Q w → Q (world_after plan w events)
  run-served n [] w rest s h = h
  run-served n (e ∷ events) w rest s h = run-served (n + 1) events (world_step plan w e) (step-rests plan n e w rest) (step-sound plan e w rest.queue s) (step-served e w rest.queue s h)

  pub all-served : (events : List Event) → Q new_world → Q (world_after plan new_world events)
  all-served events h = run-served 0 events new_world (rests plan []) (none-sound plan) h
