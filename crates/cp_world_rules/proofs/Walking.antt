-- What the steps of a world keep, step by step.
use Rattle.std.proofs.Common.{◌≡◌, ℕ, ◌+◌, ◌<◌, List, [], ◌∷◌, ◌++◌, Some, None, Option, refl, arith, length}
use Rattle.std.specs.Prelude.{nat_lt}
use Rattle.std.proofs.lemmas.List.{length_push}
use Rattle.cp_base.specs.declared.limits.TheConstants.{LAST_NUMBER}
use Rattle.cp_base.specs.Identifiers.{replay_id}
use Rattle.cp_base.specs.declared.identifier.ClientNo.{ClientNo}
use Rattle.cp_base.specs.declared.identifier.Invocation.{Invocation}
use Rattle.cp_base.specs.declared.identifier.ThreadNo.{ThreadNo}
use Rattle.cp_answers.specs.declared.answer.Answer.{Answer}
use Rattle.cp_events.specs.declared.effects.Ignored.{Ignored}
use Rattle.cp_events.specs.declared.event.Event.{Event}
use Rattle.cp_events.specs.declared.event.Event.TheVariants as event
use Rattle.cp_events.specs.declared.plan.Plan.{Plan}
use Rattle.cp_events.specs.declared.user_op.UserOp.{UserOp}
use Rattle.cp_group_state.proofs.Walk.{either}
use Rattle.cp_client_rules.specs.declared.rows.Pending.{Pending}
use Rattle.cp_client_rules.specs.Clients.{Asked, Did, thread_at}
use Rattle.cp_client_rules.specs.Calls.{call_client}
use Rattle.cp_client_rules.specs.Answers.{answer_client}
use Rattle.cp_client_rules.specs.Ticks.{tick_client}
use Rattle.cp_world_rules.specs.Rows.{Called, Moved}
use Rattle.cp_world_rules.specs.World.{World, begin, calls_if_idle, client_at, client_of, close, commit, commit_all, does, hand_all, hand_on, handed, ignore, is_client, moves_if_room, new_world, note, start, world_after, world_step}

-- Kept where clients take steps and requests are committed, whatever clients do.
pub record IsHanded (P : World → Type 0) : Type 0 where
  pub notes : (me : ClientNo) (d : Did) (w : World) → P w → P (note me d w)
  pub commits : (a : Asked) (w : World) → P w → P (commit a w)
  pub empties : (w : World) → P w → P (record w { queue = [] })

module _ (plan : Plan) (P : World → Type 0) (k : IsHanded P) where
  pub commits-kept : (asked : List Asked) (w : World) → P w → P (commit_all asked w)
  commits-kept [] w h = h
  commits-kept (a ∷ asked) w h = commits-kept asked (commit a w) (k.commits a w h)

  pub does-kept : (me : ClientNo) (d : Did) (w : World) → P w → P (does me d w)
  does-kept me d w h = commits-kept d.asked (note me d w) (k.notes me d w h)

  hands-kept : (queue : List (Invocation × Answer)) (w : World) → P w → P (hand_all plan queue w)
  hands-kept [] w h = h
  hands-kept (a ∷ queue) w h = hands-kept queue (hand_on plan a w) (does-kept (client_of a.0) (answer_client plan (replay_id (client_of a.0)) a.0 a.1 (client_at w (client_of a.0))) w h)

  pub handed-kept : (w : World) → P w → P (handed plan w)
  handed-kept w h = hands-kept w.queue (record w { queue = [] }) (k.empties w h)

-- Kept by all that may happen within an event.
pub record IsKept (P : World → Type 0) : Type 0 where
  pub steps : IsHanded P
  pub ignores : (cause : Ignored) (w : World) → P w → P (ignore cause w)
  pub calls : (c : Called) (w : World) → P w → P (record w { calls = w.calls ++ c ∷ [] })
  pub moves : (m : Moved) (w : World) → P w → P (record w { moves = w.moves ++ m ∷ [] })

module _ (plan : Plan) (P : World → Type 0) (k : IsKept P) where
  calls-kept : (me : ClientNo) (t : ThreadNo) (o : UserOp) (now : Option Pending) (w : World) → P w → P (calls_if_idle plan me t o now w)
  calls-kept me t o None w h = does-kept plan P k.steps me (call_client plan (replay_id me) t o (client_at w me)) (record w { calls = w.calls ++ record { event = w.shown.number; client = me; thread = t; op = o; clock = (client_at w me).clock } ∷ [] })
      (k.calls (record { event = w.shown.number; client = me; thread = t; op = o; clock = (client_at w me).clock }) w h)
  calls-kept me t o (Some now) w h = k.ignores _ w h

  moves-kept : (me : ClientNo) (ms : ℕ) (w : World) → P w → P (moves_if_room me ms w)
  moves-kept me ms w h = either P (nat_lt LAST_NUMBER ((client_at w me).clock + ms)) _ _ (k.ignores _ w h)
      (does-kept plan P k.steps me (tick_client (replay_id me) ms (client_at w me)) (record w { moves = w.moves ++ record { event = w.shown.number; client = me; ms = ms; clock = (client_at w me).clock + ms } ∷ [] })
      (k.moves (record { event = w.shown.number; client = me; ms = ms; clock = (client_at w me).clock + ms }) w h))

  pub begin-kept : (e : Event) (w : World) → P w → P (begin plan e w)
  begin-kept (event.Call me t o) w h = either P (is_client plan me) _ _ (calls-kept me t o (thread_at (client_at w me) t).pending w h) (k.ignores _ w h)
  begin-kept (event.ClientTick me ms) w h = either P (is_client plan me) _ _ (moves-kept me ms w h) (k.ignores _ w h)
  begin-kept (event.Deliver n) w h = k.ignores _ w h
  begin-kept (event.Tick m ms) w h = k.ignores _ w h
  begin-kept (event.Crash m) w h = k.ignores _ w h
  begin-kept (event.CrashAfter m calls choice) w h = k.ignores _ w h
  begin-kept (event.Start m) w h = k.ignores _ w h
  begin-kept event.Open w h = h

  -- the event, once it started
  pub event-kept : (e : Event) (w : World) → P (start e w) → P (handed plan (handed plan (begin plan e (start e w))))
  event-kept e w h = handed-kept plan P k.steps (handed plan (begin plan e (start e w))) (handed-kept plan P k.steps (begin plan e (start e w)) (begin-kept e (start e w) h))

-- the number of the event under way, and how many are over
abbrev IsNext : World → Type 0
IsNext w = w.shown.number ≡ length w.effects

next-kept : IsKept IsNext
next-kept = record { steps = record { notes = λ me d w h. h; commits = λ a w h. h; empties = λ w h. h }; ignores = λ cause w h. h; calls = λ c w h. h; moves = λ m w h. h }

-- Between events: the event that was shown last is over.
abbrev pub IsBetween : World → Type 0
IsBetween w = w.shown.number < length w.effects

pub between-after : (plan : Plan) (e : Event) (w : World) → IsBetween (world_step plan w e)
between-after plan e w = let last = handed plan (handed plan (begin plan e (start e w))) in
    let n = event-kept plan IsNext next-kept e w refl in
    let l : length ((handed plan (handed plan (begin plan e (start e w)))).effects ++ (handed plan (handed plan (begin plan e (start e w)))).shown ∷ []) ≡ length (handed plan (handed plan (begin plan e (start e w)))).effects + 1
    = length_push (handed plan (handed plan (begin plan e (start e w)))).effects (handed plan (handed plan (begin plan e (start e w)))).shown in
    omega (arith, n, l)

-- what also starts and ends of events keep
pub record IsKeptBetween (P : World → Type 0) : Type 0 where
  pub within : IsKept P
  pub starts : (e : Event) (w : World) → IsBetween w → P w → P (start e w)
  pub closes : (w : World) → P w → P (close w)

module _ (plan : Plan) (P : World → Type 0) (k : IsKeptBetween P) where
  pub step-kept : (e : Event) (w : World) → IsBetween w → P w → P (world_step plan w e)
  step-kept e w b h = k.closes (handed plan (handed plan (begin plan e (start e w)))) (event-kept plan P k.within e w (k.starts e w b h))

  pub from-kept : (events : List Event) (w : World) → IsBetween w → P w → P (world_after plan w events)
  from-kept [] w b h = h
  from-kept (e ∷ events) w b h = from-kept events (world_step plan w e) (between-after plan e w) (step-kept e w b h)

  pub all-kept : (events : List Event) → P new_world → P (world_after plan new_world events)
  all-kept events h = from-kept events new_world (omega arith) h
