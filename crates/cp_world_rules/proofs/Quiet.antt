-- An event that is ignored does nothing.
use Rattle.std.proofs.Common.{◌≡◌, ℕ, ◌+◌, ◌^◌, ◌⊎◌, inl, inr, List, [], ◌∷◌, ◌++◌, Some, None, Option, refl, sym, subst, ap, ◌∙◌}
use Rattle.std.specs.Prelude.{Contains, nat_lt}
use Rattle.std.proofs.lemmas.List.Elements.{Contains-push_cases}
use Rattle.cp_base.specs.Identifiers.{replay_id}
use Rattle.cp_base.specs.declared.identifier.ClientNo.{ClientNo}
use Rattle.cp_base.specs.declared.identifier.ThreadNo.{ThreadNo}
use Rattle.cp_base.proofs.Tests.{none_some}
use Rattle.cp_events.specs.declared.effects.Effects.{Effects}
use Rattle.cp_events.specs.declared.effects.Ignored.{Ignored}
use Rattle.cp_events.specs.declared.event.Event.{Event}
use Rattle.cp_events.specs.declared.event.Event.TheVariants as event
use Rattle.cp_events.specs.declared.plan.Plan.{Plan}
use Rattle.cp_events.specs.declared.user_op.UserOp.{UserOp}
use Rattle.cp_group_state.proofs.Walk.{either}
use Rattle.cp_group_causes.proofs.Lists.{one-is}
use Rattle.cp_client_rules.specs.declared.rows.Pending.{Pending}
use Rattle.cp_client_rules.specs.Calls.{call_client}
use Rattle.cp_client_rules.specs.Ticks.{tick_client}
use Rattle.cp_client_rules.specs.Clients.{thread_at}
use Rattle.cp_world_rules.specs.World.{World, begin, calls_if_idle, client_at, hand_all, handed, is_client, moves_if_room, new_world, shows_nothing, start, world_after, world_step}
use Rattle.cp_world_rules.proofs.Walking.{IsHanded, IsKept, does-kept, event-kept, handed-kept}
use Rattle.cp_world_rules.proofs.Settled.{RestsAfter, rests, step-rests}

abbrev pub IsQuiet : Effects → Type 0
IsQuiet shown = (cause : Ignored) → shown.ignored ≡ Some cause → (shown.opened ≡ []) × (shown.returns ≡ [])

abbrev pub AllQuiet : World → Type 0
AllQuiet w = (shown : Effects) → Contains w.effects shown → IsQuiet shown

-- of the event under way: it is not ignored, or it did nothing and leaves nothing to be handed on
abbrev NotIgnored : World → Type 0
NotIgnored w = w.shown.ignored ≡ None

abbrev IsIdle : World → Type 0
IsIdle w = (w.queue ≡ []) × (w.shown.opened ≡ []) × (w.shown.returns ≡ [])

not-handed : IsHanded NotIgnored
not-handed = record { notes = λ me d w h. h; commits = λ a w h. h; empties = λ w h. h }

module _ (plan : Plan) where
  idle-handed : (w : World) → IsIdle w → IsIdle (handed plan w)
  idle-handed w h = subst (λ queue. IsIdle (hand_all plan queue (record w { queue = [] }))) (sym h.0) (refl, h.1, h.2)

  -- what an event comes to at first
  abbrev Begins : World → Type 0
  Begins w = NotIgnored w ⊎ IsIdle w

  call-begins : (me : ClientNo) (t : ThreadNo) (o : UserOp) (now : Option Pending) (w : World) → NotIgnored w → IsIdle w → Begins (calls_if_idle plan me t o now w)
  call-begins me t o (Some now) w h i = inr i
  call-begins me t o None w h i = inl (does-kept plan NotIgnored not-handed me (call_client plan (replay_id me) t o (client_at w me)) (record w { calls = w.calls ++ record { event = w.shown.number; client = me; thread = t; op = o; clock = (client_at w me).clock } ∷ [] }) h)

  tick-begins : (me : ClientNo) (ms : ℕ) (w : World) → NotIgnored w → IsIdle w → Begins (moves_if_room me ms w)
  tick-begins me ms w h i = either Begins (nat_lt (2 ^ 62) ((client_at w me).clock + ms)) _ _ (inr i)
      (inl (does-kept plan NotIgnored not-handed me (tick_client (replay_id me) ms (client_at w me)) (record w { moves = w.moves ++ record { event = w.shown.number; client = me; ms = ms; clock = (client_at w me).clock + ms } ∷ [] }) h))

  begin-begins : (e : Event) (w : World) → NotIgnored w → IsIdle w → Begins (begin plan e w)
  begin-begins (event.Call me t o) w h i = either Begins (is_client plan me) _ _ (call-begins me t o (thread_at (client_at w me) t).pending w h i) (inr i)
  begin-begins (event.ClientTick me ms) w h i = either Begins (is_client plan me) _ _ (tick-begins me ms w h i) (inr i)
  begin-begins (event.Deliver n) w h i = inr i
  begin-begins (event.Tick m ms) w h i = inr i
  begin-begins (event.Crash m) w h i = inr i
  begin-begins (event.CrashAfter m calls choice) w h i = inr i
  begin-begins (event.Start m) w h i = inr i
  begin-begins event.Open w h i = inl h

  shown-quiet : (e : Event) (w : World) → w.queue ≡ [] → IsQuiet (handed plan (handed plan (begin plan e (start e w)))).shown
  shown-quiet e w none = by (begin-begins e (start e w) refl (none, refl, refl)) where
    by : Begins (begin plan e (start e w)) → IsQuiet (handed plan (handed plan (begin plan e (start e w)))).shown
    by (inl h) cause is = absurd (none_some (sym (handed-kept plan NotIgnored not-handed (handed plan (begin plan e (start e w))) (handed-kept plan NotIgnored not-handed (begin plan e (start e w)) h)) ∙ is))
    by (inr i) cause is = let j = idle-handed (handed plan (begin plan e (start e w))) (idle-handed (begin plan e (start e w)) i) in (j.1, j.2)

  -- effects that are over stay
  abbrev SameEffects : List Effects → World → Type 0
  SameEffects effects w = w.effects ≡ effects

  same-handed : (effects : List Effects) → IsHanded (SameEffects effects)
  same-handed effects = record { notes = λ me d w h. h; commits = λ a w h. h; empties = λ w h. h }

  step-quiet : (e : Event) (w : World) → (handed plan (handed plan (begin plan e (start e w)))).effects ≡ w.effects → w.queue ≡ [] → AllQuiet w → AllQuiet (world_step plan w e)
  step-quiet e w same none h shown there = by (Contains-push_cases w.effects (handed plan (handed plan (begin plan e (start e w)))).shown shown
      (subst (λ rows. Contains (rows ++ (handed plan (handed plan (begin plan e (start e w)))).shown ∷ []) shown) same there)) where
        by : Contains w.effects shown ⊎ ((handed plan (handed plan (begin plan e (start e w)))).shown ≡ shown) → IsQuiet shown
        by (inl x) = h shown x
        by (inr x) = subst IsQuiet x (shown-quiet e w none)

  same-kept : (effects : List Effects) → IsKept (SameEffects effects)
  same-kept effects = record { steps = same-handed effects; ignores = λ cause w h. h; calls = λ c w h. h; moves = λ m w h. h }

  from-quiet : (n : ℕ) (events : List Event) (w : World) → RestsAfter plan n w → AllQuiet w → AllQuiet (world_after plan w events)
  from-quiet n [] w rest h = h
  from-quiet n (e ∷ events) w rest h = from-quiet (n + 1) events (world_step plan w e) (step-rests plan n e w rest) (step-quiet e w (event-kept plan (SameEffects w.effects) (same-kept w.effects) e w refl) rest.queue h)

  pub all-quiet : (events : List Event) → AllQuiet (world_after plan new_world events)
  all-quiet events = from-quiet 0 events new_world (rests plan []) (λ shown there cause is. absurd (none_some (ap (λ (x : Effects). x.ignored) (sym (one-is (shows_nothing 0 event.Open) shown there)) ∙ is)))
