-- Requests begin, and end, in events that took place.
use Rattle.std.proofs.Common.{◌≡◌, ℕ, ◌+◌, ◌⊎◌, inl, inr, List, [], ◌∷◌, ◌++◌, Some, None, Option, refl, sym, subst, ap, map}
use Rattle.std.specs.Prelude.{Contains, nat_lt}
use Rattle.std.proofs.lemmas.List.Elements.{Contains-append_cases, Contains-append_left, Contains-push}
use Rattle.cp_base.specs.declared.limits.TheConstants.{LAST_NUMBER}
use Rattle.cp_base.specs.Identifiers.{replay_id}
use Rattle.cp_base.specs.declared.identifier.ClientNo.{ClientNo}
use Rattle.cp_base.specs.declared.identifier.ThreadNo.{ThreadNo}
use Rattle.cp_events.specs.declared.effects.Effects.{Effects}
use Rattle.cp_events.specs.declared.event.Event.{Event}
use Rattle.cp_events.specs.declared.event.Event.TheVariants as event
use Rattle.cp_events.specs.declared.plan.Plan.{Plan}
use Rattle.cp_events.specs.declared.user_op.UserOp.{UserOp}
use Rattle.cp_group_state.proofs.Walk.{either}
use Rattle.cp_group_causes.proofs.Lists.{mapped, no-element}
use Rattle.cp_client_rules.specs.declared.rows.Pending.{Pending}
use Rattle.cp_client_rules.specs.Calls.{call_client}
use Rattle.cp_client_rules.specs.Ticks.{tick_client}
use Rattle.cp_client_rules.specs.Clients.{Did, thread_at}
use Rattle.cp_world_rules.specs.Rows.{End, Request}
use Rattle.cp_world_rules.specs.World.{World, begin, begins_now, calls_if_idle, client_at, close, ends_now, hand_all, handed, is_client, moves_if_room, new_world, start, world_after, world_step}
use Rattle.cp_world_rules.proofs.Walking.{IsHanded, does-kept, handed-kept}
use Rattle.cp_world_rules.proofs.Settled.{RestsAfter, rests, step-rests}

-- an event of this number is shown, and took place
abbrev pub Took : List Effects → ℕ → Type 0
Took effects n = (shown : Effects) × Contains effects shown × (shown.number ≡ n) × (shown.ignored ≡ None)

pub record AllTook (effects : List Effects) (w : World) : Type 0 where
  pub requests : (q : Request) → Contains w.requests q → Took effects q.event
  pub ends : (e : End) → Contains w.ends e → Took effects e.event

-- of an event under way that is not ignored
record Takes (w : World) : Type 0 where
  pub going : w.shown.ignored ≡ None
  pub requests : (q : Request) → Contains w.requests q → (q.event ≡ w.shown.number) ⊎ Took w.effects q.event
  pub ends : (e : End) → Contains w.ends e → (e.event ≡ w.shown.number) ⊎ Took w.effects e.event

-- of one that does nothing
record Idles (w : World) : Type 0 where
  pub queue : w.queue ≡ []
  pub rows : AllTook w.effects w

takes-handed : IsHanded Takes
takes-handed = record {
  notes = λ me d w h. record { going = h.going; requests = λ q there. request me d w h q (Contains-append_cases w.requests (map (begins_now w) d.asked) q there); ends = λ e there. end me d w h e (Contains-append_cases w.ends (map (ends_now w) d.ended) e there) };
  commits = λ a w h. record { going = h.going; requests = h.requests; ends = h.ends };
  empties = λ w h. record { going = h.going; requests = h.requests; ends = h.ends };
}
  where
    request : (me : ClientNo) (d : Did) (w : World) → Takes w → (q : Request) → Contains w.requests q ⊎ Contains (map (begins_now w) d.asked) q → (q.event ≡ w.shown.number) ⊎ Took w.effects q.event
    request me d w h q (inl there) = h.requests q there
    request me d w h q (inr there) = let y = mapped (begins_now w) d.asked q there in inl (ap (λ (z : Request). z.event) y.2)

    end : (me : ClientNo) (d : Did) (w : World) → Takes w → (e : End) → Contains w.ends e ⊎ Contains (map (ends_now w) d.ended) e → (e.event ≡ w.shown.number) ⊎ Took w.effects e.event
    end me d w h e (inl there) = h.ends e there
    end me d w h e (inr there) = let y = mapped (ends_now w) d.ended e there in inl (ap (λ (z : End). z.event) y.2)

module _ (plan : Plan) where
  abbrev Begins : World → Type 0
  Begins w = Takes w ⊎ Idles w

  first-takes : (e : Event) (w : World) → AllTook w.effects w → Takes (start e w)
  first-takes e w h = record { going = refl; requests = λ q there. inr (h.requests q there); ends = λ x there. inr (h.ends x there) }

  idle : (w : World) → w.queue ≡ [] → AllTook w.effects w → Idles w
  idle w none h = record { queue = none; rows = h }

  call-takes : (me : ClientNo) (t : ThreadNo) (o : UserOp) (now : Option Pending) (w : World) → Takes w → Idles w → Begins (calls_if_idle plan me t o now w)
  call-takes me t o (Some now) w h i = inr (record { queue = i.queue; rows = record { requests = i.rows.requests; ends = i.rows.ends } })
  call-takes me t o None w h i = inl (does-kept plan Takes takes-handed me (call_client plan (replay_id me) t o (client_at w me)) (record w { calls = w.calls ++ record { event = w.shown.number; client = me; thread = t; op = o; clock = (client_at w me).clock } ∷ [] })
      (record { going = h.going; requests = h.requests; ends = h.ends }))

  tick-takes : (me : ClientNo) (ms : ℕ) (w : World) → Takes w → Idles w → Begins (moves_if_room me ms w)
  tick-takes me ms w h i = either Begins (nat_lt LAST_NUMBER ((client_at w me).clock + ms)) _ _ (inr (record { queue = i.queue; rows = record { requests = i.rows.requests; ends = i.rows.ends } }))
      (inl (does-kept plan Takes takes-handed me (tick_client (replay_id me) ms (client_at w me)) (record w { moves = w.moves ++ record { event = w.shown.number; client = me; ms = ms; clock = (client_at w me).clock + ms } ∷ [] })
      (record { going = h.going; requests = h.requests; ends = h.ends })))

  begin-takes : (e : Event) (w : World) → Takes w → Idles w → Begins (begin plan e w)
  begin-takes (event.Call me t o) w h i = either Begins (is_client plan me) _ _ (call-takes me t o (thread_at (client_at w me) t).pending w h i) (inr (record { queue = i.queue; rows = record { requests = i.rows.requests; ends = i.rows.ends } }))
  begin-takes (event.ClientTick me ms) w h i = either Begins (is_client plan me) _ _ (tick-takes me ms w h i) (inr (record { queue = i.queue; rows = record { requests = i.rows.requests; ends = i.rows.ends } }))
  begin-takes (event.Deliver n) w h i = inr (record { queue = i.queue; rows = record { requests = i.rows.requests; ends = i.rows.ends } })
  begin-takes (event.Tick m ms) w h i = inr (record { queue = i.queue; rows = record { requests = i.rows.requests; ends = i.rows.ends } })
  begin-takes (event.Crash m) w h i = inr (record { queue = i.queue; rows = record { requests = i.rows.requests; ends = i.rows.ends } })
  begin-takes (event.CrashAfter m calls choice) w h i = inr (record { queue = i.queue; rows = record { requests = i.rows.requests; ends = i.rows.ends } })
  begin-takes (event.Start m) w h i = inr (record { queue = i.queue; rows = record { requests = i.rows.requests; ends = i.rows.ends } })
  begin-takes event.Open w h i = inl h

  idle-handed : (w : World) → Idles w → Idles (handed plan w)
  idle-handed w i = subst (λ queue. Idles (hand_all plan queue (record w { queue = [] }))) (sym i.queue) (record { queue = refl; rows = record { requests = i.rows.requests; ends = i.rows.ends } })

  closes-took : (w : World) → Takes w ⊎ Idles w → AllTook (close w).effects (close w)
  closes-took w (inl h) = record { requests = λ q there. by q.event (h.requests q there); ends = λ e there. by e.event (h.ends e there) } where
    by : (n : ℕ) → (n ≡ w.shown.number) ⊎ Took w.effects n → Took (w.effects ++ w.shown ∷ []) n
    by n (inl e) = (w.shown, Contains-push w.effects w.shown, sym e, h.going)
    by n (inr t) = (t.0, Contains-append_left w.effects (w.shown ∷ []) t.0 t.1, t.2, t.3)
  closes-took w (inr i) = record { requests = λ q there. on q.event (i.rows.requests q there); ends = λ e there. on e.event (i.rows.ends e there) } where
    on : (n : ℕ) → Took w.effects n → Took (w.effects ++ w.shown ∷ []) n
    on n t = (t.0, Contains-append_left w.effects (w.shown ∷ []) t.0 t.1, t.2, t.3)

  step-took : (e : Event) (w : World) → w.queue ≡ [] → AllTook w.effects w → AllTook (world_step plan w e).effects (world_step plan w e)
  step-took e w none h = closes-took (handed plan (handed plan (begin plan e (start e w)))) (by (begin-takes e (start e w) (first-takes e w h) (idle (start e w) none (record { requests = h.requests; ends = h.ends })))) where
    by : Begins (begin plan e (start e w)) → Begins (handed plan (handed plan (begin plan e (start e w))))
    by (inl t) = inl (handed-kept plan Takes takes-handed (handed plan (begin plan e (start e w))) (handed-kept plan Takes takes-handed (begin plan e (start e w)) t))
    by (inr i) = inr (idle-handed (handed plan (begin plan e (start e w))) (idle-handed (begin plan e (start e w)) i))

  from-took : (n : ℕ) (events : List Event) (w : World) → RestsAfter plan n w → AllTook w.effects w → AllTook (world_after plan w events).effects (world_after plan w events)
  from-took n [] w rest h = h
  from-took n (e ∷ events) w rest h = from-took (n + 1) events (world_step plan w e) (step-rests plan n e w rest) (step-took e w rest.queue h)

  pub all-took : (events : List Event) → AllTook (world_after plan new_world events).effects (world_after plan new_world events)
  all-took events = from-took 0 events new_world (rests plan []) (record { requests = λ q there. absurd (no-element q there); ends = λ e there. absurd (no-element e there) })
