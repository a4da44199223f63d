-- A call asks or returns in the event in which it begins.
use Rattle.std.proofs.Common.{◌≡◌, ℕ, ◌+◌, ◌^◌, ◌⊎◌, inl, inr, List, [], ◌∷◌, ◌++◌, Some, None, Option, refl, sym, subst, ap, ◌∙◌, map}
use Rattle.std.specs.Prelude.{Contains, nat_lt}
use Rattle.std.proofs.lemmas.List.Elements.{Contains-append_left, Contains-append_right, Contains-push_cases}
use Rattle.cp_base.specs.Identifiers.{replay_id}
use Rattle.cp_base.specs.declared.identifier.ClientNo.{ClientNo}
use Rattle.cp_base.specs.declared.identifier.ThreadNo.{ThreadNo}
use Rattle.cp_events.specs.declared.effects.Return.{Return}
use Rattle.cp_events.specs.declared.event.Event.{Event}
use Rattle.cp_events.specs.declared.event.Event.TheVariants as event
use Rattle.cp_events.specs.declared.plan.Plan.{Plan}
use Rattle.cp_events.specs.declared.user_op.UserOp.{UserOp}
use Rattle.cp_group_state.proofs.Walk.{either}
use Rattle.cp_group_causes.proofs.Lists.{at-head, map-in}
use Rattle.cp_client_rules.specs.declared.rows.Pending.{Pending}
use Rattle.cp_client_rules.specs.Asking.{Need, Nothing, HoldingSession, ItsSession, SessionToClose, Round, group_of, need_of, wish_of}
use Rattle.cp_client_rules.specs.Calls.{Call, by_need, call_client, closing, deadline_of, holding_session, in_session}
use Rattle.cp_client_rules.specs.Clients.{Asked, Client, Did, session_in_group, thread_at}
use Rattle.cp_client_rules.specs.Ticks.{tick_client}
use Rattle.cp_world_rules.specs.Rows.{Called, Request, Returned}
use Rattle.cp_world_rules.specs.World.{World, begin, begins_now, calls_if_idle, client_at, handed, commit_all, is_client, moves_if_room, note, returns_now, start, world_after, world_step}
use Rattle.cp_world_rules.proofs.Walking.{IsHanded, commits-kept, does-kept, handed-kept}

abbrev pub BeginsIn : List Request → List Returned → Called → Type 0
BeginsIn requests returned c = ((q : Request) × Contains requests q × (q.event ≡ c.event) × (q.call.client ≡ replay_id c.client) × (q.call.thread ≡ c.thread))
    ⊎ ((r : Returned) × Contains returned r × (r.event ≡ c.event) × (r.client ≡ c.client) × (r.what.thread ≡ c.thread))

abbrev pub AllBegun : World → Type 0
AllBegun w = (c : Called) → Contains w.calls c → BeginsIn w.requests w.returns c

begins-more : (requests more : List Request) (returned again : List Returned) (c : Called) → BeginsIn requests returned c → BeginsIn (requests ++ more) (returned ++ again) c
begins-more requests more returned again c (inl h) = inl (h.0, Contains-append_left requests more h.0 h.1, h.2, h.3, h.4)
begins-more requests more returned again c (inr h) = inr (h.0, Contains-append_left returned again h.0 h.1, h.2, h.3, h.4)

begun-handed : IsHanded AllBegun
begun-handed = record {
  notes = λ me d w h. λ c there. begins-more w.requests _ w.returns _ c (h c there);
  commits = λ a w h. h;
  empties = λ w h. h;
}

-- what a call does first
module _ (plan : Plan) (me : ClientNo) (call : Call) (c : Client) where
  abbrev Does : Did → Type 0
  Does d = ((a : Asked) × Contains d.asked a × (a.call.client ≡ replay_id me) × (a.call.thread ≡ call.thread)) ⊎ ((r : Return) × Contains d.returns r × (r.thread ≡ call.thread))

  session-does : (so : Option ℕ) → Does (in_session plan (replay_id me) call so c)
  session-does None = inl (_, at-head _ [], refl, refl)
  session-does (Some s) = inl (_, at-head _ [], refl, refl)

  closing-does : (so : Option ℕ) → Does (closing plan (replay_id me) call so c)
  closing-does None = inr (_, at-head _ [], refl)
  closing-does (Some s) = inl (_, at-head _ [], refl, refl)

  need-does : (need : Need) → Does (by_need plan (replay_id me) need call c)
  need-does Nothing = inl (_, at-head _ [], refl, refl)
  need-does (HoldingSession name) = session-does (holding_session call name c)
  need-does ItsSession = session-does (session_in_group c call.group)
  need-does SessionToClose = closing-does (session_in_group c call.group)
  need-does (Round name) = inl (_, at-head _ [], refl, refl)

module _ (plan : Plan) where
  call-begun : (me : ClientNo) (t : ThreadNo) (o : UserOp) (now : Option Pending) (w : World) → AllBegun w → AllBegun (calls_if_idle plan me t o now w)
  call-begun me t o (Some now) w h = h
  call-begun me t o None w h = from (record { event = w.shown.number; client = me; thread = t; op = o; clock = (client_at w me).clock }) refl refl refl
      (call_client plan (replay_id me) t o (client_at w me)) (need-does plan me (record { thread = t; group = group_of o; op = o; deadline = deadline_of (client_at w me).clock (wish_of o) }) (client_at w me) (need_of o))
    where
      from : (made : Called) → made.event ≡ w.shown.number → made.client ≡ me → made.thread ≡ t → (d : Did) → ((a : Asked) × Contains d.asked a × (a.call.client ≡ replay_id me) × (a.call.thread ≡ t)) ⊎ ((r : Return) × Contains d.returns r × (r.thread ≡ t))
          → AllBegun (commit_all d.asked (note me d (record w { calls = w.calls ++ made ∷ [] })))
      from made at mine thread d does = commits-kept plan AllBegun begun-handed d.asked (note me d (record w { calls = w.calls ++ made ∷ [] })) (λ c there. by c (Contains-push_cases w.calls made c there) does) where
        by : (c : Called) → Contains w.calls c ⊎ (made ≡ c) → ((a : Asked) × Contains d.asked a × (a.call.client ≡ replay_id me) × (a.call.thread ≡ t)) ⊎ ((r : Return) × Contains d.returns r × (r.thread ≡ t))
            → BeginsIn (w.requests ++ map (begins_now w) d.asked) (w.returns ++ map (returns_now w me) d.returns) c
        by c (inl there) x = begins-more w.requests _ w.returns _ c (h c there)
        by c (inr same) (inl x) = subst (BeginsIn (w.requests ++ map (begins_now w) d.asked) (w.returns ++ map (returns_now w me) d.returns)) same
            (inl (begins_now w x.0, Contains-append_right w.requests _ (begins_now w x.0) (map-in (begins_now w) d.asked x.0 x.1), sym at, x.2 ∙ ap replay_id (sym mine), x.3 ∙ sym thread))
        by c (inr same) (inr x) = subst (BeginsIn (w.requests ++ map (begins_now w) d.asked) (w.returns ++ map (returns_now w me) d.returns)) same
            (inr (returns_now w me x.0, Contains-append_right w.returns _ (returns_now w me x.0) (map-in (returns_now w me) d.returns x.0 x.1), sym at, sym mine, x.2 ∙ sym thread))

  tick-begun : (me : ClientNo) (ms : ℕ) (w : World) → AllBegun w → AllBegun (moves_if_room me ms w)
  tick-begun me ms w h = either AllBegun (nat_lt (2 ^ 62) ((client_at w me).clock + ms)) _ _ h (does-kept plan AllBegun begun-handed me (tick_client (replay_id me) ms (client_at w me)) (record w { moves = w.moves ++ record { event = w.shown.number; client = me; ms = ms; clock = (client_at w me).clock + ms } ∷ [] }) h)

  begin-begun : (e : Event) (w : World) → AllBegun w → AllBegun (begin plan e w)
  begin-begun (event.Call me t o) w h = either AllBegun (is_client plan me) _ _ (call-begun me t o (thread_at (client_at w me) t).pending w h) h
  begin-begun (event.ClientTick me ms) w h = either AllBegun (is_client plan me) _ _ (tick-begun me ms w h) h
  begin-begun (event.Deliver n) w h = h
  begin-begun (event.Tick m ms) w h = h
  begin-begun (event.Crash m) w h = h
  begin-begun (event.CrashAfter m calls choice) w h = h
  begin-begun (event.Start m) w h = h
  begin-begun event.Open w h = h

  pub all-begun : (events : List Event) (w : World) → AllBegun w → AllBegun (world_after plan w events)
  all-begun [] w h = h
  all-begun (e ∷ events) w h = all-begun events (world_step plan w e) (handed-kept plan AllBegun begun-handed (handed plan (begin plan e (start e w))) (handed-kept plan AllBegun begun-handed (begin plan e (start e w)) (begin-begun e (start e w) h)))
