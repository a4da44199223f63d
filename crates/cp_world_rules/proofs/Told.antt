-- The sessions that clients were told stand printed, and what takes them is told too.
use Rattle.std.proofs.Common.{◌≡◌, ℕ, ◌+◌, ◌<◌, ◌≤◌, ◌⊎◌, inl, inr, Bool, true, false, List, [], ◌∷◌, ◌++◌, Some, None, Option, refl, sym, subst, ap, ◌∙◌, arith, length, map, le_refl, le_trans, append_assoc, if◌then◌else◌}
use Rattle.std.specs.Prelude.{Contains, slice_get, ◌==◌, unsigned_abs}
use Rattle.std.specs.Ordering.{nat_cmp}
use Rattle.std.specs.BTreeMap.{is_at}
use Rattle.std.proofs.lemmas.List.Elements.{Contains-append_cases, Contains-append_left, Contains-append_right}
use Rattle.cp_base.specs.Identifiers.{replay_id}
use Rattle.cp_base.specs.declared.identifier.ClientId.{ClientId}
use Rattle.cp_base.specs.declared.identifier.ClientNo.{ClientNo}
use Rattle.cp_base.specs.declared.identifier.GroupId.{GroupId}
use Rattle.cp_base.specs.declared.identifier.Invocation.{Invocation}
use Rattle.cp_base.specs.declared.identifier.ThreadNo.{ThreadNo}
use Rattle.cp_base.proofs.Tests.{no_false, no_true, none_some, number_itself, same_number, same_some}
use Rattle.cp_answers.specs.declared.answer.Answer.{Answer}
use Rattle.cp_answers.specs.declared.answer.Answer.TheVariants as answer
use Rattle.cp_answers.specs.declared.ended_by.EndedBy.TheVariants as ended_by
use Rattle.cp_object_ops.specs.declared.latch_op.LatchOp.TheVariants as latch
use Rattle.cp_ops.specs.declared.op.Op.{Op}
use Rattle.cp_ops.specs.declared.op.Op.TheVariants as op
use Rattle.cp_ops.specs.declared.session_op.SessionOp.TheVariants as session
use Rattle.cp_events.specs.declared.effects.Effects.{Effects}
use Rattle.cp_events.specs.declared.effects.Ending.TheVariants as ending
use Rattle.cp_events.specs.declared.effects.Opened.{Opened}
use Rattle.cp_events.specs.declared.effects.Return.{Return}
use Rattle.cp_events.specs.declared.event.Event.{Event}
use Rattle.cp_events.specs.declared.plan.Plan.{Plan}
use Rattle.cp_events.specs.declared.user_op.UserOp.{UserOp}
use Rattle.cp_events.specs.declared.user_op.UserOp.TheVariants as user
use Rattle.cp_group_state.specs.Rows.{find, put, without}
use Rattle.cp_group_state.proofs.Walk.{cases, either}
use Rattle.cp_group_causes.proofs.Lists.{at-head, get-contains, map-in, mapped, no-element, one-is}
use Rattle.cp_client_rules.specs.declared.rows.OwnSession.{OwnSession}
use Rattle.cp_client_rules.specs.declared.rows.Pending.{Pending}
use Rattle.cp_client_rules.specs.declared.rows.Purpose.{Purpose}
use Rattle.cp_client_rules.specs.declared.rows.Purpose.TheVariants as purpose
use Rattle.cp_client_rules.specs.declared.rows.Task.{Task}
use Rattle.cp_client_rules.specs.declared.rows.Task.TheVariants as task
use Rattle.cp_client_rules.specs.declared.rows.Thread.{Thread}
use Rattle.cp_client_rules.specs.Asking.{Need, Nothing, HoldingSession, ItsSession, SessionToClose, Round, default_group, group_of, need_of, op_of, wish_of}
use Rattle.cp_client_rules.specs.Answers.{answer_client, call_in, finished, on_pending, on_task, prepared}
use Rattle.cp_client_rules.specs.Calls.{Call, by_need, call_client, closing, deadline_of, go_on, holding_session, in_session, pending_of}
use Rattle.cp_client_rules.specs.Clients.{Client, Did, Sessions, and_then, ask, id_of, nothing, session_in_group, thread_at, with_thread}
use Rattle.cp_client_rules.specs.Holds.{holding}
use Rattle.cp_client_rules.specs.Sessions.{forget_session, forgets, is_session, opens, sessions_after}
use Rattle.cp_client_rules.specs.Ticks.{beat_each, beat_if_due, beats, end_each, end_late, is_due, is_late, own_thread, tick_client, user_threads}
use Rattle.cp_world_rules.specs.Rows.{End, Opening, Request, Returned}
use Rattle.cp_world_rules.specs.Execution.{openings_in}
use Rattle.cp_world_rules.specs.Requests.{needs_session}
use Rattle.cp_world_rules.specs.Returns.{request_of}
use Rattle.cp_world_rules.specs.Sessions.{AllTaken, IsTaken, TakesSession, TellsSession}
use Rattle.cp_world_rules.specs.Sessions as told
use Rattle.cp_world_rules.specs.World.{World, begins_now, client_at, client_of, close, commit, ends_now, ignore, new_world, note, returns_now, start, world_after}
use Rattle.cp_world_rules.proofs.Lists.{get-append, get-left-at, get-map, get-right, get-some, push-none}
use Rattle.cp_world_rules.proofs.Ledgers.{Knows, PurposeOk, ledger_of, return_call}
use Rattle.cp_world_rules.proofs.GroupLaws.{prepares}
use Rattle.cp_world_rules.proofs.Working.{Said, holding-says, itself-plain}
use Rattle.cp_world_rules.proofs.Desks.{replay-same}
use Rattle.cp_world_rules.proofs.Desked.{note-client}
use Rattle.cp_world_rules.proofs.Good.{Given as GivenTo, Good}
use Rattle.cp_world_rules.proofs.Clients.{thread-cases}
use Rattle.cp_world_rules.proofs.Served.{IsServed, all-served}

-- ---- rows of what stands printed as opened

abbrev pub as_opening : ℕ → ClientNo × Opened → Opening
as_opening number o = record { event = number; client = o.0; what = o.1 }

abbrev pub openings : World → List Opening
openings w = openings_in w.effects ++ map (as_opening w.shown.number) w.shown.opened

openings-push : (effects : List Effects) (x : Effects) → openings_in (effects ++ x ∷ []) ≡ openings_in effects ++ map (as_opening x.number) x.opened
openings-push [] x = push-none (map (as_opening x.number) x.opened) [] refl
openings-push (y ∷ effects) x = ap (λ rows. map (as_opening y.number) y.opened ++ rows) (openings-push effects x) ∙ sym (append_assoc (map (as_opening y.number) y.opened) (openings_in effects) (map (as_opening x.number) x.opened))

-- ---- the one session of a client

abbrev pub session_of : Option OwnSession → Sessions
session_of None = []
session_of (Some own) = (1, own) ∷ []

abbrev pub HasId : Option OwnSession → ℕ → Type 0
HasId None s = ⊥
HasId (Some own) s = own.id ≡ s

abbrev pub GroupOk : Task → GroupId → Type 0
GroupOk (task.Calls o) g = g ≡ group_of o
GroupOk (task.Beats s) g = Unit {0}

abbrev pub Groups : Client → Type 0
Groups c = (t : ThreadNo) (now : Pending) → (thread_at c t).pending ≡ Some now → GroupOk now.task now.group

abbrev RowOk : ThreadNo → Thread → Type 0
RowOk t row = (now : Pending) → row.pending ≡ Some now → GroupOk now.task now.group

asks-groups : (c : Client) (t : ThreadNo) (n : ℕ) (p : Pending) → GroupOk p.task p.group → Groups c → Groups (with_thread c t (record { number = n; pending = Some p }))
asks-groups c t n p ok h = thread-cases RowOk c t (record { number = n; pending = Some p }) (λ now e. subst (λ (x : Pending). GroupOk x.task x.group) (same_some e) ok) h

rests-groups : (c : Client) (t : ThreadNo) (n : ℕ) → Groups c → Groups (with_thread c t (record { number = n; pending = None }))
rests-groups c t n h = thread-cases RowOk c t (record { number = n; pending = None }) (λ now e. absurd (none_some e)) h

-- a call that needs something goes to the group `default`
abbrev needs_some : Need → Bool
needs_some Nothing = false
needs_some need = true

in-default : (o : UserOp) → needs_some (need_of o) ≡ true → group_of o ≡ default_group
in-default (user.Group x) e = absurd (no_false e)
in-default (user.Member x) e = absurd (no_false e)
in-default o e = refl

needs-some : (need : Need) → needs_session need ≡ true → needs_some need ≡ true
needs-some Nothing e = e
needs-some need e = refl

-- what forgetting does to the one session
abbrev TakesIt : Answer → ℕ → Type 0
TakesIt a s = (a ≡ answer.SessionExpired s) ⊎ ((d : GroupId) × (a ≡ answer.GroupDestroyed d))

module _ (g : GroupId) (own : OwnSession) where
  abbrev Alternative : Type 0 → Sessions → Type 0
  Alternative why sessions = (sessions ≡ session_of (Some own)) ⊎ ((sessions ≡ session_of None) × why)

  forgets-one : (s : ℕ) (why : Type 0) → (s ≡ own.id → why) → Alternative why (forget_session g s (session_of (Some own)))
  forgets-one s why f = at (is_at (nat_cmp g.0) 1) where
    at : (b : Bool) → Alternative why (if is_session s (if b then Some own else None) then (if b then [] else (1, own) ∷ []) else (1, own) ∷ [])
    at true = cases (Alternative why) (own.id == s) _ _ (λ e. inr (refl, f (sym (same_number own.id s e)))) (λ e. inl refl)
    at false = inl refl

  drops-one : (why : Type 0) → why → Alternative why (without nat_cmp (session_of (Some own)) g.0)
  drops-one why x = either (Alternative why) (is_at (nat_cmp g.0) 1) _ _ (inr (refl, x)) (inl refl)

  forgetting : (a : Answer) → Alternative (TakesIt a own.id) (forgets g a (session_of (Some own)))
  forgetting (answer.SessionExpired s) = forgets-one s (TakesIt (answer.SessionExpired s) own.id) (λ e. inl (ap answer.SessionExpired e))
  forgetting (answer.GroupDestroyed d) = drops-one (TakesIt (answer.GroupDestroyed d) own.id) (inr (d, refl))
  forgetting a = inl refl

none-forgotten : (g : GroupId) (a : Answer) → forgets g a [] ≡ []
none-forgotten g (answer.SessionExpired s) = refl
none-forgotten g (answer.GroupDestroyed d) = refl
none-forgotten g a = refl

none-after : (g : GroupId) (o : UserOp) (p : Purpose) (a : Answer) → sessions_after g o p a [] ≡ []
none-after g (user.CloseSession name) (purpose.ForItself s) answer.Ok = refl
none-after g o p a = none-forgotten g a

-- ---- what a client was told, by the rows so far

-- the session stands printed as opened, by this event
abbrev pub IsPrinted : List Opening → ClientNo → ℕ → ℕ → Type 0
IsPrinted rows me now s = (o : Opening) × Contains rows o × (o.client ≡ me) × (o.what ≡ record { group = default_group; session = s }) × (o.event ≤ now)

abbrev pub PrintedSo : List Opening → ClientNo → ℕ → Option OwnSession → Type 0
PrintedSo rows me now None = Unit {0}
PrintedSo rows me now (Some own) = IsPrinted rows me now own.id

abbrev pub TakenAfter : World → ClientNo → ℕ → ℕ → Type 0
TakenAfter w me s j = (k : ℕ) × (e : End) × (j < k) × (slice_get w.ends k ≡ Some e) × IsTaken w.requests (replay_id me) default_group s e

pub record SeenBy (w : World) (rows : List Opening) (me : ClientNo) (c : Client) : Type 0 where
  pub so : Option OwnSession
  pub sessions : c.sessions ≡ session_of so
  pub printed : PrintedSo rows me w.shown.number so
  pub told : (j s : ℕ) (e : End) → slice_get w.ends j ≡ Some e → TellsSession w.requests (replay_id me) s e → HasId so s ⊎ TakenAfter w me s j
  pub groups : Groups c

-- what an answer Ok of a return rests on: an answer that ended its request, or that each session told before was taken
abbrev pub ClosesRight : World → Returned → Type 0
ClosesRight w r = ((e : End) × Contains w.ends e × (e.event ≡ r.event) × (e.call ≡ request_of r) × (e.answer ≡ answer.Ok))
    ⊎ ((before : List End) × (behind : List End) × (w.ends ≡ before ++ behind) × ((e : End) → Contains behind e → r.event ≤ e.event) × ((j s : ℕ) (told : End) → slice_get before j ≡ Some told → TellsSession w.requests (replay_id r.client) s told
    → (k : ℕ) × (e : End) × (j < k) × (slice_get before k ≡ Some e) × IsTaken w.requests (replay_id r.client) default_group s e))

pub record Seen (w : World) (rows : List Opening) : Type 0 where
  pub clients : (me : ClientNo) → SeenBy w rows me (client_at w me)
  pub printed : (me : ClientNo) (s : ℕ) (e : End) → Contains w.ends e → TellsSession w.requests (replay_id me) s e → IsPrinted rows me e.event s
  pub opened : (o : Opening) → Contains rows o → (e : End) × Contains w.ends e × TellsSession w.requests (replay_id o.client) o.what.session e × (e.event ≡ o.event) × (o.what.group ≡ default_group)
  pub by_now : (r : Returned) → Contains w.returns r → r.event ≤ w.shown.number
  pub closes : (r : Returned) → Contains w.returns r → r.what.ending ≡ ending.Answered answer.Ok → ClosesRight w r

-- ---- what a step of a client does to its session

module _ (w : World) (me : ClientNo) (so : Option OwnSession) (d : Did) where
  abbrev pub TakesNow : ℕ → Type 0
  TakesNow s = (x : Invocation × Answer) × Contains d.ended x × (q : Request) × Contains w.requests q × (q.call ≡ x.0) × TakesSession s q.op x.1

  pub record Serves : Type 0 where
    pub has : Option OwnSession
    pub sessions : d.client.sessions ≡ session_of has
    pub keeps : (s : ℕ) → HasId so s → HasId has s ⊎ TakesNow s
    pub origin : (s : ℕ) → HasId has s → HasId so s ⊎ Contains d.opened (record { group = default_group; session = s })
    pub tells : (x : Invocation × Answer) (q : Request) (s : ℕ) → Contains d.ended x → Contains w.requests q → q.call ≡ x.0 → q.op ≡ op.Session session.Open → x.1 ≡ answer.Session s → HasId has s
    pub opened : (o : Opened) → Contains d.opened o → (o.group ≡ default_group) × ((x : Invocation × Answer) × (q : Request) × Contains d.ended x × Contains w.requests q × (q.call ≡ x.0) × (q.op ≡ op.Session session.Open) × (x.1 ≡ answer.Session o.session))
    pub ended : (x : Invocation × Answer) → Contains d.ended x → (x.0.client ≡ replay_id me) × ((q : Request) × Contains w.requests q × (q.call ≡ x.0))
    pub groups : Groups d.client
    pub closes : (r : Return) → Contains d.returns r → r.ending ≡ ending.Answered answer.Ok → ((x : Invocation × Answer) × Contains d.ended x × (x.0 ≡ return_call me r) × (x.1 ≡ answer.Ok)) ⊎ (so ≡ None)

abbrev of_me : ClientNo → Opened → ClientNo × Opened
of_me me o = (me, o)

module _ (plan : Plan) (w : World) (me : ClientNo) (d : Did) (good : Good plan w) (after : Good plan (note me d w)) (h : Seen w (openings w)) (s : Serves w me (h.clients me).so d) where
  abbrev v : World
  v = note me d w

  abbrev new : List Request
  new = map (begins_now w) d.asked

  abbrev fresh : List End
  fresh = map (ends_now w) d.ended

  rows-more : (o : Opening) → Contains (openings w) o → Contains (openings v) o
  rows-more o there = at (Contains-append_cases (openings_in w.effects) (map (as_opening w.shown.number) w.shown.opened) o there) where
    at : Contains (openings_in w.effects) o ⊎ Contains (map (as_opening w.shown.number) w.shown.opened) o → Contains (openings v) o
    at (inl x) = Contains-append_left (openings_in w.effects) (map (as_opening w.shown.number) (w.shown.opened ++ map (of_me me) d.opened)) o x
    at (inr x) = let p = mapped (as_opening w.shown.number) w.shown.opened o x in
        subst (Contains (openings v)) (sym p.2) (Contains-append_right (openings_in w.effects) (map (as_opening w.shown.number) (w.shown.opened ++ map (of_me me) d.opened)) (as_opening w.shown.number p.0)
        (map-in (as_opening w.shown.number) (w.shown.opened ++ map (of_me me) d.opened) p.0 (Contains-append_left w.shown.opened (map (of_me me) d.opened) p.0 p.1)))

  rows-new : (p : Opened) → Contains d.opened p → Contains (openings v) (record { event = w.shown.number; client = me; what = p })
  rows-new p there = Contains-append_right (openings_in w.effects) (map (as_opening w.shown.number) (w.shown.opened ++ map (of_me me) d.opened)) (record { event = w.shown.number; client = me; what = p })
      (map-in (as_opening w.shown.number) (w.shown.opened ++ map (of_me me) d.opened) (me, p) (Contains-append_right w.shown.opened (map (of_me me) d.opened) (me, p) (map-in (of_me me) d.opened p there)))

  abbrev IsNew : Opening → Type 0
  IsNew o = (p : Opened) × Contains d.opened p × (o ≡ record { event = w.shown.number; client = me; what = p })

  rows-split : (o : Opening) → Contains (openings v) o → Contains (openings w) o ⊎ IsNew o
  rows-split o there = at (Contains-append_cases (openings_in w.effects) (map (as_opening w.shown.number) (w.shown.opened ++ map (of_me me) d.opened)) o there) where
    by : (p : ClientNo × Opened) → o ≡ as_opening w.shown.number p → Contains w.shown.opened p ⊎ Contains (map (of_me me) d.opened) p → Contains (openings w) o ⊎ IsNew o
    by p e (inl x) = inl (subst (Contains (openings w)) (sym e) (Contains-append_right (openings_in w.effects) (map (as_opening w.shown.number) w.shown.opened) (as_opening w.shown.number p) (map-in (as_opening w.shown.number) w.shown.opened p x)))
    by p e (inr x) = let q = mapped (of_me me) d.opened p x in inr (q.0, q.1, e ∙ ap (as_opening w.shown.number) q.2)

    at : Contains (openings_in w.effects) o ⊎ Contains (map (as_opening w.shown.number) (w.shown.opened ++ map (of_me me) d.opened)) o → Contains (openings w) o ⊎ IsNew o
    at (inl x) = inl (Contains-append_left (openings_in w.effects) (map (as_opening w.shown.number) w.shown.opened) o x)
    at (inr x) = let p = mapped (as_opening w.shown.number) (w.shown.opened ++ map (of_me me) d.opened) o x in by p.0 p.2 (Contains-append_cases w.shown.opened (map (of_me me) d.opened) p.0 p.1)

  -- requests
  one-request : (r q : Request) → Contains (w.requests ++ new) r → Contains (w.requests ++ new) q → r.call ≡ q.call → r ≡ q
  one-request r q in_r in_q e = let j = get-some (w.requests ++ new) r in_r in let k = get-some (w.requests ++ new) q in_q in
      same_some (sym j.1 ∙ (ap (slice_get (w.requests ++ new)) (after.distinct j.0 k.0 r q j.1 k.1 e) ∙ k.1))

  abbrev IsAskedFor : Invocation → Type 0
  IsAskedFor call = (q : Request) × Contains w.requests q × (q.call ≡ call)

  older : (cl : ClientId) (s : ℕ) (e : End) → IsAskedFor e.call → TellsSession (w.requests ++ new) cl s e → TellsSession w.requests cl s e
  older cl s e q t = record { request = q.0; began = q.1; of_request = q.2; by_client = t.by_client; opens = ap (λ (z : Request). z.op) (one-request q.0 t.request (Contains-append_left w.requests new q.0 q.1) t.began (q.2 ∙ sym t.of_request)) ∙ t.opens; says = t.says }

  asked-old : (e : End) → Contains w.ends e → IsAskedFor e.call
  asked-old e there = let a = good.ends e there in (a.entered.request, a.entered.begun, a.entered.mine)

  tells-on : (cl : ClientId) (s : ℕ) (e : End) → TellsSession w.requests cl s e → TellsSession (w.requests ++ new) cl s e
  tells-on cl s e t = record { request = t.request; began = Contains-append_left w.requests new t.request t.began; of_request = t.of_request; by_client = t.by_client; opens = t.opens; says = t.says }

  taken-on : (cl : ClientId) (g : GroupId) (s : ℕ) (e : End) → IsTaken w.requests cl g s e → IsTaken (w.requests ++ new) cl g s e
  taken-on cl g s e t = record { request = t.request; began = Contains-append_left w.requests new t.request t.began; of_request = t.of_request; by_client = t.by_client; in_group = t.in_group; takes = t.takes }

  after-on : (x : ClientNo) (s j : ℕ) → TakenAfter w x s j → TakenAfter v x s j
  after-on x s j t = (t.0, t.1, t.2, get-left-at w.ends fresh t.0 t.1 t.3, taken-on (replay_id x) default_group s t.1 t.4)

  printed-on : (x : ClientNo) (now s : ℕ) → IsPrinted (openings w) x now s → IsPrinted (openings v) x now s
  printed-on x now s p = (p.0, rows-more p.0 p.1, p.2, p.3, p.4)

  so-on : (x : ClientNo) (so : Option OwnSession) → PrintedSo (openings w) x w.shown.number so → PrintedSo (openings v) x w.shown.number so
  so-on x None p = tt
  so-on x (Some own) p = printed-on x w.shown.number own.id p

  -- an end of this step
  taken-now : (t : ℕ) (j : ℕ) → j < length w.ends → TakesNow w me (h.clients me).so d t → TakenAfter v me t j
  taken-now t j l x = let e = ends_now w x.0 in let i = get-some fresh (ends_now w x.0) (map-in (ends_now w) d.ended x.0 x.1) in (
    length w.ends + i.0,
    ends_now w x.0,
    omega (arith, l),
    get-right w.ends fresh i.0 (length w.ends + i.0) (ends_now w x.0) refl i.1,
    record { request = x.2; began = Contains-append_left w.requests new x.2 x.3; of_request = x.4; by_client = (s.ended x.0 x.1).0; in_group = refl; takes = x.5 },
  )

  has-printed : (so : Option OwnSession) (t : ℕ) → PrintedSo (openings w) me w.shown.number so → HasId so t → IsPrinted (openings w) me w.shown.number t
  has-printed None t p has = absurd has
  has-printed (Some own) t p has = subst (IsPrinted (openings w) me w.shown.number) has p

  mine-printed : (t : ℕ) → HasId s.has t → IsPrinted (openings v) me w.shown.number t
  mine-printed t has = at (s.origin t has) where
    at : HasId (h.clients me).so t ⊎ Contains d.opened (record { group = default_group; session = t }) → IsPrinted (openings v) me w.shown.number t
    at (inl old) = printed-on me w.shown.number t (has-printed (h.clients me).so t (h.clients me).printed old)
    at (inr there) = (record { event = w.shown.number; client = me; what = record { group = default_group; session = t } }, rows-new (record { group = default_group; session = t }) there, refl, refl, le_refl w.shown.number)

  mine-so : (has : Option OwnSession) → s.has ≡ has → PrintedSo (openings v) me w.shown.number has
  mine-so None e = tt
  mine-so (Some own) e = mine-printed own.id (subst (λ o. HasId o own.id) (sym e) refl)

  -- what an end of this step tells
  tells-new : (x : Invocation × Answer) (t : ℕ) → Contains d.ended x → TellsSession (w.requests ++ new) (replay_id me) t (ends_now w x) → HasId s.has t
  tells-new x t there tells = let o = older (replay_id me) t (ends_now w x) (s.ended x there).1 tells in s.tells x o.request t there o.began o.of_request o.opens o.says

  not-mine : (y : ClientNo) (x : Invocation × Answer) → Contains d.ended x → x.0.client ≡ replay_id y → y ≡ me
  not-mine y x there e = replay-same y me (sym e ∙ (s.ended x there).0)

  mine-seen : SeenBy v (openings v) me d.client
  mine-seen = record { so = s.has; sessions = s.sessions; printed = mine-so s.has refl; told = λ j t e at tells. told j t e tells (get-append w.ends fresh j e at); groups = s.groups } where
    still : (j t : ℕ) → j < length w.ends → HasId (h.clients me).so t ⊎ TakenAfter w me t j → HasId s.has t ⊎ TakenAfter v me t j
    still j t l (inr x) = inr (after-on me t j x)
    still j t l (inl x) = by (s.keeps t x) where
      by : HasId s.has t ⊎ TakesNow w me (h.clients me).so d t → HasId s.has t ⊎ TakenAfter v me t j
      by (inl y) = inl y
      by (inr y) = inr (taken-now t j l y)

    told : (j t : ℕ) (e : End) → TellsSession (w.requests ++ new) (replay_id me) t e → ((slice_get w.ends j ≡ Some e) × (j < length w.ends)) ⊎ ((i : ℕ) × (j ≡ length w.ends + i) × (slice_get fresh i ≡ Some e)) → HasId s.has t ⊎ TakenAfter v me t j
    told j t e tells (inl x) = still j t x.1 ((h.clients me).told j t e x.0 (older (replay_id me) t e (asked-old e (get-contains w.ends j e x.0)) tells))
    told j t e tells (inr x) = let y = get-map (ends_now w) d.ended x.0 e x.2 in inl (tells-new y.0 t (get-contains d.ended x.0 y.0 y.1) (subst (TellsSession (w.requests ++ new) (replay_id me) t) y.2 tells))

  others-seen : (y : ClientNo) → (y ≡ me → ⊥) → SeenBy v (openings v) y (client_at w y)
  others-seen y off = let c = h.clients y in record { so = c.so; sessions = c.sessions; printed = so-on y c.so c.printed; told = λ j t e at tells. told j t e tells (get-append w.ends fresh j e at); groups = c.groups } where
    still : (j t : ℕ) → HasId (h.clients y).so t ⊎ TakenAfter w y t j → HasId (h.clients y).so t ⊎ TakenAfter v y t j
    still j t (inl x) = inl x
    still j t (inr x) = inr (after-on y t j x)

    told : (j t : ℕ) (e : End) → TellsSession (w.requests ++ new) (replay_id y) t e → ((slice_get w.ends j ≡ Some e) × (j < length w.ends)) ⊎ ((i : ℕ) × (j ≡ length w.ends + i) × (slice_get fresh i ≡ Some e)) → HasId (h.clients y).so t ⊎ TakenAfter v y t j
    told j t e tells (inl x) = still j t ((h.clients y).told j t e x.0 (older (replay_id y) t e (asked-old e (get-contains w.ends j e x.0)) tells))
    told j t e tells (inr x) = let z = get-map (ends_now w) d.ended x.0 e x.2 in absurd (off (not-mine y z.0 (get-contains d.ended x.0 z.0 z.1) (ap (λ (i : End). i.call.client) (sym z.2) ∙ tells.by_client)))

  all-printed : (x : ClientNo) (t : ℕ) (e : End) → TellsSession (w.requests ++ new) (replay_id x) t e → Contains w.ends e ⊎ Contains fresh e → IsPrinted (openings v) x e.event t
  all-printed x t e tells (inl there) = printed-on x e.event t (h.printed x t e there (older (replay_id x) t e (asked-old e there) tells))
  all-printed x t e tells (inr there) = let y = mapped (ends_now w) d.ended e there in
      let is_me : x ≡ me = not-mine x y.0 y.1 (ap (λ (i : End). i.call.client) (sym y.2) ∙ tells.by_client) in
      subst (λ z. IsPrinted (openings v) z e.event t) (sym is_me) (subst (λ (i : End). IsPrinted (openings v) me i.event t) (sym y.2)
      (mine-printed t (tells-new y.0 t y.1 (subst (TellsSession (w.requests ++ new) (replay_id me) t) y.2 (subst (λ z. TellsSession (w.requests ++ new) (replay_id z) t e) is_me tells)))))

  abbrev IsOpenedSo : Opening → Type 0
  IsOpenedSo o = (e : End) × Contains (w.ends ++ fresh) e × TellsSession (w.requests ++ new) (replay_id o.client) o.what.session e × (e.event ≡ o.event) × (o.what.group ≡ default_group)

  all-opened : (o : Opening) → Contains (openings w) o ⊎ IsNew o → IsOpenedSo o
  all-opened o (inl there) = let x = h.opened o there in (x.0, Contains-append_left w.ends fresh x.0 x.1, tells-on (replay_id o.client) o.what.session x.0 x.2, x.3, x.4)
  all-opened o (inr p) = let y = s.opened p.0 p.1 in let z = y.1 in subst IsOpenedSo (sym p.2) (
    ends_now w z.0,
    Contains-append_right w.ends fresh (ends_now w z.0) (map-in (ends_now w) d.ended z.0 z.2),
    record { request = z.1; began = Contains-append_left w.requests new z.1 z.3; of_request = z.4; by_client = (s.ended z.0 z.2).0; opens = z.5; says = z.6 },
    refl,
    y.0,
  )

  -- returns
  closes-on : (r : Returned) → r.event ≤ w.shown.number → ClosesRight w r → ClosesRight v r
  closes-on r l (inl x) = inl (x.0, Contains-append_left w.ends fresh x.0 x.1, x.2, x.3, x.4)
  closes-on r l (inr x) = inr (x.0, x.1 ++ fresh, ap (λ rows. rows ++ fresh) x.2 ∙ append_assoc x.0 x.1 fresh, λ e there. later e (Contains-append_cases x.1 fresh e there), λ j t told at tells. taken j t told at tells) where
    later : (e : End) → Contains x.1 e ⊎ Contains fresh e → r.event ≤ e.event
    later e (inl there) = x.3 e there
    later e (inr there) = let y = mapped (ends_now w) d.ended e there in subst (λ (i : End). r.event ≤ i.event) (sym y.2) l

    taken : (j t : ℕ) (told : End) → slice_get x.0 j ≡ Some told → TellsSession (w.requests ++ new) (replay_id r.client) t told → (k : ℕ) × (e : End) × (j < k) × (slice_get x.0 k ≡ Some e) × IsTaken (w.requests ++ new) (replay_id r.client) default_group t e
    taken j t told at tells = let there = subst (λ rows. Contains rows told) (sym x.2) (Contains-append_left x.0 x.1 told (get-contains x.0 j told at)) in
        let y = x.4 j t told at (older (replay_id r.client) t told (asked-old told there) tells) in (y.0, y.1, y.2, y.3, taken-on (replay_id r.client) default_group t y.1 y.4)

  closes-new : (r : Return) → ((x : Invocation × Answer) × Contains d.ended x × (x.0 ≡ return_call me r) × (x.1 ≡ answer.Ok)) ⊎ ((h.clients me).so ≡ None) → ClosesRight v (returns_now w me r)
  closes-new r (inl x) = inl (ends_now w x.0, Contains-append_right w.ends fresh (ends_now w x.0) (map-in (ends_now w) d.ended x.0 x.1), refl, x.2, x.3)
  closes-new r (inr none) = inr (w.ends, fresh, refl, λ e there. (let y = mapped (ends_now w) d.ended e there in subst (λ (i : End). w.shown.number ≤ i.event) (sym y.2) (le_refl w.shown.number)), λ j t told at tells. taken j t told at tells) where
    by : (j t : ℕ) → HasId (h.clients me).so t ⊎ TakenAfter w me t j → TakenAfter w me t j
    by j t (inl x) = absurd (subst (λ o. HasId o t) none x)
    by j t (inr x) = x

    taken : (j t : ℕ) (told : End) → slice_get w.ends j ≡ Some told → TellsSession (w.requests ++ new) (replay_id me) t told → (k : ℕ) × (e : End) × (j < k) × (slice_get w.ends k ≡ Some e) × IsTaken (w.requests ++ new) (replay_id me) default_group t e
    taken j t told at tells = let y = by j t ((h.clients me).told j t told at (older (replay_id me) t told (asked-old told (get-contains w.ends j told at)) tells)) in (y.0, y.1, y.2, y.3, taken-on (replay_id me) default_group t y.1 y.4)

  returns-now : (r : Returned) → Contains w.returns r ⊎ Contains (map (returns_now w me) d.returns) r → r.event ≤ w.shown.number
  returns-now r (inl there) = h.by_now r there
  returns-now r (inr there) = let y = mapped (returns_now w me) d.returns r there in subst (λ (z : Returned). z.event ≤ w.shown.number) (sym y.2) (le_refl w.shown.number)

  all-closes : (r : Returned) → Contains w.returns r ⊎ Contains (map (returns_now w me) d.returns) r → r.what.ending ≡ ending.Answered answer.Ok → ClosesRight v r
  all-closes r (inl there) ok = closes-on r (h.by_now r there) (h.closes r there ok)
  all-closes r (inr there) ok = let y = mapped (returns_now w me) d.returns r there in subst (ClosesRight v) (sym y.2) (closes-new y.0 (s.closes y.0 y.1 (ap (λ (z : Returned). z.what.ending) (sym y.2) ∙ ok)))

  pub note-seen : Seen v (openings v)
  note-seen = record {
    clients = note-client plan w me d (λ y c. SeenBy v (openings v) y c) mine-seen others-seen;
    printed = λ x t e there tells. all-printed x t e tells (Contains-append_cases w.ends fresh e there);
    opened = λ o there. all-opened o (rows-split o there);
    by_now = λ r there. returns-now r (Contains-append_cases w.returns (map (returns_now w me) d.returns) r there);
    closes = λ r there ok. all-closes r (Contains-append_cases w.returns (map (returns_now w me) d.returns) r there) ok;
  }

-- ---- steps that leave the session as it is

module _ (so : Option OwnSession) where
  pub record Quiet (d : Did) : Type 0 where
    pub has : Option OwnSession
    pub sessions : d.client.sessions ≡ session_of has
    pub same : (s : ℕ) → HasId so s → HasId has s
    pub back : (s : ℕ) → HasId has s → HasId so s
    pub ended : d.ended ≡ []
    pub opened : d.opened ≡ []
    pub groups : Groups d.client
    pub returns : (r : Return) → Contains d.returns r → r.ending ≡ ending.Answered answer.Ok → ⊥

  quiet-serves : (w : World) (me : ClientNo) (d : Did) → Quiet d → Serves w me so d
  quiet-serves w me d q = record {
    has = q.has;
    sessions = q.sessions;
    keeps = λ s x. inl (q.same s x);
    origin = λ s x. inl (q.back s x);
    tells = λ x r s there. absurd (no-element x (subst (λ rows. Contains rows x) q.ended there));
    opened = λ o there. absurd (no-element o (subst (λ rows. Contains rows o) q.opened there));
    ended = λ x there. absurd (no-element x (subst (λ rows. Contains rows x) q.ended there));
    groups = q.groups;
    closes = λ r there ok. absurd (q.returns r there ok);
  }

  still-quiet : (c : Client) → c.sessions ≡ session_of so → Groups c → Quiet (nothing c)
  still-quiet c e g = record { has = so; sessions = e; same = λ s x. x; back = λ s x. x; ended = refl; opened = refl; groups = g; returns = λ r there. absurd (no-element r there) }

  ask-quiet : (me : ClientId) (t : ThreadNo) (p : Pending) (o : Op) (c : Client) → c.sessions ≡ session_of so → Groups c → GroupOk p.task p.group → Quiet (ask me t p o c)
  ask-quiet me t p o c e g ok = record { has = so; sessions = e; same = λ s x. x; back = λ s x. x; ended = refl; opened = refl; groups = asks-groups c t ((thread_at c t).number + 1) p ok g; returns = λ r there. absurd (no-element r there) }

then-quiet : (so : Option OwnSession) (d : Did) (f : Client → Did) → (x : Quiet so d) → Quiet x.has (f d.client) → Quiet so (and_then d f)
then-quiet so d f x y = record {
  has = y.has;
  sessions = y.sessions;
  same = λ s k. y.same s (x.same s k);
  back = λ s k. x.back s (y.back s k);
  ended = rw (x.ended, y.ended);
  opened = rw (x.opened, y.opened);
  groups = y.groups;
  returns = λ r there. both r (Contains-append_cases d.returns (f d.client).returns r there);
}
  where
    both : (r : Return) → Contains d.returns r ⊎ Contains (f d.client).returns r → r.ending ≡ ending.Answered answer.Ok → ⊥
    both r (inl there) ok = x.returns r there ok
    both r (inr there) ok = y.returns r there ok

-- a call that goes on
module _ (plan : Plan) (me : ClientNo) (call : Call) (right : call.group ≡ group_of call.op) (so : Option OwnSession) (c : Client) (e : c.sessions ≡ session_of so) (g : Groups c) where
  itself-quiet : (s round : ℕ) → Quiet so (ask (replay_id me) call.thread (pending_of call (purpose.ForItself s)) (op_of plan call.op s round) c)
  itself-quiet s round = ask-quiet so (replay_id me) call.thread (pending_of call (purpose.ForItself s)) (op_of plan call.op s round) c e g right

  session-quiet : (x : Option ℕ) → Quiet so (in_session plan (replay_id me) call x c)
  session-quiet None = ask-quiet so (replay_id me) call.thread (pending_of call purpose.ForSession) (op.Session session.Open) c e g right
  session-quiet (Some s) = itself-quiet s 0

  needing-quiet : (need : Need) → needs_session need ≡ true → Quiet so (by_need plan (replay_id me) need call c)
  needing-quiet Nothing n = itself-quiet 0 0
  needing-quiet (HoldingSession name) n = session-quiet (holding_session call name c)
  needing-quiet ItsSession n = session-quiet (session_in_group c call.group)
  needing-quiet SessionToClose n = absurd (no_false n)
  needing-quiet (Round name) n = absurd (no_false n)

  none-there : (o : Option OwnSession) → id_of (find nat_cmp (session_of o) 1) ≡ None → o ≡ None
  none-there None x = refl
  none-there (Some own) x = absurd (none_some (sym x))

  closing-serves : (w : World) (x : Option ℕ) → session_in_group c default_group ≡ x → Serves w me so (closing plan (replay_id me) call x c)
  closing-serves w (Some s) is = quiet-serves so w me (ask (replay_id me) call.thread (pending_of call (purpose.ForItself s)) (op_of plan call.op s 0) c) (itself-quiet s 0)
  closing-serves w None is = record {
    has = so;
    sessions = e;
    keeps = λ s x. inl x;
    origin = λ s x. inl x;
    tells = λ x r s there. absurd (no-element x there);
    opened = λ o there. absurd (no-element o there);
    ended = λ x there. absurd (no-element x there);
    groups = rests-groups c call.thread ((thread_at c call.thread).number + 1) g;
    closes = λ r there ok. inr (none-there so (subst (λ rows. id_of (find nat_cmp rows 1) ≡ None) e is));
  }

  need-serves : (w : World) (need : Need) → need_of call.op ≡ need → Serves w me so (by_need plan (replay_id me) need call c)
  need-serves w Nothing is = quiet-serves so w me (by_need plan (replay_id me) Nothing call c) (itself-quiet 0 0)
  need-serves w (HoldingSession name) is = quiet-serves so w me (by_need plan (replay_id me) (HoldingSession name) call c) (session-quiet (holding_session call name c))
  need-serves w ItsSession is = quiet-serves so w me (by_need plan (replay_id me) ItsSession call c) (session-quiet (session_in_group c call.group))
  need-serves w SessionToClose is = subst (λ n. Serves w me so (closing plan (replay_id me) call (session_in_group c n) c)) (sym (right ∙ in-default call.op (ap needs_some is))) (closing-serves w (session_in_group c default_group) refl)
  need-serves w (Round name) is = quiet-serves so w me (by_need plan (replay_id me) (Round name) call c) (ask-quiet so (replay_id me) call.thread (pending_of call purpose.ForRound) _ c e g right)

call-seen : (plan : Plan) (me : ClientNo) (t : ThreadNo) (o : UserOp) (w : World) → Good plan w → Good plan (note me (call_client plan (replay_id me) t o (client_at w me)) w) → Seen w (openings w)
    → Seen (note me (call_client plan (replay_id me) t o (client_at w me)) w) (openings (note me (call_client plan (replay_id me) t o (client_at w me)) w))
call-seen plan me t o w good after h = let b = h.clients me in note-seen plan w me (call_client plan (replay_id me) t o (client_at w me)) good after h
    (need-serves plan me (record { thread = t; group = group_of o; op = o; deadline = deadline_of (client_at w me).clock (wish_of o) }) refl b.so (client_at w me) b.sessions b.groups w (need_of o) refl)

-- a tick
late-ok : ending.Answered (answer.Indeterminate ended_by.Deadline) ≡ ending.Answered answer.Ok → ⊥
late-ok e = cc

late-quiet : (so : Option OwnSession) (t : ThreadNo) (c : Client) → c.sessions ≡ session_of so → Groups c → Quiet so (end_late t c)
late-quiet so t c e g = either (Quiet so) (is_late c.clock (thread_at c t).pending) _ _
    (record { has = so; sessions = e; same = λ s x. x; back = λ s x. x; ended = refl; opened = refl; groups = rests-groups c t (thread_at c t).number g; returns = λ r there ok. late-ok (sym (ap (λ (z : Return). z.ending) (one-is (record { thread = t; number = (thread_at c t).number; ending = ending.Answered (answer.Indeterminate ended_by.Deadline) }) r there)) ∙ ok) })
    (still-quiet so c e g)

each-quiet : (so : Option OwnSession) (ts : List ThreadNo) (c : Client) → c.sessions ≡ session_of so → Groups c → Quiet so (end_each ts c)
each-quiet so [] c e g = still-quiet so c e g
each-quiet so (t ∷ ts) c e g = let x = late-quiet so t c e g in then-quiet so (end_late t c) (end_each ts) x (each-quiet x.has ts (end_late t c).client x.sessions x.groups)

put-one : (so : Option OwnSession) (x : OwnSession) → put nat_cmp (session_of so) 1 x ≡ session_of (Some x)
put-one None x = refl
put-one (Some own) x = refl

beat-quiet : (me : ClientNo) (own : OwnSession) (c : Client) → c.sessions ≡ session_of (Some own) → Groups c → Quiet (Some own) (beat_if_due (replay_id me) 1 own c)
beat-quiet me own c e g = either (Quiet (Some own)) (is_due own c) _ _ (record {
  has = Some (record { id = own.id; beat = c.clock });
  sessions = ap (λ rows. put nat_cmp rows 1 (record { id = own.id; beat = c.clock })) e ∙ put-one (Some own) (record { id = own.id; beat = c.clock });
  same = λ s x. x;
  back = λ s x. x;
  ended = refl;
  opened = refl;
  groups = asks-groups (record c { sessions = put nat_cmp c.sessions 1 (record { id = own.id; beat = c.clock }) }) own_thread ((thread_at c own_thread).number + 1)
      (record { group = record { 0 = 1 }; task = task.Beats own.id; purpose = purpose.ForItself own.id; deadline = None }) tt g;
  returns = λ r there. absurd (no-element r there);
}) (still-quiet (Some own) c e g)

beats-quiet : (me : ClientNo) (so : Option OwnSession) (c : Client) → c.sessions ≡ session_of so → Groups c → Quiet so (beat_each (replay_id me) (session_of so) c)
beats-quiet me None c e g = still-quiet None c e g
beats-quiet me (Some own) c e g = let x = beat-quiet me own c e g in then-quiet (Some own) (beat_if_due (replay_id me) 1 own c) (beat_each (replay_id me) []) x (still-quiet x.has (beat_if_due (replay_id me) 1 own c).client x.sessions x.groups)

tick-seen : (plan : Plan) (me : ClientNo) (ms : ℕ) (w : World) → Good plan w → Good plan (note me (tick_client (replay_id me) ms (client_at w me)) w) → Seen w (openings w)
    → Seen (note me (tick_client (replay_id me) ms (client_at w me)) w) (openings (note me (tick_client (replay_id me) ms (client_at w me)) w))
tick-seen plan me ms w good after h = let b = h.clients me in note-seen plan w me (tick_client (replay_id me) ms (client_at w me)) good after h
    (quiet-serves b.so w me (tick_client (replay_id me) ms (client_at w me)) (quiet b.so (record (client_at w me) { clock = (client_at w me).clock + ms }) b.sessions b.groups))
  where
    quiet : (so : Option OwnSession) (c : Client) → c.sessions ≡ session_of so → Groups c → Quiet so (and_then (end_each user_threads c) (beats (replay_id me)))
    quiet so c e g = let x = each-quiet so user_threads c e g in then-quiet so (end_each user_threads c) (beats (replay_id me)) x
        (subst (λ rows. Quiet x.has (beat_each (replay_id me) rows (end_each user_threads c).client)) (sym x.sessions) (beats-quiet me x.has (end_each user_threads c).client x.sessions x.groups))

-- ---- an answer

module _ (plan : Plan) (w : World) (request : Invocation) (a : Answer) (good : Good plan w) (given : GivenTo w request a) (h : Seen w (openings w)) where
  abbrev c : Client
  c = client_at w (client_of request)

  abbrev so : Option OwnSession
  so = (h.clients (client_of request)).so

  of-client : request.client ≡ replay_id (client_of request)
  of-client = let e = given.answered.entered in subst (λ (x : Invocation). x.client ≡ replay_id (client_of x)) e.mine (good.clients_are e.request e.begun)

  abbrev q : Request
  q = given.answered.entered.request

  same-op : (r : Request) (o : Op) → Contains w.requests r → r.call ≡ request → Knows (ledger_of w) request o → r.op ≡ o
  same-op r o there same k = let i = get-some w.requests r there in let j = get-some w.requests k.0 k.1 in
      let p : i.0 ≡ j.0 = good.distinct i.0 j.0 r k.0 i.1 j.1 (same ∙ sym k.2) in ap (λ (z : Request). z.op) (same_some (sym i.1 ∙ (ap (slice_get w.requests) p ∙ j.1))) ∙ k.3

  -- the step that an answer to a pending request is
  abbrev mine : Did → Did
  mine d = record d { ended = (request, a) ∷ [] }

  ended-by : (x : Invocation × Answer) → Contains ((request, a) ∷ []) x → (x.0.client ≡ replay_id (client_of request)) × ((r : Request) × Contains w.requests r × (r.call ≡ x.0))
  ended-by x there = let e = ap (λ (z : Invocation × Answer). z.0) (one-is (request, a) x there) in
      (ap (λ (z : Invocation). z.client) e ∙ of-client, (given.answered.entered.request, given.answered.entered.begun, given.answered.entered.mine ∙ sym e))

  abbrev NoSession : Type 0
  NoSession = (r : Request) (s : ℕ) → Contains w.requests r → r.call ≡ request → r.op ≡ op.Session session.Open → a ≡ answer.Session s → ⊥

  none-told : NoSession → (has : Option OwnSession) (x : Invocation × Answer) (r : Request) (s : ℕ) → Contains ((request, a) ∷ []) x → Contains w.requests r → r.call ≡ x.0 → r.op ≡ op.Session session.Open → x.1 ≡ answer.Session s → HasId has s
  none-told never has x r s there in_r same opened_is says = let e = one-is (request, a) x there in
      absurd (never r s in_r (same ∙ ap (λ (z : Invocation × Answer). z.0) e) opened_is (ap (λ (z : Invocation × Answer). z.1) (sym e) ∙ says))

  -- the session stays
  quiet-ends : (d : Did) → NoSession → Quiet so d → Serves w (client_of request) so (mine d)
  quiet-ends d never x = record {
    has = x.has;
    sessions = x.sessions;
    keeps = λ s k. inl (x.same s k);
    origin = λ s k. inl (x.back s k);
    tells = none-told never x.has;
    opened = λ o there. absurd (no-element o (subst (λ rows. Contains rows o) x.opened there));
    ended = ended-by;
    groups = x.groups;
    closes = λ r there ok. absurd (x.returns r there ok);
  }

  -- no other purpose asks for a session
  no-open : (o : Op) → prepares o ≡ false → o ≡ op.Session session.Open → ⊥
  no-open o plain e = no_true (ap prepares (sym e) ∙ plain)

  latch-open : {name : List ℕ} → op.Latch name latch.Round ≡ op.Session session.Open → ⊥
  latch-open e = cc

  beat-open : {s : ℕ} → op.Session (session.Beat s) ≡ op.Session session.Open → ⊥
  beat-open e = cc

  session-same : {x y : ℕ} → answer.Session x ≡ answer.Session y → x ≡ y
  session-same e = cc

  abbrev fits : Purpose → Answer → Bool
  fits purpose.ForSession (answer.Session s) = true
  fits p x = false

  no-session : (o : UserOp) (p : Purpose) → PurposeOk plan (ledger_of w) (client_of request) request (task.Calls o) p → fits p a ≡ false → NoSession
  no-session o purpose.ForSession ok f r s in_r same opens says = no_true (sym (ap (fits purpose.ForSession) says) ∙ f)
  no-session o purpose.ForRound ok f r s in_r same opens says = latch-open (sym (same-op r (op.Latch ok.0.name latch.Round) in_r same ok.2) ∙ opens)
  no-session o (purpose.ForItself n) ok f r s in_r same opens says = no-open (op_of plan o n ok.0.0) (itself-plain plan o n ok.0.0) (sym (same-op r (op_of plan o n ok.0.0) in_r same ok.0.1) ∙ opens)

  -- a session more
  is-it : (s : ℕ) (o : Option OwnSession) → is_session s (find nat_cmp (session_of o) 1) ≡ true → HasId o s
  is-it s None e = no_false e
  is-it s (Some own) e = same_number own.id s e

  not-it : (s : ℕ) (o : Option OwnSession) → is_session s (find nat_cmp (session_of o) 1) ≡ false → HasId o s → ⊥
  not-it s None e x = x
  not-it s (Some own) e x = no_true (sym (number_itself s) ∙ subst (λ n. (n == s) ≡ false) x e)

  module _ (now : Pending) (o : UserOp) (s : ℕ) (ok : PurposeOk plan (ledger_of w) (client_of request) request (task.Calls o) purpose.ForSession) (is : a ≡ answer.Session s) (right : now.group ≡ group_of o) where
    abbrev call : Call
    call = call_in request now o

    abbrev new_own : OwnSession
    new_own = record { id = s; beat = (client_at w (client_of request)).clock }

    abbrev with_new : Client
    with_new = record (client_at w (client_of request)) { sessions = put nat_cmp (client_at w (client_of request)).sessions now.group.0 (record { id = s; beat = (client_at w (client_of request)).clock }) }

    g_is : now.group ≡ default_group
    g_is = right ∙ in-default o (needs-some (need_of o) ok.0)

    q-opens : q.op ≡ op.Session session.Open
    q-opens = same-op q (op.Session session.Open) given.answered.entered.begun given.answered.entered.mine ok.1

    tells-this : (has : Option OwnSession) → HasId has s → (x : Invocation × Answer) (r : Request) (t : ℕ) → Contains ((request, a) ∷ []) x → Contains w.requests r → r.call ≡ x.0 → r.op ≡ op.Session session.Open → x.1 ≡ answer.Session t → HasId has t
    tells-this has k x r t there in_r same opens says = subst (HasId has) (session-same (sym is ∙ (ap (λ (z : Invocation × Answer). z.1) (sym (one-is (request, a) x there)) ∙ says))) k

    put-new : put nat_cmp c.sessions now.group.0 new_own ≡ session_of (Some new_own)
    put-new = ap (λ rows. put nat_cmp rows now.group.0 new_own) (h.clients (client_of request)).sessions ∙ (ap (λ (g : GroupId). put nat_cmp (session_of so) g.0 new_own) g_is ∙ put-one so new_own)

    seen-at : (b : Bool) → is_session s (find nat_cmp c.sessions now.group.0) ≡ b → is_session s (find nat_cmp (session_of so) 1) ≡ b
    seen-at b e = subst (λ rows. is_session s (find nat_cmp rows 1) ≡ b) (h.clients (client_of request)).sessions (subst (λ (g : GroupId). is_session s (find nat_cmp c.sessions g.0) ≡ b) g_is e)

    opening-serves : (b : Bool) → is_session s (find nat_cmp c.sessions now.group.0) ≡ b
        → Serves w (client_of request) so (mine (record (go_on plan (replay_id (client_of request)) call (if b then c else with_new)) { opened = if b then [] else record { group = now.group; session = s } ∷ [] }))
    opening-serves true e = let x = needing-quiet plan (client_of request) call right so c (h.clients (client_of request)).sessions (h.clients (client_of request)).groups (need_of o) ok.0 in record {
      has = x.has;
      sessions = x.sessions;
      keeps = λ t k. inl (x.same t k);
      origin = λ t k. inl (x.back t k);
      tells = tells-this x.has (x.same s (is-it s so (seen-at true e)));
      opened = λ p there. absurd (no-element p there);
      ended = ended-by;
      groups = x.groups;
      closes = λ r there good_end. absurd (x.returns r there good_end);
    }
    opening-serves false e = let x = needing-quiet plan (client_of request) call right (Some new_own) with_new put-new (h.clients (client_of request)).groups (need_of o) ok.0 in record {
      has = x.has;
      sessions = x.sessions;
      keeps = λ t k. inr ((request, a), at-head (request, a) [], q, given.answered.entered.begun, given.answered.entered.mine, told.replaced s q-opens is (λ same. not-it s so (seen-at false e) (subst (HasId so) (sym same) k)));
      origin = λ t k. inr (subst (Contains (record { group = now.group; session = s } ∷ [])) (opened-is t (x.back t k)) (at-head (record { group = now.group; session = s }) []));
      tells = tells-this x.has (x.same s refl);
      opened = λ p there. let same = one-is (record { group = now.group; session = s }) p there in
          (ap (λ (z : Opened). z.group) same ∙ g_is, ((request, a), q, at-head (request, a) [], given.answered.entered.begun, given.answered.entered.mine, q-opens, is ∙ ap (λ (z : Opened). answer.Session z.session) (sym same)));
      ended = ended-by;
      groups = x.groups;
      closes = λ r there good_end. absurd (x.returns r there good_end);
    }
      where
        opened-is : (t : ℕ) → s ≡ t → ◌≡◌ {A = Opened} (record { group = now.group; session = s }) (record { group = default_group; session = t })
        opened-is t f = λ j. record { group = g_is j; session = f j }

  -- the last answer of a call, and that to a beat
  abbrev After : Option OwnSession → Sessions → Type 0
  After o rows = (has : Option OwnSession) × (rows ≡ session_of has) × ((s : ℕ) → HasId o s → HasId has s ⊎ TakesSession s q.op a) × ((s : ℕ) → HasId has s → HasId o s)

  from-alternative : (g : GroupId) (own : OwnSession) (rows : Sessions) → Alternative g own (TakesSession own.id q.op a) rows → After (Some own) rows
  from-alternative g own rows (inl e) = (Some own, e, λ s x. inl x, λ s x. x)
  from-alternative g own rows (inr x) = (None, x.0, λ s e. inr (subst (λ n. TakesSession n q.op a) e x.1), λ s e. absurd e)

  why-taken : (g : GroupId) (own : OwnSession) (x : Answer) → a ≡ x → (rows : Sessions) → Alternative g own (TakesIt x own.id) rows → Alternative g own (TakesSession own.id q.op a) rows
  why-taken g own x is rows (inl e) = inl e
  why-taken g own x is rows (inr (e, inl f)) = inr (e, told.expired (is ∙ f))
  why-taken g own x is rows (inr (e, inr f)) = inr (e, told.destroyed f.0 (is ∙ f.1))

  after-one : (g : GroupId) (o : UserOp) (p : Purpose) (own : OwnSession) (x : Answer) → a ≡ x → PurposeOk plan (ledger_of w) (client_of request) request (task.Calls o) p → Alternative g own (TakesSession own.id q.op a) (sessions_after g o p x (session_of (Some own)))
  after-one g (user.CloseSession name) (purpose.ForItself s) own answer.Ok is ok = forgets-one g own s (TakesSession own.id q.op a)
      (λ e. told.closed (same-op q (op_of plan (user.CloseSession name) s ok.0.0) given.answered.entered.begun given.answered.entered.mine ok.0.1 ∙ ap (λ n. op.Session (session.Close n)) e) is)
  after-one g o p own x is ok = why-taken g own x is (forgets g x (session_of (Some own))) (forgetting g own x)

  after-call : (g : GroupId) (o : UserOp) (p : Purpose) → PurposeOk plan (ledger_of w) (client_of request) request (task.Calls o) p → (x : Option OwnSession) → After x (sessions_after g o p a (session_of x))
  after-call g o p ok None = (None, none-after g o p a, λ s k. inl k, λ s k. k)
  after-call g o p ok (Some own) = from-alternative g own (sessions_after g o p a (session_of (Some own))) (after-one g o p own a refl ok)

  after-beat : (g : GroupId) (x : Option OwnSession) → After x (forgets g a (session_of x))
  after-beat g None = (None, none-forgotten g a, λ s k. inl k, λ s k. k)
  after-beat g (Some own) = from-alternative g own (forgets g a (session_of (Some own))) (why-taken g own a refl (forgets g a (session_of (Some own))) (forgetting g own a))

  after-serves : (d : Did) → After so d.client.sessions → d.opened ≡ [] → Groups d.client → NoSession → ((r : Return) → Contains d.returns r → r.ending ≡ ending.Answered answer.Ok → (return_call (client_of request) r ≡ request) × (a ≡ answer.Ok)) → Serves w (client_of request) so (mine d)
  after-serves d x none g never returns = record {
    has = x.0;
    sessions = x.1;
    keeps = λ s k. keeps s (x.2 s k);
    origin = λ s k. inl (x.3 s k);
    tells = none-told never x.0;
    opened = λ o there. absurd (no-element o (subst (λ rows. Contains rows o) none there));
    ended = ended-by;
    groups = g;
    closes = λ r there ok. let y = returns r there ok in inl ((request, a), at-head (request, a) [], sym y.0, y.1);
  }
    where
      keeps : (s : ℕ) → HasId x.0 s ⊎ TakesSession s q.op a → HasId x.0 s ⊎ TakesNow w (client_of request) so (mine d) s
      keeps s (inl k) = inl k
      keeps s (inr k) = inr ((request, a), at-head (request, a) [], q, given.answered.entered.begun, given.answered.entered.mine, k)

  lost-ok : ending.Answered answer.OwnershipLost ≡ ending.Answered answer.Ok → ⊥
  lost-ok e = cc

  ending-same : {x y : Answer} → ending.Answered x ≡ ending.Answered y → x ≡ y
  ending-same e = cc

  finished-serves : (now : Pending) (o : UserOp) (p : Purpose) → PurposeOk plan (ledger_of w) (client_of request) request (task.Calls o) p → fits p a ≡ false → Serves w (client_of request) so (mine (finished request.number (call_in request now o) p a c))
  finished-serves now o p ok f = after-serves (finished request.number (call_in request now o) p a c)
      (subst (λ rows. After so (sessions_after now.group o p a rows)) (sym (h.clients (client_of request)).sessions) (after-call now.group o p ok so)) refl
      (rests-groups c request.thread (thread_at c request.thread).number (h.clients (client_of request)).groups) (no-session o p ok f) (λ r there good_end. returns r there good_end)
    where
      row : Return
      row = record { thread = request.thread; number = request.number; ending = ending.Answered (holding request.thread now.group o p a (client_at w (client_of request)).holds).answer }

      call-is : return_call (client_of request) (record { thread = request.thread; number = request.number; ending = ending.Answered (holding request.thread now.group o p a (client_at w (client_of request)).holds).answer }) ≡ request
      call-is = λ j. record { client = sym of-client j; thread = request.thread; number = request.number }

      said : Said (holding request.thread now.group o p a c.holds).answer a → ending.Answered (holding request.thread now.group o p a c.holds).answer ≡ ending.Answered answer.Ok → a ≡ answer.Ok
      said (inl e) is = sym e ∙ ending-same is
      said (inr e) is = absurd (lost-ok (ap (λ x. ending.Answered x) (sym e) ∙ is))

      returns : (r : Return) → Contains (finished request.number (call_in request now o) p a c).returns r → r.ending ≡ ending.Answered answer.Ok → (return_call (client_of request) r ≡ request) × (a ≡ answer.Ok)
      returns r there is = let same = one-is (record { thread = request.thread; number = request.number; ending = ending.Answered (holding request.thread now.group o p a (client_at w (client_of request)).holds).answer }) r there in
          (ap (return_call (client_of request)) same ∙ call-is, said (holding-says request.thread now.group o p a c.holds) (ap (λ (z : Return). z.ending) (sym same) ∙ is))

  prepared-serves : (now : Pending) (o : UserOp) (p : Purpose) (x : Answer) → a ≡ x → now.group ≡ group_of o → PurposeOk plan (ledger_of w) (client_of request) request (task.Calls o) p
      → Serves w (client_of request) so (mine (prepared plan (replay_id (client_of request)) request.number (call_in request now o) p x c))
  prepared-serves now o purpose.ForSession (answer.Session s) is right ok = opening-serves now o s ok is right (is_session s (find nat_cmp c.sessions now.group.0)) refl
  prepared-serves now o purpose.ForRound (answer.Value r) is right ok = quiet-ends (ask (replay_id (client_of request)) request.thread (pending_of (call_in request now o) (purpose.ForItself 0)) (op_of plan o 0 (unsigned_abs r)) c)
      (no-session o purpose.ForRound ok refl) (itself-quiet plan (client_of request) (call_in request now o) right so c (h.clients (client_of request)).sessions (h.clients (client_of request)).groups 0 (unsigned_abs r))
  prepared-serves now o p x is right ok = subst (λ y. Serves w (client_of request) so (mine (finished request.number (call_in request now o) p y c))) is (finished-serves now o p ok (subst (λ y. fits p y ≡ false) (sym is) refl))

  task-serves : (x : Task) (now : Pending) → GroupOk x now.group → PurposeOk plan (ledger_of w) (client_of request) request x now.purpose → Serves w (client_of request) so (mine (on_task plan (replay_id (client_of request)) request x now a c))
  task-serves (task.Calls o) now right ok = prepared-serves now o now.purpose a refl right ok
  task-serves (task.Beats s) now right ok = after-serves (on_task plan (replay_id (client_of request)) request (task.Beats s) now a c)
      (subst (λ rows. After so (forgets now.group a rows)) (sym (h.clients (client_of request)).sessions) (after-beat now.group so)) refl
      (rests-groups c request.thread (thread_at c request.thread).number (h.clients (client_of request)).groups)
      (λ r n in_r same opens says. beat-open (sym (same-op r (op.Session (session.Beat s)) in_r same ok) ∙ opens)) (λ r there. absurd (no-element r there))

  nothing-serves : Serves w (client_of request) so (nothing c)
  nothing-serves = quiet-serves so w (client_of request) (nothing c) (still-quiet so c (h.clients (client_of request)).sessions (h.clients (client_of request)).groups)

  same-request : (number : ℕ) → number ≡ request.number → record { client = replay_id (client_of request); thread = request.thread; number = number } ≡ request
  same-request number e = λ j. record { client = sym of-client j; thread = request.thread; number = e j }

  pending-serves : (now : Option Pending) → (thread_at c request.thread).pending ≡ now → (thread_at c request.thread).number ≡ request.number → Serves w (client_of request) so (on_pending plan (replay_id (client_of request)) request now a c)
  pending-serves None is same = nothing-serves
  pending-serves (Some now) is same = task-serves now.task now ((h.clients (client_of request)).groups request.thread now is)
      (subst (λ call. PurposeOk plan (ledger_of w) (client_of request) call now.task now.purpose) (same-request (thread_at c request.thread).number same) ((good.clients (client_of request)).pending request.thread now is).for_purpose)

  answer-serves : Serves w (client_of request) so (answer_client plan (replay_id (client_of request)) request a (client_at w (client_of request)))
  answer-serves = cases (Serves w (client_of request) so) ((thread_at c request.thread).number == request.number) _ _ (λ e. pending-serves (thread_at c request.thread).pending refl (same_number (thread_at c request.thread).number request.number e)) (λ e. nothing-serves)

  answer-seen : Good plan (note (client_of request) (answer_client plan (replay_id (client_of request)) request a (client_at w (client_of request))) w)
      → Seen (note (client_of request) (answer_client plan (replay_id (client_of request)) request a (client_at w (client_of request))) w) (openings (note (client_of request) (answer_client plan (replay_id (client_of request)) request a (client_at w (client_of request))) w))
  answer-seen after = note-seen plan w (client_of request) (answer_client plan (replay_id (client_of request)) request a (client_at w (client_of request))) good after h answer-serves

-- ---- runs

abbrev SeenNow : World → Type 0
SeenNow w = Seen w (openings w)

abbrev SeenBefore : World → Type 0
SeenBefore w = Seen w (openings_in w.effects)

same-seen : (w : World) (rows : List Opening) (me : ClientNo) (c : Client) → SeenBy w rows me c → (v : World) → v.ends ≡ w.ends → v.requests ≡ w.requests → w.shown.number ≤ v.shown.number → SeenBy v rows me c
same-seen w rows me c h v ends requests l = record {
  so = h.so;
  sessions = h.sessions;
  printed = later h.so h.printed;
  told = λ j s e at tells. told j s e (h.told j s e (subst (λ xs. slice_get xs j ≡ Some e) ends at) (subst (λ xs. TellsSession xs (replay_id me) s e) requests tells));
  groups = h.groups;
}
  where
    later : (so : Option OwnSession) → PrintedSo rows me w.shown.number so → PrintedSo rows me v.shown.number so
    later None p = tt
    later (Some own) p = (p.0, p.1, p.2, p.3, le_trans p.4 l)

    told : (j s : ℕ) (e : End) → HasId h.so s ⊎ TakenAfter w me s j → HasId h.so s ⊎ TakenAfter v me s j
    told j s e (inl x) = inl x
    told j s e (inr x) = inr (x.0, x.1, x.2, subst (λ xs. slice_get xs x.0 ≡ Some x.1) (sym ends) x.3, subst (λ xs. IsTaken xs (replay_id me) default_group s x.1) (sym requests) x.4)

pub seen-served : (plan : Plan) → IsServed plan SeenNow SeenBefore
seen-served plan = record {
  calls = call-seen plan;
  ticks = tick-seen plan;
  answers = λ request a w good desked given after h. answer-seen plan w request a good given h after;
  commits = λ a w h. record { clients = λ me. same-seen w (openings w) me (client_at w me) (h.clients me) (commit a w) refl refl (le_refl w.shown.number); printed = h.printed; opened = h.opened; by_now = h.by_now; closes = h.closes };
  empties = λ w h. record { clients = λ me. same-seen w (openings w) me (client_at w me) (h.clients me) (record w { queue = [] }) refl refl (le_refl w.shown.number); printed = h.printed; opened = h.opened; by_now = h.by_now; closes = h.closes };
  ignores = λ cause w h. record { clients = λ me. same-seen w (openings w) me (client_at w me) (h.clients me) (ignore cause w) refl refl (le_refl w.shown.number); printed = h.printed; opened = h.opened; by_now = h.by_now; closes = h.closes };
  called = λ c w earlier h. record { clients = λ me. same-seen w (openings w) me (client_at w me) (h.clients me) (record w { calls = w.calls ++ c ∷ [] }) refl refl (le_refl w.shown.number); printed = h.printed; opened = h.opened; by_now = h.by_now; closes = h.closes };
  moved = λ m w h. record { clients = λ me. same-seen w (openings w) me (client_at w me) (h.clients me) (record w { moves = w.moves ++ m ∷ [] }) refl refl (le_refl w.shown.number); printed = h.printed; opened = h.opened; by_now = h.by_now; closes = h.closes };
  starts = λ e w l h. subst (Seen (start e w)) (sym (push-none (openings_in w.effects) [] refl))
      (record { clients = λ me. same-seen w (openings_in w.effects) me (client_at w me) (h.clients me) (start e w) refl refl l; printed = h.printed; opened = h.opened; by_now = λ r there. le_trans (h.by_now r there) l; closes = h.closes });
  closes = λ w h. subst (Seen (close w)) (sym (openings-push w.effects w.shown))
      (record { clients = λ me. same-seen w (openings w) me (client_at w me) (h.clients me) (close w) refl refl (le_refl w.shown.number); printed = h.printed; opened = h.opened; by_now = h.by_now; closes = h.closes });
}

pub none-seen : SeenBefore new_world
none-seen = record {
  clients = λ me. record { so = None; sessions = refl; printed = tt; told = λ j s e at. absurd (none_some at); groups = λ t now e. absurd (none_some e) };
  printed = λ me s e there. absurd (no-element e there);
  opened = λ o there. absurd (no-element o there);
  by_now = λ r there. absurd (no-element r there);
  closes = λ r there. absurd (no-element r there);
}

pub all-seen : (plan : Plan) (events : List Event) → SeenBefore (world_after plan new_world events)
all-seen plan events = all-served plan SeenNow SeenBefore (seen-served plan) events none-seen
