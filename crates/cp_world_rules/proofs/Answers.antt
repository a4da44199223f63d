-- What a client does at an answer and at a tick is allowed.
use Rattle.std.proofs.Common.{◌≡◌, ℕ, ◌+◌, ◌-◌, ◌≤◌, ◌⊎◌, inl, inr, true, false, not, ◌&&◌, List, [], ◌∷◌, ◌++◌, Some, None, Option, refl, sym, subst, ap, ◌∙◌, arith, le_refl, length, append_assoc, Bool}
use Rattle.std.specs.Prelude.{All, Contains, nat_lt, ◌==◌, unsigned_abs, slice_get, ℤ}
use Rattle.std.specs.Ordering.{nat_cmp}
use Rattle.std.proofs.lemmas.Bool.Decides.{nat_tests}
use Rattle.std.proofs.lemmas.List.Elements.{All-head, All-tail, Contains-append_cases, Contains-append_left, Contains-append_right}
use Rattle.cp_base.specs.Identifiers.{replay_id}
use Rattle.cp_base.specs.declared.identifier.ClientNo.{ClientNo}
use Rattle.cp_base.specs.declared.identifier.GroupId.{GroupId}
use Rattle.cp_base.specs.declared.identifier.Invocation.{Invocation}
use Rattle.cp_base.specs.declared.identifier.ThreadNo.{ThreadNo}
use Rattle.cp_base.proofs.Tests.{no_false, same_number, same_some, none_some}
use Rattle.cp_answers.specs.declared.answer.Answer.{Answer}
use Rattle.cp_answers.specs.declared.answer.Answer.TheVariants as answer
use Rattle.cp_answers.specs.declared.ended_by.EndedBy.TheVariants as ended_by
use Rattle.cp_object_ops.specs.declared.latch_op.LatchOp.TheVariants as latch
use Rattle.cp_ops.specs.declared.op.Op.{Op}
use Rattle.cp_ops.specs.declared.op.Op.TheVariants as op
use Rattle.cp_ops.specs.declared.session_op.SessionOp.TheVariants as session
use Rattle.cp_events.specs.declared.effects.Ending.TheVariants as ending
use Rattle.cp_events.specs.declared.effects.Return.{Return}
use Rattle.cp_events.specs.declared.object.Object.{Object}
use Rattle.cp_events.specs.declared.plan.Plan.{Plan}
use Rattle.cp_events.specs.declared.user_op.LatchCall.TheVariants as latch_call
use Rattle.cp_events.specs.declared.user_op.LockCall.{LockCall}
use Rattle.cp_events.specs.declared.user_op.LockCall.TheVariants as lock_call
use Rattle.cp_events.specs.declared.user_op.UserOp.{UserOp}
use Rattle.cp_events.specs.declared.user_op.UserOp.TheVariants as user
use Rattle.cp_group_state.specs.Rows.{find, put, without}
use Rattle.cp_group_state.specs.History.{IsReached}
use Rattle.cp_group_state.specs.Protected.{down_in}
use Rattle.cp_group_state.proofs.Keyed.{number_key}
use Rattle.cp_group_state.proofs.Walk.{cases, either}
use Rattle.cp_group_causes.proofs.Lists.{at-head, no-element, one-is}
use Rattle.cp_client_rules.specs.declared.rows.HoldRecord.{HoldRecord}
use Rattle.cp_client_rules.specs.declared.rows.OwnSession.{OwnSession}
use Rattle.cp_client_rules.specs.declared.rows.Pending.{Pending}
use Rattle.cp_client_rules.specs.declared.rows.Purpose.{Purpose}
use Rattle.cp_client_rules.specs.declared.rows.Purpose.TheVariants as purpose
use Rattle.cp_client_rules.specs.declared.rows.Task.{Task}
use Rattle.cp_client_rules.specs.declared.rows.Task.TheVariants as task
use Rattle.cp_client_rules.specs.Asking.{need_of, op_of, wish_of}
use Rattle.cp_client_rules.specs.Clients.{Asked, Client, Did, LockKey, Sessions, Holds, and_then, idle, lock_cmp, nothing, thread_at}
use Rattle.cp_client_rules.specs.Sessions.{forget_session, forgets, has_session, is_session, sessions_after, with_session}
use Rattle.cp_client_rules.specs.Holds.{Holding, ends_holding, expired, held_after, holding, is_lock, is_owner, is_unlock, lowered, or_none, raised}
use Rattle.cp_client_rules.specs.Calls.{deadline_of, patience}
use Rattle.cp_client_rules.specs.Answers.{answer_client, call_in, finished, on_pending, on_task, prepared}
use Rattle.cp_client_rules.specs.Ticks.{beat, beat_each, beat_if_due, beats, end_each, end_late, is_due, is_late, is_past, own_thread, tick_client, user_threads}
use Rattle.cp_world_rules.specs.Rows.{End, Moved, Request}
use Rattle.cp_world_rules.specs.World.{World, client_at, client_of, ends_now, note}
use Rattle.cp_world_rules.specs.Answers.{lets_go_on}
use Rattle.cp_world_rules.proofs.Desks.{is_beat}
use Rattle.cp_world_rules.proofs.GroupLaws.{prepares}
use Rattle.cp_world_rules.proofs.Working.{itself-plain}
use Rattle.cp_world_rules.proofs.Lists.{get-some, push-none, rows-find, rows-put, rows-without}
use Rattle.cp_world_rules.proofs.Ledgers.{Extends, Fenced, HoldOk, Knows, Ledger, OnLock, OpenedIn, PendingOk, PurposeOk, TaskOk, ToldBy, by_clock, by_end, by_loss, fenced-on, ledger_of, lock_key, on_lock-on, return_call, told-on, uses_session}
use Rattle.cp_world_rules.proofs.Good.{AnsweredBy, Fits, Given, Good}
use Rattle.cp_world_rules.proofs.Does.{DidOk}
use Rattle.cp_world_rules.proofs.Clients.{Midway, ask-midway, did, go_on-fine, idle-midway, itself-fine, known-now, midway-now, needing-returns, records-midway, with_step}

-- the client's sessions
module _ (w : World) (me : ClientNo) where
  abbrev pub OwnOk : Sessions → Type 0
  OwnOk sessions = All (λ (e : ℕ × OwnSession). OpenedIn w.history e.1.id (replay_id me)) sessions

  abbrev pub IsOpened : ℕ → OwnSession → Type 0
  IsOpened g x = OpenedIn w.history x.id (replay_id me)

  own-without : (g : ℕ) (sessions : Sessions) → OwnOk sessions → OwnOk (without nat_cmp sessions g)
  own-without g sessions h = rows-without nat_cmp number_key IsOpened sessions g h

  own-forget : (g : GroupId) (s : ℕ) (sessions : Sessions) → OwnOk sessions → OwnOk (forget_session g s sessions)
  own-forget g s sessions h = either OwnOk (is_session s (find nat_cmp sessions g.0)) _ _ (own-without g.0 sessions h) h

  pub own-forgets : (g : GroupId) (a : Answer) (sessions : Sessions) → OwnOk sessions → OwnOk (forgets g a sessions)
  own-forgets g (answer.SessionExpired s) sessions h = own-forget g s sessions h
  own-forgets g (answer.GroupDestroyed d) sessions h = own-without g.0 sessions h
  own-forgets g a sessions h = h

  own-after : (g : GroupId) (o : UserOp) (p : Purpose) (a : Answer) (sessions : Sessions) → OwnOk sessions → OwnOk (sessions_after g o p a sessions)
  own-after g (user.CloseSession name) (purpose.ForItself s) answer.Ok sessions h = own-forget g s sessions h
  own-after g o p a sessions h = own-forgets g a sessions h

-- hold records
module _ (w : World) (me : ClientNo) (l : Ledger) where
  abbrev pub HeldOk : Holds → Type 0
  HeldOk holds = All (λ (e : LockKey × HoldRecord). HoldOk l me e.0 e.1) holds

  abbrev pub IsHeld : LockKey → HoldRecord → Type 0
  IsHeld key h = HoldOk l me key h

  held-without : (key : LockKey) (holds : Holds) → HeldOk holds → HeldOk (without lock_cmp holds key)
  held-without key holds h = rows-without lock_cmp lock_key IsHeld holds key h

  held-raised : (key : LockKey) (s : ℕ) (holds : Holds) → OpenedIn l.history s (replay_id me) → Fenced l me key.0 key.2 → HeldOk holds → HeldOk (raised s key holds)
  held-raised key s holds opened fenced h = by (find lock_cmp holds key) refl where
    by : (o : Option HoldRecord) → find lock_cmp holds key ≡ o → HeldOk (put lock_cmp holds key (record { session = (or_none s o).session; holds = (or_none s o).holds + 1 }))
    by None e = rows-put lock_cmp lock_key IsHeld holds key (record { session = s; holds = 0 + 1 }) (opened, fenced) h
    by (Some x) e = rows-put lock_cmp lock_key IsHeld holds key (record { session = x.session; holds = x.holds + 1 }) (rows-find lock_cmp lock_key IsHeld holds key x e h) h

  held-lowered : (key : LockKey) (holds : Holds) → HeldOk holds → HeldOk (lowered key (find lock_cmp holds key) holds)
  held-lowered key holds h = by (find lock_cmp holds key) refl where
    by : (o : Option HoldRecord) → find lock_cmp holds key ≡ o → HeldOk (lowered key o holds)
    by None e = h
    by (Some x) e = either HeldOk (nat_lt 1 x.holds) _ _ (rows-put lock_cmp lock_key IsHeld holds key (record { session = x.session; holds = x.holds - 1 }) (rows-find lock_cmp lock_key IsHeld holds key x e h) h) (held-without key holds h)

  held-expired : (key : LockKey) (a : Answer) (o : Option HoldRecord) (holds : Holds) → HeldOk holds → HeldOk (expired key a o holds).holds
  held-expired key a None holds h = h
  held-expired key a (Some x) holds h = held-without key holds h

  -- an answer to a call on the lock
  held-after : (key : LockKey) (o : LockCall) (s : ℕ) (a : Answer) (holds : Holds) → ((f : ℕ) → a ≡ answer.Fence f → is_owner o ≡ false → OpenedIn l.history s (replay_id me) × Fenced l me key.0 key.2) → HeldOk holds → HeldOk (held_after key o s a holds).holds
  held-after key o s (answer.Fence f) holds fence h = cases HeldOk (is_owner o) _ _ (λ e. h) (λ e. let x = fence f refl e in held-raised key s holds x.0 x.1 h)
  held-after key o s answer.Ok holds fence h = either HeldOk (is_unlock o) _ _ (held-lowered key holds h) h
  held-after key o s answer.NotOwner holds fence h = held-without key holds h
  held-after key o s answer.ObjectDestroyed holds fence h = held-without key holds h
  held-after key o s (answer.GroupDestroyed g) holds fence h = held-without key holds h
  held-after key o s (answer.SessionExpired x) holds fence h = either (λ (r : Holding). HeldOk r.holds) (is_owner o) _ _ h (held-expired key (answer.SessionExpired x) (find lock_cmp holds key) holds h)
  held-after key o s a holds fence h = h

-- an answer to the pending request of its thread
module _ (plan : Plan) (w : World) (request : Invocation) (a : Answer) (good : Good plan w) (given : Given w request a) where
  abbrev pub me : ClientNo
  me = client_of request

  abbrev pub c : Client
  c = client_at w (client_of request)

  abbrev pub ended : List (Invocation × Answer)
  ended = (request, a) ∷ []

  abbrev pub l : Ledger
  l = with_step w [] ((request, a) ∷ [])

  abbrev pub this_end : End
  this_end = ends_now w (request, a)

  of-client : request.client ≡ replay_id (client_of request)
  of-client = let e = given.answered.entered in subst (λ (x : Invocation). x.client ≡ replay_id (client_of x)) e.mine (good.clients_are e.request e.begun)

  m : Midway plan w (client_of request) (client_at w (client_of request)) [] ((request, a) ∷ [])
  m = midway-now plan w (client_of request) ((request, a) ∷ []) good

  -- the op of a known request of the call is that of its entry
  known-op : (o : Op) → Knows (ledger_of w) request o → given.answered.o ≡ o
  known-op o k = let e = given.answered.entered in sym e.op_is ∙ (same-op e.request k.0 e.begun k.1 (e.mine ∙ sym k.2) ∙ k.3) where
    same-op : (r q : Request) → Contains w.requests r → Contains w.requests q → r.call ≡ q.call → r.op ≡ q.op
    same-op r q x y same = let i = get-some w.requests r x in let j = get-some w.requests q y in
        let p : i.0 ≡ j.0 = good.distinct i.0 j.0 r q i.1 j.1 same in ap (λ (z : Request). z.op) (same_some (sym i.1 ∙ (ap (slice_get w.requests) p ∙ j.1)))

  abbrev pub key_of : Pending → List ℕ → LockKey
  key_of now name = (request.thread.0, now.group.0, name)

  -- the pending request is this one
  same-request : (number : ℕ) → number ≡ request.number → record { client = replay_id (client_of request); thread = request.thread; number = number } ≡ request
  same-request number e = λ j. record { client = sym of-client j; thread = request.thread; number = e j }

  -- a ledger after the step
  module _ (after : Ledger) (more : Extends (ledger_of w) after) (ends_here : Contains after.ends this_end) (now_same : after.now ≡ w.shown.number) (q : Request) (in_q : Contains w.requests q) (of_q : q.call ≡ request) (fin : lets_go_on q.op a ≡ false) where
    abbrev pub Told : Answer → Type 0
    Told x = ToldBy after w.shown.number (client_of request) (record { thread = request.thread; number = request.number; ending = ending.Answered x })

    plain-told : (x : Answer) → a ≡ x → Told x
    plain-told x is = by_end this_end ends_here refl (sym (same-request request.number refl)) (ap (λ y. ending.Answered y) (sym is)) q (more.requests q in_q) of_q fin

    loss-told : (name : List ℕ) (s x : ℕ) (key : LockKey) (h : HoldRecord) → a ≡ answer.SessionExpired x → key.0 ≡ request.thread.0 → key.2 ≡ name → OnLock (ledger_of w) request name → HoldOk (ledger_of w) (client_of request) key h → Told answer.OwnershipLost
    loss-told name s x key h is t n lock held = let f = held.1 in
        let g : Fenced (ledger_of w) (client_of request) request.thread.0 name = record { taken = f.taken; fence = f.fence; told = f.told; with_fence = f.with_fence; by_client = f.by_client; by_thread = f.by_thread ∙ t; in_time = f.in_time; of_lock = subst (OnLock (ledger_of w) f.taken.call) n f.of_lock } in
        by_loss this_end x name ends_here refl (sym (same-request request.number refl)) is (on_lock-on (ledger_of w) after more request name lock)
        (fenced-on (ledger_of w) after more (client_of request) request.thread.0 name g) f.in_time refl

    expired-told : (key : LockKey) (x : ℕ) (o : Option HoldRecord) (holds : Holds) → a ≡ answer.SessionExpired x → ((h : HoldRecord) → o ≡ Some h → Told answer.OwnershipLost) → Told (expired key (answer.SessionExpired x) o holds).answer
    expired-told key x None holds is loss = plain-told (answer.SessionExpired x) is
    expired-told key x (Some h) holds is loss = loss h refl

    held-told : (now : Pending) (name : List ℕ) (o : LockCall) (s : ℕ) (x : Answer) → a ≡ x → OnLock (ledger_of w) request name → Told (held_after (request.thread.0, now.group.0, name) o s x c.holds).answer
    held-told now name o s (answer.SessionExpired y) is lock = either (λ (r : Holding). Told r.answer) (is_owner o) _ _ (plain-told (answer.SessionExpired y) is)
        (expired-told (request.thread.0, now.group.0, name) y (find lock_cmp c.holds (request.thread.0, now.group.0, name)) c.holds is
        (λ h there. loss-told name s y (request.thread.0, now.group.0, name) h is refl refl lock (rows-find lock_cmp lock_key (λ k (v : HoldRecord). HoldOk (ledger_of w) (client_of request) k v) c.holds (request.thread.0, now.group.0, name) h there (good.clients (client_of request)).held)))
    held-told now name o s x is lock = plain-told x is

    holding-told : (now : Pending) (o : UserOp) (p : Purpose) → PurposeOk plan (ledger_of w) (client_of request) request (task.Calls o) p → Told (holding request.thread now.group o p a c.holds).answer
    holding-told now (user.Lock object o) (purpose.ForItself s) ok = held-told now object.name o s a refl (ok.0.1.0, _, ok.0.1.1, ok.0.1.2, ok.0.1.3)
    holding-told now (user.Destroy which object) p ok = plain-told a refl
    holding-told now o p ok = plain-told a refl

  -- what the records of the client are after a call is finished
  owner-needs : (object : Object) (o : LockCall) → is_owner o ≡ false → uses_session (need_of (user.Lock object o)) ≡ true
  owner-needs object lock_call.Lock e = refl
  owner-needs object (lock_call.Try ms) e = refl
  owner-needs object lock_call.Unlock e = refl
  owner-needs object lock_call.Owner e = absurd (no e) where
    no : true ≡ false → ⊥
    no k = cc

  ends_l : Contains l.ends this_end
  ends_l = Contains-append_right w.ends (this_end ∷ []) this_end (at-head this_end [])

  holding-ok : (now : Pending) (o : UserOp) (p : Purpose) → PurposeOk plan (ledger_of w) (client_of request) request (task.Calls o) p → HeldOk w (client_of request) l (holding request.thread now.group o p a c.holds).holds
  holding-ok now (user.Lock object o) (purpose.ForItself s) ok = held-after w (client_of request) l (request.thread.0, now.group.0, object.name) o s a c.holds
      (λ f is owner. (ok.1 (owner-needs object o owner), record { taken = this_end; fence = f; told = ends_l; with_fence = is; by_client = of-client; by_thread = refl; in_time = le_refl w.shown.number; of_lock = (ok.0.1.0, _, Contains-append_left w.requests [] ok.0.1.0 ok.0.1.1, ok.0.1.2, ok.0.1.3) })) m.client.held
  holding-ok now (user.Destroy which object) p ok = either (HeldOk w (client_of request) l) (is_lock which && ends_holding a) _ _ (held-without w (client_of request) l (request.thread.0, now.group.0, object.name) c.holds m.client.held) m.client.held
  holding-ok now o p ok = m.client.held

  abbrev pub Fine : Did → Type 0
  Fine d = Midway plan w (client_of request) d.client d.asked ((request, a) ∷ [])

  idle-c : Midway plan w (client_of request) (idle request.thread c) [] ((request, a) ∷ [])
  idle-c = idle-midway plan w (client_of request) [] ((request, a) ∷ []) request.thread (thread_at c request.thread).number c (le_refl (thread_at c request.thread).number) m

  finished-fine : (now : Pending) (o : UserOp) (p : Purpose) → PurposeOk plan (ledger_of w) (client_of request) request (task.Calls o) p → Fine (finished request.number (call_in request now o) p a c)
  finished-fine now o p ok = records-midway plan w (client_of request) [] ((request, a) ∷ []) (idle request.thread c) (sessions_after now.group o p a c.sessions) (holding request.thread now.group o p a c.holds).holds
      (own-after w (client_of request) now.group o p a c.sessions m.client.own) (holding-ok now o p ok) idle-c

  -- what the answer tells
  fits-as : (o : Op) (x : Answer) → Knows (ledger_of w) request o → a ≡ x → Fits w.history w.state request.client o x
  fits-as o x knows is = subst (Fits w.history w.state request.client o) is (subst (λ p. Fits w.history w.state request.client p a) (known-op o knows) given.fits)

  session-opened : (s : ℕ) → Knows (ledger_of w) request (op.Session session.Open) → a ≡ answer.Session s → OpenedIn w.history s (replay_id (client_of request))
  session-opened s knows is = subst (OpenedIn w.history s) of-client (fits-as (op.Session session.Open) (answer.Session s) knows is)

  opened-midway : (g : GroupId) (s : ℕ) → OpenedIn w.history s (replay_id (client_of request)) → Midway plan w (client_of request) (with_session g s c) [] ((request, a) ∷ [])
  opened-midway g s opened = either (λ (x : Client). Midway plan w (client_of request) x [] ((request, a) ∷ [])) (has_session g s c) _ _ m
      (records-midway plan w (client_of request) [] ((request, a) ∷ []) c (put nat_cmp c.sessions g.0 (record { id = s; beat = c.clock })) c.holds
      (rows-put nat_cmp number_key (λ k (x : OwnSession). OpenedIn w.history x.id (replay_id (client_of request))) c.sessions g.0 (record { id = s; beat = c.clock }) opened m.client.own) m.client.held m)

  abbrev pub CallOk : Pending → UserOp → Type 0
  CallOk now o = TaskOk (ledger_of w) (client_of request) request.thread now.deadline (task.Calls o)

  -- the fields of a step that a change of what it opened leaves
  round-reached : (o : UserOp) (object : Object) (r : ℤ) → o ≡ user.Latch object latch_call.Down → IsReached w.state (Some (object.name, unsigned_abs r)) → IsReached w.state (down_in (op_of plan o 0 (unsigned_abs r)))
  round-reached o object r is h = subst (λ x. IsReached w.state (down_in (op_of plan x 0 (unsigned_abs r)))) (sym is) h

  round-needs : (o : UserOp) (object : Object) → o ≡ user.Latch object latch_call.Down → uses_session (need_of o) ≡ true → ⊥
  round-needs o object is h = no (sym (ap (λ x. uses_session (need_of x)) is) ∙ h) where
    no : false ≡ true → ⊥
    no k = cc

  prepared-fine : (now : Pending) (o : UserOp) (p : Purpose) (x : Answer) → a ≡ x → CallOk now o → PurposeOk plan (ledger_of w) (client_of request) request (task.Calls o) p → Fine (prepared plan (replay_id (client_of request)) request.number (call_in request now o) p x c)
  prepared-fine now o purpose.ForSession (answer.Session s) is begun ok = go_on-fine plan w (client_of request) ((request, a) ∷ []) (call_in request now o) (with_session now.group s c) (opened-midway now.group s (session-opened s ok.1 is)) begun
  prepared-fine now o purpose.ForRound (answer.Value r) is begun ok = itself-fine plan w (client_of request) ((request, a) ∷ []) (call_in request now o) c m begun 0 (unsigned_abs r) (λ needs. absurd (round-needs o ok.0 ok.1 needs))
      (round-reached o ok.0 r ok.1 (fits-as (op.Latch ok.0.name latch.Round) (answer.Value r) ok.2 is))
  prepared-fine now o p x is begun ok = subst (λ y. Fine (finished request.number (call_in request now o) p y c)) is (finished-fine now o p ok)

  task-fine : (x : Task) (now : Pending) → TaskOk (ledger_of w) (client_of request) request.thread now.deadline x → PurposeOk plan (ledger_of w) (client_of request) request x now.purpose → Fine (on_task plan (replay_id (client_of request)) request x now a c)
  task-fine (task.Calls o) now begun ok = prepared-fine now o now.purpose a refl begun ok
  task-fine (task.Beats s) now begun ok = records-midway plan w (client_of request) [] ((request, a) ∷ []) (idle request.thread c) (forgets now.group a c.sessions) c.holds (own-forgets w (client_of request) now.group a c.sessions m.client.own) m.client.held idle-c

  -- what the step returns
  abbrev pub mine : Did → Did
  mine d = record d { ended = (request, a) ∷ [] }

  abbrev pub TellsOf : Did → Type 0
  TellsOf d = (r : Return) → Contains d.returns r → ToldBy (ledger_of (note (client_of request) (mine d) w)) w.shown.number (client_of request) r

  noted : (d : Did) → Extends (ledger_of w) (ledger_of (note (client_of request) (mine d) w))
  noted d = record { history = λ s client h. h; requests = λ r h. Contains-append_left w.requests _ r h; ends = λ e h. Contains-append_left w.ends _ e h; calls = λ k h. h; moves = λ k h. h; now = le_refl w.shown.number }

  no-returns : (d : Did) → d.returns ≡ [] → TellsOf d
  no-returns d e r h = absurd (no-element r (subst (λ rs. Contains rs r) e h))

  -- whether the answer to a request for this lets the call go on
  abbrev goes_on : Purpose → Answer → Bool
  goes_on purpose.ForSession (answer.Session s) = true
  goes_on purpose.ForRound (answer.Value r) = true
  goes_on p x = false

  session-final : (x : Answer) → goes_on purpose.ForSession x ≡ false → lets_go_on (op.Session session.Open) x ≡ false
  session-final (answer.Session s) e = absurd (no_false (sym e))
  session-final x e = refl

  round-final : (name : List ℕ) (x : Answer) → goes_on purpose.ForRound x ≡ false → lets_go_on (op.Latch name latch.Round) x ≡ false
  round-final name (answer.Value r) e = absurd (no_false (sym e))
  round-final name x e = refl

  plain-final : (o : Op) (x : Answer) → prepares o ≡ false → lets_go_on o x ≡ false
  plain-final (op.Session session.Open) x e = absurd (no_false (sym e))
  plain-final (op.Latch name latch.Round) x e = absurd (no_false (sym e))
  plain-final o x e = refl

  final-of : (o : UserOp) (p : Purpose) → PurposeOk plan (ledger_of w) (client_of request) request (task.Calls o) p → goes_on p a ≡ false → (q : Request) × Contains w.requests q × (q.call ≡ request) × (lets_go_on q.op a ≡ false)
  final-of o purpose.ForSession ok e = let k = ok.1 in (k.0, k.1, k.2, subst (λ y. lets_go_on y a ≡ false) (sym k.3) (session-final a e))
  final-of o purpose.ForRound ok e = let k = ok.2 in (k.0, k.1, k.2, subst (λ y. lets_go_on y a ≡ false) (sym k.3) (round-final ok.0.name a e))
  final-of o (purpose.ForItself s) ok e = let k = ok.0.1 in (k.0, k.1, k.2, subst (λ y. lets_go_on y a ≡ false) (sym k.3) (plain-final (op_of plan o s ok.0.0) a (itself-plain plan o s ok.0.0)))

  finished-tells : (now : Pending) (o : UserOp) (p : Purpose) → PurposeOk plan (ledger_of w) (client_of request) request (task.Calls o) p → goes_on p a ≡ false → TellsOf (finished request.number (call_in request now o) p a c)
  finished-tells now o p ok fin r h = let f = final-of o p ok fin in let d = finished request.number (call_in request now o) p a c in
      subst (ToldBy (ledger_of (note (client_of request) (mine (finished request.number (call_in request now o) p a c)) w)) w.shown.number (client_of request))
      (sym (one-is (record { thread = request.thread; number = request.number; ending = ending.Answered (holding request.thread now.group o p a c.holds).answer }) r h))
      (holding-told (ledger_of (note (client_of request) (mine (finished request.number (call_in request now o) p a c)) w)) (noted d) ends_l refl f.0 f.1 f.2 f.3 now o p ok)

  prepared-tells : (now : Pending) (o : UserOp) (p : Purpose) (x : Answer) → a ≡ x → CallOk now o → PurposeOk plan (ledger_of w) (client_of request) request (task.Calls o) p → TellsOf (prepared plan (replay_id (client_of request)) request.number (call_in request now o) p x c)
  prepared-tells now o purpose.ForSession (answer.Session s) is begun ok = no-returns (prepared plan (replay_id (client_of request)) request.number (call_in request now o) purpose.ForSession (answer.Session s) c)
      (needing-returns plan w (client_of request) ((request, a) ∷ []) (call_in request now o) (with_session now.group s c) (opened-midway now.group s (session-opened s ok.1 is)) begun ok.0)
  prepared-tells now o purpose.ForRound (answer.Value r) is begun ok = no-returns (prepared plan (replay_id (client_of request)) request.number (call_in request now o) purpose.ForRound (answer.Value r) c) refl
  prepared-tells now o p x is begun ok = subst (λ y. TellsOf (finished request.number (call_in request now o) p y c)) is (finished-tells now o p ok (subst (λ y. goes_on p y ≡ false) (sym is) refl))

  task-tells : (x : Task) (now : Pending) → TaskOk (ledger_of w) (client_of request) request.thread now.deadline x → PurposeOk plan (ledger_of w) (client_of request) request x now.purpose → TellsOf (on_task plan (replay_id (client_of request)) request x now a c)
  task-tells (task.Calls o) now begun ok = prepared-tells now o now.purpose a refl begun ok
  task-tells (task.Beats s) now begun ok = no-returns (on_task plan (replay_id (client_of request)) request (task.Beats s) now a c) refl

  -- an answer that doesn't let the call go on is returned
  op-of : (q : Request) (o : Op) → Contains w.requests q → q.call ≡ request → Knows (ledger_of w) request o → q.op ≡ o
  op-of q o there same k = let i = get-some w.requests q there in let j = get-some w.requests k.0 k.1 in
      let p : i.0 ≡ j.0 = good.distinct i.0 j.0 q k.0 i.1 j.1 (same ∙ sym k.2) in ap (λ (z : Request). z.op) (same_some (sym i.1 ∙ (ap (slice_get w.requests) p ∙ j.1))) ∙ k.3

  abbrev ReturnsIt : Did → Type 0
  ReturnsIt d = (q : Request) → Contains w.requests q → q.call ≡ request → lets_go_on q.op a ≡ false → (is_beat q.op ≡ true) ⊎ ((r : Return) × Contains d.returns r × (return_call (client_of request) r ≡ request))

  finished-returns : (now : Pending) (o : UserOp) (p : Purpose) (x : Answer) → ReturnsIt (finished request.number (call_in request now o) p x c)
  finished-returns now o p x q there same fin = inr (record { thread = request.thread; number = request.number; ending = ending.Answered (holding request.thread now.group o p x c.holds).answer }, at-head _ [], same-request request.number refl)

  prepared-returns : (now : Pending) (o : UserOp) (p : Purpose) (x : Answer) → a ≡ x → PurposeOk plan (ledger_of w) (client_of request) request (task.Calls o) p → ReturnsIt (prepared plan (replay_id (client_of request)) request.number (call_in request now o) p x c)
  prepared-returns now o purpose.ForSession (answer.Session s) is ok q there same fin = absurd (no_false (sym (subst (λ y. lets_go_on (op.Session session.Open) y ≡ false) is (subst (λ y. lets_go_on y a ≡ false) (op-of q (op.Session session.Open) there same ok.1) fin))))
  prepared-returns now o purpose.ForRound (answer.Value r) is ok q there same fin = absurd (no_false (sym (subst (λ y. lets_go_on (op.Latch ok.0.name latch.Round) y ≡ false) is (subst (λ y. lets_go_on y a ≡ false) (op-of q (op.Latch ok.0.name latch.Round) there same ok.2) fin))))
  prepared-returns now o p x is ok q there same fin = finished-returns now o p x q there same fin

  task-back : (x : Task) (now : Pending) → PurposeOk plan (ledger_of w) (client_of request) request x now.purpose → ReturnsIt (on_task plan (replay_id (client_of request)) request x now a c)
  task-back (task.Calls o) now ok q there same fin = prepared-returns now o now.purpose a refl ok q there same fin
  task-back (task.Beats s) now ok q there same fin = inl (ap is_beat (op-of q (op.Session (session.Beat s)) there same ok))

  task-returns : (t : Task) (now : Pending) → PurposeOk plan (ledger_of w) (client_of request) request t now.purpose → (x : Invocation × Answer) (q : Request) → Contains ((request, a) ∷ []) x → Contains w.requests q → q.call ≡ x.0 → lets_go_on q.op x.1 ≡ false
      → (is_beat q.op ≡ true) ⊎ ((r : Return) × Contains (on_task plan (replay_id (client_of request)) request t now a c).returns r × (return_call (client_of request) r ≡ x.0))
  task-returns t now ok x q h there same fin = let e = one-is (request, a) x h in
      subst (λ (y : Invocation × Answer). (is_beat q.op ≡ true) ⊎ ((r : Return) × Contains (on_task plan (replay_id (client_of request)) request t now a c).returns r × (return_call (client_of request) r ≡ y.0))) (sym e)
      (task-back t now ok q there (same ∙ ap (λ (y : Invocation × Answer). y.0) e) (subst (λ (y : Invocation × Answer). lets_go_on q.op y.1 ≡ false) e fin))

  one-answered : (x : Invocation × Answer) → Contains ((request, a) ∷ []) x → AnsweredBy w.requests w.history w.shown.number (length w.history) x.0 x.1
  one-answered x h = subst (λ (y : Invocation × Answer). AnsweredBy w.requests w.history w.shown.number (length w.history) y.0 y.1) (sym (one-is (request, a) x h)) given.answered

  nothing-ok : DidOk plan w (client_of request) (nothing c)
  nothing-ok = did plan w (client_of request) (nothing c) (midway-now plan w (client_of request) [] good) (λ x h. absurd (no-element x h)) (λ r h. absurd (no-element r h)) (λ x q h. absurd (no-element x h))

  pending-ok : (now : Option Pending) → (thread_at c request.thread).pending ≡ now → (thread_at c request.thread).number ≡ request.number → DidOk plan w (client_of request) (on_pending plan (replay_id (client_of request)) request now a c)
  pending-ok None is same = nothing-ok
  pending-ok (Some now) is same = did plan w (client_of request) (on_pending plan (replay_id (client_of request)) request (Some now) a c) (task-fine now.task now ok.of_task purpose_ok) one-answered (task-tells now.task now ok.of_task purpose_ok) (task-returns now.task now purpose_ok) where
    ok : PendingOk plan (ledger_of w) (client_of request) request.thread (thread_at c request.thread).number now
    ok = (good.clients (client_of request)).pending request.thread now is

    purpose_ok : PurposeOk plan (ledger_of w) (client_of request) request now.task now.purpose
    purpose_ok = subst (λ call. PurposeOk plan (ledger_of w) (client_of request) call now.task now.purpose) (same-request (thread_at c request.thread).number same) ok.for_purpose

  pub answer-ok : DidOk plan w (client_of request) (answer_client plan (replay_id (client_of request)) request a (client_at w (client_of request)))
  answer-ok = cases (DidOk plan w (client_of request)) ((thread_at c request.thread).number == request.number) _ _ (λ e. pending-ok (thread_at c request.thread).pending refl (same_number (thread_at c request.thread).number request.number e)) (λ e. nothing-ok)

-- ticks
test_not_less : (a b : ℕ) → not (nat_lt a b) ≡ true → b ≤ a
test_not_less a b h = grind (arith, nat_tests)

module _ (plan : Plan) (w : World) (me : ClientNo) (moved : Moved) (there : Contains w.moves moved) (of_event : moved.event ≡ w.shown.number) (of_client : moved.client ≡ me) where
  abbrev pub ReturnsTold : List Return → Type 0
  ReturnsTold rs = (r : Return) → Contains rs r → ToldBy (ledger_of w) w.shown.number me r

  record Late (d : Did) : Type 0 where
    pub client : Midway plan w me d.client [] []
    pub asked : d.asked ≡ []
    pub ended : d.ended ≡ []
    pub clock : d.client.clock ≡ moved.clock
    pub returns : ReturnsTold d.returns

  late-wish : (k d : ℕ) (x : Option ℕ) → deadline_of k x ≡ Some d → (ms : ℕ) × (x ≡ Some ms) × (k + patience + ms ≡ d)
  late-wish k d None e = absurd (none_some e)
  late-wish k d (Some ms) e = (ms, refl, same_some e)

  late-told : (c : Client) → Midway plan w me c [] [] → c.clock ≡ moved.clock → (t : ThreadNo) (now : Pending) → (thread_at c t).pending ≡ Some now → is_past c.clock now.deadline ≡ true
      → ToldBy (ledger_of w) w.shown.number me (record { thread = t; number = (thread_at c t).number; ending = ending.Answered (answer.Indeterminate ended_by.Deadline) })
  late-told c m clock t now is past = by now.task now.deadline past (m.client.pending t now is).of_task where
    by : (x : Task) (deadline : Option ℕ) → is_past c.clock deadline ≡ true → TaskOk (with_step w [] []) me t deadline x → ToldBy (ledger_of w) w.shown.number me (record { thread = t; number = (thread_at c t).number; ending = ending.Answered (answer.Indeterminate ended_by.Deadline) })
    by (task.Beats s) deadline past none = absurd (no (sym (ap (is_past c.clock) none) ∙ past)) where
      no : false ≡ true → ⊥
      no k = cc
    by (task.Calls o) None past k = absurd (no past) where
      no : false ≡ true → ⊥
      no e = cc
    by (task.Calls o) (Some d) past k = let x = late-wish k.0.clock d (wish_of o) (sym k.5) in
        let l = test_not_less c.clock d past in let e = x.2 in
        by_clock k.0 moved x.0 k.1 k.2 k.3 (ap wish_of k.4 ∙ x.1) there of_event of_client k.6 (omega (arith, l, e, clock)) refl

  late-each : (c : Client) → Midway plan w me c [] [] → c.clock ≡ moved.clock → (t : ThreadNo) → Late (end_late t c)
  late-each c m clock t = cases Late (is_late c.clock (thread_at c t).pending) _ _
      (λ late. record { client = idle-midway plan w me [] [] t (thread_at c t).number c (le_refl (thread_at c t).number) m; asked = refl; ended = refl; clock = clock; returns = λ r h. subst (ToldBy (ledger_of w) w.shown.number me) (sym (one-is (record { thread = t; number = (thread_at c t).number; ending = ending.Answered (answer.Indeterminate ended_by.Deadline) }) r h)) (told (thread_at c t).pending refl late) })
      (λ early. record { client = m; asked = refl; ended = refl; clock = clock; returns = λ r h. absurd (no-element r h) })
    where
      told : (o : Option Pending) → (thread_at c t).pending ≡ o → is_late c.clock o ≡ true → ToldBy (ledger_of w) w.shown.number me (record { thread = t; number = (thread_at c t).number; ending = ending.Answered (answer.Indeterminate ended_by.Deadline) })
      told None is late = absurd (no late) where
        no : false ≡ true → ⊥
        no e = cc
      told (Some now) is late = late-told c m clock t now is late

  late-all : (ts : List ThreadNo) (c : Client) → Midway plan w me c [] [] → c.clock ≡ moved.clock → Late (end_each ts c)
  late-all [] c m clock = record { client = m; asked = refl; ended = refl; clock = clock; returns = λ r h. absurd (no-element r h) }
  late-all (t ∷ ts) c m clock = let x = late-each c m clock t in let y = late-all ts (end_late t c).client x.client x.clock in record {
    client = y.client;
    asked = rw (x.asked, y.asked);
    ended = rw (x.ended, y.ended);
    clock = y.clock;
    returns = λ r h. both x.returns y.returns r (Contains-append_cases (end_late t c).returns (end_each ts (end_late t c).client).returns r h);
  }
    where
      both : ReturnsTold (end_late t c).returns → ReturnsTold (end_each ts (end_late t c).client).returns → (r : Return) → Contains (end_late t c).returns r ⊎ Contains (end_each ts (end_late t c).client).returns r → ToldBy (ledger_of w) w.shown.number me r
      both f g r (inl h) = f r h
      both f g r (inr h) = g r h

  -- beats
  record Beaten (asked : List Asked) (d : Did) : Type 0 where
    pub client : Midway plan w me d.client (asked ++ d.asked) []
    pub ended : d.ended ≡ []
    pub returns : d.returns ≡ []

  no-more : (xs : List Asked) → xs ++ [] ≡ xs
  no-more xs = push-none xs [] refl

  beat-fine : (asked : List Asked) (g : ℕ) (own : OwnSession) (c : Client) → OpenedIn w.history own.id (replay_id me) → Midway plan w me c asked [] → Beaten asked (beat (replay_id me) g own c)
  beat-fine asked g own c opened m = let b : Client = record c { sessions = put nat_cmp c.sessions g (record { id = own.id; beat = c.clock }) } in record {
    client = ask-midway plan w me asked [] own_thread (record { group = record { 0 = g }; task = task.Beats own.id; purpose = purpose.ForItself own.id; deadline = None }) (op.Session (session.Beat own.id)) (record c { sessions = put nat_cmp c.sessions g (record { id = own.id; beat = c.clock }) })
        (records-midway plan w me asked [] c (put nat_cmp c.sessions g (record { id = own.id; beat = c.clock })) c.holds (rows-put nat_cmp number_key (λ k (x : OwnSession). OpenedIn w.history x.id (replay_id me)) c.sessions g (record { id = own.id; beat = c.clock }) opened m.client.own) m.client.held m)
        (record {
          of_task = refl;
          for_purpose = known-now plan w me asked [] own_thread (record { group = record { 0 = g }; task = task.Beats own.id; purpose = purpose.ForItself own.id; deadline = None }) (op.Session (session.Beat own.id)) (record c { sessions = put nat_cmp c.sessions g (record { id = own.id; beat = c.clock }) })
              (records-midway plan w me asked [] c (put nat_cmp c.sessions g (record { id = own.id; beat = c.clock })) c.holds (rows-put nat_cmp number_key (λ k (x : OwnSession). OpenedIn w.history x.id (replay_id me)) c.sessions g (record { id = own.id; beat = c.clock }) opened m.client.own) m.client.held m);
        }) (λ s used. subst (λ x. OpenedIn w.history x (replay_id me)) (sym (one-is own.id s used)) opened, tt)
        (inr (moved, own.id, there, of_event, ap replay_id (sym of_client), refl, refl));
    ended = refl;
    returns = refl;
  }

  due-fine : (asked : List Asked) (g : ℕ) (own : OwnSession) (c : Client) → OpenedIn w.history own.id (replay_id me) → Midway plan w me c asked [] → Beaten asked (beat_if_due (replay_id me) g own c)
  due-fine asked g own c opened m = either (Beaten asked) (is_due own c) _ _ (beat-fine asked g own c opened m) (record { client = subst (λ xs. Midway plan w me c xs []) (sym (no-more asked)) m; ended = refl; returns = refl })

  each-fine : (rows : Sessions) (asked : List Asked) (c : Client) → All (λ (e : ℕ × OwnSession). OpenedIn w.history e.1.id (replay_id me)) rows → Midway plan w me c asked [] → Beaten asked (beat_each (replay_id me) rows c)
  each-fine [] asked c own m = record { client = subst (λ xs. Midway plan w me c xs []) (sym (no-more asked)) m; ended = refl; returns = refl }
  each-fine (row ∷ rows) asked c own m = let x = due-fine asked row.0 row.1 c (All-head (λ (e : ℕ × OwnSession). OpenedIn w.history e.1.id (replay_id me)) row rows own) m in
      let y = each-fine rows (asked ++ (beat_if_due (replay_id me) row.0 row.1 c).asked) (beat_if_due (replay_id me) row.0 row.1 c).client (All-tail (λ (e : ℕ × OwnSession). OpenedIn w.history e.1.id (replay_id me)) row rows own) x.client in record {
        client = subst (λ xs. Midway plan w me (beat_each (replay_id me) (row ∷ rows) c).client xs []) (append_assoc asked (beat_if_due (replay_id me) row.0 row.1 c).asked (beat_each (replay_id me) rows (beat_if_due (replay_id me) row.0 row.1 c).client).asked) y.client;
        ended = rw (x.ended, y.ended);
        returns = rw (x.returns, y.returns);
      }

  tick-midway : (ms : ℕ) → Good plan w → Midway plan w me (record (client_at w me) { clock = (client_at w me).clock + ms }) [] []
  tick-midway ms good = let m = midway-now plan w me [] good in record { client = record { own = m.client.own; held = m.client.held; pending = m.client.pending }; rises = m.rises; fresh = m.fresh; distinct = m.distinct; rising = m.rising; legal = m.legal; sources = m.sources }

  from : (c : Client) → Midway plan w me c [] [] → c.clock ≡ moved.clock → DidOk plan w me (and_then (end_each user_threads c) (beats (replay_id me)))
  from c m clock = let x = late-all user_threads c m clock in
      let y = each-fine (end_each user_threads c).client.sessions [] (end_each user_threads c).client x.client.client.own x.client in
      did plan w me (and_then (end_each user_threads c) (beats (replay_id me)))
      (subst (λ ended. Midway plan w me (beats (replay_id me) (end_each user_threads c).client).client ((end_each user_threads c).asked ++ (beats (replay_id me) (end_each user_threads c).client).asked) ended) (sym (none x.ended y.ended))
      (subst (λ asked. Midway plan w me (beats (replay_id me) (end_each user_threads c).client).client (asked ++ (beats (replay_id me) (end_each user_threads c).client).asked) []) (sym x.asked) y.client))
      (λ z h. absurd (no-element z (subst (λ es. Contains es z) (none x.ended y.ended) h)))
      (λ r h. told x.returns y.returns r (Contains-append_cases (end_each user_threads c).returns (beats (replay_id me) (end_each user_threads c).client).returns r h))
      (λ z q h. absurd (no-element z (subst (λ es. Contains es z) (none x.ended y.ended) h)))
    where
      none : {X : Type 0} {xs ys : List X} → xs ≡ [] → ys ≡ [] → xs ++ ys ≡ []
      none e f = rw (e, f)

      d : Did
      d = and_then (end_each user_threads c) (beats (replay_id me))

      told : ReturnsTold (end_each user_threads c).returns → (beats (replay_id me) (end_each user_threads c).client).returns ≡ [] → (r : Return) → Contains (end_each user_threads c).returns r ⊎ Contains (beats (replay_id me) (end_each user_threads c).client).returns r
          → ToldBy (ledger_of (note me (and_then (end_each user_threads c) (beats (replay_id me))) w)) w.shown.number me r
      told f none r (inl h) = told-on (ledger_of w) (ledger_of (note me (and_then (end_each user_threads c) (beats (replay_id me))) w))
          (record { history = λ s client k. k; requests = λ q k. Contains-append_left w.requests _ q k; ends = λ e k. Contains-append_left w.ends _ e k; calls = λ q k. k; moves = λ q k. k; now = le_refl w.shown.number }) w.shown.number me r (f r h)
      told f none r (inr h) = absurd (no-element r (subst (λ rs. Contains rs r) none h))

pub tick-ok : (plan : Plan) (w : World) (me : ClientNo) (ms : ℕ) → Good plan w → Contains w.moves (record { event = w.shown.number; client = me; ms = ms; clock = (client_at w me).clock + ms }) → DidOk plan w me (tick_client (replay_id me) ms (client_at w me))
tick-ok plan w me ms good there = from plan w me (record { event = w.shown.number; client = me; ms = ms; clock = (client_at w me).clock + ms }) there refl refl (record (client_at w me) { clock = (client_at w me).clock + ms })
    (tick-midway plan w me (record { event = w.shown.number; client = me; ms = ms; clock = (client_at w me).clock + ms }) there refl refl ms good) refl
