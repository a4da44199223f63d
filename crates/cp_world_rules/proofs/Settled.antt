-- After an event no answer waits to be handed on, and no request is open that only prepares a call.
use Rattle.std.proofs.Common.{is_some, ◌≡◌, ℕ, ◌+◌, ◌*◌, ◌^◌, ◌≤◌, ◌⊎◌, inl, inr, Bool, true, false, List, [], ◌∷◌, ◌++◌, Some, None, Option, refl, sym, subst, ap, ◌∙◌, arith, length, le_refl, if◌then◌else◌, suc}
use Rattle.std.specs.Prelude.{Contains, nat_lt, ◌==◌, unsigned_abs}
use Rattle.std.specs.Ordering.{nat_cmp, is_eq}
use Rattle.std.specs.BTreeMap.{is_at}
use Rattle.std.proofs.lemmas.Bool.Decides.{nat_tests}
use Rattle.std.proofs.lemmas.List.{length_push}
use Rattle.std.proofs.lemmas.List.Elements.{Contains-append_right}
use Rattle.cp_base.specs.Identifiers.{replay_id}
use Rattle.cp_base.specs.declared.identifier.ClientId.{ClientId}
use Rattle.cp_base.specs.declared.identifier.ClientNo.{ClientNo}
use Rattle.cp_base.specs.declared.identifier.GroupId.{GroupId}
use Rattle.cp_base.specs.declared.identifier.Invocation.{Invocation}
use Rattle.cp_base.specs.declared.identifier.ThreadNo.{ThreadNo}
use Rattle.cp_base.proofs.Tests.{none_some, same_some, no_false}
use Rattle.cp_answers.specs.declared.answer.Answer.{Answer}
use Rattle.cp_answers.specs.declared.answer.Answer.TheVariants as answer
use Rattle.cp_ops.specs.declared.entry.Entry.TheVariants as entry
use Rattle.cp_op_values.specs.declared.kind.Kind.TheVariants as kind
use Rattle.cp_object_ops.specs.declared.latch_op.LatchOp.TheVariants as latch
use Rattle.cp_ops.specs.declared.op.Op.{Op}
use Rattle.cp_ops.specs.declared.op.Op.TheVariants as op
use Rattle.cp_ops.specs.declared.session_op.SessionOp.TheVariants as session
use Rattle.cp_events.specs.declared.event.Event.{Event}
use Rattle.cp_events.specs.declared.event.Event.TheVariants as event
use Rattle.cp_events.specs.declared.plan.Plan.{Plan}
use Rattle.cp_events.specs.declared.user_op.UserOp.{UserOp}
use Rattle.cp_events.specs.declared.user_op.UserOp.TheVariants as user
use Rattle.cp_group_state.specs.declared.rows.SessionRow.{SessionRow}
use Rattle.cp_group_state.specs.Rows.{find, put, without, has_room, most}
use Rattle.cp_group_state.specs.Sessions.{session_of}
use Rattle.cp_group_state.specs.GroupState.{GroupState}
use Rattle.cp_group_state.specs.Changes.{Change}
use Rattle.cp_group_state.specs.Outcomes.{Outcome}
use Rattle.cp_group_state.specs.Destroying.{is_gone}
use Rattle.cp_group_state.specs.SessionRules.{opened}
use Rattle.cp_group_state.specs.Apply.{Applied, apply, perform, settle, supersede, told}
use Rattle.cp_group_state.proofs.Keyed.{equal_is, find-put_same, find-put_other, number_key}
use Rattle.cp_group_state.proofs.Walk.{cases, either}
use Rattle.cp_group_causes.proofs.Lists.{at-head, no-element, one-only}
use Rattle.cp_client_rules.specs.declared.rows.HoldRecord.{HoldRecord}
use Rattle.cp_client_rules.specs.declared.rows.OwnSession.{OwnSession}
use Rattle.cp_client_rules.specs.declared.rows.Pending.{Pending}
use Rattle.cp_client_rules.specs.declared.rows.Purpose.{Purpose}
use Rattle.cp_client_rules.specs.declared.rows.Purpose.TheVariants as purpose
use Rattle.cp_client_rules.specs.declared.rows.Task.{Task}
use Rattle.cp_client_rules.specs.declared.rows.Task.TheVariants as task
use Rattle.cp_client_rules.specs.declared.rows.Thread.{Thread}
use Rattle.cp_client_rules.specs.Asking.{Need, Nothing, HoldingSession, ItsSession, SessionToClose, Round, default_group, group_of, need_of, wish_of}
use Rattle.cp_client_rules.specs.Clients.{Asked, Client, Did, Sessions, and_then, ask, done_at_once, id_of, idle, lock_cmp, next_request, nothing, session_in_group, thread_at, with_thread}
use Rattle.cp_client_rules.specs.Clients as clients
use Rattle.cp_client_rules.specs.Sessions.{forget_session, forgets, has_session, is_session, sessions_after, with_session}
use Rattle.cp_client_rules.specs.Calls.{Call, ask_itself, by_need, call_client, closing, deadline_of, holding_session, in_session, or_own, pending_of}
use Rattle.cp_client_rules.specs.Answers.{answer_client, call_in, finished, on_pending, on_task, prepared}
use Rattle.cp_client_rules.specs.Ticks.{beat, beat_each, beat_if_due, beats, end_each, end_late, is_due, is_late, own_thread, tick_client, user_threads}
use Rattle.cp_world_rules.specs.Rows.{Committed}
use Rattle.cp_world_rules.specs.World.{World, begin, calls_if_idle, client_at, client_of, commit, commit_all, does, hand_all, hand_on, handed, is_client, moves_if_room, moves_now, new_world, note, or_new, start, world_after, world_step}
use Rattle.cp_world_rules.specs.Requests.{needs_session}
use Rattle.cp_world_rules.specs.Laws.{IsSettled, is_for_itself}
use Rattle.cp_world_rules.proofs.Lists.{push-none}
use Rattle.cp_world_rules.proofs.GroupLaws.{prepares}

abbrev pub PendingIs : Thread → Pending → Type 0
PendingIs row now = row.pending ≡ Some now

-- A client has a session in the group `default` alone.
abbrev pub OneSession : Sessions → Type 0
OneSession sessions = (sessions ≡ []) ⊎ ((s : OwnSession) × (sessions ≡ (1, s) ∷ []))

one-put : (sessions : Sessions) (s : OwnSession) → OneSession sessions → OneSession (put nat_cmp sessions 1 s)
one-put sessions s (inl e) = inr (s, rw e refl)
one-put sessions s (inr h) = inr (s, rw h.1 refl)

one-without : (sessions : Sessions) (g : ℕ) → OneSession sessions → OneSession (without nat_cmp sessions g)
one-without sessions g (inl e) = inl (rw e refl)
one-without sessions g (inr h) = subst (λ (rows : Sessions). OneSession (without nat_cmp rows g)) (sym h.1) (by (is_at (nat_cmp g) 1)) where
  by : (b : Bool) → OneSession (if b then [] else (1, h.0) ∷ [])
  by true = inl refl
  by false = inr (h.0, refl)

one-forget : (g : GroupId) (s : ℕ) (sessions : Sessions) → OneSession sessions → OneSession (forget_session g s sessions)
one-forget g s sessions h = either OneSession (is_session s (find nat_cmp sessions g.0)) _ _ (one-without sessions g.0 h) h

one-forgets : (g : GroupId) (a : Answer) (sessions : Sessions) → OneSession sessions → OneSession (forgets g a sessions)
one-forgets g (answer.SessionExpired s) sessions h = one-forget g s sessions h
one-forgets g (answer.GroupDestroyed d) sessions h = one-without sessions g.0 h
one-forgets g a sessions h = h

one-after : (g : GroupId) (o : UserOp) (p : Purpose) (a : Answer) (sessions : Sessions) → OneSession sessions → OneSession (sessions_after g o p a sessions)
one-after g (user.CloseSession name) (purpose.ForItself s) answer.Ok sessions h = one-forget g s sessions h
one-after g o p a sessions h = one-forgets g a sessions h

one-with : (g : GroupId) (s : ℕ) (c : Client) → g ≡ default_group → OneSession c.sessions → OneSession (with_session g s c).sessions
one-with g s c is h = either (λ (x : Client). OneSession x.sessions) (has_session g s c) _ _ h (subst (λ (d : GroupId). OneSession (put nat_cmp c.sessions d.0 (record { id = s; beat = c.clock }))) (sym is) (one-put c.sessions (record { id = s; beat = c.clock }) h))

-- a call that needs a session is of the group `default`
abbrev pub IsReady : Task → Purpose → GroupId → Type 0
IsReady (task.Calls o) purpose.ForSession g = (needs_session (need_of o) ≡ true) × (g ≡ default_group)
IsReady x p g = Unit {0}

session-group : (o : UserOp) → needs_session (need_of o) ≡ true → group_of o ≡ default_group
session-group (user.Group o) e = absurd (no_false e)
session-group (user.Member o) e = absurd (no_false e)
session-group (user.Long object o) e = refl
session-group (user.Ref object o) e = refl
session-group (user.Lock object o) e = refl
session-group (user.Sem object o) e = refl
session-group (user.Jsem object o) e = refl
session-group (user.Latch object o) e = refl
session-group (user.Map object o) e = refl
session-group (user.Destroy which object) e = refl
session-group (user.CloseSession name) e = refl
session-group (user.Change o) e = refl

-- the pending request of thread t, if any, is for its task itself; other threads are as they were
abbrev pub Settles : Client → ThreadNo → Client → Type 0
Settles c t after = (x : ThreadNo) (now : Pending) → PendingIs (thread_at after x) now → (is_for_itself now.purpose ≡ true) ⊎ ((is_at (nat_cmp x.0) t.0 ≡ false) × (thread_at after x ≡ thread_at c x))

row-settles : (c after : Client) (t : ThreadNo) (row : Thread) → after.threads ≡ put nat_cmp c.threads t.0 row → ((now : Pending) → PendingIs row now → is_for_itself now.purpose ≡ true) → Settles c t after
row-settles c after t row e mine x now is = by (is_at (nat_cmp x.0) t.0) refl where
  by : (b : Bool) → is_at (nat_cmp x.0) t.0 ≡ b → (is_for_itself now.purpose ≡ true) ⊎ ((is_at (nat_cmp x.0) t.0 ≡ false) × (thread_at after x ≡ thread_at c x))
  by true k = let same : x.0 ≡ t.0 = number_key.same x.0 t.0 (equal_is _ k) in
      let here : thread_at after x ≡ row = ap (λ y. clients.or_new (find nat_cmp after.threads y)) same ∙ (ap (λ rows. clients.or_new (find nat_cmp rows t.0)) e ∙ ap clients.or_new (find-put_same nat_cmp number_key c.threads t.0 row)) in
      inl (mine now (ap (λ (r : Thread). r.pending) (sym here) ∙ is))
  by false k = inr (k, ap (λ rows. clients.or_new (find nat_cmp rows x.0)) e ∙ ap clients.or_new (find-put_other nat_cmp number_key c.threads t.0 x.0 row k))

none-pending : (n : ℕ) (now : Pending) → PendingIs (record { number = n; pending = None }) now → is_for_itself now.purpose ≡ true
none-pending n now e = absurd (none_some e)

one-pending : (n : ℕ) (p : Pending) → is_for_itself p.purpose ≡ true → (now : Pending) → PendingIs (record { number = n; pending = Some p }) now → is_for_itself now.purpose ≡ true
one-pending n p h now e = subst (λ (x : Pending). is_for_itself x.purpose ≡ true) (same_some e) h

-- what a step leads to at a client
abbrev pub Leads : Client → ThreadNo → Did → Type 0
Leads c t d = Settles c t d.client × (length d.asked ≤ 1) × OneSession d.client.sessions

module _ (plan : Plan) (me : ClientId) (call : Call) (c b : Client) (same : b.threads ≡ c.threads) (one : OneSession b.sessions) where
  itself-leads : (s n : ℕ) → Leads c call.thread (ask_itself plan me call s n b)
  itself-leads s n = (
    row-settles c (ask_itself plan me call s n b).client call.thread (record { number = (thread_at b call.thread).number + 1; pending = Some (pending_of call (purpose.ForItself s)) })
        (ap (λ rows. put nat_cmp rows call.thread.0 (record { number = (thread_at b call.thread).number + 1; pending = Some (pending_of call (purpose.ForItself s)) })) same)
        (one-pending ((thread_at b call.thread).number + 1) (pending_of call (purpose.ForItself s)) refl),
    le_refl 1,
    one,
  )

  session-leads : (so : Option ℕ) → is_some so ≡ true → Leads c call.thread (in_session plan me call so b)
  session-leads None h = absurd (no_false h)
  session-leads (Some s) h = itself-leads s 0

  hold-some : (h : Option HoldRecord) (own : Option ℕ) → is_some own ≡ true → is_some (or_own h own) ≡ true
  hold-some None own e = e
  hold-some (Some h) own e = refl

  need-leads : (need : Need) → is_some (session_in_group b call.group) ≡ true → needs_session need ≡ true → Leads c call.thread (by_need plan me need call b)
  need-leads Nothing own h = absurd (no_false h)
  need-leads (HoldingSession name) own h = session-leads (holding_session call name b) (hold-some (find lock_cmp b.holds (call.thread.0, call.group.0, name)) (session_in_group b call.group) own)
  need-leads ItsSession own h = session-leads (session_in_group b call.group) own
  need-leads SessionToClose own h = absurd (no_false h)
  need-leads (Round name) own h = absurd (no_false h)

with-some : (g : GroupId) (s : ℕ) (c : Client) → is_some (session_in_group (with_session g s c) g) ≡ true
with-some g s c = cases (λ (x : Client). is_some (session_in_group x g) ≡ true) (has_session g s c) _ _ (some (find nat_cmp c.sessions g.0))
    (λ e. ap (λ o. is_some (id_of o)) (find-put_same nat_cmp number_key c.sessions g.0 (record { id = s; beat = c.clock })))
  where
    some : (o : Option OwnSession) → is_session s o ≡ true → is_some (id_of o) ≡ true
    some None e = e
    some (Some x) e = refl

with-threads : (g : GroupId) (s : ℕ) (c : Client) → (with_session g s c).threads ≡ c.threads
with-threads g s c = either (λ (x : Client). x.threads ≡ c.threads) (has_session g s c) _ _ refl refl

module _ (plan : Plan) (me : ClientId) (request : Invocation) (c : Client) (one : OneSession c.sessions) where
  finished-leads : (o : UserOp) (now : Pending) (p : Purpose) (a : Answer) → Leads c request.thread (finished request.number (call_in request now o) p a c)
  finished-leads o now p a = (row-settles c (finished request.number (call_in request now o) p a c).client request.thread (record { number = (thread_at c request.thread).number; pending = None }) refl (none-pending (thread_at c request.thread).number), omega arith, one-after now.group o p a c.sessions one)

  prepared-leads : (o : UserOp) (now : Pending) (p : Purpose) (a : Answer) → IsReady (task.Calls o) p now.group → Leads c request.thread (prepared plan me request.number (call_in request now o) p a c)
  prepared-leads o now purpose.ForSession (answer.Session s) ready = need-leads plan me (call_in request now o) c (with_session now.group s c) (with-threads now.group s c) (one-with now.group s c ready.1 one) (need_of o) (with-some now.group s c) ready.0
  prepared-leads o now purpose.ForRound (answer.Value n) ready = itself-leads plan me (call_in request now o) c c refl one 0 (unsigned_abs n)
  prepared-leads o now p a ready = finished-leads o now p a

  task-leads : (x : Task) (now : Pending) (a : Answer) → IsReady x now.purpose now.group → Leads c request.thread (on_task plan me request x now a c)
  task-leads (task.Calls o) now a ready = prepared-leads o now now.purpose a ready
  task-leads (task.Beats s) now a ready = (row-settles c (on_task plan me request (task.Beats s) now a c).client request.thread (record { number = (thread_at c request.thread).number; pending = None }) refl (none-pending (thread_at c request.thread).number), omega arith, one-forgets now.group a c.sessions one)

  -- an answer to a request for the task itself asks nothing
  itself-quiet : (x : Task) (now : Pending) (a : Answer) → is_for_itself now.purpose ≡ true → (on_task plan me request x now a c).asked ≡ []
  itself-quiet (task.Beats s) now a h = refl
  itself-quiet (task.Calls o) now a h = by now.purpose h where
    by : (p : Purpose) → is_for_itself p ≡ true → (prepared plan me request.number (call_in request now o) p a c).asked ≡ []
    by (purpose.ForItself s) h = refl
    by purpose.ForSession h = absurd (no_false h)
    by purpose.ForRound h = absurd (no_false h)

ready-itself : (x : Task) (p : Purpose) (g : GroupId) → is_for_itself p ≡ true → IsReady x p g
ready-itself (task.Calls o) (purpose.ForItself s) g h = tt
ready-itself (task.Calls o) purpose.ForRound g h = tt
ready-itself (task.Calls o) purpose.ForSession g h = absurd (no_false h)
ready-itself (task.Beats s) p g h = tt

-- Of the world.
abbrev pub QuietClient : Client → Type 0
QuietClient c = ((t : ThreadNo) (now : Pending) → PendingIs (thread_at c t) now → is_for_itself now.purpose ≡ true) × OneSession c.sessions

abbrev pub Quiet : World → Type 0
Quiet w = (me : ClientNo) → QuietClient (client_at w me)

abbrev pub IsAt : Invocation → ClientNo → ThreadNo → ℕ → Type 0
IsAt call me t number = (me ≡ client_of call) × (t ≡ call.thread) × (number ≡ call.number)

-- quiet but for the request of this call
abbrev pub ButClient : Invocation → ClientNo → Client → Type 0
ButClient call me c = ((t : ThreadNo) (now : Pending) → PendingIs (thread_at c t) now → (is_for_itself now.purpose ≡ true) ⊎ (IsAt call me t (thread_at c t).number × IsReady now.task now.purpose now.group)) × OneSession c.sessions

abbrev pub But : Invocation → World → Type 0
But call w = (me : ClientNo) → ButClient call me (client_at w me)

-- commits leave the clients
commits-clients : (asked : List Asked) (w : World) → (commit_all asked w).clients ≡ w.clients
commits-clients [] w = refl
commits-clients (a ∷ asked) w = commits-clients asked (commit a w)

pub at-client : (w : World) (me : ClientNo) (d : Did) (P : ClientNo → Client → Type 0) → P me d.client → ((x : ClientNo) → is_at (nat_cmp x.0) me.0 ≡ false → P x (client_at w x)) → (x : ClientNo) → P x (client_at (does me d w) x)
at-client w me d P mine others x = subst (λ rows. P x (or_new (find nat_cmp rows x.0))) (sym (commits-clients d.asked (note me d w))) (by (is_at (nat_cmp x.0) me.0) refl) where
  by : (b : Bool) → is_at (nat_cmp x.0) me.0 ≡ b → P x (or_new (find nat_cmp (put nat_cmp w.clients me.0 d.client) x.0))
  by true e = let same : x ≡ me = ap (λ n. record { 0 = n }) (number_key.same x.0 me.0 (equal_is _ e)) in
      subst (λ (y : ClientNo). P y (or_new (find nat_cmp (put nat_cmp w.clients me.0 d.client) y.0))) (sym same) (subst (λ o. P me (or_new o)) (sym (find-put_same nat_cmp number_key w.clients me.0 d.client)) mine)
  by false e = subst (λ o. P x (or_new o)) (sym (find-put_other nat_cmp number_key w.clients me.0 x.0 d.client e)) (others x e)

-- how many entries a step makes
pub commits-grow : (asked : List Asked) (w : World) → length (commit_all asked w).history ≡ length w.history + length asked
commits-grow [] w = omega arith
commits-grow (a ∷ asked) w = let e = commits-grow asked (commit a w) in let l : length (w.history ++ record { event = w.shown.number; entry = entry.Call a.call a.op } ∷ []) ≡ length w.history + 1 = length_push w.history (record { event = w.shown.number; entry = entry.Call a.call a.op }) in omega (arith, e, l)

abbrev IsPair : Invocation × Answer → Invocation × Answer → Type 0
IsPair p q = p ≡ q

-- a step that asks nothing
abbrev pub SameGroup : World → World → Type 0
SameGroup w v = (v.queue ≡ w.queue) × (v.history ≡ w.history)

silent : (me : ClientNo) (d : Did) (w : World) → d.asked ≡ [] → SameGroup w (does me d w)
silent me d w none = subst (λ asked. SameGroup w (commit_all asked (note me d w))) (sym none) (refl, refl)

no_test : (n : ℕ) → (n == n) ≡ false → ⊥
no_test n h = grind (arith, nat_tests)

not_at : (t : ℕ) → is_at (nat_cmp t) t ≡ false → ⊥
not_at t h = no (sym (ap is_eq (number_key.here t)) ∙ h) where
  no : true ≡ false → ⊥
  no e = cc

-- what a hand-over leads to while a call prepares
pub data HandedOn (call : Invocation) (a : Invocation) (w v : World) : Type 0 where
  over : Quiet v → length v.history ≤ length w.history + 1 → HandedOn call a w v
  still : But call v → SameGroup w v → (a ≡ call → Quiet v) → HandedOn call a w v

module _ (plan : Plan) (call : Invocation) (w : World) (but : But call w) (a : Invocation × Answer) where
  abbrev pub me : ClientNo
  me = client_of a.0

  abbrev pub c : Client
  c = client_at w (client_of a.0)

  abbrev pub Shows : Did → Type 0
  Shows d = HandedOn call a.0 w (does (client_of a.0) d w)

  others-quiet : a.0 ≡ call → (x : ClientNo) → is_at (nat_cmp x.0) (client_of a.0).0 ≡ false → QuietClient (client_at w x)
  others-quiet same x e = (λ t now is. by t now ((but x).0 t now is), (but x).1) where
    by : (t : ThreadNo) (now : Pending) → (is_for_itself now.purpose ≡ true) ⊎ (IsAt call x t (thread_at (client_at w x) t).number × IsReady now.task now.purpose now.group) → is_for_itself now.purpose ≡ true
    by t now (inl h) = h
    by t now (inr h) = let k : x ≡ client_of a.0 = h.0.0 ∙ ap client_of (sym same) in absurd (not_at (client_of a.0).0 (subst (λ (y : ClientNo). is_at (nat_cmp y.0) (client_of a.0).0 ≡ false) k e))

  -- an answer that is dropped
  dropped : (a.0 ≡ call → (now : Pending) → PendingIs (thread_at c a.0.thread) now → (thread_at c a.0.thread).number ≡ call.number → ⊥) → Shows (nothing c)
  dropped apart = still (at-client w (client_of a.0) (nothing c) (ButClient call) (but (client_of a.0)) (λ x e. but x)) (refl, refl)
      (λ same. at-client w (client_of a.0) (nothing c) (λ x y. QuietClient y) (λ t now is. mine same t now is ((but (client_of a.0)).0 t now is), (but (client_of a.0)).1) (others-quiet same))
    where
      mine : a.0 ≡ call → (t : ThreadNo) (now : Pending) → PendingIs (thread_at c t) now → (is_for_itself now.purpose ≡ true) ⊎ (IsAt call (client_of a.0) t (thread_at c t).number × IsReady now.task now.purpose now.group) → is_for_itself now.purpose ≡ true
      mine same t now is (inl h) = h
      mine same t now is (inr h) = let e : t ≡ a.0.thread = h.0.1 ∙ ap (λ (x : Invocation). x.thread) (sym same) in
          absurd (apart same now (subst (λ y. PendingIs (thread_at c y) now) e is) (subst (λ y. (thread_at c y).number ≡ call.number) e h.0.2))

  -- an answer to the pending request
  but-then : (d : Did) → Settles c a.0.thread d.client → OneSession d.client.sessions → But call (does (client_of a.0) d w)
  but-then d s one = at-client w (client_of a.0) d (ButClient call) (λ t now is. at t now is (s t now is), one) (λ x e. but x) where
    at : (t : ThreadNo) (now : Pending) → PendingIs (thread_at d.client t) now → (is_for_itself now.purpose ≡ true) ⊎ ((is_at (nat_cmp t.0) a.0.thread.0 ≡ false) × (thread_at d.client t ≡ thread_at c t))
        → (is_for_itself now.purpose ≡ true) ⊎ (IsAt call (client_of a.0) t (thread_at d.client t).number × IsReady now.task now.purpose now.group)
    at t now is (inl h) = inl h
    at t now is (inr h) = subst (λ (r : Thread). (is_for_itself now.purpose ≡ true) ⊎ (IsAt call (client_of a.0) t r.number × IsReady now.task now.purpose now.group)) (sym h.1) ((but (client_of a.0)).0 t now (subst (λ (r : Thread). PendingIs r now) h.1 is))

  quiet-then : (d : Did) → Settles c a.0.thread d.client → OneSession d.client.sessions → client_of a.0 ≡ client_of call → a.0.thread ≡ call.thread → Quiet (does (client_of a.0) d w)
  quiet-then d s one ec et = at-client w (client_of a.0) d (λ x y. QuietClient y) (λ t now is. at t now is (s t now is), one) (λ x e. (λ t now is. others x e t now ((but x).0 t now is), (but x).1)) where
    old : (t : ThreadNo) (now : Pending) → is_at (nat_cmp t.0) a.0.thread.0 ≡ false → (is_for_itself now.purpose ≡ true) ⊎ (IsAt call (client_of a.0) t (thread_at c t).number × IsReady now.task now.purpose now.group) → is_for_itself now.purpose ≡ true
    old t now k (inl h) = h
    old t now k (inr h) = absurd (not_at a.0.thread.0 (subst (λ (y : ThreadNo). is_at (nat_cmp y.0) a.0.thread.0 ≡ false) (h.0.1 ∙ sym et) k))

    at : (t : ThreadNo) (now : Pending) → PendingIs (thread_at d.client t) now → (is_for_itself now.purpose ≡ true) ⊎ ((is_at (nat_cmp t.0) a.0.thread.0 ≡ false) × (thread_at d.client t ≡ thread_at c t)) → is_for_itself now.purpose ≡ true
    at t now is (inl h) = h
    at t now is (inr h) = old t now h.0 ((but (client_of a.0)).0 t now (subst (λ (r : Thread). PendingIs r now) h.1 is))

    others : (x : ClientNo) → is_at (nat_cmp x.0) (client_of a.0).0 ≡ false → (t : ThreadNo) (now : Pending) → (is_for_itself now.purpose ≡ true) ⊎ (IsAt call x t (thread_at (client_at w x) t).number × IsReady now.task now.purpose now.group) → is_for_itself now.purpose ≡ true
    others x e t now (inl h) = h
    others x e t now (inr h) = absurd (not_at (client_of a.0).0 (subst (λ (y : ClientNo). is_at (nat_cmp y.0) (client_of a.0).0 ≡ false) (h.0.0 ∙ sym ec) e))

  answered-one : (now : Pending) → (is_for_itself now.purpose ≡ true) ⊎ (IsAt call (client_of a.0) a.0.thread (thread_at c a.0.thread).number × IsReady now.task now.purpose now.group) → Shows (on_pending plan (replay_id (client_of a.0)) a.0 (Some now) a.1 c)
  answered-one now (inl h) = let d = on_pending plan (replay_id (client_of a.0)) a.0 (Some now) a.1 c in
      let l = task-leads plan (replay_id (client_of a.0)) a.0 c (but (client_of a.0)).1 now.task now a.1 (ready-itself now.task now.purpose now.group h) in
      still (but-then (on_pending plan (replay_id (client_of a.0)) a.0 (Some now) a.1 c) l.0 l.2) (silent (client_of a.0) (on_pending plan (replay_id (client_of a.0)) a.0 (Some now) a.1 c) w (itself-quiet plan (replay_id (client_of a.0)) a.0 c (but (client_of a.0)).1 now.task now a.1 h))
      (λ same. quiet-then (on_pending plan (replay_id (client_of a.0)) a.0 (Some now) a.1 c) l.0 l.2 (ap client_of same) (ap (λ (y : Invocation). y.thread) same))
  answered-one now (inr h) = let l = task-leads plan (replay_id (client_of a.0)) a.0 c (but (client_of a.0)).1 now.task now a.1 h.1 in
      over (quiet-then (on_pending plan (replay_id (client_of a.0)) a.0 (Some now) a.1 c) l.0 l.2 h.0.0 h.0.1)
      (let m = l.1 in let g = commits-grow (on_pending plan (replay_id (client_of a.0)) a.0 (Some now) a.1 c).asked (note (client_of a.0) (on_pending plan (replay_id (client_of a.0)) a.0 (Some now) a.1 c) w) in omega (arith, m, g))

  open-one : (o : Option Pending) → (thread_at c a.0.thread).pending ≡ o → Shows (on_pending plan (replay_id (client_of a.0)) a.0 o a.1 c)
  open-one None is = dropped (λ same now e n. none_some (sym is ∙ e))
  open-one (Some now) is = answered-one now ((but (client_of a.0)).0 a.0.thread now is)

  pub hand-one : Shows (answer_client plan (replay_id (client_of a.0)) a.0 a.1 c)
  hand-one = cases Shows ((thread_at c a.0.thread).number == a.0.number) _ _ (λ e. open-one (thread_at c a.0.thread).pending refl)
      (λ e. dropped (λ same now is n. no_test call.number (subst (λ k. (k == call.number) ≡ false) n (subst (λ (y : Invocation). ((thread_at c a.0.thread).number == y.number) ≡ false) same e))))

-- a request that prepares is answered at once
abbrev pub Answers : Invocation → Applied → Type 0
Answers call r = (x : Answer) × Contains {X = Invocation × Answer} r.answers (call, x)

after-answers : (call : Invocation) (c : Change) (r : Applied) → Answers call r → Answers call (record { state = r.state; answers = told c.ended ++ r.answers })
after-answers call c r h = (h.0, Contains-append_right (told c.ended) r.answers (call, h.0) h.1)

open-answers : (i : ℕ) (call : Invocation) (s : GroupState) (o : Option (ℕ × SessionRow)) → Answers call (settle None call (opened i call o s).reply (opened i call o s).change)
open-answers i call s (Some e) = (answer.Session e.0, at-head (call, answer.Session e.0) [])
open-answers i call s None = either (λ (r : Outcome). Answers call (settle None call r.reply r.change)) (has_room nat_cmp most s.sessions i) _ _
    (answer.Session i, at-head (call, answer.Session i) []) (answer.TableFull most, at-head (call, answer.TableFull most) [])

round-answers : (i : ℕ) (call : Invocation) (name : List ℕ) (s : GroupState) → Answers call (perform i call (op.Latch name latch.Round) s)
round-answers i call name s = either (λ (r : Outcome). Answers call (settle None call r.reply r.change)) (is_gone s (name, kind.Latch)) _ _ (answer.ObjectDestroyed, at-head (call, answer.ObjectDestroyed) []) (_, at-head _ [])

own-answer : (i : ℕ) (call : Invocation) (o : Op) (s : GroupState) → prepares o ≡ true → Answers call (apply i (entry.Call call o) s)
own-answer i call (op.Session session.Open) s p = either (Answers call) (s.destroyed_group.0 == 0) _ _ (after-answers call (supersede call s) (perform i call (op.Session session.Open) (supersede call s).state) (open-answers i call (supersede call s).state (session_of (supersede call s).state.sessions call.client)))
    (answer.GroupDestroyed s.destroyed_group, at-head (call, answer.GroupDestroyed s.destroyed_group) [])
own-answer i call (op.Latch name latch.Round) s p = either (Answers call) (s.destroyed_group.0 == 0) _ _ (after-answers call (supersede call s) (perform i call (op.Latch name latch.Round) (supersede call s).state) (round-answers i call name (supersede call s).state))
    (answer.GroupDestroyed s.destroyed_group, at-head (call, answer.GroupDestroyed s.destroyed_group) [])
own-answer i call o s p = absurd (no_false p)

-- with none that prepares, an answer asks nothing
module _ (plan : Plan) (w : World) (quiet : Quiet w) where
  quiet-after : (me : ClientNo) (t : ThreadNo) (d : Did) → Settles (client_at w me) t d.client → OneSession d.client.sessions → Quiet (does me d w)
  quiet-after me t d s one = at-client w me d (λ x y. QuietClient y) (λ x now is. at x now is (s x now is), one) (λ x e. quiet x) where
    at : (x : ThreadNo) (now : Pending) → PendingIs (thread_at d.client x) now → (is_for_itself now.purpose ≡ true) ⊎ ((is_at (nat_cmp x.0) t.0 ≡ false) × (thread_at d.client x ≡ thread_at (client_at w me) x)) → is_for_itself now.purpose ≡ true
    at x now is (inl h) = h
    at x now is (inr h) = (quiet me).0 x now (subst (λ (r : Thread). PendingIs r now) h.1 is)

  module _ (a : Invocation × Answer) where
    abbrev pub Rests : Did → Type 0
    Rests d = Quiet (does (client_of a.0) d w) × SameGroup w (does (client_of a.0) d w)

    rests-nothing : Rests (nothing (client_at w (client_of a.0)))
    rests-nothing = (at-client w (client_of a.0) (nothing (client_at w (client_of a.0))) (λ x y. QuietClient y) (quiet (client_of a.0)) (λ x e. quiet x), (refl, refl))

    rests-open : (o : Option Pending) → (thread_at (client_at w (client_of a.0)) a.0.thread).pending ≡ o → Rests (on_pending plan (replay_id (client_of a.0)) a.0 o a.1 (client_at w (client_of a.0)))
    rests-open None is = rests-nothing
    rests-open (Some now) is = let h = (quiet (client_of a.0)).0 a.0.thread now is in
        let l = task-leads plan (replay_id (client_of a.0)) a.0 (client_at w (client_of a.0)) (quiet (client_of a.0)).1 now.task now a.1 (ready-itself now.task now.purpose now.group h) in (
          quiet-after (client_of a.0) a.0.thread (on_pending plan (replay_id (client_of a.0)) a.0 (Some now) a.1 (client_at w (client_of a.0))) l.0 l.2,
          silent (client_of a.0) (on_pending plan (replay_id (client_of a.0)) a.0 (Some now) a.1 (client_at w (client_of a.0))) w (itself-quiet plan (replay_id (client_of a.0)) a.0 (client_at w (client_of a.0)) (quiet (client_of a.0)).1 now.task now a.1 h),
        )

    pub rest-one : Rests (answer_client plan (replay_id (client_of a.0)) a.0 a.1 (client_at w (client_of a.0)))
    rest-one = either Rests ((thread_at (client_at w (client_of a.0)) a.0.thread).number == a.0.number) _ _ (rests-open (thread_at (client_at w (client_of a.0)) a.0.thread).pending refl) rests-nothing

module _ (plan : Plan) where
  hands-quiet : (queue : List (Invocation × Answer)) (w : World) → Quiet w → Quiet (hand_all plan queue w) × SameGroup w (hand_all plan queue w)
  hands-quiet [] w q = (q, (refl, refl))
  hands-quiet (a ∷ queue) w q = let r = rest-one plan w q a in let s = hands-quiet queue (hand_on plan a w) r.0 in (s.0, (s.1.0 ∙ r.1.0, s.1.1 ∙ r.1.1))

  hands-but : (call : Invocation) (x : Answer) (queue : List (Invocation × Answer)) (w : World) → But call w → Contains queue (call, x) → Quiet (hand_all plan queue w) × (length (hand_all plan queue w).history ≤ length w.history + 1)
  hands-but call x [] w but h = absurd (no-element (call, x) h)
  hands-but call x (a ∷ queue) w but h = at (hand-one plan call w but a) (hands-but call x queue (hand_on plan a w)) (one-only a (call, x) queue h) where
    go : (v : World) → Quiet v → length v.history ≤ length w.history + 1 → Quiet (hand_all plan queue v) × (length (hand_all plan queue v).history ≤ length w.history + 1)
    go v q l = let s = hands-quiet queue v q in (s.0, subst (λ (rows : List Committed). length rows ≤ length w.history + 1) (sym s.1.1) l)

    same_length : (v : World) → v.history ≡ w.history → length v.history ≡ length w.history
    same_length v e = ap (λ (rows : List Committed). length rows) e

    at : HandedOn call a.0 w (hand_on plan a w) → (But call (hand_on plan a w) → Contains queue (call, x) → Quiet (hand_all plan queue (hand_on plan a w)) × (length (hand_all plan queue (hand_on plan a w)).history ≤ length (hand_on plan a w).history + 1)) → IsPair (call, x) a ⊎ Contains queue (call, x)
        → Quiet (hand_all plan queue (hand_on plan a w)) × (length (hand_all plan queue (hand_on plan a w)).history ≤ length w.history + 1)
    at (over q l) rest k = go (hand_on plan a w) q l
    at (still b e f) rest (inl k) = go (hand_on plan a w) (f (ap (λ (y : Invocation × Answer). y.0) (sym k))) (let n = same_length (hand_on plan a w) e.1 in omega (arith, n))
    at (still b e f) rest (inr k) = let r = rest b k in let n = same_length (hand_on plan a w) e.1 in let l = r.1 in (r.0, omega (arith, n, l))

  -- a pass over the queue of a quiet world: nothing waits
  pass-quiet : (w : World) → Quiet w → Quiet (handed plan w) × ((handed plan w).queue ≡ []) × ((handed plan w).history ≡ w.history)
  pass-quiet w q = let h = hands-quiet w.queue (record w { queue = [] }) q in (h.0, h.1.0, h.1.1)

  -- a pass over a queue in which the answer stands that a call waits for
  pass-but : (call : Invocation) (x : Answer) (w : World) → But call w → Contains w.queue (call, x) → Quiet (handed plan w) × (length (handed plan w).history ≤ length w.history + 1)
  pass-but call x w but there = hands-but call x w.queue (record w { queue = [] }) but there

-- how an event begins
abbrev pub Begins : ClientId → ThreadNo → Client → Did → Type 0
Begins me t c d = Leads c t d ⊎ ((now : Pending) × (o : Op) × (d ≡ ask me t now o c) × (prepares o ≡ true) × IsReady now.task now.purpose now.group)

module _ (plan : Plan) (me : ClientId) (call : Call) (c : Client) (one : OneSession c.sessions) (of_group : needs_session (need_of call.op) ≡ true → call.group ≡ default_group) where
  session-begins : (so : Option ℕ) → needs_session (need_of call.op) ≡ true → Begins me call.thread c (in_session plan me call so c)
  session-begins None needs = inr (pending_of call purpose.ForSession, op.Session session.Open, refl, refl, (needs, of_group needs))
  session-begins (Some s) needs = inl (itself-leads plan me call c c refl one s 0)

  closing-begins : (so : Option ℕ) → Begins me call.thread c (closing plan me call so c)
  closing-begins None = inl (row-settles c (done_at_once call.thread c).client call.thread (record { number = (thread_at c call.thread).number + 1; pending = None }) refl (none-pending ((thread_at c call.thread).number + 1)), omega arith, one)
  closing-begins (Some s) = inl (itself-leads plan me call c c refl one s 0)

  need-begins : (need : Need) → need_of call.op ≡ need → Begins me call.thread c (by_need plan me need call c)
  need-begins Nothing e = inl (itself-leads plan me call c c refl one 0 0)
  need-begins (HoldingSession name) e = session-begins (holding_session call name c) (ap needs_session e)
  need-begins ItsSession e = session-begins (session_in_group c call.group) (ap needs_session e)
  need-begins SessionToClose e = closing-begins (session_in_group c call.group)
  need-begins (Round name) e = inr (pending_of call purpose.ForRound, op.Latch name latch.Round, refl, refl, tt)

-- the world once an event began, with so many entries before
pub data Begun (n : ℕ) (v : World) : Type 0 where
  all_quiet : Quiet v → length v.history ≤ n + 1 → Begun n v
  one_prepares : (call : Invocation) (x : Answer) → But call v → Contains {X = Invocation × Answer} v.queue (call, x) → length v.history ≤ n + 1 → Begun n v

abbrev prepared_row : Client → ThreadNo → Pending → Thread
prepared_row c t now = record { number = (thread_at c t).number + 1; pending = Some now }

module _ (w : World) (quiet : Quiet w) where
  did-begun : (me : ClientNo) (t : ThreadNo) (d : Did) → Begins (replay_id me) t (client_at w me) d → Begun (length w.history) (does me d w)
  did-begun me t d (inl l) = all_quiet (at-client w me d (λ x y. QuietClient y) (λ x now is. at x now is (l.0 x now is), l.2) (λ x e. quiet x)) (let m = l.1 in let g = commits-grow d.asked (note me d w) in omega (arith, m, g)) where
    at : (x : ThreadNo) (now : Pending) → PendingIs (thread_at d.client x) now → (is_for_itself now.purpose ≡ true) ⊎ ((is_at (nat_cmp x.0) t.0 ≡ false) × (thread_at d.client x ≡ thread_at (client_at w me) x)) → is_for_itself now.purpose ≡ true
    at x now is (inl h) = h
    at x now is (inr h) = (quiet me).0 x now (subst (λ (r : Thread). PendingIs r now) h.1 is)
  did-begun me t d (inr r) = subst (λ (d : Did). Begun (length w.history) (does me d w)) (sym r.2)
      (one_prepares (next_request (replay_id me) t (client_at w me)) own.0 but (Contains-append_right w.queue (apply (length w.history + 1) (entry.Call (next_request (replay_id me) t (client_at w me)) r.1) w.state).answers (next_request (replay_id me) t (client_at w me), own.0) own.1) size)
    where
      own : Answers (next_request (replay_id me) t (client_at w me)) (apply (length w.history + 1) (entry.Call (next_request (replay_id me) t (client_at w me)) r.1) w.state)
      own = own-answer (length w.history + 1) (next_request (replay_id me) t (client_at w me)) r.1 w.state r.3

      size : length (does me (ask (replay_id me) t r.0 r.1 (client_at w me)) w).history ≤ length w.history + 1
      size = let e = length_push w.history (record { event = w.shown.number; entry = entry.Call (next_request (replay_id me) t (client_at w me)) r.1 }) in omega (arith, e)

      mine : (x : ThreadNo) (now : Pending) → PendingIs (thread_at (with_thread (client_at w me) t (prepared_row (client_at w me) t r.0)) x) now
          → (is_for_itself now.purpose ≡ true) ⊎ (IsAt (next_request (replay_id me) t (client_at w me)) me x (thread_at (with_thread (client_at w me) t (prepared_row (client_at w me) t r.0)) x).number × IsReady now.task now.purpose now.group)
      mine x now is = by (is_at (nat_cmp x.0) t.0) refl where
        by : (b : Bool) → is_at (nat_cmp x.0) t.0 ≡ b → (is_for_itself now.purpose ≡ true) ⊎ (IsAt (next_request (replay_id me) t (client_at w me)) me x (thread_at (with_thread (client_at w me) t (prepared_row (client_at w me) t r.0)) x).number × IsReady now.task now.purpose now.group)
        by true k = let e : x ≡ t = ap (λ n. record { 0 = n }) (number_key.same x.0 t.0 (equal_is _ k)) in
            let here : thread_at (with_thread (client_at w me) t (prepared_row (client_at w me) t r.0)) x ≡ prepared_row (client_at w me) t r.0 =
            ap (λ y. thread_at (with_thread (client_at w me) t (prepared_row (client_at w me) t r.0)) y) e ∙ ap clients.or_new (find-put_same nat_cmp number_key (client_at w me).threads t.0 (prepared_row (client_at w me) t r.0)) in
            let it : r.0 ≡ now = same_some (ap (λ (y : Thread). y.pending) (sym here) ∙ is) in
            inr ((refl, e, ap (λ (y : Thread). y.number) here), subst (λ (y : Pending). IsReady y.task y.purpose y.group) it r.4)
        by false k = let there : thread_at (with_thread (client_at w me) t (prepared_row (client_at w me) t r.0)) x ≡ thread_at (client_at w me) x = ap clients.or_new (find-put_other nat_cmp number_key (client_at w me).threads t.0 x.0 (prepared_row (client_at w me) t r.0) k) in
            inl ((quiet me).0 x now (ap (λ (y : Thread). y.pending) (sym there) ∙ is))

      but : But (next_request (replay_id me) t (client_at w me)) (does me (ask (replay_id me) t r.0 r.1 (client_at w me)) w)
      but = at-client w me (ask (replay_id me) t r.0 r.1 (client_at w me)) (ButClient (next_request (replay_id me) t (client_at w me))) (mine, (quiet me).1) (λ x e. (λ t' now is. inl ((quiet x).0 t' now is), (quiet x).1))

-- ticks
settles-quiet : (c after : Client) (t : ThreadNo) → QuietClient c → Settles c t after → OneSession after.sessions → QuietClient after
settles-quiet c after t q s one = (λ x now is. at x now is (s x now is), one) where
  at : (x : ThreadNo) (now : Pending) → PendingIs (thread_at after x) now → (is_for_itself now.purpose ≡ true) ⊎ ((is_at (nat_cmp x.0) t.0 ≡ false) × (thread_at after x ≡ thread_at c x)) → is_for_itself now.purpose ≡ true
  at x now is (inl h) = h
  at x now is (inr h) = q.0 x now (subst (λ (r : Thread). PendingIs r now) h.1 is)

late-quiet : (t : ThreadNo) (c : Client) → QuietClient c → QuietClient (end_late t c).client × ((end_late t c).asked ≡ [])
late-quiet t c q = either (λ (d : Did). QuietClient d.client × (d.asked ≡ [])) (is_late c.clock (thread_at c t).pending) _ _
    (settles-quiet c (idle t c) t q (row-settles c (idle t c) t (record { number = (thread_at c t).number; pending = None }) refl (none-pending (thread_at c t).number)) q.1, refl) (q, refl)

each-quiet : (ts : List ThreadNo) (c : Client) → QuietClient c → QuietClient (end_each ts c).client × ((end_each ts c).asked ≡ [])
each-quiet [] c q = (q, refl)
each-quiet (t ∷ ts) c q = let x = late-quiet t c q in let y = each-quiet ts (end_late t c).client x.0 in (y.0, rw (x.1, y.1))

module _ (me : ClientId) where
  beat-quiet : (own : OwnSession) (c : Client) → QuietClient c → QuietClient (beat_if_due me 1 own c).client × (length (beat_if_due me 1 own c).asked ≤ 1)
  beat-quiet own c q = either (λ (d : Did). QuietClient d.client × (length d.asked ≤ 1)) (is_due own c) _ _ (
    settles-quiet c (beat me 1 own c).client own_thread q (row-settles c (beat me 1 own c).client own_thread (record { number = (thread_at c own_thread).number + 1; pending = Some beats_now }) refl (one-pending ((thread_at c own_thread).number + 1) beats_now refl))
        (one-put c.sessions (record { id = own.id; beat = c.clock }) q.1),
    le_refl 1,
  )
      (q, omega arith)
    where
      beats_now : Pending
      beats_now = record { group = record { 0 = 1 }; task = task.Beats own.id; purpose = purpose.ForItself own.id; deadline = None }

  rows-quiet : (rows : Sessions) (c : Client) → OneSession rows → QuietClient c → QuietClient (beat_each me rows c).client × (length (beat_each me rows c).asked ≤ 1)
  rows-quiet rows c (inl e) q = subst (λ (rs : Sessions). QuietClient (beat_each me rs c).client × (length (beat_each me rs c).asked ≤ 1)) (sym e) (q, omega arith)
  rows-quiet rows c (inr h) q = subst (λ (rs : Sessions). QuietClient (beat_each me rs c).client × (length (beat_each me rs c).asked ≤ 1)) (sym h.1)
      (let x = beat-quiet h.0 c q in (x.0, subst (λ (asked : List Asked). length asked ≤ 1) (sym (push-none (beat_if_due me 1 h.0 c).asked [] refl)) x.1))

  tick-quiet : (c : Client) → QuietClient c → QuietClient (and_then (end_each user_threads c) (beats me)).client × (length (and_then (end_each user_threads c) (beats me)).asked ≤ 1)
  tick-quiet c q = let x = each-quiet user_threads c q in let y = rows-quiet (end_each user_threads c).client.sessions (end_each user_threads c).client x.0.1 x.0 in
      (y.0, subst (λ (asked : List Asked). length (asked ++ (beats me (end_each user_threads c).client).asked) ≤ 1) (sym x.1) y.1)

-- events
module _ (plan : Plan) where
  -- what holds between events
  pub record RestsAfter (n : ℕ) (w : World) : Type 0 where
    pub quiet : Quiet w
    pub queue : w.queue ≡ []
    pub size : length w.history ≤ 2 * n

  call-begun : (me : ClientNo) (t : ThreadNo) (o : UserOp) (now : Option Pending) (w : World) → Quiet w → Begun (length w.history) (calls_if_idle plan me t o now w)
  call-begun me t o (Some now) w q = all_quiet q (omega arith)
  call-begun me t o None w q = let v = record w { calls = w.calls ++ record { event = w.shown.number; client = me; thread = t; op = o; clock = (client_at w me).clock } ∷ [] } in
      did-begun (record w { calls = w.calls ++ record { event = w.shown.number; client = me; thread = t; op = o; clock = (client_at w me).clock } ∷ [] }) q me t (call_client plan (replay_id me) t o (client_at w me))
      (need-begins plan (replay_id me) (record { thread = t; group = group_of o; op = o; deadline = deadline_of (client_at w me).clock (wish_of o) }) (client_at w me) (q me).1 (session-group o) (need_of o) refl)

  tick-begun : (me : ClientNo) (ms : ℕ) (w : World) → Quiet w → Begun (length w.history) (moves_if_room me ms w)
  tick-begun me ms w q = either (Begun (length w.history)) (nat_lt (2 ^ 62) ((client_at w me).clock + ms)) _ _ (all_quiet q (omega arith)) (moved (tick-quiet (replay_id me) (record (client_at w me) { clock = (client_at w me).clock + ms }) (q me))) where
    d : Did
    d = tick_client (replay_id me) ms (client_at w me)

    moved : QuietClient (tick_client (replay_id me) ms (client_at w me)).client × (length (tick_client (replay_id me) ms (client_at w me)).asked ≤ 1) → Begun (length w.history) (moves_now me ms w)
    moved x = all_quiet (at-client (record w { moves = w.moves ++ record { event = w.shown.number; client = me; ms = ms; clock = (client_at w me).clock + ms } ∷ [] }) me (tick_client (replay_id me) ms (client_at w me)) (λ n y. QuietClient y) x.0 (λ y e. q y))
        (let l = x.1 in let g = commits-grow (tick_client (replay_id me) ms (client_at w me)).asked (note me (tick_client (replay_id me) ms (client_at w me)) (record w { moves = w.moves ++ record { event = w.shown.number; client = me; ms = ms; clock = (client_at w me).clock + ms } ∷ [] })) in omega (arith, l, g))

  begin-begun : (e : Event) (w : World) → Quiet w → Begun (length w.history) (begin plan e w)
  begin-begun (event.Call me t o) w q = either (Begun (length w.history)) (is_client plan me) _ _ (call-begun me t o (thread_at (client_at w me) t).pending w q) (all_quiet q (omega arith))
  begin-begun (event.ClientTick me ms) w q = either (Begun (length w.history)) (is_client plan me) _ _ (tick-begun me ms w q) (all_quiet q (omega arith))
  begin-begun (event.Deliver k) w q = all_quiet q (omega arith)
  begin-begun (event.Tick m ms) w q = all_quiet q (omega arith)
  begin-begun (event.Crash m) w q = all_quiet q (omega arith)
  begin-begun (event.CrashAfter m calls choice) w q = all_quiet q (omega arith)
  begin-begun (event.Start m) w q = all_quiet q (omega arith)
  begin-begun event.Open w q = all_quiet q (omega arith)

  two-passes : (n h : ℕ) (v : World) → h ≤ 2 * n → Begun h v → RestsAfter (n + 1) (handed plan (handed plan v))
  two-passes n h v size (all_quiet q l) = let one = pass-quiet plan v q in let two = pass-quiet plan (handed plan v) one.0 in record {
    quiet = two.0;
    queue = two.1;
    size = let e = ap (λ (rows : List Committed). length rows) two.2 in let f = ap (λ (rows : List Committed). length rows) one.2 in omega (arith, e, f, l, size);
  }
  two-passes n h v size (one_prepares call x but there l) = let one = pass-but plan call x v but there in let two = pass-quiet plan (handed plan v) one.0 in record {
    quiet = two.0;
    queue = two.1;
    size = let e = ap (λ (rows : List Committed). length rows) two.2 in let f = one.1 in omega (arith, e, f, l, size);
  }

  pub step-rests : (n : ℕ) (e : Event) (w : World) → RestsAfter n w → RestsAfter (n + 1) (world_step plan w e)
  step-rests n e w r = let two = two-passes n (length w.history) (begin plan e (start e w)) r.size (begin-begun e (start e w) r.quiet) in record { quiet = two.quiet; queue = two.queue; size = two.size }

  run-rests : (n : ℕ) (events : List Event) (w : World) → RestsAfter n w → RestsAfter (n + length events) (world_after plan w events)
  run-rests n [] w r = subst (λ k. RestsAfter k w) (omega arith) r
  run-rests n (e ∷ events) w r = subst (λ k. RestsAfter k (world_after plan (world_step plan w e) events)) (add n (length events)) (run-rests (n + 1) events (world_step plan w e) (step-rests n e w r)) where
    add : (n k : ℕ) → n + 1 + k ≡ n + suc k
    add n k = omega arith

  pub rests : (events : List Event) → RestsAfter (length events) (world_after plan new_world events)
  rests events = subst (λ k. RestsAfter k (world_after plan new_world events)) (plain (length events)) (run-rests 0 events new_world (record { quiet = λ me. (λ t now e. absurd (none_some e), inl refl); queue = refl; size = omega arith })) where
    plain : (n : ℕ) → 0 + n ≡ n
    plain n = omega arith

  pub settled : (events : List Event) → IsSettled (world_after plan new_world events) × (length (world_after plan new_world events).history ≤ 2 * length events)
  settled events = let r = rests events in (record { queue = r.queue; open_requests = λ me t now is. (r.quiet me).0 t now is }, r.size)
