-- What the records of a client rest on: requests, their ends, calls, clocks, and sessions that were opened.
use Rattle.std.proofs.Common.{◌≡◌, ℕ, ◌+◌, ◌≤◌, ◌⊎◌, inl, inr, Bool, true, false, List, ◌++◌, Some, None, Option, sym, subst, arith, length, le_refl, le_trans}
use Rattle.std.specs.Prelude.{All, Contains}
use Rattle.std.proofs.lemmas.List.{length-append}
use Rattle.std.proofs.lemmas.List.Elements.{All-weaker}
use Rattle.cp_base.specs.Identifiers.{replay_id}
use Rattle.cp_base.specs.declared.identifier.ClientId.{ClientId}
use Rattle.cp_base.specs.declared.identifier.ClientNo.{ClientNo}
use Rattle.cp_base.specs.declared.identifier.Invocation.{Invocation}
use Rattle.cp_base.specs.declared.identifier.ThreadNo.{ThreadNo}
use Rattle.cp_answers.specs.declared.answer.Answer.TheVariants as answer
use Rattle.cp_answers.specs.declared.ended_by.EndedBy.TheVariants as ended_by
use Rattle.cp_ops.specs.declared.entry.Entry.{Entry}
use Rattle.cp_object_ops.specs.declared.latch_op.LatchOp.TheVariants as latch
use Rattle.cp_object_ops.specs.declared.lock_op.LockOp.{LockOp}
use Rattle.cp_ops.specs.declared.op.Op.{Op}
use Rattle.cp_ops.specs.declared.op.Op.TheVariants as op
use Rattle.cp_ops.specs.declared.session_op.SessionOp.TheVariants as session
use Rattle.cp_events.specs.declared.effects.Ending.TheVariants as ending
use Rattle.cp_events.specs.declared.effects.Return.{Return}
use Rattle.cp_events.specs.declared.object.Object.{Object}
use Rattle.cp_events.specs.declared.plan.Plan.{Plan}
use Rattle.cp_events.specs.declared.user_op.LatchCall.TheVariants as latch_call
use Rattle.cp_events.specs.declared.user_op.UserOp.TheVariants as user
use Rattle.cp_group_state.specs.Sessions.{is_open_for}
use Rattle.cp_group_state.specs.GroupState.{empty}
use Rattle.cp_group_state.proofs.Keyed.{IsKey, name_key, number_key, then_equal}
use Rattle.cp_group_causes.specs.Moments.{WasOpenFor, state_before}
use Rattle.cp_client_rules.specs.declared.rows.HoldRecord.{HoldRecord}
use Rattle.cp_client_rules.specs.declared.rows.OwnSession.{OwnSession}
use Rattle.cp_client_rules.specs.declared.rows.Pending.{Pending}
use Rattle.cp_client_rules.specs.declared.rows.Purpose.{Purpose}
use Rattle.cp_client_rules.specs.declared.rows.Purpose.TheVariants as purpose
use Rattle.cp_client_rules.specs.declared.rows.Task.{Task}
use Rattle.cp_client_rules.specs.declared.rows.Task.TheVariants as task
use Rattle.cp_client_rules.specs.Asking.{Need, Nothing, HoldingSession, ItsSession, SessionToClose, Round, need_of, op_of, wish_of}
use Rattle.cp_client_rules.specs.Clients.{Client, LockKey, lock_cmp, thread_at}
use Rattle.cp_client_rules.specs.Calls.{deadline_of, patience}
use Rattle.cp_client_rules.specs.Ticks.{own_thread}
use Rattle.cp_world_rules.specs.Rows.{Called, Committed, End, Moved, Request, entries_of}
use Rattle.cp_world_rules.specs.World.{World}
use Rattle.cp_world_rules.specs.Requests.{MayAsk, needs_session}
use Rattle.cp_world_rules.specs.Answers.{lets_go_on}
use Rattle.cp_world_rules.proofs.Lists.{entries-length, entries-more, moment-front}

-- the session was opened for the client
pub record OpenedIn (history : List Committed) (s : ℕ) (client : ClientId) : Type 0 where
  pub within : s ≤ length history
  pub was : WasOpenFor (entries_of history) (length history) s client

pub was-on : (es more : List Entry) (place s : ℕ) (client : ClientId) → place ≤ length es → WasOpenFor es place s client → WasOpenFor (es ++ more) place s client
was-on es more place s client l h = record {
  moment = h.moment;
  before = h.before;
  is_open = subst (λ t. is_open_for t.sessions s client ≡ true) (sym (moment-front h.moment 1 es more empty (le_trans h.before l))) h.is_open;
}

pub opened-on : (history more : List Committed) (s : ℕ) (client : ClientId) → OpenedIn history s client → OpenedIn (history ++ more) s client
opened-on history more s client h = let n = length-append history more in record {
  within = let l = h.within in omega (arith, l, n);
  was = let w = was-on (entries_of history) (entries_of more) (length history) s client (omega (arith, entries-length history)) h.was in record {
    moment = w.moment;
    before = let l = w.before in omega (arith, l, n);
    is_open = subst (λ es. is_open_for (state_before es w.moment).sessions s client ≡ true) (sym (entries-more history more)) w.is_open;
  };
}

pub record Ledger : Type 0 where
  pub history : List Committed
  pub requests : List Request
  pub ends : List End
  pub calls : List Called
  pub moves : List Moved
  -- the number of the event under way
  pub now : ℕ

abbrev pub ledger_of : World → Ledger
ledger_of w = record { history = w.history; requests = w.requests; ends = w.ends; calls = w.calls; moves = w.moves; now = w.shown.number }

pub record Extends (l m : Ledger) : Type 0 where
  pub history : (s : ℕ) (client : ClientId) → OpenedIn l.history s client → OpenedIn m.history s client
  pub requests : (r : Request) → Contains l.requests r → Contains m.requests r
  pub ends : (e : End) → Contains l.ends e → Contains m.ends e
  pub calls : (c : Called) → Contains l.calls c → Contains m.calls c
  pub moves : (c : Moved) → Contains l.moves c → Contains m.moves c
  pub now : l.now ≤ m.now

pub same-ledger : (l : Ledger) → Extends l l
same-ledger l = record { history = λ s c h. h; requests = λ r h. h; ends = λ e h. h; calls = λ c h. h; moves = λ c h. h; now = le_refl l.now }

-- a request of this call is known, and its operation
abbrev pub Knows : Ledger → Invocation → Op → Type 0
Knows l call o = (r : Request) × Contains l.requests r × (r.call ≡ call) × (r.op ≡ o)

abbrev pub OnLock : Ledger → Invocation → List ℕ → Type 0
OnLock l call name = (r : Request) × (o : LockOp) × Contains l.requests r × (r.call ≡ call) × (r.op ≡ op.Lock name o)

-- a fence of the lock was told to a thread of the client
pub record Fenced (l : Ledger) (me : ClientNo) (thread : ℕ) (name : List ℕ) : Type 0 where
  pub taken : End
  pub fence : ℕ
  pub told : Contains l.ends taken
  pub with_fence : taken.answer ≡ answer.Fence fence
  pub by_client : taken.call.client ≡ replay_id me
  pub by_thread : taken.call.thread.0 ≡ thread
  pub in_time : taken.event ≤ l.now
  pub of_lock : OnLock l taken.call name

abbrev pub HoldOk : Ledger → ClientNo → LockKey → HoldRecord → Type 0
HoldOk l me key h = OpenedIn l.history h.session (replay_id me) × Fenced l me key.0 key.2

-- whether a call works in a session, which it keeps or closes
abbrev pub uses_session : Need → Bool
uses_session (HoldingSession name) = true
uses_session ItsSession = true
uses_session SessionToClose = true
uses_session Nothing = false
uses_session (Round name) = false

-- the task of a thread is a call that it began, or a beat
abbrev pub TaskOk : Ledger → ClientNo → ThreadNo → Option ℕ → Task → Type 0
TaskOk l me t deadline (task.Calls o) = (c : Called) × Contains l.calls c × (c.client ≡ me) × (c.thread ≡ t) × (c.op ≡ o) × (deadline ≡ deadline_of c.clock (wish_of o)) × (c.event ≤ l.now)
TaskOk l me t deadline (task.Beats s) = deadline ≡ None

-- the pending request asks for what its call needs
abbrev pub PurposeOk : Plan → Ledger → ClientNo → Invocation → Task → Purpose → Type 0
PurposeOk plan l me call (task.Calls o) purpose.ForSession = (needs_session (need_of o) ≡ true) × Knows l call (op.Session session.Open)
PurposeOk plan l me call (task.Calls o) purpose.ForRound = (object : Object) × (o ≡ user.Latch object latch_call.Down) × Knows l call (op.Latch object.name latch.Round)
PurposeOk plan l me call (task.Calls o) (purpose.ForItself s) = ((round : ℕ) × Knows l call (op_of plan o s round)) × (uses_session (need_of o) ≡ true → OpenedIn l.history s (replay_id me))
PurposeOk plan l me call (task.Beats s) p = Knows l call (op.Session (session.Beat s))

pub record PendingOk (plan : Plan) (l : Ledger) (me : ClientNo) (t : ThreadNo) (number : ℕ) (now : Pending) : Type 0 where
  pub of_task : TaskOk l me t now.deadline now.task
  pub for_purpose : PurposeOk plan l me (record { client = replay_id me; thread = t; number = number }) now.task now.purpose

pub record ClientOk (plan : Plan) (l : Ledger) (me : ClientNo) (c : Client) : Type 0 where
  pub own : All (λ (e : ℕ × OwnSession). OpenedIn l.history e.1.id (replay_id me)) c.sessions
  pub held : All (λ (e : LockKey × HoldRecord). HoldOk l me e.0 e.1) c.holds
  pub pending : (t : ThreadNo) (now : Pending) → (thread_at c t).pending ≡ Some now → PendingOk plan l me t (thread_at c t).number now

-- why a request begins: for a call, or as a beat
abbrev pub IsSourced : Plan → Ledger → Request → Type 0
IsSourced plan l r = ((c : Called) × Contains l.calls c × (r.call.client ≡ replay_id c.client) × (r.call.thread ≡ c.thread) × (c.event ≤ r.event) × MayAsk plan c.op r.op)
    ⊎ ((m : Moved) × (s : ℕ) × Contains l.moves m × (m.event ≡ r.event) × (r.call.client ≡ replay_id m.client) × (r.call.thread ≡ own_thread) × (r.op ≡ op.Session (session.Beat s)))

-- the last request of a call that returns
abbrev pub return_call : ClientNo → Return → Invocation
return_call client r = record { client = replay_id client; thread = r.thread; number = r.number }

-- what a return tells, by the rows of the ledger
pub data ToldBy (l : Ledger) (number : ℕ) (client : ClientNo) (r : Return) : Type 0 where
  by_end : (e : End) → Contains l.ends e → e.event ≡ number → e.call ≡ return_call client r → r.ending ≡ ending.Answered e.answer
      → (q : Request) → Contains l.requests q → q.call ≡ e.call → lets_go_on q.op e.answer ≡ false → ToldBy l number client r
  by_loss : (e : End) (s : ℕ) (name : List ℕ) → Contains l.ends e → e.event ≡ number → e.call ≡ return_call client r → e.answer ≡ answer.SessionExpired s → OnLock l e.call name → (f : Fenced l client r.thread.0 name)
      → f.taken.event ≤ number → r.ending ≡ ending.Answered answer.OwnershipLost → ToldBy l number client r
  by_call : (c : Called) (name : Option (List ℕ)) → Contains l.calls c → c.event ≡ number → c.client ≡ client → c.thread ≡ r.thread → c.op ≡ user.CloseSession name → r.ending ≡ ending.Answered answer.Ok → ToldBy l number client r
  by_clock : (c : Called) (m : Moved) (wish : ℕ) → Contains l.calls c → c.client ≡ client → c.thread ≡ r.thread → wish_of c.op ≡ Some wish → Contains l.moves m → m.event ≡ number → m.client ≡ client → c.event ≤ number
      → c.clock + patience + wish ≤ m.clock → r.ending ≡ ending.Answered (answer.Indeterminate ended_by.Deadline) → ToldBy l number client r

module _ (l m : Ledger) (more : Extends l m) where
  pub knows-on : (call : Invocation) (o : Op) → Knows l call o → Knows m call o
  knows-on call o h = (h.0, more.requests h.0 h.1, h.2, h.3)

  pub on_lock-on : (call : Invocation) (name : List ℕ) → OnLock l call name → OnLock m call name
  on_lock-on call name h = (h.0, h.1, more.requests h.0 h.2, h.3, h.4)

  abbrev pub fenced-on : (me : ClientNo) (t : ℕ) (name : List ℕ) → Fenced l me t name → Fenced m me t name
  fenced-on me t name h = record {
    taken = h.taken;
    fence = h.fence;
    told = more.ends h.taken h.told;
    with_fence = h.with_fence;
    by_client = h.by_client;
    by_thread = h.by_thread;
    in_time = le_trans h.in_time more.now;
    of_lock = on_lock-on h.taken.call name h.of_lock;
  }

  pub hold-on : (me : ClientNo) (key : LockKey) (h : HoldRecord) → HoldOk l me key h → HoldOk m me key h
  hold-on me key h ok = (more.history h.session (replay_id me) ok.0, fenced-on me key.0 key.2 ok.1)

  pub task-on : (me : ClientNo) (t : ThreadNo) (deadline : Option ℕ) (x : Task) → TaskOk l me t deadline x → TaskOk m me t deadline x
  task-on me t deadline (task.Calls o) h = (h.0, more.calls h.0 h.1, h.2, h.3, h.4, h.5, le_trans h.6 more.now)
  task-on me t deadline (task.Beats s) h = h

  pub purpose-on : (plan : Plan) (me : ClientNo) (call : Invocation) (x : Task) (p : Purpose) → PurposeOk plan l me call x p → PurposeOk plan m me call x p
  purpose-on plan me call (task.Calls o) purpose.ForSession h = (h.0, knows-on call (op.Session session.Open) h.1)
  purpose-on plan me call (task.Calls o) purpose.ForRound h = (h.0, h.1, knows-on call (op.Latch h.0.name latch.Round) h.2)
  purpose-on plan me call (task.Calls o) (purpose.ForItself s) h = ((h.0.0, knows-on call (op_of plan o s h.0.0) h.0.1), λ n. more.history s (replay_id me) (h.1 n))
  purpose-on plan me call (task.Beats s) p h = knows-on call (op.Session (session.Beat s)) h

  pub pending-on : (plan : Plan) (me : ClientNo) (t : ThreadNo) (number : ℕ) (now : Pending) → PendingOk plan l me t number now → PendingOk plan m me t number now
  pending-on plan me t number now h = record { of_task = task-on me t now.deadline now.task h.of_task; for_purpose = purpose-on plan me _ now.task now.purpose h.for_purpose }

  pub client-on : (plan : Plan) (me : ClientNo) (c : Client) → ClientOk plan l me c → ClientOk plan m me c
  client-on plan me c h = record {
    own = All-weaker (λ (e : ℕ × OwnSession). OpenedIn l.history e.1.id (replay_id me)) (λ (e : ℕ × OwnSession). OpenedIn m.history e.1.id (replay_id me)) (λ e k. more.history e.1.id (replay_id me) k) c.sessions h.own;
    held = All-weaker (λ (e : LockKey × HoldRecord). HoldOk l me e.0 e.1) (λ (e : LockKey × HoldRecord). HoldOk m me e.0 e.1) (λ e k. hold-on me e.0 e.1 k) c.holds h.held;
    pending = λ t now is. pending-on plan me t (thread_at c t).number now (h.pending t now is);
  }

  pub source-on : (plan : Plan) (r : Request) → IsSourced plan l r → IsSourced plan m r
  source-on plan r (inl h) = inl (h.0, more.calls h.0 h.1, h.2, h.3, h.4, h.5)
  source-on plan r (inr h) = inr (h.0, h.1, more.moves h.0 h.2, h.3, h.4, h.5, h.6)

  pub told-on : (number : ℕ) (client : ClientNo) (r : Return) → ToldBy l number client r → ToldBy m number client r
  told-on number client r (by_end e there at call ends q in_q of_q fin) = by_end e (more.ends e there) at call ends q (more.requests q in_q) of_q fin
  told-on number client r (by_loss e s name there at call expired lock f before ends) = by_loss e s name (more.ends e there) at call expired (on_lock-on e.call name lock) (fenced-on client r.thread.0 name f) before ends
  told-on number client r (by_call c name there at mine thread is ends) = by_call c name (more.calls c there) at mine thread is ends
  told-on number client r (by_clock c m wish there mine thread bounded moved at own later passed ends) = by_clock c m wish (more.calls c there) mine thread bounded (more.moves m moved) at own later passed ends

-- keys of locks
triple-same : (a b : LockKey) → a.0 ≡ b.0 → a.1 ≡ b.1 → a.2 ≡ b.2 → a ≡ b
triple-same a b e f g = λ j. (e j, f j, g j)

pub lock_key : IsKey lock_cmp
lock_key = record {
  here = λ k. rw (number_key.here k.0, number_key.here k.1) (name_key.here k.2);
  same = λ k q e. let outer = then_equal _ _ e in let inner = then_equal _ _ outer.0 in triple-same k q (number_key.same k.0 q.0 inner.0) (number_key.same k.1 q.1 inner.1) (name_key.same k.2 q.2 outer.1);
}
