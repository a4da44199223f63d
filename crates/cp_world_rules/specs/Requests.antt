-- What is promised of calls and of their requests.
use Rattle.std.specs.Prelude.{◌≡◌, ◌≤◌, ◌<◌, ◌⊎◌, ℕ, Bool, true, false, List, Some, None, slice_get, Contains, ℤ, unsigned_abs}
use Rattle.cp_base.specs.Identifiers.{replay_id}
use Rattle.cp_base.specs.declared.identifier.ClientNo.{ClientNo}
use Rattle.cp_base.specs.declared.identifier.ThreadNo.{ThreadNo}
use Rattle.cp_answers.specs.declared.answer.Answer.TheVariants as answer
use Rattle.cp_object_ops.specs.declared.latch_op.LatchOp.TheVariants as latch
use Rattle.cp_ops.specs.declared.op.Op.{Op}
use Rattle.cp_ops.specs.declared.op.Op.TheVariants as op
use Rattle.cp_ops.specs.declared.session_op.SessionOp.TheVariants as session
use Rattle.cp_events.specs.declared.effects.Effects.{Effects}
use Rattle.cp_events.specs.declared.effects.Ending.TheVariants as ending
use Rattle.cp_events.specs.declared.event.Event.{Event}
use Rattle.cp_events.specs.declared.event.Event.TheVariants as event
use Rattle.cp_events.specs.declared.plan.Plan.{Plan}
use Rattle.cp_events.specs.declared.user_op.UserOp.{UserOp}
use Rattle.cp_client_rules.specs.Asking.{Need, Nothing, HoldingSession, ItsSession, SessionToClose, Round, need_of, op_of}
use Rattle.cp_client_rules.specs.Ticks.{own_thread}
use Rattle.cp_world_rules.specs.Rows.{Called, End, Request, Returned}
use Rattle.cp_world_rules.specs.Execution.{Execution, returns_in}

-- an event that took place, under its number
pub record TookPlace (x : Execution) (number : ℕ) (e : Event) : Type 0 where
  pub shown : Effects
  pub stands : slice_get x.effects number ≡ Some shown
  pub event_is : shown.event ≡ e
  pub not_ignored : shown.ignored ≡ None

-- the calls are those that stand printed and took place
pub record CallsStand (x : Execution) : Type 0 where
  pub printed : (c : Called) → Contains x.calls c → TookPlace x c.event (event.Call c.client c.thread c.op)
  pub noted : (number : ℕ) (client : ClientNo) (thread : ThreadNo) (o : UserOp) → TookPlace x number (event.Call client thread o)
      → (c : Called) × Contains x.calls c × (c.event ≡ number) × (c.client ≡ client) × (c.thread ≡ thread) × (c.op ≡ o)

-- the call that this thread made last by the end of an event
pub record IsCallOf (x : Execution) (client : ClientNo) (thread : ThreadNo) (number : ℕ) (c : Called) : Type 0 where
  pub began : Contains x.calls c
  pub client_is : c.client ≡ client
  pub thread_is : c.thread ≡ thread
  pub by_then : c.event ≤ number
  pub latest : (d : Called) → Contains x.calls d → d.client ≡ client → d.thread ≡ thread → d.event ≤ number → d.event ≤ c.event

-- whether a call needs a session before it can be asked
abbrev pub needs_session : Need → Bool
needs_session (HoldingSession name) = true
needs_session ItsSession = true
needs_session Nothing = false
needs_session SessionToClose = false
needs_session (Round name) = false

-- the operation of the call itself
abbrev pub IsForItself : Plan → UserOp → Op → Type 0
IsForItself plan o p = (s : ℕ) × (round : ℕ) × (p ≡ op_of plan o s round)

-- what the call needs before: a session, or a round
abbrev pub IsForNeed : UserOp → Op → Type 0
IsForNeed o p = ((needs_session (need_of o) ≡ true) × (p ≡ op.Session session.Open)) ⊎ ((name : List ℕ) × (need_of o ≡ Round name) × (p ≡ op.Latch name latch.Round))

abbrev pub MayAsk : Plan → UserOp → Op → Type 0
MayAsk plan o p = IsForItself plan o p ⊎ IsForNeed o p

-- A request is of the call that its thread made last by then.
pub record IsRequestOfCall (plan : Plan) (x : Execution) (r : Request) (c : Called) : Type 0 where
  pub last : IsCallOf x c.client c.thread r.event c
  pub by_client : r.call.client ≡ replay_id c.client
  pub by_thread : r.call.thread ≡ c.thread
  pub asks : MayAsk plan c.op r.op

-- Or it is a beat, which its client asks for itself when its clock moves.
pub record IsBeat (x : Execution) (r : Request) : Type 0 where
  pub client : ClientNo
  pub ms : ℕ
  pub kept : ℕ
  pub printed : TookPlace x r.event (event.ClientTick client ms)
  pub by_client : r.call.client ≡ replay_id client
  pub by_thread : r.call.thread ≡ own_thread
  pub asks : r.op ≡ op.Session (session.Beat kept)

abbrev pub Requested : Plan → Execution → Type 0
Requested plan x = (r : Request) → Contains x.requests r → ((c : Called) × IsRequestOfCall plan x r c) ⊎ IsBeat x r

-- of one call at most one request is for itself
abbrev pub AsksItselfOnce : Plan → Execution → Type 0
AsksItselfOnce plan x = (j k : ℕ) (a b : Request) (c : Called) → slice_get x.requests j ≡ Some a → slice_get x.requests k ≡ Some b
    → IsRequestOfCall plan x a c → IsRequestOfCall plan x b c → IsForItself plan c.op a.op → IsForItself plan c.op b.op → j ≡ k

-- An answer of the same event told the request's thread this round of the latch, for which it had asked.
pub record TellsRound (requests : List Request) (ends : List End) (q : Request) (name : List ℕ) (round : ℕ) : Type 0 where
  pub asked : Request
  pub began : Contains requests asked
  pub end : End
  pub ended : Contains ends end
  pub of_request : asked.call ≡ end.call
  pub by_client : end.call.client ≡ q.call.client
  pub by_thread : end.call.thread ≡ q.call.thread
  pub here : end.event ≡ q.event
  pub asks : asked.op ≡ op.Latch name latch.Round
  pub value : ℤ
  pub says : end.answer ≡ answer.Value value
  pub is_round : unsigned_abs value ≡ round

-- A countdown is of the round that its call was told.
abbrev pub RoundsAreTold : Execution → Type 0
RoundsAreTold x = (q : Request) (name : List ℕ) (round : ℕ) → Contains x.requests q → q.op ≡ op.Latch name (latch.Down round) → TellsRound x.requests x.ends q name round

-- The numbers of a thread's requests rise: so no two requests have one invocation.
abbrev pub NumbersRise : List Request → Type 0
NumbersRise requests = (j k : ℕ) (a b : Request) → j < k → slice_get requests j ≡ Some a → slice_get requests k ≡ Some b → a.call.client ≡ b.call.client → a.call.thread ≡ b.call.thread
    → a.call.number < b.call.number

-- a request ends once at most
abbrev pub EndsOnce : List End → Type 0
EndsOnce ends = (j k : ℕ) (a b : End) → slice_get ends j ≡ Some a → slice_get ends k ≡ Some b → a.call ≡ b.call → j ≡ k

-- the call of a return: the one that its thread made last by then
abbrev pub IsCallOfReturn : Execution → Returned → Called → Type 0
IsCallOfReturn x r c = IsCallOf x r.client r.what.thread r.event c

-- a request of the thread of a return
abbrev pub IsOfThread : Returned → Request → Type 0
IsOfThread r q = (q.call.client ≡ replay_id r.client) × (q.call.thread ≡ r.what.thread)

-- The call asked nothing. It takes a number too, behind those of the thread's requests before, and before those later.
pub record AskedNothing (plan : Plan) (x : Execution) (r : Returned) (c : Called) : Type 0 where
  pub ok : r.what.ending ≡ ending.Answered answer.Ok
  pub none : (q : Request) → Contains x.requests q → IsRequestOfCall plan x q c → ⊥
  pub before : (q : Request) → Contains x.requests q → IsOfThread r q → q.event < r.event → q.call.number < r.what.number
  pub behind : (q : Request) → Contains x.requests q → IsOfThread r q → r.event < q.event → r.what.number < q.call.number

-- The number of a return is that of the call's last request.
pub record IsLastNumber (plan : Plan) (x : Execution) (r : Returned) (c : Called) : Type 0 where
  pub greatest : (q : Request) → Contains x.requests q → IsRequestOfCall plan x q c → q.call.number ≤ r.what.number
  pub asked : ((q : Request) × Contains x.requests q × IsRequestOfCall plan x q c × (q.call.number ≡ r.what.number))
      ⊎ AskedNothing plan x r c

-- A return is that of a call, by its last request, and a call returns once at most.
pub record ReturnsOnce (plan : Plan) (x : Execution) : Type 0 where
  pub of_call : (r : Returned) → Contains (returns_in x.effects) r → (c : Called) × IsCallOfReturn x r c × IsLastNumber plan x r c
  pub once : (j k : ℕ) (a b : Returned) (c : Called) → slice_get (returns_in x.effects) j ≡ Some a → slice_get (returns_in x.effects) k ≡ Some b
      → IsCallOfReturn x a c → IsCallOfReturn x b c → j ≡ k
