-- What a return tells, and why.
use Rattle.std.specs.Prelude.{◌≡◌, ◌≤◌, ◌+◌, ℕ, false, Some, Option, List, [], ◌∷◌, ◌++◌, if◌then◌else◌, nat_le, Contains, ◌&&◌, is_none, ◌==◌, slice_get}
use Rattle.cp_base.specs.Identifiers.{replay_id}
use Rattle.cp_base.specs.declared.identifier.ClientNo.{ClientNo}
use Rattle.cp_base.specs.declared.identifier.Invocation.{Invocation}
use Rattle.cp_answers.specs.declared.answer.Answer.{Answer}
use Rattle.cp_answers.specs.declared.answer.Answer.TheVariants as answer
use Rattle.cp_answers.specs.declared.ended_by.EndedBy.TheVariants as ended_by
use Rattle.cp_object_ops.specs.declared.lock_op.LockOp.{LockOp}
use Rattle.cp_ops.specs.declared.op.Op.TheVariants as op
use Rattle.cp_events.specs.declared.effects.Effects.{Effects}
use Rattle.cp_events.specs.declared.effects.Ending.TheVariants as ending
use Rattle.cp_events.specs.declared.event.Event.{Event}
use Rattle.cp_events.specs.declared.event.Event.TheVariants as event
use Rattle.cp_events.specs.declared.plan.Plan.{Plan}
use Rattle.cp_events.specs.declared.user_op.UserOp.TheVariants as user
use Rattle.cp_group_state.specs.Protected.{session_in}
use Rattle.cp_client_rules.specs.declared.rows.HoldRecord.{HoldRecord}
use Rattle.cp_client_rules.specs.Asking.{group_of, wish_of}
use Rattle.cp_client_rules.specs.Calls.{patience}
use Rattle.cp_world_rules.specs.Rows.{Called, End, Request, Returned}
use Rattle.cp_world_rules.specs.Execution.{Execution, returns_in}
use Rattle.cp_world_rules.specs.Holding.{holds_before}
use Rattle.cp_world_rules.specs.Sessions.{AllTaken}
use Rattle.cp_world_rules.specs.Requests.{IsCallOfReturn, IsRequestOfCall, TookPlace}
use Rattle.cp_world_rules.specs.Answers.{lets_go_on}

-- by how much an event moves the clock of a client
abbrev pub moved_by : ClientNo → Event → ℕ
moved_by me (event.ClientTick client ms) = if client.0 == me.0 then ms else 0
moved_by me e = 0

-- The clock of a client after the event of this number. An ignored event doesn't move it.
abbrev pub clock_after : ClientNo → ℕ → List Effects → ℕ
clock_after me number [] = 0
clock_after me number (e ∷ effects) = (if nat_le e.number number && is_none e.ignored then moved_by me e.event else 0) + clock_after me number effects

-- the last request of the call that returns
abbrev pub request_of : Returned → Invocation
request_of r = record { client = replay_id r.client; thread = r.what.thread; number = r.what.number }

module _ (plan : Plan) (x : Execution) (r : Returned) where
  -- The request that an answer ended in this event.
  pub record EndedHere : Type 0 where
    pub end : End
    pub ended : Contains x.ends end
    pub here : end.event ≡ r.event
    pub call_is : end.call ≡ request_of r
    pub request : Request
    pub began : Contains x.requests request
    pub of_call : request.call ≡ request_of r

  -- An answer that doesn't let the call go on.
  pub record ToldAnswer (a : Answer) : Type 0 where
    pub here : EndedHere
    pub answer_is : here.end.answer ≡ a
    pub last : lets_go_on here.request.op a ≡ false

  -- The last request was one on a lock, in a session, and was answered here that a session expired. By the answers before it
  -- the thread had been told holds of the lock that it hasn't given back.
  pub record LostOwnership : Type 0 where
    pub here : EndedHere
    pub expired : ℕ
    pub says : here.end.answer ≡ answer.SessionExpired expired
    pub lock : List ℕ
    pub what : LockOp
    pub on_lock : here.request.op ≡ op.Lock lock what
    pub session : ℕ
    pub in_session : session_in here.request.op ≡ Some session
    pub place : ℕ
    pub at_place : slice_get x.ends place ≡ Some here.end
    pub held : HoldRecord
    pub told : holds_before x.requests x.ends lock here.end place ≡ Some held

  -- The call wished to wait for a bounded time. Since it began, the clock of its client has moved by that and the patience
  -- of clients, by a tick of this event.
  pub record PassedDeadline : Type 0 where
    pub call : Called
    pub call_is : IsCallOfReturn x r call
    pub request : Request
    pub began : Contains x.requests request
    pub asked : IsRequestOfCall plan x request call
    pub number_is : request.call.number ≡ r.what.number
    pub ms : ℕ
    pub ticked : TookPlace x r.event (event.ClientTick r.client ms)
    pub wish : ℕ
    pub bounded : wish_of call.op ≡ Some wish
    pub passed : clock_after r.client call.event x.effects + patience + wish ≤ clock_after r.client r.event x.effects

  -- The call was to close the client's session, and each session of the group that the client had been told before was taken
  -- from it.
  pub record HasNoSession : Type 0 where
    pub name : Option (List ℕ)
    pub asked : TookPlace x r.event (event.Call r.client r.what.thread (user.CloseSession name))
    pub before : List End
    pub behind : List End
    pub parts : x.ends ≡ before ++ behind
    pub later : (e : End) → Contains behind e → r.event ≤ e.event
    pub taken : AllTaken x.requests (replay_id r.client) (group_of (user.CloseSession name)) before

  -- What a return tells.
  pub data IsTold : Type 0 where
    -- the answer that ended the call's last request in this event, unless ownership was lost
    answered : (a : Answer) → r.what.ending ≡ ending.Answered a → ToldAnswer a → (LostOwnership → ⊥) → IsTold
    -- that the session expired in which the thread asked, while it held the lock
    lost : r.what.ending ≡ ending.Answered answer.OwnershipLost → LostOwnership → IsTold
    -- that there was no session to close
    at_once : r.what.ending ≡ ending.Answered answer.Ok → HasNoSession → IsTold
    -- that the call's deadline is past
    late : r.what.ending ≡ ending.Answered (answer.Indeterminate ended_by.Deadline) → PassedDeadline → IsTold

-- each printed return
abbrev pub AllReturnsTell : Plan → Execution → Type 0
AllReturnsTell plan x = (r : Returned) → Contains (returns_in x.effects) r → IsTold plan x r
