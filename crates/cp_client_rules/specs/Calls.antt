-- A call becomes requests.
use Rattle.std.specs.Prelude.{ℕ, ◌+◌, List, Option, Some, None}
use Rattle.cp_base.specs.declared.identifier.ClientId.{ClientId}
use Rattle.cp_base.specs.declared.identifier.GroupId.{GroupId}
use Rattle.cp_base.specs.declared.identifier.ThreadNo.{ThreadNo}
use Rattle.cp_object_ops.specs.declared.latch_op.LatchOp.TheVariants as latch
use Rattle.cp_ops.specs.declared.op.Op.TheVariants as op
use Rattle.cp_ops.specs.declared.session_op.SessionOp.TheVariants as session
use Rattle.cp_events.specs.declared.plan.Plan.{Plan}
use Rattle.cp_events.specs.declared.user_op.UserOp.{UserOp}
use Rattle.cp_group_state.specs.Rows.{find}
use Rattle.cp_client_rules.specs.declared.rows.Purpose.TheVariants as purpose
use Rattle.cp_client_rules.specs.declared.rows.Task.TheVariants as task
use Rattle.cp_client_rules.specs.Asking.{Need, Nothing, HoldingSession, ItsSession, SessionToClose, Round, group_of, need_of, op_of, wish_of}
use Rattle.cp_client_rules.specs.Clients.{Client, Did, Pending, Purpose, HoldRecord, lock_cmp, session_in_group, ask, done_at_once}

-- A call that a thread has begun.
pub record Call : Type 0 where
  pub thread : ThreadNo
  pub group : GroupId
  pub op : UserOp
  pub deadline : Option ℕ

abbrev pub pending_of : Call → Purpose → Pending
pending_of call p = record { group = call.group; task = task.Calls call.op; purpose = p; deadline = call.deadline }

-- a call ends without an answer this long after it would have waited
abbrev pub patience : ℕ
patience = 60000

abbrev pub deadline_of : ℕ → Option ℕ → Option ℕ
deadline_of clock None = None
deadline_of clock (Some ms) = Some (clock + patience + ms)

-- the session of the thread's record, else the client's
abbrev pub or_own : Option HoldRecord → Option ℕ → Option ℕ
or_own None own = own
or_own (Some h) own = Some h.session

abbrev pub holding_session : Call → List ℕ → Client → Option ℕ
holding_session call name c = or_own (find lock_cmp c.holds (call.thread.0, call.group.0, name)) (session_in_group c call.group)

module _ (plan : Plan) (me : ClientId) where
  -- the request for the call itself, in this session and with this round
  abbrev pub ask_itself : Call → ℕ → ℕ → Client → Did
  ask_itself call s round c = ask me call.thread (pending_of call (purpose.ForItself s)) (op_of plan call.op s round) c

  -- a session is opened first where there is none
  abbrev pub in_session : Call → Option ℕ → Client → Did
  in_session call None c = ask me call.thread (pending_of call purpose.ForSession) (op.Session session.Open) c
  in_session call (Some s) c = ask_itself call s 0 c

  -- without a session there is nothing to close
  abbrev pub closing : Call → Option ℕ → Client → Did
  closing call None c = done_at_once call.thread c
  closing call (Some s) c = ask_itself call s 0 c

  abbrev pub by_need : Need → Call → Client → Did
  by_need Nothing call c = ask_itself call 0 0 c
  by_need (HoldingSession name) call c = in_session call (holding_session call name c) c
  by_need ItsSession call c = in_session call (session_in_group c call.group) c
  by_need SessionToClose call c = closing call (session_in_group c call.group) c
  by_need (Round name) call c = ask me call.thread (pending_of call purpose.ForRound) (op.Latch name latch.Round) c

  -- the first request of a call, or the next one once it has what it needs
  abbrev pub go_on : Call → Client → Did
  go_on call c = by_need (need_of call.op) call c

  -- a call begins
  abbrev pub call_client : ThreadNo → UserOp → Client → Did
  call_client t o c = go_on (record { thread = t; group = group_of o; op = o; deadline = deadline_of c.clock (wish_of o) }) c
