-- A call becomes requests.
use Rattle.std.specs.Prelude.{ℕ, List, Option, Some, None}
use Rattle.cp_base.specs.declared.identifier.ClientId.{ClientId}
use Rattle.cp_base.specs.declared.identifier.GroupId.{GroupId}
use Rattle.cp_base.specs.declared.identifier.ThreadNo.{ThreadNo}
use Rattle.cp_object_ops.specs.declared.latch_op.LatchOp.TheVariants as latch
use Rattle.cp_ops.specs.declared.group_op.GroupOp.TheVariants as group
use Rattle.cp_ops.specs.declared.op.Op.{Op}
use Rattle.cp_ops.specs.declared.op.Op.TheVariants as op
use Rattle.cp_ops.specs.declared.session_op.SessionOp.TheVariants as session
use Rattle.cp_events.specs.declared.plan.Plan.{Plan}
use Rattle.cp_events.specs.declared.user_op.UserOp.{UserOp}
use Rattle.cp_group_state.specs.Rows.{find}
use Rattle.cp_client_rules.specs.declared.rows.Task.TheVariants as task
use Rattle.cp_client_rules.specs.Asking.{Need, Nothing, HoldingSession, ItsSession, SessionToClose, Round, metadata, need_of, op_of, wish_of}
use Rattle.cp_client_rules.specs.Calls.{deadline_of, or_own}
use Rattle.cp_try_rules.specs.declared.rows.Purpose.TheVariants as purpose
use Rattle.cp_try_rules.specs.Clients.{Client, Did, Pending, Purpose, lock_cmp, session_in_group, ask, done_at_once}
use Rattle.cp_try_rules.specs.Groups.{known_group, place_of, wanted_name}

-- A call that a thread has begun.
pub record Call : Type 0 where
  pub thread : ThreadNo
  pub op : UserOp
  pub deadline : Option ℕ

abbrev pub pending_of : Call → GroupId → Purpose → Op → Pending
pending_of call g p o = record { group = g; op = o; task = task.Calls call.op; purpose = p; deadline = call.deadline }

-- the session of the thread's record of the lock, else the client's
abbrev pub holding_session : Call → GroupId → List ℕ → Client → Option ℕ
holding_session call g name c = or_own (find lock_cmp c.holds (call.thread.0, g.0, name)) (session_in_group c g)

module _ (plan : Plan) (me : ClientId) where
  -- a request of the call to this group
  abbrev pub ask_for : Call → GroupId → Purpose → Op → Client → Did
  ask_for call g p o c = ask me call.thread (pending_of call g p o) c

  -- the request for the call itself, in this session and with this round
  abbrev pub ask_itself : Call → GroupId → ℕ → ℕ → Client → Did
  ask_itself call g s round c = ask_for call g (purpose.ForItself s) (op_of plan call.op s round) c

  -- a session is opened first where there is none
  abbrev pub in_session : Call → GroupId → Option ℕ → Client → Did
  in_session call g None c = ask_for call g purpose.ForSession (op.Session session.Open) c
  in_session call g (Some s) c = ask_itself call g s 0 c

  -- without a session there is nothing to close
  abbrev pub closing : Call → GroupId → Option ℕ → Client → Did
  closing call g None c = done_at_once call.thread c
  closing call g (Some s) c = ask_itself call g s 0 c

  abbrev pub by_need : Need → Call → GroupId → Client → Did
  by_need Nothing call g c = ask_itself call g 0 0 c
  by_need (HoldingSession name) call g c = in_session call g (holding_session call g name c) c
  by_need ItsSession call g c = in_session call g (session_in_group c g) c
  by_need SessionToClose call g c = closing call g (session_in_group c g) c
  by_need (Round name) call g c = ask_for call g purpose.ForRound (op.Latch name latch.Round) c

  -- the first request of a call to its group, or the next one once it has what it needs
  abbrev pub go_on : Call → GroupId → Client → Did
  go_on call g c = by_need (need_of call.op) call g c

  -- METADATA is asked first for a group that isn't known.
  abbrev pub by_group : Option GroupId → Call → Client → Did
  by_group None call c = ask_for call metadata purpose.ForGroup (op.Group (group.Create (wanted_name (place_of call.op)) plan.size)) c
  by_group (Some g) call c = go_on call g c

  -- The group is looked for once, as the call begins.
  abbrev pub begin_call : Call → Client → Did
  begin_call call c = by_group (known_group c.names (place_of call.op)) call c

  -- a call begins
  abbrev pub call_client : ThreadNo → UserOp → Client → Did
  call_client t o c = begin_call (record { thread = t; op = o; deadline = deadline_of c.clock (wish_of o) }) c
