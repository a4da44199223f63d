-- What an execution consists of, row by row, each with the number of its event.
use Rattle.std.specs.Prelude.{ℕ, List, map}
use Rattle.cp_base.specs.declared.identifier.ClientNo.{ClientNo}
use Rattle.cp_base.specs.declared.identifier.GroupId.{GroupId}
use Rattle.cp_base.specs.declared.identifier.Invocation.{Invocation}
use Rattle.cp_base.specs.declared.identifier.ThreadNo.{ThreadNo}
use Rattle.cp_answers.specs.declared.answer.Answer.{Answer}
use Rattle.cp_ops.specs.declared.entry.Entry.{Entry}
use Rattle.cp_ops.specs.declared.entry.Entry.TheVariants as entry
use Rattle.cp_ops.specs.declared.op.Op.{Op}
use Rattle.cp_events.specs.declared.effects.Opened.{Opened}
use Rattle.cp_events.specs.declared.effects.Return.{Return}
use Rattle.cp_events.specs.declared.user_op.UserOp.{UserOp}
use Rattle.cp_group_state.specs.History.{History}

-- an entry that was committed
pub record Committed : Type 0 where
  pub event : ℕ
  pub entry : Entry

-- A request that began, and one that an answer ended. The length is that of its group's history at that moment: so the order
-- within one event is read off lengths.
pub record Request : Type 0 where
  pub event : ℕ
  pub length : ℕ
  pub group : GroupId
  pub call : Invocation
  pub op : Op

pub record End : Type 0 where
  pub event : ℕ
  pub length : ℕ
  pub group : GroupId
  pub call : Invocation
  pub answer : Answer

-- a call that began, with the clock of its client
pub record Called : Type 0 where
  pub event : ℕ
  pub client : ClientNo
  pub thread : ThreadNo
  pub op : UserOp
  pub clock : ℕ

-- a clock that moved, with what it came to
pub record Moved : Type 0 where
  pub event : ℕ
  pub client : ClientNo
  pub ms : ℕ
  pub clock : ℕ

-- a call that returned
pub record Returned : Type 0 where
  pub event : ℕ
  pub client : ClientNo
  pub what : Return

-- a session that a client opened
pub record Opening : Type 0 where
  pub event : ℕ
  pub client : ClientNo
  pub what : Opened

abbrev pub entries_of : List Committed → History
entries_of history = map (λ c. c.entry) history

-- the entry of a request, committed in the event in which it began
abbrev pub committed_of : Request → Committed
committed_of r = record { event = r.event; entry = entry.Call r.call r.op }
