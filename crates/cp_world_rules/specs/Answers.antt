-- What is promised of the answers that end requests.
use Rattle.std.specs.Prelude.{◌≡◌, ◌≤◌, ◌<◌, ◌+◌, ◌⊎◌, ℕ, Bool, true, false, List, Some, slice_get, Contains}
use Rattle.cp_answers.specs.declared.answer.Answer.{Answer}
use Rattle.cp_answers.specs.declared.answer.Answer.TheVariants as answer
use Rattle.cp_object_ops.specs.declared.latch_op.LatchOp.TheVariants as latch
use Rattle.cp_ops.specs.declared.entry.Entry.TheVariants as entry
use Rattle.cp_ops.specs.declared.op.Op.{Op}
use Rattle.cp_ops.specs.declared.op.Op.TheVariants as op
use Rattle.cp_ops.specs.declared.session_op.SessionOp.TheVariants as session
use Rattle.cp_events.specs.declared.plan.Plan.{Plan}
use Rattle.cp_group_state.specs.History.{IsGivenAt}
use Rattle.cp_group_causes.specs.Causes.{HasCause}
use Rattle.cp_world_rules.specs.Rows.{Called, Committed, End, Request, entries_of}
use Rattle.cp_world_rules.specs.Execution.{Execution, history}
use Rattle.cp_world_rules.specs.Requests.{IsForItself, IsRequestOfCall}

-- the entry of an index, counted from 1
abbrev pub IsCommittedAt : List Committed → ℕ → Committed → Type 0
IsCommittedAt rows index c = (place : ℕ) × (index ≡ place + 1) × (slice_get rows place ≡ Some c)

-- The request of an answer: its entry was committed after it began, then the entry that gave the answer was, or it is the same
-- entry, then the request ended. So by lengths of the history, and by events. The answer is that of the one-thread machine, and
-- has its cause at the index at which it was given, or before.
pub record IsAnswered (x : Execution) (e : End) : Type 0 where
  pub request : Request
  pub began : Contains x.requests request
  pub call_is : request.call ≡ e.call
  pub in_group : request.group ≡ e.group
  pub own_index : ℕ
  pub own : Committed
  pub own_at : IsCommittedAt (history x e.group) own_index own
  pub own_is : own.entry ≡ entry.Call request.call request.op
  pub index : ℕ
  pub giving : Committed
  pub giving_at : IsCommittedAt (history x e.group) index giving
  pub given : IsGivenAt (entries_of (history x e.group)) index e.call e.answer
  pub cause : HasCause (entries_of (history x e.group)) index e.call e.answer
  pub begins_first : request.length < own_index
  pub own_first : own_index ≤ index
  pub ends_last : index ≤ e.length
  pub begins_early : request.event ≤ own.event
  pub own_early : own.event ≤ giving.event
  pub ends_late : giving.event ≤ e.event

-- Or it says that the group is destroyed, and comes from a member that ended the group. Without members there is none.
abbrev pub IsOfEndedGroup : Plan → Execution → End → Type 0
IsOfEndedGroup plan x e = ⊥

abbrev pub AllAnswered : Plan → Execution → Type 0
AllAnswered plan x = (e : End) → Contains x.ends e → IsAnswered x e ⊎ IsOfEndedGroup plan x e

-- Whether an answer to what a call needs lets the call go on: a session where it asked for one, a round where it asked for that.
abbrev pub lets_go_on : Op → Answer → Bool
lets_go_on (op.Session session.Open) (answer.Session s) = true
lets_go_on (op.Latch name latch.Round) (answer.Value round) = true
lets_go_on o a = false

-- Such an answer is followed by the request for the call itself, in the same event.
abbrev pub GoesOn : Plan → Execution → Type 0
GoesOn plan x = (q : Request) (e : End) (c : Called) → Contains x.requests q → Contains x.ends e → q.call ≡ e.call → lets_go_on q.op e.answer ≡ true → IsRequestOfCall plan x q c
    → (p : Request) × Contains x.requests p × IsRequestOfCall plan x p c × IsForItself plan c.op p.op × (p.event ≡ e.event)
