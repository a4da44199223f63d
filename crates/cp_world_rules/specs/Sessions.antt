-- What clients were told of sessions.
use Rattle.std.specs.Prelude.{◌≡◌, ◌<◌, ℕ, List, Some, slice_get, Contains}
use Rattle.cp_base.specs.declared.identifier.ClientId.{ClientId}
use Rattle.cp_base.specs.declared.identifier.GroupId.{GroupId}
use Rattle.cp_answers.specs.declared.answer.Answer.{Answer}
use Rattle.cp_answers.specs.declared.answer.Answer.TheVariants as answer
use Rattle.cp_ops.specs.declared.op.Op.{Op}
use Rattle.cp_ops.specs.declared.op.Op.TheVariants as op
use Rattle.cp_ops.specs.declared.session_op.SessionOp.TheVariants as session
use Rattle.cp_world_rules.specs.Rows.{End, Request}

-- An answer told the client a session, for which it had asked.
pub record TellsSession (requests : List Request) (client : ClientId) (s : ℕ) (e : End) : Type 0 where
  pub request : Request
  pub began : Contains requests request
  pub of_request : request.call ≡ e.call
  pub by_client : e.call.client ≡ client
  pub opens : request.op ≡ op.Session session.Open
  pub says : e.answer ≡ answer.Session s

-- Why a client has a session no longer: it was told that the session expired, that the group is destroyed, that the session is
-- closed, or of another session.
pub data TakesSession (s : ℕ) (o : Op) (a : Answer) : Type 0 where
  expired : a ≡ answer.SessionExpired s → TakesSession s o a
  destroyed : (g : GroupId) → a ≡ answer.GroupDestroyed g → TakesSession s o a
  closed : o ≡ op.Session (session.Close s) → a ≡ answer.Ok → TakesSession s o a
  replaced : (t : ℕ) → o ≡ op.Session session.Open → a ≡ answer.Session t → (t ≡ s → ⊥) → TakesSession s o a

-- An answer took a session of this group from the client.
pub record IsTaken (requests : List Request) (client : ClientId) (group : GroupId) (s : ℕ) (e : End) : Type 0 where
  pub request : Request
  pub began : Contains requests request
  pub of_request : request.call ≡ e.call
  pub by_client : e.call.client ≡ client
  pub in_group : e.group ≡ group
  pub takes : TakesSession s request.op e.answer

-- Each session of the group that these answers told the client, a later one of them took from it.
abbrev pub AllTaken : List Request → ClientId → GroupId → List End → Type 0
AllTaken requests client group ends = (j s : ℕ) (told : End) → slice_get ends j ≡ Some told → told.group ≡ group → TellsSession requests client s told
    → (k : ℕ) × (e : End) × (j < k) × (slice_get ends k ≡ Some e) × IsTaken requests client group s e
