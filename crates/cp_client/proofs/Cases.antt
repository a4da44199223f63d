-- What answers do, case by case.
use Rattle.std.proofs.Common.{◌≡◌, ℕ, ◌==◌, Bool, true, false, List, [], length, Option, Some, None, refl, cond}
use Rattle.std.proofs.lemmas.Bool.{eqb-true}
use Rattle.std.proofs.lemmas.List.{nil_from_length}
use Rattle.cp_base.specs.declared.identifier.GroupId.{GroupId}
use Rattle.cp_answers.specs.declared.answer.Answer.{Answer}
use Rattle.cp_answers.specs.declared.answer.Answer.TheVariants as answer
use Rattle.cp_events.specs.declared.user_op.LockCall.{LockCall}
use Rattle.cp_events.specs.declared.user_op.UserOp.{UserOp}
use Rattle.cp_events.specs.declared.user_op.UserOp.TheVariants as user
use Rattle.cp_group_state.specs.Rows.{find}
use Rattle.cp_client_rules.specs.declared.rows.Purpose.{Purpose}
use Rattle.cp_client_rules.specs.declared.rows.Purpose.TheVariants as purpose
use Rattle.cp_client_rules.specs.Clients.{Holds, LockKey, Sessions, lock_cmp}
use Rattle.cp_client_rules.specs.Holds.{held_after, is_owner, is_unlock, lowered, raised}
use Rattle.cp_client_rules.specs.Sessions.{forget_session, forgets, sessions_after}
use Rattle.cp_client.specs.Changes.{change_of, changed, closed_by}
use Rattle.cp_client.specs.declared.holds.Change.TheVariants as change

module _ (key : LockKey) (o : LockCall) (s : ℕ) (holds : Holds) where
  fenced : (f : ℕ) (b : Bool) → record { holds = cond b holds (raised s key holds); answer = answer.Fence f } ≡ changed (cond b change.Stays change.Raises) key s (answer.Fence f) holds
  fenced f true = refl
  fenced f false = refl

  done : (b : Bool) → record { holds = cond b (lowered key (find lock_cmp holds key) holds) holds; answer = answer.Ok } ≡ changed (cond b change.Lowers change.Stays) key s answer.Ok holds
  done true = refl
  done false = refl

  lost : (x : ℕ) (b : Bool) → cond b (record { holds = holds; answer = answer.SessionExpired x }) (changed change.Expires key s (answer.SessionExpired x) holds) ≡ changed (cond b change.Stays change.Expires) key s (answer.SessionExpired x) holds
  lost x true = refl
  lost x false = refl

  pub held_changed : (a : Answer) → held_after key o s a holds ≡ changed (change_of o a) key s a holds
  held_changed (answer.Fence f) = fenced f (is_owner o)
  held_changed answer.Ok = done (is_unlock o)
  held_changed (answer.SessionExpired x) = lost x (is_owner o)
  held_changed a = refl

module _ (g : GroupId) (sessions : Sessions) where
  abbrev forgotten : Option ℕ → Answer → Sessions
  forgotten None a = forgets g a sessions
  forgotten (Some s) a = forget_session g s sessions

  pub forgotten_after : (o : UserOp) (p : Purpose) (a : Answer) → sessions_after g o p a sessions ≡ forgotten (closed_by o p a) a
  forgotten_after (user.CloseSession name) (purpose.ForItself s) answer.Ok = refl
  forgotten_after o p a = refl

pub no_items : {X : Type 0} (xs : List X) → (length xs == 0) ≡ true → xs ≡ []
no_items xs e = nil_from_length xs (eqb-true (length xs) 0 e)
