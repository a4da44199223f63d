-- An answer ends a call as it is, or as lost ownership.
use Rattle.std.proofs.Common.{◌≡◌, ℕ, ◌⊎◌, inl, inr, Bool, true, false, Some, None, Option, refl, if◌then◌else◌}
use Rattle.cp_answers.specs.declared.answer.Answer.{Answer}
use Rattle.cp_answers.specs.declared.answer.Answer.TheVariants as answer
use Rattle.cp_base.specs.declared.identifier.GroupId.{GroupId}
use Rattle.cp_base.specs.declared.identifier.ThreadNo.{ThreadNo}
use Rattle.cp_client_rules.specs.Holds.{Holding, expired, held_after, is_owner}
use Rattle.cp_events.specs.declared.user_op.LockCall.{LockCall}
use Rattle.cp_events.specs.declared.user_op.UserOp.{UserOp}
use Rattle.cp_events.specs.declared.user_op.UserOp.TheVariants as user
use Rattle.cp_group_state.specs.Rows.{find}
use Rattle.cp_try_rules.specs.Clients.{HoldRecord, Holds, LockKey, Purpose, lock_cmp}
use Rattle.cp_try_rules.specs.Holds.{holding}
use Rattle.cp_try_rules.specs.declared.rows.Purpose.TheVariants as purpose

abbrev pub IsTold : Answer → Answer → Type 0
IsTold last a = (last ≡ a) ⊎ (last ≡ answer.OwnershipLost)

told-expired : (key : LockKey) (a : Answer) (o : Option HoldRecord) (holds : Holds) → IsTold (expired key a o holds).answer a
told-expired key a None holds = inl refl
told-expired key a (Some h) holds = inr refl

told-owner : (b : Bool) (key : LockKey) (a : Answer) (holds : Holds) → IsTold (if b then (let x : Holding = record { holds = holds; answer = a } in x) else expired key a (find lock_cmp holds key) holds).answer a
told-owner true key a holds = inl refl
told-owner false key a holds = told-expired key a (find lock_cmp holds key) holds

told-held : (key : LockKey) (o : LockCall) (s : ℕ) (a : Answer) (holds : Holds) → IsTold (held_after key o s a holds).answer a
told-held key o s answer.Ok holds = inl refl
told-held key o s (answer.Bool x) holds = inl refl
told-held key o s (answer.Value x) holds = inl refl
told-held key o s (answer.Ref x) holds = inl refl
told-held key o s (answer.Fence x) holds = inl refl
told-held key o s answer.Free holds = inl refl
told-held key o s (answer.Held x b c d) holds = inl refl
told-held key o s (answer.Session x) holds = inl refl
told-held key o s (answer.Group g m) holds = inl refl
told-held key o s answer.NotOwner holds = inl refl
told-held key o s (answer.LimitReached x) holds = inl refl
told-held key o s answer.OwnershipLost holds = inl refl
told-held key o s (answer.SessionExpired x) holds = told-owner (is_owner o) key (answer.SessionExpired x) holds
told-held key o s answer.TimedOut holds = inl refl
told-held key o s (answer.WaitCancelled x) holds = inl refl
told-held key o s (answer.Stale x) holds = inl refl
told-held key o s (answer.NotHeld x) holds = inl refl
told-held key o s answer.NotInitialized holds = inl refl
told-held key o s answer.ObjectDestroyed holds = inl refl
told-held key o s (answer.GroupDestroyed x) holds = inl refl
told-held key o s (answer.TableFull x) holds = inl refl
told-held key o s (answer.BadArgument x) holds = inl refl
told-held key o s (answer.Indeterminate x) holds = inl refl

pub told : (t : ThreadNo) (g : GroupId) (o : UserOp) (p : Purpose) (a : Answer) (holds : Holds) → IsTold (holding t g o p a holds).answer a
told t g (user.Lock object o) (purpose.ForItself s) a holds = told-held (t.0, g.0, object.name) o s a holds
told t g (user.Lock object o) purpose.ForGroup a holds = inl refl
told t g (user.Lock object o) purpose.ForSession a holds = inl refl
told t g (user.Lock object o) purpose.ForRound a holds = inl refl
told t g (user.Long object o) p a holds = inl refl
told t g (user.Ref object o) p a holds = inl refl
told t g (user.Sem object o) p a holds = inl refl
told t g (user.Jsem object o) p a holds = inl refl
told t g (user.Latch object o) p a holds = inl refl
told t g (user.Map object o) p a holds = inl refl
told t g (user.Destroy which object) p a holds = inl refl
told t g (user.CloseSession name) p a holds = inl refl
told t g (user.Group o) p a holds = inl refl
told t g (user.Member o) p a holds = inl refl
told t g (user.Change o) p a holds = inl refl
