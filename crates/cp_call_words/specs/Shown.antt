-- A call as a transcript shows it.
use Rattle.std.specs.Prelude.{ℕ, Bool, true, cond, ◌&&◌, List, Option, Some, None, codes}
use Rattle.cp_grammar.specs.Words.{same_bytes}
use Rattle.cp_events.specs.declared.object.Object.{Object}
use Rattle.cp_events.specs.declared.user_op.UserOp.{UserOp}
use Rattle.cp_events.specs.declared.user_op.UserOp.TheVariants as user

-- the group that a call names; where it is to be short, not `default`
abbrev pub named : Bool → Option (List ℕ) → Option (List ℕ)
named short None = None
named short (Some group) = cond (short && same_bytes group (codes "default")) None (Some group)

abbrev pub with_group : (Option (List ℕ) → Option (List ℕ)) → Object → Object
with_group f object = record { name = object.name; group = f object.group }

-- the same call, with another group named
abbrev pub with_groups : (Option (List ℕ) → Option (List ℕ)) → UserOp → UserOp
with_groups f (user.Long object call) = user.Long (with_group f object) call
with_groups f (user.Ref object call) = user.Ref (with_group f object) call
with_groups f (user.Lock object call) = user.Lock (with_group f object) call
with_groups f (user.Sem object call) = user.Sem (with_group f object) call
with_groups f (user.Jsem object call) = user.Jsem (with_group f object) call
with_groups f (user.Latch object call) = user.Latch (with_group f object) call
with_groups f (user.Map object op) = user.Map (with_group f object) op
with_groups f (user.Destroy kind object) = user.Destroy kind (with_group f object)
with_groups f (user.CloseSession group) = user.CloseSession (f group)
with_groups f (user.Group call) = user.Group call
with_groups f (user.Member op) = user.Member op
with_groups f (user.Change op) = user.Change op

-- `@default` left out, and `default` where a session is closed.
abbrev pub shown : UserOp → UserOp
shown op = with_groups (named true) op
