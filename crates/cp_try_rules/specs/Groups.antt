-- The groups that a client knows by their names.
use Rattle.std.specs.Prelude.{ℕ, Bool, ◌==◌, List, [], Option, Some, None, if◌then◌else◌, bytes_eq, codes, filter, not}
use Rattle.cp_base.specs.declared.identifier.GroupId.{GroupId}
use Rattle.cp_answers.specs.declared.answer.Answer.{Answer}
use Rattle.cp_answers.specs.declared.answer.Answer.TheVariants as answer
use Rattle.cp_events.specs.declared.user_op.UserOp.{UserOp}
use Rattle.cp_events.specs.declared.user_op.UserOp.TheVariants as user
use Rattle.cp_group_state.specs.Rows.{find, put, without, name_cmp}
use Rattle.cp_ops.specs.declared.group_op.GroupOp.TheVariants as group
use Rattle.cp_ops.specs.declared.op.Op.{Op}
use Rattle.cp_ops.specs.declared.op.Op.TheVariants as op
use Rattle.cp_client_rules.specs.Asking.{metadata, default_group}
pub use Rattle.cp_try_rules.specs.declared.choices.Place.{Place}
use Rattle.cp_try_rules.specs.declared.choices.Place.TheVariants as place
use Rattle.cp_try_rules.specs.Clients.{Names}

-- where a call goes
abbrev pub place_of : UserOp → Place
place_of (user.Long object o) = place.In object.group
place_of (user.Ref object o) = place.In object.group
place_of (user.Lock object o) = place.In object.group
place_of (user.Sem object o) = place.In object.group
place_of (user.Jsem object o) = place.In object.group
place_of (user.Latch object o) = place.In object.group
place_of (user.Map object o) = place.In object.group
place_of (user.Destroy which object) = place.In object.group
place_of (user.CloseSession name) = place.In name
place_of (user.Group o) = place.At metadata
place_of (user.Member o) = place.At metadata
place_of (user.Change o) = place.At default_group

abbrev pub group_number : ℕ → GroupId
group_number n = record { 0 = n }

abbrev pub numbered : Option ℕ → Option GroupId
numbered None = None
numbered (Some n) = Some (group_number n)

-- The group `default` is known from the beginning, and is never destroyed.
abbrev pub named_group : Names → List ℕ → Option GroupId
named_group names name = if bytes_eq name (codes "default") then Some default_group else numbered (find name_cmp names name)

-- the group of a call, none where its name isn't known
abbrev pub known_group : Names → Place → Option GroupId
known_group names (place.At g) = Some g
known_group names (place.In None) = Some default_group
known_group names (place.In (Some name)) = named_group names name

-- the name that METADATA is asked for
abbrev pub wanted_name : Place → List ℕ
wanted_name (place.In (Some name)) = name
wanted_name other = []

abbrev pub is_other : ℕ → List ℕ × ℕ → Bool
is_other g row = not (row.1 == g)

-- The answers of METADATA to a request for a group, and to one that destroys it. A destroyed group is forgotten
-- whichever request was told of it.
abbrev pub names_after : Op → Answer → Names → Names
names_after (op.Group (group.Create name size)) (answer.Group g members) names = put name_cmp names name g.0
names_after (op.Group (group.Destroy name)) answer.Ok names = without name_cmp names name
names_after o (answer.GroupDestroyed g) names = filter (is_other g.0) names
names_after o a names = names
