-- Objects that are destroyed, for good.
use Rattle.std.specs.Prelude.{ℕ, Bool, false, List, Option, Some, None, if◌then◌else◌, is_some}
use Rattle.cp_op_values.specs.declared.kind.Kind.{Kind}
use Rattle.cp_op_values.specs.declared.kind.Kind.TheVariants as kind
use Rattle.cp_answers.specs.declared.answer.Answer.TheVariants as answer
use Rattle.cp_ops.specs.declared.op.Op.{Op}
use Rattle.cp_ops.specs.declared.op.Op.TheVariants as op
use Rattle.cp_group_state.specs.Rows.{Object, find, put, without, has_room, most, name_cmp, object_cmp}
use Rattle.cp_group_state.specs.Waiters.{waits_on}
use Rattle.cp_group_state.specs.Semaphores.{sem_destroyed}
use Rattle.cp_group_state.specs.Maps.{map_destroyed}
use Rattle.cp_group_state.specs.GroupState.{GroupState}
use Rattle.cp_group_state.specs.Changes.{end_all}
use Rattle.cp_group_state.specs.Outcomes.{Outcome, answered, answered_with}

abbrev pub is_gone : GroupState → Object → Bool
is_gone s key = is_some (find object_cmp s.gone key)

-- what the state has of an object goes
abbrev pub drop_rows : List ℕ → Kind → GroupState → GroupState
drop_rows name kind.Long s = record s { longs = without name_cmp s.longs name }
drop_rows name kind.Ref s = record s { refs = without name_cmp s.refs name }
drop_rows name kind.Lock s = record s { locks = without name_cmp s.locks name }
drop_rows name kind.Sem s = record s { semaphores = sem_destroyed (name, kind.Sem) s.semaphores }
drop_rows name kind.Jsem s = record s { semaphores = sem_destroyed (name, kind.Jsem) s.semaphores }
drop_rows name kind.Latch s = record s { latches = without name_cmp s.latches name }
drop_rows name kind.Map s = record s { maps = map_destroyed name s.maps }

abbrev pub add_gone : Object → GroupState → GroupState
add_gone key s = record s { gone = put object_cmp s.gone key tt }

-- An object goes, its waiters end, and its name is taken for good.
abbrev pub destroy_rule : Kind → List ℕ → GroupState → Outcome
destroy_rule which name s = if has_room object_cmp most s.gone (name, which)
    then answered_with answer.Ok (end_all (waits_on which name) (λ w. answer.ObjectDestroyed) (add_gone (name, which) (drop_rows name which s)))
    else answered (answer.TableFull most) s

-- the object that an op names
abbrev pub object_of : Op → Option Object
object_of (op.Long name o) = Some (name, kind.Long)
object_of (op.Ref name o) = Some (name, kind.Ref)
object_of (op.Lock name o) = Some (name, kind.Lock)
object_of (op.Sem name o) = Some (name, kind.Sem)
object_of (op.Jsem name o) = Some (name, kind.Jsem)
object_of (op.Latch name o) = Some (name, kind.Latch)
object_of (op.Map name o) = Some (name, kind.Map)
object_of (op.Session o) = None
object_of (op.Destroy which name) = Some (name, which)
object_of (op.Group o) = None
object_of (op.Member o) = None
object_of (op.Change o) = None

abbrev pub names_gone : GroupState → Option Object → Bool
names_gone s None = false
names_gone s (Some key) = is_gone s key
