-- What a call does to a pair.
use Rattle.std.specs.Prelude.{ℕ, Bool, true, false, List, Option, Some, None}
use Rattle.cp_object_ops.specs.declared.map_op.MapOp.{MapOp}
use Rattle.cp_object_ops.specs.declared.map_op.MapOp.TheVariants as map
use Rattle.cp_group_state.specs.Maps.{Effect, Stays, Sets, Goes, Pairs, MapStep, map_step_at}
use Rattle.cp_group_state.specs.Rows.{find, pair_cmp}

-- whether a call takes the pair away
abbrev pub takes_away : MapOp → Bool
takes_away (map.Get key) = false
takes_away (map.Set key value) = false
takes_away (map.Put key value) = false
takes_away (map.Remove key) = true
takes_away (map.Delete key) = true
takes_away (map.PutIfAbsent key value) = false
takes_away (map.Cas key old value) = false

-- the value that is set, if one is
abbrev pub value_set : Effect → Option (List ℕ)
value_set Stays = None
value_set (Sets value) = Some value
value_set Goes = None

-- the pairs after a call on the pair at a place, and its answer
unfoldable pub step_at : Pairs → List ℕ × List ℕ → MapOp → MapStep
step_at pairs place op = map_step_at pairs place (find pair_cmp pairs place) op
