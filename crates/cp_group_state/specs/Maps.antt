-- Maps: the pairs of a key and its value, under the name of the map.
use Rattle.std.specs.Prelude.{ℕ, Bool, false, not, List, Option, Some, None, if◌then◌else◌, bytes_eq}
use Rattle.std.specs.List.{filter}
use Rattle.cp_answers.specs.declared.answer.Answer.{Answer}
use Rattle.cp_answers.specs.declared.answer.Answer.TheVariants as answer
use Rattle.cp_object_ops.specs.declared.map_op.MapOp.{MapOp}
use Rattle.cp_object_ops.specs.declared.map_op.MapOp.TheVariants as map
use Rattle.cp_group_state.specs.Rows.{find, put, without, has_room, most, pair_cmp}

abbrev pub Pairs : Type 0
Pairs = List ((List ℕ × List ℕ) × List ℕ)

-- the pairs after a call on one map, and its answer
pub record MapStep : Type 0 where
  pub after : Pairs
  pub answer : Answer

-- what a call does to the pair of its key
pub data Effect : Type 0 where
  Stays : Effect
  Sets : List ℕ → Effect
  Goes : Effect

abbrev pub key_of : MapOp → List ℕ
key_of (map.Get key) = key
key_of (map.Set key value) = key
key_of (map.Put key value) = key
key_of (map.Remove key) = key
key_of (map.Delete key) = key
key_of (map.PutIfAbsent key value) = key
key_of (map.Cas key old value) = key

abbrev pub set_where_absent : Option (List ℕ) → List ℕ → Effect
set_where_absent None value = Sets value
set_where_absent (Some now) value = Stays

-- whether the key has this value
abbrev pub has_value : Option (List ℕ) → List ℕ → Bool
has_value None value = false
has_value (Some now) value = bytes_eq now value

abbrev pub map_effect : Option (List ℕ) → MapOp → Effect
map_effect now (map.Get key) = Stays
map_effect now (map.Set key value) = Sets value
map_effect now (map.Put key value) = Sets value
map_effect now (map.Remove key) = Goes
map_effect now (map.Delete key) = Goes
map_effect now (map.PutIfAbsent key value) = set_where_absent now value
map_effect now (map.Cas key old value) = if has_value now old then Sets value else Stays

abbrev pub map_answer : Option (List ℕ) → MapOp → Answer
map_answer now (map.Get key) = answer.Ref now
map_answer now (map.Set key value) = answer.Ok
map_answer now (map.Put key value) = answer.Ref now
map_answer now (map.Remove key) = answer.Ref now
map_answer now (map.Delete key) = answer.Ok
map_answer now (map.PutIfAbsent key value) = answer.Ref now
map_answer now (map.Cas key old value) = answer.Bool (has_value now old)

-- a call that sets makes a pair, where there is room
abbrev pub with_effect : Pairs → List ℕ × List ℕ → Effect → Answer → MapStep
with_effect pairs place Stays a = record { after = pairs; answer = a }
with_effect pairs place (Sets value) a = if has_room pair_cmp most pairs place
    then record { after = put pair_cmp pairs place value; answer = a }
    else record { after = pairs; answer = answer.TableFull most }
with_effect pairs place Goes a = record { after = without pair_cmp pairs place; answer = a }

abbrev pub map_step_at : Pairs → List ℕ × List ℕ → Option (List ℕ) → MapOp → MapStep
map_step_at pairs place now op = with_effect pairs place (map_effect now op) (map_answer now op)

abbrev pub map_step : Pairs → List ℕ → MapOp → MapStep
map_step pairs name op = map_step_at pairs (name, key_of op) (find pair_cmp pairs (name, key_of op)) op

-- a destroyed map: its pairs go
abbrev pub map_destroyed : List ℕ → Pairs → Pairs
map_destroyed name pairs = filter (λ e. not (bytes_eq name e.0.0)) pairs
