-- What may be done to a map.
use Rattle.std.specs.Prelude.{ℕ, List, Option, Some, None, codes, ◌++◌, ◌∷◌}
use Rattle.cp_grammar.specs.Grammar.{Grammar, keyed, variant, case, no_case, ◌then◌}
use Rattle.cp_grammar.specs.Fields.{byte}
use Rattle.cp_op_values.specs.Values.{key, value, hex_text}
use Rattle.cp_object_ops.specs.declared.map_op.MapOp.{MapOp}
use Rattle.cp_object_ops.specs.declared.map_op.MapOp.TheVariants as variants

abbrev pub map_op_tag : MapOp → ℕ
map_op_tag (variants.Get key) = 0
map_op_tag (variants.Set key value) = 1
map_op_tag (variants.Put key value) = 2
map_op_tag (variants.Remove key) = 3
map_op_tag (variants.Delete key) = 4
map_op_tag (variants.PutIfAbsent key value) = 5
map_op_tag (variants.Cas key old next) = 6

abbrev pub map_op_get : MapOp → Option (List ℕ)
map_op_get (variants.Get key) = Some key
map_op_get _ = None

abbrev pub map_op_set : MapOp → Option (List ℕ × List ℕ)
map_op_set (variants.Set key value) = Some (key, value)
map_op_set _ = None

abbrev pub map_op_put : MapOp → Option (List ℕ × List ℕ)
map_op_put (variants.Put key value) = Some (key, value)
map_op_put _ = None

abbrev pub map_op_remove : MapOp → Option (List ℕ)
map_op_remove (variants.Remove key) = Some key
map_op_remove _ = None

abbrev pub map_op_delete : MapOp → Option (List ℕ)
map_op_delete (variants.Delete key) = Some key
map_op_delete _ = None

abbrev pub map_op_put_if_absent : MapOp → Option (List ℕ × List ℕ)
map_op_put_if_absent (variants.PutIfAbsent key value) = Some (key, value)
map_op_put_if_absent _ = None

abbrev pub map_op_cas : MapOp → Option (List ℕ × (List ℕ × List ℕ))
map_op_cas (variants.Cas key old next) = Some (key, (old, next))
map_op_cas _ = None

unfoldable pub map_op : Grammar ℕ MapOp
map_op = keyed map_op_tag (byte 6)
    (case 0 (variant variants.Get map_op_get key)
    (case 1 (variant (λ p. variants.Set p.0 p.1) map_op_set (key then value))
    (case 2 (variant (λ p. variants.Put p.0 p.1) map_op_put (key then value))
    (case 3 (variant variants.Remove map_op_remove key)
    (case 4 (variant variants.Delete map_op_delete key)
    (case 5 (variant (λ p. variants.PutIfAbsent p.0 p.1) map_op_put_if_absent (key then value))
    (case 6 (variant (λ p. variants.Cas p.0 p.1.0 p.1.1) map_op_cas (key then value then value))
    no_case)))))))

abbrev pub map_op_text : MapOp → List ℕ
map_op_text (variants.Get key) = codes "get " ++ hex_text key
map_op_text (variants.Set key value) = codes "set " ++ hex_text key ++ 32 ∷ hex_text value
map_op_text (variants.Put key value) = codes "put " ++ hex_text key ++ 32 ∷ hex_text value
map_op_text (variants.Remove key) = codes "remove " ++ hex_text key
map_op_text (variants.Delete key) = codes "delete " ++ hex_text key
map_op_text (variants.PutIfAbsent key value) = codes "putifabsent " ++ hex_text key ++ 32 ∷ hex_text value
map_op_text (variants.Cas key old next) = codes "cas " ++ hex_text key ++ 32 ∷ hex_text old ++ 32 ∷ hex_text next
