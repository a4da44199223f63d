-- What may be done to an atomic long. Sums wrap in 64 bits.
use Rattle.std.specs.Prelude.{ℕ, ℤ, List, Option, Some, None, codes, ◌++◌, ◌∷◌}
use Rattle.std.specs.Fmt.{signed_decimal}
use Rattle.cp_grammar.specs.Grammar.{Grammar, always, keyed, variant, case, no_case, ◌then◌}
use Rattle.cp_grammar.specs.Fields.{byte, number, signed}
use Rattle.cp_op_values.specs.Values.{value}
use Rattle.cp_object_ops.specs.declared.long_op.LongOp.{LongOp}
use Rattle.cp_object_ops.specs.declared.long_op.LongOp.TheVariants as variants

abbrev pub long_op_tag : LongOp → ℕ
long_op_tag variants.Get = 0
long_op_tag (variants.Set value) = 1
long_op_tag (variants.GetSet value) = 2
long_op_tag (variants.Add number) = 3
long_op_tag (variants.GetAdd number) = 4
long_op_tag (variants.Cas old next) = 5

abbrev pub long_op_set : LongOp → Option ℤ
long_op_set (variants.Set value) = Some value
long_op_set _ = None

abbrev pub long_op_get_set : LongOp → Option ℤ
long_op_get_set (variants.GetSet value) = Some value
long_op_get_set _ = None

abbrev pub long_op_add : LongOp → Option ℤ
long_op_add (variants.Add number) = Some number
long_op_add _ = None

abbrev pub long_op_get_add : LongOp → Option ℤ
long_op_get_add (variants.GetAdd number) = Some number
long_op_get_add _ = None

abbrev pub long_op_cas : LongOp → Option (ℤ × ℤ)
long_op_cas (variants.Cas old next) = Some (old, next)
long_op_cas _ = None

unfoldable pub long_op : Grammar ℕ LongOp
long_op = keyed long_op_tag (byte 5)
    (case 0 (always variants.Get)
    (case 1 (variant variants.Set long_op_set signed)
    (case 2 (variant variants.GetSet long_op_get_set signed)
    (case 3 (variant variants.Add long_op_add signed)
    (case 4 (variant variants.GetAdd long_op_get_add signed)
    (case 5 (variant (λ p. variants.Cas p.0 p.1) long_op_cas (signed then signed))
    no_case))))))

abbrev pub long_op_text : LongOp → List ℕ
long_op_text variants.Get = codes "get"
long_op_text (variants.Set value) = codes "set " ++ signed_decimal value
long_op_text (variants.GetSet value) = codes "getset " ++ signed_decimal value
long_op_text (variants.Add number) = codes "add " ++ signed_decimal number
long_op_text (variants.GetAdd number) = codes "getadd " ++ signed_decimal number
long_op_text (variants.Cas old next) = codes "cas " ++ signed_decimal old ++ 32 ∷ signed_decimal next
