-- What may be done to an atomic reference. A reference is null, or bytes.
use Rattle.std.specs.Prelude.{ℕ, List, Option, Some, None, codes, ◌++◌, ◌∷◌}
use Rattle.cp_base.specs.declared.limits.TheConstants.{MOST_REFERENCE}
use Rattle.cp_grammar.specs.Grammar.{Grammar, always, keyed, variant, case, no_case, ◌then◌}
use Rattle.cp_grammar.specs.Fields.{byte}
use Rattle.cp_op_values.specs.Values.{reference, value, reference_text}
use Rattle.cp_object_ops.specs.declared.ref_op.RefOp.{RefOp}
use Rattle.cp_object_ops.specs.declared.ref_op.RefOp.TheVariants as variants

abbrev pub ref_op_tag : RefOp → ℕ
ref_op_tag variants.Get = 0
ref_op_tag (variants.Set value) = 1
ref_op_tag (variants.GetSet value) = 2
ref_op_tag (variants.Cas old next) = 3
ref_op_tag (variants.Contains value) = 4

abbrev pub ref_op_set : RefOp → Option (Option (List ℕ))
ref_op_set (variants.Set value) = Some value
ref_op_set _ = None

abbrev pub ref_op_get_set : RefOp → Option (Option (List ℕ))
ref_op_get_set (variants.GetSet value) = Some value
ref_op_get_set _ = None

abbrev pub ref_op_cas : RefOp → Option (Option (List ℕ) × Option (List ℕ))
ref_op_cas (variants.Cas old next) = Some (old, next)
ref_op_cas _ = None

abbrev pub ref_op_contains : RefOp → Option (Option (List ℕ))
ref_op_contains (variants.Contains value) = Some value
ref_op_contains _ = None

unfoldable pub ref_op_within : ℕ → Grammar ℕ RefOp
ref_op_within most = keyed ref_op_tag (byte 4)
    (case 0 (always variants.Get)
    (case 1 (variant variants.Set ref_op_set (reference most))
    (case 2 (variant variants.GetSet ref_op_get_set (reference most))
    (case 3 (variant (λ p. variants.Cas p.0 p.1) ref_op_cas ((reference most) then (reference most)))
    (case 4 (variant variants.Contains ref_op_contains (reference most))
    no_case)))))

-- the newest form
abbrev pub ref_op : Grammar ℕ RefOp
ref_op = ref_op_within MOST_REFERENCE

abbrev pub ref_op_text : RefOp → List ℕ
ref_op_text variants.Get = codes "get"
ref_op_text (variants.Set value) = codes "set " ++ reference_text value
ref_op_text (variants.GetSet value) = codes "getset " ++ reference_text value
ref_op_text (variants.Cas old next) = codes "cas " ++ reference_text old ++ 32 ∷ reference_text next
ref_op_text (variants.Contains value) = codes "contains " ++ reference_text value
