-- What may be asked about groups.
use Rattle.std.specs.Prelude.{ℕ, List, Option, Some, None, codes, ◌++◌, ◌∷◌}
use Rattle.std.specs.Fmt.{decimal}
use Rattle.cp_grammar.specs.Grammar.{Grammar, keyed, variant, case, no_case, ◌then◌}
use Rattle.cp_grammar.specs.Fields.{byte}
use Rattle.cp_grammar.specs.Common.{name}
use Rattle.cp_op_values.specs.Numbers.{group_size}
use Rattle.cp_ops.specs.declared.group_op.GroupOp.{GroupOp}
use Rattle.cp_ops.specs.declared.group_op.GroupOp.TheVariants as variants

abbrev pub group_op_tag : GroupOp → ℕ
group_op_tag (variants.Create name size) = 0
group_op_tag (variants.Destroy name) = 1

abbrev pub group_op_create : GroupOp → Option (List ℕ × ℕ)
group_op_create (variants.Create name size) = Some (name, size)
group_op_create _ = None

abbrev pub group_op_destroy : GroupOp → Option (List ℕ)
group_op_destroy (variants.Destroy name) = Some name
group_op_destroy _ = None

unfoldable pub group_op : Grammar ℕ GroupOp
group_op = keyed group_op_tag (byte 1)
    (case 0 (variant (λ p. variants.Create p.0 p.1) group_op_create (name then group_size))
    (case 1 (variant variants.Destroy group_op_destroy name)
    no_case))

abbrev pub group_op_text : GroupOp → List ℕ
group_op_text (variants.Create name size) = codes "create " ++ name ++ 32 ∷ decimal size
group_op_text (variants.Destroy name) = codes "destroy " ++ name
