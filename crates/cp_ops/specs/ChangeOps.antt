-- A change of the members of a group, whose configuration is expected to have this index. It stands in requests only.
use Rattle.std.specs.Prelude.{ℕ, List, Option, Some, None, codes, ◌++◌, ◌∷◌}
use Rattle.std.specs.Fmt.{decimal}
use Rattle.cp_base.specs.declared.identifier.MemberNo.{MemberNo}
use Rattle.cp_grammar.specs.Grammar.{Grammar, keyed, variant, case, no_case, ◌then◌}
use Rattle.cp_grammar.specs.Fields.{byte}
use Rattle.cp_grammar.specs.Common.{index, member_no}
use Rattle.cp_ops.specs.declared.change_op.ChangeOp.{ChangeOp}
use Rattle.cp_ops.specs.declared.change_op.ChangeOp.TheVariants as variants

abbrev pub change_op_tag : ChangeOp → ℕ
change_op_tag (variants.Add member expected) = 0
change_op_tag (variants.Remove member expected) = 1

abbrev pub change_op_add : ChangeOp → Option (MemberNo × ℕ)
change_op_add (variants.Add member expected) = Some (member, expected)
change_op_add _ = None

abbrev pub change_op_remove : ChangeOp → Option (MemberNo × ℕ)
change_op_remove (variants.Remove member expected) = Some (member, expected)
change_op_remove _ = None

unfoldable pub change_op : Grammar ℕ ChangeOp
change_op = keyed change_op_tag (byte 1)
    (case 0 (variant (λ p. variants.Add p.0 p.1) change_op_add (member_no then index))
    (case 1 (variant (λ p. variants.Remove p.0 p.1) change_op_remove (member_no then index))
    no_case))

abbrev pub change_op_text : ChangeOp → List ℕ
change_op_text (variants.Add member expected) = codes "add " ++ decimal member.0 ++ 32 ∷ decimal expected
change_op_text (variants.Remove member expected) = codes "remove " ++ decimal member.0 ++ 32 ∷ decimal expected
