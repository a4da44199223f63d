-- What may be asked about members.
use Rattle.std.specs.Prelude.{ℕ, List, Option, Some, None, codes, ◌++◌}
use Rattle.std.specs.Fmt.{decimal}
use Rattle.cp_base.specs.declared.identifier.MemberNo.{MemberNo}
use Rattle.cp_grammar.specs.Grammar.{Grammar, keyed, variant, case, no_case}
use Rattle.cp_grammar.specs.Fields.{byte}
use Rattle.cp_grammar.specs.Common.{member_no}
use Rattle.cp_ops.specs.declared.member_op.MemberOp.{MemberOp}
use Rattle.cp_ops.specs.declared.member_op.MemberOp.TheVariants as variants

abbrev pub member_op_tag : MemberOp → ℕ
member_op_tag (variants.Leave member) = 0
member_op_tag (variants.Join member) = 1

abbrev pub member_op_leave : MemberOp → Option MemberNo
member_op_leave (variants.Leave member) = Some member
member_op_leave _ = None

abbrev pub member_op_join : MemberOp → Option MemberNo
member_op_join (variants.Join member) = Some member
member_op_join _ = None

unfoldable pub member_op : Grammar ℕ MemberOp
member_op = keyed member_op_tag (byte 1)
    (case 0 (variant variants.Leave member_op_leave member_no)
    (case 1 (variant variants.Join member_op_join member_no)
    no_case))

abbrev pub member_op_text : MemberOp → List ℕ
member_op_text (variants.Leave member) = codes "leave " ++ decimal member.0
member_op_text (variants.Join member) = codes "join " ++ decimal member.0
