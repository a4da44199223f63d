-- What a client may ask about its session in a group.
use Rattle.std.specs.Prelude.{ℕ, List, Option, Some, None, codes, ◌++◌}
use Rattle.std.specs.Fmt.{decimal}
use Rattle.cp_grammar.specs.Grammar.{Grammar, always, keyed, variant, case, no_case}
use Rattle.cp_grammar.specs.Fields.{byte}
use Rattle.cp_grammar.specs.Common.{index}
use Rattle.cp_ops.specs.declared.session_op.SessionOp.{SessionOp}
use Rattle.cp_ops.specs.declared.session_op.SessionOp.TheVariants as variants

abbrev pub session_op_tag : SessionOp → ℕ
session_op_tag variants.Open = 0
session_op_tag (variants.Beat session) = 1
session_op_tag (variants.Close session) = 2

abbrev pub session_op_beat : SessionOp → Option ℕ
session_op_beat (variants.Beat session) = Some session
session_op_beat _ = None

abbrev pub session_op_close : SessionOp → Option ℕ
session_op_close (variants.Close session) = Some session
session_op_close _ = None

unfoldable pub session_op : Grammar ℕ SessionOp
session_op = keyed session_op_tag (byte 2)
    (case 0 (always variants.Open)
    (case 1 (variant variants.Beat session_op_beat index)
    (case 2 (variant variants.Close session_op_close index)
    no_case)))

abbrev pub session_op_text : SessionOp → List ℕ
session_op_text variants.Open = codes "open"
session_op_text (variants.Beat session) = codes "beat " ++ decimal session
session_op_text (variants.Close session) = codes "close " ++ decimal session
