-- What may be done to a countdown latch.
use Rattle.std.specs.Prelude.{ℕ, List, Option, Some, None, codes, ◌++◌}
use Rattle.std.specs.Fmt.{decimal}
use Rattle.cp_grammar.specs.Grammar.{Grammar, always, keyed, variant, case, no_case}
use Rattle.cp_grammar.specs.Fields.{byte, marked}
use Rattle.cp_grammar.specs.Common.{index}
use Rattle.cp_op_values.specs.Numbers.{any_u32, latch_count}
use Rattle.cp_object_ops.specs.declared.latch_op.LatchOp.{LatchOp}
use Rattle.cp_object_ops.specs.declared.latch_op.LatchOp.TheVariants as variants

abbrev pub latch_op_tag : LatchOp → ℕ
latch_op_tag variants.Count = 0
latch_op_tag variants.Round = 1
latch_op_tag (variants.Set count) = 2
latch_op_tag (variants.Down round) = 3
latch_op_tag (variants.Await limit) = 4

abbrev pub latch_op_set : LatchOp → Option ℕ
latch_op_set (variants.Set count) = Some count
latch_op_set _ = None

abbrev pub latch_op_down : LatchOp → Option ℕ
latch_op_down (variants.Down round) = Some round
latch_op_down _ = None

abbrev pub latch_op_await : LatchOp → Option ℕ
latch_op_await (variants.Await limit) = Some limit
latch_op_await _ = None

unfoldable pub latch_op : Grammar ℕ LatchOp
latch_op = keyed latch_op_tag (byte 4)
    (case 0 (always variants.Count)
    (case 1 (always variants.Round)
    (case 2 (variant variants.Set latch_op_set latch_count)
    (case 3 (variant variants.Down latch_op_down index)
    (case 4 (variant variants.Await latch_op_await (marked 1 any_u32))
    no_case)))))

abbrev pub latch_op_text : LatchOp → List ℕ
latch_op_text variants.Count = codes "count"
latch_op_text variants.Round = codes "round"
latch_op_text (variants.Set count) = codes "set " ++ decimal count
latch_op_text (variants.Down round) = codes "down " ++ decimal round
latch_op_text (variants.Await limit) = codes "await " ++ decimal limit
