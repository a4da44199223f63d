-- How long a call may wait.
use Rattle.std.specs.Prelude.{ℕ, List, Option, Some, None, codes}
use Rattle.std.specs.Fmt.{decimal}
use Rattle.cp_grammar.specs.Grammar.{Grammar, always, keyed, variant, case, no_case}
use Rattle.cp_grammar.specs.Fields.{byte}
use Rattle.cp_op_values.specs.Numbers.{any_u32}
use Rattle.cp_op_values.specs.declared.wish.Wish.{Wish}
use Rattle.cp_op_values.specs.declared.wish.Wish.TheVariants as variants

abbrev pub wish_tag : Wish → ℕ
wish_tag variants.NoLimit = 0
wish_tag (variants.Within limit) = 1

abbrev pub wish_within : Wish → Option ℕ
wish_within (variants.Within limit) = Some limit
wish_within _ = None

unfoldable pub wish_grammar : Grammar ℕ Wish
wish_grammar = keyed wish_tag (byte 1)
    (case 0 (always variants.NoLimit)
    (case 1 (variant variants.Within wish_within any_u32)
    no_case))

abbrev pub wish_text : Wish → List ℕ
wish_text variants.NoLimit = codes "none"
wish_text (variants.Within limit) = decimal limit
