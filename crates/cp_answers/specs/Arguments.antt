-- Which argument was bad.
use Rattle.std.specs.Prelude.{ℕ, List, codes}
use Rattle.cp_grammar.specs.Grammar.{Grammar, always, keyed, case, no_case}
use Rattle.cp_grammar.specs.Fields.{byte}
use Rattle.cp_answers.specs.declared.argument.Argument.{Argument}
use Rattle.cp_answers.specs.declared.argument.Argument.TheVariants as variants

abbrev pub argument_tag : Argument → ℕ
argument_tag variants.Overflow = 0
argument_tag variants.Group = 1
argument_tag variants.Size = 2
argument_tag variants.Member = 3
argument_tag variants.Leaving = 4

unfoldable pub argument : Grammar ℕ Argument
argument = keyed argument_tag (byte 4)
    (case 0 (always variants.Overflow)
    (case 1 (always variants.Group)
    (case 2 (always variants.Size)
    (case 3 (always variants.Member)
    (case 4 (always variants.Leaving)
    no_case)))))

abbrev pub argument_text : Argument → List ℕ
argument_text variants.Overflow = codes "overflow"
argument_text variants.Group = codes "group"
argument_text variants.Size = codes "size"
argument_text variants.Member = codes "member"
argument_text variants.Leaving = codes "leaving"
