-- Why it is not known whether a call took effect.
use Rattle.std.specs.Prelude.{ℕ, List, codes}
use Rattle.cp_grammar.specs.Grammar.{Grammar, always, keyed, case, no_case}
use Rattle.cp_grammar.specs.Fields.{byte}
use Rattle.cp_answers.specs.declared.ended_by.EndedBy.{EndedBy}
use Rattle.cp_answers.specs.declared.ended_by.EndedBy.TheVariants as variants

abbrev pub ended_by_tag : EndedBy → ℕ
ended_by_tag variants.Deadline = 0
ended_by_tag variants.Lost = 1

unfoldable pub ended_by : Grammar ℕ EndedBy
ended_by = keyed ended_by_tag (byte 1)
    (case 0 (always variants.Deadline)
    (case 1 (always variants.Lost)
    no_case))

abbrev pub ended_by_text : EndedBy → List ℕ
ended_by_text variants.Deadline = codes "deadline"
ended_by_text variants.Lost = codes "lost"
