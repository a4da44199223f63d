-- Each answer has its cause.
use Rattle.std.specs.Prelude.{ℕ}
use Rattle.cp_base.specs.declared.identifier.Invocation.{Invocation}
use Rattle.cp_answers.specs.declared.answer.Answer.{Answer}
use Rattle.cp_group_state.specs.History.{History, IsGivenAt, IsOrderly}
use Rattle.cp_group_causes.specs.Moments.{SessionsAreOwn}
use Rattle.cp_group_causes.specs.Causes.{HasCause}

-- each answer that the entry of an index gives has its cause at the index or before
abbrev pub AllHaveCauses : History → Type 0
AllHaveCauses history = (index : ℕ) (call : Invocation) (a : Answer) → IsGivenAt history index call a → HasCause history index call a

abbrev pub AnswersHaveCauses : Type 0
AnswersHaveCauses = (history : History) → IsOrderly history → SessionsAreOwn history → AllHaveCauses history
