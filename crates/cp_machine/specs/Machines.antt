-- What machines step to, and what of it can be spelled.
use Rattle.std.specs.Prelude.{◌≡◌, ◌≤◌, ◌-◌, ◌^◌, ℕ, List, Option, Some, None, Result, Ok, Err}
use Rattle.std.specs.List.{AllByRecursion}
use Rattle.cp_base.specs.declared.identifier.Invocation.{Invocation}
use Rattle.cp_base.specs.declared.limits.TheConstants.{MOST_MEMBER}
use Rattle.cp_answers.specs.declared.answer.Answer.{Answer}
use Rattle.cp_answers.specs.Answers.{answer_grammar}
use Rattle.cp_grammar.specs.Common.{index, invocation}
use Rattle.cp_grammar.specs.declared.stop.ReadError.{ReadError}
use Rattle.cp_grammar.specs.Readers.{Fails}
use Rattle.cp_machine.specs.declared.timer.Timed.{Timed}
use Rattle.cp_machine.specs.declared.timer.Timed.TheVariants as timed
use Rattle.cp_machine.specs.declared.timer.Timer.{Timer}

-- how many members there are, and how many of them a group has at first
pub record IsSized (members size : ℕ) : Type 0 where
  pub some : 1 ≤ size
  pub within : size ≤ members
  pub most : members ≤ MOST_MEMBER

-- what an entry leaves, and what it answers
pub record Stepped (V : Type 0) : Type 0 where
  pub view : V
  pub answers : List (Invocation × Answer)

-- each answer, and the call that it is for, has a spelling
abbrev pub AnswersFit : List (Invocation × Answer) → Type 0
AnswersFit answers = AllByRecursion (λ told. invocation.Fits told.0 × answer_grammar.Fits told.1) answers

-- an answer that is given has a spelling
abbrev pub LookFits : Option Answer → Type 0
LookFits None = Unit {0}
LookFits (Some answer) = answer_grammar.Fits answer

abbrev pub TimedFits : Timed → Type 0
TimedFits (timed.Session session version) = index.Fits session × index.Fits version
TimedFits (timed.Wait call) = invocation.Fits call

-- what it names has a spelling, and its time has 32 bits
pub record TimerFits (t : Timer) : Type 0 where
  pub named : TimedFits t.what
  pub time : t.after ≤ 2 ^ 32 - 1

-- the machine that stands for what the bytes do, or the place at which they fail
abbrev pub Restores : {M V : Type 0} → (M → V) → Result M ReadError → Result V ℕ → Type 0
Restores view (Ok machine) restored = restored ≡ Ok (view machine)
Restores view (Err error) restored = Fails error restored
