-- What a group takes of its machine: the functions of the trait `Machine`, over what machines stand for.
use Rattle.std.specs.Prelude.{ℕ, List, Option, Result}
use Rattle.cp_answers.specs.declared.answer.Answer.{Answer}
use Rattle.cp_machine.specs.declared.timer.Timer.{Timer}
use Rattle.cp_machine.specs.Machines.{Stepped}

pub record Machine (V : Type 0) : Type 0 where
  -- before the first entry
  pub first : V
  -- what the entry of these bytes leaves and answers, at this index
  pub step : V → ℕ → List ℕ → Stepped V
  -- what waits for its time to be over, in order
  pub timers : V → List Timer
  -- the bytes of its snapshot
  pub written : V → List ℕ
  -- what the bytes of a snapshot stand for, or the place at which they fail
  pub restored : List ℕ → Result V ℕ
  -- what the bytes of a read are answered without an entry
  pub looked : V → List ℕ → Option Answer
