-- What the rule of an operation leads to.
use Rattle.std.specs.Prelude.{◌==◌, if◌then◌else◌}
use Rattle.cp_op_values.specs.declared.wish.Wish.{Wish}
use Rattle.cp_op_values.specs.declared.wish.Wish.TheVariants as wish
use Rattle.cp_answers.specs.declared.answer.Answer.{Answer}
use Rattle.cp_answers.specs.declared.answer.Answer.TheVariants as answer
use Rattle.cp_group_state.specs.Waiters.{Waiter}
use Rattle.cp_group_state.specs.GroupState.{GroupState}
use Rattle.cp_group_state.specs.Changes.{Change, stay}
pub use Rattle.cp_group_state.specs.declared.outcome.Reply.{Reply}
pub use Rattle.cp_group_state.specs.declared.outcome.Reply.TheVariants.{Answered, Waits}

-- what the rule of an op changes, and what it answers: an answer of its own, or a wait
pub record Outcome : Type 0 where
  pub change : Change
  pub reply : Reply

abbrev pub answered : Answer → GroupState → Outcome
answered a s = record { change = stay s; reply = Answered a }

abbrev pub answered_with : Answer → Change → Outcome
answered_with a c = record { change = c; reply = Answered a }

-- a call that can't go on waits, unless it doesn't wish to
abbrev pub wait : Waiter → Wish → GroupState → Outcome
wait w wish.NoLimit s = record { change = stay s; reply = Waits w }
wait w (wish.Within ms) s = if ms == 0 then answered answer.TimedOut s else record { change = stay s; reply = Waits w }
