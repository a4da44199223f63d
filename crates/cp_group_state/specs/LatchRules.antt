-- Latches.
use Rattle.std.specs.Prelude.{ℕ, true, List}
use Rattle.cp_op_values.specs.declared.kind.Kind.TheVariants as kind
use Rattle.cp_base.specs.declared.identifier.Invocation.{Invocation}
use Rattle.cp_op_values.specs.declared.wish.Wish.TheVariants as wish
use Rattle.cp_answers.specs.declared.answer.Answer.TheVariants as answer
use Rattle.cp_object_ops.specs.declared.latch_op.LatchOp.{LatchOp}
use Rattle.cp_object_ops.specs.declared.latch_op.LatchOp.TheVariants as latch
use Rattle.cp_group_state.specs.Waiters.{waits_on}
use Rattle.cp_group_state.specs.Latches.{LatchOutcome, latch_step}
use Rattle.cp_group_state.specs.Latches as countdown
use Rattle.cp_group_state.specs.GroupState.{GroupState}
use Rattle.cp_group_state.specs.Changes.{end_all}
use Rattle.cp_group_state.specs.Outcomes.{Outcome, answered, answered_with, wait}

abbrev pub latch_wait : Invocation → List ℕ → LatchOp → GroupState → Outcome
latch_wait call name (latch.Await millis) s =
    wait (record { call = call; kind = kind.Latch; name = name; session = 0; permits = 0; wish = wish.Within millis })
    (wish.Within millis) s
latch_wait call name op s = answered answer.Ok s

abbrev pub on_latch : Invocation → List ℕ → LatchOp → LatchOutcome → GroupState → Outcome
on_latch call name op (countdown.Done a) s = answered a s
on_latch call name op countdown.Wants s = latch_wait call name op s
on_latch call name op countdown.Opened s = answered_with answer.Ok (end_all (waits_on kind.Latch name) (λ w. answer.Bool true) s)

abbrev pub latch_rule : Invocation → List ℕ → LatchOp → GroupState → Outcome
latch_rule call name op s = let step = latch_step s.latches name call op in
    on_latch call name op step.outcome (record s { latches = step.after })
