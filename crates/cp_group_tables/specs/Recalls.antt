-- What is remembered of a call.
use Rattle.std.specs.Prelude.{ℕ, [], ◌∷◌}
use Rattle.cp_base.specs.declared.identifier.Invocation.{Invocation}
use Rattle.cp_answers.specs.declared.answer.Answer.TheVariants as answer
use Rattle.cp_ops.specs.declared.op.Op.{Op}
use Rattle.cp_group_state.specs.GroupState.{GroupState}
use Rattle.cp_group_state.specs.Apply.{Applied, give_again, perform}
use Rattle.cp_group_tables.specs.declared.recall.Recall.{Recall}
use Rattle.cp_group_tables.specs.declared.recall.Recall.TheVariants as recall

-- what is done with a call of which so much is remembered
abbrev pub recalled : Recall → ℕ → Invocation → Op → GroupState → Applied
recalled recall.New index call o s = perform index call o s
recalled (recall.Again a) index call o s = record { state = s; answers = give_again call a }
recalled (recall.Late number) index call o s = record { state = s; answers = (call, answer.Stale number) ∷ [] }
