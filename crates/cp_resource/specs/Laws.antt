-- Reads without an entry answer what an entry would.
use Rattle.std.specs.Prelude.{◌≡◌, ◌==◌, ℕ, true, Some}
use Rattle.cp_base.specs.declared.identifier.Invocation.{Invocation}
use Rattle.cp_answers.specs.declared.answer.Answer.{Answer}
use Rattle.cp_ops.specs.declared.op.Op.{Op}
use Rattle.cp_group_state.specs.GroupState.{GroupState}
use Rattle.cp_group_state.specs.Outcomes.{answered}
use Rattle.cp_group_state.specs.Apply.{outcome}
use Rattle.cp_resource.specs.Reads.{look}

-- In a group that stands, a call of the operation has this outcome, at each index and whoever calls: the same answer, and nothing
-- changes.
abbrev pub LooksAreOutcomes : Type 0
LooksAreOutcomes = (index : ℕ) (call : Invocation) (o : Op) (s : GroupState) (a : Answer)
    → (s.destroyed_group.0 == 0) ≡ true → look o s ≡ Some a → outcome index call o s ≡ answered a s
