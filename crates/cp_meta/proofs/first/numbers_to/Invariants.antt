use Rattle.std.proofs.Common.{◌≡◌, ◌+◌, ◌-◌, ◌++◌}
use Rattle.cp_meta_state.specs.MetaState.{numbers}
use Rattle.cp_meta.proofs.first.numbers_to.Given as goal

abbrev pub invariant-loop-member : goal.invariant-loop-member
invariant-loop-member l = l.members.items ++ numbers (l.size - l.member) (l.member + 1) ≡ numbers l.size 1
