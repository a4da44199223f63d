use Rattle.std.proofs.Common.{◌≡◌, ◌+◌, ◌-◌, ◌++◌, map}
use Rattle.cp_meta_state.specs.declared.rows.Standing.TheVariants.{Active}
use Rattle.cp_meta_state.specs.MetaState.{numbers}
use Rattle.cp_meta.proofs.first.rows_of_members.Given as goal

abbrev pub invariant-loop-member : goal.invariant-loop-member
invariant-loop-member l = l.rows.items ++ map (λ m. (m, Active)) (numbers (l.members - l.member) (l.member + 1)) ≡ map (λ m. (m, Active)) (numbers l.members 1)
