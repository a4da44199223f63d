use Rattle.std.proofs.Common.{◌≡◌, ◌++◌, length}
use Rattle.cp_meta_state.specs.Leaving.{outside}
use Rattle.cp_meta.proofs.leaving.outside.Given as goal

abbrev pub invariant-loop-rest : goal.invariant-loop-rest
invariant-loop-rest l = l.others.items ++ outside l.members l.rest ≡ outside l.members l.some

abbrev pub decreases-loop-rest : goal.decreases-loop-rest
decreases-loop-rest l = length l.rest
