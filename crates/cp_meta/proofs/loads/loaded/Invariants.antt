use Rattle.std.proofs.Common.{◌≡◌, ◌++◌, length}
use Rattle.cp_meta_state.specs.Loads.{loaded}
use Rattle.cp_meta.proofs.loads.loaded.Given as goal

abbrev pub invariant-loop-rest : goal.invariant-loop-rest
invariant-loop-rest l = l.pairs.items ++ loaded l.groups.entries l.moves.entries l.rest ≡ loaded l.groups.entries l.moves.entries l.members

abbrev pub decreases-loop-rest : goal.decreases-loop-rest
decreases-loop-rest l = length l.rest
