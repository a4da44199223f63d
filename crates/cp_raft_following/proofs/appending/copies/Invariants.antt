use Rattle.std.proofs.Common.{◌≡◌, ◌++◌, length, map}
use Rattle.cp_raft_state.specs.Said.{entry_in}
use Rattle.cp_raft_following.proofs.appending.copies.Given as goal

abbrev pub invariant-loop-rest : goal.invariant-loop-rest
invariant-loop-rest l = l.entries ++ map entry_in l.rest ≡ map entry_in l.handed

abbrev pub decreases-loop-rest : goal.decreases-loop-rest
decreases-loop-rest l = length l.rest
