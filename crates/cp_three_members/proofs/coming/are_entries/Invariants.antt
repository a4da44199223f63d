use Rattle.std.proofs.Common.{map, length}
use Rattle.cp_rules_ranges.specs.Ranges.{AreInRange}
use Rattle.cp_raft_state.specs.Said.{entry_in}
use Rattle.cp_three_members.proofs.coming.are_entries.Given as goal

abbrev pub invariant-loop-rest : goal.invariant-loop-rest
invariant-loop-rest l = AreInRange (map entry_in l.rest) → AreInRange (map entry_in l.entries)

abbrev pub decreases-loop-rest : goal.decreases-loop-rest
decreases-loop-rest l = length l.rest
