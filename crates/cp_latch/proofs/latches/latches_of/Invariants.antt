use Rattle.std.proofs.Common.{◌≡◌, ◌++◌}
use Rattle.std.specs.Vec.Iter.{into_iter_items}
use Rattle.cp_latch.specs.Rounds.{AreRounds}
use Rattle.cp_latch.proofs.latches.latches_of.Given as goal

abbrev pub invariant-loop-name : goal.invariant-loop-name
invariant-loop-name l = record {
  rows : l.latches ++ into_iter_items l.name-iterator ≡ l.fn.rows;
  rounds : AreRounds (into_iter_items l.name-iterator);
}
