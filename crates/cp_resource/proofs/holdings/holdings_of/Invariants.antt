use Rattle.std.proofs.Common.{◌≡◌, ◌++◌}
use Rattle.std.specs.Vec.Iter.{into_iter_items}
use Rattle.cp_semaphore.specs.Nested.{flat, IsNested}
use Rattle.cp_resource.specs.States.{HoldSome}
use Rattle.cp_resource.proofs.holdings.holdings_of.Given as goal

abbrev pub invariant-loop-session : goal.invariant-loop-session
invariant-loop-session l = record {
  nested : IsNested l.holdings.entries;
  all : flat l.holdings.entries ++ into_iter_items l.session-iterator ≡ l.fn.rows;
  some : HoldSome (into_iter_items l.session-iterator);
}
