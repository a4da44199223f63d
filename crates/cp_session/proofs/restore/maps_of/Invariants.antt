use Rattle.std.proofs.Common.{◌≡◌, ◌++◌}
use Rattle.std.specs.Vec.Iter.{into_iter_items}
use Rattle.cp_session.specs.Index.{IsIndexed}
use Rattle.cp_session.proofs.restore.maps_of.Given as goal

abbrev pub invariant-loop-number : goal.invariant-loop-number
invariant-loop-number l = (l.map.entries ++ into_iter_items l.number-iterator ≡ l.fn.rows) × IsIndexed l.map.entries l.numbers.entries
