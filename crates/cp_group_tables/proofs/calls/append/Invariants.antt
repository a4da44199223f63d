use Rattle.std.proofs.Common.{◌≡◌, ◌++◌}
use Rattle.std.specs.Vec.Iter.{into_iter_items}
use Rattle.cp_group_tables.proofs.calls.append.Given as goal

abbrev pub invariant-loop-told : goal.invariant-loop-told
invariant-loop-told l = l.out ++ into_iter_items l.told-iterator ≡ l.fn.out ++ l.fn.more
