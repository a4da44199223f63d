use Rattle.std.proofs.Common.{◌≡◌, ◌++◌}
use Rattle.std.specs.Vec.Iter.{into_iter_items}
use Rattle.cp_group_tables.proofs.entries.append.Given as goal

abbrev pub invariant-loop-waiter : goal.invariant-loop-waiter
invariant-loop-waiter l = l.waiters ++ into_iter_items l.waiter-iterator ≡ l.fn.waiters ++ l.fn.more
