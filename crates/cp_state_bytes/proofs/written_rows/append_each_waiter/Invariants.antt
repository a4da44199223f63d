use Rattle.std.proofs.Common.{◌≡◌, ◌++◌, length}
use Rattle.std.specs.List.{AllByRecursion}
use Rattle.cp_group_ranges.specs.Rows.{WaiterFits}
use Rattle.cp_state_bytes.specs.Rows.{waiter_row}
use Rattle.cp_state_bytes.specs.Spelled.{each_spelled}
use Rattle.cp_state_bytes.proofs.written_rows.append_each_waiter.Given as goal

abbrev pub invariant-loop-waiter : goal.invariant-loop-waiter
invariant-loop-waiter l = record {
  written : l.out.items ++ each_spelled waiter_row l.rest ≡ l.fn.out.items ++ each_spelled waiter_row l.waiters;
  fit : AllByRecursion WaiterFits l.rest;
}

abbrev pub decreases-loop-waiter : goal.decreases-loop-waiter
decreases-loop-waiter l = length l.rest
