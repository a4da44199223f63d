use Rattle.std.proofs.Common.{◌≡◌, ◌++◌, length, rules}
use Rattle.cp_group_ranges.specs.Rows.{WaiterFits}
use Rattle.cp_state_bytes.specs.Rows.{waiter_row}
use Rattle.cp_state_bytes.specs.Spelled.{each_spelled}
use Rattle.cp_state_bytes.proofs.Spellings.{row_written, none_left_written, rest_fits}
use Rattle.cp_state_bytes.proofs.written_rows.append_each_waiter.Goals as goal

pub loop-waiter-preserved : goal.loop-waiter-preserved
loop-waiter-preserved c = record {
  written = row_written waiter_row c.loop-waiter.out.items c.append_waiter.new.out.items (c.args.out.now.items ++ each_spelled waiter_row c.args.waiters.now) c.in-Some.waiter.now c.loop-waiter.rest.now c.in-Some.after.now
      c.in-Some.ensures.cases.0 c.in_ok-append_waiter.ensures c.loop-waiter.invariant.written;
  fit = rest_fits WaiterFits c.loop-waiter.rest.now c.in-Some.after.now c.in-Some.waiter.now c.in-Some.ensures.cases.0 c.loop-waiter.invariant.fit;
}

pub returns : goal.returns
returns c =
    let empty : length c.loop-waiter.rest.now ≡ 0 = search rules in
    none_left_written waiter_row c.loop-waiter.out.items (c.args.out.now.items ++ each_spelled waiter_row c.args.waiters.now) c.loop-waiter.rest.now empty c.loop-waiter.invariant.written
