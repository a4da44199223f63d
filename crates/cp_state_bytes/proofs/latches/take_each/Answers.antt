use Rattle.std.proofs.Common.{ℕ, ◌+◌, [], ap, arith}
use Rattle.std.proofs.lemmas.Result.{err_from_is_err_and}
use Rattle.cp_grammar.specs.Lists.{items_reading}
use Rattle.cp_grammar.proofs.ItemLoop.{goes_on, ends, is_done}
use Rattle.cp_state_bytes.specs.Rows.{latch_row}
use Rattle.cp_state_bytes.proofs.Counting.{more_counted}
use Rattle.cp_state_bytes.proofs.latches.take_each.Goals as goal

pub loop-preserved : goal.loop-preserved
loop-preserved c =
    let e = rw c.deref.ensures.value at c.in_ok-item.ensures.reads in
    record {
      read = rw c.in_ok-push.ensures.items (goes_on latch_row c.loop.items.items c.args.count c.loop.counter c.loop.rest.now c.in_ok-item.item c.in_ok-item.after.now
          (items_reading latch_row [] c.args.count c.args.bytes.now) c.loop-test.true e c.loop.invariant.read);
      counted = more_counted c.loop.items.items c.push.new.self.items c.in_ok-item.item c.loop.so_far (c.loop.so_far + c.len.result) c.loop.invariant.counted (ap (λ (n : ℕ). c.loop.so_far + n) c.len.ensures) c.in_ok-push.ensures.items;
      few = omega (arith, c.in_ok-item.ensures.few, c.len.ensures, c.loop.invariant.few);
    }

pub returns-in_err-item : goal.returns-in_err-item
returns-in_err-item c =
    let p = err_from_is_err_and c.from_residual.result c.from_residual.ensures.1 in
    let e = rw c.deref.ensures.value at c.in_err-item.ensures.reads in
    rw (p.1, p.2) (ends latch_row c.in_err-item.field-0.0 c.loop.items.items c.args.count c.loop.counter c.loop.rest.now
    (items_reading latch_row [] c.args.count c.args.bytes.now) c.loop-test.true e c.loop.invariant.read)

pub returns : goal.returns
returns c = is_done latch_row c.loop.items.items c.args.count c.loop.counter c.loop.rest.now (items_reading latch_row [] c.args.count c.args.bytes.now) c.loop-test.false c.loop.invariant.read
