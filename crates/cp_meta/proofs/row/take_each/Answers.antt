use Rattle.std.proofs.Common.{[]}
use Rattle.std.proofs.lemmas.Result.{err_from_is_err_and}
use Rattle.cp_grammar.specs.Lists.{items_reading}
use Rattle.cp_grammar.proofs.ItemLoop.{begins, goes_on, ends, is_done}
use Rattle.cp_meta.proofs.row.take_each.Goals as goal

pub loop-init : goal.loop-init
loop-init g c = begins g.K.RowKey.behind c.new-items.result.items c.args.count c.args.bytes.now c.new-items.ensures.items

pub loop-preserved : goal.loop-preserved
loop-preserved g c =
    let e = rw c.deref.ensures.value at c.in_ok-item.ensures in
    rw c.in_ok-push.ensures.items (goes_on g.K.RowKey.behind c.loop.items.items c.args.count c.loop.counter c.loop.rest.now c.in_ok-item.item c.in_ok-item.after.now
    (items_reading g.K.RowKey.behind [] c.args.count c.args.bytes.now) c.loop-test.true e c.loop.invariant)

pub returns-in_err-item : goal.returns-in_err-item
returns-in_err-item g c =
    let p = err_from_is_err_and c.from_residual.result c.from_residual.ensures.1 in
    let e = rw c.deref.ensures.value at c.in_err-item.ensures in
    rw (p.1, p.2) (ends g.K.RowKey.behind c.in_err-item.field-0.0 c.loop.items.items c.args.count c.loop.counter c.loop.rest.now
    (items_reading g.K.RowKey.behind [] c.args.count c.args.bytes.now) c.loop-test.true e c.loop.invariant)

pub returns : goal.returns
returns g c = is_done g.K.RowKey.behind c.loop.items.items c.args.count c.loop.counter c.loop.rest.now (items_reading g.K.RowKey.behind [] c.args.count c.args.bytes.now) c.loop-test.false c.loop.invariant
