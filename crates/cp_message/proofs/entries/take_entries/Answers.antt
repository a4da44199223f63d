use Rattle.std.proofs.Common.{[]}
use Rattle.std.proofs.lemmas.Result.{err_from_is_err_and}
use Rattle.cp_grammar.specs.Lists.{each, items_reading}
use Rattle.cp_grammar.proofs.ItemLoop.{goes_on, ends, is_done}
use Rattle.cp_message.specs.Entries.{log_entry}
use Rattle.cp_message.proofs.entries.take_entries.Goals as goal

pub loop-preserved : goal.loop-preserved
unfolding each
loop-preserved c =
    rw c.in_ok-push.ensures.items (goes_on (each (log_entry c.args.most)) c.loop.entries.items c.args.count c.loop.counter c.loop.rest.now c.in_ok-entry.entry c.in_ok-entry.after.now
    (items_reading (each (log_entry c.args.most)) [] c.args.count c.args.bytes.now) c.loop-test.true c.in_ok-entry.ensures c.loop.invariant)

pub returns-in_err-entry : goal.returns-in_err-entry
unfolding each
returns-in_err-entry c =
    let p = err_from_is_err_and c.from_residual.result c.from_residual.ensures.1 in
    rw (p.1, p.2) (ends (each (log_entry c.args.most)) c.in_err-entry.field-0.0 c.loop.entries.items c.args.count c.loop.counter c.loop.rest.now
    (items_reading (each (log_entry c.args.most)) [] c.args.count c.args.bytes.now) c.loop-test.true c.in_err-entry.ensures c.loop.invariant)

pub returns : goal.returns
returns c = rw c.from_vec.ensures (is_done (each (log_entry c.args.most)) c.loop.entries.items c.args.count c.loop.counter c.loop.rest.now (items_reading (each (log_entry c.args.most)) [] c.args.count c.args.bytes.now) c.loop-test.false c.loop.invariant)
