use Rattle.std.proofs.Common.{◌∙◌}
use Rattle.std.specs.Map.{values_of}
use Rattle.cp_wait.proofs.Standing.{looked-up, absent-none, queue-push, queue-undo}
use Rattle.cp_wait.proofs.waits.enter.Goals as goal

pub add_row-requires : goal.add_row-requires
add_row-requires c = looked-up c.args.rows.now.entries c.args.indexes.now c.requires.queue c.args.waiter.call ∙ absent-none c.args.waiter.call (values_of c.args.rows.now.entries) c.requires.fresh

pub returns-in-Ok-add_row-clause-queue : goal.returns-in-Ok-add_row-clause-queue
returns-in-Ok-add_row-clause-queue c = (queue-push c.args.rows.now.entries c.add_row.new.rows.entries c.args.indexes.now c.enter.new.indexes c.args.waiter c.requires.queue c.requires.fresh c.requires.room
    c.in-Ok-add_row.ensures.ok (c.in-Ok.ensures.ok (values_of c.args.rows.now.entries) c.requires.fresh c.requires.queue.indexed c.requires.queue.differ)).1

pub returns-in-Err-add_row-clause-queue : goal.returns-in-Err-add_row-clause-queue
returns-in-Err-add_row-clause-queue c = queue-undo c.args.rows.now.entries c.add_row.new.rows.entries c.args.indexes.now c.enter.new.indexes c.leave.new.indexes c.args.waiter c.in-Err-add_row.waiter c.requires.queue c.requires.fresh
    c.in-Err-add_row.ensures.err c.in-Err-add_row.ensures.back (c.in-Ok.ensures.ok (values_of c.args.rows.now.entries) c.requires.fresh c.requires.queue.indexed c.requires.queue.differ) c.leave.ensures.gone
