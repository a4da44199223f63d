use Rattle.std.proofs.Common.{◌∙◌, sym}
use Rattle.cp_wait.proofs.Standing.{looked-up, queue-absent, queue-left}
use Rattle.cp_wait.proofs.waits.take.Goals as goal

pub returns-in-None-clause-queue : goal.returns-in-None-clause-queue
returns-in-None-clause-queue c = (queue-absent c.args.call.now c.args.rows.now.entries c.take_row.new.rows.entries c.args.indexes.now c.requires (sym c.in-None.ensures.value) c.in-None.ensures.rest).1

pub returns-in-None-clause-value : goal.returns-in-None-clause-value
returns-in-None-clause-value c = c.in-None.ensures.value ∙ looked-up c.args.rows.now.entries c.args.indexes.now c.requires c.args.call.now

pub returns-in-None-clause-rest : goal.returns-in-None-clause-rest
returns-in-None-clause-rest c = (queue-absent c.args.call.now c.args.rows.now.entries c.take_row.new.rows.entries c.args.indexes.now c.requires (sym c.in-None.ensures.value) c.in-None.ensures.rest).0

pub returns-in-Some-clause-queue : goal.returns-in-Some-clause-queue
returns-in-Some-clause-queue c = (queue-left c.args.call.now c.args.rows.now.entries c.take_row.new.rows.entries c.args.indexes.now c.leave.new.indexes c.in-Some.waiter c.requires (sym c.in-Some.ensures.value) c.in-Some.ensures.rest c.leave.ensures.gone).1

pub returns-in-Some-clause-value : goal.returns-in-Some-clause-value
returns-in-Some-clause-value c = c.in-Some.ensures.value ∙ looked-up c.args.rows.now.entries c.args.indexes.now c.requires c.args.call.now

pub returns-in-Some-clause-rest : goal.returns-in-Some-clause-rest
returns-in-Some-clause-rest c = (queue-left c.args.call.now c.args.rows.now.entries c.take_row.new.rows.entries c.args.indexes.now c.leave.new.indexes c.in-Some.waiter c.requires (sym c.in-Some.ensures.value) c.in-Some.ensures.rest c.leave.ensures.gone).0
