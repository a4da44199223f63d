use Rattle.std.proofs.Common.{ap}
use Rattle.cp_group_state.specs.Semaphores.{Semaphores, take_all}
use Rattle.cp_semaphore.proofs.Taking.{next-table, next-can, same-table}
use Rattle.cp_semaphore.proofs.serving.take_first.Goals as goal

pub returns-in-Ok-clause-same : goal.returns-in-Ok-clause-same
returns-in-Ok-clause-same c = λ ws. ap (λ (s : Semaphores). take_all c.args.key.now ws s) c.in-Ok.ensures.ok

pub returns-in-Ok-clause-can : goal.returns-in-Ok-clause-can
returns-in-Ok-clause-can c = λ ws can. next-can c.args.key.now c.args.waiter.now ws c.args.tables.now c.take_one.new.tables can c.in-Ok.ensures.ok

pub returns-in-Ok-clause-table : goal.returns-in-Ok-clause-table
returns-in-Ok-clause-table c = λ ws can. next-table c.args.key.now c.args.waiter.now ws c.args.tables.now c.take_one.new.tables c.requires can c.in-Ok.ensures.ok c.in-Ok.ensures.nested

pub returns-in-Err-clause-err : goal.returns-in-Err-clause-err
returns-in-Err-clause-err c = same-table c.args.tables.now c.take_one.new.tables c.requires c.in-Err.ensures.err c.in-Err.ensures.nested
