use Rattle.std.proofs.Common.{◌≡◌, subst}
use Rattle.std.specs.declared.cmp.Ordering.{Ordering}
use Rattle.cp_group_state.specs.Rows.{Object, put}
use Rattle.cp_semaphore.proofs.ObjectOrder.{objects_in_order}
use Rattle.cp_semaphore.proofs.rows.put.Goals as goal

pub returns-in-Ok-clause-ok : goal.returns-in-Ok-clause-ok
returns-in-Ok-clause-ok c = subst (λ (order : Object → Object → Ordering). c.put_row.new.rows.entries ≡ put order c.args.rows.now.entries c.args.key c.args.row) objects_in_order c.in-Ok.ensures.ok
