use Rattle.std.proofs.Common.{◌∙◌, ap}
use Rattle.std.specs.declared.cmp.Ordering.{Ordering}
use Rattle.cp_group_state.specs.Rows.{Object, find}
use Rattle.cp_semaphore.proofs.ObjectOrder.{objects_in_order}
use Rattle.cp_semaphore.proofs.rows.row_of.Goals as goal

pub returns : goal.returns
returns c = c.copied.ensures ∙ c.get.ensures.value ∙ ap (λ (order : Object → Object → Ordering). find order c.args.rows.now.entries c.args.key.now) objects_in_order
