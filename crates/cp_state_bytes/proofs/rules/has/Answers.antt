use Rattle.std.proofs.Common.{◌∙◌, ap, is_some}
use Rattle.std.specs.declared.cmp.Ordering.{Ordering}
use Rattle.cp_group_state.specs.Rows.{Object, find}
use Rattle.cp_semaphore.proofs.ObjectOrder.{objects_in_order}
use Rattle.cp_state_bytes.proofs.rules.has.Goals as goal

pub returns : goal.returns
returns c = c.contains_key.ensures ∙ ap (λ (order : Object → Object → Ordering). is_some (find order c.args.semaphores.now.entries c.args.object.now)) objects_in_order
