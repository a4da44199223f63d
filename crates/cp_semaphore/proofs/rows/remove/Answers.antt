use Rattle.std.proofs.Common.{◌≡◌, subst}
use Rattle.std.specs.declared.cmp.Ordering.{Ordering}
use Rattle.cp_group_state.specs.Rows.{Object, without}
use Rattle.cp_semaphore.proofs.ObjectOrder.{objects_in_order}
use Rattle.cp_semaphore.proofs.rows.remove.Goals as goal

pub returns : goal.returns
returns c = subst (λ (order : Object → Object → Ordering). c.remove.new.self.entries ≡ without order c.args.rows.now.entries c.args.key.now) objects_in_order c.remove.ensures.entries
