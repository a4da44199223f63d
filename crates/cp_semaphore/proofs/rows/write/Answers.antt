use Rattle.std.proofs.Common.{◌≡◌, subst, IsSome, sym}
use Rattle.std.specs.declared.cmp.Ordering.{Ordering}
use Rattle.cp_group_state.specs.Rows.{Object, find, put}
use Rattle.cp_semaphore.proofs.ObjectOrder.{objects_in_order}
use Rattle.cp_semaphore.proofs.rows.write.Goals as goal

pub write_row-requires : goal.write_row-requires
write_row-requires c = subst (λ (order : Object → Object → Ordering). IsSome (find order c.args.rows.now.entries c.args.key.now)) (sym objects_in_order) c.requires

pub returns : goal.returns
returns c = subst (λ (order : Object → Object → Ordering). c.write_row.new.rows.entries ≡ put order c.args.rows.now.entries c.args.key.now c.args.row) objects_in_order c.write_row.ensures
