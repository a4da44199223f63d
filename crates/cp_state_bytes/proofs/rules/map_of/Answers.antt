use Rattle.std.proofs.Common.{sym, subst}
use Rattle.std.specs.declared.cmp.Ordering.{Ordering}
use Rattle.cp_group_state.specs.Rows.{Object}
use Rattle.cp_group_state.specs.Invariants.{IsRising}
use Rattle.cp_semaphore.proofs.ObjectOrder.{objects_in_order}
use Rattle.cp_state_bytes.proofs.rules.map_of.Goals as goal

pub from_rows-requires : goal.from_rows-requires
from_rows-requires c = subst (λ (order : Object → Object → Ordering). IsRising order c.args.rows) (sym objects_in_order) c.requires
