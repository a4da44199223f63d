use Rattle.std.proofs.Common.{List, ap, ◌∙◌}
use Rattle.cp_group_state.specs.declared.rows.Waiter.{Waiter}
use Rattle.cp_wait.specs.Arrivals.{waiter_of}
use Rattle.cp_wait.proofs.Standing.{looked-up}
use Rattle.cp_wait.proofs.waits.Waits.waiter.Goals as goal

pub returns : goal.returns
returns c = c.row_of.ensures ∙ looked-up c.self.inside.rows.entries c.self.inside.indexes c.self.invariant c.args.call.now ∙ ap (λ (ws : List Waiter). waiter_of c.args.call.now ws) c.self.view_is
