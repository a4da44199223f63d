use Rattle.std.proofs.Common.{List, ap, ◌∙◌, is_some}
use Rattle.std.specs.Map.{values_of}
use Rattle.cp_group_state.specs.Waiters.{stands}
use Rattle.cp_group_state.specs.declared.rows.Waiter.{Waiter}
use Rattle.cp_wait.proofs.Standing.{looked-up, stands-found}
use Rattle.cp_wait.proofs.waits.Waits.stands.Goals as goal

pub returns : goal.returns
returns c = c.has_row.ensures ∙ ap is_some (looked-up c.self.inside.rows.entries c.self.inside.indexes c.self.invariant c.args.call.now)
    ∙ stands-found c.args.call.now (values_of c.self.inside.rows.entries) ∙ ap (λ (ws : List Waiter). stands c.args.call.now ws) c.self.view_is
