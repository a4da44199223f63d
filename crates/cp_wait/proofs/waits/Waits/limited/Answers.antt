use Rattle.std.proofs.Common.{List, ap, ◌∙◌}
use Rattle.std.specs.Prelude.{slice_get}
use Rattle.std.specs.List.{filter}
use Rattle.cp_group_state.specs.declared.rows.Waiter.{Waiter}
use Rattle.cp_wait.specs.Arrivals.{waits_limited}
use Rattle.cp_wait.proofs.Standing.{nth-of}
use Rattle.cp_wait.proofs.waits.Waits.limited.Goals as goal

pub returns : goal.returns
returns c = c.nth.ensures
    ∙ nth-of c.self.inside.rows.entries c.self.inside.indexes c.self.invariant c.as_slice.result.now waits_limited c.args.place (c.as_slice.ensures ∙ c.self.invariant.indexed.limited tt)
    ∙ ap (λ (ws : List Waiter). slice_get (filter waits_limited ws) c.args.place) c.self.view_is
