use Rattle.std.proofs.Common.{List, ap, ◌∙◌}
use Rattle.std.specs.Map.{values_of}
use Rattle.std.specs.List.{filter}
use Rattle.cp_group_state.specs.Waiters.{first_on}
use Rattle.cp_group_state.specs.declared.rows.Waiter.{Waiter}
use Rattle.cp_wait.specs.Indexes.{is_on}
use Rattle.cp_wait.proofs.Standing.{nth-of, first-is}
use Rattle.cp_wait.proofs.waits.Waits.first.Goals as goal

pub returns : goal.returns
returns c = c.nth.ensures
    ∙ nth-of c.self.inside.rows.entries c.self.inside.indexes c.self.invariant c.on_object-calls.result.now (is_on (c.args.name.now, c.args.kind)) 0 (c.on_object-calls.ensures ∙ c.self.invariant.indexed.objects (c.args.name.now, c.args.kind))
    ∙ first-is (filter (is_on (c.args.name.now, c.args.kind)) (values_of c.self.inside.rows.entries))
    ∙ ap (λ (ws : List Waiter). first_on c.args.kind c.args.name.now ws) c.self.view_is
