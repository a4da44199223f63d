use Rattle.std.proofs.Common.{List, ap, ◌∙◌, subst, IfOk, ◌≡◌}
use Rattle.std.specs.List.{filter}
use Rattle.cp_group_state.specs.declared.rows.Waiter.{Waiter}
use Rattle.cp_wait.specs.Indexes.{is_on}
use Rattle.cp_wait.proofs.Standing.{gathered}
use Rattle.cp_wait.proofs.waits.Waits.on_object.Goals as goal

pub returns : goal.returns
returns c = subst (λ (ws : List Waiter). IfOk c.gather.result (λ found. found ≡ ws))
    (gathered c.self.inside.rows.entries c.self.inside.indexes c.self.invariant c.on_object-calls.result.now (is_on (c.args.name.now, c.args.kind)) (c.on_object-calls.ensures ∙ c.self.invariant.indexed.objects (c.args.name.now, c.args.kind))
    ∙ ap (λ (ws : List Waiter). filter (is_on (c.args.name.now, c.args.kind)) ws) c.self.view_is)
    c.gather.ensures
