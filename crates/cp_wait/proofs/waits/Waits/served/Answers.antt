use Rattle.std.proofs.Common.{ℤ, List, ap, ◌∙◌, subst, IfOk, ◌≡◌}
use Rattle.std.specs.Int.{w64}
use Rattle.std.proofs.lemmas.Int.{to_z-of_z}
use Rattle.cp_group_state.specs.Semaphores.{served}
use Rattle.cp_group_state.specs.declared.rows.Waiter.{Waiter}
use Rattle.cp_wait.specs.Queues.{served_at}
use Rattle.cp_wait.proofs.Standing.{served-of}
use Rattle.cp_wait.proofs.waits.Waits.served.Goals as goal

pub returns : goal.returns
returns c = subst (λ (ws : List Waiter). IfOk c.serve.result (λ found. found ≡ ws))
    (ap (λ (available : ℤ). served_at available c.on_object-calls.result.now c.self.inside.rows.entries) (to_z-of_z w64 c.args.available c.ranges.available)
    ∙ served-of c.self.inside.rows.entries c.self.inside.indexes c.self.invariant c.on_object-calls.result.now (c.args.name.now, c.args.kind) c.args.available (c.on_object-calls.ensures ∙ c.self.invariant.indexed.objects (c.args.name.now, c.args.kind))
    ∙ ap (λ (ws : List Waiter). served (c.args.name.now, c.args.kind) c.args.available ws) c.self.view_is)
    c.serve.ensures
