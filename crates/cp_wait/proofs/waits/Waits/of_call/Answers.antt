use Rattle.std.proofs.Common.{List, [], ap, ◌∙◌, ◌≡◌, subst, IfOk, Option}
use Rattle.std.specs.List.{filter}
use Rattle.std.specs.Map.{values_of}
use Rattle.cp_group_state.specs.Waiters.{same_call}
use Rattle.cp_group_state.specs.declared.rows.Waiter.{Waiter}
use Rattle.cp_wait.specs.Queues.{with_waiter}
use Rattle.cp_wait.proofs.Standing.{looked-up, only-one}
use Rattle.cp_wait.proofs.waits.Waits.of_call.Goals as goal

pub returns-in-Some : goal.returns-in-Some
returns-in-Some c = subst (λ (ws : List Waiter). IfOk c.copy_of.result (λ found. found ≡ ws))
    (ap (λ (o : Option Waiter). with_waiter o []) (c.in-Some.ensures ∙ looked-up c.self.inside.rows.entries c.self.inside.indexes c.self.invariant c.args.call.now)
    ∙ only-one c.args.call.now (values_of c.self.inside.rows.entries) c.self.invariant.differ
    ∙ ap (λ (ws : List Waiter). filter (λ w. same_call c.args.call.now w.call) ws) c.self.view_is)
    c.copy_of.ensures

pub returns-in-None : goal.returns-in-None
returns-in-None c = c.new.ensures
    ∙ ap (λ (o : Option Waiter). with_waiter o []) (c.in-None.ensures ∙ looked-up c.self.inside.rows.entries c.self.inside.indexes c.self.invariant c.args.call.now)
    ∙ only-one c.args.call.now (values_of c.self.inside.rows.entries) c.self.invariant.differ
    ∙ ap (λ (ws : List Waiter). filter (λ w. same_call c.args.call.now w.call) ws) c.self.view_is
