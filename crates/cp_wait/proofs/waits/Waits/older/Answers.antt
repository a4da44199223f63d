use Rattle.std.proofs.Common.{List, ap, ◌∙◌, ◌≡◌, subst, IfOk}
use Rattle.std.specs.Prelude.{nat_lt}
use Rattle.std.specs.List.{filter}
use Rattle.std.specs.Map.{values_of}
use Rattle.cp_base.specs.declared.identifier.Invocation.{Invocation}
use Rattle.cp_group_state.specs.Apply.{is_older}
use Rattle.cp_group_state.specs.declared.rows.Waiter.{Waiter}
use Rattle.cp_wait.proofs.Standing.{gathered, older-calls}
use Rattle.cp_wait.proofs.waits.Waits.older.Goals as goal

pub returns : goal.returns
returns c = subst (λ (ws : List Waiter). IfOk c.gather.result (λ found. found ≡ ws))
    (gathered c.self.inside.rows.entries c.self.inside.indexes c.self.invariant c.deref.result.now (is_older c.args.call.now)
    (c.deref.ensures.value ∙ c.in_ok-older.ensures
    ∙ ap (λ (cs : List Invocation). filter (λ x. nat_lt x.number c.args.call.now.number) cs) (c.of_thread-calls.ensures ∙ c.self.invariant.indexed.threads (c.args.call.now.client, c.args.call.now.thread))
    ∙ older-calls c.args.call.now (values_of c.self.inside.rows.entries))
    ∙ ap (λ (ws : List Waiter). filter (is_older c.args.call.now) ws) c.self.view_is)
    c.gather.ensures
