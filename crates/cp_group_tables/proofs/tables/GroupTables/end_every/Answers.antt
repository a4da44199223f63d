use Rattle.std.proofs.Common.{◌≡◌, List, true, ap, sym, ◌∙◌}
use Rattle.std.specs.List.{filter}
use Rattle.cp_group_state.specs.declared.rows.Waiter.{Waiter}
use Rattle.cp_group_state.specs.GroupState.{GroupState}
use Rattle.cp_group_state.specs.Changes.{finish}
use Rattle.cp_group_tables.specs.declared.ending.Ending.TheVariants as ending
use Rattle.cp_group_tables.specs.Endings.{ended_by}
use Rattle.cp_group_tables.proofs.RuleCases.{all_of}
use Rattle.cp_group_tables.proofs.tables.GroupTables.end_every.Goals as goal

pub returns-clause-state : goal.returns-clause-state
returns-clause-state c =
    let all : c.as_slice.result.now ≡ filter (λ (w : Waiter). true) c.args.self.now.waiters
    = c.as_slice.ensures ∙ c.in_ok-waiting.ensures ∙ ap (λ (s : GroupState). s.waiters) c.self.view_is ∙ sym (all_of c.args.self.now.waiters) in
    c.in_ok-end.ensures.state ∙ ap (λ (ws : List Waiter). (finish (ended_by (ending.GroupDestroyed c.args.group) ws) c.args.self.now).state) all
