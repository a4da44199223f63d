use Rattle.std.proofs.Common.{Bool, ◌||◌, ap, ◌∙◌}
use Rattle.std.specs.List.{filter, list_any}
use Rattle.std.specs.Map.{keys_of}
use Rattle.cp_group_state.specs.Rows.{Object}
use Rattle.cp_group_state.specs.GroupState.{GroupState}
use Rattle.cp_group_state.specs.Waiters.{waits_on}
use Rattle.cp_group_state.specs.Closing.{is_held_by_some}
use Rattle.cp_group_tables.specs.declared.ending.Ending.TheVariants as ending
use Rattle.cp_group_tables.proofs.RuleCases.{left_waiters}
use Rattle.cp_group_tables.proofs.tables.GroupTables.concerned.Goals as goal

pub returns : goal.returns
returns c = c.in_ok-keys.ensures
    ∙ ap (λ (s : GroupState). filter (λ key. is_held_by_some c.args.sessions.now s key || list_any (λ w. waits_on key.1 key.0 w) c.args.ended.now) (keys_of s.semaphores.rows)) c.self.view_is
    ∙ ap (λ (test : Object → Bool). filter (λ key. is_held_by_some c.args.sessions.now c.args.self.now key || test key) (keys_of c.args.self.now.semaphores.rows)) (λ i key. left_waiters ending.SessionExpired c.args.ended.now key i)
