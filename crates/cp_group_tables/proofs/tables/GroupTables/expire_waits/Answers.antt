use Rattle.std.proofs.Common.{◌≡◌, List, ap, ◌∙◌}
use Rattle.std.specs.Prelude.{◌++◌}
use Rattle.cp_group_state.specs.Rows.{Object}
use Rattle.cp_group_state.specs.Waiters.{Ended}
use Rattle.cp_group_state.specs.GroupState.{GroupState}
use Rattle.cp_group_state.specs.Changes.{for_each}
use Rattle.cp_group_state.specs.Serving.{left_by, serve}
use Rattle.cp_group_state.specs.Apply.{time_out, told}
use Rattle.cp_group_tables.specs.declared.ending.Ending.TheVariants as ending
use Rattle.cp_group_tables.specs.Endings.{ended_by, timed_out}
use Rattle.cp_group_tables.proofs.Chains.{both, told_on}
use Rattle.cp_group_tables.proofs.tables.GroupTables.expire_waits.Goals as goal

pub returns-clause-state : goal.returns-clause-state
unfolding timed_out
returns-clause-state c =
    let ended : ended_by ending.TimedOut c.as_slice.result.now ≡ (for_each time_out c.args.calls.now c.args.self.now).ended
    = ap (ended_by ending.TimedOut) c.as_slice.ensures ∙ c.in_ok-ended.ensures.ended in
    let keys : c.as_slice-2.result.now ≡ left_by (for_each time_out c.args.calls.now c.args.self.now).ended (for_each time_out c.args.calls.now c.args.self.now).state
    = c.as_slice-2.ensures ∙ c.in_ok-left.ensures ∙ both (λ (es : List Ended) (t : GroupState). left_by es t) ended c.in_ok-ended.ensures.state in
    c.in_ok-serve_each.ensures.state ∙ both (λ (ks : List Object) (t : GroupState). (for_each serve ks t).state) keys c.in_ok-ended.ensures.state

pub returns-clause-told : goal.returns-clause-told
unfolding timed_out
returns-clause-told c =
    let ended : ended_by ending.TimedOut c.as_slice.result.now ≡ (for_each time_out c.args.calls.now c.args.self.now).ended
    = ap (ended_by ending.TimedOut) c.as_slice.ensures ∙ c.in_ok-ended.ensures.ended in
    let keys : c.as_slice-2.result.now ≡ left_by (for_each time_out c.args.calls.now c.args.self.now).ended (for_each time_out c.args.calls.now c.args.self.now).state
    = c.as_slice-2.ensures ∙ c.in_ok-left.ensures ∙ both (λ (es : List Ended) (t : GroupState). left_by es t) ended c.in_ok-ended.ensures.state in
    told_on _ _ _ _ _ c.in_ok-ended.ensures.told (c.in_ok-serve_each.ensures.told ∙ both (λ (ks : List Object) (t : GroupState). c.time_out_each.new.out ++ told (for_each serve ks t).ended) keys c.in_ok-ended.ensures.state)
