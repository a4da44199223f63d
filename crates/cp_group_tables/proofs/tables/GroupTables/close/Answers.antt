use Rattle.std.proofs.Common.{◌≡◌, ℕ, List, ap, ◌∙◌}
use Rattle.std.specs.Prelude.{◌++◌}
use Rattle.cp_group_state.specs.Rows.{Object}
use Rattle.cp_group_state.specs.Waiters.{Ended}
use Rattle.cp_group_state.specs.Locks.{held_among}
use Rattle.cp_group_state.specs.GroupState.{GroupState}
use Rattle.cp_group_state.specs.Changes.{for_each}
use Rattle.cp_group_state.specs.Serving.{hand_over, serve}
use Rattle.cp_group_state.specs.Closing.{concerned, end_sessions, free_locks, free_permits}
use Rattle.cp_group_state.specs.Apply.{told}
use Rattle.cp_group_tables.specs.declared.ending.Ending.TheVariants as ending
use Rattle.cp_group_tables.specs.Endings.{ended_by}
use Rattle.cp_group_tables.proofs.Chains.{both, told_on}
use Rattle.cp_group_tables.proofs.tables.GroupTables.close.Goals as goal

pub returns-clause-told : goal.returns-clause-told
returns-clause-told c =
    let names : c.deref.result.now ≡ held_among c.args.sessions.now c.args.self.now.locks
    = c.deref.ensures.value ∙ c.in_ok-freed.ensures.names ∙ ap (λ (t : GroupState). held_among c.args.sessions.now t.locks) c.in_ok-ended.ensures.state in
    let freed : c.free_locks.new.self ≡ free_locks c.args.sessions.now (end_sessions c.args.sessions.now c.args.self.now).state
    = c.in_ok-freed.ensures.state ∙ ap (λ (t : GroupState). free_locks c.args.sessions.now t) c.in_ok-ended.ensures.state in
    let handed : c.hand_over_each.new.self ≡ (for_each (hand_over c.args.index) (held_among c.args.sessions.now c.args.self.now.locks) (free_locks c.args.sessions.now (end_sessions c.args.sessions.now c.args.self.now).state)).state
    = c.in_ok-hand_over_each.ensures.state ∙ both (λ (ns : List (List ℕ)) (t : GroupState). (for_each (hand_over c.args.index) ns t).state) names freed in
    let back : c.free_permits.new.self ≡ free_permits c.args.sessions.now (for_each (hand_over c.args.index) (held_among c.args.sessions.now c.args.self.now.locks) (free_locks c.args.sessions.now (end_sessions c.args.sessions.now c.args.self.now).state)).state
    = c.free_permits.ensures ∙ ap (λ (t : GroupState). free_permits c.args.sessions.now t) handed in
    let ended : ended_by ending.SessionExpired c.as_slice.result.now ≡ (end_sessions c.args.sessions.now c.args.self.now).ended
    = ap (ended_by ending.SessionExpired) c.as_slice.ensures ∙ c.in_ok-ended.ensures.ended in
    let keys : c.as_slice-2.result.now ≡ concerned c.args.sessions.now (end_sessions c.args.sessions.now c.args.self.now).ended c.args.self.now
    = c.as_slice-2.ensures ∙ c.in_ok-concerned.ensures ∙ both (λ (es : List Ended) (t : GroupState). concerned c.args.sessions.now es t) ended c.in_ok-ended.ensures.state in
    told_on _ _ _ _ _
    (told_on _ _ _ _ _ c.in_ok-ended.ensures.told
    (c.in_ok-hand_over_each.ensures.told ∙ both (λ (ns : List (List ℕ)) (t : GroupState). c.end_sessions.new.out ++ told (for_each (hand_over c.args.index) ns t).ended) names freed))
    (c.in_ok-serve_each.ensures.told ∙ both (λ (ks : List Object) (t : GroupState). c.hand_over_each.new.out ++ told (for_each serve ks t).ended) keys back)
