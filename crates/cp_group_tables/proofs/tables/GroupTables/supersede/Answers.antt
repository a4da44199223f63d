use Rattle.std.proofs.Common.{◌≡◌, List, map, ap, sym, ◌∙◌}
use Rattle.std.specs.Prelude.{◌++◌}
use Rattle.cp_answers.specs.declared.answer.Answer.TheVariants as answer
use Rattle.cp_group_state.specs.declared.rows.Waiter.{Waiter}
use Rattle.cp_group_state.specs.Rows.{Object}
use Rattle.cp_group_state.specs.Waiters.{Ended}
use Rattle.cp_group_state.specs.GroupState.{GroupState}
use Rattle.cp_group_state.specs.Changes.{end_all, for_each}
use Rattle.cp_group_state.specs.Serving.{serve}
use Rattle.cp_group_state.specs.Apply.{is_older, told}
use Rattle.cp_group_tables.specs.declared.ending.Ending.TheVariants as ending
use Rattle.cp_group_tables.specs.Endings.{ended_by}
use Rattle.cp_group_tables.proofs.RuleCases.{objects_of}
use Rattle.cp_group_tables.proofs.Chains.{both, told_on}
use Rattle.cp_group_tables.proofs.tables.GroupTables.supersede.Goals as goal

pub returns-clause-state : goal.returns-clause-state
returns-clause-state c =
    let ended : ended_by (ending.Cancelled c.args.call.now.number) c.as_slice.result.now ≡ (end_all (is_older c.args.call.now) (λ (w : Waiter). answer.WaitCancelled c.args.call.now.number) c.args.self.now).ended
    = ap (ended_by (ending.Cancelled c.args.call.now.number)) c.as_slice.ensures ∙ c.in_ok-older.ensures.ended in
    let keys : map {B = Object} (λ (w : Waiter). (w.name, w.kind)) c.as_slice.result.now ≡ map {B = Object} (λ (e : Ended). (e.waiter.name, e.waiter.kind)) (end_all (is_older c.args.call.now) (λ (w : Waiter). answer.WaitCancelled c.args.call.now.number) c.args.self.now).ended
    = sym (objects_of (ending.Cancelled c.args.call.now.number) c.as_slice.result.now) ∙ ap (λ (es : List Ended). map {B = Object} (λ (e : Ended). (e.waiter.name, e.waiter.kind)) es) ended in
    c.in_ok-serve_where.ensures.state ∙ both (λ (ks : List Object) (t : GroupState). (for_each serve ks t).state) keys c.in_ok-older.ensures.state

pub returns-clause-told : goal.returns-clause-told
returns-clause-told c =
    let ended : ended_by (ending.Cancelled c.args.call.now.number) c.as_slice.result.now ≡ (end_all (is_older c.args.call.now) (λ (w : Waiter). answer.WaitCancelled c.args.call.now.number) c.args.self.now).ended
    = ap (ended_by (ending.Cancelled c.args.call.now.number)) c.as_slice.ensures ∙ c.in_ok-older.ensures.ended in
    let keys : map {B = Object} (λ (w : Waiter). (w.name, w.kind)) c.as_slice.result.now ≡ map {B = Object} (λ (e : Ended). (e.waiter.name, e.waiter.kind)) (end_all (is_older c.args.call.now) (λ (w : Waiter). answer.WaitCancelled c.args.call.now.number) c.args.self.now).ended
    = sym (objects_of (ending.Cancelled c.args.call.now.number) c.as_slice.result.now) ∙ ap (λ (es : List Ended). map {B = Object} (λ (e : Ended). (e.waiter.name, e.waiter.kind)) es) ended in
    told_on _ _ _ _ _ c.in_ok-older.ensures.told (c.in_ok-serve_where.ensures.told ∙ both (λ (ks : List Object) (t : GroupState). c.end_older.new.out ++ told (for_each serve ks t).ended) keys c.in_ok-older.ensures.state)
