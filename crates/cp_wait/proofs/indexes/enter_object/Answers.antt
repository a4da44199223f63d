use Rattle.std.proofs.Common.{ℕ, List, Bool, ap, ◌∙◌, subst}
use Rattle.std.specs.Prelude.{if◌then◌else◌}
use Rattle.std.specs.declared.cmp.Ordering.{Ordering}
use Rattle.cp_op_values.specs.declared.kind.Kind.{Kind}
use Rattle.cp_group_state.specs.Rows.{name_cmp}
use Rattle.cp_wait.specs.Arrivals.{with_call}
use Rattle.cp_wait.specs.Keys.{CameUnderBoth, SameCallsUnder}
use Rattle.cp_wait.specs.Indexes.{kind_cmp, object_calls}
use Rattle.cp_wait.proofs.Hits.{object_hit}
use Rattle.cp_wait.proofs.KindOrder.{kinds_in_order}
use Rattle.cp_wait.proofs.indexes.enter_object.Goals as goal

pub returns-in-Err-clause-err : goal.returns-in-Err-clause-err
returns-in-Err-clause-err c = λ key. subst (λ (order : Kind → Kind → Ordering). SameCallsUnder order name_cmp c.args.shelf.now c.add.new.shelf) kinds_in_order c.in-Err.ensures.err key.1 key.0

pub returns-in-Ok-clause-ok : goal.returns-in-Ok-clause-ok
returns-in-Ok-clause-ok c = λ key. subst (λ (name : List ℕ). CameUnderBoth kind_cmp name_cmp c.args.waiter.now.kind name c.args.waiter.now.call c.args.shelf.now c.add.new.shelf) c.in_ok-name.ensures.cases
    (subst (λ (order : Kind → Kind → Ordering). CameUnderBoth order name_cmp c.args.waiter.now.kind c.in_ok-name.name c.args.waiter.now.call c.args.shelf.now c.add.new.shelf) kinds_in_order c.in-Ok.ensures.ok) key.1 key.0
    ∙ ap (λ (b : Bool). if b then with_call (object_calls c.args.shelf.now key) c.args.waiter.now.call else object_calls c.args.shelf.now key) (object_hit c.args.waiter.now.kind c.args.waiter.now.name key.1 key.0)
