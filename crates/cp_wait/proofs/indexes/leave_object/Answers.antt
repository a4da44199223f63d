use Rattle.std.proofs.Common.{Bool, ap, ◌∙◌, subst}
use Rattle.std.specs.Prelude.{if◌then◌else◌}
use Rattle.std.specs.declared.cmp.Ordering.{Ordering}
use Rattle.cp_op_values.specs.declared.kind.Kind.{Kind}
use Rattle.cp_group_state.specs.Rows.{name_cmp}
use Rattle.cp_wait.specs.Arrivals.{without_call}
use Rattle.cp_wait.specs.Keys.{WentFromBoth}
use Rattle.cp_wait.specs.Indexes.{object_calls}
use Rattle.cp_wait.proofs.Hits.{object_hit}
use Rattle.cp_wait.proofs.KindOrder.{kinds_in_order}
use Rattle.cp_wait.proofs.indexes.leave_object.Goals as goal

pub returns : goal.returns
returns c = λ key. subst (λ (order : Kind → Kind → Ordering). WentFromBoth order name_cmp c.args.waiter.now.kind c.args.waiter.now.name c.args.waiter.now.call c.args.shelf.now c.remove.new.shelf) kinds_in_order c.remove.ensures key.1 key.0
    ∙ ap (λ (b : Bool). if b then without_call (object_calls c.args.shelf.now key) c.args.waiter.now.call else object_calls c.args.shelf.now key) (object_hit c.args.waiter.now.kind c.args.waiter.now.name key.1 key.0)
