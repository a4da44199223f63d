use Rattle.std.proofs.Common.{ap, ◌∙◌}
use Rattle.std.specs.declared.cmp.Ordering.{Ordering}
use Rattle.cp_op_values.specs.declared.kind.Kind.{Kind}
use Rattle.cp_group_state.specs.Rows.{name_cmp}
use Rattle.cp_wait.specs.Keys.{calls_under}
use Rattle.cp_wait.proofs.KindOrder.{kinds_in_order}
use Rattle.cp_wait.proofs.indexes.on_object.Goals as goal

pub returns : goal.returns
returns c = c.calls_under.ensures ∙ ap (λ (order : Kind → Kind → Ordering). calls_under order name_cmp c.args.indexes.now.objects c.args.kind c.args.name.now) kinds_in_order
