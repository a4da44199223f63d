use Rattle.std.proofs.Common.{ap, ◌∙◌}
use Rattle.std.specs.declared.cmp.Ordering.{Ordering}
use Rattle.cp_group_state.specs.Rows.{Object, put}
use Rattle.cp_remembered.proofs.Order.{same_order}
use Rattle.cp_remembered.proofs.gone.put.Goals as goal

pub returns-clause-ok : goal.returns-clause-ok
returns-clause-ok c = c.in_ok-insert.ensures.entries ∙ ap (λ (cmp : Object → Object → Ordering). put cmp c.args.objects.now.entries c.args.object tt) same_order
