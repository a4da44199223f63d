use Rattle.std.proofs.Common.{◌∙◌, sym, ap}
use Rattle.std.specs.Ordering.{is_lt}
use Rattle.cp_rows.proofs.Ordered.{above_last}
use Rattle.cp_rows.proofs.changing.is_above_all.Goals as goal

pub returns-in-Some : goal.returns-in-Some
returns-in-Some g c = c.is_lt.ensures ∙ ap is_lt c.cmp.ensures
    ∙ sym (above_last g.K.Ord.cmp g.met.K.Ord.total c.args.rows.now.entries c.in-Some.last.now c.args.key.now c.in-Some.field-0-1.now c.in-Some.ensures.all_up_to c.in-Some.ensures.value)
