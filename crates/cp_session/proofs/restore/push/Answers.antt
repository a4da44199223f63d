use Rattle.std.proofs.Common.{◌∙◌, sym, refl}
use Rattle.cp_session.proofs.Indexed.{opened_new, taken_back}
use Rattle.cp_session.proofs.Tabled.{above_none, behind_sets, client_unfit, order_unfit}
use Rattle.cp_session.proofs.restore.push.Goals as goal

pub returns-in-Some-clause-pushed : goal.returns-in-Some-clause-pushed
returns-in-Some-clause-pushed c = client_unfit c.args.rows.now.entries c.args.numbers.now.entries c.args.number c.in-Some._held c.args.row c.requires (sym c.number_of.ensures ∙ c.in-Some.is)

pub returns-in-Ok-clause-indexed : goal.returns-in-Ok-clause-indexed
returns-in-Ok-clause-indexed c = opened_new c.args.rows.now.entries c.push_row.new.rows.entries c.args.numbers.now.entries c.name.new.numbers.entries c.args.row.client c.args.number c.args.row
    c.requires (sym c.number_of.ensures ∙ c.in-None.is) refl c.in_ok-name.ensures.ok
    (behind_sets c.args.rows.now.entries c.push_row.new.rows.entries c.args.number c.args.row c.in-Ok.ensures.above c.in-Ok.ensures.rows) (above_none c.args.rows.now.entries c.args.number c.in-Ok.ensures.above)

pub returns-in-Err-OutOfOrder-clause-pushed : goal.returns-in-Err-OutOfOrder-clause-pushed
returns-in-Err-OutOfOrder-clause-pushed c = order_unfit c.args.rows.now.entries c.args.number c.args.row (rw c.in-Err-OutOfOrder.field-0-is at c.in-Err-OutOfOrder.ensures.error)

pub returns-in-Err-OutOfOrder-clause-indexed : goal.returns-in-Err-OutOfOrder-clause-indexed
returns-in-Err-OutOfOrder-clause-indexed c = rw c.in-Err-OutOfOrder.ensures.same (taken_back c.args.rows.now.entries c.args.numbers.now.entries c.name.new.numbers.entries c.unname.new.numbers.entries c.args.row.client c.args.number
    c.requires (sym c.number_of.ensures ∙ c.in-None.is) c.in_ok-name.ensures.ok c.unname.ensures)
