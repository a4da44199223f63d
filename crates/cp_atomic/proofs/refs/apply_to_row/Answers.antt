use Rattle.std.proofs.Common.{sym, ◌∙◌}
use Rattle.cp_atomic.proofs.Steps.{ref_written, unwritten, after_error}
use Rattle.cp_atomic.proofs.refs.apply_to_row.Goals as goal

pub returns-in_err-apply_to-in-Some-clause-err : goal.returns-in_err-apply_to-in-Some-clause-err
returns-in_err-apply_to-in-Some-clause-err c = after_error c.from_residual.result
    ((c.get_mut.follows.holds c.apply_to.new.value).0 ∙ unwritten c.args.rows.now.entries c.args.name.now c.in-Some.value.now c.apply_to.new.value (sym c.in-Some.ensures.value) c.in_err-apply_to-in-Some.ensures.err)

pub returns-in_ok-apply_to-in-Some-clause-rows : goal.returns-in_ok-apply_to-in-Some-clause-rows
returns-in_ok-apply_to-in-Some-clause-rows c = (c.get_mut.follows.holds c.apply_to.new.value).0
    ∙ ref_written c.args.rows.now.entries c.args.name.now c.args.op.now c.in-Some.value.now c.apply_to.new.value c.get_mut.ensures.ordered (sym c.in-Some.ensures.value) c.in_ok-apply_to-in-Some.ensures.value
