use Rattle.std.proofs.Common.{sym, ◌∙◌}
use Rattle.cp_atomic.proofs.Steps.{long_written}
use Rattle.cp_atomic.proofs.longs.apply_to_row.Goals as goal

pub returns-in-Some-clause-rows : goal.returns-in-Some-clause-rows
returns-in-Some-clause-rows c = (c.get_mut.follows.holds c.apply_to.new.value).0
    ∙ long_written c.args.rows.now.entries c.args.name.now c.args.op.now c.in-Some.value.now c.apply_to.new.value c.get_mut.ensures.ordered (sym c.in-Some.ensures.value) c.apply_to.ensures.value
