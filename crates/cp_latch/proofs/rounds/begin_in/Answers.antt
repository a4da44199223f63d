use Rattle.std.proofs.Common.{sym}
use Rattle.cp_latch.proofs.Steps.{begun_in}
use Rattle.cp_latch.proofs.rounds.begin_in.Goals as goal

pub returns-in-Some : goal.returns-in-Some
returns-in-Some c = begun_in c.args.rows.now.entries (c.get_mut.follows.lender c.begin.new.latch).entries c.args.name.now c.args.count c.in-Some.latch.now c.begin.new.latch c.begin.result
    c.get_mut.ensures.ordered (sym c.in-Some.ensures.value) c.begin.ensures (c.get_mut.follows.holds c.begin.new.latch).0
