use Rattle.std.proofs.Common.{sym}
use Rattle.cp_latch.proofs.Steps.{down_in}
use Rattle.cp_latch.proofs.rounds.down_in.Goals as goal

pub returns-in-Some : goal.returns-in-Some
returns-in-Some c =
    let done = down_in c.args.rows.now.entries (c.get_mut.follows.lender c.step_down.new.latch).entries c.args.name.now c.args.call.now c.args.round c.args.room c.in-Some.latch.now c.step_down.new.latch c.step_down.result
    c.get_mut.ensures.ordered (sym c.in-Some.ensures.value) (c.get_mut.follows.holds c.step_down.new.latch).0 c.step_down.ensures.ok c.step_down.ensures.err in
    record { ok = done.0; err = done.1 }
