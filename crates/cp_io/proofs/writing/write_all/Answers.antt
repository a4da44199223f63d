use Rattle.std.proofs.Common.{arith, ◌≤◌, length}
use Rattle.std.proofs.lemmas.Grind.{common_steps}
use Rattle.cp_io.proofs.Appending.{appends_more}
use Rattle.cp_io.proofs.writing.write_all.Goals as goal

pub loop-at-preserved : goal.loop-at-preserved
loop-at-preserved g c =
    let within : c.loop-at.at ≤ length c.args.text.now = c.loop-at.invariant.2 in (
      appends_more _ _ _ c.args.text.now c.loop-at.at c.in-Ok.count within c.loop-at.invariant.0 c.in-Ok.ensures.bytes,
      grind (arith, c.in-Ok.ensures.cause.later, c.loop-at.invariant.1),
      grind (arith, common_steps, c.in-Ok.ensures.bound),
    )
