use Rattle.std.proofs.Common.{sym}
use Rattle.cp_semaphore.proofs.Soundness.{met}
use Rattle.cp_semaphore.proofs.steps.step.Goals as goal

pub step_at-requires : goal.step_at-requires
step_at-requires c = met c.args.tables.now c.args.key c.in-Some.row c.requires (sym c.in-Some.ensures)
