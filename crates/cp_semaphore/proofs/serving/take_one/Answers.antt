use Rattle.std.proofs.Common.{sym}
use Rattle.cp_semaphore.proofs.Soundness.{met}
use Rattle.cp_semaphore.proofs.serving.take_one.Goals as goal

pub take-requires-clause-met : goal.take-requires-clause-met
take-requires-clause-met c = met c.args.tables.now c.args.key.now c.in-Some.row c.requires (sym c.in-Some.ensures)
