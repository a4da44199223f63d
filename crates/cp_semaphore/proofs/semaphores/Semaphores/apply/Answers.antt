use Rattle.cp_semaphore.proofs.Soundness.{kept-step}
use Rattle.cp_semaphore.proofs.semaphores.Semaphores.apply.Goals as goal

pub invariant_of-self : goal.invariant_of-self
invariant_of-self c = kept-step c.step.result (c.in_ok-name.name, c.args.kind) c.args.op.now c.self.inside.tables c.step.new.tables c.known.ensures c.self.invariant c.step.ensures.after c.step.ensures.err c.step.ensures.nested
