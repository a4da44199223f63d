use Rattle.cp_semaphore.proofs.Destroyed.{kept-destroyed}
use Rattle.cp_semaphore.proofs.semaphores.Semaphores.destroy.Goals as goal

pub invariant_of-self : goal.invariant_of-self
invariant_of-self c = kept-destroyed c.destroy.result (c.in_ok-clone.field-0, c.args.kind) c.self.inside.tables c.destroy.new.tables c.self.invariant c.destroy.ensures.ok c.destroy.ensures.err c.destroy.ensures.nested
