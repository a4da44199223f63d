use Rattle.cp_semaphore.proofs.Soundness.{first-table}
use Rattle.cp_semaphore.proofs.semaphores.Semaphores.new.Goals as goal

pub invariant_of-result : goal.invariant_of-result
invariant_of-result c = first-table (record { alloc = c.args.alloc; rows = c.new.result; holdings = c.new-2.result }) c.new.ensures.empty c.new-2.ensures.empty
