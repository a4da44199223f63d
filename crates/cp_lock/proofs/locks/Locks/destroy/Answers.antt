use Rattle.cp_lock.proofs.Well.{without_well}
use Rattle.cp_lock.proofs.locks.Locks.destroy.Goals as goal

pub invariant_of-self : goal.invariant_of-self
invariant_of-self c = rw c.remove.ensures.entries (without_well _ _ c.self.invariant)
