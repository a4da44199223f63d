use Rattle.std.proofs.Common.{ℕ, List, subst, sym}
use Rattle.cp_semaphore.specs.Serving.{AreServed, CanTake}
use Rattle.cp_semaphore.specs.Tables.{seen}
use Rattle.cp_semaphore.proofs.Taking.{can-served}
use Rattle.cp_semaphore.proofs.semaphores.Semaphores.take_each.Goals as goal

pub take_each-requires-clause-can : goal.take_each-requires-clause-can
take_each-requires-clause-can c = subst (λ (name : List ℕ). CanTake (name, c.args.kind) c.args.waiters.now (seen c.self.inside.tables)) (sym c.in_ok-clone.ensures.cases)
    (can-served (c.args.name.now, c.args.kind) c.args.waiters.now (seen c.self.inside.tables) (subst (AreServed (c.args.name.now, c.args.kind) c.args.waiters.now) (sym c.self.view_is) c.requires))
