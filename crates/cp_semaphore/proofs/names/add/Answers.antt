use Rattle.std.proofs.Common.{ℕ, List, ap, ◌∙◌}
use Rattle.cp_semaphore.specs.Concerns.{has}
use Rattle.cp_semaphore.proofs.Named.{has_put}
use Rattle.cp_semaphore.proofs.names.add.Goals as goal

pub returns : goal.returns
returns c = λ other. ap (λ (rows : List (List ℕ × Unit {0})). has rows other) c.in_ok-put.ensures ∙ has_put c.args.names.now.entries c.args.name.now other
