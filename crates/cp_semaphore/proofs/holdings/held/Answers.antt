use Rattle.std.proofs.Common.{◌∙◌}
use Rattle.cp_semaphore.proofs.Flattening.{held-flat}
use Rattle.cp_semaphore.proofs.holdings.held.Goals as goal

pub returns : goal.returns
returns c = c.found.ensures ∙ held-flat c.args.holdings.now.entries c.args.session c.args.name.now c.requires
