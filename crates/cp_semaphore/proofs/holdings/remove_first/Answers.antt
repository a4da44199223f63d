use Rattle.cp_semaphore.proofs.Destroyed.{one-less}
use Rattle.cp_semaphore.proofs.holdings.remove_first.Goals as goal

pub returns-clause-gone : goal.returns-clause-gone
returns-clause-gone c = one-less c.args.name.now c.args.session c.args.holdings.now.entries c.remove.new.holdings.entries c.remove.ensures.gone
