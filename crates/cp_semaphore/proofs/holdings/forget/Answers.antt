use Rattle.std.proofs.Common.{◌∙◌}
use Rattle.cp_semaphore.proofs.Destroyed.{flat-forgets}
use Rattle.cp_semaphore.proofs.holdings.forget.Goals as goal

pub returns-clause-ok : goal.returns-clause-ok
returns-clause-ok c = flat-forgets c.args.holdings.now.entries c.remove_each.new.holdings.entries c.args.name.now c.deref.result.now c.requires (c.remove_each.ensures.nested c.requires)
    (c.deref.ensures.value ∙ c.in_ok-sessions.ensures) c.remove_each.ensures.gone
