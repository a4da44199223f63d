use Rattle.std.proofs.Common.{ℕ, List, Option, Some, subst}
use Rattle.cp_semaphore.specs.Nested.{Sets}
use Rattle.cp_semaphore.proofs.Flattening.{flat-set, flat-same, none-held, some-held}
use Rattle.cp_semaphore.proofs.holdings.set.Goals as goal

pub returns-then-permits-eq0-clause-ok : goal.returns-then-permits-eq0-clause-ok
returns-then-permits-eq0-clause-ok c = flat-set c.args.holdings.now.entries c.remove.new.holdings.entries c.args.session c.args.name.now c.args.permits c.requires (c.remove.ensures.nested c.requires)
    (subst (λ (o : Option ℕ). Sets c.args.session c.args.name.now o c.args.holdings.now.entries c.remove.new.holdings.entries) (none-held c.args.permits c.if-permits-eq0.true) c.remove.ensures.gone)

pub returns-in-Ok-clause-ok : goal.returns-in-Ok-clause-ok
returns-in-Ok-clause-ok c = flat-set c.args.holdings.now.entries c.put.new.holdings.entries c.args.session c.args.name.now c.args.permits c.requires (c.in-Ok.ensures.nested c.requires)
    (subst (λ (o : Option ℕ). Sets c.args.session c.args.name.now o c.args.holdings.now.entries c.put.new.holdings.entries) (some-held c.args.permits c.if-permits-eq0.false)
    (subst (λ (name : List ℕ). Sets c.args.session name (Some c.args.permits) c.args.holdings.now.entries c.put.new.holdings.entries) c.in_ok-name.ensures.cases c.in-Ok.ensures.ok))

pub returns-in-Err-clause-err : goal.returns-in-Err-clause-err
returns-in-Err-clause-err c = flat-same c.args.holdings.now.entries c.put.new.holdings.entries c.requires (c.in-Err.ensures.nested c.requires) c.in-Err.ensures.err
