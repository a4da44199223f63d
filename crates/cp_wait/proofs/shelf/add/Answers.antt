use Rattle.std.proofs.Common.{sym, ap, is_some}
use Rattle.cp_wait.specs.Arrivals.{with_call}
use Rattle.cp_wait.proofs.Shelves.{changed_under}
use Rattle.cp_wait.proofs.shelf.add.Goals as goal

pub returns-in_ok-add-in-Some-clause-ok : goal.returns-in_ok-add-in-Some-clause-ok
returns-in_ok-add-in-Some-clause-ok g c = changed_under g.A.Ord.cmp g.B.Ord.cmp g.met.A.Ord.total (λ calls. with_call calls c.args.call) c.args.shelf.now (c.get_mut.follows.lender c.add.new.index)
    c.args.outer c.args.inner c.in-Some.index.now c.add.new.index
    (sym c.in-Some.ensures.value) ((c.get_mut.follows.holds c.add.new.index).3 (ap is_some (sym c.in-Some.ensures.value))).0 c.in_ok-add-in-Some.ensures.ok
