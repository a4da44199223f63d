use Rattle.std.proofs.Common.{sym, ap, is_some}
use Rattle.cp_wait.specs.Arrivals.{without_call}
use Rattle.cp_wait.proofs.Shelves.{changed_under}
use Rattle.cp_wait.proofs.shelf.remove.Goals as goal

pub returns-in-Some : goal.returns-in-Some
returns-in-Some g c = changed_under g.A.Ord.cmp g.B.Ord.cmp g.met.A.Ord.total (λ calls. without_call calls c.args.call.now) c.args.shelf.now (c.get_mut.follows.lender c.remove.new.index)
    c.args.outer.now c.args.inner.now c.in-Some.index.now c.remove.new.index
    (sym c.in-Some.ensures.value) ((c.get_mut.follows.holds c.remove.new.index).3 (ap is_some (sym c.in-Some.ensures.value))).0 c.remove.ensures
