use Rattle.std.proofs.Common.{true, sym, ◌∙◌}
use Rattle.cp_meta.proofs.There.{destroying_there}
use Rattle.cp_meta.proofs.changes.begin_destroying.Goals as goal

pub returns-in-Some : goal.returns-in-Some
returns-in-Some c = λ row is. (c.get_mut.follows.holds (record c.in-Some.row.now { destroying = true })).0
    ∙ destroying_there c.args.groups.now.entries c.args.group c.in-Some.row.now row c.get_mut.ensures.ordered (sym c.in-Some.ensures.value) is
