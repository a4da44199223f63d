use Rattle.cp_raft_leading.proofs.Copies.{stops}
use Rattle.std.proofs.Common.{sym, ◌∙◌}
use Rattle.cp_raft_leading.proofs.copying.copies.Goals as goal

pub returns-in-None : goal.returns-in-None
returns-in-None g c =
    c.from_vec.ensures
    ∙ stops (g.G.Log.stored c.args.stored.now) c.loop-left.index c.loop-left.left c.loop-left.copies.items _ (sym c.in-None.is ∙ c.in_ok-entry.ensures) c.loop-left.invariant.0 c.loop-left.invariant.1
