use Rattle.std.proofs.Common.{◌∙◌, sym}
use Rattle.cp_raft_state.proofs.OwnSnapshots.{term_kept}
use Rattle.cp_raft_state.proofs.snapshotted.SnapshottedLog.term_at.Goals as goal

pub returns-else-index-self : goal.returns-else-index-self
returns-else-index-self g c =
    let own = c.args.self.now in
    c.term_at.ensures ∙ sym (term_kept (g.G.Log.stored own.before.now) own.index own.bytes.now (record { from = own.from; to = own.to; reads_back = own.reads_back }) c.args.index c.if-index-self.false)
