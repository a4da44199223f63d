use Rattle.std.proofs.Common.{◌∙◌, sym}
use Rattle.cp_raft_state.proofs.OwnSnapshots.{config_kept}
use Rattle.cp_raft_state.proofs.snapshotted.SnapshottedGroup.config.Goals as goal

pub returns : goal.returns
returns g c =
    let own = c.args.self.now in
    c.config.ensures ∙ sym (config_kept (g.G.Log.stored own.before.now) own.index own.bytes.now (record { from = own.from; to = own.to; reads_back = own.reads_back }))
