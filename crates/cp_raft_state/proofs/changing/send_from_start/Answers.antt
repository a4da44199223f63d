use Rattle.std.proofs.Common.{◌∙◌, ap, slice_set}
use Rattle.cp_rules.specs.declared.peer.Peer.{Peer}
use Rattle.cp_rules.specs.Snapshots.{from_start}
use Rattle.cp_raft_state.proofs.Places.{one_more}
use Rattle.cp_raft_state.proofs.changing.send_from_start.Goals as goal

pub loop-member-preserved : goal.loop-member-preserved
loop-member-preserved c =
    ap (λ (x : Peer). slice_set c.loop-member.peers c.loop-member.member x) c.from_start.ensures
    ∙ one_more from_start c.args.peers.now c.loop-member.peers c.loop-member.member _ c.loop-member.invariant
