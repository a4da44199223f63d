use Rattle.cp_raft.proofs.Beats.{own_is, room_kept, placed_kept}
use Rattle.cp_raft.proofs.ticking.beats_after.Goals as goal

pub beat-requires-clause-last : goal.beat-requires-clause-last
beat-requires-clause-last g c =
    let p = g.G.Log.stored c.args.stored.now in
    let own = own_is p c.commit-index.result c.args.state.now.commit c.as_slice.result.now c.args.bytes c.commit-index.ensures c.as_slice.ensures c.requires.above c.requires.within c.requires.reads_back in
    room_kept p _ c.commit-index.result c.as_slice.result.now own c.from-after.ensures c.requires.last

pub beat-requires-clause-placed : goal.beat-requires-clause-placed
beat-requires-clause-placed g c =
    let p = g.G.Log.stored c.args.stored.now in
    let own = own_is p c.commit-index.result c.args.state.now.commit c.as_slice.result.now c.args.bytes c.commit-index.ensures c.as_slice.ensures c.requires.above c.requires.within c.requires.reads_back in
    placed_kept p _ c.commit-index.result c.as_slice.result.now own c.from-after.ensures c.args.state.now c.send_from_start.new.self c.send_from_start.ensures c.requires.placed
