use Rattle.cp_raft_leading.proofs.Entries.{above_more, within_more, room_more, placed_more}
use Rattle.cp_raft_leading.proofs.creating.announces.Goals as goal

pub commits-requires-clause-above_base : goal.commits-requires-clause-above_base
commits-requires-clause-above_base g c = above_more (g.G.Log.stored c.args.stored.now) _ c.args.ballot c.args.entry.now c.args.state.now.commit c.in_ok-appended.ensures c.requires.above_base

pub commits-requires-clause-within : goal.commits-requires-clause-within
commits-requires-clause-within g c = within_more (g.G.Log.stored c.args.stored.now) _ c.args.ballot c.args.entry.now c.args.state.now.commit c.in_ok-appended.ensures c.requires.within

pub appends-requires-clause-last : goal.appends-requires-clause-last
appends-requires-clause-last g c = room_more (g.G.Log.stored c.args.stored.now) _ c.args.ballot c.args.entry.now c.in_ok-appended.ensures c.requires.room

pub appends-requires-clause-placed : goal.appends-requires-clause-placed
appends-requires-clause-placed g c = λ leads member.
    placed_more c.args.seat.me (g.G.Log.stored c.args.stored.now) _ c.args.ballot c.args.entry.now c.args.state.now c.commits.new.state c.in_ok-appended.ensures c.commits.ensures c.requires.placed member
