use Rattle.std.proofs.Common.{◌≡◌}
use Rattle.cp_election.specs.declared.replying.VoteReplied.TheVariants as replies
use Rattle.cp_raft_following.proofs.Doing.{as_decided}
use Rattle.cp_raft.proofs.Elections.{prevote_counted}
use Rattle.cp_raft.proofs.electing.takes_prevote_reply.Goals as goal

pub returns-in-Counted-clause-did : goal.returns-in-Counted-clause-did
returns-in-Counted-clause-did g c =
    let counted : c.args.replied ≡ replies.Counted = cc in
    as_decided c.args.seat _ _ c.counts_prevote.result c.counts_prevote.new.state c.args.out.now.items c.counts_prevote.new.out.items
    (prevote_counted c.args.seat.me (g.G.Log.stored c.args.stored.now) c.args.state.now c.count_vote.new.self c.args.from c.args.term c.args.replied
    counted c.count_vote.ensures)
    c.counts_prevote.ensures.did
