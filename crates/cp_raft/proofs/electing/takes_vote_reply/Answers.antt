use Rattle.std.proofs.Common.{◌≡◌}
use Rattle.cp_election.specs.declared.replying.VoteReplied.TheVariants as replies
use Rattle.cp_raft_following.proofs.Doing.{as_decided}
use Rattle.cp_raft.proofs.Elections.{vote_counted, no_office}
use Rattle.cp_raft.proofs.electing.takes_vote_reply.Goals as goal

pub returns-in-Counted-clause-did : goal.returns-in-Counted-clause-did
returns-in-Counted-clause-did g c =
    let counted : c.args.replied ≡ replies.Counted = cc in
    as_decided c.args.seat _ _ c.counts_vote.result c.counts_vote.new.state c.args.out.now.items c.counts_vote.new.out.items
    (vote_counted c.args.seat.me (g.G.Log.stored c.args.stored.now) c.args.state.now c.count_vote.new.self c.args.from c.args.term c.args.replied
    counted c.count_vote.ensures)
    c.counts_vote.ensures.did

pub returns-in-Counted-clause-frugal : goal.returns-in-Counted-clause-frugal
returns-in-Counted-clause-frugal g c = λ none.
    let counted : c.args.replied ≡ replies.Counted = cc in
    c.counts_vote.ensures.frugal
    (no_office c.args.seat.me (g.G.Log.stored c.args.stored.now) c.args.state.now c.count_vote.new.self c.args.from c.args.term c.args.replied
    counted c.count_vote.ensures (c.requires.stands counted) none)
