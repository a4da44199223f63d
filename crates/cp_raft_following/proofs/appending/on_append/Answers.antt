use Rattle.cp_raft_following.proofs.Doing.{as_decided}
use Rattle.cp_raft_following.proofs.Appends.{goes_as_decided}
use Rattle.cp_raft_following.proofs.appending.on_append.Goals as goal

pub returns : goal.returns
returns g c =
    let a = c.args.append.now in
    as_decided c.args.seat _ _ c.follows.result c.follows.new.state c.args.out.now.items c.follows.new.out.items
    (goes_as_decided (g.G.Log.stored c.args.stored.now) c.args.state.now c.follow.new.self c.args.from a.term a.previous_index a.previous_term a.commit
    c.commit.result a.entries c.as_slice.result.now c.ballot_of-own.result c.adopted.result c.follow-followed.result
    c.ballot_of-own.ensures c.if-append-own.false c.adopted.ensures c.follow.ensures c.commit.ensures c.as_slice.ensures c.follow-followed.ensures)
    c.follows.ensures
