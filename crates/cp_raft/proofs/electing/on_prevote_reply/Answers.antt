use Rattle.std.proofs.Common.{arith}
use Rattle.cp_raft.proofs.Others.{others_few}
use Rattle.cp_raft.proofs.electing.on_prevote_reply.Goals as goal

pub returns-clause-frugal : goal.returns-clause-frugal
returns-clause-frugal g c = λ room.
    let few = others_few c.args.seat.me (g.G.Log.stored c.args.stored.now) c.requires.may.member c.requires.may.range.stored in
    c.takes_prevote_reply.ensures.frugal (omega (arith, few, room))
