use Rattle.std.proofs.Common.{◌≡◌, true, false, sym, ◌∙◌}
use Rattle.cp_raft.proofs.Elections.{quorum_leads}
use Rattle.cp_raft.proofs.electing.counts_vote.Goals as goal

pub returns-then-has_quorum-clause-frugal : goal.returns-then-has_quorum-clause-frugal
returns-then-has_quorum-clause-frugal g c = λ none.
    let leads : true ≡ false =
    sym (quorum_leads c.args.seat.me (g.G.Log.stored c.args.stored.now) c.args.state.now c.members.result.now c.votes.result.now c.has_quorum.result
    c.members.ensures c.votes.ensures c.has_quorum.ensures c.if-has_quorum.true)
    ∙ none in
    absurd (cc)
