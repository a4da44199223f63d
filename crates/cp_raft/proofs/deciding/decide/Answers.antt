use Rattle.std.proofs.Common.{sym, true≢false}
use Rattle.cp_raft.specs.Events.{event_of}
use Rattle.cp_raft.proofs.Decisions.{decides_some, room_of}
use Rattle.cp_raft.proofs.Voting.{same_office, rests_between}
use Rattle.cp_raft.proofs.deciding.decide.Goals as goal

pub settle-requires : goal.settle-requires
settle-requires g c = room_of c.args.seat.me (g.G.Log.stored c.args.stored.now) c.args.state.now (event_of c.args.event.now) c.requires.kind c.requires.may

pub returns-clause-did : goal.returns-clause-did
returns-clause-did g c =
    decides_some c.args.seat (g.G.Log.stored c.args.stored.now) c.args.state.now (event_of c.args.event.now) c.in_ok-did.did c.rule.new.state c.settle.new.state c.args.out.now c.settle.new.out _
    c.requires.may c.requires.reads c.in_ok-did.ensures.did c.in_ok-settle.ensures.settles c.in_ok-settle.ensures.messages

pub returns-in_err-did-clause-frugal : goal.returns-in_err-did-clause-frugal
returns-in_err-did-clause-frugal g c = λ e is voting none ready room.
    absurd (true≢false (sym (c.in_err-did.ensures.frugal e is voting (same_office c.args.seat.me (g.G.Log.stored c.args.stored.now) c.args.state.now e none) room)))

pub returns-in_err-settle-clause-frugal : goal.returns-in_err-settle-clause-frugal
returns-in_err-settle-clause-frugal g c = λ e is voting none ready room.
    absurd (true≢false (sym (c.in_err-settle.ensures.frugal (λ leads.
    rests_between c.args.seat (g.G.Log.stored c.args.stored.now) c.args.state.now c.rule.new.state (event_of c.args.event.now) e c.in_ok-did.did c.args.out.now.messages.items _
    c.in_ok-did.ensures.did is voting none ready leads))))
