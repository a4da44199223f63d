use Rattle.cp_rules.specs.Sending.{append_to}
use Rattle.cp_raft_leading.proofs.Others.{joined}
use Rattle.cp_raft_leading.proofs.sending.append_to_other.Goals as goal

pub returns : goal.returns
returns g c = λ rest.
    joined c.args.seat (append_to (g.G.Log.stored c.args.stored.now) c.args.state.now) c.args.member rest c.args.out.now.items c.append_to.new.out.items
    c.if-member-seat.false c.in_ok-append_to.ensures
