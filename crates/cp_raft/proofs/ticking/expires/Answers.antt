use Rattle.std.proofs.Common.{◌≡◌, List, ℕ, true, subst}
use Rattle.cp_rules.specs.Local.{is_leader}
use Rattle.cp_rules.specs.Requests.{proposes}
use Rattle.cp_raft_state.specs.Doing.{Does}
use Rattle.cp_raft.proofs.Beats.{placed_with_room, expired_leads}
use Rattle.cp_raft.proofs.ticking.expires.Goals as goal

pub proposes-requires-clause-placed : goal.proposes-requires-clause-placed
proposes-requires-clause-placed g c = placed_with_room c.args.seat.me (g.G.Log.stored c.args.stored.now) c.args.state.now c.requires.sound c.requires.leads

pub returns : goal.returns
returns g c =
    let p = g.G.Log.stored c.args.stored.now in
    let leads : is_leader c.proposes.new.state.role ≡ true = cc (c.if-not-is_leader.ensures, c.role.ensures) in
    let done = subst (λ (entry : List ℕ). Does c.args.seat (proposes c.args.seat.me p c.args.state.now entry) c.in_ok-did.did c.proposes.new.state c.args.out.now.items c.proposes.new.out.items) c.in_ok-copy.ensures c.in_ok-did.ensures in
    expired_leads c.args.seat p c.args.state.now c.proposes.new.state c.args.entry.now c.in_ok-did.did c.args.out.now.items c.proposes.new.out.items done
    c.mark_beat.new.self c.confirms_again.new.out.items c.requires.plain leads c.mark_beat.ensures c.in_ok-confirms_again.ensures
