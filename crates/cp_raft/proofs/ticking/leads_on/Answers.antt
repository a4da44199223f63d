use Rattle.std.proofs.Common.{◌≡◌, true, false, subst}
use Rattle.std.specs.Prelude.{Some}
use Rattle.cp_rules.specs.Local.{LocalStep}
use Rattle.cp_log_rules.specs.Persistent.{last}
use Rattle.cp_replicate.specs.Decisions.{may_expire}
use Rattle.cp_raft_state.specs.Doing.{Does}
use Rattle.cp_raft.proofs.Beats.{expiry_room, expiring, not_expiring}
use Rattle.cp_raft.proofs.ticking.leads_on.Goals as goal

pub expires-requires-clause-room : goal.expires-requires-clause-room
expires-requires-clause-room g c =
    let p = g.G.Log.stored c.args.stored.now in
    let v = c.args.state.now in
    let h : may_expire v.role v.leader (last p) v.commit c.args.may_write ≡ true = cc (c.if-takes_expiry.ensures) in
    expiry_room v (last p) c.args.may_write h

pub expires-requires-clause-plain : goal.expires-requires-clause-plain
expires-requires-clause-plain g c =
    let is : c.args.expiry.now ≡ Some c.as_slice.result.now = cc (c.in-Some.is, c.as_slice.ensures) in
    c.requires.plain c.as_slice.result.now is

pub returns-in_ok-did-in-Some : goal.returns-in_ok-did-in-Some
returns-in_ok-did-in-Some g c =
    let p = g.G.Log.stored c.args.stored.now in
    let v = c.args.state.now in
    let is : c.args.expiry.now ≡ Some c.as_slice.result.now = cc (c.in-Some.is, c.as_slice.ensures) in
    let h : may_expire v.role v.leader (last p) v.commit c.args.may_write ≡ true = cc (c.if-takes_expiry.ensures) in
    subst (λ (s : LocalStep). Does c.args.seat s c.in_ok-did-in-Some.did c.expires.new.state c.args.out.now.items c.expires.new.out.items)
    (expiring c.args.seat.me p v c.args.may_write c.args.expiry.now c.as_slice.result.now c.args.machine.now is h) c.in_ok-did-in-Some.ensures

pub returns-in_ok-did-in-Some-2 : goal.returns-in_ok-did-in-Some-2
returns-in_ok-did-in-Some-2 g c =
    let p = g.G.Log.stored c.args.stored.now in
    let v = c.args.state.now in
    let h : may_expire v.role v.leader (last p) v.commit c.args.may_write ≡ false = cc (c.if-takes_expiry.ensures) in
    subst (λ (s : LocalStep). Does c.args.seat s c.in_ok-did-in-Some-2.did c.idles.new.state c.args.out.now.items c.idles.new.out.items)
    (not_expiring c.args.seat.me p v c.args.may_write c.args.expiry.now _ c.args.machine.now c.in-Some.is h) c.in_ok-did-in-Some-2.ensures
