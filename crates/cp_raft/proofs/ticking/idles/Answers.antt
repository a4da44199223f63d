use Rattle.std.proofs.Common.{◌∙◌, ℕ, sym, ap, subst}
use Rattle.std.specs.Prelude.{Some, None}
use Rattle.cp_rules_facts.specs.Soundness.{ReadsBack}
use Rattle.cp_raft.specs.Ticking.{own_bytes}
use Rattle.cp_raft.proofs.Beats.{own_due, idled}
use Rattle.cp_raft.proofs.ticking.idles.Goals as goal

pub own_bytes-requires-clause-reads_back : goal.own_bytes-requires-clause-reads_back
own_bytes-requires-clause-reads_back g c = λ bytes h.
    subst (λ (i : ℕ). ReadsBack (g.G.Log.stored c.args.stored.now) i bytes) (sym c.commit.ensures) (c.requires.due bytes h).reads_back

pub beats_after-requires-clause-above : goal.beats_after-requires-clause-above
beats_after-requires-clause-above g c =
    let p = g.G.Log.stored c.args.stored.now in
    (own_due p c.args.state.now c.args.may_write c.args.machine.now c.in-Some.bytes (sym c.in-Some.is ∙ c.in_ok-bytes.ensures ∙ ap (λ (i : ℕ). own_bytes p i c.args.may_write c.args.machine.now) c.commit.ensures) c.requires.due).0

pub beats_after-requires-clause-reads_back : goal.beats_after-requires-clause-reads_back
beats_after-requires-clause-reads_back g c =
    let p = g.G.Log.stored c.args.stored.now in
    (own_due p c.args.state.now c.args.may_write c.args.machine.now c.in-Some.bytes (sym c.in-Some.is ∙ c.in_ok-bytes.ensures ∙ ap (λ (i : ℕ). own_bytes p i c.args.may_write c.args.machine.now) c.commit.ensures) c.requires.due).1

pub beats_after-requires-clause-placed : goal.beats_after-requires-clause-placed
beats_after-requires-clause-placed g c = c.requires.sound.peers c.requires.leads

pub beat-requires-clause-placed : goal.beat-requires-clause-placed
beat-requires-clause-placed g c = c.requires.sound.peers c.requires.leads

pub returns-in_ok-did-in-Some : goal.returns-in_ok-did-in-Some
returns-in_ok-did-in-Some g c =
    let p = g.G.Log.stored c.args.stored.now in
    idled c.args.seat p c.args.state.now c.beats_after.new.state c.args.may_write c.args.machine.now (Some c.in-Some.bytes) c.in_ok-did-in-Some.did c.args.out.now.items c.beats_after.new.out.items
    c.requires.leads (sym c.in-Some.is ∙ c.in_ok-bytes.ensures ∙ ap (λ (i : ℕ). own_bytes p i c.args.may_write c.args.machine.now) c.commit.ensures)
    c.in_ok-did-in-Some.ensures.did c.in_ok-did-in-Some.ensures.state c.in_ok-did-in-Some.ensures.sends

pub returns-in_ok-beat-in-None : goal.returns-in_ok-beat-in-None
returns-in_ok-beat-in-None g c =
    let p = g.G.Log.stored c.args.stored.now in
    idled c.args.seat p c.args.state.now c.beat.new.state c.args.may_write c.args.machine.now None c.done.result c.args.out.now.items c.beat.new.out.items
    c.requires.leads (sym c.in-None.is ∙ c.in_ok-bytes.ensures ∙ ap (λ (i : ℕ). own_bytes p i c.args.may_write c.args.machine.now) c.commit.ensures)
    c.done.ensures c.in_ok-beat-in-None.ensures.state c.in_ok-beat-in-None.ensures.sends
