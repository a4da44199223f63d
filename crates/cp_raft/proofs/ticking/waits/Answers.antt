use Rattle.std.proofs.Common.{◌≡◌, ◌∙◌, ℕ, true, false, sym, ap, refl}
use Rattle.std.specs.Prelude.{Some, None, is_some}
use Rattle.std.specs.Option.{option_map}
use Rattle.cp_rules.specs.Parts.{part_of}
use Rattle.cp_raft.specs.Ticking.{own_bytes, own_part}
use Rattle.cp_raft.proofs.Beats.{did_with, waited_wrote, waited_idle}
use Rattle.cp_raft.proofs.ticking.waits.Goals as goal

pub returns-then-is_some : goal.returns-then-is_some
returns-then-is_some g c =
    let h : is_some c.in_ok-did.did.part ≡ true = cc (c.if-is_some.ensures) in
    waited_wrote c.args.seat (g.G.Log.stored c.args.stored.now) c.args.state.now c.times_out.new.state c.args.may_write c.args.machine.now c.in_ok-did.did c.args.out.now.items c.times_out.new.out.items
    c.requires.follows c.in_ok-did.ensures h

pub returns-in-Some : goal.returns-in-Some
returns-in-Some g c =
    let p = g.G.Log.stored c.args.stored.now in
    let h : is_some c.in_ok-did.did.part ≡ false = cc (c.if-is_some.ensures) in
    waited_idle c.args.seat p c.args.state.now c.times_out.new.state c.args.may_write c.args.machine.now c.in_ok-did.did c.args.out.now.items c.times_out.new.out.items
    c.requires.follows c.in_ok-did.ensures h (Some c.in-Some.bytes) c.done.result c.send_from_start.new.self
    (sym c.in-Some.is ∙ c.in_ok-bytes.ensures ∙ ap (λ (i : ℕ). own_bytes p i c.args.may_write c.args.machine.now) c.commit-index.ensures)
    (c.done.ensures ∙ ap did_with (c.own_part.ensures ∙ ap (λ (i : ℕ). option_map (part_of c.args.seat.group) (own_part p i (Some c.in-Some.bytes))) c.commit-index.ensures))
    c.send_from_start.ensures

pub returns : goal.returns
returns g c =
    let p = g.G.Log.stored c.args.stored.now in
    let h : is_some c.in_ok-did.did.part ≡ false = cc (c.if-is_some.ensures) in
    waited_idle c.args.seat p c.args.state.now c.times_out.new.state c.args.may_write c.args.machine.now c.in_ok-did.did c.args.out.now.items c.times_out.new.out.items
    c.requires.follows c.in_ok-did.ensures h None c.done-in-None.result c.times_out.new.state
    (sym c.in-None.is ∙ c.in_ok-bytes.ensures ∙ ap (λ (i : ℕ). own_bytes p i c.args.may_write c.args.machine.now) c.commit-index.ensures)
    c.done-in-None.ensures
    refl
