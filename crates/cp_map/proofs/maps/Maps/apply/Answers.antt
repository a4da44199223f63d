use Rattle.std.proofs.Common.{ap, ◌∙◌}
use Rattle.cp_map.proofs.Steps.{at_place}
use Rattle.cp_map.proofs.maps.Maps.apply.Goals as goal

pub returns : goal.returns
returns c = let place = c.in_ok-place.ensures ∙ ap (λ k. (c.args.name.now, k)) c.key_of.ensures in
    let done = at_place c.self.inside.pairs.entries c.args.self.now c.apply_at.new.pairs.entries c.in_ok-place.place c.args.name.now c.args.op.now c.apply_at.result c.self.view_is place c.apply_at.ensures.pairs c.apply_at.ensures.answer c.apply_at.ensures.err in
    record { pairs = done.0; answer = done.1; err = done.2 }
