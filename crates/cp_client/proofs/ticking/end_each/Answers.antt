use Rattle.cp_client.proofs.Fronts.{late_front, late_none}
use Rattle.cp_client.proofs.ticking.end_each.Goals as goal

pub loop-rest-preserved : goal.loop-rest-preserved
loop-rest-preserved c = λ c' out g. c.loop-rest.invariant c' out (late_front c.loop-rest.rest.now _ c.loop-rest.client c.end_late.new.client c' c.loop-rest.out c.end_late.new.out out c.in-len1-up.len_at_least c.in_ok-end_late.ensures g)

pub returns : goal.returns
returns c = c.loop-rest.invariant c.loop-rest.client c.loop-rest.out (late_none c.loop-rest.rest.now c.loop-rest.client c.loop-rest.out c.in_default.len_below)
