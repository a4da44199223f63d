use Rattle.cp_client.proofs.Fronts.{beat_front, beat_none}
use Rattle.cp_client.proofs.ticking.beat_each.Goals as goal

pub loop-rest-preserved : goal.loop-rest-preserved
loop-rest-preserved c = λ c' out g. c.loop-rest.invariant c' out (beat_front c.args.me.now c.loop-rest.rest.now _ c.loop-rest.client c.beat_if_due.new.client c' c.loop-rest.out c.beat_if_due.new.out out c.in-len1-up.len_at_least c.in_ok-beat_if_due.ensures g)

pub returns : goal.returns
returns c = c.loop-rest.invariant c.loop-rest.client c.loop-rest.out (beat_none c.args.me.now c.loop-rest.rest.now c.loop-rest.client c.loop-rest.out c.in_default.len_below)
