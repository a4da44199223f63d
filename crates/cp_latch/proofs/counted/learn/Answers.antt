use Rattle.cp_latch.proofs.Known.{learnt}
use Rattle.cp_latch.specs.Counted.{is_among}
use Rattle.cp_latch.proofs.counted.learn.Goals as goal

pub returns-clause-ok : goal.returns-clause-ok
returns-clause-ok c = λ other. learnt c.args.call.now other (is_among other c.args.known.now.keys) (is_among other c.insert.new.self.keys) (c.in_ok-insert.ensures.updates.0 other)
