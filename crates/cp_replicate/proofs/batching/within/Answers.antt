use Rattle.std.proofs.Common.{arith}
use Rattle.cp_replicate.specs.Logs.{from}
use Rattle.cp_replicate.proofs.Batches.{ends}
use Rattle.cp_replicate.proofs.batching.within.Goals as goal

pub returns-clause-value : goal.returns-clause-value
returns-clause-value g c =
    ends (from (g.L.Log.stored c.args.log.now) c.loop-count.index) c.loop-count.count c.loop-count.bytes c.loop-count.taken _ (omega arith) c.loop-count.invariant.2
