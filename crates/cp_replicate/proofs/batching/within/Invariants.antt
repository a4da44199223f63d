use Rattle.std.proofs.Common.{◌≡◌, ◌<◌, ◌≤◌, ◌+◌, suc, length}
use Rattle.cp_rules.specs.Limits.{most_index}
use Rattle.cp_rules.specs.Sending.{within}
use Rattle.cp_replicate.specs.Logs.{from}
use Rattle.cp_replicate.proofs.batching.within.Given as goal

abbrev pub invariant-loop-count : goal.invariant-loop-count
invariant-loop-count g l =
    let p = g.L.Log.stored l.log in
    (p.base < l.index)
    × (l.index ≤ suc most_index)
    × (l.taken + length (within (from p l.index) l.count l.bytes) ≡ length (within (from p l.fn.index) l.fn.count l.fn.bytes))
    × (l.taken + l.count ≡ l.fn.count)

abbrev pub decreases-loop-count : goal.decreases-loop-count
decreases-loop-count g l = l.count
