use Rattle.std.proofs.Common.{◌≡◌, ◌<◌, ◌+◌, ◌++◌, map, take}
use Rattle.cp_replicate.specs.Logs.{from}
use Rattle.cp_rules_ranges.specs.Messages.{entry_of}
use Rattle.cp_raft_leading.proofs.copying.copies.Given as goal

abbrev pub invariant-loop-left : goal.invariant-loop-left
invariant-loop-left g l =
    let p = g.G.Log.stored l.stored in
    (p.base < l.index)
    × (l.copies.items ++ map entry_of (take l.left (from p l.index)) ≡ map entry_of (take l.count (from p l.next)))

abbrev pub decreases-loop-left : goal.decreases-loop-left
decreases-loop-left g l = l.left
