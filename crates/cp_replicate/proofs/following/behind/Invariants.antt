use Rattle.std.proofs.Common.{◌≡◌, ◌-◌, drop, length, map}
use Rattle.cp_replicate.specs.Logs.{entry_of}
use Rattle.cp_replicate.proofs.following.behind.Given as goal

abbrev pub invariant-loop-count : goal.invariant-loop-count
invariant-loop-count l =
    (drop l.count (map entry_of l.rest) ≡ drop l.fn.count (map entry_of l.entries))
    × (length l.rest - l.count ≡ length l.entries - l.fn.count)

abbrev pub decreases-loop-count : goal.decreases-loop-count
decreases-loop-count l = l.count
