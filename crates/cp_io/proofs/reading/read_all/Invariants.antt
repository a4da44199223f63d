use Rattle.std.proofs.Common.{◌≤◌, ◌-◌, length}
use Rattle.cp_base.specs.declared.limits.TheConstants.{MOST_SOURCE}
use Rattle.std.specs.Io.KnownBytes.{Consumes}
use Rattle.cp_io.proofs.reading.read_all.Given as goal

abbrev pub invariant-loop-count : goal.invariant-loop-count
invariant-loop-count g l =
    Consumes (g.S.Source.left l.fn.source) (g.S.Source.left l.source) l.out.items
    × (g.S.Source.faults l.fn.source ≤ g.S.Source.faults l.source)
    × (length l.out.items ≤ MOST_SOURCE)

abbrev pub decreases-loop-count : goal.decreases-loop-count
decreases-loop-count g l = MOST_SOURCE - length l.out.items
