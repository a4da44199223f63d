use Rattle.std.proofs.Common.{◌≡◌, ◌+◌, ◌≤◌, length, count_by}
use Rattle.cp_replicate.specs.Decisions.{has_confirmed}
use Rattle.cp_replicate.proofs.confirming.count.Given as goal

abbrev pub invariant-loop-rest : goal.invariant-loop-rest
invariant-loop-rest l =
    (l.count + count_by (has_confirmed l.me l.confirmed l.round) l.rest ≡ count_by (has_confirmed l.me l.confirmed l.round) l.members)
    × (l.count + length l.rest ≤ length l.members)

abbrev pub decreases-loop-rest : goal.decreases-loop-rest
decreases-loop-rest l = length l.rest
