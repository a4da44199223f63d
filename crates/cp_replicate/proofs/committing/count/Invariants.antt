use Rattle.std.proofs.Common.{◌≡◌, ◌+◌, ◌≤◌, length, count_by}
use Rattle.cp_rules.specs.Commit.{holds}
use Rattle.cp_replicate.proofs.committing.count.Given as goal

abbrev pub invariant-loop-rest : goal.invariant-loop-rest
invariant-loop-rest l =
    (l.count + count_by (holds l.me l.peers l.index) l.rest ≡ count_by (holds l.me l.peers l.index) l.members)
    × (l.count + length l.rest ≤ length l.members)

abbrev pub decreases-loop-rest : goal.decreases-loop-rest
decreases-loop-rest l = length l.rest
