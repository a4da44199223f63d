use Rattle.std.proofs.Common.{◌≡◌, ◌==◌, ◌||◌, ◌+◌, ◌≤◌, length, count_by}
use Rattle.cp_rules.specs.Volatile.{has_voted}
use Rattle.cp_election.proofs.counting.count.Given as goal

abbrev pub invariant-loop-rest : goal.invariant-loop-rest
invariant-loop-rest l =
    (l.count + count_by (λ f. (f == l.me) || has_voted l.votes f) l.rest ≡ count_by (λ f. (f == l.me) || has_voted l.votes f) l.members)
    × (l.count + length l.rest ≤ length l.members)

abbrev pub decreases-loop-rest : goal.decreases-loop-rest
decreases-loop-rest l = length l.rest
