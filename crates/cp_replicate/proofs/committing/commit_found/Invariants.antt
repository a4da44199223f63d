use Rattle.std.proofs.Common.{◌≡◌, ◌≤◌, ◌-◌, ◌+◌}
use Rattle.cp_log_rules.specs.Persistent.{last, term_at}
use Rattle.cp_rules.specs.Commit.{greatest, may_commit}
use Rattle.cp_replicate.proofs.committing.commit_found.Given as goal

abbrev pub invariant-loop-above : goal.invariant-loop-above
invariant-loop-above g l =
    let p = g.L.Log.stored l.log in
    (greatest (may_commit l.me (term_at p) l.term l.members l.peers) l.commit l.above ≡ greatest (may_commit l.me (term_at p) l.term l.members l.peers) l.commit (last p - l.commit))
    × (l.commit + l.above ≤ last p)

abbrev pub decreases-loop-above : goal.decreases-loop-above
decreases-loop-above g l = l.above
