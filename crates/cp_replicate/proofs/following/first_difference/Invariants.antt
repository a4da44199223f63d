use Rattle.std.proofs.Common.{◌≡◌, ◌+◌, ◌<◌, ◌^◌, length, map}
use Rattle.cp_log_rules.specs.Persistent.{term_at}
use Rattle.cp_replicate.specs.Logs.{entry_of}
use Rattle.cp_replicate.specs.Decisions.{differs}
use Rattle.cp_replicate.proofs.following.first_difference.Given as goal

abbrev pub invariant-loop-rest : goal.invariant-loop-rest
invariant-loop-rest g l =
    (differs (term_at (g.L.Log.stored l.log)) l.fn.after (map entry_of l.entries) ≡ differs (term_at (g.L.Log.stored l.log)) l.after (map entry_of l.rest))
    × (l.after + length l.rest < 2 ^ 64)

abbrev pub decreases-loop-rest : goal.decreases-loop-rest
decreases-loop-rest g l = length l.rest
