use Rattle.std.proofs.Common.{◌≡◌}
use Rattle.cp_log_rules.specs.Durable.{first_members}
use Rattle.cp_log.proofs.first.members.Given as goal

abbrev pub invariant-loop-number : goal.invariant-loop-number
invariant-loop-number l = l.members ≡ first_members l.number
