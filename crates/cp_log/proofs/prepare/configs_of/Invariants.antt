use Rattle.std.proofs.Common.{◌≡◌, ◌≤◌, ◌+◌, ◌^◌, ◌++◌, length}
use Rattle.cp_base.specs.declared.limits.TheConstants.{LAST_NUMBER}
use Rattle.cp_log_rules.specs.Configurations.{configs_in}
use Rattle.cp_log.proofs.prepare.configs_of.Given as goal

abbrev pub invariant-loop-rest : goal.invariant-loop-rest
invariant-loop-rest l = (l.configs.items ++ configs_in l.at l.rest ≡ configs_in l.after l.entries) × (l.at + length l.rest ≤ LAST_NUMBER)

abbrev pub decreases-loop-rest : goal.decreases-loop-rest
decreases-loop-rest l = length l.rest
