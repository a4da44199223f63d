use Rattle.std.proofs.Common.{◌≡◌, ◌++◌, length}
use Rattle.cp_rules.specs.Changes.{without_member}
use Rattle.cp_change.proofs.making.without_member.Given as goal

abbrev pub invariant-loop-rest : goal.invariant-loop-rest
invariant-loop-rest l = l.made.items ++ without_member l.member l.rest ≡ without_member l.member l.members

abbrev pub decreases-loop-rest : goal.decreases-loop-rest
decreases-loop-rest l = length l.rest
