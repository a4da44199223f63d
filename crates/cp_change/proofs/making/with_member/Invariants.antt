use Rattle.std.proofs.Common.{◌≡◌, ◌++◌, length}
use Rattle.cp_rules.specs.Changes.{with_member}
use Rattle.cp_change.proofs.making.with_member.Given as goal

abbrev pub invariant-loop-rest : goal.invariant-loop-rest
invariant-loop-rest l = l.made.items ++ with_member l.member l.rest ≡ with_member l.member l.members

abbrev pub decreases-loop-rest : goal.decreases-loop-rest
decreases-loop-rest l = length l.rest
