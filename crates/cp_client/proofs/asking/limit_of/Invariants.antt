use Rattle.std.proofs.Common.{◌≡◌, length}
use Rattle.cp_client_rules.specs.Asking.{limit_of}
use Rattle.cp_client.proofs.asking.limit_of.Given as goal

abbrev pub invariant-loop-rest : goal.invariant-loop-rest
invariant-loop-rest l = limit_of l.rest l.name ≡ limit_of l.limits l.name

abbrev pub decreases-loop-rest : goal.decreases-loop-rest
decreases-loop-rest l = length l.rest
