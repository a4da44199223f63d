use Rattle.std.proofs.Common.{◌≡◌, ◌++◌, map}
use Rattle.std.specs.Map.{keys_of}
use Rattle.cp_base.specs.declared.identifier.GroupId.{GroupId}
use Rattle.cp_log.proofs.rows.numbers_of.Given as goal

abbrev pub invariant-loop-number : goal.invariant-loop-number
invariant-loop-number l = map (λ (group : GroupId). group.0) l.numbers.items ++ keys_of l.number-iterator ≡ keys_of l.rows.entries
