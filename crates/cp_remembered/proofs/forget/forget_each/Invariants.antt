use Rattle.std.proofs.Common.{◌≡◌, length}
use Rattle.cp_remembered.specs.Forgetting.{forgotten}
use Rattle.cp_remembered.proofs.forget.forget_each.Given as goal

abbrev pub invariant-loop-rest : goal.invariant-loop-rest
invariant-loop-rest l = forgotten l.rest l.rows.entries ≡ forgotten l.sessions l.fn.rows.entries

abbrev pub decreases-loop-rest : goal.decreases-loop-rest
decreases-loop-rest l = length l.rest
