use Rattle.std.proofs.Common.{◌≡◌, false}
use Rattle.cp_log.specs.Stores.{is_spent}
use Rattle.cp_store_cases.proofs.many_parts.written.Given as goal

abbrev pub invariant-loop-done : goal.invariant-loop-done
invariant-loop-done g l = is_spent l.store ≡ false
