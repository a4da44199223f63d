use Rattle.std.proofs.Common.{◌≡◌}
use Rattle.cp_semaphore.specs.Backs.{back_each, CanBack}
use Rattle.cp_semaphore.proofs.closing.back_each.Given as goal

abbrev pub invariant-loop-name : goal.invariant-loop-name
invariant-loop-name l = record {
  same : back_each l.name-iterator l.rows.entries ≡ back_each l.fn.held.entries l.fn.rows.entries;
  can : CanBack l.name-iterator l.rows.entries;
}
