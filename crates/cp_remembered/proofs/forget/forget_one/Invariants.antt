use Rattle.std.proofs.Common.{◌≡◌, length}
use Rattle.cp_remembered.specs.Forgetting.{of_others}
use Rattle.cp_remembered.proofs.forget.forget_one.Given as goal

abbrev pub invariant-loop-thread : goal.invariant-loop-thread
invariant-loop-thread l = of_others l.session l.rows.entries ≡ of_others l.session l.fn.rows.entries

abbrev pub decreases-loop-thread : goal.decreases-loop-thread
decreases-loop-thread l = length l.rows.entries
