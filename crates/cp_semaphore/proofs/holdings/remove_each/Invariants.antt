use Rattle.std.proofs.Common.{◌≡◌, ℕ, List, length}
use Rattle.cp_semaphore.specs.Nested.{IsNested, without_name}
use Rattle.cp_semaphore.proofs.holdings.remove_each.Given as goal

abbrev pub invariant-loop-rest : goal.invariant-loop-rest
invariant-loop-rest l = record {
  same : (q : ℕ × List ℕ) → without_name l.name l.rest l.holdings.entries q ≡ without_name l.name l.sessions l.fn.holdings.entries q;
  nested : IsNested l.fn.holdings.entries → IsNested l.holdings.entries;
}

abbrev pub decreases-loop-rest : goal.decreases-loop-rest
decreases-loop-rest l = length l.rest
