use Rattle.std.proofs.Common.{◌≡◌, length}
use Rattle.cp_session.specs.Index.{IsIndexed}
use Rattle.cp_session.specs.Closings.{closed_each}
use Rattle.cp_session.proofs.close.close_each.Given as goal

abbrev pub invariant-loop-rest : goal.invariant-loop-rest
invariant-loop-rest l = (closed_each l.rest l.rows.entries ≡ closed_each l.sessions l.fn.rows.entries) × IsIndexed l.rows.entries l.numbers.entries

abbrev pub decreases-loop-rest : goal.decreases-loop-rest
decreases-loop-rest l = length l.rest
