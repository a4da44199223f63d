use Rattle.std.proofs.Common.{◌≡◌, ◌++◌, length, ℕ}
use Rattle.cp_base.specs.Text.{Grew}
use Rattle.cp_ops.specs.EntryValues.{waits_text}
use Rattle.cp_ops.proofs.entry_values.append_waits_text.Given as goal

abbrev pub invariant-loop-rest : goal.invariant-loop-rest
invariant-loop-rest l = (l.out.items ++ waits_text l.rest ≡ l.fn.out.items ++ waits_text l.calls) × Grew l.fn.out.items l.out.items

abbrev pub decreases-loop-rest : goal.decreases-loop-rest
decreases-loop-rest l = length l.rest
