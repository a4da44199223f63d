use Rattle.std.proofs.Common.{◌≡◌, ◌++◌, length}
use Rattle.std.specs.List.{flat_map}
use Rattle.cp_base.specs.Text.{Grew}
use Rattle.cp_transcript.specs.Effects.{return_line}
use Rattle.cp_transcript.proofs.effects.append_returns.Given as goal

abbrev pub invariant-loop-rest : goal.invariant-loop-rest
invariant-loop-rest l = (l.out.items ++ flat_map return_line l.rest ≡ l.fn.out.items ++ flat_map return_line l.returns) × Grew l.fn.out.items l.out.items

abbrev pub decreases-loop-rest : goal.decreases-loop-rest
decreases-loop-rest l = length l.rest
