use Rattle.std.proofs.Common.{◌≡◌}
use Rattle.cp_meta_state.specs.Joining.{take_over}
use Rattle.cp_meta.proofs.joining.take_over.Given as goal

abbrev pub invariant-loop-left : goal.invariant-loop-left
invariant-loop-left l = take_over l.left l.member l.members l.groups.entries l.moves.entries ≡ take_over l.turns l.member l.members l.groups.entries l.fn.moves.entries

abbrev pub decreases-loop-left : goal.decreases-loop-left
decreases-loop-left l = l.left
