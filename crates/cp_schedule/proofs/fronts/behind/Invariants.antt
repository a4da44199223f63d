use Rattle.std.proofs.Common.{◌≡◌, length}
use Rattle.cp_schedule.specs.Fronts.{behind}
use Rattle.cp_schedule.proofs.fronts.behind.Given as goal

abbrev pub invariant-loop-left : goal.invariant-loop-left
invariant-loop-left l = behind l.left l.rest ≡ behind l.front l.text

abbrev pub decreases-loop-left : goal.decreases-loop-left
decreases-loop-left l = length l.left
