use Rattle.std.proofs.Common.{◌≡◌, ◌++◌, map, length}
use Rattle.cp_world.proofs.committing.show_opened.Given as goal

abbrev pub invariant-loop-rest : goal.invariant-loop-rest
invariant-loop-rest l = l.out ++ map (λ x. (l.me, x)) l.rest ≡ l.fn.out ++ map (λ x. (l.me, x)) l.opened

abbrev pub decreases-loop-rest : goal.decreases-loop-rest
decreases-loop-rest l = length l.rest
