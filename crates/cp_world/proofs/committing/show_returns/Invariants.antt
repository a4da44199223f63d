use Rattle.std.proofs.Common.{◌≡◌, ◌++◌, map, reverse, vec_len}
use Rattle.cp_world.proofs.committing.show_returns.Given as goal

abbrev pub invariant-loop-call : goal.invariant-loop-call
invariant-loop-call l = l.out ++ map (λ x. (l.me, x)) (reverse l.calls.items) ≡ l.fn.out ++ map (λ x. (l.me, x)) l.fn.returns

abbrev pub decreases-loop-call : goal.decreases-loop-call
decreases-loop-call l = vec_len l.calls
