use Rattle.std.proofs.Common.{◌≡◌, length, not, unwrap_or}
use Rattle.std.specs.Prelude.{nat_lt}
use Rattle.std.specs.List.{find, list_any}
use Rattle.cp_meta_state.specs.Loads.{heaviest}
use Rattle.cp_meta.proofs.chosen.heaviest.Given as goal

abbrev pub invariant-loop-rest : goal.invariant-loop-rest
invariant-loop-rest l = unwrap_or (find (λ m. not (list_any (λ a. nat_lt m.1 a.1) l.pairs)) l.rest) (0, 0) ≡ heaviest l.pairs

abbrev pub decreases-loop-rest : goal.decreases-loop-rest
decreases-loop-rest l = length l.rest
