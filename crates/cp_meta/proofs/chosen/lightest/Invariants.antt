use Rattle.std.proofs.Common.{◌≡◌, ◌++◌, length}
use Rattle.std.specs.Prelude.{nat_lt}
use Rattle.std.specs.List.{filter}
use Rattle.std.specs.Map.{keys_of}
use Rattle.cp_meta_state.specs.Loads.{is_before, lightest}
use Rattle.cp_meta.proofs.chosen.lightest.Given as goal

abbrev pub invariant-loop-rest : goal.invariant-loop-rest
invariant-loop-rest l = l.members.items ++ keys_of (filter (λ m. nat_lt (length (filter (λ a. is_before a m) l.pairs)) l.size) l.rest) ≡ lightest l.size l.pairs

abbrev pub decreases-loop-rest : goal.decreases-loop-rest
decreases-loop-rest l = length l.rest
