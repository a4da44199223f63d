use Rattle.std.proofs.Common.{◌≡◌}
use Rattle.std.specs.List.{find}
use Rattle.cp_meta_state.specs.Joining.{can_move}
use Rattle.cp_meta.proofs.joining.first_move.Given as goal

abbrev pub invariant-loop-group : goal.invariant-loop-group
invariant-loop-group l = find (can_move l.from l.to l.moves.entries) l.group-iterator ≡ find (can_move l.from l.to l.moves.entries) l.groups.entries
