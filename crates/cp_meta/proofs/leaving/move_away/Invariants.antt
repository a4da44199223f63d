use Rattle.std.proofs.Common.{◌≡◌}
use Rattle.std.specs.List.{fold}
use Rattle.cp_meta_state.specs.Leaving.{move_away, moves_away}
use Rattle.cp_meta.proofs.leaving.move_away.Given as goal

abbrev pub invariant-loop-group : goal.invariant-loop-group
invariant-loop-group l = fold (move_away l.member l.groups.entries l.others) l.moves.entries l.group-iterator ≡ moves_away l.member l.groups.entries l.others l.fn.moves.entries
