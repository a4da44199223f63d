use Rattle.std.proofs.Common.{◌≡◌}
use Rattle.cp_meta.specs.Bytes.{moves_have_groups}
use Rattle.cp_meta.proofs.snapshot.moves_have_groups.Given as goal

abbrev pub invariant-loop-group : goal.invariant-loop-group
invariant-loop-group l = moves_have_groups l.groups.entries l.group-iterator ≡ moves_have_groups l.groups.entries l.moves.entries
