use Rattle.std.proofs.Common.{◌≡◌, ◌++◌}
use Rattle.cp_meta_state.specs.MetaState.{is_active, those}
use Rattle.cp_meta.proofs.standings.active.Given as goal

abbrev pub invariant-loop-member : goal.invariant-loop-member
invariant-loop-member l = l.active.items ++ those is_active l.member-iterator ≡ those is_active l.members.entries
