use Rattle.std.proofs.Common.{◌≡◌}
use Rattle.cp_meta_state.specs.MetaState.{is_leaving, those}
use Rattle.cp_meta.proofs.standings.is_any_leaving.Given as goal

abbrev pub invariant-loop-member : goal.invariant-loop-member
invariant-loop-member l = those is_leaving l._member-iterator ≡ those is_leaving l.members.entries
