use Rattle.std.proofs.Common.{◌≡◌}
use Rattle.std.specs.Prelude.{slice_get}
use Rattle.cp_group_tables.proofs.timed.session_at.Given as goal

abbrev pub invariant-loop-number : goal.invariant-loop-number
invariant-loop-number l = slice_get l.number-iterator l.left ≡ slice_get l.rows.entries l.place
