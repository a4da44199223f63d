use Rattle.std.proofs.Common.{◌≡◌, ◌++◌}
use Rattle.cp_state_bytes.proofs.holdings.rows_of.Given as goal

abbrev pub invariant-loop-key : goal.invariant-loop-key
invariant-loop-key g l = l.rows.items ++ l.key-iterator ≡ l.fn.map.entries
