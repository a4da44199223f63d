use Rattle.std.proofs.Common.{◌≡◌, ◌++◌}
use Rattle.std.specs.List.{AllByRecursion}
use Rattle.cp_state_bytes.specs.Spelled.{each_spelled}
use Rattle.cp_state_bytes.proofs.written_row.append_each.Given as goal

abbrev pub invariant-loop-key : goal.invariant-loop-key
invariant-loop-key g l = record {
  written : l.out.items ++ each_spelled g.K.AppendRow.first l.key-iterator ≡ l.fn.out.items ++ each_spelled g.K.AppendRow.first l.rows.entries;
  fit : AllByRecursion g.K.AppendRow.fits l.key-iterator;
}
