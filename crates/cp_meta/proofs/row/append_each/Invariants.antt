use Rattle.std.proofs.Common.{◌≡◌, ◌++◌, []}
use Rattle.std.specs.List.{AllByRecursion}
use Rattle.cp_meta.specs.Spelled.{each_spelled}
use Rattle.cp_meta.proofs.row.append_each.Given as goal

abbrev pub invariant-loop-key : goal.invariant-loop-key
invariant-loop-key g l = record {
  written : l.out.items ++ each_spelled (g.K.RowKey.behind []) l.key-iterator ≡ l.fn.out.items ++ each_spelled (g.K.RowKey.behind []) l.rows.entries;
  fit : AllByRecursion g.K.RowKey.fits l.key-iterator;
}
