use Rattle.std.proofs.Common.{◌∙◌, ap}
use Rattle.std.specs.Ordering.{nat_cmp}
use Rattle.std.specs.BTreeMap.{is_at}
use Rattle.std.specs.Map.{keys_of}
use Rattle.cp_log.specs.Rows.{rows_of}
use Rattle.cp_log.proofs.RowMaps.{remove_keys, remove_rows}
use Rattle.cp_log.proofs.rows.remove_row.Goals as goal

pub returns-clause-rows : goal.returns-clause-rows
returns-clause-rows c = ap rows_of c.remove-row.ensures.entries ∙ remove_rows (is_at (nat_cmp c.args.group)) c.args.rows.now.entries

pub returns-clause-keys : goal.returns-clause-keys
returns-clause-keys c = ap keys_of c.remove-row.ensures.entries ∙ remove_keys (is_at (nat_cmp c.args.group)) c.args.rows.now.entries
