use Rattle.std.proofs.Common.{sym, ◌∙◌, ap}
use Rattle.std.specs.Option.{option_map}
use Rattle.std.specs.Ordering.{nat_cmp}
use Rattle.std.specs.BTreeMap.{is_at}
use Rattle.cp_log.specs.Rows.{state_of}
use Rattle.cp_log.proofs.RowMaps.{lookup_rows}
use Rattle.cp_log.proofs.durable.Durable.row.Goals as goal

pub returns : goal.returns
returns c = ap (option_map state_of) c.get.ensures.value ∙ sym (lookup_rows (is_at (nat_cmp c.args.group)) c.args.self.now.rows.entries)
