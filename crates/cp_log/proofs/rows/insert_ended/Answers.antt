use Rattle.std.proofs.Common.{◌∙◌, ap}
use Rattle.std.specs.Ordering.{nat_cmp}
use Rattle.std.specs.BTreeMap.{is_at}
use Rattle.std.specs.Set.{remove_key}
use Rattle.cp_log.proofs.RowMaps.{key_back}
use Rattle.cp_log.proofs.rows.insert_ended.Goals as goal

pub returns-in-Ok-clause-back : goal.returns-in-Ok-clause-back
returns-in-Ok-clause-back c = ap (remove_key (is_at (nat_cmp c.args.group))) c.in-Ok.ensures.keys ∙ key_back c.args.group c.args.ended.now.keys c.requires
