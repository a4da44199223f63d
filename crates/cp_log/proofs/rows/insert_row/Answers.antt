use Rattle.std.proofs.Common.{sym, ◌∙◌, ap}
use Rattle.std.specs.Ordering.{nat_cmp}
use Rattle.std.specs.BTreeMap.{insert_entry, is_at}
use Rattle.std.specs.Map.{keys_of, remove_entry}
use Rattle.std.specs.Set.{remove_key}
use Rattle.cp_log_rules.specs.Persistent.{new_group}
use Rattle.cp_log.specs.Rows.{rows_of}
use Rattle.cp_log.proofs.RowMaps.{entry_back, insert_rows, keys_rows, remove_keys}
use Rattle.cp_log.proofs.rows.insert_row.Goals as goal

pub returns-in-Ok-clause-rows : goal.returns-in-Ok-clause-rows
returns-in-Ok-clause-rows c =
    ap rows_of c.in-Ok.ensures.entries ∙ insert_rows c.args.group c.args.rows.now.entries c.new.result ∙ ap (insert_entry nat_cmp (rows_of c.args.rows.now.entries) c.args.group) c.new.ensures

pub returns-in-Ok-clause-back : goal.returns-in-Ok-clause-back
returns-in-Ok-clause-back c =
    ap (remove_entry (is_at (nat_cmp c.args.group))) (returns-in-Ok-clause-rows c) ∙ entry_back c.args.group (new_group c.args.first) (rows_of c.args.rows.now.entries) c.requires

pub returns-in-Ok-clause-back_keys : goal.returns-in-Ok-clause-back_keys
returns-in-Ok-clause-back_keys c =
    ap (remove_key (is_at (nat_cmp c.args.group))) (sym (keys_rows c.insert.new.self.entries)) ∙ sym (remove_keys (is_at (nat_cmp c.args.group)) (rows_of c.insert.new.self.entries))
    ∙ ap keys_of (returns-in-Ok-clause-back c) ∙ keys_rows c.args.rows.now.entries
