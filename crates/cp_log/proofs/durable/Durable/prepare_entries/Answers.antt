use Rattle.std.proofs.Common.{refl, ap, ◌∙◌, length, arith}
use Rattle.std.specs.Ordering.{nat_cmp}
use Rattle.std.specs.BTreeMap.{is_at}
use Rattle.std.specs.Map.{lookup}
use Rattle.cp_log_rules.specs.Configurations.{configs_in}
use Rattle.cp_log_rules.specs.Durable.{group_at}
use Rattle.cp_log_rules.specs.Legal.{may_append}
use Rattle.cp_log.specs.Durables.{durable_of}
use Rattle.cp_log.proofs.Prepared.{entries_ready, stands_some}
use Rattle.cp_log.proofs.RowMaps.{lookup_rows}
use Rattle.cp_log.proofs.durable.Durable.prepare_entries.Goals as goal

pub reserve-requires : goal.reserve-requires
reserve-requires c =
    let rows = c.args.self.now.rows.entries in
    stands_some (lookup (is_at (nat_cmp c.args.group)) rows) (group_at (durable_of c.args.self.now) c.args.group) (may_append c.args.term c.args.after c.args.entries) (lookup_rows (is_at (nat_cmp c.args.group)) rows) c.requires

pub returns-clause-ok : goal.returns-clause-ok
returns-clause-ok c =
    entries_ready c.args.group c.args.term c.args.vote c.args.after c.len.result c.len-2.result c.from_vec-list.result c.in_ok-configs.configs c.args.entries c.args.self.now _
    refl refl refl c.reserve.ensures.same (c.from_vec-list.ensures.items ∙ c.into_vec-list.ensures)
    (c.in_ok-configs.ensures ∙ ap (configs_in c.args.after) (c.deref.ensures.value ∙ c.into_vec-list.ensures)) (omega (arith, ap length c.into_vec-list.ensures)) (omega arith) c.requires c.in_ok-reserve.ensures.room
