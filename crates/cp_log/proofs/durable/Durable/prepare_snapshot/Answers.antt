use Rattle.std.proofs.Common.{◌≡◌, refl, sym, ◌∙◌, ap, Some}
use Rattle.std.specs.Ordering.{nat_cmp}
use Rattle.std.specs.BTreeMap.{is_at}
use Rattle.std.specs.Map.{lookup}
use Rattle.cp_parts.specs.Heads.{head_of}
use Rattle.cp_log_rules.specs.Durable.{group_at}
use Rattle.cp_log.specs.Durables.{durable_of}
use Rattle.cp_log.proofs.Prepared.{above_base}
use Rattle.cp_log.proofs.RowMaps.{lookup_rows}
use Rattle.cp_log.proofs.durable.Durable.prepare_snapshot.Goals as goal

pub returns-clause-ok : goal.returns-clause-ok
returns-clause-ok c =
    let head : head_of c.args.bytes ≡ Some c.in-Some.head = ap head_of (sym c.as_slice.ensures) ∙ sym c.in_ok-head.ensures ∙ c.in-Some.is in
    let rows = c.args.self.now.rows.entries in
    record {
      applied = rw head refl;
      given_up = refl;
      fits = (above_base (lookup (is_at (nat_cmp c.args.group)) rows) (group_at (durable_of c.args.self.now) c.args.group) c.args.term c.args.index c.args.bytes (lookup_rows (is_at (nat_cmp c.args.group)) rows) c.requires.legal, c.requires.most);
    }
