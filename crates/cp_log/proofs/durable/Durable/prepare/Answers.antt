use Rattle.std.proofs.Common.{refl}
use Rattle.std.specs.Ordering.{nat_cmp}
use Rattle.std.specs.BTreeMap.{is_at}
use Rattle.std.specs.Map.{lookup}
use Rattle.cp_log_rules.specs.Durable.{group_at}
use Rattle.cp_log_rules.specs.Legal.{may_vote}
use Rattle.cp_log.specs.Durables.{durable_of}
use Rattle.cp_log.proofs.Prepared.{snapshot_bound, stands_some, start_bound, start2_bound}
use Rattle.cp_log.proofs.RowMaps.{lookup_rows}
use Rattle.cp_log.proofs.durable.Durable.prepare.Goals as goal

pub prepare_snapshot-requires-clause-most : goal.prepare_snapshot-requires-clause-most
prepare_snapshot-requires-clause-most c =
    snapshot_bound c.in-Snapshot.group c.in-Snapshot.term c.in-Snapshot.vote c.in-Snapshot.index c.in-Snapshot.bytes (rw c.in-Snapshot.is at c.requires.fits)

pub returns-in-Start-clause-ok : goal.returns-in-Start-clause-ok
returns-in-Start-clause-ok c =
    rw c.in-Start.is (record { applied = refl; given_up = refl; fits = start_bound c.in-Start.restart (rw c.in-Start.is at c.requires.fits) })

pub returns-in-State-clause-ok : goal.returns-in-State-clause-ok
returns-in-State-clause-ok c =
    let rows = c.args.self.now.rows.entries in
    let group = c.in-State.group.0 in
    rw c.in-State.is (record {
      applied = refl;
      given_up = refl;
      fits = stands_some (lookup (is_at (nat_cmp group)) rows) (group_at (durable_of c.args.self.now) group) (may_vote c.in-State.term) (lookup_rows (is_at (nat_cmp group)) rows) (rw c.in-State.is at c.requires.legal);
    })

pub returns-in-Start2-clause-ok : goal.returns-in-Start2-clause-ok
returns-in-Start2-clause-ok c =
    rw c.in-Start2.is (record { applied = refl; given_up = refl; fits = start2_bound c.in-Start2.restart (rw c.in-Start2.is at c.requires.fits) })
