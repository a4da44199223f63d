use Rattle.std.proofs.Common.{◌++◌, []}
use Rattle.cp_meta.specs.Spelled.{each_spelled}
use Rattle.cp_meta.proofs.Written.{row_written, all_written, rest_fits}
use Rattle.cp_meta.proofs.row.append_each.Goals as goal

pub loop-key-preserved : goal.loop-key-preserved
loop-key-preserved g c = record {
  written = row_written (g.K.RowKey.behind []) c.loop-key.out.items c.append_row.new.out.items (c.args.out.now.items ++ each_spelled (g.K.RowKey.behind []) c.args.rows.now.entries) (c.in-Some.key.now, c.in-Some.value.now)
      c.loop-key.key-iterator c.next.new.self c.in-Some.ensures.steps c.in_ok-append_row.ensures c.loop-key.invariant.written;
  fit = rest_fits g.K.RowKey.fits c.loop-key.key-iterator c.next.new.self (c.in-Some.key.now, c.in-Some.value.now) c.in-Some.ensures.steps c.loop-key.invariant.fit;
}

pub returns : goal.returns
returns g c = all_written (g.K.RowKey.behind []) c.loop-key.out.items (c.args.out.now.items ++ each_spelled (g.K.RowKey.behind []) c.args.rows.now.entries) c.loop-key.key-iterator c.in-None.ensures.steps.0 c.loop-key.invariant.written
