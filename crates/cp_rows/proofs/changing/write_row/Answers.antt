use Rattle.std.proofs.Common.{◌∙◌}
use Rattle.cp_group_state.specs.Rows.{find}
use Rattle.cp_rows.proofs.Ordered.{put_there, some_of}
use Rattle.cp_rows.proofs.changing.write_row.Goals as goal

pub returns : goal.returns
returns g c = let there = some_of (find g.K.Ord.cmp c.args.rows.now.entries c.args.key.now) c.requires in
    (c.get_mut.follows.holds c.args.row).0 ∙ put_there g.K.Ord.cmp g.met.K.Ord.total c.args.rows.now.entries c.args.key.now there.0 c.args.row c.get_mut.ensures.ordered there.1
