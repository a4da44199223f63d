use Rattle.std.specs.Ordering.{nat_cmp}
use Rattle.cp_group_state.proofs.Keyed.{number_key}
use Rattle.cp_session.proofs.Indexed.{put_sets}
use Rattle.cp_session.proofs.beat.beat_row.Goals as goal

pub returns-clause-sets : goal.returns-clause-sets
returns-clause-sets c = rw c.write_row.ensures (put_sets nat_cmp number_key c.args.rows.now.entries c.args.session c.args.row)
