use Rattle.cp_meta.proofs.Numbered.{members_rise}
use Rattle.cp_meta.proofs.first.members_of.Goals as goal

pub from_rows-requires : goal.from_rows-requires
from_rows-requires c = members_rise c.args.members c.in_ok-rows.rows c.in_ok-rows.ensures
