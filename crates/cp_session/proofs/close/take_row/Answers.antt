use Rattle.std.proofs.Common.{◌∙◌}
use Rattle.cp_session.proofs.Closed.{without_one}
use Rattle.cp_session.proofs.close.take_row.Goals as goal

pub returns-clause-rows : goal.returns-clause-rows
returns-clause-rows c = c.remove.ensures.entries ∙ without_one c.args.rows.now.entries c.args.session c.len-len.ensures.ordered
