use Rattle.cp_schedule.proofs.LineFeeds.{lines_are_numbered}
use Rattle.cp_schedule.proofs.laws.lines_are_numbered.Goals as goal

pub returns : goal.returns
returns c = lines_are_numbered
