use Rattle.cp_schedule.proofs.ScheduleLaws.{members_are_told}
use Rattle.cp_schedule.proofs.laws.members_are_not_built.Goals as goal

pub returns : goal.returns
returns c = members_are_told
