use Rattle.cp_schedule.proofs.ScheduleLaws.{spelled_once}
use Rattle.cp_schedule.proofs.laws.a_text_spells_one_schedule.Goals as goal

pub returns : goal.returns
returns c = spelled_once
