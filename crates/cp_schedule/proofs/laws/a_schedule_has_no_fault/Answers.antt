use Rattle.cp_schedule.proofs.ScheduleLaws.{read_text_is}
use Rattle.cp_schedule.proofs.laws.a_schedule_has_no_fault.Goals as goal

pub returns : goal.returns
returns c = read_text_is
