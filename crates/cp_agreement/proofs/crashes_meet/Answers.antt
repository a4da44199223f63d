use Rattle.cp_agreement.proofs.Crash.{crashes_meet as law}
use Rattle.cp_agreement.proofs.crashes_meet.Goals as goal

pub returns : goal.returns
returns c = law
