use Rattle.cp_member_laws.proofs.OnePart.{one_part}
use Rattle.cp_member_laws.proofs.events_store_one.Goals as goal

pub returns : goal.returns
returns g c = λ ms setup me member event. one_part ms setup me member event
