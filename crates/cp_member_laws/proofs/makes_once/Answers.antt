use Rattle.cp_member_laws.proofs.Refused.{made_once}
use Rattle.cp_member_laws.proofs.makes_once.Goals as goal

pub returns : goal.returns
returns g c = λ ms setup me member run t. made_once ms setup me run member t
