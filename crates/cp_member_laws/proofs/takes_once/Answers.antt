use Rattle.cp_member_laws.proofs.Once.{taken_once}
use Rattle.cp_member_laws.proofs.Refused.{left}
use Rattle.cp_member_laws.proofs.takes_once.Goals as goal

pub returns : goal.returns
returns g c = record {
  once = λ ms setup me member run t. taken_once ms setup me run member t;
  others = λ ms setup me member event r comes not_taken. left ms setup me member event r comes not_taken;
}
