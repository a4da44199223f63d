use Rattle.cp_member_laws.proofs.Making.{made}
use Rattle.cp_member_laws.proofs.makes_what_is_asked.Goals as goal

pub returns : goal.returns
returns g c = λ ms setup me member event r o comes reads. made ms setup me member event r o comes reads
