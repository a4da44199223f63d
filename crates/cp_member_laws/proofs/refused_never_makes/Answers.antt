use Rattle.cp_member_laws.proofs.Refused.{refused_never_makes as law}
use Rattle.cp_member_laws.proofs.refused_never_makes.Goals as goal

pub returns : goal.returns
returns g c = λ ms setup me member before h behind t refuses. law ms setup me member before h behind t refuses
