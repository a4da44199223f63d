use Rattle.cp_rules.proofs.PartLaws.{parts_change_their_group as law}
use Rattle.cp_rules.proofs.parts_change_their_group.Goals as goal

pub returns : goal.returns
returns c = law
