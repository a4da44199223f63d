use Rattle.cp_group_causes.proofs.answers_have_causes.Goals as goal
use Rattle.cp_group_causes.proofs.Caused.{all-have-causes}

pub returns : goal.returns
returns c = all-have-causes
