use Rattle.cp_group_rules.proofs.Replying.{replies_have_answers as law}
use Rattle.cp_group_rules.proofs.replies_have_answers.Goals as goal

pub returns : goal.returns
returns g c = λ m. law m
