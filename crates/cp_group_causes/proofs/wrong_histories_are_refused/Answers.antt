use Rattle.cp_group_causes.proofs.WrongHistories.{refused}
use Rattle.cp_group_causes.proofs.wrong_histories_are_refused.Goals as goal

pub returns : goal.returns
returns c = refused
