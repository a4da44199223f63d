use Rattle.cp_try_rules.proofs.Caused.{only-after-refusals}
use Rattle.cp_try_rules.proofs.only_after_refusals.Goals as goal

pub returns : goal.returns
returns c = only-after-refusals
