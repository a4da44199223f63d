use Rattle.std.proofs.Common.{refl}
use Rattle.cp_try_rules.proofs.ends_at_the_deadline.Goals as goal

pub returns : goal.returns
returns c = record { wish = refl; whole_call = refl }
