use Rattle.std.proofs.Common.{refl}
use Rattle.cp_try_rules.proofs.takes_replies_to_the_open_request.Goals as goal

pub returns : goal.returns
returns c = refl
