use Rattle.std.proofs.Common.{refl}
use Rattle.cp_try_rules.proofs.stops_at_the_last_number.Goals as goal

pub returns : goal.returns
returns c = record { attempts = refl; beats = refl }
