use Rattle.std.proofs.Common.{refl}
use Rattle.cp_rules.proofs.changes_refused.Goals as goal

pub returns : goal.returns
returns c = record { already = refl; not_there = refl; pending = refl; own_term = refl; last = refl; none = refl }
