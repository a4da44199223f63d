use Rattle.cp_rules_laws.proofs.Worked.{forgetting, falling, following, silent}
use Rattle.cp_rules_laws.proofs.no_step_leaves.Goals as goal

pub returns : goal.returns
returns c = record { forgets = forgetting; falls = falling; follower = following; silent = silent }
