use Rattle.cp_world_rules.proofs.headline_holds.Goals as goal
use Rattle.cp_world_rules.proofs.Kept.{headline-kept}

pub returns : goal.returns
returns c = λ s outcomes allowed short. headline-kept s outcomes short
