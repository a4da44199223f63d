use Rattle.cp_world_rules.proofs.clients_stay_within_bounds.Goals as goal
use Rattle.cp_world_rules.proofs.Bounds.{begins, hands_on, after}

pub returns : goal.returns
returns c = record { begins = begins; hands_on = hands_on; after = after }
