use Rattle.cp_resource.proofs.Outcomes.{looks-are-outcomes}
use Rattle.cp_resource.proofs.lookups.looks_are_outcomes.Goals as goal

pub returns : goal.returns
returns c = looks-are-outcomes
