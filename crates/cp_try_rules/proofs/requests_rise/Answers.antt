use Rattle.cp_try_rules.proofs.Rising.{requests-rise}
use Rattle.cp_try_rules.proofs.requests_rise.Goals as goal

pub returns : goal.returns
returns c = λ plan me events. requests-rise me plan events
