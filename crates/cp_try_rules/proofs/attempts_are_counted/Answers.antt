use Rattle.cp_try_rules.specs.Events.{first_state}
use Rattle.cp_try_rules.proofs.Counted.{attempts-counted}
use Rattle.cp_try_rules.proofs.attempts_are_counted.Goals as goal

pub returns : goal.returns
returns c = λ plan me events. attempts-counted plan me events first_state
