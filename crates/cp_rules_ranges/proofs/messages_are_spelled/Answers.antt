use Rattle.cp_rules_ranges.proofs.Laws.{messages_are_spelled as law}
use Rattle.cp_rules_ranges.proofs.messages_are_spelled.Goals as goal

pub returns : goal.returns
returns c = law
