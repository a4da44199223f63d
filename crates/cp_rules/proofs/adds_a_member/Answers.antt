use Rattle.cp_rules.proofs.Adding.{ends}
use Rattle.cp_rules.proofs.adds_a_member.Goals as goal

pub returns : goal.returns
returns c = record { messages = ends.messages; leader = ends.leader; member = ends.member }
