use Rattle.cp_three_members.proofs.Starting.{opens}
use Rattle.cp_three_members.proofs.member.first_store.Goals as goal

pub returns-in-Ok-clause-held : goal.returns-in-Ok-clause-held
returns-in-Ok-clause-held c = opens _ _ c.requires (c.in-Ok.ensures.state tt)
