use Rattle.cp_session.proofs.Ruled.{creations_follow}
use Rattle.cp_session.proofs.creations_follow_the_rule.Goals as goal

pub returns : goal.returns
returns c = creations_follow
