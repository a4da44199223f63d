use Rattle.std.proofs.Common.{◌∙◌, sym}
use Rattle.cp_lock.proofs.Sessions.{found_among}
use Rattle.cp_lock.proofs.session_set.SessionSet.of.Goals as goal

pub returns : goal.returns
returns c s = sym (found_among s c.in_ok-numbers.numbers.keys) ∙ c.in_ok-numbers.ensures.0 s ∙ found_among s c.args.sessions.now
