use Rattle.std.proofs.Common.{◌∙◌, ap}
use Rattle.cp_group_state.specs.Sessions.{is_among}
use Rattle.cp_lock.proofs.Sessions.{found_among}
use Rattle.cp_lock.proofs.session_set.SessionSet.contains.Goals as goal

pub returns : goal.returns
returns c = c.contains.ensures ∙ found_among c.args.session c.self.inside.numbers.keys ∙ ap (λ numbers. is_among numbers c.args.session) c.self.view_is
