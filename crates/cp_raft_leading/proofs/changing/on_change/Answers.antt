use Rattle.cp_raft_leading.proofs.Members.{few}
use Rattle.cp_raft_leading.proofs.changing.on_change.Goals as goal

pub changes_if_fit-requires-clause-few : goal.changes_if_fit-requires-clause-few
changes_if_fit-requires-clause-few g c = few (g.G.Log.stored c.args.stored.now) c.requires.may.range.stored
