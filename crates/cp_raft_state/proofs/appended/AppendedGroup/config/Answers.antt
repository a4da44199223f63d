use Rattle.std.proofs.Common.{◌∙◌, sym}
use Rattle.cp_raft_state.proofs.OneMore.{brings_some, brings_none}
use Rattle.cp_raft_state.proofs.appended.AppendedGroup.config.Goals as goal

pub returns-in-Some : goal.returns-in-Some
returns-in-Some g c =
    let own = c.args.self.now in
    brings_some (g.G.Log.stored own.before.now) own.ballot own.entry.now c.in-Some.config (sym own.brought ∙ c.in-Some.is)

pub returns-in-None : goal.returns-in-None
returns-in-None g c =
    let own = c.args.self.now in
    c.config.ensures ∙ brings_none (g.G.Log.stored own.before.now) own.ballot own.entry.now (sym own.brought ∙ c.in-None.is)
