use Rattle.std.proofs.Common.{◌∙◌, ap}
use Rattle.std.specs.List.{find}
use Rattle.cp_read.specs.Looks.{first_ready, ready}
use Rattle.cp_read.proofs.reads.Reads.ready.Goals as goal

pub returns : goal.returns
returns c =
    c.first_ready.ensures
    ∙ ap (find (ready c.args.me c.args.members.now c.self.inside.confirmed c.args.applied)) c.deref.ensures.value
    ∙ ap (first_ready c.args.me c.args.members.now c.args.applied) c.self.view_is
