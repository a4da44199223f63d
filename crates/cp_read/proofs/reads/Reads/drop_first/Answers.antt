use Rattle.std.proofs.Common.{◌∙◌, ap, List}
use Rattle.cp_rules.specs.Volatile.{Look, Reads}
use Rattle.cp_read.specs.Looks.{first_ready, without_first_ready}
use Rattle.cp_read.proofs.reads.Reads.drop_first.Goals as goal

pub returns-clause-look : goal.returns-clause-look
returns-clause-look c = c.drop_first.ensures.look ∙ ap (first_ready c.args.me c.args.members.now c.args.applied) c.self.view_is

pub returns-clause-rest : goal.returns-clause-rest
returns-clause-rest c =
    let here = c.self.inside in
    let with_looks : List Look → Reads = λ looks. record { round = here.round; confirmed = here.confirmed; looks = looks } in
    ap with_looks c.drop_first.ensures.rest ∙ ap (without_first_ready c.args.me c.args.members.now c.args.applied) c.self.view_is
