use Rattle.std.proofs.Common.{◌∙◌, ap}
use Rattle.cp_remembered.specs.Forgetting.{of_others}
use Rattle.cp_remembered.proofs.Forgotten.{one_less}
use Rattle.cp_remembered.proofs.forget.forget_thread.Goals as goal

pub returns-clause-others : goal.returns-clause-others
returns-clause-others c = ap (of_others c.args.session) c.remove.ensures.entries ∙ one_less c.args.rows.now.entries c.args.session c.args.thread
