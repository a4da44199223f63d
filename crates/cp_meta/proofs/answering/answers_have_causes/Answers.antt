use Rattle.cp_meta.proofs.Causes.{answers_have}
use Rattle.cp_meta.proofs.answering.answers_have_causes.Goals as goal

pub returns : goal.returns
returns c = answers_have
