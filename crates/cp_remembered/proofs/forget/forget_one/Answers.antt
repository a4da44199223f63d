use Rattle.std.proofs.Common.{◌∙◌, sym}
use Rattle.cp_remembered.proofs.Forgotten.{none_of}
use Rattle.cp_remembered.proofs.forget.forget_one.Goals as goal

pub returns : goal.returns
returns c = sym (none_of c.loop-thread.rows.entries c.args.session c.in_default.ensures) ∙ c.loop-thread.invariant
