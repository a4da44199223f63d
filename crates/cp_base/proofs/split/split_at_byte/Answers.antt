use Rattle.std.proofs.Common.{sym, ◌∙◌}
use Rattle.cp_base.proofs.Splits.{unparted, parted}
use Rattle.cp_base.proofs.split.split_at_byte.Goals as goal

pub returns-in_err-place : goal.returns-in_err-place
returns-in_err-place c = rw c.from_residual.ensures (unparted c.args.byte c.args.text.now (sym c.place_of.ensures ∙ c.in_err-place.was))

pub returns : goal.returns
returns c = parted c.args.byte c.args.text.now c.in_ok-place.place (sym c.place_of.ensures ∙ c.in_ok-place.was)
