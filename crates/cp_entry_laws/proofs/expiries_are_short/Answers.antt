use Rattle.cp_entry_laws.proofs.Lengths.{expiries_are_short}
use Rattle.cp_entry_laws.proofs.expiries_are_short.Goals as goal

pub returns : goal.returns
returns c = expiries_are_short
