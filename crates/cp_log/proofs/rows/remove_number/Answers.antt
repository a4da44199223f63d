use Rattle.std.proofs.Common.{sym}
use Rattle.cp_log.proofs.Numbers.{no_number}
use Rattle.cp_log.proofs.rows.remove_number.Goals as goal

pub returns-in-None : goal.returns-in-None
returns-in-None c = no_number c.args.number c.args.numbers.now.items (sym (rw c.deref.ensures.value at c.in-None.ensures))
