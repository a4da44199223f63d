-- Whatever the waiters are answered, the same ones no longer wait.
use Rattle.std.specs.Prelude.{Result, Ok, Err, OnOk}
use Rattle.cp_group_tables.specs.Endings.{answer_of}
use Rattle.cp_group_tables.proofs.waiters.end_waits.Goals as goal

anyway : {A E P : Type 0} (r : Result A E) → P → OnOk r P
anyway (Ok x) p = p
anyway (Err e) p = tt

pub returns-clause-waits : goal.returns-clause-waits
returns-clause-waits c = anyway c.note_each.result (c.end.ensures (answer_of c.args.ending))
