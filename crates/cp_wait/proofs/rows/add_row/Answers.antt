use Rattle.std.proofs.Common.{◌∙◌, rules}
use Rattle.indexmap.proofs.CallerLemmas.{insert_entry-new}
use Rattle.cp_wait.proofs.rows.add_row.Goals as goal

pub returns-in-Ok-clause-ok : goal.returns-in-Ok-clause-ok
returns-in-Ok-clause-ok c = c.in-Ok.ensures.entries ∙ insert_entry-new _ c.args.rows.now c.args.waiter.call c.args.waiter (search rules)
