use Rattle.std.proofs.Common.{◌∙◌, sym}
use Rattle.cp_client.proofs.Taken.{always, idle_put}
use Rattle.cp_client.proofs.threads.take_pending.Goals as goal

pub returns-in-Some-clause-rows : goal.returns-in-Some-clause-rows
returns-in-Some-clause-rows c = always c.replace.result.pending ((c.get_mut.follows.holds c.replace.new.dest).0
    ∙ idle_put c.args.threads.now.entries c.args.thread.0 c.in-Some.row.now c.replace.new.dest c.get_mut.ensures.ordered (sym c.in-Some.ensures.value) c.replace.ensures.after)
