use Rattle.std.proofs.Common.{Bool, ap, ◌∙◌}
use Rattle.std.specs.Prelude.{if◌then◌else◌}
use Rattle.cp_wait.specs.Arrivals.{with_call}
use Rattle.cp_wait.specs.Indexes.{thread_calls}
use Rattle.cp_wait.proofs.Hits.{thread_hit}
use Rattle.cp_wait.proofs.indexes.enter_thread.Goals as goal

pub returns-in-Ok-clause-ok : goal.returns-in-Ok-clause-ok
returns-in-Ok-clause-ok c = λ q. c.in-Ok.ensures.ok q
    ∙ ap (λ (b : Bool). if b then with_call (thread_calls c.args.threads.now q) c.args.waiter.now.call else thread_calls c.args.threads.now q) (thread_hit (c.args.waiter.now.call.client, c.args.waiter.now.call.thread) q)
