use Rattle.std.proofs.Common.{Bool, ap, ◌∙◌}
use Rattle.std.specs.Prelude.{if◌then◌else◌}
use Rattle.cp_wait.specs.Arrivals.{without_call}
use Rattle.cp_wait.specs.Indexes.{thread_calls}
use Rattle.cp_wait.proofs.Hits.{thread_hit}
use Rattle.cp_wait.proofs.indexes.leave_thread.Goals as goal

pub returns : goal.returns
returns c = λ q. c.remove.ensures q
    ∙ ap (λ (b : Bool). if b then without_call (thread_calls c.args.threads.now q) c.args.waiter.now.call else thread_calls c.args.threads.now q) (thread_hit (c.args.waiter.now.call.client, c.args.waiter.now.call.thread) q)
