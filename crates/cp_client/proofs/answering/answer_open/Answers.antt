use Rattle.std.proofs.Common.{sym, subst}
use Rattle.cp_client_rules.specs.Clients.{Client}
use Rattle.cp_client.specs.Nexts.{tasked}
use Rattle.cp_client.specs.Steps.{Gives}
use Rattle.cp_client.proofs.Over.{open_gives}
use Rattle.cp_client.proofs.Taken.{where_ok}
use Rattle.cp_client.proofs.answering.answer_open.Goals as goal

pub returns : goal.returns
returns c = where_ok c.on_task.result
    (λ g. open_gives c.args.plan.now c.args.me c.args.request.now c.args.answer c.in-Some.now c.args.client.now c.on_task.new.client c.args.out.now c.on_task.new.out c.requires.open (sym c.in-Some.ensures.pending)
    (subst (λ (x : Client). Gives (tasked c.args.plan.now c.args.me c.args.request.now c.in-Some.now.task c.in-Some.now c.args.answer x) c.on_task.new.client c.args.out.now c.on_task.new.out) c.in-Some.ensures.idle g))
    c.on_task.ensures
