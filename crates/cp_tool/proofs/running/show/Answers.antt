use Rattle.std.proofs.Common.{refl}
use Rattle.cp_tool.proofs.Limiting.{few}
use Rattle.cp_tool.proofs.Stepping.{after, few_rows, shown_follows}
use Rattle.cp_tool.proofs.running.show.Goals as goal

pub print-requires : goal.print-requires
print-requires c =
    few_rows c.args.plan.now c.requires.events c.args.event.now c.step.new.self c.args.running.now.transcript.rows c.step.new.turn
    (few c.args.plan.now c.requires.events c.args.running.now c.requires.runs)
    c.requires.runs.follows.tells.rows
    (c.in_ok-step.ensures (after c.args.plan.now c.requires.events) c.requires.runs.follows.follows)

pub returns : goal.returns
returns c = λ events follows.
    shown_follows c.args.plan.now events c.args.event.now c.args.running.now _ c.step.new.turn follows
    (c.in_ok-step.ensures (after c.args.plan.now events) follows.follows)
    c.in_ok-print.ensures refl
