use Rattle.std.proofs.Common.{ap, sym, ◌∙◌}
use Rattle.cp_group_state.specs.Latches.{LatchStep, latch_at}
use Rattle.cp_latch.proofs.Steps.{set_there}
use Rattle.cp_latch.proofs.latches.set.Goals as goal

pub returns-in-Forgotten-clause-rows : goal.returns-in-Forgotten-clause-rows
returns-in-Forgotten-clause-rows c = let step = set_there c.args.rows.now.entries c.args.name.now (latch_at c.args.rows.now.entries c.args.name.now) c.args.count c.in-Forgotten.ensures.0 c.in-Forgotten.ensures.1 in
    c.in-Forgotten.ensures.2 ∙ ap (λ (s : LatchStep). s.after) (sym step)

pub returns-in-Forgotten-clause-answer : goal.returns-in-Forgotten-clause-answer
returns-in-Forgotten-clause-answer c = let step = set_there c.args.rows.now.entries c.args.name.now (latch_at c.args.rows.now.entries c.args.name.now) c.args.count c.in-Forgotten.ensures.0 c.in-Forgotten.ensures.1 in
    ap (λ (s : LatchStep). s.outcome) step
