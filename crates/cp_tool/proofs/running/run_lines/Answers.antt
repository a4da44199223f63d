use Rattle.std.proofs.Common.{◌+◌, ◌∙◌, take, ap, subst, arith}
use Rattle.cp_world_rules.specs.Execution.{events_of}
use Rattle.cp_schedule.specs.Reading.{line_of_event}
use Rattle.cp_tool.specs.Running.{Runs}
use Rattle.cp_tool.proofs.Limiting.{next_events, kept_more, limit_here, runs_all, kept_all}
use Rattle.cp_tool.proofs.running.run_lines.Goals as goal

pub overflow_add-place : goal.overflow_add-place
overflow_add-place c = omega (arith, c.loop-line.invariant.counted, c.loop-line-test.true, c.requires.few)

pub line_of_event-requires-clause-place : goal.line_of_event-requires-clause-place
line_of_event-requires-clause-place c = omega (arith, c.loop-line.invariant.counted, c.loop-line-test.true, c.requires.few)

pub returns-in-Err-Limit-clause-err : goal.returns-in-Err-Limit-clause-err
returns-in-Err-Limit-clause-err c = rw c.in-Err-Limit.field-0-is
    (limit_here c.args.plan.now c.args.lines.now c.loop-line.line-index c.line_of_event.result c.line-item.result c.in-Err-Limit.name c.loop-line.running
    c.loop-line-test.true c.line-item.is (c.line_of_event.ensures ∙ ap (λ n. line_of_event c.args.plan.now n) c.loop-line.invariant.counted) c.loop-line.invariant.runs c.loop-line.invariant.kept
    (rw c.in-Err-Limit.field-0-is at c.in-Err-Limit.ensures.err))

pub loop-line-preserved : goal.loop-line-preserved
loop-line-preserved c =
    let runs : Runs c.args.plan.now (events_of (take (c.loop-line.line-index + 1) c.args.lines.now)) c.run_line.new.running =
    subst (λ es. Runs c.args.plan.now es c.run_line.new.running)
    (next_events c.args.lines.now c.loop-line.line-index c.line-item.result c.loop-line-test.true c.line-item.is)
    (c.in-Ok.ensures.ok.runs _ c.loop-line.invariant.runs) in
    record {
      counted = ap (λ n. n + 1) c.loop-line.invariant.counted;
      runs = runs;
      kept = kept_more c.args.plan.now c.args.lines.now c.loop-line.line-index c.loop-line.invariant.kept runs.kept;
    }

pub returns-clause-ok : goal.returns-clause-ok
returns-clause-ok c = runs_all c.args.plan.now c.args.lines.now c.loop-line.line-index c.loop-line.running c.loop-line-test.false c.loop-line.invariant.runs

pub returns-clause-kept : goal.returns-clause-kept
returns-clause-kept c = kept_all c.args.plan.now c.args.lines.now c.loop-line.line-index c.loop-line-test.false c.loop-line.invariant.kept
