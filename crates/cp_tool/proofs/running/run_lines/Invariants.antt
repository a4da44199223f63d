use Rattle.std.proofs.Common.{◌≡◌, take}
use Rattle.cp_world_rules.specs.Execution.{events_of}
use Rattle.cp_tool.specs.Limits.{KeepsLimits}
use Rattle.cp_tool.specs.Running.{Runs}
use Rattle.cp_tool.proofs.running.run_lines.Given as goal

abbrev pub invariant-loop-line : goal.invariant-loop-line
invariant-loop-line l = record {
  counted : l.place ≡ l.line-index;
  runs : Runs l.plan (events_of (take l.line-index l.lines)) l.running;
  kept : KeepsLimits l.plan l.lines l.line-index;
}
