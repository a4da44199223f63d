use Rattle.std.proofs.Common.{◌≡◌, ◌+◌, ◌<◌, ◌-◌, ℕ, map, take, length, ap, sym, ◌∙◌, arith}
use Rattle.cp_group_state.specs.Waiters.{still_waiting, answered_by}
use Rattle.cp_wait.proofs.Standing.{leaves-last, still-none}
use Rattle.cp_wait.proofs.waits.Waits.end.Goals as goal

pub loop-left-preserved-in-loop-left : goal.loop-left-preserved-in-loop-left
loop-left-preserved-in-loop-left c = record {
  some = omega arith;
  others = λ answer. (let next : c.loop-left.left ≡ (c.loop-left.left - 1) + 1 = omega arith in
      let there : c.loop-left.left - 1 < length c.args.waiters.now = omega arith in
      leaves-last answer c.args.waiters.now (c.loop-left.left - 1) c.loop-left.left c.index-waiters-left.result c.loop-left.self c.leave.new.self next there c.leave.ensures.rest) ∙ c.loop-left.invariant.others answer;
}

pub loop-left-preserved : goal.loop-left-preserved
loop-left-preserved c = record {
  some = omega arith;
  others = λ answer. (let next : c.loop-left.left ≡ (c.loop-left.left - 1) + 1 = omega arith in
      let there : c.loop-left.left - 1 < length c.args.waiters.now = omega arith in
      leaves-last answer c.args.waiters.now (c.loop-left.left - 1) c.loop-left.left c.index-waiters-left.result c.loop-left.self c.leave.new.self next there c.leave.ensures.rest) ∙ c.loop-left.invariant.others answer;
}

pub returns : goal.returns
returns c = λ answer. let none : c.loop-left.left ≡ 0 = omega arith in
    sym (still-none c.loop-left.self) ∙ ap (λ (n : ℕ). still_waiting (map (answered_by answer) (take n c.args.waiters.now)) c.loop-left.self) (sym none) ∙ c.loop-left.invariant.others answer
