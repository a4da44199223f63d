use Rattle.std.proofs.Common.{ap, ◌∙◌, length}
use Rattle.std.specs.BTreeMap.{is_at}
use Rattle.cp_group_state.specs.Rows.{name_cmp}
use Rattle.cp_latch.proofs.Totals.{taken}
use Rattle.cp_latch.proofs.latches.Latches.destroy.Goals as goal

pub overflow_sub-self : goal.overflow_sub-self
overflow_sub-self c = (taken (is_at (name_cmp c.args.name.now)) c.self.inside.rows.entries c.remove.new.self.entries c.in-Some.latch (length c.calls.result.now) c.self.inside.total c.in-Some.ensures.value c.remove.ensures.entries (ap length (c.calls.ensures ∙ c.counted.ensures)) c.self.invariant).0

pub invariant_of-self : goal.invariant_of-self
invariant_of-self c = (taken (is_at (name_cmp c.args.name.now)) c.self.inside.rows.entries c.remove.new.self.entries c.in-Some.latch (length c.calls.result.now) c.self.inside.total c.in-Some.ensures.value c.remove.ensures.entries (ap length (c.calls.ensures ∙ c.counted.ensures)) c.self.invariant).1
