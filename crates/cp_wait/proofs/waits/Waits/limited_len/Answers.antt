use Rattle.std.proofs.Common.{List, ap, ◌∙◌, length}
use Rattle.std.specs.List.{filter}
use Rattle.std.specs.Map.{values_of}
use Rattle.cp_group_state.specs.declared.rows.Waiter.{Waiter}
use Rattle.cp_wait.specs.Arrivals.{waits_limited}
use Rattle.cp_wait.proofs.Standing.{length-calls}
use Rattle.cp_wait.proofs.waits.Waits.limited_len.Goals as goal

pub returns : goal.returns
returns c = ap length (c.as_slice.ensures ∙ c.self.invariant.indexed.limited tt) ∙ length-calls (filter waits_limited (values_of c.self.inside.rows.entries))
    ∙ ap (λ (ws : List Waiter). length (filter waits_limited ws)) c.self.view_is
