use Rattle.std.proofs.Common.{ℕ, List, ap, ◌∙◌}
use Rattle.std.specs.Prelude.{◌++◌}
use Rattle.cp_group_state.specs.Closing.{close}
use Rattle.cp_group_state.specs.Apply.{told}
use Rattle.cp_group_tables.proofs.tables.GroupTables.expire_sessions.Goals as goal

pub returns-clause-state : goal.returns-clause-state
returns-clause-state c = c.in_ok-close.ensures.state ∙ ap (λ (ns : List ℕ). (close c.args.index ns c.args.self.now).state) (c.deref.ensures.value ∙ c.in_ok-sessions.ensures)

pub returns-clause-told : goal.returns-clause-told
returns-clause-told c = c.in_ok-close.ensures.told ∙ ap (λ (ns : List ℕ). c.args.out.now ++ told (close c.args.index ns c.args.self.now).ended) (c.deref.ensures.value ∙ c.in_ok-sessions.ensures)
