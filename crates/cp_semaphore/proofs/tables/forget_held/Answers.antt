use Rattle.std.proofs.Common.{sym, ◌∙◌, refl, true, false}
use Rattle.cp_base.proofs.Tests.{no_true}
use Rattle.cp_group_state.specs.Semaphores.{is_held}
use Rattle.cp_semaphore.specs.Nested.{flat}
use Rattle.cp_semaphore.proofs.Destroyed.{left-where}
use Rattle.cp_semaphore.proofs.tables.forget_held.Goals as goal

pub returns-in-Ok-clause-ok : goal.returns-in-Ok-clause-ok
returns-in-Ok-clause-ok c = left-where (is_held c.args.key.now.1) c.args.key.now.0 (flat c.args.holdings.now.entries) (flat c.forget.new.holdings.entries)
    (λ e. c.in-Ok.ensures.ok) (λ e. absurd (no_true (sym (sym c.is_held.ensures ∙ c.if-is_held.true) ∙ e)))

pub returns-else-is_held-clause-ok : goal.returns-else-is_held-clause-ok
returns-else-is_held-clause-ok c = left-where (is_held c.args.key.now.1) c.args.key.now.0 (flat c.args.holdings.now.entries) (flat c.args.holdings.now.entries)
    (λ e. absurd (no_true (sym e ∙ (sym c.is_held.ensures ∙ c.if-is_held.false)))) (λ e. refl)
