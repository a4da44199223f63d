use Rattle.std.proofs.Common.{ℕ, List, ap, sym, ◌∙◌}
use Rattle.cp_group_state.specs.Semaphores.{all_back}
use Rattle.cp_semaphore.specs.Tables.{seen}
use Rattle.cp_semaphore.proofs.Backing.{back-no-session}
use Rattle.cp_semaphore.proofs.Closings.{none-left}
use Rattle.cp_semaphore.proofs.closing.close_sessions.Goals as goal

pub returns-clause-back : goal.returns-clause-back
returns-clause-back c = sym (back-no-session (seen c.loop-rest.tables)) ∙ ap (λ (sessions : List ℕ). all_back sessions (seen c.loop-rest.tables)) (sym (none-left c.loop-rest.rest.now c.in_default.len_below)) ∙ c.loop-rest.invariant.same
