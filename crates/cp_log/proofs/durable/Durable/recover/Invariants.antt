use Rattle.std.proofs.Common.{◌≡◌, ◌-◌, ◌^◌, ℕ, length}
use Rattle.std.specs.Prelude.{min}
use Rattle.cp_journal.specs.Found.{lists}
use Rattle.cp_log_rules.specs.Durable.{first_state}
use Rattle.cp_log_rules.specs.Recovery.{recovered_from, state_of_bodies}
use Rattle.cp_log.specs.Durables.{durable_of}
use Rattle.cp_log.proofs.durable.Durable.recover.Given as goal

abbrev pub invariant-loop-rest : goal.invariant-loop-rest
invariant-loop-rest l = (at : ℕ) × (state_of_bodies (first_state l.managed l.size) (lists l.bodies) ≡ recovered_from at (durable_of l.state) (lists l.rest)) × (l.place ≡ min at (2 ^ 64 - 1))

abbrev pub decreases-loop-rest : goal.decreases-loop-rest
decreases-loop-rest l = length l.rest
