-- The states that an execution of local steps had.
use Rattle.std.specs.Prelude.{◌≡◌, ℕ, ◌⊎◌, List, [], ◌∷◌}
use Rattle.cp_parts.specs.declared.config.Config.{Config}
use Rattle.cp_rules.specs.declared.role.Role.TheVariants.{Leader}
use Rattle.cp_rules_facts.specs.Executions.{LocalCluster, Act, opening, local_after}

-- a state that the execution had, after some act or before the first
abbrev pub IsLocalMoment : Config → List Act → LocalCluster → Type 0
IsLocalMoment first [] w = w ≡ opening first
IsLocalMoment first (a ∷ before) w = (w ≡ local_after first (a ∷ before)) ⊎ IsLocalMoment first before w

-- the member leads this term
pub record Leads (w : LocalCluster) (member term : ℕ) : Type 0 where
  pub role : (w.member member).state.role ≡ Leader
  pub in_term : (w.member member).stored.term ≡ term
