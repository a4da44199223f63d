-- Agreement between any two moments of one execution of local steps, and between any two leaders of it.
use Rattle.std.specs.Prelude.{◌≡◌, ℕ, ◌<◌, ◌≤◌, ◌⊎◌, true, List, [], ◌∷◌}
use Rattle.cp_parts.specs.declared.config.Config.{Config}
use Rattle.cp_agreement_facts.specs.Clusters.{Member}
use Rattle.cp_agreement_facts.specs.Facts.{KnowsTerm}
use Rattle.cp_safety.specs.Tracking.{untracked}
use Rattle.cp_safety.specs.Laws.{AgreeUpTo}
use Rattle.cp_rules.specs.declared.role.Role.TheVariants.{Leader}
use Rattle.cp_log_rules.specs.Persistent.{last}
use Rattle.cp_rules_facts.specs.Seen.{tracked_member}
use Rattle.cp_rules_facts.specs.Executions.{Local, LocalCluster, Act, did, left_by, opening, local_after, IsExecution}

-- a state that the execution had, after some act or before the first
abbrev pub IsLocalMoment : Config → List Act → LocalCluster → Type 0
IsLocalMoment first [] w = w ≡ opening first
IsLocalMoment first (a ∷ before) w = (w ≡ local_after first (a ∷ before)) ⊎ IsLocalMoment first before w

-- the member as agreement sees it
abbrev pub agreed : Local → Member
agreed l = untracked (tracked_member l.stored l.state)

-- In this act the member leads its term. What it is left as may lead no more: it may step down in the act, or a crash may cut the act off.
abbrev pub LeadsIn : LocalCluster → Act → ℕ → Local → Type 0
LeadsIn w a m l = (a.actor ≡ m) × ((did w a).leads ≡ true) × (left_by w a ≡ l)

-- In some act the member led, and was left as this.
abbrev pub Led : Config → List Act → ℕ → Local → Type 0
Led first [] m l = ⊥
Led first (a ∷ before) m l = LeadsIn (local_after first before) a m l ⊎ Led first before m l

-- What holds of any two members at any two moments, and of any two acts in which a member led.
pub record AgreesThroughout (first : Config) (acts : List Act) : Type 0 where
  -- no two members lead in one term
  pub one_leader : (m n : ℕ) (l k : Local) → Led first acts m l → Led first acts n k → l.stored.term ≡ k.stored.term → m ≡ n
  -- one that is Leader at a moment led in the act that left it so
  pub leaders_led : (v : LocalCluster) → IsLocalMoment first acts v → (m : ℕ) → (v.member m).state.role ≡ Leader → Led first acts m (v.member m)
  -- two members that know the same term at an index agree up to it
  pub equal_prefixes : (v w : LocalCluster) → IsLocalMoment first acts v → IsLocalMoment first acts w → (m n i t : ℕ)
      → KnowsTerm (agreed (v.member m)) i t → KnowsTerm (agreed (w.member n)) i t → AgreeUpTo i (agreed (v.member m)) (agreed (w.member n))
  -- what a member has committed each leader of a later term has
  pub later_leaders : (v : LocalCluster) → IsLocalMoment first acts v → (m n : ℕ) (l : Local) → Led first acts n l → (v.member m).stored.term < l.stored.term
      → AgreeUpTo (v.member m).state.commit (agreed (v.member m)) (agreed l) × ((v.member m).state.commit ≤ last l.stored)

abbrev pub MembersAgree : Type 0
MembersAgree = (first : Config) (acts : List Act) → IsExecution first acts → AgreesThroughout first acts
