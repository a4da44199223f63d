-- What a member with a snapshot stands for: a member that kept its whole log.
use Rattle.std.specs.Prelude.{◌≡◌, ℕ, ◌≤◌, List, [], ◌∷◌, length, drop}
use Rattle.cp_parts.specs.declared.log_entry.LogEntry.{LogEntry}
use Rattle.cp_agreement_facts.specs.Configurations.{configuration_at}
use Rattle.cp_agreement_facts.specs.Logs.{HasTerm}
use Rattle.cp_agreement_facts.specs.Clusters.{Member, Step, cluster_after}
use Rattle.cp_agreement.specs.WholeLogs as whole

-- The whole log that a member stands for: what the member keeps of it is what follows the base, with the base stand the term and the
-- configuration that this log has there, and what the base covers is committed.
pub record StandsForLog (first : List ℕ) (m : Member) (whole_log : List LogEntry) : Type 0 where
  pub fits : m.base ≤ length whole_log
  pub log : m.log ≡ drop m.base whole_log
  pub base_term : HasTerm whole_log m.base m.base_term
  pub members : m.base_members ≡ configuration_at first whole_log m.base
  pub above : m.base ≤ m.commit

pub record StandsFor (first : List ℕ) (m : Member) (x : whole.Member) : Type 0 where
  pub term : x.term ≡ m.term
  pub commit : x.commit ≡ m.commit
  pub leader : x.is_leader ≡ m.is_leader
  pub log : StandsForLog first m x.log

-- At each moment of the execution each member stands for the one of an execution on whole logs.
abbrev pub StandsThrough : List ℕ → List Step → List whole.Step → Type 0
StandsThrough first [] plain = plain ≡ []
StandsThrough first (s ∷ steps) plain = (p : whole.Step) × (ps : List whole.Step) × (plain ≡ p ∷ ps)
    × ((m : ℕ) → StandsFor first ((cluster_after first (s ∷ steps)).member m) ((whole.cluster_after plain).member m)) × StandsThrough first steps ps

-- Each step of the execution is of the same member as the other's, which leads in both or in neither, and what it leaves stands for what
-- the other leaves.
abbrev pub LedThrough : List ℕ → List Step → List whole.Step → Type 0
LedThrough first [] plain = plain ≡ []
LedThrough first (s ∷ steps) plain = (p : whole.Step) × (ps : List whole.Step) × (plain ≡ p ∷ ps)
    × (p.actor ≡ s.actor) × (p.leads ≡ s.leads) × StandsFor first s.after p.after × LedThrough first steps ps
