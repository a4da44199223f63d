-- The law on whole logs, carried to local steps.
use Rattle.std.proofs.Common.{◌≡◌, ◌≢◌, ℕ, ◌≤◌, true, List, [], ◌++◌, ap, sym, ◌∙◌, subst, arith}
use Rattle.cp_agreement_facts.specs.Configurations.{HasQuorum, configuration_after}
use Rattle.cp_agreement.specs.WholeLogs as whole
use Rattle.cp_agreement.proofs.Moments.{one_leader}
use Rattle.cp_safety.specs.Standing.{StandsFor}
use Rattle.cp_safety.specs.Tracking as tracking
use Rattle.cp_safety.proofs.Fits.{members_is, whole_length}
use Rattle.cp_parts.specs.declared.config.Config.{Config}
use Rattle.cp_rules.specs.declared.role.Role.TheVariants.{Leader}
use Rattle.cp_rules.specs.Persistent.{members}
use Rattle.cp_rules_facts.specs.Seen.{seen_role}
use Rattle.cp_rules_facts.specs.Executions.{Local, LocalCluster, Act, local_after, IsExecution}
use Rattle.cp_rules_facts.proofs.Knowing.{members_are}
use Rattle.cp_rules_rounds.specs.Moments.{IsLocalMoment, Leads}
use Rattle.cp_rules_rounds.specs.Leading.{IsLastLeader, LeadersAreLast}
use Rattle.cp_rules_rounds.proofs.Between.{agreed, Both, both}
use Rattle.cp_rules_rounds.proofs.Lead.{all_within, leads_low}

role_leads : (l : Local) → l.state.role ≡ Leader → (agreed l).is_leader ≡ true
role_leads l e = ap (λ r. tracking.leads_by_role (seen_role r)) e

-- No two members lead in one term, at any two moments.
pub leads_alone : (first : Config) (acts : List Act) → IsExecution first acts → (v w : LocalCluster) → IsLocalMoment first acts v → IsLocalMoment first acts w
    → (m n term : ℕ) → Leads v m term → Leads w n term → m ≡ n
leads_alone first acts is v w at_v at_w m n term lead_m lead_n =
    let two = both first [] acts is in
    let x = two.moments v at_v in
    let y = two.moments w at_w in
    one_leader first.members two.es two.meets_early x.0 y.0 x.1 y.1 m n ((x.2 m).leader ∙ role_leads (v.member m) lead_m.role) ((y.2 n).leader ∙ role_leads (w.member n) lead_n.role)
    ((x.2 m).term ∙ lead_m.in_term ∙ sym ((y.2 n).term ∙ lead_n.in_term))

pub other_quorum : (ms ns : List ℕ) (P Q : ℕ → Type 0) → ms ≡ ns → ((m : ℕ) → P m → Q m) → HasQuorum ms P → HasQuorum ns Q
other_quorum ms ns P Q same each h = subst (λ l. HasQuorum l Q) same (h.0, h.1, λ m c. each m (h.2 m c))

module _ (first : Config) (later early : List Act) (is : IsExecution first (later ++ early)) (me term : ℕ) (named : me ≢ 0)
    (led : Leads (local_after first early) me term) (leads : Leads (local_after first (later ++ early)) me term)
    (quorum : HasQuorum (members ((local_after first (later ++ early)).member me).stored) (λ f. ((local_after first early).member f).stored.term ≤ term)) where
  abbrev then_local : LocalCluster
  then_local = local_after first early

  abbrev mine : Local
  mine = (local_after first (later ++ early)).member me

  two : Both first later early
  two = both first later early is

  abbrev now : whole.Cluster
  now = whole.cluster_after (two.ls ++ two.es)

  abbrev before : whole.Cluster
  before = whole.cluster_after two.es

  now_me : StandsFor first.members (agreed mine) (now.member me)
  now_me = two.now me

  then_me : StandsFor first.members (agreed (then_local.member me)) (before.member me)
  then_me = two.before me

  leads_then : (before.member me).is_leader ≡ true
  leads_then = then_me.leader ∙ role_leads (then_local.member me) led.role

  leads_now : (now.member me).is_leader ≡ true
  leads_now = now_me.leader ∙ role_leads mine leads.role

  configured : members mine.stored ≡ configuration_after first.members (now.member me).log
  configured = members_are mine.stored mine.state ∙ members_is first.members (agreed mine) (now.member me).log now_me.log

  whole_quorum : HasQuorum (configuration_after first.members (now.member me).log) (λ f. (before.member f).term ≤ term)
  whole_quorum = other_quorum (members mine.stored) (configuration_after first.members (now.member me).log) (λ f. (then_local.member f).stored.term ≤ term) (λ f. (before.member f).term ≤ term) configured
      (λ f x. let y = (two.before f).term in omega (arith, x, y)) quorum

  last_leader : IsLastLeader first early me term
  last_leader = record {
    leaders = λ w at m lead.
        let x = two.moments w at in
        let z = leads_low first.members two.ls two.es two.meets me term named leads_then (then_me.term ∙ led.in_term) leads_now (now_me.term ∙ leads.in_term) whole_quorum x.0 x.1 m ((x.2 m).leader ∙ role_leads (w.member m) lead) in
        let t = (x.2 m).term in
        omega (arith, z, t);
    committed = λ w at m.
        let x = two.moments w at in
        let z = all_within first.members two.ls two.es two.meets me term named leads_then (then_me.term ∙ led.in_term) leads_now (now_me.term ∙ leads.in_term) whole_quorum x.0 x.1 m in
        let c = (x.2 m).commit in
        let n = whole_length first.members (agreed (then_local.member me)) (before.member me).log then_me.log in
        omega (arith, z, c, n);
  }

pub leaders_are_last : LeadersAreLast
leaders_are_last first later early is me term named led leads quorum = last_leader first later early is me term named led leads quorum
