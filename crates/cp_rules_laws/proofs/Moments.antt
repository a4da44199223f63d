-- Each moment of an execution of local steps is one of the execution that agreement sees, and each act in which a member leads is a step of
-- it in which that member leads. So its laws hold between any two.
use Rattle.std.proofs.Common.{◌≡◌, ℕ, suc, ◌<◌, ◌≤◌, inl, inr, ⊎_elim, Bool, true, false, List, [], ◌∷◌, refl, ap, sym, ◌∙◌, subst, Option, Some, None}
use Rattle.std.proofs.lemmas.Bool.{cases_Bool, cases_eq}
use Rattle.cp_agreement.proofs.Ghost.{put_same, put_other}
use Rattle.cp_parts.specs.declared.config.Config.{Config}
use Rattle.cp_parts.specs.declared.log_entry.LogEntry.{LogEntry}
use Rattle.cp_agreement_facts.specs.Configurations.{configuration_at, HasQuorum, AreAdjacent}
use Rattle.cp_agreement_facts.specs.Clusters.{Member, Cluster, Step, cluster_after, IsMoment}
use Rattle.cp_agreement_facts.specs.Facts.{KnowsTerm, MeetsFacts}
use Rattle.cp_safety.specs.Tracking.{untracked}
use Rattle.cp_safety.specs.Chunks.{ChunkedMember, MembersThrough, LedThrough, chunked_left}
use Rattle.cp_safety.specs.Laws as safety
use Rattle.cp_safety.specs.Laws.{AgreeUpTo, CommitsFrontOf, IsHistory, IsHeldBy}
use Rattle.cp_safety.proofs.Chunks.{led_executions}
use Rattle.cp_safety.proofs.Laws.{one_led, equal_prefixes, later_led, held_at_end}
use Rattle.cp_rules.specs.declared.role.Role.TheVariants.{Follower, Leader}
use Rattle.cp_rules.specs.Local.{Event, is_leader}
use Rattle.cp_log_rules.specs.Persistent.{last}
use Rattle.cp_rules_facts.specs.Seen.{chunked_member, seen_role, came_by, step_of, reader}
use Rattle.cp_rules_facts.specs.Soundness.{IsSound}
use Rattle.cp_rules_facts.specs.Executions.{Local, LocalCluster, Act, did, stored_after, left_by, local_after, IsExecution, seen_act, seen_acts}
use Rattle.cp_rules_facts.proofs.Executions.{local_executions, start_is}
use Rattle.cp_rules_facts.proofs.Laws.{own_turn}
use Rattle.cp_rules_facts.proofs.Steps.{step_good}
use Rattle.cp_rules_laws.specs.Moments.{IsLocalMoment, agreed, LeadsIn, Led, MembersAgree}

-- ---- moments

pub now_moment : (first : Config) (acts : List Act) → IsLocalMoment first acts (local_after first acts)
now_moment first [] = refl
now_moment first (a ∷ before) = inl refl

-- one of the moments is that of all acts, or lies before the last of them
last_moment : (first : List ℕ) (steps : List Step) → IsMoment first steps (cluster_after first steps)
last_moment first [] = refl
last_moment first (s ∷ steps) = inl refl

-- the members at the end
end_same : (first : Config) (acts : List Act) → IsExecution first acts → (steps : List Step) → MembersThrough first.members (seen_acts first acts) steps
    → (m : ℕ) → (cluster_after first.members steps).member m ≡ agreed ((local_after first acts).member m)
end_same first [] is steps through m = rw through refl
end_same first (a ∷ before) is steps through m = through.3 m ∙ ap (λ (l : ChunkedMember). untracked l.tracked) ((local_executions first (a ∷ before) is).same m)

-- the moment of the steps that stands for one of the acts
record Stands (first : List ℕ) (steps : List Step) (v : LocalCluster) : Type 0 where
  seen : Cluster
  moment : IsMoment first steps seen
  same : (m : ℕ) → seen.member m ≡ agreed (v.member m)

stands : (first : Config) (acts : List Act) → IsExecution first acts → (steps : List Step) → MembersThrough first.members (seen_acts first acts) steps
    → (v : LocalCluster) → IsLocalMoment first acts v → Stands first.members steps v
stands first [] is steps through v at = record {
  seen = cluster_after first.members steps;
  moment = last_moment first.members steps;
  same = λ m. end_same first [] is steps through m ∙ ap (λ (w : LocalCluster). agreed (w.member m)) (sym at);
}
stands first (a ∷ before) is steps through v at = ⊎_elim
    (λ (now : v ≡ local_after first (a ∷ before)). record {
      seen = cluster_after first.members steps;
      moment = last_moment first.members steps;
      same = λ m. end_same first (a ∷ before) is steps through m ∙ ap (λ (w : LocalCluster). agreed (w.member m)) (sym now);
    })
    (λ (old : IsLocalMoment first before v).
    let x = stands first before is.1 through.1 through.4 v old in
    record { seen = x.seen; moment = subst (λ (l : List Step). IsMoment first.members l x.seen) (sym through.2) (inr x.moment); same = x.same })
    at

-- ---- leaders

-- what agreement sees the actor leave
left_is : (w : LocalCluster) (a : Act) → chunked_member (left_by w a).stored (left_by w a).state ≡ chunked_left (seen_act w a)
left_is w a = ⊎_elim
    (λ (e : a.cut ≡ true). rw e (start_is (stored_after w a) (did w a).state a.clock))
    (λ (e : a.cut ≡ false). rw e refl)
    (cases_Bool a.cut)

-- the step that stands for an act in which a member led
led_is : (first : Config) (acts : List Act) (steps : List Step) → LedThrough (seen_acts first acts) steps → (m : ℕ) (l : Local) → Led first acts m l → safety.Led steps m (agreed l)
led_is first [] steps through m l led = absurd led
led_is first (a ∷ before) steps (p, ps, is, actor, leads, left, rest) m l (inl led) =
    let same : p.after ≡ agreed l = left ∙ ap (λ (x : ChunkedMember). untracked x.tracked) (sym (left_is (local_after first before) a)) ∙ ap agreed led.2 in
    subst (λ k. safety.Led k m (agreed l)) (sym is) (inl (actor ∙ led.0, leads ∙ led.1, same))
led_is first (a ∷ before) steps (p, ps, is, actor, leads, left, rest) m l (inr led) =
    subst (λ k. safety.Led k m (agreed l)) (sym is) (inr (led_is first before ps rest m l led))

module _ (first : Config) (a : Act) (before : List Act) (is : IsExecution first (a ∷ before)) where
  abbrev w : LocalCluster
  w = local_after first before

  abbrev l : Local
  l = w.member a.actor

  sound : IsSound a.actor l.stored l.state
  sound = (local_executions first before is.1).sound a.actor is.0.named

  of_event : (event : Option Event) → a.event ≡ event → (step_of a.actor l.stored l.state event).state.role ≡ Leader → (step_of a.actor l.stored l.state event).leads ≡ true
  of_event None event_is lead = ap is_leader lead
  of_event (Some e) event_is lead = (step_good (own_turn a.actor l.stored l.state (came_by a.actor (Some e)) sound) e refl (is.0.fair e event_is)).facts.leads (ap seen_role lead)

  of_cut : (cut : Bool) → (left_by w (record a { cut = cut })).state.role ≡ Leader → (did w a).leads ≡ true
  of_cut true lead = absurd (let z : Follower ≡ Leader = lead in cc)
  of_cut false lead = of_event a.event refl lead

  -- who is left as Leader led in the act
  led_now : (m : ℕ) → m ≡ a.actor → ((local_after first (a ∷ before)).member m).state.role ≡ Leader → LeadsIn w a m ((local_after first (a ∷ before)).member m)
  led_now m e lead =
      let same = put_same w.member a.actor (left_by w a) m e in
      (sym e, of_cut a.cut (subst (λ (k : Local). k.state.role ≡ Leader) same lead), sym same)

  other_same : (m : ℕ) → (m ≡ a.actor → ⊥) → (local_after first (a ∷ before)).member m ≡ w.member m
  other_same m ne = put_other w.member a.actor (left_by w a) m ne

leader_now : (first : Config) (acts : List Act) → IsExecution first acts → (m : ℕ) → ((local_after first acts).member m).state.role ≡ Leader → Led first acts m ((local_after first acts).member m)
leader_now first [] is m lead = absurd (let z : Follower ≡ Leader = lead in cc)
leader_now first (a ∷ before) is m lead = ⊎_elim
    (λ (e : m ≡ a.actor). inl (led_now first a before is m e lead))
    (λ (ne : m ≡ a.actor → ⊥).
    let same = other_same first a before is m ne in
    subst (λ (k : Local). Led first (a ∷ before) m k) (sym same) (inr (leader_now first before is.1 m (subst (λ (k : Local). k.state.role ≡ Leader) same lead))))
    (cases_eq m a.actor)

leaders_led : (first : Config) (acts : List Act) → IsExecution first acts → (v : LocalCluster) → IsLocalMoment first acts v → (m : ℕ) → (v.member m).state.role ≡ Leader → Led first acts m (v.member m)
leaders_led first [] is v at m lead = absurd (let z : Follower ≡ Leader = subst (λ (w : LocalCluster). (w.member m).state.role ≡ Leader) at lead in cc)
leaders_led first (a ∷ before) is v at m lead = ⊎_elim
    (λ (now : v ≡ local_after first (a ∷ before)).
    subst (λ (x : LocalCluster). Led first (a ∷ before) m (x.member m)) (sym now) (leader_now first (a ∷ before) is m (subst (λ (x : LocalCluster). (x.member m).state.role ≡ Leader) now lead)))
    (λ (old : IsLocalMoment first before v). inr (leaders_led first before is.1 v old m lead))
    at

-- ---- the laws

pub some_quorum : (ms : List ℕ) (P Q : ℕ → Type 0) → ((m : ℕ) → P m → Q m) → HasQuorum ms P → HasQuorum ms Q
some_quorum ms P Q each h = (h.0, h.1, λ m c. each m (h.2 m c))

module _ (first : Config) (acts : List Act) (is : IsExecution first acts) (steps : List Step) (meets : MeetsFacts first.members steps) (through : MembersThrough first.members (seen_acts first acts) steps) where
  at : (v : LocalCluster) → IsLocalMoment first acts v → Stands first.members steps v
  at v now = stands first acts is steps through v now

  equal : (v w : LocalCluster) → IsLocalMoment first acts v → IsLocalMoment first acts w → (m n i t : ℕ)
      → KnowsTerm (agreed (v.member m)) i t → KnowsTerm (agreed (w.member n)) i t → AgreeUpTo i (agreed (v.member m)) (agreed (w.member n))
  equal v w a b m n i t know_m know_n =
      let x = at v a in
      let y = at w b in
      let both = equal_prefixes first.members steps meets x.seen y.seen x.moment y.moment m n i t
      (subst (λ (z : Member). KnowsTerm z i t) (sym (x.same m)) know_m) (subst (λ (z : Member). KnowsTerm z i t) (sym (y.same n)) know_n) in
      subst (λ (z : Member). AgreeUpTo i z (agreed (w.member n))) (x.same m) (subst (AgreeUpTo i (x.seen.member m)) (y.same n) both)

  later : (v : LocalCluster) → IsLocalMoment first acts v → (m n : ℕ) (l : Local) → safety.Led steps n (agreed l) → (v.member m).stored.term < l.stored.term
      → AgreeUpTo (v.member m).state.commit (agreed (v.member m)) (agreed l) × ((v.member m).state.commit ≤ last l.stored)
  later v a m n l led less =
      let x = at v a in
      subst (λ (z : Member). AgreeUpTo z.commit z (agreed l) × (z.commit ≤ last l.stored)) (x.same m)
      (later_led first.members steps meets x.seen x.moment m n (agreed l) led (subst (λ (z : Member). z.term < l.stored.term) (sym (x.same m)) less))

  module _ (history : List LogEntry) (whole : IsHistory first.members steps history) where
    front : (v : LocalCluster) → IsLocalMoment first acts v → (m : ℕ) → CommitsFrontOf first.members history (agreed (v.member m))
    front v a m = subst (CommitsFrontOf first.members history) ((at v a).same m) (whole (at v a).seen (at v a).moment m)

    held : ((v : Cluster) → IsMoment first.members steps v → (m place : ℕ) → place < (v.member m).commit
        → (members : List ℕ) × AreAdjacent (configuration_at first.members history (suc place)) members × HasQuorum members (λ n. IsHeldBy history place ((cluster_after first.members steps).member n)))
        → (v : LocalCluster) → IsLocalMoment first acts v → (m place : ℕ) → place < (v.member m).state.commit
        → (members : List ℕ) × AreAdjacent (configuration_at first.members history (suc place)) members × HasQuorum members (λ n. IsHeldBy history place (agreed ((local_after first acts).member n)))
    held h v a m place less =
        let x = at v a in
        let y = h x.seen x.moment m place (subst (λ (z : Member). place < z.commit) (sym (x.same m)) less) in (
          y.0,
          y.1,
          some_quorum y.0 (λ n. IsHeldBy history place ((cluster_after first.members steps).member n)) (λ n. IsHeldBy history place (agreed ((local_after first acts).member n)))
              (λ n z. subst (IsHeldBy history place) (end_same first acts is steps through n) z) y.2,
        )

-- a history of the execution, which may have more than was committed
pub record Behind (first : Config) (acts : List Act) : Type 0 where
  pub history : List LogEntry
  pub committed : (v : LocalCluster) → IsLocalMoment first acts v → (m : ℕ) → CommitsFrontOf first.members history (agreed (v.member m))
  pub held : (v : LocalCluster) → IsLocalMoment first acts v → (m place : ℕ) → place < (v.member m).state.commit
      → (members : List ℕ) × AreAdjacent (configuration_at first.members history (suc place)) members
      × HasQuorum members (λ n. IsHeldBy history place (agreed ((local_after first acts).member n)))

pub behind : (first : Config) (acts : List Act) → IsExecution first acts → Behind first acts
behind first acts is =
    let (steps, meets, through, leaders) = led_executions reader first.members (seen_acts first acts) (local_executions first acts is).meets in
    let h = held_at_end first.members steps meets in
    record { history = h.0; committed = front first acts is steps meets through h.0 h.1; held = held first acts is steps meets through h.0 h.1 h.2 }

pub members_agree : MembersAgree
members_agree first acts is =
    let (steps, meets, through, leaders) = led_executions reader first.members (seen_acts first acts) (local_executions first acts is).meets in
    record {
      one_leader = λ m n l k led_m led_n same. one_led first.members steps meets m n (agreed l) (agreed k) (led_is first acts steps leaders m l led_m) (led_is first acts steps leaders n k led_n) same;
      leaders_led = leaders_led first acts is;
      equal_prefixes = equal first acts is steps meets through;
      later_leaders = λ v a m n l led less. later first acts is steps meets through v a m n l (led_is first acts steps leaders n l led) less;
    }
