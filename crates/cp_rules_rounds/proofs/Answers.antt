-- What a leader answers is fresh.
use Rattle.std.proofs.Common.{◌≡◌, ◌≢◌, ◌||◌, ◌==◌, ℕ, ◌<◌, ◌≤◌, inl, inr, ⊎_elim, not, Bool, true, false, List, [], ◌∷◌, ◌++◌, filter, refl, ap, sym, ◌∙◌, subst, arith, Option, Some, None, Contains, nat_le, if◌then◌else◌, eqb-true}
use Rattle.std.proofs.lemmas.Bool.{and_parts, or_cases, leb-true}
use Rattle.std.proofs.lemmas.List.{append_assoc}
use Rattle.std.proofs.lemmas.List.Elements.{All-contains, filter_passes}
use Rattle.cp_agreement_facts.specs.Configurations.{HasQuorum}
use Rattle.cp_parts.specs.declared.config.Config.{Config}
use Rattle.cp_log_rules.specs.Persistent.{PersistentState}
use Rattle.cp_rules.specs.declared.role.Role.TheVariants.{Leader}
use Rattle.cp_rules.specs.Persistent.{members, is_quorum, after_part}
use Rattle.cp_rules.specs.Volatile.{Look, Reads, VolatileState, no_reads}
use Rattle.cp_rules.specs.Local.{Event, LocalStep, is_leader}
use Rattle.cp_rules.specs.Confirming.{round_of, is_ready}
use Rattle.cp_rules.specs.Steps.{rule, step}
use Rattle.cp_rules_facts.specs.Seen.{step_of}
use Rattle.cp_rules_facts.specs.Executions.{Local, LocalCluster, Act, did, stored_after, local_after, IsExecution}
use Rattle.cp_rules_facts.proofs.Basics.{either, leader_is}
use Rattle.cp_rules_facts.proofs.Knowing.{quorum_is}
use Rattle.cp_rules_rounds.specs.Moments.{IsLocalMoment, Leads}
use Rattle.cp_rules_rounds.specs.Confirming.{TakesLook, LeadsOn}
use Rattle.cp_rules_rounds.specs.Leading.{IsLastLeader}
use Rattle.cp_rules_rounds.specs.Answers.{HasConfirmed, RoundReads, IsFresh, AnswersAreFresh}
use Rattle.cp_rules_rounds.proofs.Steps.{rule_rounds, in_filter}
use Rattle.cp_rules_rounds.proofs.Known.{after_cases}
use Rattle.cp_rules_rounds.proofs.Said.{confirmed, Said, Rests, WasTaken}
use Rattle.cp_rules_rounds.proofs.Fresh.{known}
use Rattle.cp_rules_rounds.proofs.Between.{Found, found, confirms_after, early_is}
use Rattle.cp_rules_rounds.proofs.Leading.{leads_alone, other_quorum, leaders_are_last}

-- ---- a round that a quorum has confirmed

last_moment : (first : Config) (acts : List Act) → IsLocalMoment first acts (local_after first acts)
last_moment first [] = refl
last_moment first (a ∷ acts) = inl refl

-- All that was confirmed to a leader, of its term, is of its round or an earlier one.
confirmed_low : (first : Config) (acts : List Act) → IsExecution first acts → (me term : ℕ) → Leads (local_after first acts) me term
    → (from to round : ℕ) → Contains (local_after first acts).sent (confirmed from to term round) → round ≤ ((local_after first acts).member me).state.reads.round
confirmed_low first acts is me term leads from to round has =
    let w = local_after first acts in
    let k = known first acts is in
    let y = k.said from to term round has in
    let said : Said first acts y.0 term round (w.member y.0) = k.asked y.0 from term round y.1 in
    let one : y.0 ≡ me = leads_alone first acts is said.led.0 w said.led.1 (last_moment first acts) y.0 me term said.led.2 leads in
    let mine : Said first acts me term round (w.member me) = subst (λ (n : ℕ). Said first acts n term round (w.member n)) one said in
    ⊎_elim
    (λ (z : ((w.member me).state.role ≡ Leader) × (round ≤ (w.member me).state.reads.round)). z.1)
    (λ (z : Rests (w.member me).state.role). absurd (z.0 leads.role))
    (mine.stands (sym leads.in_term))

pub round_reads : RoundReads
round_reads first later early is me term round named led below leads quorum =
    let e = local_after first early in
    let w = local_after first (later ++ early) in
    let after = confirms_after first early term (e.member me).state.reads.round (confirmed_low first early (early_is first later early is) me term led) later in
    leaders_are_last first later early is me term named led leads (other_quorum (members (w.member me).stored) (members (w.member me).stored) (HasConfirmed w me term round) (λ f. (e.member f).stored.term ≤ term) refl
    (λ f. ⊎_elim
    (λ (own : f ≡ me). subst (λ (n : ℕ). (e.member n).stored.term ≤ term) (sym own) (let x = led.in_term in omega (arith, x)))
    (λ (z : (r : ℕ) × (round ≤ r) × Contains w.sent (confirmed f me term r)). after.low f me z.0 z.2 (let le = z.1 in omega (arith, below, le))))
    quorum)

-- ---- a step that answers a look

-- It has found the look ready: it waited after the rule, at one that leads.
record Answers (me : ℕ) (p : PersistentState) (v : VolatileState) (event : Event) (look : Look) (s : LocalStep) : Type 0 where
  role : s.state.role ≡ Leader
  waits : Contains (rule me p v event).state.reads.looks look
  ready : is_ready me (members (after_part s.part p)) s.state.reads s.state.commit look ≡ true
  leads : (rule me p v event).state.role ≡ Leader
  part : s.part ≡ (rule me p v event).part

answers : (me : ℕ) (p : PersistentState) (v : VolatileState) (event : Event) (look : Look) → Contains (step me p v event).answered look → Answers me p v event look (step me p v event)
answers me p v event look =
    let s = rule me p v event in
    let ready = is_ready me (members (after_part s.part p)) s.state.reads s.state.commit in
    let kept : Reads = record s.state.reads { looks = filter (λ l. not (ready l)) s.state.reads.looks } in
    let up : LocalStep = record s { answered = filter ready s.state.reads.looks; state = record s.state { reads = kept } } in
    let down : LocalStep = record s { lost = v.reads.looks; state = record s.state { reads = no_reads } } in
    either (λ (z : LocalStep). Contains z.answered look → Answers me p v event look z) (is_leader s.state.role) up down
    (λ l has. record {
      role = leader_is s.state.role l;
      waits = in_filter ready s.state.reads.looks look has;
      ready = All-contains (λ (x : Look). ready x ≡ true) (filter ready s.state.reads.looks) look (filter_passes ready s.state.reads.looks) has;
      leads = leader_is s.state.role l;
      part = refl;
    })
    (λ l has. absurd (let none : s.answered ≡ [] = (rule_rounds (record { me = me; p = p; v = v }) event).0.0 in let z = subst (λ (r : List Look). Contains r look) none has in omega (arith, z.1)))

module _ (first : Config) (a : Act) (before : List Act) (is : IsExecution first (a ∷ before)) (uncut : a.cut ≡ false) (look : Look) (event : Event) (event_is : a.event ≡ Some event) where
  abbrev me : ℕ
  me = a.actor

  abbrev w : LocalCluster
  w = local_after first before

  abbrev p : PersistentState
  p = (w.member me).stored

  abbrev v : VolatileState
  v = (w.member me).state

  abbrev s : LocalStep
  s = step me p v event

  abbrev q : PersistentState
  q = after_part s.part p

  abbrev now : LocalCluster
  now = local_after first (a ∷ before)

  here : now.member me ≡ record { stored = q; state = s.state }
  here = after_cases (λ (z : Local). z ≡ record { stored = q; state = s.state }) w a me (λ x. rw (event_is, uncut) refl) (λ ne. absurd (ne refl))

  module _ (ready : Answers me p v event look s) (on : LeadsOn p v event q (rule me p v event).state) where
    leads : Leads now me q.term
    leads = record { role = ap (λ (l : Local). l.state.role) here ∙ ready.role; in_term = ap (λ (l : Local). l.stored.term) here }

    -- where the look was taken
    there : Found first (a ∷ before) me q.term look
    there = found first (a ∷ before) me q.term look (⊎_elim
        (λ (had : Contains v.reads.looks look). inr (subst (λ (t : ℕ). WasTaken first before me t look) (sym on.in_term) ((known first before is.1).looks me look on.role had)))
        (λ (z : TakesLook p v event look). inl (record {
          actor = refl;
          event_is = event_is ∙ ap (λ (y : Event). Some y) z.event_is;
          leads = record { role = z.role; in_term = sym on.in_term };
          index = z.index;
          round = z.round;
        }))
        (on.looks look ready.waits))

    abbrev early : List Act
    early = there.early

    abbrev later : List Act
    later = there.later ++ (there.read ∷ [])

    same_acts : a ∷ before ≡ later ++ early
    same_acts = there.acts_are ∙ sym (append_assoc there.later (there.read ∷ []) early)

    -- what is counted was sent
    counts : (f : ℕ) → look.round ≤ round_of s.state.reads f → HasConfirmed now me q.term look.round f
    counts f le =
        let same : round_of (now.member me).state.reads f ≡ round_of s.state.reads f = ap (λ (l : Local). round_of l.state.reads f) here in
        ⊎_elim
        (λ (z : round_of (now.member me).state.reads f ≡ 0). absurd (let n = there.taken.round in omega (arith, n, z, same, le)))
        (λ (z : (r : ℕ) × (round_of (now.member me).state.reads f ≤ r) × Contains now.sent (confirmed f me (now.member me).stored.term r)).
        inr (z.0, let under = z.1 in omega (arith, under, same, le), subst (λ (t : ℕ). Contains now.sent (confirmed f me t z.0)) leads.in_term z.2))
        ((known first (a ∷ before) is).counted me f leads.role)

    abbrev test : ℕ → Bool
    test f = (f == me) || nat_le look.round (round_of s.state.reads f)

    parts : (nat_le look.index s.state.commit ≡ true) × (is_quorum (members q) test ≡ true)
    parts = and_parts (nat_le look.index s.state.commit) (is_quorum (members q) test) ready.ready

    quorum : HasQuorum (members (now.member me).stored) (HasConfirmed now me q.term look.round)
    quorum = quorum_is (HasConfirmed now me q.term look.round) (members q) (members (now.member me).stored) test (sym (ap (λ (l : Local). members l.stored) here)) parts.1
        (λ f h. ⊎_elim
        (λ (z : (f == me) ≡ true). inl (eqb-true f me z))
        (λ (z : nat_le look.round (round_of s.state.reads f) ≡ true). counts f (leb-true look.round (round_of s.state.reads f) z))
        (or_cases (f == me) (nat_le look.round (round_of s.state.reads f)) h))

    last_leader : IsLastLeader first early me q.term
    last_leader =
        let rest : (acts : List Act) → a ∷ before ≡ acts → IsExecution first acts × Leads (local_after first acts) me q.term × HasQuorum (members ((local_after first acts).member me).stored) (HasConfirmed (local_after first acts) me q.term look.round)
        = (λ acts e. subst (λ (l : List Act). IsExecution first l × Leads (local_after first l) me q.term × HasQuorum (members ((local_after first l).member me).stored) (HasConfirmed (local_after first l) me q.term look.round)) e (is, leads, quorum)) in
        let x = rest (later ++ early) same_acts in
        let round = there.taken.round in
        round_reads first later early x.0 me q.term look.round is.0.named there.taken.leads (omega (arith, round)) x.1 x.2

    fresh : IsFresh first a before look
    fresh =
        let stored : stored_after w a ≡ q = rw event_is refl in
        let state : (did w a).state ≡ s.state = rw event_is refl in
        record {
          later = there.later;
          read = there.read;
          early = early;
          acts_are = there.acts_are;
          actor = there.taken.actor;
          event_is = there.taken.event_is;
          led = subst (λ (z : PersistentState). Leads (local_after first early) me z.term) (sym stored) there.taken.leads;
          last_leader = subst (λ (z : PersistentState). IsLastLeader first early me z.term) (sym stored) last_leader;
          index = there.taken.index;
          covers = λ u at m. let c = last_leader.committed u at m in let i = there.taken.index in omega (arith, c, i);
          reached = subst (λ (z : VolatileState). look.index ≤ z.commit) (sym state) (leb-true look.index s.state.commit parts.0);
        }

  answers_fresh : Contains s.answered look → IsFresh first a before look
  answers_fresh has =
      let ready = answers me p v event look has in
      let t = (rule_rounds (record { me = me; p = p; v = v }) event).1 in
      ⊎_elim
      (λ (on : LeadsOn p v event (after_part (rule me p v event).part p) (rule me p v event).state). fresh ready (subst (λ x. LeadsOn p v event (after_part x p) (rule me p v event).state) (sym ready.part) on))
      (λ z. absurd (let h = subst (λ (y : Reads). Contains y.looks look) z.1 ready.waits in omega (arith, h.1)))
      (t.leads ready.leads)

pub answers_are_fresh : AnswersAreFresh
answers_are_fresh first a before is uncut look has = by a.event refl has
  where
    by : (o : Option Event) → a.event ≡ o → Contains (step_of a.actor ((local_after first before).member a.actor).stored ((local_after first before).member a.actor).state o).answered look → IsFresh first a before look
    by None event_is h = absurd (omega (arith, h.1))
    by (Some event) event_is h = answers_fresh first a before is uncut look event event_is h
