-- It is known at each moment, by induction on the acts.
use Rattle.std.proofs.Common.{◌≡◌, ◌≢◌, ℕ, ◌<◌, ◌≤◌, ◌⊎◌, inl, inr, ⊎_elim, true, List, [], ◌∷◌, map, refl, ap, sym, ◌∙◌, subst, arith, Some, Contains, if◌then◌else◌}
use Rattle.std.proofs.lemmas.List.Elements.{Contains-append_left}
use Rattle.cp_parts.specs.declared.config.Config.{Config}
use Rattle.cp_log_rules.specs.Persistent.{PersistentState}
use Rattle.cp_rules.specs.declared.role.Role.{Role}
use Rattle.cp_rules.specs.declared.role.Role.TheVariants.{Follower, PreCandidate, Candidate, Leader}
use Rattle.cp_rules.specs.Volatile.{Look, Reads, VolatileState, no_reads}
use Rattle.cp_rules.specs.Local.{Confirm, Confirmed, Event, Got, Read}
use Rattle.cp_rules.specs.Confirming.{round_of}
use Rattle.cp_rules_facts.specs.Executions.{Local, Mail, LocalCluster, Act, mail, did, left_by, after_act, local_after, IsExecution}
use Rattle.cp_rules_facts.proofs.Basics.{same_everywhere, leader_or_candidate}
use Rattle.cp_rules_rounds.specs.Confirming.{TakesLook, LeadsOn, ComesTo, RoundsConfirmed}
use Rattle.cp_rules_rounds.proofs.Quiet.{low_leader}
use Rattle.cp_rules_rounds.proofs.Known.{Acted, idle, sent_by, acted, came, sent_cases, after_cases}
use Rattle.cp_rules_rounds.proofs.Said.{confirm, confirmed, Rests, Said, WasTaken, Counted, Looking, Known}

roles : (r : Role) → (r ≡ Leader) ⊎ ((r ≡ Candidate) ⊎ Rests r)
roles Follower = inr (inr (λ e. cc, λ e. cc))
roles PreCandidate = inr (inr (λ e. cc, λ e. cc))
roles Candidate = inr (inl refl)
roles Leader = inl refl

module _ (first : Config) (a : Act) (before : List Act) (is : IsExecution first (a ∷ before)) (old : Known first before) where
  abbrev w : LocalCluster
  w = local_after first before

  abbrev p : PersistentState
  p = (w.member a.actor).stored

  abbrev v : VolatileState
  v = (w.member a.actor).state

  abbrev q : PersistentState
  q = (left_by w a).stored

  abbrev x : VolatileState
  x = (left_by w a).state

  did_act : Acted w a
  did_act = acted w a

  r : RoundsConfirmed p v did_act.event q x (sent_by w a)
  r = did_act.rounds

  grown : (m : Mail) → Contains w.sent m → Contains (after_act w a).sent m
  grown m has = Contains-append_left w.sent (if a.cut then [] else map (mail a.actor) (did w a).sends) m has

  -- in the term of the member nobody comes to lead that didn't stand or lead
  no_way : p.term ≡ q.term → v.role ≢ Candidate → ComesTo p v q → ⊥
  no_way same ne c = ⊎_elim (λ z. ne z.0) (λ (z : p.term < q.term). omega (arith, z, same)) c

  still_said : (term round : ℕ) → Said first before a.actor term round (w.member a.actor) → Said first (a ∷ before) a.actor term round (left_by w a)
  still_said term round s = record {
    reached = let up = r.term in let low = s.reached in omega (arith, up, low);
    led = (s.led.0, inr s.led.1, s.led.2);
    stands = λ e.
        let up = r.term in let low = s.reached in
        let met : term ≡ p.term = omega (arith, up, low, e) in
        let same : p.term ≡ q.term = sym met ∙ e in
        ⊎_elim
        (λ (led : (v.role ≡ Leader) × (round ≤ v.reads.round)). let ne : v.role ≢ Candidate = leader_or_candidate v.role led.0 in ⊎_elim
        (λ (now : x.role ≡ Leader). ⊎_elim
        (λ (on : LeadsOn p v did_act.event q x). let higher = on.round in let had = led.1 in inl (now, omega (arith, higher, had)))
        (λ z. absurd (no_way same ne z.0))
        (r.leads now))
        (λ z. ⊎_elim (λ (c : x.role ≡ Candidate). absurd (no_way same ne (r.stands c))) (λ k. inr k) z)
        (roles x.role))
        (λ (rest : Rests v.role). ⊎_elim
        (λ (now : x.role ≡ Leader). absurd (⊎_elim (λ (on : LeadsOn p v did_act.event q x). rest.0 on.role) (λ z. no_way same rest.1 z.0) (r.leads now)))
        (λ z. ⊎_elim (λ (c : x.role ≡ Candidate). absurd (no_way same rest.1 (r.stands c))) (λ k. inr k) z)
        (roles x.role))
        (s.stands met);
  }

  moved_said : (from term round : ℕ) (y : Local) → Said first before from term round y → Said first (a ∷ before) from term round y
  moved_said from term round y s = record { reached = s.reached; led = (s.led.0, inr s.led.1, s.led.2); stands = s.stands }

  asked_next : (from to term round : ℕ) → Contains (after_act w a).sent (confirm from to term round) → Said first (a ∷ before) from term round ((after_act w a).member from)
  asked_next from to term round has = ⊎_elim
      (λ (had : Contains w.sent (confirm from to term round)).
      let s = old.asked from to term round had in
      after_cases (λ y. Said first (a ∷ before) from term round y) w a from
      (λ e. subst (λ (m : ℕ). Said first (a ∷ before) m term round (left_by w a)) (sym e) (still_said term round (subst (λ (m : ℕ). Said first before m term round (w.member m)) e s)))
      (λ ne. moved_said from term round (w.member from) s))
      (λ (new : (from ≡ a.actor) × Contains (sent_by w a) (record { to = to; body = Confirm term round })).
      let y = r.says (record { to = to; body = Confirm term round }) new.1 in
      let here : (after_act w a).member a.actor ≡ left_by w a = after_cases (λ z. z ≡ left_by w a) w a a.actor (λ e. refl) (λ ne. absurd (ne refl)) in
      subst (λ (m : ℕ). Said first (a ∷ before) m term round ((after_act w a).member m)) (sym new.0) (subst (λ (z : Local). Said first (a ∷ before) a.actor term round z) (sym here) (record {
        reached = let z = y.1 in omega (arith, z);
        led = (after_act w a, inl refl, record { role = ap (λ (z : Local). z.state.role) here ∙ y.0; in_term = ap (λ (z : Local). z.stored.term) here ∙ sym y.1 });
        stands = λ e. inl (y.0, let z = y.2 in omega (arith, z));
      })))
      (sent_cases w a (confirm from to term round) has)

  said_next : (from to term round : ℕ) → Contains (after_act w a).sent (confirmed from to term round) → (l : ℕ) × Contains (after_act w a).sent (confirm l from term round)
  said_next from to term round has = ⊎_elim
      (λ (had : Contains w.sent (confirmed from to term round)). let y = old.said from to term round had in (y.0, grown (confirm y.0 from term round) y.1))
      (λ (new : (from ≡ a.actor) × Contains (sent_by w a) (record { to = to; body = Confirmed term true round })).
      let y = r.says (record { to = to; body = Confirmed term true round }) new.1 in
      let l = y.2.0 in
      (l, grown (confirm l from term round) (subst (λ (m : ℕ). Contains w.sent (confirm l m term round)) (sym new.0) (came w a did_act is.0 l (Confirm term round) y.2.1))))
      (sent_cases w a (confirmed from to term round) has)

  none_confirmed : (f : ℕ) → round_of no_reads f ≡ 0
  none_confirmed f = same_everywhere (λ (z : ℕ). z ≡ 0) 0 0 refl refl f

  counted_next : (l f : ℕ) → Counted (after_act w a) l f ((after_act w a).member l)
  counted_next l f = after_cases (Counted (after_act w a) l f) w a l
      (λ e lead. subst (λ (m : ℕ). (round_of x.reads f ≡ 0) ⊎ ((n : ℕ) × (round_of x.reads f ≤ n) × Contains (after_act w a).sent (confirmed f m q.term n))) (sym e) (⊎_elim
      (λ (on : LeadsOn p v did_act.event q x). ⊎_elim
      (λ (le : round_of x.reads f ≤ round_of v.reads f). ⊎_elim
      (λ (z : round_of v.reads f ≡ 0). inl (omega (arith, le, z)))
      (λ (z : (n : ℕ) × (round_of v.reads f ≤ n) × Contains w.sent (confirmed f a.actor p.term n)). let under = z.1 in
      inr (z.0, omega (arith, le, under), grown (confirmed f a.actor q.term z.0) (subst (λ (t : ℕ). Contains w.sent (confirmed f a.actor t z.0)) (sym on.in_term) z.2)))
      (old.counted a.actor f on.role))
      (λ (z : (n : ℕ) × (round_of x.reads f ≤ n) × (did_act.event ≡ Got f (Confirmed q.term true n))).
      inr (z.0, z.1, grown (confirmed f a.actor q.term z.0) (came w a did_act is.0 f (Confirmed q.term true z.0) z.2)))
      (on.confirmed f))
      (λ (z : ComesTo p v q × (x.reads ≡ no_reads)). inl (ap (λ (y : Reads). round_of y f) z.1 ∙ none_confirmed f))
      (r.leads lead)))
      (λ ne lead. ⊎_elim inl
      (λ (z : (n : ℕ) × (round_of (w.member l).state.reads f ≤ n) × Contains w.sent (confirmed f l (w.member l).stored.term n)). inr (z.0, z.1, grown (confirmed f l (w.member l).stored.term z.0) z.2))
      (old.counted l f lead))

  looks_next : (l : ℕ) (look : Look) → Looking first (a ∷ before) l look ((after_act w a).member l)
  looks_next l look = after_cases (Looking first (a ∷ before) l look) w a l
      (λ e lead has. subst (λ (m : ℕ). WasTaken first (a ∷ before) m q.term look) (sym e) (⊎_elim
      (λ (on : LeadsOn p v did_act.event q x). ⊎_elim
      (λ (had : Contains v.reads.looks look). inr (subst (λ (t : ℕ). WasTaken first before a.actor t look) (sym on.in_term) (old.looks a.actor look on.role had)))
      (λ (z : TakesLook p v did_act.event look). inl (record {
        actor = refl;
        event_is = ⊎_elim
            (λ (e : a.event ≡ Some did_act.event). e ∙ ap (λ (y : Event). Some y) z.event_is)
            (λ (e : did_act.event ≡ idle). absurd (let y : idle ≡ Read look.call look.attempt look.op = sym e ∙ z.event_is in cc))
            did_act.was;
        leads = record { role = z.role; in_term = sym on.in_term };
        index = z.index;
        round = z.round;
      }))
      (on.looks look has))
      (λ (z : ComesTo p v q × (x.reads ≡ no_reads)). absurd (let h = subst (λ (y : Reads). Contains y.looks look) z.1 has in omega (arith, h.1)))
      (r.leads lead)))
      (λ ne lead has. inr (old.looks l look lead has))

  next : Known first (a ∷ before)
  next = record { asked = asked_next; said = said_next; counted = counted_next; looks = looks_next }

pub known : (first : Config) (acts : List Act) → IsExecution first acts → Known first acts
known first [] is = record {
  asked = λ from to term round has. absurd (let z = has.1 in omega (arith, z));
  said = λ from to term round has. absurd (let z = has.1 in omega (arith, z));
  counted = λ l f lead. absurd (low_leader lead);
  looks = λ l look lead has. absurd (low_leader lead);
}
known first (a ∷ before) is = next first a before is (known first before is.1)
