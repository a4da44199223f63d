-- By induction on the acts: what was ever said of rounds, what a leader has counted, and where its looks were taken.
use Rattle.std.proofs.Common.{◌≡◌, ◌≢◌, ℕ, ◌≤◌, ◌⊎◌, inl, inr, ⊎_elim, Bool, true, false, List, [], map, refl, ap, sym, ◌∙◌, subst, arith, Option, Some, None, Contains, if◌then◌else◌, le_refl}
use Rattle.std.proofs.lemmas.Bool.{cases_eq}
use Rattle.std.proofs.lemmas.List.Elements.{Contains-append_cases}
use Rattle.cp_agreement.proofs.Ghost.{put_same, put_other}
use Rattle.cp_safety.proofs.Lists.{contains_unmap}
use Rattle.cp_log_rules.specs.Persistent.{PersistentState}
use Rattle.cp_rules.specs.Persistent.{after_part}
use Rattle.cp_rules.specs.Volatile.{VolatileState, started}
use Rattle.cp_rules.specs.Local.{Body, Sent, Event, Tick, Got}
use Rattle.cp_rules.specs.Confirming.{round_of}
use Rattle.cp_rules.specs.Steps.{step}
use Rattle.cp_rules_facts.specs.Executions.{Local, Mail, LocalCluster, Act, mail, did, left_by, after_act, IsAllowed}
use Rattle.cp_rules_rounds.specs.Confirming.{RoundsConfirmed}
use Rattle.cp_rules_rounds.proofs.Quiet.{low_leader, low_candidate}
use Rattle.cp_rules_rounds.proofs.Steps.{steps_confirm_rounds}

-- ---- one act

abbrev pub idle : Event
idle = Tick 0 false None None

abbrev pub sent_by : LocalCluster → Act → List Sent
sent_by w a = if a.cut then [] else (did w a).sends

-- an act as a step with its event, or with one that brings nothing
pub record Acted (w : LocalCluster) (a : Act) : Type 0 where
  pub event : Event
  pub was : (a.event ≡ Some event) ⊎ (event ≡ idle)
  pub rounds : RoundsConfirmed (w.member a.actor).stored (w.member a.actor).state event (left_by w a).stored (left_by w a).state (sent_by w a)

-- nothing is sent, and no one leads or stands that didn't
rests : (p : PersistentState) (v : VolatileState) (event : Event) → RoundsConfirmed p v event p v []
rests p v event = record {
  term = le_refl p.term;
  says = λ x has. absurd (let z = has.1 in omega (arith, z));
  leads = λ l. inl (record { role = l; in_term = refl; round = le_refl v.reads.round; by_one = omega arith; confirmed = λ f. inl (le_refl (round_of v.reads f)); looks = λ look has. inl has });
  stands = λ c. inl (c, refl);
}

crashed : (p : PersistentState) (v : VolatileState) (event : Event) (q : PersistentState) (clock : ℕ) → p.term ≤ q.term → RoundsConfirmed p v event q (started q.base clock) []
crashed p v event q clock up = record {
  term = up;
  says = λ x has. absurd (let z = has.1 in omega (arith, z));
  leads = λ l. absurd (low_leader l);
  stands = λ c. absurd (low_candidate c);
}

pub acted : (w : LocalCluster) (a : Act) → Acted w a
acted w a = by a.event refl a.cut refl
  where
    by : (o : Option Event) → a.event ≡ o → (c : Bool) → a.cut ≡ c → Acted w a
    by None is true cut = let p = (w.member a.actor).stored in let v = (w.member a.actor).state in record {
      event = idle;
      was = inr refl;
      rounds = rw (is, cut) (crashed p v idle p a.clock (le_refl p.term));
    }
    by None is false cut = let p = (w.member a.actor).stored in let v = (w.member a.actor).state in record {
      event = idle;
      was = inr refl;
      rounds = rw (is, cut) (rests p v idle);
    }
    by (Some e) is true cut =
        let p = (w.member a.actor).stored in let v = (w.member a.actor).state in
        let s = step a.actor p v e in record {
          event = e;
          was = inl is;
          rounds = rw (is, cut) (crashed p v e (after_part s.part p) a.clock (steps_confirm_rounds a.actor p v e).term);
        }
    by (Some e) is false cut =
        let p = (w.member a.actor).stored in let v = (w.member a.actor).state in record {
          event = e;
          was = inl is;
          rounds = rw (is, cut) (steps_confirm_rounds a.actor p v e);
        }

pub came : (w : LocalCluster) (a : Act) (x : Acted w a) → IsAllowed w a → (from : ℕ) (body : Body) → x.event ≡ Got from body → Contains w.sent (record { from = from; to = a.actor; body = body })
came w a x is from body e = ⊎_elim
    (λ (z : a.event ≡ Some x.event). is.delivered from body (z ∙ ap (λ (y : Event). Some y) e))
    (λ (z : x.event ≡ idle). absurd (let y : idle ≡ Got from body = sym z ∙ e in cc))
    x.was

-- what is sent after an act was sent before, or is sent by it
pub sent_cases : (w : LocalCluster) (a : Act) (x : Mail) → Contains (after_act w a).sent x → Contains w.sent x ⊎ ((x.from ≡ a.actor) × Contains (sent_by w a) (record { to = x.to; body = x.body }))
sent_cases w a x has = ⊎_elim inl (λ z. mailed a.cut refl z) (Contains-append_cases w.sent (if a.cut then [] else map (mail a.actor) (did w a).sends) x has)
  where
    mailed : (c : Bool) → a.cut ≡ c → Contains (if a.cut then [] else map (mail a.actor) (did w a).sends) x → Contains w.sent x ⊎ ((x.from ≡ a.actor) × Contains (sent_by w a) (record { to = x.to; body = x.body }))
    mailed true is h = absurd (none (rw is at h))
      where
        none : Contains {X = Mail} [] x → ⊥
        none h = omega (arith, h.1)
    mailed false is h =
        let y = contains_unmap (mail a.actor) (did w a).sends x (rw is at h) in
        let s : Sent = y.0 in
        inr (sym (ap (λ (z : Mail). z.from) y.2), rw is (subst (λ (z : Mail). Contains (did w a).sends (record { to = z.to; body = z.body })) y.2 y.1))

-- a member after an act
pub after_cases : (P : Local → Type 0) (w : LocalCluster) (a : Act) (m : ℕ) → ((m ≡ a.actor) → P (left_by w a)) → (m ≢ a.actor → P (w.member m)) → P ((after_act w a).member m)
after_cases P w a m own other = ⊎_elim
    (λ (e : m ≡ a.actor). subst P (sym (put_same w.member a.actor (left_by w a) m e)) (own e))
    (λ (ne : m ≢ a.actor). subst P (sym (put_other w.member a.actor (left_by w a) m ne)) (other ne))
    (cases_eq m a.actor)
