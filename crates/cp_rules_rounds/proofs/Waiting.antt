-- Where a read goes in a step.
use Rattle.std.proofs.Common.{◌≡◌, ◌≢◌, ℕ, zero, suc, ◌⊎◌, inl, inr, ⊎_elim, not, Bool, true, false, List, [], ◌∷◌, length, filter, refl, ap, sym, ◌∙◌, subst, arith, Contains, nat_le, if◌then◌else◌, true≢false, None}
use Rattle.std.proofs.lemmas.Bool.{cases_Bool, not-false}
use Rattle.std.proofs.lemmas.List.Elements.{All-contains, filter_passes, Contains-push}
use Rattle.cp_base.specs.declared.identifier.Invocation.{Invocation}
use Rattle.cp_answers.specs.declared.refusal.Refusal.TheVariants.{NotLeader, Overloaded}
use Rattle.cp_log_rules.specs.Persistent.{PersistentState}
use Rattle.cp_rules.specs.declared.outcome.Outcome.TheVariants.{Refused}
use Rattle.cp_rules.specs.declared.role.Role.{Role}
use Rattle.cp_rules.specs.declared.role.Role.TheVariants.{Follower, PreCandidate, Candidate, Leader}
use Rattle.cp_rules.specs.Limits.{most_looks}
use Rattle.cp_rules.specs.Persistent.{members, after_part}
use Rattle.cp_rules.specs.Volatile.{Look, Reads, VolatileState, no_reads}
use Rattle.cp_rules.specs.Local.{Event, Read, LocalStep, does, is_leader}
use Rattle.cp_rules.specs.Confirming.{waits, begins_round, on_read, is_ready}
use Rattle.cp_rules.specs.Steps.{rule}
use Rattle.cp_rules_facts.proofs.Basics.{either, leader_is}
use Rattle.cp_rules_rounds.specs.Waiting.{IsRefused, IsKept, KeepsReads, StepsKeepReads, look_of}
use Rattle.cp_rules_rounds.proofs.Quiet.{At}
use Rattle.cp_rules_rounds.proofs.Steps.{rule_rounds}

-- ---- lists

behind : {X : Type 0} (y x : X) (xs : List X) → Contains xs x → Contains (y ∷ xs) x
behind y x xs h = (suc h.0, omega (arith, h.1), h.2)

-- what passes stays
stays : {X : Type 0} (test : X → Bool) (xs : List X) (x : X) → Contains xs x → test x ≡ true → Contains (filter test xs) x
stays test [] x h e = absurd (omega (arith, h.1))
stays test (y ∷ xs) x (zero, h, same) e = subst (λ z. Contains (filter test (z ∷ xs)) x) (sym same) (rw e (zero, omega arith, refl))
stays test (y ∷ xs) x (suc k, h, same) e =
    let rest = stays test xs x (k, omega (arith, h), same) e in
    ⊎_elim
    (λ (z : test y ≡ true). rw z (behind y x (filter test xs) rest))
    (λ (z : test y ≡ false). rw z rest)
    (cases_Bool (test y))

leads_or_not : (r : Role) → (r ≡ Leader) ⊎ (r ≢ Leader)
leads_or_not Follower = inr (λ e. cc)
leads_or_not PreCandidate = inr (λ e. cc)
leads_or_not Candidate = inr (λ e. cc)
leads_or_not Leader = inl refl

-- a read that comes
Taken : Look → LocalStep → Type 0
Taken look s = IsRefused s ⊎ ((s.state.role ≡ Leader) × Contains s.state.reads.looks look)

read_taken : (me : ℕ) (p : PersistentState) (v : VolatileState) (call : Invocation) (attempt : ℕ) (op : List ℕ) → Taken (look_of p v call attempt op) (on_read me p v call attempt op)
unfolding Taken
read_taken me p v call attempt op =
    let reads = waits p v.reads call attempt op in
    let look = look_of p v call attempt op in
    let away = record (does None v []) { outcome = Refused (NotLeader v.leader) } in
    let busy = record (does None v []) { outcome = Refused (Overloaded most_looks) } in
    either (Taken look) (not (is_leader v.role)) away (if nat_le most_looks (length v.reads.looks) then busy else begins_round me p v reads)
    (λ l. inl (NotLeader v.leader, refl))
    (λ l. either (Taken look) (nat_le most_looks (length v.reads.looks)) busy (begins_round me p v reads)
    (λ z. inl (Overloaded most_looks, refl))
    (λ z. inr (leader_is v.role (not-false (is_leader v.role) l), Contains-push v.reads.looks look)))

pub steps_keep_reads : StepsKeepReads
unfolding Taken
steps_keep_reads me p v event empty =
    let h : At = record { me = me; p = p; v = v } in
    let s = rule me p v event in
    let g = rule_rounds h event in
    let t = g.1 in
    let ready = is_ready me (members (after_part s.part p)) s.state.reads s.state.commit in
    let left : Look → Bool = λ look. not (ready look) in
    let kept_reads : Reads = record s.state.reads { looks = filter left s.state.reads.looks } in
    let on : VolatileState = record s.state { reads = kept_reads } in
    let off : VolatileState = record s.state { reads = no_reads } in
    let up : LocalStep = record s { answered = filter ready s.state.reads.looks; state = on } in
    let down : LocalStep = record s { lost = v.reads.looks; state = off } in
    let came : (call : Invocation) (attempt : ℕ) (op : List ℕ) → event ≡ Read call attempt op → Taken (look_of p v call attempt op) s =
    (λ call attempt op e. subst (λ (x : Event). Taken (look_of p v call attempt op) (rule me p v x)) (sym e) (read_taken me p v call attempt op)) in
    let parted : (look : Look) → Contains s.state.reads.looks look → IsKept up look =
    (λ look has. ⊎_elim
    (λ (z : ready look ≡ true). inr (inl (stays ready s.state.reads.looks look has z)))
    (λ (z : ready look ≡ false). inl (stays left s.state.reads.looks look has (ap not z)))
    (cases_Bool (ready look))) in
    either (KeepsReads p v event) (is_leader s.state.role) up down
    (λ l. let lead = leader_is s.state.role l in record {
      none = λ ne. absurd (ne lead);
      old = λ look has. ⊎_elim
          (λ (z : v.role ≡ Leader). parted look (t.keeps lead z look has))
          (λ (z : v.role ≢ Leader). absurd (let y = subst (λ (r : Reads). Contains r.looks look) (empty z) has in omega (arith, y.1)))
          (leads_or_not v.role);
      new = λ call attempt op e. ⊎_elim inl (λ z. inr (parted (look_of p v call attempt op) z.1)) (came call attempt op e);
      answered = λ look a b.
          let x = All-contains (λ (y : Look). ready y ≡ true) (filter ready s.state.reads.looks) look (filter_passes ready s.state.reads.looks) a in
          let y = All-contains (λ (y : Look). left y ≡ true) (filter left s.state.reads.looks) look (filter_passes left s.state.reads.looks) b in
          true≢false (sym y ∙ ap not x);
      lost = λ look has. absurd (let y = subst (λ (r : List Look). Contains r look) g.0.1 has in omega (arith, y.1));
    })
    (λ l. record {
      none = λ ne. refl;
      old = λ look has. inr (inr has);
      new = λ call attempt op e. ⊎_elim inl (λ z. absurd (true≢false (sym (ap is_leader z.0) ∙ l))) (came call attempt op e);
      answered = λ look a b. omega (arith, b.1);
      lost = λ look has. (refl, g.0.0);
    })
