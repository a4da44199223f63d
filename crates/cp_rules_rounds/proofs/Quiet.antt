-- What is shown of each rule: what it does to rounds and reads.
use Rattle.std.proofs.Common.{◌==◌, ◌≡◌, ◌≢◌, ℕ, suc, ◌<◌, ◌≤◌, ◌⊎◌, inl, inr, ⊎_elim, All, Bool, List, [], ◌∷◌, map, refl, ap, sym, ◌∙◌, subst, arith, None, nat_lt, nat_le, if◌then◌else◌, le_refl, ltb-true, Contains}
use Rattle.std.proofs.lemmas.List.Elements.{All-nil}
use Rattle.cp_log_rules.specs.Persistent.{PersistentState, with_ballot}
use Rattle.cp_rules.specs.declared.ballot.Ballot.{Ballot}
use Rattle.cp_rules.specs.declared.role.Role.{Role}
use Rattle.cp_rules.specs.declared.role.Role.TheVariants.{Follower, Candidate, Leader}
use Rattle.cp_rules.specs.Spelling.{empty_entry}
use Rattle.cp_rules.specs.Persistent.{ballot, members, others, is_member, with_part, after_part, ballot_part}
use Rattle.cp_rules.specs.Volatile.{Look, VolatileState, peer, no_reads}
use Rattle.cp_rules.specs.Local.{Event, LocalStep, Sent, does, is_leader}
use Rattle.cp_rules.specs.Terms.{adopted, steps_down, steps_down_for, adopts}
use Rattle.cp_rules.specs.Sending.{append_to, chunk_from, entries_from, appends}
use Rattle.cp_rules.specs.Commit.{commit_found, commits}
use Rattle.cp_rules.specs.Leadership.{created_part, creates, leading, takes_leadership}
use Rattle.cp_log_rules.specs.Configurations.{config_at}
use Rattle.cp_rules.specs.Confirming.{round_of}
use Rattle.cp_rules_facts.proofs.Basics.{either, all_mapped, one, follower_or_leader, follower_or_candidate}
use Rattle.cp_rules_facts.proofs.Quiet.{after_ballot, adopting}
use Rattle.cp_rules_rounds.specs.Confirming.{SaysTruly, LeadsOn, ComesTo}

pub record At : Type 0 where
  pub me : ℕ
  pub p : PersistentState
  pub v : VolatileState

abbrev pub Says : At → Event → PersistentState → VolatileState → Sent → Type 0
Says h event q w x = SaysTruly h.p event q w.role w.reads.round x.body

-- what a rule does, before what comes after each rule
pub record Turns (h : At) (event : Event) (q : PersistentState) (w : VolatileState) (sends : List Sent) : Type 0 where
  pub term : h.p.term ≤ q.term
  pub says : All (Says h event q w) sends
  pub leads : w.role ≡ Leader → LeadsOn h.p h.v event q w ⊎ (ComesTo h.p h.v q × (w.reads ≡ no_reads))
  pub stands : w.role ≡ Candidate → ComesTo h.p h.v q
  -- one that leads on forgets no read
  pub keeps : w.role ≡ Leader → h.v.role ≡ Leader → (look : Look) → Contains h.v.reads.looks look → Contains w.reads.looks look

-- and it answers no look itself
abbrev pub Goes : At → Event → LocalStep → Type 0
Goes h event s = ((s.answered ≡ []) × (s.lost ≡ [])) × Turns h event (after_part s.part h.p) s.state s.sends

-- ---- states

pub goes_on : (h : At) (event : Event) (q : PersistentState) (w : VolatileState) → q.term ≡ h.p.term → h.v.role ≡ Leader → w.reads ≡ h.v.reads → LeadsOn h.p h.v event q w
goes_on h event q w term role reads = record {
  role = role;
  in_term = term;
  round = subst (λ (r : ℕ). h.v.reads.round ≤ r) (sym (ap (λ x. x.round) reads)) (le_refl h.v.reads.round);
  by_one = subst (λ (r : ℕ). r ≤ suc h.v.reads.round) (sym (ap (λ x. x.round) reads)) (omega arith);
  confirmed = λ f. inl (subst (λ (r : ℕ). r ≤ round_of h.v.reads f) (sym (ap (λ x. round_of x f) reads)) (le_refl (round_of h.v.reads f)));
  looks = λ look has. inl (subst (λ l. Contains l look) (ap (λ x. x.looks) reads) has);
}

-- term and reads stay, and no one comes to lead or to stand
pub kept : (h : At) (event : Event) (q : PersistentState) (w : VolatileState) (sends : List Sent) → q.term ≡ h.p.term → (w.role ≡ Leader → h.v.role ≡ Leader) → (w.role ≡ Candidate → h.v.role ≡ Candidate) → w.reads ≡ h.v.reads
    → All (Says h event q w) sends → Turns h event q w sends
kept h event q w sends term lead stand reads says = record {
  term = omega (arith, term);
  says = says;
  leads = λ l. inl (goes_on h event q w term (lead l) reads);
  stands = λ c. inl (stand c, term);
  keeps = λ l m look has. subst (λ r. Contains r.looks look) (sym reads) has;
}

-- neither leads nor stands
pub low : (h : At) (event : Event) (q : PersistentState) (w : VolatileState) (sends : List Sent) → h.p.term ≤ q.term → w.role ≢ Leader → w.role ≢ Candidate → All (Says h event q w) sends → Turns h event q w sends
low h event q w sends term lead stand says = record { term = term; says = says; leads = λ l. absurd (lead l); stands = λ c. absurd (stand c); keeps = λ l. absurd (lead l) }

pub follows : (h : At) (event : Event) (q : PersistentState) (w : VolatileState) (sends : List Sent) → h.p.term ≤ q.term → w.role ≡ Follower → All (Says h event q w) sends → Turns h event q w sends
follows h event q w sends term role says = low h event q w sends term (follower_or_leader w.role role) (follower_or_candidate w.role role) says

pub silent : (h : At) (event : Event) → Turns h event h.p h.v []
silent h event = kept h event h.p h.v [] refl (λ l. l) (λ c. c) refl (All-nil (Says h event h.p h.v))

pub still : (h : At) (event : Event) → Goes h event (does None h.v [])
still h event = ((refl, refl), silent h event)

-- a state with the same role and reads, and one message that says nothing of rounds
pub says_one : (h : At) (event : Event) (w : VolatileState) (sends : List Sent) → w.role ≡ h.v.role → w.reads ≡ h.v.reads → All (Says h event h.p w) sends → Goes h event (does None w sends)
says_one h event w sends role reads says = ((refl, refl), kept h event h.p w sends refl (λ l. sym role ∙ l) (λ c. sym role ∙ c) reads says)

-- ---- ballots

pub balloted : (h : At) (event : Event) (b : Ballot) (w : VolatileState) (sends : List Sent) → Turns h event (with_ballot b.term b.vote h.p) w sends → Goes h event (does (ballot_part h.p b) w sends)
balloted h event b w sends t = ((refl, refl), subst (λ (q : PersistentState). Turns h event q w sends) (sym (after_ballot h.p b)) t)

-- the term is adopted, and one that was in a lower term steps down
pub stepped : (h : At) (event : Event) (term : ℕ) (b : Ballot) (w : VolatileState) (sends : List Sent) → (adopted term (ballot h.p)).term ≡ b.term
    → w.role ≡ (steps_down_for term h.p h.v).role → w.reads ≡ (steps_down_for term h.p h.v).reads → All (Says h event (with_ballot b.term b.vote h.p) w) sends → Goes h event (does (ballot_part h.p b) w sends)
stepped h event term b w sends same role reads says =
    let a = adopting term h.p h.v in
    let q = with_ballot b.term b.vote h.p in
    balloted h event b w sends (⊎_elim
    (λ (x : (h.p.term ≡ (adopted term (ballot h.p)).term) × (steps_down_for term h.p h.v ≡ h.v)).
    let r : w.role ≡ h.v.role = role ∙ ap (λ (z : VolatileState). z.role) x.1 in
    kept h event q w sends (sym same ∙ sym x.0) (λ l. sym r ∙ l) (λ c. sym r ∙ c) (reads ∙ ap (λ (z : VolatileState). z.reads) x.1) says)
    (λ (x : steps_down_for term h.p h.v ≡ steps_down h.v). let up = a.up in follows h event q w sends (omega (arith, up, same)) (role ∙ ap (λ (z : VolatileState). z.role) x) says)
    a.state)

pub adopts_or : (h : At) (event : Event) (term : ℕ) (s : LocalStep) → Goes h event s → Goes h event (if nat_lt h.p.term term then adopts term h.p h.v else s)
adopts_or h event term s goes = either (Goes h event) (nat_lt h.p.term term) (adopts term h.p h.v) s
    (λ l. let up = ltb-true h.p.term term l in let q = with_ballot term 0 h.p in
    ((refl, refl), follows h event q (steps_down h.v) [] (omega (arith, up)) refl (All-nil (Says h event q (steps_down h.v)))))
    (λ l. goes)

-- ---- what a leader appends

append_says : (p : PersistentState) (event : Event) (q : PersistentState) (role : Role) (latest : ℕ) (x : PersistentState) (v : VolatileState) (member : ℕ) → SaysTruly p event q role latest (append_to x v member).body
append_says p event q role latest x v member = either (SaysTruly p event q role latest) (nat_le (peer v.peers member).next x.base) (chunk_from x (peer v.peers member).offset) (entries_from x v (peer v.peers member).next) (λ e. tt) (λ e. tt)

pub append_one : (h : At) (event : Event) (q : PersistentState) (w : VolatileState) (x : PersistentState) (v : VolatileState) (member : ℕ) (c : Bool) → All (Says h event q w) (if c then append_to x v member ∷ [] else [])
append_one h event q w x v member c = either (All (Says h event q w)) c (append_to x v member ∷ []) [] (λ e. one (Says h event q w) (append_to x v member) (append_says h.p event q w.role w.reads.round x v member)) (λ e. All-nil (Says h event q w))

pub appends_say : (h : At) (event : Event) (q : PersistentState) (w : VolatileState) (me : ℕ) (x : PersistentState) (v : VolatileState) → All (Says h event q w) (appends me x v)
appends_say h event q w me x v = either (All (Says h event q w)) (is_leader v.role) (map (append_to x v) (others me (members x))) []
    (λ e. all_mapped (Says h event q w) (append_to x v) (others me (members x)) (λ f. append_says h.p event q w.role w.reads.round x v f))
    (λ e. All-nil (Says h event q w))

-- commits take nothing but the office
pub record Commits (v w : VolatileState) : Type 0 where
  pub role : (w.role ≡ v.role) ⊎ (w.role ≡ Follower)
  pub reads : w.reads ≡ v.reads

pub committing : (me : ℕ) (p : PersistentState) (v : VolatileState) → Commits v (commits me p v)
committing me p v =
    let i = commit_found me p v in
    let up : VolatileState = record v { commit = i } in
    either (Commits v) (i == v.commit) v (if is_member me (config_at p i).members then up else steps_down up)
    (λ e. record { role = inl refl; reads = refl })
    (λ e. either (Commits v) (is_member me (config_at p i).members) up (steps_down up) (λ z. record { role = inl refl; reads = refl }) (λ z. record { role = inr refl; reads = refl }))

-- the role after commits, where it is no Follower
pub was : (v w : VolatileState) → Commits v w → (r : Role) → Follower ≢ r → w.role ≡ r → v.role ≡ r
was v w c r ne is = ⊎_elim (λ (e : w.role ≡ v.role). sym e ∙ is) (λ (e : w.role ≡ Follower). absurd (ne (sym e ∙ is))) c.role

pub low_leader : Follower ≢ Leader
low_leader e = cc

pub low_candidate : Follower ≢ Candidate
low_candidate e = cc

-- an entry of one that led
pub made : (h : At) (event : Event) (w : VolatileState) (b : Ballot) (entry : List ℕ) → b.term ≡ h.p.term → w.role ≡ h.v.role → w.reads ≡ h.v.reads → Goes h event (creates h.me h.p w b entry)
made h event w b entry term role reads =
    let q = with_part (created_part h.p b entry) h.p in
    let z = commits h.me q w in
    let c = committing h.me q w in
    ((refl, refl), kept h event q z (appends h.me q z) term (λ l. sym role ∙ was w z c Leader low_leader l) (λ l. sym role ∙ was w z c Candidate low_candidate l) (c.reads ∙ reads) (appends_say h event q z h.me q z))

-- a leadership begins
pub takes : (h : At) (event : Event) (w : VolatileState) (term : ℕ) → h.v.role ≢ Leader → ((h.v.role ≡ Candidate) × (term ≡ h.p.term)) ⊎ (h.p.term < term) → Goes h event (takes_leadership h.me h.p w term)
takes h event w term new comes =
    let b : Ballot = record { term = term; vote = h.me } in
    let q = with_part (created_part h.p b empty_entry) h.p in
    let x = leading h.me h.p w in
    let z = commits h.me q x in
    let c = committing h.me q x in (
      (refl, refl),
      record {
        term = ⊎_elim (λ (k : (h.v.role ≡ Candidate) × (term ≡ h.p.term)). omega (arith, k.1)) (λ (k : h.p.term < term). omega (arith, k)) comes;
        says = appends_say h event q z h.me q z;
        leads = λ l. inr (comes, c.reads);
        stands = λ l. comes;
        keeps = λ l m. absurd (new m);
      },
    )
