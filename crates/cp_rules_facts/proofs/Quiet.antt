-- Steps that leave log and commit as they are.
use Rattle.std.proofs.Common.{◌&&◌, ◌==◌, ◌≡◌, ◌≢◌, ℕ, ◌<◌, ◌≤◌, ◌⊎◌, inl, inr, ⊎_elim, Bool, true, false, List, [], refl, ap, ap₂, sym, ◌∙◌, arith, subst, length, Option, Some, None, All, nat_lt, le_refl, le_of_eq, true≢false, ltb-true, ltb-false}
use Rattle.std.proofs.lemmas.Bool.{cases_Bool, eqb-true, and_parts}
use Rattle.std.proofs.lemmas.List.Elements.{All-nil}
use Rattle.cp_safety.specs.Tracking as tracking
use Rattle.cp_safety.specs.Tracking.{Rests, Counts, StaysCandidate, BecomesCandidate, WinsByVotes, WinsAlone, MatchedUpto, TrackedFacts, SendsTruly}
use Rattle.cp_rules.specs.declared.ballot.Ballot.{Ballot}
use Rattle.cp_rules.specs.declared.role.Role.TheVariants.{Follower, Candidate, Leader}
use Rattle.cp_log_rules.specs.Persistent.{PersistentState, last, with_ballot}
use Rattle.cp_rules.specs.Persistent.{Part, StatePart, ballot, after_part, ballot_part}
use Rattle.cp_rules.specs.Volatile.{VolatileState, has_voted, peer}
use Rattle.cp_rules.specs.Local.{Sent, does, is_leader}
use Rattle.cp_rules.specs.Terms.{adopted, steps_down, steps_down_for, adopts}
use Rattle.cp_rules_facts.specs.Seen.{seen_role}
use Rattle.cp_rules_facts.specs.Soundness.{IsSound, IsPlaced}
use Rattle.cp_rules_facts.proofs.Basics.{either, leader_is, not_leader, seen_leader, seen_candidate, follower_or_leader, follower_or_candidate}
use Rattle.cp_rules_facts.proofs.Turns.{Turn, here, core, Truth, Receives, Left, Good}

-- what a ballot part leaves
pub after_ballot : (p : PersistentState) (b : Ballot) → after_part (ballot_part p b) p ≡ with_ballot b.term b.vote p
after_ballot p b = either (λ part. after_part part p ≡ with_ballot b.term b.vote p) ((p.term == b.term) && (p.vote == b.vote)) None (Some (StatePart b))
    (λ e. let x = and_parts (p.term == b.term) (p.vote == b.vote) e in ap₂ (λ t x. with_ballot t x p) (eqb-true p.term b.term x.0) (eqb-true p.vote b.vote x.1))
    (λ e. refl)

-- ---- adopting a term

-- the ballot after a term is adopted, and the member's role
pub record Adopts (term : ℕ) (p : PersistentState) (v : VolatileState) : Type 0 where
  pub up : p.term ≤ (adopted term (ballot p)).term
  pub reached : term ≤ (adopted term (ballot p)).term
  pub vote : p.term ≡ (adopted term (ballot p)).term → (adopted term (ballot p)).vote ≡ p.vote
  pub state : ((p.term ≡ (adopted term (ballot p)).term) × (steps_down_for term p v ≡ v)) ⊎ (steps_down_for term p v ≡ steps_down v)

pub adopting : (term : ℕ) (p : PersistentState) (v : VolatileState) → Adopts term p v
adopting term p v = ⊎_elim
    (λ (e : nat_lt p.term term ≡ true). let low : p.term < term = ltb-true p.term term e in
    record { up = rw e (omega (arith, low)); reached = rw e (le_refl term); vote = rw e (λ z. absurd (omega (arith, low, z))); state = rw e (inr refl) })
    (λ (e : nat_lt p.term term ≡ false). record { up = rw e (le_refl p.term); reached = rw e (ltb-false p.term term e); vote = rw e (λ z. refl); state = rw e (inl (refl, refl)) })
    (cases_Bool (nat_lt p.term term))

pub adopted_term : (term : ℕ) (p : PersistentState) → p.term ≤ term → (adopted term (ballot p)).term ≡ term
adopted_term term p le = either (λ (b : Ballot). b.term ≡ term) (nat_lt p.term term) (record { term = term; vote = 0 }) (ballot p) (λ h. refl) (λ h. let high = ltb-false p.term term h in omega (arith, le, high))

-- ---- roles

-- The role after a step, whether it led, and what it counts.
pub record Calm (t : Turn) (leads : Bool) (p : PersistentState) (v : VolatileState) : Type 0 where
  pub leading : seen_role v.role ≡ tracking.Leader → leads ≡ true
  pub elected : leads ≡ true → ((seen_role t.v.role ≡ tracking.Leader) × (t.p.term ≡ p.term)) ⊎ (WinsByVotes (here t) (core t leads p v) ⊎ WinsAlone (here t) (core t leads p v))
  pub candidate : seen_role v.role ≡ tracking.Candidate → StaysCandidate (here t) (core t leads p v) ⊎ BecomesCandidate (here t) (core t leads p v)
  pub apart : seen_role v.role ≡ tracking.Candidate → leads ≡ false
  pub matched : seen_role v.role ≡ tracking.Leader → (f : ℕ) → ((peer v.peers f).matched ≡ 0) ⊎ MatchedUpto (here t) (core t leads p v) f (peer v.peers f).matched

-- neither leader nor candidate
pub calm_low : (t : Turn) (p : PersistentState) (v : VolatileState) → v.role ≢ Leader → v.role ≢ Candidate → Calm t false p v
calm_low t p v leads_not not_candidate = record {
  leading = λ h. absurd (leads_not (seen_leader v.role h));
  elected = λ h. absurd (true≢false (sym h));
  candidate = λ h. absurd (not_candidate (seen_candidate v.role h));
  apart = λ h. refl;
  matched = λ h. absurd (leads_not (seen_leader v.role h));
}

-- Role, term and matched indexes stay, and a yes is counted only where it came.
pub calm_same : (t : Turn) (p : PersistentState) (v : VolatileState) → t.p.term ≡ p.term → v.role ≡ t.v.role → ((f : ℕ) → (peer v.peers f).matched ≡ (peer t.v.peers f).matched)
    → ((f : ℕ) → has_voted v.votes f ≡ true → Counts (here t) (core t (is_leader v.role) p v) f) → Calm t (is_leader v.role) p v
calm_same t p v term role matched counted = record {
  leading = λ h. ap is_leader (seen_leader v.role h);
  elected = λ h. inl (ap seen_role (sym role ∙ leader_is v.role h), term);
  candidate = λ h. inl (record { role = ap seen_role (sym role ∙ seen_candidate v.role h); term = term; counted = counted });
  apart = λ h. ap is_leader (seen_candidate v.role h);
  matched = λ h f. inr (inl (ap seen_role (sym role ∙ seen_leader v.role h), term, le_of_eq (matched f)));
}

-- Log and commit stay, or the log is cut short by the member's own snapshot.
pub rests : (t : Turn) (leads : Bool) (p : PersistentState) (v : VolatileState) → Rests (here t) (core t leads p v) → t.p.term ≤ p.term → (t.p.term ≡ p.term → t.p.vote ≢ 0 → p.vote ≡ t.p.vote)
    → p.base ≤ v.commit → v.commit ≡ t.v.commit → Calm t leads p v → TrackedFacts (here t) (core t leads p v)
rests t leads p v log up vote above commit calm = record {
  named = t.sound.named;
  delivered = t.delivered;
  term = up;
  vote = vote;
  leads = calm.leading;
  elected = calm.elected;
  candidate = calm.candidate;
  apart = calm.apart;
  log = inl log;
  sends = All-nil (SendsTruly (here t) (core t leads p v));
  matched = calm.matched;
  above_base = above;
  commit = inl (le_of_eq commit);
}

-- ---- steps that write a ballot or nothing

-- a role that neither leads nor is elected
pub sound_low : (t : Turn) (term vote : ℕ) (v : VolatileState) → v.role ≢ Leader → v.role ≢ Candidate → v.commit ≡ t.v.commit → IsSound t.me (with_ballot term vote t.p) v
sound_low t term vote v leads_not not_candidate commit = let a = t.sound.above_base in let b = t.sound.within in record {
  named = t.sound.named;
  above_base = omega (arith, a, commit);
  within = omega (arith, b, commit);
  no_base = t.sound.no_base;
  voted = λ h. absurd (not_candidate h);
  campaigns = λ h. absurd (not_candidate h);
  leads = λ h. absurd (leads_not h);
  peers = λ h. absurd (leads_not h);
}

pub quiet_low : (t : Turn) (term vote : ℕ) (v : VolatileState) (sends : List Sent) → t.p.term ≤ term → (t.p.term ≡ term → t.p.vote ≢ 0 → vote ≡ t.p.vote) → v.role ≢ Leader → v.role ≢ Candidate → v.commit ≡ t.v.commit
    → Receives t.v t.came v → All (Truth t false (with_ballot term vote t.p) v) sends → Left t (is_leader v.role) (with_ballot term vote t.p) v sends
quiet_low t term vote v sends up keeps leads_not not_candidate commit receives says = subst (λ b. Left t b (with_ballot term vote t.p) v sends) (sym (not_leader v.role leads_not)) (record {
  facts = rests t false (with_ballot term vote t.p) v (inl ((refl, refl, refl), refl)) up keeps (let a = t.sound.above_base in omega (arith, a, commit)) commit (calm_low t (with_ballot term vote t.p) v leads_not not_candidate);
  says = says;
  sound = sound_low t term vote v leads_not not_candidate commit;
  snapshot = inl (refl, refl, refl, refl);
  receives = receives;
})

-- what stays with the role
pub record SameRole (t : Turn) (v : VolatileState) : Type 0 where
  pub role : v.role ≡ t.v.role
  pub peers : v.peers ≡ t.v.peers
  pub commit : v.commit ≡ t.v.commit
  pub received : v.received ≡ t.v.received

pub sound_same : (t : Turn) (vote : ℕ) (v : VolatileState) → (t.p.vote ≢ 0 → vote ≡ t.p.vote) → SameRole t v → IsSound t.me (with_ballot t.p.term vote t.p) v
sound_same t vote v keeps same = let a = t.sound.above_base in let b = t.sound.within in record {
  named = t.sound.named;
  above_base = omega (arith, a, same.commit);
  within = omega (arith, b, same.commit);
  no_base = t.sound.no_base;
  voted = λ h. let s = t.sound.voted (sym same.role ∙ h) in keeps (λ e. t.sound.named (sym s ∙ e)) ∙ s;
  campaigns = λ h. t.sound.campaigns (sym same.role ∙ h);
  leads = λ h. t.sound.leads (sym same.role ∙ h);
  peers = λ h f. subst (λ l. IsPlaced (last t.p) (length t.p.snapshot) (peer l f)) (sym same.peers) (t.sound.peers (sym same.role ∙ h) f);
}

pub quiet_same : (t : Turn) (vote : ℕ) (v : VolatileState) (sends : List Sent) → (t.p.vote ≢ 0 → vote ≡ t.p.vote) → SameRole t v
    → ((f : ℕ) → has_voted v.votes f ≡ true → Counts (here t) (core t (is_leader v.role) (with_ballot t.p.term vote t.p) v) f)
    → All (Truth t (is_leader v.role) (with_ballot t.p.term vote t.p) v) sends → Left t (is_leader v.role) (with_ballot t.p.term vote t.p) v sends
quiet_same t vote v sends keeps same counted says = record {
  facts = rests t (is_leader v.role) (with_ballot t.p.term vote t.p) v (inl ((refl, refl, refl), refl)) (le_refl t.p.term) (λ e. keeps) (let a = t.sound.above_base in omega (arith, a, same.commit)) same.commit
      (calm_same t (with_ballot t.p.term vote t.p) v refl same.role (λ f. ap (λ l. (peer l f).matched) same.peers) counted);
  says = says;
  sound = sound_same t vote v keeps same;
  snapshot = inl (refl, refl, refl, refl);
  receives = inl same.received;
}

-- nothing is written, and what agreement reads stays
pub stays : (t : Turn) (v : VolatileState) (sends : List Sent) → SameRole t v → v.votes ≡ t.v.votes → All (Truth t (is_leader v.role) t.p v) sends → Good t (does None v sends)
stays t v sends same votes says = quiet_same t t.p.vote v sends (λ ne. refl) same (λ f h. inl (ap (λ l. has_voted l f) (sym votes) ∙ h)) says

pub nothing : (t : Turn) (sends : List Sent) → All (Truth t (is_leader t.v.role) t.p t.v) sends → Good t (does None t.v sends)
nothing t sends says = stays t t.v sends (record { role = refl; peers = refl; commit = refl; received = refl }) refl says

pub silent : (t : Turn) → Good t (does None t.v [])
silent t = nothing t [] (All-nil (Truth t (is_leader t.v.role) t.p t.v))

pub adopts_good : (t : Turn) (term : ℕ) → t.p.term < term → Good t (adopts term t.p t.v)
adopts_good t term low = quiet_low t term 0 (steps_down t.v) [] (omega (arith, low)) (λ e ne. absurd (omega (arith, low, e))) (λ h. cc) (λ h. cc) refl (inl refl) (All-nil (Truth t false (with_ballot term 0 t.p) (steps_down t.v)))

-- A step that takes on a term and leaves log and commit; the role is Follower's, or stays with the term.
pub takes_on : (t : Turn) (term vote : ℕ) (part : Option Part) (v : VolatileState) (sends : List Sent) → after_part part t.p ≡ with_ballot (adopted term (ballot t.p)).term vote t.p
    → (t.p.term ≡ (adopted term (ballot t.p)).term → t.p.vote ≢ 0 → vote ≡ t.p.vote) → v.commit ≡ t.v.commit → Receives t.v t.came v
    → (v.role ≡ Follower) ⊎ ((t.p.term ≡ (adopted term (ballot t.p)).term) × SameRole t v × (v.votes ≡ t.v.votes))
    → ((leads : Bool) → All (Truth t leads (with_ballot (adopted term (ballot t.p)).term vote t.p) v) sends) → Good t (does part v sends)
takes_on t term vote part v sends left keeps commit receives role says =
    let ad = adopting term t.p t.v in
    subst (λ (q : PersistentState). Left t (is_leader v.role) q v sends) (sym left) (⊎_elim
    (λ (f : v.role ≡ Follower). quiet_low t (adopted term (ballot t.p)).term vote v sends ad.up keeps (follower_or_leader v.role f) (follower_or_candidate v.role f) commit receives (says false))
    (λ (x : (t.p.term ≡ (adopted term (ballot t.p)).term) × SameRole t v × (v.votes ≡ t.v.votes)).
    let all = says (is_leader v.role) in
    subst (λ (u : ℕ). Left t (is_leader v.role) (with_ballot u vote t.p) v sends) x.0 (quiet_same t vote v sends (keeps x.0) x.1 (λ f h. inl (ap (λ l. has_voted l f) (sym x.2) ∙ h)) (subst (λ (u : ℕ). All (Truth t (is_leader v.role) (with_ballot u vote t.p) v) sends) (sym x.0) all)))
    role)

-- the same, with the adopted ballot
pub takes_ballot : (t : Turn) (term : ℕ) (v : VolatileState) (sends : List Sent) → v.commit ≡ t.v.commit → Receives t.v t.came v
    → (v.role ≡ Follower) ⊎ ((t.p.term ≡ (adopted term (ballot t.p)).term) × SameRole t v × (v.votes ≡ t.v.votes))
    → ((leads : Bool) → All (Truth t leads (with_ballot (adopted term (ballot t.p)).term (adopted term (ballot t.p)).vote t.p) v) sends) → Good t (does (ballot_part t.p (adopted term (ballot t.p))) v sends)
takes_ballot t term v sends commit receives role says =
    takes_on t term (adopted term (ballot t.p)).vote (ballot_part t.p (adopted term (ballot t.p))) v sends (after_ballot t.p (adopted term (ballot t.p))) (λ e ne. (adopting term t.p t.v).vote e) commit receives role says
