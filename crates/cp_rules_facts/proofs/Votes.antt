-- Pre-votes, votes and confirmations of leadership.
use Rattle.std.proofs.Common.{◌||◌, ◌&&◌, ◌==◌, ◌≡◌, ℕ, ◌⊎◌, inl, inr, ⊎_elim, Bool, true, false, [], ◌∷◌, refl, ap, sym, ◌∙◌, Some, None, nat_lt, ltb-true, if◌then◌else◌}
use Rattle.std.proofs.lemmas.Bool.{or_cases, eqb-true, and_parts}
use Rattle.std.proofs.lemmas.List.Elements.{All-nil}
use Rattle.cp_agreement_facts.specs.Clusters as cluster
use Rattle.cp_rules.specs.declared.ballot.Ballot.{Ballot}
use Rattle.cp_rules.specs.declared.log_end.LogEnd.{LogEnd}
use Rattle.cp_rules.specs.declared.role.Role.TheVariants.{Follower}
use Rattle.cp_log_rules.specs.Persistent.{with_ballot}
use Rattle.cp_rules.specs.Persistent.{ballot, log_end, ballot_part}
use Rattle.cp_rules.specs.Volatile.{VolatileState}
use Rattle.cp_rules.specs.Local.{PreVoteReply, VoteReply, Confirmed, Sent, LocalStep, does, reply, send, is_leader}
use Rattle.cp_rules.specs.Terms.{adopted, steps_down_for, adopts}
use Rattle.cp_rules.specs.PreVotes.{is_up_to_date, grants_prevote, on_prevote}
use Rattle.cp_rules.specs.Votes.{grants_vote, on_vote}
use Rattle.cp_rules.specs.Confirming.{with_round, on_confirm, on_confirmed}
use Rattle.cp_rules_facts.proofs.Basics.{either, one}
use Rattle.cp_rules_facts.proofs.Knowing.{ends, up_to_date}
use Rattle.cp_rules_facts.proofs.Turns.{Turn, got, Truth, Good}
use Rattle.cp_rules_facts.proofs.Quiet.{after_ballot, adopting, SameRole, nothing, silent, stays, adopts_good, takes_on, takes_ballot}

-- one message of which agreement reads nothing
pub plain : (t : Turn) (x : Sent) → ((leads : Bool) → Truth t leads t.p t.v x) → Good t (does None t.v (x ∷ []))
plain t x true_ = nothing t (x ∷ []) (one (Truth t (is_leader t.v.role) t.p t.v) x (true_ (is_leader t.v.role)))

pub prevote_good : (t : Turn) (from term : ℕ) (candidate : LogEnd) → Good t (on_prevote t.p t.v from term candidate)
prevote_good t from term candidate =
    let granted = grants_prevote t.p t.v term candidate in
    plain t (send from (PreVoteReply (if granted then term else t.p.term) granted)) (λ leads. (tt, tt))

-- ---- the state after a term is adopted, with another leader known or another time at which one was heard

pub record Stepped (t : Turn) (term : ℕ) (v : VolatileState) : Type 0 where
  pub commit : v.commit ≡ t.v.commit
  pub received : v.received ≡ t.v.received
  pub role : (v.role ≡ Follower) ⊎ ((t.p.term ≡ (adopted term (ballot t.p)).term) × SameRole t v × (v.votes ≡ t.v.votes))

pub stepped : (t : Turn) (term leader heard : ℕ) → Stepped t term (record (steps_down_for term t.p t.v) { leader = leader; heard = heard })
stepped t term leader heard = ⊎_elim
    (λ (x : (t.p.term ≡ (adopted term (ballot t.p)).term) × (steps_down_for term t.p t.v ≡ t.v)). record {
      commit = ap (λ z. z.commit) x.1;
      received = ap (λ z. z.received) x.1;
      role = inr (x.0, record { role = ap (λ z. z.role) x.1; peers = ap (λ z. z.peers) x.1; commit = ap (λ z. z.commit) x.1; received = ap (λ z. z.received) x.1 }, ap (λ z. z.votes) x.1);
    })
    (λ x. record { commit = ap (λ z. z.commit) x; received = ap (λ z. z.received) x; role = inl (ap (λ z. z.role) x) })
    (adopting term t.p t.v).state

-- ---- a vote

pub vote_good : (t : Turn) (from term : ℕ) (candidate : LogEnd) → got t ≡ Some (cluster.Vote from term candidate.term candidate.index) → Good t (on_vote t.p t.v from term candidate)
vote_good t from term candidate is =
    let now = adopted term (ballot t.p) in
    let ad = adopting term t.p t.v in
    let granted_state : VolatileState = record (steps_down_for term t.p t.v) { heard = t.v.clock } in
    let given : Ballot = record { term = term; vote = from } in
    either (Good t) (grants_vote now from term (is_up_to_date candidate (log_end t.p)))
    (does (ballot_part t.p given) granted_state (reply from (VoteReply term true)))
    (does (ballot_part t.p now) (steps_down_for term t.p t.v) (reply from (VoteReply now.term false)))
    (λ granted.
    let a = and_parts (now.term == term) (((now.vote == 0) || (now.vote == from)) && is_up_to_date candidate (log_end t.p)) granted in
    let b = and_parts ((now.vote == 0) || (now.vote == from)) (is_up_to_date candidate (log_end t.p)) a.1 in
    let reached : now.term ≡ term = eqb-true now.term term a.0 in
    let s = stepped t term (steps_down_for term t.p t.v).leader t.v.clock in
    takes_on t term from (ballot_part t.p given) granted_state (reply from (VoteReply term true))
    (after_ballot t.p given ∙ ap (λ u. with_ballot u from t.p) (sym reached))
    (λ e ne. ⊎_elim
    (λ z. absurd (ne (sym (ad.vote e) ∙ eqb-true now.vote 0 z)))
    (λ z. sym (eqb-true now.vote from z) ∙ ad.vote e)
    (or_cases (now.vote == 0) (now.vote == from) b.0))
    s.commit (inl s.received) s.role
    (λ leads. let p' = with_ballot now.term from t.p in one (Truth t leads p' granted_state) (send from (VoteReply term true)) (
      record {
        voter_is = refl;
        term_is = sym reached;
        vote = refl;
        last_term = candidate.term;
        last_index = candidate.index;
        asked = t.delivered (cluster.Vote from term candidate.term candidate.index) is;
        own_term = (log_end p').term;
        own_index = (log_end p').index;
        own = ends p' granted_state;
        up_to_date = up_to_date candidate (log_end p') b.1;
      },
      tt,
    )))
    (λ refused.
    let s = stepped t term (steps_down_for term t.p t.v).leader (steps_down_for term t.p t.v).heard in
    takes_ballot t term (steps_down_for term t.p t.v) (reply from (VoteReply now.term false)) s.commit (inl s.received) s.role
    (λ leads. one (Truth t leads (with_ballot now.term now.vote t.p) (steps_down_for term t.p t.v)) (send from (VoteReply now.term false)) (tt, tt)))

-- ---- confirmations

pub confirm_good : (t : Turn) (from term round : ℕ) → Good t (on_confirm t.p t.v from term round)
confirm_good t from term round =
    let now = adopted term (ballot t.p) in
    let state : VolatileState = record (steps_down_for term t.p t.v) { leader = from; heard = t.v.clock } in
    either (Good t) (nat_lt term t.p.term) (does None t.v (reply from (Confirmed t.p.term false 0))) (does (ballot_part t.p now) state (reply from (Confirmed term true round)))
    (λ h. plain t (send from (Confirmed t.p.term false 0)) (λ leads. (tt, tt)))
    (λ h. let s = stepped t term from t.v.clock in
    takes_ballot t term state (reply from (Confirmed term true round)) s.commit (inl s.received) s.role
    (λ leads. one (Truth t leads (with_ballot now.term now.vote t.p) state) (send from (Confirmed term true round)) (tt, tt)))

pub adopts_or : (t : Turn) (term : ℕ) (s : LocalStep) → Good t s → Good t (if nat_lt t.p.term term then adopts term t.p t.v else s)
adopts_or t term s good = either (Good t) (nat_lt t.p.term term) (adopts term t.p t.v) s (λ h. adopts_good t term (ltb-true t.p.term term h)) (λ h. good)

pub confirmed_good : (t : Turn) (from term : ℕ) (taken : Bool) (round : ℕ) → Good t (on_confirmed t.p t.v from term taken round)
confirmed_good t from term taken round =
    let state : VolatileState = record t.v { reads = with_round from round t.v.reads } in
    let counted = taken && (is_leader t.v.role && (term == t.p.term)) in
    adopts_or t term (if counted then does None state [] else does None t.v []) (either (Good t) counted (does None state []) (does None t.v [])
    (λ h. stays t state [] (record { role = refl; peers = refl; commit = refl; received = refl }) refl (All-nil (Truth t (is_leader t.v.role) t.p state)))
    (λ h. silent t))
