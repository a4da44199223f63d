-- Replies to pre-votes and votes that are counted.
use Rattle.std.proofs.Common.{◌≡◌, ◌&&◌, ◌||◌, ◌==◌, not, ℕ, Bool, true, false, List, refl, sym, ap, ◌∙◌}
use Rattle.cp_log_rules.specs.Persistent.{PersistentState}
use Rattle.cp_rules.specs.declared.role.Role.{Role}
use Rattle.cp_rules.specs.declared.role.Role.TheVariants.{Follower, PreCandidate, Candidate, Leader}
use Rattle.cp_rules.specs.Local.{LocalStep, is_leader}
use Rattle.cp_rules.specs.Persistent.{members, is_quorum}
use Rattle.cp_rules.specs.PreVotes.{has_quorum, with_vote, counts_prevote}
use Rattle.cp_rules.specs.Volatile.{VolatileState, has_voted}
use Rattle.cp_rules.specs.Votes.{counts_vote}
use Rattle.cp_election.specs.declared.replying.VoteReplied.{VoteReplied}
use Rattle.cp_election.specs.declared.replying.VoteReplied.TheVariants.{Counted}
use Rattle.cp_election.specs.Laws.{after_prevote_reply, after_vote_reply}
use Rattle.cp_raft.specs.Offices.{takes_office}

-- with a quorum of votes it leads
pub quorum_leads : (me : ℕ) (p : PersistentState) (v : VolatileState) (ms : List ℕ) (votes : List Bool) (has : Bool)
    → ms ≡ members p
    → votes ≡ v.votes
    → has ≡ is_quorum ms (λ f. (f == me) || has_voted votes f)
    → has ≡ true
    → (counts_vote me p v).leads ≡ true
quorum_leads me p v ms votes has is_ms is_votes is has_it =
    let quorum : has_quorum me (members p) v ≡ true =
    ap (λ (xs : List ℕ). is_quorum xs (λ f. (f == me) || has_voted v.votes f)) (sym is_ms)
    ∙ ap (λ (vs : List Bool). is_quorum ms (λ f. (f == me) || has_voted vs f)) (sym is_votes)
    ∙ sym is
    ∙ has_it in
    rw quorum refl

module _ (me : ℕ) (p : PersistentState) (v w : VolatileState) (from term : ℕ) (replied : VoteReplied) where
  pub prevote_counted : replied ≡ Counted → w ≡ with_vote from v → after_prevote_reply me p v from term replied ≡ counts_prevote me p w
  prevote_counted counted with_it = rw (counted, with_it) refl

  pub vote_counted : replied ≡ Counted → w ≡ with_vote from v → after_vote_reply me p v from term replied ≡ counts_vote me p w
  vote_counted counted with_it = rw (counted, with_it) refl

-- a candidate that takes no office does not lead
no_leader : (r : Role) (leads : Bool) → r ≡ Candidate → (not (is_leader r) && leads) ≡ false → leads ≡ false
no_leader Follower leads same h = h
no_leader PreCandidate leads same h = h
no_leader Candidate leads same h = h
no_leader Leader leads same h = absurd (let e : Leader ≡ Candidate = same in cc)

pub no_office : (me : ℕ) (p : PersistentState) (v w : VolatileState) (from term : ℕ) (replied : VoteReplied)
    → replied ≡ Counted
    → w ≡ with_vote from v
    → v.role ≡ Candidate
    → takes_office v (after_vote_reply me p v from term replied) ≡ false
    → (counts_vote me p w).leads ≡ false
no_office me p v w from term replied counted with_it stands none =
    ap (λ (s : LocalStep). s.leads) (sym (vote_counted me p v w from term replied counted with_it))
    ∙ no_leader v.role (after_vote_reply me p v from term replied).leads stands none
