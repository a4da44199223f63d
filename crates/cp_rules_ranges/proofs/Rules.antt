-- What is shown of each rule, and rules that leave the log as it is.
use Rattle.std.proofs.Common.{◌||◌, ◌&&◌, ◌==◌, ◌≡◌, ℕ, suc, ◌<◌, ◌≤◌, ⊎_elim, not, Bool, true, false, List, [], length, refl, sym, subst, arith, ◌∙◌, Some, None, nat_lt, nat_le, if◌then◌else◌, ltb-true}
use Rattle.std.specs.List.{AllByRecursion}
use Rattle.std.proofs.lemmas.Bool.{and_parts, eqb-true}
use Rattle.cp_base.specs.declared.identifier.Invocation.{Invocation}
use Rattle.cp_answers.specs.declared.refusal.Refusal.TheVariants.{NotLeader, Overloaded}
use Rattle.cp_log_rules.specs.Persistent.{PersistentState, last, with_ballot}
use Rattle.cp_rules.specs.declared.ballot.Ballot.{Ballot}
use Rattle.cp_rules.specs.declared.log_end.LogEnd.{LogEnd}
use Rattle.cp_rules.specs.declared.outcome.Outcome.TheVariants.{Refused}
use Rattle.cp_rules.specs.declared.role.Role.TheVariants.{Follower, PreCandidate, Candidate}
use Rattle.cp_rules.specs.Limits.{most_index, most_looks}
use Rattle.cp_rules.specs.Persistent.{StatePart, ballot, log_end, members, is_member, after_part, ballot_part}
use Rattle.cp_rules.specs.Volatile.{Reads, VolatileState}
use Rattle.cp_rules.specs.Local.{Body, PreVoteReply, Vote, VoteReply, Confirm, Confirmed, Sent, LocalStep, does, reply, is_leader, is_pre_candidate}
use Rattle.cp_rules.specs.Terms.{adopted, steps_down, steps_down_for, adopts}
use Rattle.cp_rules.specs.PreVotes.{is_up_to_date, grants_prevote, on_prevote, with_vote, has_quorum, becomes_candidate, counts_prevote, on_prevote_reply}
use Rattle.cp_rules.specs.Votes.{grants_vote, on_vote}
use Rattle.cp_rules.specs.Confirming.{confirms, with_round, on_confirm, on_confirmed, waits, begins_round, on_read}
use Rattle.cp_rules_facts.specs.Soundness.{IsSound}
use Rattle.cp_rules_facts.proofs.Basics.{either, pre_candidate_is}
use Rattle.cp_rules_facts.proofs.Quiet.{after_ballot, adopting}
use Rattle.cp_rules_ranges.specs.Ranges.{IsMember, StoredIsInRange, KeptIsInRange, IsInRange, EndIsInRange, BodyIsInRange, SentIsInRange, BallotIsInRange, WrittenIsInRange}
use Rattle.cp_rules_ranges.proofs.Basics.{known_in_range, adopted_ballot, all_told}

-- a sound member in range before its step
pub record Here : Type 0 where
  pub me : ℕ
  pub p : PersistentState
  pub v : VolatileState
  pub member : IsMember me
  pub sound : IsSound me p v
  pub range : IsInRange p v

pub record Ranged (p : PersistentState) (s : LocalStep) : Type 0 where
  pub written : WrittenIsInRange p s.part
  pub sends : AllByRecursion SentIsInRange s.sends
  pub after : IsInRange (after_part s.part p) s.state

-- It is known that what a step leaves is sound.
abbrev pub Goes : Here → LocalStep → Type 0
Goes h s = IsSound h.me (after_part s.part h.p) s.state → Ranged h.p s

-- ---- nothing is written

pub quiet : (h : Here) (w : VolatileState) (sends : List Sent) → IsInRange h.p w → AllByRecursion SentIsInRange sends → Goes h (does None w sends)
quiet h w sends range all sound = record { written = tt; sends = all; after = range }

pub silent : (h : Here) → Goes h (does None h.v [])
silent h = quiet h h.v [] h.range tt

pub one_sent : (to : ℕ) (body : Body) → IsMember to → BodyIsInRange body → AllByRecursion SentIsInRange (reply to body)
one_sent to body m b = (record { to = m; body = b }, tt)

pub plain : (h : Here) (to : ℕ) (body : Body) → IsMember to → BodyIsInRange body → Goes h (does None h.v (reply to body))
plain h to body m b = quiet h h.v (reply to body) h.range (one_sent to body m b)

-- ---- a ballot is written

pub with_ballot_range : (p : PersistentState) (b : Ballot) → StoredIsInRange p → BallotIsInRange p b → StoredIsInRange (with_ballot b.term b.vote p)
with_ballot_range p b r given = record { term = given.term; vote = given.vote; last_index = r.last_index; base_term = r.base_term; members = r.members; snapshot = r.snapshot; entries = r.entries }

written_ballot : (p : PersistentState) (b : Ballot) → BallotIsInRange p b → WrittenIsInRange p (ballot_part p b)
written_ballot p b given = either (WrittenIsInRange p) ((p.term == b.term) && (p.vote == b.vote)) None (Some (StatePart b)) (λ h. tt) (λ h. given)

pub balloted : (h : Here) (b : Ballot) (w : VolatileState) (sends : List Sent) → BallotIsInRange h.p b → IsInRange (with_ballot b.term b.vote h.p) w → AllByRecursion SentIsInRange sends → Goes h (does (ballot_part h.p b) w sends)
balloted h b w sends given range all sound = record {
  written = written_ballot h.p b given;
  sends = all;
  after = subst (λ (q : PersistentState). IsInRange q w) (sym (after_ballot h.p b)) range;
}

-- ---- roles that ask for nothing

pub follows_in_range : (q : PersistentState) (w : VolatileState) → w.role ≡ Follower → StoredIsInRange q → KeptIsInRange w → IsInRange q w
follows_in_range q w role stored kept = record {
  stored = stored;
  kept = kept;
  asks = λ h. absurd (let z : Follower ≡ PreCandidate = sym role ∙ h in cc);
  campaigns = λ h. absurd (let z : Follower ≡ Candidate = sym role ∙ h in cc);
}

pub steps_down_kept : (v : VolatileState) → KeptIsInRange v → KeptIsInRange (steps_down v)
steps_down_kept v k = record { clock = k.clock; heard = k.heard; beat = k.beat; round = k.round; received = k.received }

-- another leader, or another time at which one was heard
pub touched : (q : PersistentState) (z : VolatileState) (leader heard : ℕ) → heard ≤ most_index → IsInRange q z → IsInRange q (record z { leader = leader; heard = heard })
touched q z leader heard most r = let k = r.kept in record {
  stored = r.stored;
  kept = record { clock = k.clock; heard = most; beat = k.beat; round = k.round; received = k.received };
  asks = r.asks;
  campaigns = r.campaigns;
}

-- the state after a term is adopted
pub stepped_range : (h : Here) (term vote : ℕ) → term ≤ most_index → vote ≤ 9 → IsInRange (with_ballot (adopted term (ballot h.p)).term vote h.p) (steps_down_for term h.p h.v)
stepped_range h term vote most few =
    let b = adopted term (ballot h.p) in
    let given = adopted_ballot term h.p most h.range.stored in
    let stored : StoredIsInRange (with_ballot b.term vote h.p) = with_ballot_range h.p (record { term = b.term; vote = vote }) h.range.stored (record { up = given.up; term = given.term; vote = few }) in
    ⊎_elim
    (λ (x : (h.p.term ≡ b.term) × (steps_down_for term h.p h.v ≡ h.v)). subst (λ (z : VolatileState). IsInRange (with_ballot b.term vote h.p) z) (sym x.1) (record {
      stored = stored;
      kept = h.range.kept;
      asks = λ r. let a = h.range.asks r in let low = a.0 in let same = x.0 in (omega (arith, low, same), a.1);
      campaigns = h.range.campaigns;
    }))
    (λ (x : steps_down_for term h.p h.v ≡ steps_down h.v). subst (λ (z : VolatileState). IsInRange (with_ballot b.term vote h.p) z) (sym x) (follows_in_range (with_ballot b.term vote h.p) (steps_down h.v) refl stored (steps_down_kept h.v h.range.kept)))
    (adopting term h.p h.v).state

-- a reply of a greater term
pub adopts_range : (h : Here) (term : ℕ) → h.p.term < term → term ≤ most_index → Goes h (adopts term h.p h.v)
adopts_range h term low most sound =
    let b : Ballot = record { term = term; vote = 0 } in
    let given : BallotIsInRange h.p b = record { up = omega (arith, low); term = most; vote = omega arith } in
    record {
      written = given;
      sends = tt;
      after = follows_in_range (with_ballot term 0 h.p) (steps_down h.v) refl (with_ballot_range h.p b h.range.stored given) (steps_down_kept h.v h.range.kept);
    }

pub adopts_or : (h : Here) (term : ℕ) (s : LocalStep) → term ≤ most_index → Goes h s → Goes h (if nat_lt h.p.term term then adopts term h.p h.v else s)
adopts_or h term s most goes = either (Goes h) (nat_lt h.p.term term) (adopts term h.p h.v) s (λ l. adopts_range h term (ltb-true h.p.term term l) most) (λ l. goes)

-- ---- pre-votes

pub prevote_range : (h : Here) (from term : ℕ) (candidate : LogEnd) → IsMember from → term ≤ most_index → Goes h (on_prevote h.p h.v from term candidate)
prevote_range h from term candidate m most =
    let granted = grants_prevote h.p h.v term candidate in
    plain h from (PreVoteReply (if granted then term else h.p.term) granted) m (either (λ n. n ≤ most_index) granted term h.p.term (λ e. most) (λ e. h.range.stored.term))

pub end_in_range : (p : PersistentState) → StoredIsInRange p → EndIsInRange (log_end p)
end_in_range p r = record { term = known_in_range p (last p) r; index = r.last_index }

-- a vote more is counted
pub voted_range : (h : Here) (from : ℕ) → IsInRange h.p (with_vote from h.v)
voted_range h from = let k = h.range.kept in record {
  stored = h.range.stored;
  kept = record { clock = k.clock; heard = k.heard; beat = k.beat; round = k.round; received = k.received };
  asks = h.range.asks;
  campaigns = h.range.campaigns;
}

candidate_range : (h : Here) (from : ℕ) → h.v.role ≡ PreCandidate → Goes h (becomes_candidate h.me h.p (with_vote from h.v))
candidate_range h from role sound =
    let room = h.range.asks role in
    let low = room.0 in
    let r = h.range.stored in
    let k = h.range.kept in
    let b : Ballot = record { term = suc h.p.term; vote = h.me } in
    let given : BallotIsInRange h.p b = record { up = omega arith; term = omega (arith, low); vote = h.member.last } in
    record {
      written = given;
      sends = all_told h.me h.p (Vote (suc h.p.term) (log_end h.p)) r (omega (arith, low), end_in_range h.p r);
      after = record {
        stored = with_ballot_range h.p b r given;
        kept = record { clock = k.clock; heard = k.heard; beat = k.beat; round = k.round; received = k.received };
        asks = λ z. absurd (let y : Candidate ≡ PreCandidate = z in cc);
        campaigns = λ z. room.1;
      };
    }

pub prevote_reply_range : (h : Here) (from term : ℕ) (granted : Bool) → term ≤ most_index → Goes h (on_prevote_reply h.me h.p h.v from term granted)
prevote_reply_range h from term false most = adopts_or h term (does None h.v []) most (silent h)
prevote_reply_range h from term true most =
    let w = with_vote from h.v in
    let counted = is_pre_candidate h.v.role && ((term == suc h.p.term) && is_member from (members h.p)) in
    either (Goes h) counted (counts_prevote h.me h.p w) (does None h.v [])
    (λ c.
    let role : h.v.role ≡ PreCandidate = pre_candidate_is h.v.role (and_parts (is_pre_candidate h.v.role) ((term == suc h.p.term) && is_member from (members h.p)) c).0 in
    either (Goes h) (has_quorum h.me (members h.p) w) (becomes_candidate h.me h.p w) (does None w [])
    (λ e. candidate_range h from role)
    (λ e. quiet h w [] (voted_range h from) tt))
    (λ c. silent h)

-- ---- votes

pub vote_range : (h : Here) (from term : ℕ) (candidate : LogEnd) → IsMember from → term ≤ most_index → Goes h (on_vote h.p h.v from term candidate)
vote_range h from term candidate m most =
    let now = adopted term (ballot h.p) in
    let given = adopted_ballot term h.p most h.range.stored in
    let z = steps_down_for term h.p h.v in
    let granted_state : VolatileState = record z { heard = h.v.clock } in
    let b : Ballot = record { term = term; vote = from } in
    either (Goes h) (grants_vote now from term (is_up_to_date candidate (log_end h.p)))
    (does (ballot_part h.p b) granted_state (reply from (VoteReply term true)))
    (does (ballot_part h.p now) z (reply from (VoteReply now.term false)))
    (λ granted.
    let reached : now.term ≡ term = eqb-true now.term term (and_parts (now.term == term) (((now.vote == 0) || (now.vote == from)) && is_up_to_date candidate (log_end h.p)) granted).0 in
    let up = given.up in
    let own : BallotIsInRange h.p b = record { up = omega (arith, up, reached); term = most; vote = m.last } in
    let after = stepped_range h term from most m.last in
    balloted h b granted_state (reply from (VoteReply term true)) own
    (touched (with_ballot term from h.p) z z.leader h.v.clock h.range.kept.clock (subst (λ (n : ℕ). IsInRange (with_ballot n from h.p) z) reached after))
    (one_sent from (VoteReply term true) m most))
    (λ refused. balloted h now z (reply from (VoteReply now.term false)) given (stepped_range h term now.vote most given.vote) (one_sent from (VoteReply now.term false) m given.term))

-- ---- confirmations

pub confirm_range : (h : Here) (from term round : ℕ) → IsMember from → term ≤ most_index → round ≤ most_index → Goes h (on_confirm h.p h.v from term round)
confirm_range h from term round m most late =
    let now = adopted term (ballot h.p) in
    let given = adopted_ballot term h.p most h.range.stored in
    let z = steps_down_for term h.p h.v in
    let state : VolatileState = record z { leader = from; heard = h.v.clock } in
    either (Goes h) (nat_lt term h.p.term) (does None h.v (reply from (Confirmed h.p.term false 0))) (does (ballot_part h.p now) state (reply from (Confirmed term true round)))
    (λ l. plain h from (Confirmed h.p.term false 0) m (h.range.stored.term, omega arith))
    (λ l. balloted h now state (reply from (Confirmed term true round)) given (touched (with_ballot now.term now.vote h.p) z from h.v.clock h.range.kept.clock (stepped_range h term now.vote most given.vote)) (one_sent from (Confirmed term true round) m (most, late)))

-- other reads, of which the round does not end
pub with_reads : (q : PersistentState) (z : VolatileState) (reads : Reads) → reads.round ≤ most_index → IsInRange q z → IsInRange q (record z { reads = reads })
with_reads q z reads most r = let k = r.kept in record {
  stored = r.stored;
  kept = record { clock = k.clock; heard = k.heard; beat = k.beat; round = most; received = k.received };
  asks = r.asks;
  campaigns = r.campaigns;
}

pub confirmed_range : (h : Here) (from term : ℕ) (taken : Bool) (round : ℕ) → term ≤ most_index → Goes h (on_confirmed h.p h.v from term taken round)
confirmed_range h from term taken round most =
    let reads = with_round from round h.v.reads in
    let state : VolatileState = record h.v { reads = reads } in
    let counted = taken && (is_leader h.v.role && (term == h.p.term)) in
    adopts_or h term (if counted then does None state [] else does None h.v []) most (either (Goes h) counted (does None state []) (does None h.v [])
    (λ c. quiet h state [] (with_reads h.p h.v reads h.range.kept.round h.range) tt)
    (λ c. silent h))

pub confirming : (me : ℕ) (p : PersistentState) (reads : Reads) → StoredIsInRange p → reads.round ≤ most_index → AllByRecursion SentIsInRange (confirms me p reads)
confirming me p reads r most = all_told me p (Confirm p.term reads.round) r (r.term, most)

pub read_range : (h : Here) (call : Invocation) (attempt : ℕ) (op : List ℕ) → h.v.reads.round < most_index → Goes h (on_read h.me h.p h.v call attempt op)
read_range h call attempt op room =
    let reads = waits h.p h.v.reads call attempt op in
    let state : VolatileState = record h.v { reads = reads } in
    either (Goes h) (not (is_leader h.v.role)) (record (does None h.v []) { outcome = Refused (NotLeader h.v.leader) }) (if nat_le most_looks (length h.v.reads.looks) then record (does None h.v []) { outcome = Refused (Overloaded most_looks) } else begins_round h.me h.p h.v reads)
    (λ l sound. record { written = tt; sends = tt; after = h.range })
    (λ l. either (Goes h) (nat_le most_looks (length h.v.reads.looks)) (record (does None h.v []) { outcome = Refused (Overloaded most_looks) }) (begins_round h.me h.p h.v reads)
    (λ z sound. record { written = tt; sends = tt; after = h.range })
    (λ z. quiet h state (confirms h.me h.p reads) (with_reads h.p h.v reads (omega (arith, room)) h.range) (confirming h.me h.p reads h.range.stored (omega (arith, room)))))
