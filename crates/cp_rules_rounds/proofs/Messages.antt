-- What votes and the replies at a leader do to rounds.
use Rattle.std.proofs.Common.{◌==◌, ◌&&◌, ◌||◌, ◌≡◌, ℕ, suc, inl, inr, All, not, Bool, true, false, List, [], ◌∷◌, length, map, refl, sym, ◌∙◌, arith, None, nat_lt, nat_le, if◌then◌else◌, eqb-true}
use Rattle.std.proofs.lemmas.Bool.{and_parts}
use Rattle.std.proofs.lemmas.List.Elements.{All-nil, All-cons}
use Rattle.cp_log_rules.specs.Persistent.{PersistentState, last, with_ballot}
use Rattle.cp_rules.specs.declared.ballot.Ballot.{Ballot}
use Rattle.cp_rules.specs.declared.log_end.LogEnd.{LogEnd}
use Rattle.cp_rules.specs.declared.role.Role.TheVariants.{Candidate, Leader}
use Rattle.cp_rules.specs.Persistent.{ballot, log_end, members, others, is_member, ballot_part}
use Rattle.cp_rules.specs.Volatile.{VolatileState, peer, with_peer}
use Rattle.cp_rules.specs.Local.{Vote, VoteReply, PreVoteReply, Event, LocalStep, Sent, does, send, is_leader, is_candidate, is_pre_candidate}
use Rattle.cp_rules.specs.Terms.{adopted, steps_down_for, adopts}
use Rattle.cp_rules.specs.Sending.{append_to, chunk_from}
use Rattle.cp_rules.specs.Commit.{commits}
use Rattle.cp_rules.specs.Leadership.{takes_leadership}
use Rattle.cp_rules.specs.PreVotes.{grants_prevote, on_prevote, is_up_to_date, with_vote, has_quorum, becomes_candidate, counts_prevote, on_prevote_reply}
use Rattle.cp_rules.specs.Votes.{grants_vote, counts_vote, on_vote, on_vote_reply}
use Rattle.cp_rules.specs.AppendReplies.{is_answered, matched_to, matches, next_tried, falls_back, on_append_reply}
use Rattle.cp_rules.specs.Snapshots.{sends_more, on_snapshot_reply}
use Rattle.cp_rules_facts.proofs.Basics.{either, candidate_is, one}
use Rattle.cp_rules_rounds.proofs.Quiet.{At, Says, Goes, kept, still, says_one, stepped, adopts_or, append_one, committing, was, low_leader, low_candidate, takes}

-- ---- votes

pub prevote_rounds : (h : At) (event : Event) (from term : ℕ) (candidate : LogEnd) → Goes h event (on_prevote h.p h.v from term candidate)
prevote_rounds h event from term candidate =
    let granted = grants_prevote h.p h.v term candidate in
    let x : Sent = send from (PreVoteReply (if granted then term else h.p.term) granted) in
    says_one h event h.v (x ∷ []) refl refl (one (Says h event h.p h.v) x tt)

pub prevote_reply_rounds : (h : At) (event : Event) (from term : ℕ) (granted : Bool) → Goes h event (on_prevote_reply h.me h.p h.v from term granted)
prevote_reply_rounds h event from term false = adopts_or h event term (does None h.v []) (still h event)
prevote_reply_rounds h event from term true =
    let w = with_vote from h.v in
    let s = becomes_candidate h.me h.p w in
    let q = with_ballot (suc h.p.term) h.me h.p in
    either (Goes h event) (is_pre_candidate h.v.role && ((term == suc h.p.term) && is_member from (members h.p))) (counts_prevote h.me h.p w) (does None h.v [])
    (λ c. either (Goes h event) (has_quorum h.me (members h.p) w) s (does None w [])
    (λ e. (
      (refl, refl),
      record {
        term = omega arith;
        says = all_votes h event q s.state (others h.me (members h.p)) (suc h.p.term) (log_end h.p);
        leads = λ l. absurd (let z : Candidate ≡ Leader = l in cc);
        stands = λ l. inr (omega arith);
        keeps = λ l m. absurd (let z : Candidate ≡ Leader = l in cc);
      },
    ))
    (λ e. says_one h event w [] refl refl (All-nil (Says h event h.p w))))
    (λ c. still h event)
  where
    all_votes : (h : At) (event : Event) (q : PersistentState) (w : VolatileState) (ms : List ℕ) (term : ℕ) (end : LogEnd) → All (Says h event q w) (map (λ f. send f (Vote term end)) ms)
    all_votes h event q w [] term end = All-nil (Says h event q w)
    all_votes h event q w (m ∷ ms) term end = All-cons (Says h event q w) (send m (Vote term end)) (map (λ f. send f (Vote term end)) ms) tt (all_votes h event q w ms term end)

pub vote_rounds : (h : At) (event : Event) (from term : ℕ) (candidate : LogEnd) → Goes h event (on_vote h.p h.v from term candidate)
vote_rounds h event from term candidate =
    let now = adopted term (ballot h.p) in
    let z = steps_down_for term h.p h.v in
    let b : Ballot = record { term = term; vote = from } in
    let granted : VolatileState = record z { heard = h.v.clock } in
    let fits = is_up_to_date candidate (log_end h.p) in
    let yes : Sent = send from (VoteReply term true) in
    let no : Sent = send from (VoteReply now.term false) in
    either (Goes h event) (grants_vote now from term fits)
    (does (ballot_part h.p b) granted (yes ∷ []))
    (does (ballot_part h.p now) z (no ∷ []))
    (λ e. stepped h event term b granted (yes ∷ []) (eqb-true now.term term (and_parts (now.term == term) (((now.vote == 0) || (now.vote == from)) && fits) e).0) refl refl
    (one (Says h event (with_ballot term from h.p) granted) yes tt))
    (λ e. stepped h event term now z (no ∷ []) refl refl refl (one (Says h event (with_ballot now.term now.vote h.p) z) no tt))

pub vote_reply_rounds : (h : At) (event : Event) (from term : ℕ) (granted : Bool) → Goes h event (on_vote_reply h.me h.p h.v from term granted)
vote_reply_rounds h event from term granted =
    let w = with_vote from h.v in
    let rest = is_candidate h.v.role && ((term == h.p.term) && is_member from (members h.p)) in
    adopts_or h event term (if granted && rest then counts_vote h.me h.p w else does None h.v []) (either (Goes h event) (granted && rest) (counts_vote h.me h.p w) (does None h.v [])
    (λ c. either (Goes h event) (has_quorum h.me (members h.p) w) (takes_leadership h.me h.p w h.p.term) (does None w [])
    (λ e. let standing = candidate_is h.v.role (and_parts (is_candidate h.v.role) ((term == h.p.term) && is_member from (members h.p)) (and_parts granted rest c).1).0 in
    takes h event w h.p.term (λ l. let z : Candidate ≡ Leader = sym standing ∙ l in cc) (inl (standing, refl)))
    (λ e. says_one h event w [] refl refl (All-nil (Says h event h.p w))))
    (λ c. still h event))

-- ---- replies at a leader

answered : (h : At) (event : Event) (from term : ℕ) (s : LocalStep) → Goes h event s → Goes h event (if nat_lt h.p.term term then adopts term h.p h.v else if not (is_answered h.p h.v from term) then does None h.v [] else s)
answered h event from term s goes = adopts_or h event term (if not (is_answered h.p h.v from term) then does None h.v [] else s)
    (either (Goes h event) (not (is_answered h.p h.v from term)) (does None h.v []) s (λ n. still h event) (λ n. goes))

matches_rounds : (h : At) (event : Event) (from index : ℕ) → Goes h event (matches h.me h.p h.v from index)
matches_rounds h event from index =
    let w = with_peer from (matched_to (peer h.v.peers from) index) h.v in
    let state = commits h.me h.p w in
    let more = is_leader state.role && nat_lt index (last h.p) in
    let c = committing h.me h.p w in
    either (Goes h event) (nat_lt (peer h.v.peers from).matched index && nat_le index (last h.p))
    (record (does None state (if more then append_to h.p state from ∷ [] else [])) { leads = true }) (does None h.v [])
    (λ e. ((refl, refl), kept h event h.p state (if more then append_to h.p state from ∷ [] else []) refl (λ l. was w state c Leader low_leader l) (λ l. was w state c Candidate low_candidate l) c.reads (append_one h event h.p state h.p state from more)))
    (λ e. still h event)

falls_rounds : (h : At) (event : Event) (from index : ℕ) → Goes h event (falls_back h.p h.v from index)
falls_rounds h event from index =
    let next = next_tried (peer h.v.peers from) index in
    let w = with_peer from (record (peer h.v.peers from) { next = next }) h.v in
    let more = nat_lt next (peer h.v.peers from).next in
    says_one h event w (if more then append_to h.p w from ∷ [] else []) refl refl (append_one h event h.p w h.p w from more)

pub append_reply_rounds : (h : At) (event : Event) (from term : ℕ) (taken : Bool) (index : ℕ) → Goes h event (on_append_reply h.me h.p h.v from term taken index)
append_reply_rounds h event from term true index = answered h event from term (matches h.me h.p h.v from index) (matches_rounds h event from index)
append_reply_rounds h event from term false index = answered h event from term (falls_back h.p h.v from index) (falls_rounds h event from index)

more_rounds : (h : At) (event : Event) (from index received : ℕ) → Goes h event (sends_more h.p h.v from index received)
more_rounds h event from index received =
    let w = with_peer from (record (peer h.v.peers from) { offset = received }) h.v in
    let x : Sent = send from (chunk_from h.p received) in
    either (Goes h event) ((index == h.p.base) && (nat_le received (length h.p.snapshot) && nat_le (peer h.v.peers from).next h.p.base)) (does None w (x ∷ [])) (does None h.v [])
    (λ e. says_one h event w (x ∷ []) refl refl (one (Says h event h.p w) x tt))
    (λ e. still h event)

pub snapshot_reply_rounds : (h : At) (event : Event) (from term index : ℕ) (done : Bool) (received : ℕ) → Goes h event (on_snapshot_reply h.me h.p h.v from term index done received)
snapshot_reply_rounds h event from term index true received = answered h event from term (matches h.me h.p h.v from index) (matches_rounds h event from index)
snapshot_reply_rounds h event from term index false received = answered h event from term (sends_more h.p h.v from index received) (more_rounds h event from index received)
