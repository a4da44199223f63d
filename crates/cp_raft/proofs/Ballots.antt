-- A step on a vote that brings no leadership writes a State at most.
use Rattle.std.proofs.Common.{◌≡◌, ◌&&◌, ◌==◌, ℕ, suc, ⊎_elim, not, Bool, true, false, true≢false, IfSome, List, [], refl, sym, ap, subst, ◌∙◌, Option, Some, None, nat_lt, if◌then◌else◌}
use Rattle.std.specs.Option.{option_map}
use Rattle.std.proofs.lemmas.Bool.{cases_Bool, and_parts}
use Rattle.cp_base.specs.declared.identifier.GroupId.{GroupId}
use Rattle.cp_log.specs.Changes.{is_state}
use Rattle.cp_log_rules.specs.Persistent.{PersistentState}
use Rattle.cp_rules.specs.declared.ballot.Ballot.{Ballot}
use Rattle.cp_rules.specs.declared.log_end.LogEnd.{LogEnd}
use Rattle.cp_rules.specs.Parts.{part_of}
use Rattle.cp_rules.specs.Persistent.{Part, StatePart, ballot, ballot_part, log_end, members, is_member}
use Rattle.cp_rules.specs.Volatile.{VolatileState}
use Rattle.cp_rules.specs.Local.{Body, PreVote, PreVoteReply, Vote, VoteReply, Append, AppendReply, Snapshot, SnapshotReply, Confirm, Confirmed, Event, Tick, Got, Propose, ChangeMembers, Read, Sent, LocalStep, does, reply, is_leader, is_candidate, is_pre_candidate}
use Rattle.cp_rules.specs.Terms.{adopted, steps_down_for, adopts}
use Rattle.cp_rules.specs.Leadership.{takes_leadership}
use Rattle.cp_rules.specs.PreVotes.{with_vote, has_quorum, becomes_candidate, counts_prevote, on_prevote, on_prevote_reply, is_up_to_date}
use Rattle.cp_rules.specs.Votes.{grants_vote, on_vote, counts_vote, on_vote_reply}
use Rattle.cp_rules.specs.Confirming.{settles}
use Rattle.cp_rules.specs.Steps.{rule, step}
use Rattle.cp_rules_facts.proofs.Basics.{either, candidate_is}
use Rattle.cp_raft.specs.Frugal.{is_voting}
use Rattle.cp_raft.specs.Offices.{takes_office}
use Rattle.cp_raft.proofs.Voting.{same_office}

-- a State, or no part at all
abbrev pub IsBallot : GroupId → Option Part → Type 0
IsBallot group o = IfSome (option_map (part_of group) o) (λ x. is_state x ≡ true)

ballot_is : (group : GroupId) (b : Ballot) → IsBallot group (Some (StatePart b))
ballot_is group b = refl

module _ (group : GroupId) (me : ℕ) (p : PersistentState) (v : VolatileState) where
  abbrev Writes : LocalStep → Type 0
  Writes s = takes_office v s ≡ false → IsBallot group s.part

  none_written : (w : VolatileState) (sends : List Sent) → Writes (does None w sends)
  none_written w sends none = tt

  ballot_written : (b : Ballot) (w : VolatileState) (sends : List Sent) → Writes (does (ballot_part p b) w sends)
  ballot_written b w sends none = either (IsBallot group) ((p.term == b.term) && (p.vote == b.vote)) None (Some (StatePart b)) (λ h. tt) (λ h. ballot_is group b)

  adopts_writes : (term : ℕ) → Writes (adopts term p v)
  adopts_writes term none = ballot_is group (record { term = term; vote = 0 })

  -- it brings leadership
  taken : (w : VolatileState) (term : ℕ) → is_leader v.role ≡ false → Writes (takes_leadership me p w term)
  taken w term follows none =
      let office : takes_office v (takes_leadership me p w term) ≡ true = rw follows refl in
      absurd (true≢false (sym office ∙ none))

  prevote_reply : (from term : ℕ) (granted : Bool) → Writes (on_prevote_reply me p v from term granted)
  prevote_reply from term granted =
      let counted = is_pre_candidate v.role && ((term == suc p.term) && is_member from (members p)) in
      let w = with_vote from v in
      either Writes (not granted) (if nat_lt p.term term then adopts term p v else does None v []) (if counted then counts_prevote me p w else does None v [])
      (λ h. either Writes (nat_lt p.term term) (adopts term p v) (does None v []) (λ k. adopts_writes term) (λ k. none_written v []))
      (λ h. either Writes counted (counts_prevote me p w) (does None v [])
      (λ k. either Writes (has_quorum me (members p) w) (becomes_candidate me p w) (does None w []) (λ e. λ none. ballot_is group (record { term = suc p.term; vote = me })) (λ e. none_written w []))
      (λ k. none_written v []))

  vote_asked : (from term : ℕ) (candidate : LogEnd) → Writes (on_vote p v from term candidate)
  vote_asked from term candidate =
      let now = adopted term (ballot p) in
      let w = steps_down_for term p v in
      let given : Ballot = record { term = term; vote = from } in
      let heard : VolatileState = record w { heard = v.clock } in
      either Writes (grants_vote now from term (is_up_to_date candidate (log_end p))) (does (ballot_part p given) heard (reply from (VoteReply term true))) (does (ballot_part p now) w (reply from (VoteReply now.term false)))
      (λ h. ballot_written given heard (reply from (VoteReply term true)))
      (λ h. ballot_written now w (reply from (VoteReply now.term false)))

  not_yet : is_candidate v.role ≡ true → is_leader v.role ≡ false
  not_yet h = ap is_leader (candidate_is v.role h)

  vote_reply : (from term : ℕ) (granted : Bool) → Writes (on_vote_reply me p v from term granted)
  vote_reply from term granted =
      let rest = (term == p.term) && is_member from (members p) in
      let counted = granted && (is_candidate v.role && rest) in
      let w = with_vote from v in
      either Writes (nat_lt p.term term) (adopts term p v) (if counted then counts_vote me p w else does None v [])
      (λ h. adopts_writes term)
      (λ h. either Writes counted (counts_vote me p w) (does None v [])
      (λ k. either Writes (has_quorum me (members p) w) (takes_leadership me p w p.term) (does None w [])
      (λ e. taken w p.term (not_yet (and_parts (is_candidate v.role) rest (and_parts granted (is_candidate v.role && rest) k).1).0))
      (λ e. none_written w []))
      (λ k. none_written v []))

  prevote_asked : (from term : ℕ) (candidate : LogEnd) → Writes (on_prevote p v from term candidate)
  prevote_asked from term candidate none = tt

  on_message_writes : (from : ℕ) (body : Body) → is_voting (Got from body) ≡ true → Writes (rule me p v (Got from body))
  on_message_writes from (PreVote term candidate) voting = prevote_asked from term candidate
  on_message_writes from (PreVoteReply term granted) voting = prevote_reply from term granted
  on_message_writes from (Vote term candidate) voting = vote_asked from term candidate
  on_message_writes from (VoteReply term granted) voting = vote_reply from term granted
  on_message_writes from (Append term previous previous_term commit entries) voting = absurd (true≢false (sym voting))
  on_message_writes from (AppendReply term accepted index) voting = absurd (true≢false (sym voting))
  on_message_writes from (Snapshot term index offset is_last bytes) voting = absurd (true≢false (sym voting))
  on_message_writes from (SnapshotReply term index done received) voting = absurd (true≢false (sym voting))
  on_message_writes from (Confirm term round) voting = absurd (true≢false (sym voting))
  on_message_writes from (Confirmed term accepted round) voting = absurd (true≢false (sym voting))

  voting_writes : (event : Event) → is_voting event ≡ true → Writes (rule me p v event)
  voting_writes (Tick clock may_write expiry machine) voting = absurd (true≢false (sym voting))
  voting_writes (Got from body) voting = on_message_writes from body voting
  voting_writes (Propose entry) voting = absurd (true≢false (sym voting))
  voting_writes (ChangeMembers change plan call) voting = absurd (true≢false (sym voting))
  voting_writes (Read call attempt op) voting = absurd (true≢false (sym voting))

settles_part : (me : ℕ) (p : PersistentState) (v : VolatileState) (s : LocalStep) → (settles me p v s).part ≡ s.part
settles_part me p v s = ⊎_elim
    (λ (e : is_leader s.state.role ≡ true). rw e refl)
    (λ (e : is_leader s.state.role ≡ false). rw e refl)
    (cases_Bool (is_leader s.state.role))

pub votes_write_a_ballot : (group : GroupId) (me : ℕ) (p : PersistentState) (v : VolatileState) (event : Event) → is_voting event ≡ true → takes_office v (step me p v event) ≡ false → IsBallot group (step me p v event).part
votes_write_a_ballot group me p v event voting none =
    subst (IsBallot group) (sym (settles_part me p v (rule me p v event))) (voting_writes group me p v event voting (same_office me p v event none))
