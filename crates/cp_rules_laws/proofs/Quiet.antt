-- What is shown of each rule, and the rules that write no more than a ballot, or one entry that a leader makes.
use Rattle.std.proofs.Common.{◌==◌, ◌&&◌, ◌≡◌, ℕ, suc, ◌-◌, ◌≤◌, inl, inr, ⊎_elim, not, Bool, true, false, List, [], ◌∷◌, ◌++◌, length, take, refl, ap, sym, ◌∙◌, subst, arith, Option, Some, None, nat_lt, nat_le, if◌then◌else◌, le_refl}
use Rattle.std.proofs.Math.Seq.{take-length}
use Rattle.cp_base.specs.declared.identifier.Invocation.{Invocation}
use Rattle.cp_answers.specs.declared.refusal.Refusal.{Refusal}
use Rattle.cp_answers.specs.declared.refusal.Refusal.TheVariants.{NotLeader, Overloaded}
use Rattle.cp_parts.specs.declared.log_entry.LogEntry.{LogEntry}
use Rattle.cp_log_rules.specs.Persistent.{PersistentState, last, term_at, with_ballot}
use Rattle.cp_rules.specs.declared.ballot.Ballot.{Ballot}
use Rattle.cp_rules.specs.declared.change.Change.{Change}
use Rattle.cp_rules.specs.declared.log_end.LogEnd.{LogEnd}
use Rattle.cp_rules.specs.declared.outcome.Outcome.{Outcome}
use Rattle.cp_rules.specs.declared.outcome.Outcome.TheVariants.{Done, Proposed, Refused}
use Rattle.cp_rules.specs.Limits.{most_looks}
use Rattle.cp_rules.specs.Spelling.{members_entry, empty_entry}
use Rattle.cp_rules.specs.Persistent.{ballot, log_end, members, is_member, with_part, ballot_part}
use Rattle.cp_rules.specs.Volatile.{VolatileState, peer, new_peer, with_peer}
use Rattle.cp_rules.specs.Local.{VoteReply, Event, Propose, ChangeMembers, LocalStep, Sent, does, leads_and, reply, is_leader, is_candidate, is_pre_candidate}
use Rattle.cp_rules.specs.Terms.{adopted, steps_down, steps_down_for, adopts}
use Rattle.cp_rules.specs.Sending.{append_to, chunk_from}
use Rattle.cp_rules.specs.Commit.{may_commit, commit_found, commits}
use Rattle.cp_rules.specs.Leadership.{created_part, creates, leading, takes_leadership}
use Rattle.cp_rules.specs.PreVotes.{is_up_to_date, with_vote, has_quorum, becomes_candidate, counts_prevote, on_prevote_reply}
use Rattle.cp_rules.specs.Votes.{grants_vote, counts_vote, on_vote, on_vote_reply}
use Rattle.cp_rules.specs.Requests.{refuses_entry, unless_refused, proposes, on_propose}
use Rattle.cp_rules.specs.Changes.{refuses_change, changed, with_added, changes, on_change}
use Rattle.cp_rules.specs.AppendReplies.{is_answered, matched_to, matches, falls_back, on_append_reply}
use Rattle.cp_rules.specs.Snapshots.{sends_more, on_snapshot_reply}
use Rattle.cp_rules.specs.Confirming.{with_round, on_confirmed, waits, begins_round, on_read}
use Rattle.cp_rules_facts.specs.Soundness.{IsSound}
use Rattle.cp_rules_facts.proofs.Basics.{either}
use Rattle.cp_rules_facts.proofs.Quiet.{after_ballot}
use Rattle.cp_rules_facts.proofs.Commits.{found, committing}
use Rattle.cp_rules_laws.specs.Writes.{after, IsMade, MakesEntry, Writes}

-- a sound member before its step
pub record At : Type 0 where
  pub me : ℕ
  pub p : PersistentState
  pub v : VolatileState
  pub sound : IsSound me p v

abbrev pub Goes : At → Event → LocalStep → Type 0
Goes h event s = Writes h.p h.v event (after h.p s)

-- ---- the log stays

-- what is left has another ballot, and a commit that is no lower
pub stays : (h : At) (event : Event) (term vote commit : ℕ) (leads : Bool) (outcome : Outcome) → h.v.commit ≤ commit → ((index : ℕ) → outcome ≡ Proposed index → ⊥)
    → Writes h.p h.v event (record { stored = with_ballot term vote h.p; commit = commit; leads = leads; outcome = outcome })
stays h event term vote commit leads outcome up none = record {
  rises = up;
  log = inl (record { base = record { base = refl; base_term = refl; base_config = refl; snapshot = refl }; log = refl });
  answers = λ index is. absurd (none index is);
}

no_index : (index : ℕ) → Done ≡ Proposed index → ⊥
no_index index is = cc

-- nothing is written
pub moves : (h : At) (event : Event) (w : VolatileState) (sends : List Sent) → h.v.commit ≤ w.commit → Goes h event (does None w sends)
moves h event w sends up = stays h event h.p.term h.p.vote w.commit (is_leader w.role) Done up no_index

pub still : (h : At) (event : Event) → Goes h event (does None h.v [])
still h event = moves h event h.v [] (le_refl h.v.commit)

refused : (h : At) (event : Event) (refusal : Refusal) → Goes h event (record (does None h.v []) { outcome = Refused refusal })
refused h event refusal = stays h event h.p.term h.p.vote h.v.commit (is_leader h.v.role) (Refused refusal) (le_refl h.v.commit) (λ index is. cc)

-- a ballot is written, if it is another
pub balloted : (h : At) (event : Event) (b : Ballot) (w : VolatileState) (sends : List Sent) → h.v.commit ≤ w.commit → Goes h event (does (ballot_part h.p b) w sends)
balloted h event b w sends up = subst (λ (q : PersistentState). Writes h.p h.v event (record { stored = q; commit = w.commit; leads = is_leader w.role; outcome = Done })) (sym (after_ballot h.p b))
    (stays h event b.term b.vote w.commit (is_leader w.role) Done up no_index)

pub adopts_or : (h : At) (event : Event) (term : ℕ) (s : LocalStep) → Goes h event s → Goes h event (if nat_lt h.p.term term then adopts term h.p h.v else s)
adopts_or h event term s goes = either (Goes h event) (nat_lt h.p.term term) (adopts term h.p h.v) s (λ l. stays h event term 0 h.v.commit false Done (le_refl h.v.commit) no_index) (λ l. goes)

-- ---- one entry is made

pub commit_up : (me : ℕ) (p : PersistentState) (v : VolatileState) → v.commit ≤ (commits me p v).commit
commit_up me p v =
    let i = commit_found me p v in
    let c = committing me p v i in
    ⊎_elim
    (λ (z : i ≡ v.commit). omega (arith, c.commit, z))
    (λ z. let low = z.0 in omega (arith, c.commit, low))
    (found (may_commit me (term_at p) p.term (members p) v.peers) v.commit (last p - v.commit))

pub made : (h : At) (event : Event) (w : VolatileState) (b : Ballot) (entry : List ℕ) (outcome : Outcome) → w.commit ≡ h.v.commit → IsMade h.p event outcome entry
    → Goes h event (record (creates h.me h.p w b entry) { outcome = outcome })
made h event w b entry outcome same source =
    let up = commit_up h.me (with_part (created_part h.p b entry) h.p) w in
    record { rises = omega (arith, up, same); log = inr (inr (inl makes)); answers = λ index is. makes }
  where
    makes : MakesEntry h.p event (after h.p (record (creates h.me h.p w b entry) { outcome = outcome }))
    makes = record {
      base = record { base = refl; base_term = refl; base_config = refl; snapshot = refl };
      entry = record { term = b.term; bytes = entry };
      log = ap (λ (l : List LogEntry). l ++ record { term = b.term; bytes = entry } ∷ []) (ap (λ n. take n h.p.log) (omega arith) ∙ take-length h.p.log);
      term = refl;
      leads = refl;
      made = source;
    }

-- ---- votes

pub prevote_reply_writes : (h : At) (event : Event) (from term : ℕ) (granted : Bool) → Goes h event (on_prevote_reply h.me h.p h.v from term granted)
prevote_reply_writes h event from term false = adopts_or h event term (does None h.v []) (still h event)
prevote_reply_writes h event from term true =
    let w = with_vote from h.v in
    either (Goes h event) (is_pre_candidate h.v.role && ((term == suc h.p.term) && is_member from (members h.p))) (counts_prevote h.me h.p w) (does None h.v [])
    (λ c. either (Goes h event) (has_quorum h.me (members h.p) w) (becomes_candidate h.me h.p w) (does None w [])
    (λ e. stays h event (suc h.p.term) h.me h.v.commit false Done (le_refl h.v.commit) no_index)
    (λ e. moves h event w [] (le_refl h.v.commit)))
    (λ c. still h event)

pub steps_down_same : (h : At) (term : ℕ) → h.v.commit ≤ (steps_down_for term h.p h.v).commit
steps_down_same h term = either (λ (z : VolatileState). h.v.commit ≤ z.commit) (nat_lt h.p.term term) (steps_down h.v) h.v (λ e. le_refl h.v.commit) (λ e. le_refl h.v.commit)

pub vote_writes : (h : At) (event : Event) (from term : ℕ) (candidate : LogEnd) → Goes h event (on_vote h.p h.v from term candidate)
vote_writes h event from term candidate =
    let now = adopted term (ballot h.p) in
    let z = steps_down_for term h.p h.v in
    let b : Ballot = record { term = term; vote = from } in
    let granted : VolatileState = record z { heard = h.v.clock } in
    either (Goes h event) (grants_vote now from term (is_up_to_date candidate (log_end h.p)))
    (does (ballot_part h.p b) granted (reply from (VoteReply term true)))
    (does (ballot_part h.p now) z (reply from (VoteReply now.term false)))
    (λ e. balloted h event b granted (reply from (VoteReply term true)) (steps_down_same h term))
    (λ e. balloted h event now z (reply from (VoteReply now.term false)) (steps_down_same h term))

pub vote_reply_writes : (h : At) (event : Event) (from term : ℕ) (granted : Bool) → Goes h event (on_vote_reply h.me h.p h.v from term granted)
vote_reply_writes h event from term granted =
    let w = with_vote from h.v in
    let counted = granted && (is_candidate h.v.role && ((term == h.p.term) && is_member from (members h.p))) in
    adopts_or h event term (if counted then counts_vote h.me h.p w else does None h.v []) (either (Goes h event) counted (counts_vote h.me h.p w) (does None h.v [])
    (λ c. either (Goes h event) (has_quorum h.me (members h.p) w) (takes_leadership h.me h.p w h.p.term) (does None w [])
    (λ e. made h event (leading h.me h.p w) (record { term = h.p.term; vote = h.me }) empty_entry Done refl (inl (refl, refl)))
    (λ e. moves h event w [] (le_refl h.v.commit)))
    (λ c. still h event))

-- ---- requests

or_refused : (h : At) (event : Event) (o : Option Refusal) (s : LocalStep) → Goes h event s → Goes h event (unless_refused o h.v s)
or_refused h event None s goes = goes
or_refused h event (Some refusal) s goes = refused h event refusal

-- an entry that is asked
pub proposed : (h : At) (event : Event) (w : VolatileState) (entry : List ℕ) → w.commit ≡ h.v.commit → IsMade h.p event (Proposed (suc (last h.p))) entry → Goes h event (proposes h.me h.p w entry)
proposed h event w entry same source = made h event w (ballot h.p) entry (Proposed (suc (last h.p))) same source

pub propose_writes : (h : At) (entry : List ℕ) → Goes h (Propose entry) (on_propose h.me h.p h.v entry)
propose_writes h entry = or_refused h (Propose entry) (refuses_entry h.p h.v) (proposes h.me h.p h.v entry) (proposed h (Propose entry) h.v entry refl (inr (refl, refl)))

pub change_writes : (h : At) (change : Change) (plan : ℕ) (call : Option Invocation) → Goes h (ChangeMembers change plan call) (on_change h.me h.p h.v change plan call)
change_writes h change plan call =
    let event = ChangeMembers change plan call in
    let w = with_added h.p h.v change in
    let same : w.commit ≡ h.v.commit = either (λ (z : VolatileState). z.commit ≡ h.v.commit) change.add (with_peer change.member.0 (new_peer (suc (last h.p))) h.v) h.v (λ e. refl) (λ e. refl) in
    or_refused h event (refuses_entry h.p h.v) (unless_refused (refuses_change h.p h.v change) h.v (changes h.me h.p h.v change plan call))
    (or_refused h event (refuses_change h.p h.v change) (changes h.me h.p h.v change plan call)
    (proposed h event w (members_entry call plan (changed change (members h.p))) same (inr (refl, refl))))

-- ---- replies at a leader

answered : (h : At) (event : Event) (from term : ℕ) (s : LocalStep) → Goes h event s → Goes h event (if nat_lt h.p.term term then adopts term h.p h.v else if not (is_answered h.p h.v from term) then does None h.v [] else s)
answered h event from term s goes = adopts_or h event term (if not (is_answered h.p h.v from term) then does None h.v [] else s)
    (either (Goes h event) (not (is_answered h.p h.v from term)) (does None h.v []) s (λ n. still h event) (λ n. goes))

matches_writes : (h : At) (event : Event) (from index : ℕ) → Goes h event (matches h.me h.p h.v from index)
matches_writes h event from index =
    let w = with_peer from (matched_to (peer h.v.peers from) index) h.v in
    let state = commits h.me h.p w in
    either (Goes h event) (nat_lt (peer h.v.peers from).matched index && nat_le index (last h.p))
    (leads_and (does None state (if is_leader state.role && nat_lt index (last h.p) then append_to h.p state from ∷ [] else []))) (does None h.v [])
    (λ e. stays h event h.p.term h.p.vote state.commit true Done (commit_up h.me h.p w) no_index)
    (λ e. still h event)

pub append_reply_writes : (h : At) (event : Event) (from term : ℕ) (taken : Bool) (index : ℕ) → Goes h event (on_append_reply h.me h.p h.v from term taken index)
append_reply_writes h event from term true index = answered h event from term (matches h.me h.p h.v from index) (matches_writes h event from index)
append_reply_writes h event from term false index =
    let s = falls_back h.p h.v from index in answered h event from term s (moves h event s.state s.sends (le_refl h.v.commit))

more_writes : (h : At) (event : Event) (from index received : ℕ) → Goes h event (sends_more h.p h.v from index received)
more_writes h event from index received =
    let w = with_peer from (record (peer h.v.peers from) { offset = received }) h.v in
    let more = reply from (chunk_from h.p received) in
    either (Goes h event) ((index == h.p.base) && (nat_le received (length h.p.snapshot) && nat_le (peer h.v.peers from).next h.p.base)) (does None w more) (does None h.v [])
    (λ e. moves h event w more (le_refl h.v.commit))
    (λ e. still h event)

pub snapshot_reply_writes : (h : At) (event : Event) (from term index : ℕ) (done : Bool) (received : ℕ) → Goes h event (on_snapshot_reply h.me h.p h.v from term index done received)
snapshot_reply_writes h event from term index true received = answered h event from term (matches h.me h.p h.v from index) (matches_writes h event from index)
snapshot_reply_writes h event from term index false received = answered h event from term (sends_more h.p h.v from index received) (more_writes h event from index received)

-- ---- confirmations

pub confirmed_writes : (h : At) (event : Event) (from term : ℕ) (taken : Bool) (round : ℕ) → Goes h event (on_confirmed h.p h.v from term taken round)
confirmed_writes h event from term taken round =
    let state : VolatileState = record h.v { reads = with_round from round h.v.reads } in
    let counted = taken && (is_leader h.v.role && (term == h.p.term)) in
    adopts_or h event term (if counted then does None state [] else does None h.v []) (either (Goes h event) counted (does None state []) (does None h.v [])
    (λ c. moves h event state [] (le_refl h.v.commit))
    (λ c. still h event))

pub read_writes : (h : At) (event : Event) (call : Invocation) (attempt : ℕ) (op : List ℕ) → Goes h event (on_read h.me h.p h.v call attempt op)
read_writes h event call attempt op =
    let s = begins_round h.me h.p h.v (waits h.p h.v.reads call attempt op) in
    let late : LocalStep = record (does None h.v []) { outcome = Refused (Overloaded most_looks) } in
    either (Goes h event) (not (is_leader h.v.role)) (record (does None h.v []) { outcome = Refused (NotLeader h.v.leader) }) (if nat_le most_looks (length h.v.reads.looks) then late else s)
    (λ l. refused h event (NotLeader h.v.leader))
    (λ l. either (Goes h event) (nat_le most_looks (length h.v.reads.looks)) late s
    (λ z. refused h event (Overloaded most_looks))
    (λ z. moves h event s.state s.sends (le_refl h.v.commit)))
