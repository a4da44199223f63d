-- What a step on a vote leaves of the reads, and that no read can be answered after a step.
use Rattle.std.proofs.Common.{◌≡◌, ◌&&◌, ◌==◌, ℕ, suc, ⊎_elim, not, Bool, true, false, true≢false, List, [], ◌∷◌, filter, refl, sym, ap, subst, ◌∙◌, Option, Some, None, nat_lt, if◌then◌else◌}
use Rattle.std.specs.Prelude.{IfSome}
use Rattle.std.specs.Option.{option_map}
use Rattle.std.proofs.lemmas.Bool.{cases_Bool, and_parts}
use Rattle.cp_base.specs.declared.identifier.GroupId.{GroupId}
use Rattle.cp_message.specs.declared.message.Message.{Message}
use Rattle.cp_parts.specs.declared.part.Part as journal
use Rattle.cp_parts.specs.declared.part.Part.TheVariants as part
use Rattle.cp_log_rules.specs.Persistent.{PersistentState}
use Rattle.cp_rules.specs.declared.ballot.Ballot.{Ballot}
use Rattle.cp_rules.specs.declared.log_end.LogEnd.{LogEnd}
use Rattle.cp_rules.specs.Parts.{part_of}
use Rattle.cp_rules.specs.Persistent.{Part, StatePart, ballot, ballot_part, log_end, members, is_member, after_part}
use Rattle.cp_rules.specs.Volatile.{Reads, VolatileState, started}
use Rattle.cp_rules.specs.Local.{Body, PreVote, PreVoteReply, Vote, VoteReply, Append, AppendReply, Snapshot, SnapshotReply, Confirm, Confirmed, Event, Tick, Got, Propose, ChangeMembers, Read, Sent, LocalStep, does, reply, is_leader, is_candidate, is_pre_candidate}
use Rattle.cp_rules.specs.Terms.{adopted, steps_down, steps_down_for, adopts}
use Rattle.cp_rules.specs.Leadership.{takes_leadership}
use Rattle.cp_rules.specs.PreVotes.{with_vote, has_quorum, becomes_candidate, counts_prevote, on_prevote_reply, is_up_to_date}
use Rattle.cp_rules.specs.Votes.{grants_vote, on_vote, counts_vote, on_vote_reply}
use Rattle.cp_rules.specs.Confirming.{is_ready, settles}
use Rattle.cp_rules.specs.Steps.{rule, step}
use Rattle.cp_rules_facts.proofs.Basics.{either, candidate_is}
use Rattle.cp_raft_state.specs.declared.did.Did.{Did}
use Rattle.cp_raft_state.specs.declared.seat.Seat.{Seat}
use Rattle.cp_raft_state.specs.Doing.{Does}
use Rattle.cp_raft.specs.Frugal.{is_on_vote, is_voting, NoneReady, has_entries}
use Rattle.cp_raft.specs.Offices.{takes_office}
use Rattle.cp_raft.specs.Settling.{brought_by}

-- ---- a rule on a vote

-- Where it leaves a leader, and brings no leadership, it puts nothing into the log, and the reads that wait are as ready as before.
pub record Rests (group : GroupId) (v : VolatileState) (s : LocalStep) : Type 0 where
  pub part : has_entries (option_map (part_of group) s.part) ≡ false
  pub reads : s.state.reads ≡ v.reads
  pub commit : s.state.commit ≡ v.commit

module _ (group : GroupId) (me : ℕ) (p : PersistentState) (v : VolatileState) where
  abbrev Keeps : LocalStep → Type 0
  Keeps s = takes_office v s ≡ false → is_leader s.state.role ≡ true → Rests group v s

  -- ---- how rules end

  quiet : (w : VolatileState) (sends : List Sent) → w.reads ≡ v.reads → w.commit ≡ v.commit → Keeps (does None w sends)
  quiet w sends reads commit none leads = record { part = refl; reads = reads; commit = commit }

  silent : Keeps (does None v [])
  silent = quiet v [] refl refl

  ballot_alone : (b : Ballot) → has_entries (option_map (part_of group) (ballot_part p b)) ≡ false
  ballot_alone b = either (λ (o : Option Part). has_entries (option_map (part_of group) o) ≡ false) ((p.term == b.term) && (p.vote == b.vote)) None (Some (StatePart b)) (λ h. refl) (λ h. refl)

  balloted : (b : Ballot) (w : VolatileState) (sends : List Sent) → w.reads ≡ v.reads → w.commit ≡ v.commit → Keeps (does (ballot_part p b) w sends)
  balloted b w sends reads commit none leads = record { part = ballot_alone b; reads = reads; commit = commit }

  -- it does not lead
  led : (s : LocalStep) → is_leader s.state.role ≡ false → Keeps s
  led s follows none leads = absurd (true≢false (sym leads ∙ follows))

  adopts_keeps : (term : ℕ) → Keeps (adopts term p v)
  adopts_keeps term = led (adopts term p v) refl

  -- it brings leadership
  taken : (w : VolatileState) (term : ℕ) → is_leader v.role ≡ false → Keeps (takes_leadership me p w term)
  taken w term follows none leads =
      let office : takes_office v (takes_leadership me p w term) ≡ true = rw follows refl in
      absurd (true≢false (sym office ∙ none))

  -- ---- each rule

  prevote_reply : (from term : ℕ) (granted : Bool) → Keeps (on_prevote_reply me p v from term granted)
  prevote_reply from term granted =
      let counted = is_pre_candidate v.role && ((term == suc p.term) && is_member from (members p)) in
      let w = with_vote from v in
      either Keeps (not granted) (if nat_lt p.term term then adopts term p v else does None v []) (if counted then counts_prevote me p w else does None v [])
      (λ h. either Keeps (nat_lt p.term term) (adopts term p v) (does None v []) (λ k. adopts_keeps term) (λ k. silent))
      (λ h. either Keeps counted (counts_prevote me p w) (does None v [])
      (λ k. either Keeps (has_quorum me (members p) w) (becomes_candidate me p w) (does None w []) (λ e. led (becomes_candidate me p w) refl) (λ e. quiet w [] refl refl))
      (λ k. silent))

  stepped_reads : (term : ℕ) → (steps_down_for term p v).reads ≡ v.reads
  stepped_reads term = either (λ (z : VolatileState). z.reads ≡ v.reads) (nat_lt p.term term) (steps_down v) v (λ h. refl) (λ h. refl)

  stepped_commit : (term : ℕ) → (steps_down_for term p v).commit ≡ v.commit
  stepped_commit term = either (λ (z : VolatileState). z.commit ≡ v.commit) (nat_lt p.term term) (steps_down v) v (λ h. refl) (λ h. refl)

  vote_asked : (from term : ℕ) (candidate : LogEnd) → Keeps (on_vote p v from term candidate)
  vote_asked from term candidate =
      let now = adopted term (ballot p) in
      let w = steps_down_for term p v in
      let given : Ballot = record { term = term; vote = from } in
      let heard : VolatileState = record w { heard = v.clock } in
      either Keeps (grants_vote now from term (is_up_to_date candidate (log_end p))) (does (ballot_part p given) heard (reply from (VoteReply term true))) (does (ballot_part p now) w (reply from (VoteReply now.term false)))
      (λ h. balloted given heard (reply from (VoteReply term true)) (stepped_reads term) (stepped_commit term))
      (λ h. balloted now w (reply from (VoteReply now.term false)) (stepped_reads term) (stepped_commit term))

  not_yet : is_candidate v.role ≡ true → is_leader v.role ≡ false
  not_yet h = ap is_leader (candidate_is v.role h)

  vote_reply : (from term : ℕ) (granted : Bool) → Keeps (on_vote_reply me p v from term granted)
  vote_reply from term granted =
      let rest = (term == p.term) && is_member from (members p) in
      let counted = granted && (is_candidate v.role && rest) in
      let w = with_vote from v in
      either Keeps (nat_lt p.term term) (adopts term p v) (if counted then counts_vote me p w else does None v [])
      (λ h. adopts_keeps term)
      (λ h. either Keeps counted (counts_vote me p w) (does None v [])
      (λ k. either Keeps (has_quorum me (members p) w) (takes_leadership me p w p.term) (does None w [])
      (λ e. taken w p.term (not_yet (and_parts (is_candidate v.role) rest (and_parts granted (is_candidate v.role && rest) k).1).0))
      (λ e. quiet w [] refl refl))
      (λ k. silent))

  on_message_keeps : (from : ℕ) (body : Body) → is_voting (Got from body) ≡ true → Keeps (rule me p v (Got from body))
  on_message_keeps from (PreVote term candidate) voting = quiet v _ refl refl
  on_message_keeps from (PreVoteReply term granted) voting = prevote_reply from term granted
  on_message_keeps from (Vote term candidate) voting = vote_asked from term candidate
  on_message_keeps from (VoteReply term granted) voting = vote_reply from term granted
  on_message_keeps from (Append term previous previous_term commit entries) voting = absurd (true≢false (sym voting))
  on_message_keeps from (AppendReply term accepted index) voting = absurd (true≢false (sym voting))
  on_message_keeps from (Snapshot term index offset is_last bytes) voting = absurd (true≢false (sym voting))
  on_message_keeps from (SnapshotReply term index done received) voting = absurd (true≢false (sym voting))
  on_message_keeps from (Confirm term round) voting = absurd (true≢false (sym voting))
  on_message_keeps from (Confirmed term accepted round) voting = absurd (true≢false (sym voting))

  pub voting_keeps : (event : Event) → is_voting event ≡ true → Keeps (rule me p v event)
  voting_keeps (Tick clock may_write expiry machine) voting = absurd (true≢false (sym voting))
  voting_keeps (Got from body) voting = on_message_keeps from body voting
  voting_keeps (Propose entry) voting = absurd (true≢false (sym voting))
  voting_keeps (ChangeMembers change plan call) voting = absurd (true≢false (sym voting))
  voting_keeps (Read call attempt op) voting = absurd (true≢false (sym voting))

-- ---- reads that are settled

-- what passes a test is not among the rest
none_left : {A : Type 0} (test : A → Bool) (xs : List A) → filter test (filter (λ x. not (test x)) xs) ≡ []
none_left test [] = refl
none_left test (x ∷ xs) = ⊎_elim
    (λ (e : test x ≡ true). rw e (none_left test xs))
    (λ (e : test x ≡ false). rw (e, e) (none_left test xs))
    (cases_Bool (test x))

settled : (me : ℕ) (p : PersistentState) (v : VolatileState) (s : LocalStep) → NoneReady me (after_part (settles me p v s).part p) (settles me p v s).state
settled me p v s = ⊎_elim
    (λ (e : is_leader s.state.role ≡ true). rw e (none_left (is_ready me (members (after_part s.part p)) s.state.reads s.state.commit) s.state.reads.looks))
    (λ (e : is_leader s.state.role ≡ false). rw e refl)
    (cases_Bool (is_leader s.state.role))

-- After a step no read that waits can be answered: those that could were.
pub none_ready_after : (me : ℕ) (p : PersistentState) (v : VolatileState) (event : Event) → NoneReady me (after_part (step me p v event).part p) (step me p v event).state
none_ready_after me p v event = settled me p v (rule me p v event)

-- None waits after a start.
pub none_ready_at_first : (me : ℕ) (p : PersistentState) (base clock : ℕ) → NoneReady me p (started base clock)
none_ready_at_first me p base clock = refl

settles_leads : (me : ℕ) (p : PersistentState) (v : VolatileState) (s : LocalStep) → (settles me p v s).leads ≡ s.leads
settles_leads me p v s = ⊎_elim
    (λ (e : is_leader s.state.role ≡ true). rw e refl)
    (λ (e : is_leader s.state.role ≡ false). rw e refl)
    (cases_Bool (is_leader s.state.role))

-- ---- between a rule and the settling of reads

-- Settling the reads brings no leadership.
pub same_office : (me : ℕ) (p : PersistentState) (v : VolatileState) (event : Event) → takes_office v (step me p v event) ≡ false → takes_office v (rule me p v event) ≡ false
same_office me p v event none = ap (λ (leads : Bool). not (is_leader v.role) && leads) (sym (settles_leads me p v (rule me p v event))) ∙ none

-- a part without entries brings no configuration
pub brings_none : (index : ℕ) (x : Option journal.Part) → has_entries x ≡ false → brought_by index x ≡ None
brings_none index None none = refl
brings_none index (Some (part.Start restart)) none = refl
brings_none index (Some (part.State group term vote)) none = refl
brings_none index (Some (part.Append group term vote after entries)) none = absurd (true≢false none)
brings_none index (Some (part.Begin group first)) none = refl
brings_none index (Some (part.End group)) none = refl
brings_none index (Some (part.Snapshot group term vote base bytes)) none = refl
brings_none index (Some (part.Start2 restart)) none = refl

-- no read can be answered by a leader after a rule on a vote
pub rests_between : (seat : Seat) (p : PersistentState) (v between : VolatileState) (o : Option Event) (event : Event) (did : Did) (first middle : List Message)
    → IfSome o (λ e. Does seat (rule seat.me p v e) did between first middle)
    → o ≡ Some event
    → is_voting event ≡ true
    → takes_office v (step seat.me p v event) ≡ false
    → NoneReady seat.me p v
    → is_leader between.role ≡ true
    → (has_entries did.part ≡ false) × NoneReady seat.me p between
rests_between seat p v between o event did first middle some is voting none ready leads =
    let s = rule seat.me p v event in
    let does : Does seat s did between first middle = subst (λ (x : Option Event). IfSome x (λ e. Does seat (rule seat.me p v e) did between first middle)) is some in
    let state : between ≡ s.state = does.state in
    let rests = voting_keeps seat.group seat.me p v event voting (same_office seat.me p v event none) (ap (λ (z : VolatileState). is_leader z.role) (sym state) ∙ leads) in
    let reads : between.reads ≡ v.reads = ap (λ (z : VolatileState). z.reads) state ∙ rests.reads in
    let commit : between.commit ≡ v.commit = ap (λ (z : VolatileState). z.commit) state ∙ rests.commit in (
      ap has_entries does.part ∙ rests.part,
      ap (λ (r : Reads). filter (is_ready seat.me (members p) r between.commit) r.looks) reads ∙ ap (λ (c : ℕ). filter (is_ready seat.me (members p) v.reads c) v.reads.looks) commit ∙ ready,
    )

-- ---- which event it is

pub one_value : {A : Type 0} (o : Option A) (x y : A) → o ≡ Some x → o ≡ Some y → x ≡ y
one_value o x y is_x is_y = let e : Some x ≡ Some y = sym is_x ∙ is_y in cc

-- a message on a vote is no other
pub not_on_vote : (o : Option Body) (x body : Body) → o ≡ Some x → is_on_vote x ≡ false → o ≡ Some body → is_on_vote body ≡ true → ⊥
not_on_vote o x body is_x other is voting = true≢false (sym voting ∙ ap is_on_vote (one_value o body x is is_x) ∙ other)

-- an event on a vote is no other
pub not_voting : (o : Option Event) (x event : Event) → o ≡ Some x → is_voting x ≡ false → o ≡ Some event → is_voting event ≡ true → ⊥
not_voting o x event is_x other is voting = true≢false (sym voting ∙ ap is_voting (one_value o event x is is_x) ∙ other)

-- the message of an event
pub body_of : (from : ℕ) (o : Option Body) (event : Event) → option_map (Got from) o ≡ Some event → (body : Body) × (o ≡ Some body) × (event ≡ Got from body)
body_of from None event is = absurd (cc)
body_of from (Some body) event is = (body, refl, sym (one_value (Some (Got from body)) (Got from body) event refl is))
