-- What a rule leaves for the reads to be settled.
use Rattle.std.proofs.Common.{◌||◌, ◌&&◌, ◌==◌, ◌≡◌, ℕ, suc, ◌+◌, ◌-◌, not, Bool, true, false, List, [], ◌∷◌, ◌++◌, length, drop, refl, sym, ap, subst, ◌∙◌, Option, Some, None, is_none, nat_lt, nat_le, if◌then◌else◌, true≢false}
use Rattle.std.specs.Option.{option_map}
use Rattle.std.proofs.lemmas.Bool.{and_parts, not-false}
use Rattle.cp_base.specs.declared.identifier.GroupId.{GroupId}
use Rattle.cp_base.specs.declared.identifier.Invocation.{Invocation}
use Rattle.cp_answers.specs.declared.refusal.Refusal.{Refusal}
use Rattle.cp_answers.specs.declared.refusal.Refusal.TheVariants.{NotLeader, Overloaded}
use Rattle.cp_parts.specs.declared.config.Config.{Config}
use Rattle.cp_parts.specs.declared.log_entry.LogEntry.{LogEntry}
use Rattle.cp_parts.specs.Heads.{head_of}
use Rattle.cp_log_rules.specs.Persistent.{PersistentState, last, term_at}
use Rattle.cp_log_rules.specs.Configurations.{config_at}
use Rattle.cp_rules.specs.declared.ballot.Ballot.{Ballot}
use Rattle.cp_rules.specs.declared.change.Change.{Change}
use Rattle.cp_rules.specs.declared.log_end.LogEnd.{LogEnd}
use Rattle.cp_rules.specs.declared.outcome.Outcome.TheVariants.{Refused}
use Rattle.cp_rules.specs.Limits.{beat_period, most_looks, most_snapshot}
use Rattle.cp_rules.specs.Parts.{part_of}
use Rattle.cp_rules.specs.Persistent.{Part, StatePart, AppendPart, ballot, ballot_part, log_end, members, is_member, has_term, after_part}
use Rattle.cp_rules.specs.Spelling.{empty_entry, members_entry, snapshot_bytes}
use Rattle.cp_rules.specs.Volatile.{Reads, VolatileState, new_peer, peer, silence, with_peer}
use Rattle.cp_rules.specs.Local.{leads_and, Body, PreVote, PreVoteReply, Vote, VoteReply, Append, AppendReply, Snapshot, SnapshotReply, Confirm, Confirmed, Event, Tick, Got, Propose, ChangeMembers, Read, Sent, LocalStep, does, reply, is_leader, is_candidate, is_pre_candidate}
use Rattle.cp_rules.specs.Terms.{adopted, steps_down, steps_down_for, adopts}
use Rattle.cp_rules.specs.Commit.{commit_found, commits}
use Rattle.cp_rules.specs.Sending.{append_to, chunk_from, appends}
use Rattle.cp_rules.specs.Leadership.{created_part, creates, leading, takes_leadership}
use Rattle.cp_rules.specs.PreVotes.{may_stand, stands, times_out, on_prevote, with_vote, has_quorum, becomes_candidate, counts_prevote, on_prevote_reply, is_up_to_date}
use Rattle.cp_rules.specs.Votes.{grants_vote, on_vote, counts_vote, on_vote_reply}
use Rattle.cp_rules.specs.Appends.{Difference, difference, follower_commit, following, refused_index, takes, goes_on, on_append}
use Rattle.cp_rules.specs.AppendReplies.{is_answered, matched_to, matches, falls_back, on_append_reply}
use Rattle.cp_rules.specs.Snapshots.{Progress, Apart, TooLong, More, Whole, progress, received_of, answers, installs, receives, takes_chunk, on_snapshot, sends_more, on_snapshot_reply, own_head, own_snapshot}
use Rattle.cp_rules.specs.Requests.{refuses_entry, unless_refused, proposes}
use Rattle.cp_rules.specs.Changes.{refuses_change, with_added, changed, changes, on_change}
use Rattle.cp_rules.specs.Confirming.{with_round, waits, begins_round, on_confirm, on_confirmed, on_read}
use Rattle.cp_rules.specs.Ticks.{expires, is_proposed, confirms_again, beats, on_tick}
use Rattle.cp_rules.specs.Steps.{on_message, rule}
use Rattle.cp_rules_facts.specs.Soundness.{IsSound, IsFair, IsSnapshotDue}
use Rattle.cp_rules_facts.proofs.Basics.{either, candidate_is}
use Rattle.cp_rules_facts.proofs.Ticks.{wrote}
use Rattle.cp_raft_state.proofs.OneMore.{more, config_more}
use Rattle.cp_raft_state.proofs.OwnSnapshots.{IsOwn, config_kept}
use Rattle.cp_raft.specs.Settling.{members_after}
use Rattle.cp_raft.specs.Ticking.{if_fits, own_bytes, own_part, from_new}
use Rattle.cp_raft.proofs.Ticks.{own_snapshot_is}

-- Of a leader the code knows the members after its part; and whoever does not lead has the reads that waited before.
pub record Leaves (group : GroupId) (p : PersistentState) (v : VolatileState) (s : LocalStep) : Type 0 where
  pub told : is_leader s.state.role ≡ true → members (after_part s.part p) ≡ members_after p (option_map (part_of group) s.part)
  pub looks : is_leader s.state.role ≡ false → s.state.reads.looks ≡ v.reads.looks

commits_reads : (me : ℕ) (p : PersistentState) (v : VolatileState) → (commits me p v).reads ≡ v.reads
commits_reads me p v = let i = commit_found me p v in
    either (λ (z : VolatileState). z.reads ≡ v.reads) (i == v.commit) v (if is_member me (config_at p i).members then record v { commit = i } else steps_down (record v { commit = i }))
    (λ h. refl)
    (λ h. either (λ (z : VolatileState). z.reads ≡ v.reads) (is_member me (config_at p i).members) (record v { commit = i }) (steps_down (record v { commit = i })) (λ k. refl) (λ k. refl))

module _ (group : GroupId) (me : ℕ) (p : PersistentState) (v : VolatileState) (sound : IsSound me p v) (unread : is_leader v.role ≡ false → v.reads.looks ≡ []) where
  abbrev Left : LocalStep → Type 0
  Left = Leaves group p v

  -- ---- how rules end

  -- nothing is written
  quiet : (w : VolatileState) (sends : List Sent) → w.reads.looks ≡ v.reads.looks → Left (does None w sends)
  quiet w sends same = record { told = λ l. refl; looks = λ l. same }

  silent : Left (does None v [])
  silent = quiet v [] refl

  ballot_told : (b : Ballot) → members (after_part (ballot_part p b) p) ≡ members_after p (option_map (part_of group) (ballot_part p b))
  ballot_told b = either (λ (o : Option Part). members (after_part o p) ≡ members_after p (option_map (part_of group) o)) ((p.term == b.term) && (p.vote == b.vote)) None (Some (StatePart b)) (λ h. refl) (λ h. refl)

  balloted : (b : Ballot) (w : VolatileState) (sends : List Sent) → w.reads.looks ≡ v.reads.looks → Left (does (ballot_part p b) w sends)
  balloted b w sends same = record { told = λ l. ballot_told b; looks = λ l. same }

  -- whatever is written, by one that does not lead
  led : (x : Option Part) (w : VolatileState) (sends : List Sent) → is_leader w.role ≡ false → w.reads.looks ≡ v.reads.looks → Left (does x w sends)
  led x w sends follows same = record { told = λ l. absurd (true≢false (sym l ∙ follows)); looks = λ l. same }

  adopts_left : (term : ℕ) → Left (adopts term p v)
  adopts_left term = led (Some (StatePart (record { term = term; vote = 0 }))) (steps_down v) [] refl refl

  stepped : (term : ℕ) → (steps_down_for term p v).reads ≡ v.reads
  stepped term = either (λ (z : VolatileState). z.reads ≡ v.reads) (nat_lt p.term term) (steps_down v) v (λ h. refl) (λ h. refl)

  -- ---- one that leads

  created : (w : VolatileState) (b : Ballot) (entry : List ℕ) → w.reads.looks ≡ v.reads.looks → Left (creates me p w b entry)
  created w b entry same = record {
    told = λ l. ap (λ (c : Config). c.members) (config_more p b entry);
    looks = λ l. ap (λ (r : Reads). r.looks) (commits_reads me (more p b entry) w) ∙ same;
  }

  -- none waits at one that takes leadership
  taken : (w : VolatileState) (term : ℕ) → is_leader v.role ≡ false → Left (takes_leadership me p w term)
  taken w term follows = created (leading me p w) (record { term = term; vote = me }) empty_entry (sym (unread follows))

  proposed : (w : VolatileState) (entry : List ℕ) → w.reads.looks ≡ v.reads.looks → Left (proposes me p w entry)
  proposed w entry same = let c = created w (ballot p) entry same in record { told = c.told; looks = c.looks }

  -- ---- votes

  prevote_reply : (from term : ℕ) (granted : Bool) → Left (on_prevote_reply me p v from term granted)
  prevote_reply from term granted =
      let counted = is_pre_candidate v.role && ((term == suc p.term) && is_member from (members p)) in
      let w = with_vote from v in
      either Left (not granted) (if nat_lt p.term term then adopts term p v else does None v []) (if counted then counts_prevote me p w else does None v [])
      (λ h. either Left (nat_lt p.term term) (adopts term p v) (does None v []) (λ k. adopts_left term) (λ k. silent))
      (λ h. either Left counted (counts_prevote me p w) (does None v [])
      (λ k. either Left (has_quorum me (members p) w) (becomes_candidate me p w) (does None w [])
      (λ e. led (becomes_candidate me p w).part (becomes_candidate me p w).state (becomes_candidate me p w).sends refl refl)
      (λ e. quiet w [] refl))
      (λ k. silent))

  vote_asked : (from term : ℕ) (candidate : LogEnd) → Left (on_vote p v from term candidate)
  vote_asked from term candidate =
      let now = adopted term (ballot p) in
      let same = ap (λ (r : Reads). r.looks) (stepped term) in
      let w = steps_down_for term p v in
      either Left (grants_vote now from term (is_up_to_date candidate (log_end p))) (does (ballot_part p (record { term = term; vote = from })) (record w { heard = v.clock }) (reply from (VoteReply term true))) (does (ballot_part p now) w (reply from (VoteReply now.term false)))
      (λ h. balloted (record { term = term; vote = from }) (record w { heard = v.clock }) (reply from (VoteReply term true)) same)
      (λ h. balloted now w (reply from (VoteReply now.term false)) same)

  not_yet : is_candidate v.role ≡ true → is_leader v.role ≡ false
  not_yet h = ap is_leader (candidate_is v.role h)

  vote_reply : (from term : ℕ) (granted : Bool) → Left (on_vote_reply me p v from term granted)
  vote_reply from term granted =
      let rest = (term == p.term) && is_member from (members p) in
      let counted = granted && (is_candidate v.role && rest) in
      let w = with_vote from v in
      either Left (nat_lt p.term term) (adopts term p v) (if counted then counts_vote me p w else does None v [])
      (λ h. adopts_left term)
      (λ h. either Left counted (counts_vote me p w) (does None v [])
      (λ k. either Left (has_quorum me (members p) w) (takes_leadership me p w p.term) (does None w [])
      (λ e. taken w p.term (not_yet (and_parts (is_candidate v.role) rest (and_parts granted (is_candidate v.role && rest) k).1).0))
      (λ e. quiet w [] refl))
      (λ k. silent))

  -- ---- appends

  takes_left : (b : Ballot) (w : VolatileState) (from told index : ℕ) (d : Option Difference) → is_leader w.role ≡ false → w.reads.looks ≡ v.reads.looks → Left (takes p b w from told index d)
  takes_left b w from told index None follows same = balloted b (takes p b w from told index None).state (takes p b w from told index None).sends same
  takes_left b w from told index (Some d) follows same =
      let other = record w { commit = follower_commit w.commit told index } in
      either Left (nat_lt d.after w.commit) (does (ballot_part p b) w []) (does (Some (AppendPart b d.after d.entries)) other (reply from (AppendReply b.term true index)))
      (λ h. balloted b w [] same)
      (λ h. led (Some (AppendPart b d.after d.entries)) other (reply from (AppendReply b.term true index)) follows same)

  goes_left : (b : Ballot) (from previous previous_term told index : ℕ) (entries : List LogEntry) → Left (goes_on p b (following from v) from previous previous_term told index entries)
  goes_left b from previous previous_term told index entries =
      let w = following from v in
      let no = reply from (AppendReply b.term false (refused_index (last p) previous)) in
      either Left (has_term p previous previous_term) (takes p b w from told index (difference (term_at p) previous entries)) (does (ballot_part p b) w no)
      (λ h. takes_left b w from told index (difference (term_at p) previous entries) refl refl)
      (λ h. balloted b w no refl)

  append_left : (from term previous previous_term told : ℕ) (entries : List LogEntry) → Left (on_append p v from term previous previous_term told entries)
  append_left from term previous previous_term told entries =
      let b = adopted term (ballot p) in
      let w = following from v in
      let index = previous + length entries in
      let old = reply from (AppendReply p.term false 0) in
      let low = goes_on p b w from p.base p.base_term told index (drop (p.base - previous) entries) in
      let high = goes_on p b w from previous previous_term told index entries in
      either Left (nat_lt term p.term) (does None v old) (if nat_lt previous p.base then low else high)
      (λ h. quiet v old refl)
      (λ h. either Left (nat_lt previous p.base) low high
      (λ k. goes_left b from p.base p.base_term told index (drop (p.base - previous) entries))
      (λ k. goes_left b from previous previous_term told index entries))

  -- ---- replies

  matched_left : (from index : ℕ) → Left (matches me p v from index)
  matched_left from index =
      let w = commits me p (with_peer from (matched_to (peer v.peers from) index) v) in
      let sends : List Sent = if is_leader w.role && nat_lt index (last p) then append_to p w from ∷ [] else [] in
      let same = ap (λ (r : Reads). r.looks) (commits_reads me p (with_peer from (matched_to (peer v.peers from) index) v)) in
      either Left (nat_lt (peer v.peers from).matched index && nat_le index (last p)) (leads_and (does None w sends)) (does None v [])
      (λ h. record { told = λ l. refl; looks = λ l. same })
      (λ h. silent)

  append_reply_left : (from term : ℕ) (accepted : Bool) (index : ℕ) → Left (on_append_reply me p v from term accepted index)
  append_reply_left from term accepted index =
      let back = falls_back p v from index in
      let on = matches me p v from index in
      either Left (nat_lt p.term term) (adopts term p v) (if not (is_answered p v from term) then does None v [] else if accepted then on else back)
      (λ h. adopts_left term)
      (λ h. either Left (not (is_answered p v from term)) (does None v []) (if accepted then on else back)
      (λ k. silent)
      (λ k. either Left accepted on back (λ e. matched_left from index) (λ e. quiet back.state back.sends refl)))

  -- ---- snapshots

  chunk_left : (from term index : ℕ) (x : Progress) → Left (takes_chunk p v from term index x)
  chunk_left from term index (Apart received) = let s = answers p (following from v) from term index false received in balloted (adopted term (ballot p)) s.state s.sends refl
  chunk_left from term index TooLong = silent
  chunk_left from term index (More bytes) = let s = receives p v from term index bytes in balloted (adopted term (ballot p)) s.state s.sends refl
  chunk_left from term index (Whole bytes) = let s = installs p v from term index bytes in
      either Left (is_none (head_of bytes)) (does None v []) s (λ h. silent) (λ h. led s.part s.state s.sends refl refl)

  snapshot_left : (from term index offset : ℕ) (is_last : Bool) (bytes : List ℕ) → Left (on_snapshot p v from term index offset is_last bytes)
  snapshot_left from term index offset is_last bytes =
      let old = reply from (SnapshotReply p.term index false 0) in
      let known = answers p (following from v) from term index true 0 in
      let x = progress (received_of term index v.received) offset is_last bytes in
      either Left (nat_lt term p.term) (does None v old) (if nat_le index v.commit then known else takes_chunk p v from term index x)
      (λ h. quiet v old refl)
      (λ h. either Left (nat_le index v.commit) known (takes_chunk p v from term index x)
      (λ k. balloted (adopted term (ballot p)) known.state known.sends refl)
      (λ k. chunk_left from term index x))

  more_left : (from index received : ℕ) → Left (sends_more p v from index received)
  more_left from index received =
      let w = with_peer from (record (peer v.peers from) { offset = received }) v in
      let sends = reply from (chunk_from p received) in
      either Left ((index == p.base) && (nat_le received (length p.snapshot) && nat_le (peer v.peers from).next p.base)) (does None w sends) (does None v [])
      (λ h. quiet w sends refl)
      (λ h. silent)

  snapshot_reply_left : (from term index : ℕ) (done : Bool) (received : ℕ) → Left (on_snapshot_reply me p v from term index done received)
  snapshot_reply_left from term index done received =
      let on = matches me p v from index in
      let next = sends_more p v from index received in
      either Left (nat_lt p.term term) (adopts term p v) (if not (is_answered p v from term) then does None v [] else if done then on else next)
      (λ h. adopts_left term)
      (λ h. either Left (not (is_answered p v from term)) (does None v []) (if done then on else next)
      (λ k. silent)
      (λ k. either Left done on next (λ e. matched_left from index) (λ e. more_left from index received)))

  -- ---- reads

  confirm_left : (from term round : ℕ) → Left (on_confirm p v from term round)
  confirm_left from term round =
      let old = reply from (Confirmed p.term false 0) in
      let w = record (steps_down_for term p v) { leader = from; heard = v.clock } in
      let sends = reply from (Confirmed term true round) in
      either Left (nat_lt term p.term) (does None v old) (does (ballot_part p (adopted term (ballot p))) w sends)
      (λ h. quiet v old refl)
      (λ h. balloted (adopted term (ballot p)) w sends (ap (λ (r : Reads). r.looks) (stepped term)))

  confirmed_left : (from term : ℕ) (accepted : Bool) (round : ℕ) → Left (on_confirmed p v from term accepted round)
  confirmed_left from term accepted round =
      let w = record v { reads = with_round from round v.reads } in
      either Left (nat_lt p.term term) (adopts term p v) (if accepted && (is_leader v.role && (term == p.term)) then does None w [] else does None v [])
      (λ h. adopts_left term)
      (λ h. either Left (accepted && (is_leader v.role && (term == p.term))) (does None w []) (does None v []) (λ k. quiet w [] refl) (λ k. silent))

  refused_left : (refusal : Refusal) → Left (record (does None v []) { outcome = Refused refusal })
  refused_left refusal = record { told = λ l. refl; looks = λ l. refl }

  read_left : (call : Invocation) (attempt : ℕ) (op : List ℕ) → Left (on_read me p v call attempt op)
  read_left call attempt op =
      let s = begins_round me p v (waits p v.reads call attempt op) in
      let none : LocalStep = record (does None v []) { outcome = Refused (NotLeader v.leader) } in
      let full : LocalStep = record (does None v []) { outcome = Refused (Overloaded most_looks) } in
      either Left (not (is_leader v.role)) none (if nat_le most_looks (length v.reads.looks) then full else s)
      (λ h. refused_left (NotLeader v.leader))
      (λ h. either Left (nat_le most_looks (length v.reads.looks)) full s
      (λ k. refused_left (Overloaded most_looks))
      (λ k. record { told = λ l. refl; looks = λ l. absurd (true≢false (sym (not-false (is_leader v.role) h) ∙ l)) }))

  -- ---- requests

  unless_left : (refusal : Option Refusal) (s : LocalStep) → Left s → Left (unless_refused refusal v s)
  unless_left None s left = left
  unless_left (Some refusal) s left = refused_left refusal

  added_reads : (change : Change) → (with_added p v change).reads ≡ v.reads
  added_reads change = either (λ (z : VolatileState). z.reads ≡ v.reads) change.add (with_peer change.member.0 (new_peer (suc (last p))) v) v (λ h. refl) (λ h. refl)

  change_left : (change : Change) (plan : ℕ) (call : Option Invocation) → Left (on_change me p v change plan call)
  change_left change plan call =
      let s = changes me p v change plan call in
      unless_left (refuses_entry p v) (unless_refused (refuses_change p v change) v s)
      (unless_left (refuses_change p v change) s (proposed (with_added p v change) (members_entry call plan (changed change (members p))) (ap (λ (r : Reads). r.looks) (added_reads change))))

  -- ---- ticks

  beats_left : (s : LocalStep) → Left s → Left (beats me p s)
  beats_left s left =
      let now = after_part s.part p in
      let state : VolatileState = record s.state { beat = s.state.clock } in
      let sends : List Sent = (if is_proposed s.outcome then s.sends else appends me now state) ++ confirms_again me now state.reads in
      either Left (is_leader s.state.role && (is_proposed s.outcome || nat_le beat_period (s.state.clock - s.state.beat))) (record s { state = state; sends = sends }) s
      (λ h. record { told = left.told; looks = left.looks })
      (λ h. left)

  module _ (may_write : Bool) (machine : Option (List ℕ)) (due : (bytes : List ℕ) → machine ≡ Some bytes → IsSnapshotDue p v bytes) where
    -- a snapshot of its own keeps the configuration
    own_left : (w : VolatileState) (sends : List Sent) (c : ℕ) (o : Option (List ℕ)) → ((bytes : List ℕ) → o ≡ Some bytes → IsOwn p c bytes) → w.reads.looks ≡ v.reads.looks → Left (does (own_part p c o) (from_new o w) sends)
    own_left w sends c None own same = quiet w sends same
    own_left w sends c (Some bytes) own same = record { told = λ l. ap (λ (x : Config). x.members) (config_kept p c bytes (own bytes refl)); looks = λ l. same }

    fitting : (whole bytes : List ℕ) → if_fits may_write whole ≡ Some bytes → whole ≡ bytes
    fitting whole bytes is = look (may_write && nat_le (length whole) most_snapshot) is
      where
        look : (c : Bool) → (if c then Some whole else None) ≡ Some bytes → whole ≡ bytes
        look true e = cc
        look false e = absurd (cc)

    own_is : (x : Option (List ℕ)) → ((bytes : List ℕ) → x ≡ Some bytes → IsSnapshotDue p v bytes) → (bytes : List ℕ) → own_bytes p v.commit may_write x ≡ Some bytes → IsOwn p v.commit bytes
    own_is None d bytes is = absurd (cc)
    own_is (Some given) d bytes is =
        let x = d given refl in
        subst (IsOwn p v.commit) (fitting (snapshot_bytes (own_head p v.commit) given) bytes is) (record { from = x.above; to = sound.within; reads_back = x.reads_back })

    -- nothing is written before the snapshot
    idle_left : (w : VolatileState) (sends : List Sent) → w.commit ≡ v.commit → w.reads.looks ≡ v.reads.looks → Left (beats me p (own_snapshot p (does None w sends) may_write machine))
    idle_left w sends commit same = beats_left (own_snapshot p (does None w sends) may_write machine)
        (subst Left (sym (own_snapshot_is p w sends may_write machine)) (subst (λ (c : ℕ). Left (does (own_part p c (own_bytes p c may_write machine)) (from_new (own_bytes p c may_write machine) w) sends)) (sym commit)
        (own_left w sends v.commit (own_bytes p v.commit may_write machine) (own_is machine due) same)))

    -- something is
    wrote_left : (s : LocalStep) (part : Part) → s.part ≡ Some part → Left s → Left (beats me p (own_snapshot p s may_write machine))
    wrote_left s part is left = subst (λ (z : LocalStep). Left (beats me p z)) (sym (wrote p s part may_write machine is)) (beats_left s left)

    module _ (clock : ℕ) where
      abbrev ticked : VolatileState
      ticked = record v { clock = clock }

      abbrev Ends : LocalStep → Type 0
      Ends s = Left (beats me p (own_snapshot p s may_write machine))

      nothing : Ends (does None ticked [])
      nothing = idle_left ticked [] refl refl

      expires_left : (expiry : Option (List ℕ)) → Ends (expires me p ticked may_write expiry)
      expires_left None = nothing
      expires_left (Some entry) = let s = proposes me p ticked entry in
          either Ends (may_write && is_none (refuses_entry p ticked)) s (does None ticked [])
          (λ h. wrote_left s (created_part p (ballot p) entry) refl (proposed ticked entry refl))
          (λ h. nothing)

      times_out_left : is_leader v.role ≡ false → Ends (times_out me p ticked may_write)
      times_out_left follows =
          let taking = takes_leadership me p (record ticked { heard = clock }) (suc p.term) in
          let b : Ballot = record { term = suc p.term; vote = me } in
          either Ends (not (may_stand me (members p) p.term (last p) (silence ticked))) (does None ticked []) (if length (members p) == 1 then (if may_write then taking else does None ticked []) else stands me p ticked)
          (λ h. nothing)
          (λ h. either Ends (length (members p) == 1) (if may_write then taking else does None ticked []) (stands me p ticked)
          (λ k. either Ends may_write taking (does None ticked [])
          (λ w. wrote_left taking (created_part p b empty_entry) refl (taken (record ticked { heard = clock }) (suc p.term) follows))
          (λ w. nothing))
          (λ k. idle_left (stands me p ticked).state (stands me p ticked).sends refl refl))

      tick_left : (expiry : Option (List ℕ)) → Left (on_tick me p v clock may_write expiry machine)
      tick_left expiry = either Ends (is_leader v.role) (expires me p ticked may_write expiry) (times_out me p ticked may_write)
          (λ l. expires_left expiry)
          (λ l. times_out_left l)

  -- ---- all rules

  message_left : (from : ℕ) (body : Body) → Left (on_message me p v from body)
  message_left from (PreVote term candidate) = quiet v (on_prevote p v from term candidate).sends refl
  message_left from (PreVoteReply term granted) = prevote_reply from term granted
  message_left from (Vote term candidate) = vote_asked from term candidate
  message_left from (VoteReply term granted) = vote_reply from term granted
  message_left from (Append term previous previous_term commit entries) = append_left from term previous previous_term commit entries
  message_left from (AppendReply term accepted index) = append_reply_left from term accepted index
  message_left from (Snapshot term index offset is_last bytes) = snapshot_left from term index offset is_last bytes
  message_left from (SnapshotReply term index done received) = snapshot_reply_left from term index done received
  message_left from (Confirm term round) = confirm_left from term round
  message_left from (Confirmed term accepted round) = confirmed_left from term accepted round

  pub rule_left : (event : Event) → IsFair p v event → Left (rule me p v event)
  rule_left (Tick clock may_write expiry machine) fair = tick_left may_write machine fair.1 clock expiry
  rule_left (Got from body) fair = message_left from body
  rule_left (Propose entry) fair = unless_left (refuses_entry p v) (proposes me p v entry) (proposed v entry refl)
  rule_left (ChangeMembers change plan call) fair = change_left change plan call
  rule_left (Read call attempt op) fair = read_left call attempt op
