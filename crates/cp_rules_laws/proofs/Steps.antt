-- A tick, what comes after each rule, and so each step.
use Rattle.std.proofs.Common.{◌||◌, ◌&&◌, ◌==◌, ◌≡◌, ℕ, suc, ◌-◌, inl, inr, not, Bool, true, List, [], ◌++◌, length, map, filter, refl, ap, sym, subst, Option, Some, None, is_none, nat_lt, nat_le, if◌then◌else◌, le_refl}
use Rattle.cp_parts.specs.declared.snapshot_head.SnapshotHead.{SnapshotHead}
use Rattle.cp_log_rules.specs.Persistent.{last, with_head}
use Rattle.cp_rules.specs.declared.ballot.Ballot.{Ballot}
use Rattle.cp_rules.specs.declared.outcome.Outcome.TheVariants.{Done}
use Rattle.cp_rules.specs.declared.role.Role.{Role}
use Rattle.cp_rules.specs.declared.role.Role.TheVariants.{PreCandidate}
use Rattle.cp_rules.specs.Limits.{beat_period, most_snapshot}
use Rattle.cp_rules.specs.Spelling.{empty_entry, snapshot_bytes}
use Rattle.cp_rules.specs.Persistent.{Part, SnapshotPart, ballot, log_end, members, others, after_part}
use Rattle.cp_rules.specs.Volatile.{Reads, VolatileState, no_reads, no_votes, silence}
use Rattle.cp_rules.specs.Local.{Body, PreVote, PreVoteReply, Vote, VoteReply, Append, AppendReply, Snapshot, SnapshotReply, Confirm, Confirmed, Event, Tick, Got, Propose, ChangeMembers, Read, Sent, LocalStep, does, send, is_leader}
use Rattle.cp_rules.specs.Sending.{appends}
use Rattle.cp_rules.specs.Leadership.{created_part, leading, takes_leadership}
use Rattle.cp_rules.specs.PreVotes.{may_stand, stands, times_out}
use Rattle.cp_rules.specs.Requests.{refuses_entry, proposes}
use Rattle.cp_rules.specs.Snapshots.{own_head, from_start, writes_snapshot, own_snapshot}
use Rattle.cp_rules.specs.Confirming.{is_ready, settles}
use Rattle.cp_rules.specs.Ticks.{expires, is_proposed, confirms_again, beats, on_tick}
use Rattle.cp_rules.specs.Steps.{on_message, rule}
use Rattle.cp_rules_facts.specs.Soundness.{IsFair, IsSnapshotDue}
use Rattle.cp_rules_facts.proofs.Basics.{either}
use Rattle.cp_rules_facts.proofs.Ticks.{wrote}
use Rattle.cp_rules_laws.specs.Writes.{StepsWrite}
use Rattle.cp_rules_laws.proofs.Quiet.{At, Goes, moves, still, made, proposed, prevote_reply_writes, vote_writes, vote_reply_writes, propose_writes, change_writes, append_reply_writes, snapshot_reply_writes, confirmed_writes, read_writes}
use Rattle.cp_rules_laws.proofs.Following.{append_writes, snapshot_writes, confirm_writes}

-- ---- what comes after each rule, which writes nothing and leaves the commit

beats_writes : (h : At) (event : Event) (s : LocalStep) → Goes h event s → Goes h event (beats h.me h.p s)
beats_writes h event s goes =
    let now = after_part s.part h.p in
    let state : VolatileState = record s.state { beat = s.state.clock } in
    let appended = is_proposed s.outcome in
    either (Goes h event) (is_leader s.state.role && (appended || nat_le beat_period (s.state.clock - s.state.beat)))
    (record s { state = state; sends = (if appended then s.sends else appends h.me now state) ++ confirms_again h.me now state.reads }) s
    (λ l. goes)
    (λ l. goes)

settles_writes : (h : At) (event : Event) (s : LocalStep) → Goes h event s → Goes h event (settles h.me h.p h.v s)
settles_writes h event s goes =
    let ready = is_ready h.me (members (after_part s.part h.p)) s.state.reads s.state.commit in
    let kept : Reads = record s.state.reads { looks = filter (λ look. not (ready look)) s.state.reads.looks } in
    either (Goes h event) (is_leader s.state.role) (record s { answered = filter ready s.state.reads.looks; state = record s.state { reads = kept } })
    (record s { lost = h.v.reads.looks; state = record s.state { reads = no_reads } })
    (λ l. goes)
    (λ l. goes)

-- ---- the tick

module _ (h : At) (clock : ℕ) (may_write : Bool) (expiry machine : Option (List ℕ)) (due : (bytes : List ℕ) → machine ≡ Some bytes → IsSnapshotDue h.p h.v bytes) where
  abbrev tick : Event
  tick = Tick clock may_write expiry machine

  abbrev ticked : VolatileState
  ticked = record h.v { clock = clock }

  abbrev Ends : LocalStep → Type 0
  Ends s = Goes h tick (beats h.me h.p (own_snapshot h.p s may_write machine))

  -- a step that wrote
  ends : (s : LocalStep) (part : Part) → s.part ≡ Some part → Goes h tick s → Ends s
  ends s part is goes = subst (λ (z : LocalStep). Goes h tick (beats h.me h.p z)) (sym (wrote h.p s part may_write machine is)) (beats_writes h tick s goes)

  module _ (role : Role) (leader heard : ℕ) (votes : List Bool) (sends : List Sent) where
    abbrev idle : VolatileState
    idle = record h.v { role = role; leader = leader; clock = clock; heard = heard; votes = votes }

    -- a snapshot or none, and then the beat
    idles : (o : Option (List ℕ)) → machine ≡ o → Goes h tick (beats h.me h.p (own_snapshot h.p (does None idle sends) may_write o))
    idles None is = beats_writes h tick (does None idle sends) (moves h tick idle sends (le_refl h.v.commit))
    idles (Some bytes) is =
        let s = does None idle sends in
        let whole = snapshot_bytes (own_head h.p h.v.commit) bytes in
        let taken = does (Some (SnapshotPart (ballot h.p) h.v.commit whole)) (record idle { peers = map from_start h.v.peers }) sends in
        let d = due bytes is in
        let rest = beats_writes h tick s (moves h tick idle sends (le_refl h.v.commit)) in
        either (λ z. Goes h tick (beats h.me h.p z)) (may_write && true) (writes_snapshot h.p s whole) s
        (λ w. either (λ z. Goes h tick (beats h.me h.p z)) (nat_lt most_snapshot (length whole)) s taken
        (λ l. rest)
        (λ l. beats_writes h tick taken (record {
          rises = le_refl h.v.commit;
          answers = λ i no. absurd (cc);
          log = inr (inr (inr (inl (record {
            clock = clock;
            may_write = may_write;
            expiry = expiry;
            machine = bytes;
            event_is = ap (λ (m : Option (List ℕ)). Tick clock may_write expiry m) is;
            above = d.above;
            commit = refl;
            stored = ap (λ (m : Option SnapshotHead). with_head h.p.term h.p.vote h.v.commit whole m h.p) d.reads_back;
          }))));
        })))
        (λ w. rest)

  nothing_due : Ends (does None ticked [])
  nothing_due = idles h.v.role h.v.leader h.v.heard h.v.votes [] machine refl

  expires_writes : (o : Option (List ℕ)) → expiry ≡ o → Ends (expires h.me h.p ticked may_write o)
  expires_writes None is = nothing_due
  expires_writes (Some entry) is = either Ends (may_write && is_none (refuses_entry h.p ticked)) (proposes h.me h.p ticked entry) (does None ticked [])
      (λ e. ends (proposes h.me h.p ticked entry) (created_part h.p (ballot h.p) entry) refl (proposed h tick ticked entry refl (inr (is, refl))))
      (λ e. nothing_due)

  times_out_writes : Ends (times_out h.me h.p ticked may_write)
  times_out_writes =
      let may = may_stand h.me (members h.p) h.p.term (last h.p) (silence ticked) in
      let w : VolatileState = record ticked { heard = clock } in
      let taking = takes_leadership h.me h.p w (suc h.p.term) in
      let b : Ballot = record { term = suc h.p.term; vote = h.me } in
      either Ends (not may) (does None ticked []) (if length (members h.p) == 1 then (if may_write then taking else does None ticked []) else stands h.me h.p ticked)
      (λ n. nothing_due)
      (λ n. either Ends (length (members h.p) == 1) (if may_write then taking else does None ticked []) (stands h.me h.p ticked)
      (λ one. either Ends may_write taking (does None ticked [])
      (λ x. ends taking (created_part h.p b empty_entry) refl (made h tick (leading h.me h.p w) b empty_entry Done refl (inl (refl, refl))))
      (λ x. nothing_due))
      (λ more. idles PreCandidate 0 clock no_votes (map (λ f. send f (PreVote (suc h.p.term) (log_end h.p))) (others h.me (members h.p))) machine refl))

  tick_writes : Goes h tick (on_tick h.me h.p h.v clock may_write expiry machine)
  tick_writes = either Ends (is_leader h.v.role) (expires h.me h.p ticked may_write expiry) (times_out h.me h.p ticked may_write)
      (λ l. expires_writes expiry refl)
      (λ l. times_out_writes)

-- ---- each step

message_writes : (h : At) (from : ℕ) (body : Body) → Goes h (Got from body) (on_message h.me h.p h.v from body)
message_writes h from (PreVote term candidate) = still h (Got from (PreVote term candidate))
message_writes h from (PreVoteReply term granted) = prevote_reply_writes h (Got from (PreVoteReply term granted)) from term granted
message_writes h from (Vote term candidate) = vote_writes h (Got from (Vote term candidate)) from term candidate
message_writes h from (VoteReply term granted) = vote_reply_writes h (Got from (VoteReply term granted)) from term granted
message_writes h from (Append term previous previous_term commit entries) = append_writes h from term previous previous_term commit entries
message_writes h from (AppendReply term taken index) = append_reply_writes h (Got from (AppendReply term taken index)) from term taken index
message_writes h from (Snapshot term index offset is_last bytes) = snapshot_writes h from term index offset is_last bytes
message_writes h from (SnapshotReply term index done received) = snapshot_reply_writes h (Got from (SnapshotReply term index done received)) from term index done received
message_writes h from (Confirm term round) = confirm_writes h (Got from (Confirm term round)) from term round
message_writes h from (Confirmed term taken round) = confirmed_writes h (Got from (Confirmed term taken round)) from term taken round

rule_writes : (h : At) (event : Event) → IsFair h.p h.v event → Goes h event (rule h.me h.p h.v event)
rule_writes h (Tick clock may_write expiry machine) fair = tick_writes h clock may_write expiry machine fair.1
rule_writes h (Got from body) fair = message_writes h from body
rule_writes h (Propose entry) fair = propose_writes h entry
rule_writes h (ChangeMembers change plan call) fair = change_writes h change plan call
rule_writes h (Read call attempt op) fair = read_writes h (Read call attempt op) call attempt op

pub steps_write : StepsWrite
steps_write me p v event sound fair = let h : At = record { me = me; p = p; v = v; sound = sound } in settles_writes h event (rule me p v event) (rule_writes h event fair)
