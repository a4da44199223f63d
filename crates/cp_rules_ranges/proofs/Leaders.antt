-- What a leader creates, and its answers to replies.
use Rattle.std.proofs.Common.{◌&&◌, ◌==◌, ◌≡◌, ℕ, suc, ◌+◌, ◌-◌, ◌<◌, ◌≤◌, ⊎_elim, not, Bool, true, false, List, [], ◌∷◌, ◌++◌, length, take, refl, sym, ap, arith, ◌∙◌, Option, Some, None, nat_lt, nat_le, if◌then◌else◌, le_refl, length-append, length-take}
use Rattle.std.specs.List.{AllByRecursion}
use Rattle.std.proofs.lemmas.Bool.{and_parts, leb-true, leb-false, not-false}
use Rattle.cp_base.specs.declared.identifier.Invocation.{Invocation}
use Rattle.cp_answers.specs.declared.refusal.Refusal.{Refusal}
use Rattle.cp_answers.specs.declared.refusal.Refusal.TheVariants.{NotLeader, IndexEnd, Overloaded}
use Rattle.std.specs.Int.{w32, w64, to_be_bytes}
use Rattle.cp_codec.specs.Fields.{big_endian}
use Rattle.cp_grammar.specs.Fields.{optional}
use Rattle.cp_grammar.specs.Lists.{items_spelling}
use Rattle.cp_grammar.specs.Common as common
use Rattle.cp_grammar.specs.Common.{index, client_id, thread_no, invocation, member_after}
use Rattle.cp_parts.specs.declared.log_entry.LogEntry.{LogEntry}
use Rattle.cp_parts.specs.Configs as configs
use Rattle.cp_log_rules.specs.Persistent.{PersistentState, last, with_entries}
use Rattle.cp_log_rules.specs.Configurations.{config_at}
use Rattle.cp_rules.specs.declared.ballot.Ballot.{Ballot}
use Rattle.cp_rules.specs.declared.change.Change.{Change}
use Rattle.cp_rules.specs.declared.peer.Peer.{Peer}
use Rattle.cp_rules.specs.declared.role.Role.TheVariants.{Follower, PreCandidate, Candidate, Leader}
use Rattle.cp_rules.specs.Limits.{most_index, most_uncommitted}
use Rattle.cp_rules.specs.Spelling.{members_entry, empty_entry}
use Rattle.cp_rules.specs.Persistent.{members, is_member, ballot, with_part}
use Rattle.cp_rules.specs.Volatile.{VolatileState, peer, new_peer, with_peer}
use Rattle.cp_rules.specs.Local.{LocalStep, Sent, does, leads_and, reply, is_leader, is_candidate}
use Rattle.cp_rules.specs.Terms.{steps_down, adopts}
use Rattle.cp_rules.specs.Sending.{append_to, chunk_from}
use Rattle.cp_rules.specs.Commit.{commit_found, commits}
use Rattle.cp_rules.specs.Leadership.{created_part, creates, leading, takes_leadership}
use Rattle.cp_rules.specs.PreVotes.{with_vote, has_quorum}
use Rattle.cp_rules.specs.Votes.{counts_vote, on_vote_reply}
use Rattle.cp_rules.specs.Requests.{refuses_entry, unless_refused, proposes, on_propose}
use Rattle.cp_rules.specs.Changes.{refuses_change, changed, with_member, without_member, with_added, changes, on_change}
use Rattle.cp_rules.specs.AppendReplies.{is_answered, matched_to, matches, next_tried, falls_back, on_append_reply}
use Rattle.cp_rules.specs.Snapshots.{sends_more, on_snapshot_reply}
use Rattle.cp_rules_facts.specs.Soundness.{IsSound}
use Rattle.cp_rules_facts.proofs.Basics.{either, leader_is, candidate_is}
use Rattle.cp_rules_facts.proofs.Commits.{committing}
use Rattle.cp_rules_ranges.specs.Ranges.{IsMember, EntryIsInRange, StoredIsInRange, KeptIsInRange, IsInRange, SentIsInRange, BallotIsInRange, most_entry}
use Rattle.cp_rules_ranges.proofs.Members.{after_fits, few_members, one_more, no_more}
use Rattle.cp_rules_ranges.proofs.Basics.{all_both, all_take, own_ballot, chunk_in_range, append_in_range, appends_in_range}
use Rattle.cp_rules_ranges.proofs.Rules.{Here, Goes, silent, quiet, adopts_or, voted_range, one_sent}

-- ---- after a commit

pub commits_kept : (me : ℕ) (p : PersistentState) (v : VolatileState) → KeptIsInRange v → KeptIsInRange (commits me p v)
commits_kept me p v k =
    let i = commit_found me p v in
    either KeptIsInRange (i == v.commit) v (if is_member me (config_at p i).members then record v { commit = i } else steps_down (record v { commit = i }))
    (λ e. k)
    (λ e. either KeptIsInRange (is_member me (config_at p i).members) (record v { commit = i }) (steps_down (record v { commit = i }))
    (λ m. record { clock = k.clock; heard = k.heard; beat = k.beat; round = k.round; received = k.received })
    (λ m. record { clock = k.clock; heard = k.heard; beat = k.beat; round = k.round; received = k.received }))

-- a leader, or one that has stepped down
pub led_range : (me : ℕ) (p q : PersistentState) (v : VolatileState) → v.role ≡ Leader → StoredIsInRange q → KeptIsInRange v → IsInRange q (commits me p v)
led_range me p q v role stored k =
    let c = committing me p v (commit_found me p v) in
    record {
      stored = stored;
      kept = commits_kept me p v k;
      asks = λ h. absurd (⊎_elim (λ z. let x : Leader ≡ PreCandidate = sym (z ∙ role) ∙ h in cc) (λ z. let x : Follower ≡ PreCandidate = sym z ∙ h in cc) c.role);
      campaigns = λ h. absurd (⊎_elim (λ z. let x : Leader ≡ Candidate = sym (z ∙ role) ∙ h in cc) (λ z. let x : Follower ≡ Candidate = sym z ∙ h in cc) c.role);
    }

pub leads_range : (q : PersistentState) (v : VolatileState) → v.role ≡ Leader → StoredIsInRange q → KeptIsInRange v → IsInRange q v
leads_range q v role stored k = record {
  stored = stored;
  kept = k;
  asks = λ h. absurd (let x : Leader ≡ PreCandidate = sym role ∙ h in cc);
  campaigns = λ h. absurd (let x : Leader ≡ Candidate = sym role ∙ h in cc);
}

-- ---- entries are appended

-- the log up to an index, and entries behind it
pub entries_stored : (p : PersistentState) (b : Ballot) (after : ℕ) (entries : List LogEntry) → StoredIsInRange p → BallotIsInRange p b → p.base ≤ after → after ≤ last p → after + length entries ≤ most_index → AllByRecursion EntryIsInRange entries
    → StoredIsInRange (with_entries b.term b.vote after entries p)
entries_stored p b after entries r given low high fits all =
    let log = take (after - p.base) p.log in
    let a : length (log ++ entries) ≡ length log + length entries = length-append log entries in
    let n : length log ≤ after - p.base = omega (arith, length-take (after - p.base) p.log) in
    record {
      term = given.term;
      vote = given.vote;
      last_index = omega (arith, a, n, low, fits);
      base_term = r.base_term;
      members = r.members;
      snapshot = r.snapshot;
      entries = all_both EntryIsInRange log entries (all_take EntryIsInRange (after - p.base) p.log r.entries) all;
    }

pub creates_range : (h : Here) (w : VolatileState) (b : Ballot) (entry : List ℕ) → w.role ≡ Leader → KeptIsInRange w → BallotIsInRange h.p b → last h.p < most_index → length entry ≤ most_entry → Goes h (creates h.me h.p w b entry)
creates_range h w b entry role kept given room short sound =
    let part = created_part h.p b entry in
    let q = with_part part h.p in
    let all : AllByRecursion EntryIsInRange (record { term = b.term; bytes = entry } ∷ []) = (record { term = given.term; bytes = short }, tt) in
    let stored : StoredIsInRange q = entries_stored h.p b (last h.p) (record { term = b.term; bytes = entry } ∷ []) h.range.stored given (omega arith) (le_refl (last h.p)) (omega (arith, room)) all in
    record {
      written = (given, record { low = omega arith; high = le_refl (last h.p); end = omega (arith, room); few = omega arith; all = all });
      sends = appends_in_range h.me q (commits h.me q w) stored sound;
      after = led_range h.me q q w role stored kept;
    }

pub leading_kept : (me : ℕ) (p : PersistentState) (v : VolatileState) → KeptIsInRange v → KeptIsInRange (leading me p v)
leading_kept me p v k = record { clock = k.clock; heard = k.heard; beat = k.clock; round = omega arith; received = k.received }

-- ---- votes that are counted

pub vote_reply_range : (h : Here) (from term : ℕ) (granted : Bool) → term ≤ most_index → Goes h (on_vote_reply h.me h.p h.v from term granted)
vote_reply_range h from term granted most =
    let counted = granted && (is_candidate h.v.role && ((term == h.p.term) && is_member from (members h.p))) in
    let w = with_vote from h.v in
    let b : Ballot = record { term = h.p.term; vote = h.me } in
    adopts_or h term (if counted then counts_vote h.me h.p w else does None h.v []) most (either (Goes h) counted (counts_vote h.me h.p w) (does None h.v [])
    (λ c.
    let a = and_parts granted (is_candidate h.v.role && ((term == h.p.term) && is_member from (members h.p))) c in
    let role = candidate_is h.v.role (and_parts (is_candidate h.v.role) ((term == h.p.term) && is_member from (members h.p)) a.1).0 in
    either (Goes h) (has_quorum h.me (members h.p) w) (takes_leadership h.me h.p w h.p.term) (does None w [])
    (λ e. creates_range h (leading h.me h.p w) b empty_entry refl (leading_kept h.me h.p w (voted_range h from).kept) (record { up = le_refl h.p.term; term = h.range.stored.term; vote = h.member.last }) (h.range.campaigns role) (omega arith))
    (λ e. quiet h w [] (voted_range h from) tt))
    (λ c. silent h))

-- ---- requests

-- a leader whose log has room
pub record MayAppend (h : Here) : Type 0 where
  pub leader : h.v.role ≡ Leader
  pub room : last h.p < most_index

pub may_append : (h : Here) → refuses_entry h.p h.v ≡ None → MayAppend h
may_append h free = at_leader (is_leader h.v.role) refl free
  where
    at_room : (c : Bool) → nat_le most_index (last h.p) ≡ c → h.v.role ≡ Leader → (if c then Some (IndexEnd (last h.p)) else if nat_le most_uncommitted (last h.p - h.v.commit) then Some (Overloaded most_uncommitted) else None) ≡ None → MayAppend h
    at_room true is leader e = absurd (cc)
    at_room false is leader e = record { leader = leader; room = leb-false most_index (last h.p) is }

    at_leader : (c : Bool) → is_leader h.v.role ≡ c
        → (if not c then Some (NotLeader h.v.leader) else if nat_le most_index (last h.p) then Some (IndexEnd (last h.p)) else if nat_le most_uncommitted (last h.p - h.v.commit) then Some (Overloaded most_uncommitted) else None) ≡ None → MayAppend h
    at_leader true is e = at_room (nat_le most_index (last h.p)) refl (leader_is h.v.role is) e
    at_leader false is e = absurd (cc)

pub or_refused : (h : Here) (o : Option Refusal) (s : LocalStep) → (o ≡ None → Goes h s) → Goes h (unless_refused o h.v s)
or_refused h None s goes = goes refl
or_refused h (Some refusal) s goes = λ sound. record { written = tt; sends = tt; after = h.range }

pub proposes_range : (h : Here) (w : VolatileState) (entry : List ℕ) → w.role ≡ Leader → KeptIsInRange w → last h.p < most_index → length entry ≤ most_entry → Goes h (proposes h.me h.p w entry)
proposes_range h w entry role kept room short sound =
    let r = creates_range h w (ballot h.p) entry role kept (own_ballot h.p h.range.stored) room short sound in
    record { written = r.written; sends = r.sends; after = r.after }

pub propose_range : (h : Here) (entry : List ℕ) → length entry ≤ most_entry → Goes h (on_propose h.me h.p h.v entry)
propose_range h entry short = or_refused h (refuses_entry h.p h.v) (proposes h.me h.p h.v entry) (λ free. let may = may_append h free in
    proposes_range h h.v entry may.leader h.range.kept may.room short)

-- how long a members entry is
caller_length : (call : Option Invocation) → ((c : Invocation) → call ≡ Some c → length c.client.0 ≡ 16) → length ((optional invocation).spelling call) ≤ 26
unfolding big_endian index client_id thread_no invocation
caller_length None named = omega arith
caller_length (Some call) named = omega (arith, length-append call.client.0 (call.thread.0 ∷ to_be_bytes w64 call.number), named call refl)

spelled_length : (before ms : List ℕ) → length (items_spelling member_after before ms) ≡ length ms
unfolding items_spelling member_after
spelled_length before [] = refl
spelled_length before (m ∷ ms) = ap suc (spelled_length (before ++ m ∷ []) ms)

entry_length : (call : Option Invocation) (plan : ℕ) (ms : List ℕ) → ((c : Invocation) → call ≡ Some c → length c.client.0 ≡ 16) → length ms ≤ 10 → length (members_entry call plan ms) ≤ most_entry
unfolding configs.members_entry common.members big_endian
entry_length call plan ms named few =
    let caller = (optional invocation).spelling call in
    let listed = items_spelling member_after [] ms in
    let a : length (caller ++ (to_be_bytes w64 plan ++ (to_be_bytes w32 (length ms) ++ listed))) ≡ length caller + length (to_be_bytes w64 plan ++ (to_be_bytes w32 (length ms) ++ listed)) = length-append caller (to_be_bytes w64 plan ++ (to_be_bytes w32 (length ms) ++ listed)) in
    let b : length (to_be_bytes w64 plan ++ (to_be_bytes w32 (length ms) ++ listed)) ≡ 12 + length listed = omega arith in
    omega (arith, a, b, caller_length call named, spelled_length [] ms, few)

changes_range : (h : Here) (change : Change) (plan : ℕ) (call : Option Invocation) → MayAppend h → ((c : Invocation) → call ≡ Some c → length c.client.0 ≡ 16) → Goes h (changes h.me h.p h.v change plan call)
changes_range h change plan call may named =
    let ms = members h.p in
    let few = few_members ms (after_fits h.p.base_config h.p.base h.p.log h.range.stored.members) in
    let w = with_added h.p h.v change in
    let k = h.range.kept in
    let role : w.role ≡ Leader = either (λ (z : VolatileState). z.role ≡ Leader) change.add (with_peer change.member.0 (new_peer (suc (last h.p))) h.v) h.v (λ e. may.leader) (λ e. may.leader) in
    let kept : KeptIsInRange w = either KeptIsInRange change.add (with_peer change.member.0 (new_peer (suc (last h.p))) h.v) h.v (λ e. record { clock = k.clock; heard = k.heard; beat = k.beat; round = k.round; received = k.received }) (λ e. k) in
    let short : length (changed change ms) ≤ 10 = either (λ (l : List ℕ). length l ≤ 10) change.add (with_member change.member.0 ms) (without_member change.member.0 ms)
    (λ e. omega (arith, one_more change.member.0 ms, few))
    (λ e. omega (arith, no_more change.member.0 ms, few)) in
    proposes_range h w (members_entry call plan (changed change ms)) role kept may.room (entry_length call plan (changed change ms) named short)

pub change_range : (h : Here) (change : Change) (plan : ℕ) (call : Option Invocation) → ((c : Invocation) → call ≡ Some c → length c.client.0 ≡ 16) → Goes h (on_change h.me h.p h.v change plan call)
change_range h change plan call named =
    or_refused h (refuses_entry h.p h.v) (unless_refused (refuses_change h.p h.v change) h.v (changes h.me h.p h.v change plan call)) (λ free.
    or_refused h (refuses_change h.p h.v change) (changes h.me h.p h.v change plan call) (λ allowed. changes_range h change plan call (may_append h free) named))

-- ---- replies at a leader

peer_kept : (h : Here) (member : ℕ) (x : Peer) → KeptIsInRange (with_peer member x h.v)
peer_kept h member x = let k = h.range.kept in record { clock = k.clock; heard = k.heard; beat = k.beat; round = k.round; received = k.received }

-- to one member, from one that leads
to_one : (h : Here) (v : VolatileState) (from : ℕ) → IsMember from → IsSound h.me h.p v → v.role ≡ Leader → AllByRecursion SentIsInRange (append_to h.p v from ∷ [])
to_one h v from m sound leader = (record { to = m; body = append_in_range h.p v from h.range.stored sound.within (sound.peers leader from) }, tt)

matches_range : (h : Here) (from index : ℕ) → IsMember from → h.v.role ≡ Leader → Goes h (matches h.me h.p h.v from index)
matches_range h from index m leader =
    let x = peer h.v.peers from in
    let v' = commits h.me h.p (with_peer from (matched_to x index) h.v) in
    let sends : List Sent = if is_leader v'.role && nat_lt index (last h.p) then append_to h.p v' from ∷ [] else [] in
    either (Goes h) (nat_lt x.matched index && nat_le index (last h.p)) (leads_and (does None v' sends)) (does None h.v [])
    (λ e sound. record {
      written = tt;
      sends = either (AllByRecursion SentIsInRange) (is_leader v'.role && nat_lt index (last h.p)) (append_to h.p v' from ∷ []) []
          (λ z. to_one h v' from m sound (leader_is v'.role (and_parts (is_leader v'.role) (nat_lt index (last h.p)) z).0))
          (λ z. tt);
      after = led_range h.me h.p h.p (with_peer from (matched_to x index) h.v) leader h.range.stored (peer_kept h from (matched_to x index));
    })
    (λ e. silent h)

falls_range : (h : Here) (from index : ℕ) → IsMember from → h.v.role ≡ Leader → Goes h (falls_back h.p h.v from index)
falls_range h from index m leader sound =
    let x = peer h.v.peers from in
    let next = next_tried x index in
    let y : Peer = record x { next = next } in
    let v' = with_peer from y h.v in
    record {
      written = tt;
      sends = either (AllByRecursion SentIsInRange) (nat_lt next x.next) (append_to h.p v' from ∷ []) [] (λ z. to_one h v' from m sound leader) (λ z. tt);
      after = leads_range h.p v' leader h.range.stored (peer_kept h from y);
    }

more_range : (h : Here) (from index received : ℕ) → IsMember from → h.v.role ≡ Leader → Goes h (sends_more h.p h.v from index received)
more_range h from index received m leader =
    let x = peer h.v.peers from in
    let y : Peer = record x { offset = received } in
    let v' = with_peer from y h.v in
    let test = nat_le received (length h.p.snapshot) && nat_le x.next h.p.base in
    either (Goes h) ((index == h.p.base) && test) (does None v' (reply from (chunk_from h.p received))) (does None h.v [])
    (λ e.
    let fits = leb-true received (length h.p.snapshot) (and_parts (nat_le received (length h.p.snapshot)) (nat_le x.next h.p.base) (and_parts (index == h.p.base) test e).1).0 in
    quiet h v' (reply from (chunk_from h.p received)) (leads_range h.p v' leader h.range.stored (peer_kept h from y)) (one_sent from (chunk_from h.p received) m (chunk_in_range h.p received h.range.stored fits)))
    (λ e. silent h)

answered : (h : Here) (from term : ℕ) (s : LocalStep) → term ≤ most_index → (h.v.role ≡ Leader → Goes h s) → Goes h (if nat_lt h.p.term term then adopts term h.p h.v else if not (is_answered h.p h.v from term) then does None h.v [] else s)
answered h from term s most goes = adopts_or h term (if not (is_answered h.p h.v from term) then does None h.v [] else s) most
    (either (Goes h) (not (is_answered h.p h.v from term)) (does None h.v []) s
    (λ n. silent h)
    (λ n. goes (leader_is h.v.role (and_parts (is_leader h.v.role) ((term == h.p.term) && is_member from (members h.p)) (not-false (is_answered h.p h.v from term) n)).0)))

pub append_reply_range : (h : Here) (from term : ℕ) (taken : Bool) (index : ℕ) → IsMember from → term ≤ most_index → Goes h (on_append_reply h.me h.p h.v from term taken index)
append_reply_range h from term true index m most = answered h from term (matches h.me h.p h.v from index) most (λ leader. matches_range h from index m leader)
append_reply_range h from term false index m most = answered h from term (falls_back h.p h.v from index) most (λ leader. falls_range h from index m leader)

pub snapshot_reply_range : (h : Here) (from term index : ℕ) (done : Bool) (received : ℕ) → IsMember from → term ≤ most_index → Goes h (on_snapshot_reply h.me h.p h.v from term index done received)
snapshot_reply_range h from term index true received m most = answered h from term (matches h.me h.p h.v from index) most (λ leader. matches_range h from index m leader)
snapshot_reply_range h from term index false received m most = answered h from term (sends_more h.p h.v from index received) most (λ leader. more_range h from index received m leader)
