-- A tick, and what comes after each rule.
use Rattle.std.proofs.Common.{◌||◌, ◌&&◌, ◌==◌, ◌≡◌, ℕ, suc, ◌-◌, ◌<◌, ◌≤◌, not, Bool, true, List, [], ◌++◌, length, map, filter, refl, sym, subst, arith, Option, Some, None, is_none, nat_lt, nat_le, if◌then◌else◌, ltb-true, ltb-false}
use Rattle.std.specs.List.{AllByRecursion}
use Rattle.std.proofs.lemmas.Bool.{and_parts, not-false}
use Rattle.cp_log_rules.specs.Persistent.{PersistentState, last}
use Rattle.cp_rules.specs.declared.ballot.Ballot.{Ballot}
use Rattle.cp_rules.specs.declared.role.Role.{Role}
use Rattle.cp_rules.specs.declared.role.Role.TheVariants.{PreCandidate, Leader}
use Rattle.cp_rules.specs.Limits.{beat_period, most_index, most_snapshot}
use Rattle.cp_rules.specs.Spelling.{empty_entry, snapshot_bytes}
use Rattle.cp_rules.specs.Persistent.{Part, SnapshotPart, ballot, log_end, members, is_member, others, after_part}
use Rattle.cp_rules.specs.Volatile.{Reads, VolatileState, no_reads, no_votes, silence}
use Rattle.cp_rules.specs.Local.{PreVote, Sent, LocalStep, does, send, is_leader}
use Rattle.cp_rules.specs.Sending.{appends}
use Rattle.cp_rules.specs.Leadership.{created_part, leading, takes_leadership}
use Rattle.cp_rules.specs.PreVotes.{timeout, may_stand, stands, times_out}
use Rattle.cp_rules.specs.Requests.{refuses_entry, proposes}
use Rattle.cp_rules.specs.Snapshots.{own_head, from_start, writes_snapshot, own_snapshot}
use Rattle.cp_rules.specs.Confirming.{confirms, is_ready, settles}
use Rattle.cp_rules.specs.Ticks.{expires, is_proposed, confirms_again, beats, on_tick}
use Rattle.cp_rules_facts.specs.Soundness.{IsSound, IsSnapshotDue}
use Rattle.cp_rules_facts.proofs.Basics.{either, leader_is, none_is}
use Rattle.cp_rules_facts.proofs.Ticks.{wrote}
use Rattle.cp_rules_ranges.specs.Ranges.{KeptIsInRange, IsInRange, SentIsInRange, most_entry}
use Rattle.cp_rules_ranges.proofs.Basics.{all_both, own_ballot, appends_in_range, all_told}
use Rattle.cp_rules_ranges.proofs.Rules.{Here, Goes, quiet, with_reads, confirming, end_in_range}
use Rattle.cp_rules_ranges.proofs.Leaders.{creates_range, leading_kept, may_append, proposes_range}
use Rattle.cp_rules_ranges.proofs.Followers.{Snapped, snapped}

-- ---- what comes after each rule

-- other beats and reads are as sound
same_sound : (me : ℕ) (p : PersistentState) (v : VolatileState) (beat : ℕ) (reads : Reads) → IsSound me p (record v { beat = beat; reads = reads }) → IsSound me p v
same_sound me p v beat reads s = record { named = s.named; above_base = s.above_base; within = s.within; no_base = s.no_base; voted = s.voted; campaigns = s.campaigns; leads = s.leads; peers = s.peers }

pub beats_range : (h : Here) (s : LocalStep) → Goes h s → Goes h (beats h.me h.p s)
beats_range h s goes =
    let now = after_part s.part h.p in
    let state : VolatileState = record s.state { beat = s.state.clock } in
    let appended = is_proposed s.outcome in
    let again = confirms_again h.me now state.reads in
    let first : List Sent = if appended then s.sends else appends h.me now state in
    either (Goes h) (is_leader s.state.role && (appended || nat_le beat_period (s.state.clock - s.state.beat))) (record s { state = state; sends = first ++ again }) s
    (λ l sound.
    let g = goes (same_sound h.me now s.state s.state.clock s.state.reads sound) in
    let r = g.after.stored in
    let k = g.after.kept in
    record {
      written = g.written;
      sends = all_both SentIsInRange first again
          (either (AllByRecursion SentIsInRange) appended s.sends (appends h.me now state) (λ z. g.sends) (λ z. appends_in_range h.me now state r sound))
          (either (AllByRecursion SentIsInRange) (length state.reads.looks == 0) [] (confirms h.me now state.reads) (λ z. tt) (λ z. confirming h.me now state.reads r k.round));
      after = record {
        stored = r;
        kept = record { clock = k.clock; heard = k.heard; beat = k.clock; round = k.round; received = k.received };
        asks = g.after.asks;
        campaigns = g.after.campaigns;
      };
    })
    (λ l. goes)

pub settles_range : (h : Here) (s : LocalStep) → Goes h s → Goes h (settles h.me h.p h.v s)
settles_range h s goes =
    let q = after_part s.part h.p in
    let ready = is_ready h.me (members q) s.state.reads s.state.commit in
    let kept : Reads = record s.state.reads { looks = filter (λ look. not (ready look)) s.state.reads.looks } in
    either (Goes h) (is_leader s.state.role) (record s { answered = filter ready s.state.reads.looks; state = record s.state { reads = kept } }) (record s { lost = h.v.reads.looks; state = record s.state { reads = no_reads } })
    (λ l sound. let g = goes (same_sound h.me q s.state s.state.beat kept sound) in
    record { written = g.written; sends = g.sends; after = with_reads q s.state kept g.after.kept.round g.after })
    (λ l sound. let g = goes (same_sound h.me q s.state s.state.beat no_reads sound) in
    record { written = g.written; sends = g.sends; after = with_reads q s.state no_reads (omega arith) g.after })

-- ---- the tick

module _ (h : Here) (clock : ℕ) (late : clock ≤ most_index) (may_write : Bool) (machine : Option (List ℕ)) (due : (bytes : List ℕ) → machine ≡ Some bytes → IsSnapshotDue h.p h.v bytes) where
  abbrev ticked : VolatileState
  ticked = record h.v { clock = clock }

  ticked_kept : KeptIsInRange ticked
  ticked_kept = let k = h.range.kept in record { clock = late; heard = k.heard; beat = k.beat; round = k.round; received = k.received }

  ticked_range : IsInRange h.p ticked
  ticked_range = record { stored = h.range.stored; kept = ticked_kept; asks = h.range.asks; campaigns = h.range.campaigns }

  -- what follows the first part of the tick
  abbrev Ends : LocalStep → Type 0
  Ends s = Goes h (beats h.me h.p (own_snapshot h.p s may_write machine))

  -- a step that wrote
  ends : (s : LocalStep) (part : Part) → s.part ≡ Some part → Goes h s → Ends s
  ends s part is goes = subst (λ (z : LocalStep). Goes h (beats h.me h.p z)) (sym (wrote h.p s part may_write machine is)) (beats_range h s goes)

  module _ (role : Role) (leader heard : ℕ) (votes : List Bool) (sends : List Sent) where
    -- the state without a snapshot
    abbrev idle : VolatileState
    idle = record h.v { role = role; leader = leader; clock = clock; heard = heard; votes = votes }

    abbrev shifted : VolatileState
    shifted = record idle { peers = map from_start h.v.peers }

    snapshot_taken : IsInRange h.p idle → AllByRecursion SentIsInRange sends → (bytes : List ℕ) → h.p.base < h.v.commit → (let x = snapshot_bytes (own_head h.p h.v.commit) bytes in Snapped h.p (ballot h.p) h.v.commit x)
        → Goes h (does (Some (SnapshotPart (ballot h.p) h.v.commit (snapshot_bytes (own_head h.p h.v.commit) bytes))) shifted sends)
    snapshot_taken r all bytes above x sound =
        let k = r.kept in
        let within = h.sound.within in
        let far = x.end in
        let same = x.term in
        record {
          written = x.written;
          sends = all;
          after = record {
            stored = x.stored;
            kept = record { clock = k.clock; heard = k.heard; beat = k.beat; round = k.round; received = k.received };
            asks = λ z. let a = r.asks z in let low = a.0 in let room = a.1 in (omega (arith, low, same), omega (arith, room, far, within));
            campaigns = λ z. let room = r.campaigns z in omega (arith, room, far, within);
          };
        }

    -- a snapshot or none, and then the beat
    idles : IsInRange h.p idle → AllByRecursion SentIsInRange sends → (machine_ : Option (List ℕ)) → ((bytes : List ℕ) → machine_ ≡ Some bytes → IsSnapshotDue h.p h.v bytes) → Goes h (beats h.me h.p (own_snapshot h.p (does None idle sends) may_write machine_))
    idles r all None due_ = beats_range h (does None idle sends) (quiet h idle sends r all)
    idles r all (Some bytes) due_ =
        let s = does None idle sends in
        let whole = snapshot_bytes (own_head h.p h.v.commit) bytes in
        let d = due_ bytes refl in
        let within = h.sound.within in
        let most = h.range.stored.last_index in
        either (λ z. Goes h (beats h.me h.p z)) (may_write && true) (writes_snapshot h.p s whole) s
        (λ w. either (λ z. Goes h (beats h.me h.p z)) (nat_lt most_snapshot (length whole)) s (does (Some (SnapshotPart (ballot h.p) h.v.commit whole)) shifted sends)
        (λ l. beats_range h s (quiet h idle sends r all))
        (λ l. beats_range h (does (Some (SnapshotPart (ballot h.p) h.v.commit whole)) shifted sends)
        (snapshot_taken r all bytes d.above (snapped h.p (ballot h.p) h.v.commit whole (own_head h.p h.v.commit) h.range.stored (own_ballot h.p h.range.stored) d.reads_back d.above (omega (arith, within, most)) (ltb-false most_snapshot (length whole) l)))))
        (λ w. beats_range h s (quiet h idle sends r all))

  nothing_due : Ends (does None ticked [])
  nothing_due = idles h.v.role h.v.leader h.v.heard h.v.votes [] ticked_range tt machine due

  expires_range : (expiry : Option (List ℕ)) → h.v.role ≡ Leader → ((entry : List ℕ) → expiry ≡ Some entry → length entry ≤ most_entry) → Ends (expires h.me h.p ticked may_write expiry)
  expires_range None leader short = nothing_due
  expires_range (Some entry) leader short = either Ends (may_write && is_none (refuses_entry h.p ticked)) (proposes h.me h.p ticked entry) (does None ticked [])
      (λ e.
      let free : refuses_entry h.p h.v ≡ None = none_is (refuses_entry h.p h.v) (and_parts may_write (is_none (refuses_entry h.p ticked)) e).1 in
      ends (proposes h.me h.p ticked entry) (created_part h.p (ballot h.p) entry) refl (proposes_range h ticked entry leader ticked_kept (may_append h free).room (short entry refl)))
      (λ e. nothing_due)

  stands_range : h.p.term < most_index → last h.p < most_index → Ends (stands h.me h.p ticked)
  stands_range low room =
      let k = h.range.kept in
      let r = h.range.stored in
      let sends : List Sent = map (λ f. send f (PreVote (suc h.p.term) (log_end h.p))) (others h.me (members h.p)) in
      idles PreCandidate 0 clock no_votes sends
      (record {
        stored = r;
        kept = record { clock = late; heard = late; beat = k.beat; round = k.round; received = k.received };
        asks = λ z. (low, room);
        campaigns = λ z. room;
      })
      (all_told h.me h.p (PreVote (suc h.p.term) (log_end h.p)) r (omega (arith, low), end_in_range h.p r))
      machine due

  alone_range : h.p.term < most_index → last h.p < most_index → Ends (takes_leadership h.me h.p (record ticked { heard = clock }) (suc h.p.term))
  alone_range low room =
      let k = h.range.kept in
      let w : VolatileState = record ticked { heard = clock } in
      let b : Ballot = record { term = suc h.p.term; vote = h.me } in
      let kept : KeptIsInRange w = record { clock = late; heard = late; beat = k.beat; round = k.round; received = k.received } in
      ends (takes_leadership h.me h.p w (suc h.p.term)) (created_part h.p b empty_entry) refl
      (creates_range h (leading h.me h.p w) b empty_entry refl (leading_kept h.me h.p w kept) (record { up = omega arith; term = omega (arith, low); vote = h.member.last }) room (omega arith))

  times_out_range : Ends (times_out h.me h.p ticked may_write)
  times_out_range =
      let room = nat_lt h.p.term most_index && nat_lt (last h.p) most_index in
      let waited = nat_le (timeout h.me) (silence ticked) in
      let may = may_stand h.me (members h.p) h.p.term (last h.p) (silence ticked) in
      let taking = takes_leadership h.me h.p (record ticked { heard = clock }) (suc h.p.term) in
      either Ends (not may) (does None ticked []) (if length (members h.p) == 1 then (if may_write then taking else does None ticked []) else stands h.me h.p ticked)
      (λ n. nothing_due)
      (λ n.
      let a = and_parts (is_member h.me (members h.p)) (waited && room) (not-false may n) in
      let b = and_parts waited room a.1 in
      let c = and_parts (nat_lt h.p.term most_index) (nat_lt (last h.p) most_index) b.1 in
      let low = ltb-true h.p.term most_index c.0 in
      let high = ltb-true (last h.p) most_index c.1 in
      either Ends (length (members h.p) == 1) (if may_write then taking else does None ticked []) (stands h.me h.p ticked)
      (λ one. either Ends may_write taking (does None ticked []) (λ w. alone_range low high) (λ w. nothing_due))
      (λ more. stands_range low high))

  pub tick_range : (expiry : Option (List ℕ)) → ((entry : List ℕ) → expiry ≡ Some entry → length entry ≤ most_entry) → Goes h (on_tick h.me h.p h.v clock may_write expiry machine)
  tick_range expiry short = either Ends (is_leader h.v.role) (expires h.me h.p ticked may_write expiry) (times_out h.me h.p ticked may_write)
      (λ l. expires_range expiry (leader_is h.v.role l) short)
      (λ l. times_out_range)
