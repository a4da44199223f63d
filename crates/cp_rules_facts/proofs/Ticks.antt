-- A tick, and what comes after each rule: a snapshot of the member's own, a beat, and the reads that are settled.
use Rattle.std.proofs.Common.{◌||◌, ◌&&◌, ◌==◌, ◌≡◌, ℕ, suc, ◌-◌, ◌<◌, ◌⊎◌, inl, inr, ⊎_elim, not, Bool, true, false, List, [], ◌∷◌, ◌++◌, length, take, drop, map, filter, refl, ap, sym, ◌∙◌, arith, subst, Option, Some, None, is_none, All, nat_lt, nat_le, le_refl, true≢false, if◌then◌else◌}
use Rattle.std.proofs.lemmas.Bool.{eqb-true, and_parts, not-false}
use Rattle.std.proofs.lemmas.List.{length-drop}
use Rattle.std.proofs.lemmas.List.Elements.{All-nil, All-cons, All-head, All-tail}
use Rattle.cp_agreement_facts.specs.Entries.{members_in}
use Rattle.cp_agreement_facts.specs.Facts.{configuration_of}
use Rattle.cp_safety.specs.Tracking.{untracked, MatchedUpto, WinsByVotes, WinsAlone, StaysCandidate, BecomesCandidate, TrackedFacts}
use Rattle.cp_rules.specs.declared.ballot.Ballot.{Ballot}
use Rattle.cp_rules.specs.declared.role.Role.{Role}
use Rattle.cp_rules.specs.declared.role.Role.TheVariants.{PreCandidate, Leader}
use Rattle.cp_rules.specs.Limits.{beat_period, most_index, most_snapshot}
use Rattle.cp_rules.specs.Spelling.{empty_entry, snapshot_bytes}
use Rattle.cp_log_rules.specs.Persistent.{PersistentState, last}
use Rattle.cp_log_rules.specs.Configurations.{config_at}
use Rattle.cp_rules.specs.Persistent.{Part, SnapshotPart, ballot, log_end, known_term, members, is_member, others, with_part, after_part}
use Rattle.cp_rules.specs.Volatile.{Reads, VolatileState, no_reads, no_votes, new_peer, peer, silence}
use Rattle.cp_rules.specs.Local.{PreVote, Confirm, Sent, LocalStep, does, send, is_leader}
use Rattle.cp_rules.specs.Sending.{appends}
use Rattle.cp_rules.specs.Leadership.{created_part, leading, takes_leadership}
use Rattle.cp_rules.specs.PreVotes.{timeout, may_stand, stands, times_out}
use Rattle.cp_rules.specs.Requests.{refuses_entry, proposes}
use Rattle.cp_rules.specs.Snapshots.{own_head, from_start, writes_snapshot, own_snapshot}
use Rattle.cp_rules.specs.Confirming.{confirms, is_ready, settles}
use Rattle.cp_rules.specs.Ticks.{expires, is_proposed, confirms_again, beats, on_tick}
use Rattle.cp_rules_facts.specs.Seen.{seen_role, tracked_member}
use Rattle.cp_rules_facts.specs.Soundness.{IsPlaced, ReadsBack, IsSnapshotDue}
use Rattle.cp_rules_facts.proofs.Basics.{either, leader_is, mapped_place, all_mapped}
use Rattle.cp_rules_facts.proofs.Knowing.{entry_has, knows_has, knows_at, configured_members, members_are, quorum_is}
use Rattle.cp_rules_facts.proofs.Turns.{Turn, here, core, Truth, Left, Good}
use Rattle.cp_rules_facts.proofs.Quiet.{Calm, rests, quiet_low, stays}
use Rattle.cp_rules_facts.proofs.Commits.{sends_all, creates_good}
use Rattle.cp_rules_facts.proofs.Elections.{alone, leadership}
use Rattle.cp_rules_facts.proofs.Changes.{plain_entry}

-- ---- what agreement does not see

-- another beat and other reads, and other messages that are true
retold : (t : Turn) (leads : Bool) (p : PersistentState) (v : VolatileState) (before sends : List Sent) (beat : ℕ) (reads : Reads) → Left t leads p v before → All (Truth t leads p v) sends → Left t leads p (record v { beat = beat; reads = reads }) sends
retold t leads p v before sends beat reads g says = record {
  facts = g.facts;
  says = says;
  sound = record { named = g.sound.named; above_base = g.sound.above_base; within = g.sound.within; no_base = g.sound.no_base; voted = g.sound.voted; campaigns = g.sound.campaigns; leads = g.sound.leads; peers = g.sound.peers };
  snapshot = g.snapshot;
  receives = g.receives;
}

all_both : {A : Type 0} (P : A → Type 0) (xs ys : List A) → All P xs → All P ys → All P (xs ++ ys)
all_both P [] ys a b = b
all_both P (x ∷ xs) ys a b = All-cons P x (xs ++ ys) (All-head P x xs a) (all_both P xs ys (All-tail P x xs a) b)

confirming : (t : Turn) (leads : Bool) (p : PersistentState) (v : VolatileState) (reads : Reads) → All (Truth t leads p v) (confirms t.me p reads)
confirming t leads p v reads = all_mapped (Truth t leads p v) (λ f. send f (Confirm p.term reads.round)) (others t.me (members p)) (λ f. (tt, tt))

pub beats_good : (t : Turn) (s : LocalStep) → Good t s → Good t (beats t.me t.p s)
beats_good t s g =
    let now = after_part s.part t.p in
    let state : VolatileState = record s.state { beat = s.state.clock } in
    let appended = is_proposed s.outcome in
    let again = confirms_again t.me now state.reads in
    let first : List Sent = if appended then s.sends else appends t.me now state in
    either (Good t) (is_leader s.state.role && (appended || nat_le beat_period (s.state.clock - s.state.beat))) (record s { state = state; sends = first ++ again }) s
    (λ h.
    let leader : s.state.role ≡ Leader = leader_is s.state.role (and_parts (is_leader s.state.role) (appended || nat_le beat_period (s.state.clock - s.state.beat)) h).0 in
    let leads : s.leads ≡ true = g.facts.leads (ap seen_role leader) in
    let all_sent : All (Truth t s.leads now state) (appends t.me now state) = subst (λ b. All (Truth t b now state) (appends t.me now state)) (sym leads) (sends_all t now state (λ z. g.sound.peers leader)) in
    retold t s.leads now s.state s.sends (first ++ again) s.state.clock s.state.reads g (all_both (Truth t s.leads now state) first again
    (either (All (Truth t s.leads now state)) appended s.sends (appends t.me now state) (λ z. g.says) (λ z. all_sent))
    (either (All (Truth t s.leads now state)) (length state.reads.looks == 0) [] (confirms t.me now state.reads) (λ z. All-nil (Truth t s.leads now state)) (λ z. confirming t s.leads now state state.reads))))
    (λ h. g)

pub settles_good : (t : Turn) (s : LocalStep) → Good t s → Good t (settles t.me t.p t.v s)
settles_good t s g =
    let ready = is_ready t.me (members (after_part s.part t.p)) s.state.reads s.state.commit in
    let kept : Reads = record s.state.reads { looks = filter (λ look. not (ready look)) s.state.reads.looks } in
    either (Good t) (is_leader s.state.role) (record s { answered = filter ready s.state.reads.looks; state = record s.state { reads = kept } }) (record s { lost = t.v.reads.looks; state = record s.state { reads = no_reads } })
    (λ h. retold t s.leads (after_part s.part t.p) s.state s.sends s.sends s.state.beat kept g g.says)
    (λ h. retold t s.leads (after_part s.part t.p) s.state s.sends s.sends s.state.beat no_reads g g.says)

-- ---- the member's own snapshot, in a step that leaves log and commit

module _ (t : Turn) (role : Role) (leader clock heard : ℕ) (votes : List Bool) (sends : List Sent) where
  -- the state without the snapshot
  abbrev pub idle : VolatileState
  idle = record t.v { role = role; leader = leader; clock = clock; heard = heard; votes = votes }

  abbrev shifted : VolatileState
  shifted = record idle { peers = map from_start t.v.peers }

  abbrev compacted : List ℕ → PersistentState
  compacted bytes = record {
    term = t.p.term;
    vote = t.p.vote;
    base = t.v.commit;
    base_term = known_term t.p t.v.commit;
    base_config = config_at t.p t.v.commit;
    snapshot = bytes;
    log = drop (t.v.commit - t.p.base) t.p.log;
  }

  compacts : (machine : List ℕ) → t.p.base < t.v.commit → ReadsBack t.p t.v.commit machine
      → let bytes = snapshot_bytes (own_head t.p t.v.commit) machine in with_part (SnapshotPart (ballot t.p) t.v.commit bytes) t.p ≡ compacted bytes
  compacts machine above back = let has = entry_has t.p t.v.commit (known_term t.p t.v.commit) above ∙ knows_has t.p t.v.commit t.sound.above_base t.sound.within in rw (back, has) refl

  same_last : (bytes : List ℕ) → last (compacted bytes) ≡ last t.p
  same_last bytes = let a = t.sound.above_base in let b = t.sound.within in omega (arith, a, b, length-drop (t.v.commit - t.p.base) t.p.log)

  same_peer : (f : ℕ) → peer shifted.peers f ≡ from_start (peer t.v.peers f)
  same_peer f = mapped_place from_start t.v.peers (new_peer 1) refl f

  -- the role stays as it is, only the log is cut
  shifted_calm : (bytes : List ℕ) (leads : Bool) → TrackedFacts (here t) (core t leads t.p idle) → Calm t leads (compacted bytes) shifted
  shifted_calm bytes leads f = record {
    leading = f.leads;
    elected = λ h. ⊎_elim (λ z. inl z) (λ z. inr (⊎_elim
        (λ (y : WinsByVotes (here t) (core t leads t.p idle)). inl (record { role = y.role; term = y.term; vote = y.vote; quorum = y.quorum }))
        (λ (y : WinsAlone (here t) (core t leads t.p idle)). inr (record { term = y.term; vote = y.vote; quorum = y.quorum }))
        z)) (f.elected h);
    candidate = λ h. ⊎_elim
        (λ (y : StaysCandidate (here t) (core t leads t.p idle)). inl (record { role = y.role; term = y.term; counted = y.counted }))
        (λ (y : BecomesCandidate (here t) (core t leads t.p idle)). inr (record { term = y.term; counted = y.counted }))
        (f.candidate h);
    apart = f.apart;
    matched = λ h j. subst (λ x. (x.matched ≡ 0) ⊎ MatchedUpto (here t) (core t leads (compacted bytes) shifted) j x.matched) (sym (same_peer j)) (f.matched h j);
  }

  pub takes_snapshot : (leads : Bool) → Left t leads t.p idle sends → ((leads : Bool) (p : PersistentState) (v : VolatileState) → All (Truth t leads p v) sends) → (machine : List ℕ) → IsSnapshotDue t.p t.v machine
      → let bytes = snapshot_bytes (own_head t.p t.v.commit) machine in Left t leads (with_part (SnapshotPart (ballot t.p) t.v.commit bytes) t.p) shifted sends
  takes_snapshot leads g says machine due =
      let bytes = snapshot_bytes (own_head t.p t.v.commit) machine in
      let low = t.sound.above_base in
      let high = t.sound.within in
      let above = due.above in
      let same = same_last bytes in
      subst (λ (z : PersistentState). Left t leads z shifted sends) (sym (compacts machine due.above due.reads_back)) (record {
        facts = rests t leads (compacted bytes) shifted
            (inr (record {
              n = t.v.commit - t.p.base;
              base = omega (arith, low);
              fits = omega (arith, low, high);
              committed = le_refl t.v.commit;
              term = knows_at t.p t.v t.v.commit low high;
              members = configured_members t.p.base_config t.p.base (take (t.v.commit - t.p.base) t.p.log);
              log = refl;
            }))
            (le_refl t.p.term) (λ e ne. refl) (le_refl t.v.commit) refl (shifted_calm bytes leads g.facts);
        says = says leads (compacted bytes) shifted;
        sound = record {
          named = t.sound.named;
          above_base = le_refl t.v.commit;
          within = omega (arith, same, high);
          no_base = λ z. absurd (omega (arith, above, z));
          voted = g.sound.voted;
          campaigns = g.sound.campaigns;
          leads = g.sound.leads;
          peers = λ h f. let x = g.sound.peers h f in let a = x.next in let b = x.matched in
              subst (IsPlaced (last (compacted bytes)) (length bytes)) (sym (same_peer f)) (record { first = x.first; next = omega (arith, a, same); matched = omega (arith, b, same); offset = omega arith });
        };
        snapshot = inr (above, (own_head t.p t.v.commit, due.reads_back, refl, refl));
        receives = g.receives;
      })

  -- a snapshot or none, and then the beat
  pub idle_beats : Left t (is_leader role) t.p idle sends → ((leads : Bool) (p : PersistentState) (v : VolatileState) → All (Truth t leads p v) sends) → (may_write : Bool) (machine : Option (List ℕ))
      → ((bytes : List ℕ) → machine ≡ Some bytes → IsSnapshotDue t.p t.v bytes) → Good t (beats t.me t.p (own_snapshot t.p (does None idle sends) may_write machine))
  idle_beats g says may_write None due = beats_good t (does None idle sends) g
  idle_beats g says may_write (Some machine) due =
      let bytes = snapshot_bytes (own_head t.p t.v.commit) machine in
      either (λ s. Good t (beats t.me t.p s)) (may_write && true) (writes_snapshot t.p (does None idle sends) bytes) (does None idle sends)
      (λ h. either (λ s. Good t (beats t.me t.p s)) (nat_lt most_snapshot (length bytes)) (does None idle sends) (does (Some (SnapshotPart (ballot t.p) t.v.commit bytes)) shifted sends)
      (λ l. beats_good t (does None idle sends) g)
      (λ l. beats_good t (does (Some (SnapshotPart (ballot t.p) t.v.commit bytes)) shifted sends) (takes_snapshot (is_leader role) g says machine (due machine refl))))
      (λ h. beats_good t (does None idle sends) g)

-- a step that wrote takes no snapshot
pub wrote : (p : PersistentState) (s : LocalStep) (part : Part) (may_write : Bool) (machine : Option (List ℕ)) → s.part ≡ Some part → own_snapshot p s may_write machine ≡ s
wrote p s part may_write None e = refl
wrote p s part may_write (Some machine) e = either (λ (z : LocalStep). z ≡ s) (may_write && is_none s.part) (writes_snapshot p s (snapshot_bytes (own_head p s.state.commit) machine)) s
    (λ h. let x = (and_parts may_write (is_none s.part) h).1 in absurd (true≢false (sym x ∙ ap is_none e)))
    (λ h. refl)

-- ---- the tick

module _ (t : Turn) (clock : ℕ) (may_write : Bool) (machine : Option (List ℕ)) (due : (bytes : List ℕ) → machine ≡ Some bytes → IsSnapshotDue t.p t.v bytes) where
  abbrev ticked : VolatileState
  ticked = record t.v { clock = clock }

  -- what follows the first part of the tick
  abbrev Ends : LocalStep → Type 0
  Ends s = Good t (beats t.me t.p (own_snapshot t.p s may_write machine))

  nothing_due : Ends (does None ticked [])
  nothing_due = idle_beats t t.v.role t.v.leader clock t.v.heard t.v.votes [] (stays t ticked [] (record { role = refl; peers = refl; commit = refl; received = refl }) refl (All-nil (Truth t (is_leader t.v.role) t.p ticked)))
      (λ leads p v. All-nil (Truth t leads p v)) may_write machine due

  expires_good : (expiry : Option (List ℕ)) → t.v.role ≡ Leader → ((entry : List ℕ) → expiry ≡ Some entry → members_in entry ≡ None) → Ends (expires t.me t.p ticked may_write expiry)
  expires_good None leader plain = nothing_due
  expires_good (Some entry) leader plain = either Ends (may_write && is_none (refuses_entry t.p ticked)) (proposes t.me t.p ticked entry) (does None ticked [])
      (λ h. subst (λ (s : LocalStep). Good t (beats t.me t.p s)) (sym (wrote t.p (proposes t.me t.p ticked entry) (created_part t.p (ballot t.p) entry) may_write machine refl))
      (beats_good t (proposes t.me t.p ticked entry) (creates_good t ticked (ballot t.p) entry (plain_entry t ticked entry (plain entry refl) leader refl refl refl refl))))
      (λ h. nothing_due)

  stands_good : Ends (stands t.me t.p ticked)
  stands_good =
      let sends : List Sent = map (λ f. send f (PreVote (suc t.p.term) (log_end t.p))) (others t.me (members t.p)) in
      let v' : VolatileState = record ticked { role = PreCandidate; leader = 0; heard = clock; votes = no_votes } in
      let plain : (leads : Bool) (p : PersistentState) (v : VolatileState) → All (Truth t leads p v) sends = (λ leads p v. all_mapped (Truth t leads p v) (λ f. send f (PreVote (suc t.p.term) (log_end t.p))) (others t.me (members t.p)) (λ f. (tt, tt))) in
      idle_beats t PreCandidate 0 clock clock no_votes sends
      (quiet_low t t.p.term t.p.vote v' sends (le_refl t.p.term) (λ e ne. refl) (λ h. cc) (λ h. cc) refl (inl refl) (plain false t.p v'))
      plain may_write machine due

  alone_good : length (members t.p) ≡ 1 → may_stand t.me (members t.p) t.p.term (last t.p) (silence ticked) ≡ true → Ends (takes_leadership t.me t.p (record ticked { heard = clock }) (suc t.p.term))
  alone_good one may =
      let w : VolatileState = record ticked { heard = clock } in
      let given : Ballot = record { term = suc t.p.term; vote = t.me } in
      let s = takes_leadership t.me t.p w (suc t.p.term) in
      let inside = (and_parts (is_member t.me (members t.p)) (nat_le (timeout t.me) (silence ticked) && (nat_lt t.p.term most_index && nat_lt (last t.p) most_index)) may).0 in
      subst (λ (s : LocalStep). Good t (beats t.me t.p s)) (sym (wrote t.p s (created_part t.p given empty_entry) may_write machine refl))
      (beats_good t s (creates_good t (leading t.me t.p w) given empty_entry (leadership t w (suc t.p.term) refl refl (omega arith) (omega arith) (λ e ne. absurd (omega (arith, e)))
      (λ v'. inr (record {
        term = omega arith;
        vote = refl;
        quorum = quorum_is (λ u. u ≡ t.me) (members t.p) (configuration_of (untracked (tracked_member t.p t.v))) (λ f. f == t.me) (members_are t.p t.v) (alone t.me (members t.p) one inside) (λ f chosen. eqb-true f t.me chosen);
      })))))

  times_out_good : Ends (times_out t.me t.p ticked may_write)
  times_out_good =
      let may = may_stand t.me (members t.p) t.p.term (last t.p) (silence ticked) in
      let taking = takes_leadership t.me t.p (record ticked { heard = clock }) (suc t.p.term) in
      either Ends (not may) (does None ticked []) (if length (members t.p) == 1 then (if may_write then taking else does None ticked []) else stands t.me t.p ticked)
      (λ h. nothing_due)
      (λ h. either Ends (length (members t.p) == 1) (if may_write then taking else does None ticked []) (stands t.me t.p ticked)
      (λ one. either Ends may_write taking (does None ticked []) (λ w. alone_good (eqb-true (length (members t.p)) 1 one) (not-false may h)) (λ w. nothing_due))
      (λ more. stands_good))

  pub tick_good : (expiry : Option (List ℕ)) → ((entry : List ℕ) → expiry ≡ Some entry → members_in entry ≡ None) → Good t (on_tick t.me t.p t.v clock may_write expiry machine)
  tick_good expiry plain = either Ends (is_leader t.v.role) (expires t.me t.p ticked may_write expiry) (times_out t.me t.p ticked may_write)
      (λ h. expires_good expiry (leader_is t.v.role h) plain)
      (λ h. times_out_good)
