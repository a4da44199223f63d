-- Entries and chunks that come from a leader.
use Rattle.std.proofs.Common.{◌&&◌, ◌==◌, ◌≡◌, ℕ, suc, ◌+◌, ◌-◌, ◌<◌, ◌≤◌, ◌⊎◌, ⊎_elim, max, Bool, true, false, List, [], ◌∷◌, length, drop, refl, sym, ap, subst, arith, Option, Some, None, is_none, nat_lt, nat_le, if◌then◌else◌, le_refl, true≢false, ltb-false, length-drop}
use Rattle.std.specs.Prelude.{is_some}
use Rattle.std.proofs.lemmas.Bool.{cases_Bool, leb-false}
use Rattle.std.proofs.lemmas.Option.{same_Some}
use Rattle.cp_parts.specs.declared.log_entry.LogEntry.{LogEntry}
use Rattle.cp_parts.specs.declared.snapshot_head.SnapshotHead.{SnapshotHead}
use Rattle.cp_parts.specs.Heads.{head_of}
use Rattle.cp_log_rules.specs.Persistent as stored
use Rattle.cp_log_rules.specs.Persistent.{PersistentState, last, entry_at, term_at, with_ballot, with_entries, suffix_behind, with_head}
use Rattle.cp_rules.specs.declared.ballot.Ballot.{Ballot}
use Rattle.cp_rules.specs.declared.role.Role.TheVariants.{Follower}
use Rattle.cp_rules.specs.Limits.{most_index, batch_entries, most_snapshot}
use Rattle.cp_rules.specs.Persistent.{SnapshotPart, AppendPart, ballot, has_term, with_part, ballot_part}
use Rattle.cp_rules.specs.Volatile.{Received, VolatileState}
use Rattle.cp_rules.specs.Local.{Body, AppendReply, SnapshotReply, does, reply}
use Rattle.cp_rules.specs.Terms.{adopted}
use Rattle.cp_rules.specs.Appends.{following, Difference, difference, follower_commit, takes, refused_index, goes_on, on_append}
use Rattle.cp_rules.specs.Snapshots.{received_of, length_received, joined, Progress, Apart, TooLong, More, Whole, progress_of, progress, answers, installs, takes_chunk, on_snapshot}
use Rattle.cp_rules_facts.proofs.Basics.{either}
use Rattle.cp_rules_facts.proofs.Knowing.{has_known, known_within}
use Rattle.cp_rules_ranges.specs.Ranges.{IsMember, EntryIsInRange, AreInRange, StoredIsInRange, KeptIsInRange, BodyIsInRange, AppendIsInRange, ChunkIsInRange, BallotIsInRange, PartIsInRange}
use Rattle.cp_rules_ranges.proofs.Members.{head_in_range}
use Rattle.cp_rules_ranges.proofs.Basics.{all_drop, adopted_ballot}
use Rattle.cp_rules_ranges.proofs.Rules.{Here, Goes, silent, plain, balloted, with_ballot_range, follows_in_range, one_sent}
use Rattle.cp_rules_ranges.proofs.Leaders.{entries_stored}

-- ---- entries

-- where the first difference lies, among entries that follow an index
record Found (p : PersistentState) (after : ℕ) (entries : List LogEntry) (d : Difference) : Type 0 where
  low : after ≤ d.after
  high : d.after ≤ last p
  end : d.after + length d.entries ≡ after + length entries
  fewer : length d.entries ≤ length entries
  range : AreInRange entries → AreInRange d.entries

found : (p : PersistentState) (v : VolatileState) (after : ℕ) (entries : List LogEntry) (d : Difference) → after ≤ last p → difference (term_at p) after entries ≡ Some d → Found p after entries d
found p v after [] d within is = absurd (cc)
found p v after (e ∷ entries) d within is = ⊎_elim
    (λ (z : has_term p (suc after) e.term ≡ true).
    let next = (known_within p v (suc after) e.term (has_known p v (suc after) e.term z)).1 in
    let x = found p v (suc after) entries d next (rw z at is) in
    let a = x.low in
    let b = x.end in
    let c = x.fewer in
    record { low = omega (arith, a); high = x.high; end = omega (arith, b); fewer = omega (arith, c); range = λ r. x.range r.1 })
    (λ (z : has_term p (suc after) e.term ≡ false).
    let here : Difference = record { after = after; entries = e ∷ entries } in
    let same : here ≡ d = same_Some here d (rw z at is) in
    subst (Found p after (e ∷ entries)) same (record { low = le_refl after; high = within; end = refl; fewer = le_refl (suc (length entries)); range = λ r. r }))
    (cases_Bool (has_term p (suc after) e.term))

module _ (h : Here) (from term told index : ℕ) (m : IsMember from) (most : term ≤ most_index) (reached : index ≤ most_index) where
  abbrev now : Ballot
  now = adopted term (ballot h.p)

  given : BallotIsInRange h.p now
  given = adopted_ballot term h.p most h.range.stored

  abbrev kept_as : ℕ → VolatileState
  kept_as commit = record (following from h.v) { commit = commit }

  follows_kept : (commit : ℕ) → KeptIsInRange (kept_as commit)
  follows_kept commit = let k = h.range.kept in record { clock = k.clock; heard = k.clock; beat = k.beat; round = k.round; received = k.received }

  -- a ballot, and a reply
  follows_range : (commit : ℕ) (body : Body) → BodyIsInRange body → Goes h (does (ballot_part h.p now) (kept_as commit) (reply from body))
  follows_range commit body b = balloted h now (kept_as commit) (reply from body) given
      (follows_in_range (with_ballot now.term now.vote h.p) (kept_as commit) refl (with_ballot_range h.p now h.range.stored given) (follows_kept commit))
      (one_sent from body m b)

  quietly : Goes h (does (ballot_part h.p now) (following from h.v) [])
  quietly = balloted h now (following from h.v) [] given (follows_in_range (with_ballot now.term now.vote h.p) (following from h.v) refl (with_ballot_range h.p now h.range.stored given) (follows_kept h.v.commit)) tt

  takes_range : (at : ℕ) (entries : List LogEntry) (o : Option Difference) → h.p.base ≤ at → at ≤ last h.p → at + length entries ≤ most_index → length entries ≤ batch_entries → AreInRange entries → difference (term_at h.p) at entries ≡ o
      → Goes h (takes h.p now (following from h.v) from told index o)
  takes_range at entries None low high end few all is = follows_range (follower_commit h.v.commit told index) (AppendReply now.term true index) (given.term, reached)
  takes_range at entries (Some d) low high end few all is =
      let x = found h.p h.v at entries d high is in
      let a = x.low in
      let b = x.end in
      let c = x.fewer in
      let far : d.after + length d.entries ≤ most_index = omega (arith, b, end) in
      let state = kept_as (follower_commit h.v.commit told index) in
      either (Goes h) (nat_lt d.after h.v.commit) (does (ballot_part h.p now) (following from h.v) []) (does (Some (AppendPart now d.after d.entries)) state (reply from (AppendReply now.term true index)))
      (λ l. quietly)
      (λ l sound. record {
        written = (given, record { low = omega (arith, a, low); high = x.high; end = far; few = omega (arith, c, few); all = x.range all });
        sends = one_sent from (AppendReply now.term true index) m (given.term, reached);
        after = follows_in_range (with_entries now.term now.vote d.after d.entries h.p) state refl
            (entries_stored h.p now d.after d.entries h.range.stored given (omega (arith, a, low)) x.high far (x.range all))
            (follows_kept (follower_commit h.v.commit told index));
      })

  goes_range : (previous previous_term : ℕ) (entries : List LogEntry) → h.p.base ≤ previous → previous + length entries ≤ most_index → length entries ≤ batch_entries → AreInRange entries
      → Goes h (goes_on h.p now (following from h.v) from previous previous_term told index entries)
  goes_range previous previous_term entries low end few all =
      let refusal = refused_index (last h.p) previous in
      either (Goes h) (has_term h.p previous previous_term) (takes h.p now (following from h.v) from told index (difference (term_at h.p) previous entries)) (does (ballot_part h.p now) (following from h.v) (reply from (AppendReply now.term false refusal)))
      (λ l. takes_range previous entries (difference (term_at h.p) previous entries) low (known_within h.p h.v previous previous_term (has_known h.p h.v previous previous_term l)).1 end few all refl)
      (λ l. let a = h.range.stored.last_index in follows_range h.v.commit (AppendReply now.term false refusal) (given.term, omega (arith, a)))

pub append_range : (h : Here) (from term previous previous_term told : ℕ) (entries : List LogEntry) → IsMember from → AppendIsInRange term previous previous_term told entries → Goes h (on_append h.p h.v from term previous previous_term told entries)
append_range h from term previous previous_term told entries m r =
    let index = previous + length entries in
    let b = adopted term (ballot h.p) in
    let n = h.p.base - previous in
    let below = goes_on h.p b (following from h.v) from h.p.base h.p.base_term told index (drop n entries) in
    let above = goes_on h.p b (following from h.v) from previous previous_term told index entries in
    let few = r.few in
    let end = r.end in
    let long : length (drop n entries) ≡ length entries - n = length-drop n entries in
    let within = h.range.stored.last_index in
    either (Goes h) (nat_lt term h.p.term) (does None h.v (reply from (AppendReply h.p.term false 0))) (if nat_lt previous h.p.base then below else above)
    (λ l. plain h from (AppendReply h.p.term false 0) m (h.range.stored.term, omega arith))
    (λ l. either (Goes h) (nat_lt previous h.p.base) below above
    (λ k. goes_range h from term told index m r.own end h.p.base h.p.base_term (drop n entries) (le_refl h.p.base) (omega (arith, long, end, within)) (omega (arith, long, few)) (all_drop EntryIsInRange n entries r.all))
    (λ k. goes_range h from term told index m r.own end previous previous_term entries (ltb-false previous h.p.base k) end few r.all))

-- ---- a snapshot that is written

-- the log behind it is no longer
pub record Suffix (p : PersistentState) (index : ℕ) (log : List LogEntry) : Type 0 where
  pub short : index + length log ≤ max (last p) index
  pub range : AreInRange p.log → AreInRange log

pub suffix_range : (p : PersistentState) (index term : ℕ) → p.base ≤ index → Suffix p index (suffix_behind index term p)
suffix_range p index term low = either (Suffix p index) (stored.is_term term (entry_at p index)) (drop (index - p.base) p.log) []
    (λ e. record { short = omega (arith, low, length-drop (index - p.base) p.log); range = all_drop EntryIsInRange (index - p.base) p.log })
    (λ e. record { short = omega arith; range = λ r. tt })

pub record Snapped (p : PersistentState) (b : Ballot) (index : ℕ) (bytes : List ℕ) : Type 0 where
  pub written : PartIsInRange p (SnapshotPart b index bytes)
  pub stored : StoredIsInRange (with_part (SnapshotPart b index bytes) p)
  pub end : last (with_part (SnapshotPart b index bytes) p) ≤ max (last p) index
  pub term : (with_part (SnapshotPart b index bytes) p).term ≡ b.term

pub snapped : (p : PersistentState) (b : Ballot) (index : ℕ) (bytes : List ℕ) (head : SnapshotHead) → StoredIsInRange p → BallotIsInRange p b → head_of bytes ≡ Some head → p.base < index → index ≤ most_index → length bytes ≤ most_snapshot → Snapped p b index bytes
snapped p b index bytes head r given is above most short =
    let q = with_head b.term b.vote index bytes (Some head) p in
    let same : q ≡ with_part (SnapshotPart b index bytes) p = ap (λ (o : Option SnapshotHead). with_head b.term b.vote index bytes o p) (sym is) in
    let x = head_in_range bytes head is in
    let s = suffix_range p index head.term (omega (arith, above)) in
    let a = s.short in
    let c = r.last_index in
    let ranged : StoredIsInRange q = record { term = given.term; vote = given.vote; last_index = omega (arith, a, c, most); base_term = x.term; members = x.members; snapshot = short; entries = s.range r.entries } in
    record {
      written = (given, record { above = above; most = most; head = ap (λ (o : Option SnapshotHead). is_some o) is; short = short });
      stored = subst StoredIsInRange same ranged;
      end = subst (λ (z : PersistentState). last z ≤ max (last p) index) same a;
      term = ap (λ (z : PersistentState). z.term) (sym same);
    }

-- ---- a chunk

abbrev ProgressIsInRange : Progress → Type 0
ProgressIsInRange (Apart received) = received ≤ most_snapshot
ProgressIsInRange TooLong = Unit {0}
ProgressIsInRange (More bytes) = length bytes ≤ most_snapshot
ProgressIsInRange (Whole bytes) = length bytes ≤ most_snapshot

progress_range : (is_last : Bool) (before joined_ : Option (List ℕ)) → length_received before ≤ most_snapshot → ProgressIsInRange (progress_of is_last before joined_)
progress_range is_last before None old = old
progress_range is_last before (Some bytes) old = either ProgressIsInRange (nat_lt most_snapshot (length bytes)) TooLong (if is_last then Whole bytes else More bytes)
    (λ l. tt)
    (λ l. let short = ltb-false most_snapshot (length bytes) l in either ProgressIsInRange is_last (Whole bytes) (More bytes) (λ k. short) (λ k. short))

received_range : (term index : ℕ) (v : VolatileState) → KeptIsInRange v → length_received (received_of term index v.received) ≤ most_snapshot
received_range term index v k = look v.received refl
  where
    look : (o : Option Received) → v.received ≡ o → length_received (received_of term index o) ≤ most_snapshot
    look None is = omega arith
    look (Some x) is = either (λ o. length_received o ≤ most_snapshot) ((x.term == term) && (x.index == index)) (Some x.bytes) None (λ e. k.received x is) (λ e. omega arith)

module _ (h : Here) (from term index : ℕ) (m : IsMember from) (most : term ≤ most_index) (placed : index ≤ most_index) where
  -- the state with what was received
  abbrev receiving : Option Received → VolatileState
  receiving received = record (following from h.v) { received = received }

  receiving_kept : (received : Option Received) → ((x : Received) → received ≡ Some x → length x.bytes ≤ most_snapshot) → KeptIsInRange (receiving received)
  receiving_kept received short = let k = h.range.kept in record { clock = k.clock; heard = k.clock; beat = k.beat; round = k.round; received = short }

  answers_range : (w : VolatileState) (done : Bool) (received : ℕ) → w.role ≡ Follower → KeptIsInRange w → received ≤ most_snapshot → Goes h (answers h.p w from term index done received)
  answers_range w done received role kept few =
      let b = adopted term (ballot h.p) in
      let g = adopted_ballot term h.p most h.range.stored in
      balloted h b w (reply from (SnapshotReply term index done received)) g (follows_in_range (with_ballot b.term b.vote h.p) w role (with_ballot_range h.p b h.range.stored g) kept)
      (one_sent from (SnapshotReply term index done received) m (most, placed, omega (arith, few)))

  installs_range : (bytes : List ℕ) (head : SnapshotHead) → head_of bytes ≡ Some head → h.v.commit < index → length bytes ≤ most_snapshot → Goes h (installs h.p h.v from term index bytes)
  installs_range bytes head is above short sound =
      let b = adopted term (ballot h.p) in
      let g = adopted_ballot term h.p most h.range.stored in
      let base = h.sound.above_base in
      let k = h.range.kept in
      let w : VolatileState = record (following from h.v) { commit = index; received = None } in
      let kept : KeptIsInRange w = record { clock = k.clock; heard = k.clock; beat = k.beat; round = k.round; received = λ x e. absurd (cc) } in
      let x = snapped h.p b index bytes head h.range.stored g is (omega (arith, base, above)) placed short in
      record {
        written = x.written;
        sends = one_sent from (SnapshotReply term index true 0) m (most, placed, omega arith);
        after = follows_in_range (with_part (SnapshotPart b index bytes) h.p) w refl x.stored kept;
      }

  taken_range : (r : Progress) → ProgressIsInRange r → h.v.commit < index → Goes h (takes_chunk h.p h.v from term index r)
  taken_range (Apart received) few above = answers_range (following from h.v) false received refl (receiving_kept h.v.received h.range.kept.received) few
  taken_range TooLong few above = silent h
  taken_range (More bytes) few above =
      let got : Received = record { term = term; index = index; bytes = bytes } in
      answers_range (receiving (Some got)) false (length bytes) refl (receiving_kept (Some got) (λ x e. subst (λ (y : Received). length y.bytes ≤ most_snapshot) (same_Some got x e) few)) few
  taken_range (Whole bytes) few above = either (Goes h) (is_none (head_of bytes)) (does None h.v []) (installs h.p h.v from term index bytes) (λ e. silent h) (λ e. look (head_of bytes) refl e)
    where
      look : (o : Option SnapshotHead) → head_of bytes ≡ o → is_none o ≡ false → Goes h (installs h.p h.v from term index bytes)
      look None is e = absurd (true≢false e)
      look (Some head) is e = installs_range bytes head is above few

pub snapshot_range : (h : Here) (from term index offset : ℕ) (is_last : Bool) (bytes : List ℕ) → IsMember from → ChunkIsInRange term index offset bytes → Goes h (on_snapshot h.p h.v from term index offset is_last bytes)
snapshot_range h from term index offset is_last bytes m r =
    let committed = answers h.p (following from h.v) from term index true 0 in
    let before = received_of term index h.v.received in
    let state = progress before offset is_last bytes in
    let chunk = takes_chunk h.p h.v from term index state in
    let k = h.range.kept in
    either (Goes h) (nat_lt term h.p.term) (does None h.v (reply from (SnapshotReply h.p.term index false 0))) (if nat_le index h.v.commit then committed else chunk)
    (λ l. plain h from (SnapshotReply h.p.term index false 0) m (h.range.stored.term, r.at, omega arith))
    (λ l. either (Goes h) (nat_le index h.v.commit) committed chunk
    (λ e. answers_range h from term index m r.own r.at (following from h.v) true 0 refl (record { clock = k.clock; heard = k.clock; beat = k.beat; round = k.round; received = k.received }) (omega arith))
    (λ e. taken_range h from term index m r.own r.at state (progress_range is_last before (joined before offset bytes) (received_range term index h.v k)) (leb-false index h.v.commit e)))
