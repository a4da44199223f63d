-- What a follower writes of an Append, of a snapshot's chunk and of a round.
use Rattle.std.proofs.Common.{◌≡◌, ℕ, suc, ◌+◌, ◌-◌, ◌<◌, ◌≤◌, inl, inr, ⊎_elim, Bool, true, false, List, [], ◌∷◌, length, drop, refl, ap, sym, ◌∙◌, subst, arith, Option, Some, None, is_none, slice_get, nat_lt, nat_le, if◌then◌else◌, le_refl, true≢false, ltb-true, ltb-false}
use Rattle.std.proofs.lemmas.Bool.{cases_Bool, leb-false}
use Rattle.std.proofs.lemmas.Option.{same_Some}
use Rattle.cp_agreement.proofs.Logs.{get-drop}
use Rattle.cp_parts.specs.declared.log_entry.LogEntry.{LogEntry}
use Rattle.cp_parts.specs.declared.snapshot_head.SnapshotHead.{SnapshotHead}
use Rattle.cp_parts.specs.Heads.{head_of}
use Rattle.cp_log_rules.specs.Persistent.{PersistentState, last, term_at, with_head}
use Rattle.cp_rules.specs.declared.ballot.Ballot.{Ballot}
use Rattle.cp_rules.specs.Limits.{most_snapshot}
use Rattle.cp_rules.specs.Persistent.{ballot, has_term, ballot_part, AppendPart}
use Rattle.cp_rules.specs.Volatile.{Received, VolatileState}
use Rattle.cp_rules.specs.Local.{Append, AppendReply, Snapshot, SnapshotReply, Confirmed, Event, Got, does, reply}
use Rattle.cp_rules.specs.Terms.{adopted, steps_down_for}
use Rattle.cp_rules.specs.Confirming.{on_confirm}
use Rattle.cp_rules.specs.Appends.{following, Difference, difference, follower_commit, takes, refused_index, goes_on, on_append}
use Rattle.cp_rules.specs.Snapshots.{received_of, joined, Progress, TooLong, More, Whole, length_received, progress_of, answers, installs, takes_chunk, on_snapshot}
use Rattle.cp_rules_facts.proofs.Basics.{either}
use Rattle.cp_rules_facts.proofs.Knowing.{has_known, known_within}
use Rattle.cp_rules_facts.proofs.Differences.{differs_at}
use Rattle.cp_rules_laws.specs.Writes.{HasAt}
use Rattle.cp_rules_laws.proofs.Quiet.{At, Goes, still, balloted, steps_down_same}

-- ---- entries

-- where the first difference lies
reach : (p : PersistentState) (v : VolatileState) (after : ℕ) (entries : List LogEntry) (d : Difference) → after ≤ last p → difference (term_at p) after entries ≡ Some d → d.after ≤ last p
reach p v after [] d within is = absurd (cc)
reach p v after (e ∷ entries) d within is = ⊎_elim
    (λ (z : has_term p (suc after) e.term ≡ true). reach p v (suc after) entries d (known_within p v (suc after) e.term (has_known p v (suc after) e.term z)).1 (rw z at is))
    (λ (z : has_term p (suc after) e.term ≡ false).
    let here : Difference = record { after = after; entries = e ∷ entries } in
    let same : here ≡ d = same_Some here d (rw z at is) in
    subst (λ (x : Difference). x.after ≤ last p) same within)
    (cases_Bool (has_term p (suc after) e.term))

module _ (h : At) (from term previous previous_term told : ℕ) (entries : List LogEntry) where
  abbrev came : Event
  came = Got from (Append term previous previous_term told entries)

  abbrev now : Ballot
  now = adopted term (ballot h.p)

  abbrev follower : VolatileState
  follower = following from h.v

  abbrev committing : ℕ → VolatileState
  committing index = record follower { commit = follower_commit h.v.commit told index }

  -- the message has these entries behind this index
  abbrev Has : ℕ → List LogEntry → Type 0
  Has low es = (k : ℕ) (e : LogEntry) → slice_get es k ≡ Some e → HasAt (Append term previous previous_term told entries) (suc (low + k)) e

  taken : (low index : ℕ) (es : List LogEntry) (o : Option Difference) → low ≤ last h.p → Has low es → difference (term_at h.p) low es ≡ o → Goes h came (takes h.p now follower from told index o)
  taken low index es None within has is = balloted h came now (committing index) (reply from (AppendReply now.term true index)) (omega arith)
  taken low index es (Some d) within has is = either (Goes h came) (nat_lt d.after h.v.commit) (does (ballot_part h.p now) follower []) (does (Some (AppendPart now d.after d.entries)) (committing index) (reply from (AppendReply now.term true index)))
      (λ l. balloted h came now follower [] (le_refl h.v.commit))
      (λ l. record {
        rises = omega arith;
        log = inr (inl (record {
          base = record { base = refl; base_term = refl; base_config = refl; snapshot = refl };
          at = d.after;
          entries = d.entries;
          above = ltb-false d.after h.v.commit l;
          within = reach h.p h.v low es d within is;
          log = refl;
          came = λ k e there. (from, Append term previous previous_term told entries, refl, placed k e there);
        }));
        answers = λ i no. absurd (cc);
      })
    where
      placed : (k : ℕ) (e : LogEntry) → slice_get d.entries k ≡ Some e → HasAt (Append term previous previous_term told entries) (suc (d.after + k)) e
      placed k e there =
          let x = differs_at h.p low es d is in
          let y : slice_get es (x.k + k) ≡ Some e = sym (get-drop es x.k k) ∙ ap (λ (l : List LogEntry). slice_get l k) (sym x.entries_are) ∙ there in
          subst (λ (n : ℕ). HasAt (Append term previous previous_term told entries) n e) (omega (arith, x.after_is)) (has (x.k + k) e y)

  goes : (low low_term index : ℕ) (es : List LogEntry) → Has low es → Goes h came (goes_on h.p now follower from low low_term told index es)
  goes low low_term index es has = either (Goes h came) (has_term h.p low low_term) (takes h.p now follower from told index (difference (term_at h.p) low es)) (does (ballot_part h.p now) follower (reply from (AppendReply now.term false (refused_index (last h.p) low))))
      (λ l. taken low index es (difference (term_at h.p) low es) (known_within h.p h.v low low_term (has_known h.p h.v low low_term l)).1 has refl)
      (λ l. balloted h came now follower (reply from (AppendReply now.term false (refused_index (last h.p) low))) (le_refl h.v.commit))

  pub append_writes : Goes h came (on_append h.p h.v from term previous previous_term told entries)
  append_writes =
      let index = previous + length entries in
      let n = h.p.base - previous in
      let below = goes_on h.p now follower from h.p.base h.p.base_term told index (drop n entries) in
      let above = goes_on h.p now follower from previous previous_term told index entries in
      either (Goes h came) (nat_lt term h.p.term) (does None h.v (reply from (AppendReply h.p.term false 0))) (if nat_lt previous h.p.base then below else above)
      (λ l. still h came)
      (λ l. either (Goes h came) (nat_lt previous h.p.base) below above
      (λ k. let low = ltb-true previous h.p.base k in goes h.p.base h.p.base_term index (drop n entries) (λ j e there. (n + j, omega (arith, low), sym (get-drop entries n j) ∙ there)))
      (λ k. goes previous previous_term index entries (λ j e there. (j, refl, there))))

-- ---- a chunk

module _ (h : At) (from term index offset : ℕ) (is_last : Bool) (bytes : List ℕ) where
  abbrev chunk : Event
  chunk = Got from (Snapshot term index offset is_last bytes)

  abbrev before : Option (List ℕ)
  before = received_of term index h.v.received

  installing : (all : List ℕ) (head : SnapshotHead) → is_last ≡ true → joined before offset bytes ≡ Some all → head_of all ≡ Some head → h.v.commit < index → Goes h chunk (installs h.p h.v from term index all)
  installing all head ends joins head_is above =
      let b = adopted term (ballot h.p) in
      record {
        rises = omega (arith, above);
        answers = λ i no. absurd (cc);
        log = inr (inr (inr (inr (record {
          from = from;
          term = term;
          index = index;
          offset = offset;
          chunk = bytes;
          all = all;
          head = head;
          new_term = b.term;
          new_vote = b.vote;
          event_is = ap (λ (c : Bool). Got from (Snapshot term index offset c bytes)) ends;
          joins = joins;
          head_is = head_is;
          above = above;
          commit = refl;
          stored = ap (λ (o : Option SnapshotHead). with_head b.term b.vote index all o h.p) head_is;
        }))));
      }

  whole : (all : List ℕ) → is_last ≡ true → joined before offset bytes ≡ Some all → h.v.commit < index → Goes h chunk (takes_chunk h.p h.v from term index (Whole all))
  whole all ends joins above = either (Goes h chunk) (is_none (head_of all)) (does None h.v []) (installs h.p h.v from term index all) (λ e. still h chunk) (λ e. look (head_of all) refl e)
    where
      look : (o : Option SnapshotHead) → head_of all ≡ o → is_none o ≡ false → Goes h chunk (installs h.p h.v from term index all)
      look None is e = absurd (true≢false e)
      look (Some head) is e = installing all head ends joins is above

  answering : (w : VolatileState) (done : Bool) (received : ℕ) → h.v.commit ≤ w.commit → Goes h chunk (answers h.p w from term index done received)
  answering w done received up = balloted h chunk (adopted term (ballot h.p)) w (reply from (SnapshotReply term index done received)) up

  taken_chunk : (o : Option (List ℕ)) → joined before offset bytes ≡ o → h.v.commit < index → Goes h chunk (takes_chunk h.p h.v from term index (progress_of is_last before o))
  taken_chunk None is above = answering (following from h.v) false (length_received before) (le_refl h.v.commit)
  taken_chunk (Some all) is above = either (λ (x : Progress). Goes h chunk (takes_chunk h.p h.v from term index x)) (nat_lt most_snapshot (length all)) TooLong (if is_last then Whole all else More all)
      (λ l. still h chunk)
      (λ l. either (λ (x : Progress). Goes h chunk (takes_chunk h.p h.v from term index x)) is_last (Whole all) (More all)
      (λ e. whole all e is above)
      (λ e.
      let got : Received = record { term = term; index = index; bytes = all } in
      answering (record (following from h.v) { received = Some got }) false (length all) (le_refl h.v.commit)))

  pub snapshot_writes : Goes h chunk (on_snapshot h.p h.v from term index offset is_last bytes)
  snapshot_writes =
      let committed = answers h.p (following from h.v) from term index true 0 in
      let taking = takes_chunk h.p h.v from term index (progress_of is_last before (joined before offset bytes)) in
      either (Goes h chunk) (nat_lt term h.p.term) (does None h.v (reply from (SnapshotReply h.p.term index false 0))) (if nat_le index h.v.commit then committed else taking)
      (λ l. still h chunk)
      (λ l. either (Goes h chunk) (nat_le index h.v.commit) committed taking
      (λ e. answering (following from h.v) true 0 (le_refl h.v.commit))
      (λ e. taken_chunk (joined before offset bytes) refl (leb-false index h.v.commit e)))

-- ---- a round

pub confirm_writes : (h : At) (event : Event) (from term round : ℕ) → Goes h event (on_confirm h.p h.v from term round)
confirm_writes h event from term round =
    let now = adopted term (ballot h.p) in
    let z = steps_down_for term h.p h.v in
    let state : VolatileState = record z { leader = from; heard = h.v.clock } in
    either (Goes h event) (nat_lt term h.p.term) (does None h.v (reply from (Confirmed h.p.term false 0))) (does (ballot_part h.p now) state (reply from (Confirmed term true round)))
    (λ l. still h event)
    (λ l. balloted h event now state (reply from (Confirmed term true round)) (steps_down_same h term))
