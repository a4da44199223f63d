-- What a follower takes, and rounds themselves.
use Rattle.std.proofs.Common.{◌==◌, ◌&&◌, ◌≡◌, ℕ, ◌+◌, ◌-◌, ◌<◌, ◌≤◌, inl, inr, ⊎_elim, All, max, Bool, true, false, List, [], ◌∷◌, length, drop, refl, ap, sym, ◌∙◌, subst, arith, Option, Some, None, is_none, nat_lt, nat_le, if◌then◌else◌, le_refl, eqb-true, ltb-false}
use Rattle.std.proofs.lemmas.Bool.{and_parts, cases_lt}
use Rattle.std.proofs.lemmas.List.Elements.{All-nil}
use Rattle.cp_parts.specs.declared.log_entry.LogEntry.{LogEntry}
use Rattle.cp_parts.specs.declared.snapshot_head.SnapshotHead.{SnapshotHead}
use Rattle.cp_parts.specs.Heads.{head_of}
use Rattle.cp_log_rules.specs.Persistent.{PersistentState, last, term_at, with_ballot, with_head, with_snapshot}
use Rattle.cp_rules.specs.declared.role.Role.TheVariants.{Follower}
use Rattle.cp_rules.specs.Persistent.{AppendPart, SnapshotPart, ballot, has_term, with_part, ballot_part}
use Rattle.cp_rules.specs.Volatile.{Received, VolatileState}
use Rattle.cp_rules.specs.Local.{AppendReply, SnapshotReply, Confirm, Confirmed, Event, Got, Sent, does, send, is_leader}
use Rattle.cp_rules.specs.Terms.{adopted, steps_down_for}
use Rattle.cp_rules.specs.Appends.{following, Difference, difference, follower_commit, takes as takes_entries, refused_index, goes_on as append_goes, on_append}
use Rattle.cp_rules.specs.Snapshots.{received_of, Progress, Apart, TooLong, More, Whole, progress, answers, installs, takes_chunk, on_snapshot}
use Rattle.cp_rules.specs.Confirming.{round_of, with_round, on_confirm, on_confirmed}
use Rattle.cp_rules_facts.proofs.Basics.{either, leader_is, set_index, one}
use Rattle.cp_rules_facts.proofs.Quiet.{adopting, adopted_term}
use Rattle.cp_rules_rounds.proofs.Quiet.{At, Says, Goes, follows, still, says_one, balloted, stepped, adopts_or}

-- ---- what a follower takes

-- a follower after a ballot
bows : (h : At) (event : Event) (term : ℕ) (w : VolatileState) (sends : List Sent) → w.role ≡ Follower → All (Says h event (with_ballot (adopted term (ballot h.p)).term (adopted term (ballot h.p)).vote h.p) w) sends → Goes h event (does (ballot_part h.p (adopted term (ballot h.p))) w sends)
bows h event term w sends role says =
    let now = adopted term (ballot h.p) in
    balloted h event now w sends (follows h event (with_ballot now.term now.vote h.p) w sends (adopting term h.p h.v).up role says)

append_goes_rounds : (h : At) (event : Event) (from term previous previous_term told index : ℕ) (entries : List LogEntry) → Goes h event (append_goes h.p (adopted term (ballot h.p)) (following from h.v) from previous previous_term told index entries)
append_goes_rounds h event from term previous previous_term told index entries =
    let now = adopted term (ballot h.p) in
    let w = following from h.v in
    let q = with_ballot now.term now.vote h.p in
    let no : Sent = send from (AppendReply now.term false (refused_index (last h.p) previous)) in
    either (Goes h event) (has_term h.p previous previous_term) (takes_entries h.p now w from told index (difference (term_at h.p) previous entries)) (does (ballot_part h.p now) w (no ∷ []))
    (λ e. looked (difference (term_at h.p) previous entries))
    (λ e. bows h event term w (no ∷ []) refl (one (Says h event q w) no tt))
  where
    looked : (o : Option Difference) → Goes h event (takes_entries h.p (adopted term (ballot h.p)) (following from h.v) from told index o)
    looked None =
        let now = adopted term (ballot h.p) in
        let w : VolatileState = record (following from h.v) { commit = follower_commit h.v.commit told index } in
        let yes : Sent = send from (AppendReply now.term true index) in
        bows h event term w (yes ∷ []) refl (one (Says h event (with_ballot now.term now.vote h.p) w) yes tt)
    looked (Some d) =
        let now = adopted term (ballot h.p) in
        let x = following from h.v in
        let w : VolatileState = record x { commit = follower_commit h.v.commit told index } in
        let yes : Sent = send from (AppendReply now.term true index) in
        let q = with_part (AppendPart now d.after d.entries) h.p in
        either (Goes h event) (nat_lt d.after h.v.commit) (does (ballot_part h.p now) x []) (does (Some (AppendPart now d.after d.entries)) w (yes ∷ []))
        (λ l. bows h event term x [] refl (All-nil (Says h event (with_ballot now.term now.vote h.p) x)))
        (λ l. ((refl, refl), follows h event q w (yes ∷ []) (adopting term h.p h.v).up refl (one (Says h event q w) yes tt)))

pub append_rounds : (h : At) (event : Event) (from term previous previous_term told : ℕ) (entries : List LogEntry) → Goes h event (on_append h.p h.v from term previous previous_term told entries)
append_rounds h event from term previous previous_term told entries =
    let now = adopted term (ballot h.p) in
    let w = following from h.v in
    let index = previous + length entries in
    let low = append_goes h.p now w from h.p.base h.p.base_term told index (drop (h.p.base - previous) entries) in
    let high = append_goes h.p now w from previous previous_term told index entries in
    let no : Sent = send from (AppendReply h.p.term false 0) in
    either (Goes h event) (nat_lt term h.p.term) (does None h.v (no ∷ [])) (if nat_lt previous h.p.base then low else high)
    (λ l. says_one h event h.v (no ∷ []) refl refl (one (Says h event h.p h.v) no tt))
    (λ l. either (Goes h event) (nat_lt previous h.p.base) low high
    (λ k. append_goes_rounds h event from term h.p.base h.p.base_term told index (drop (h.p.base - previous) entries))
    (λ k. append_goes_rounds h event from term previous previous_term told index entries))

head_up : (p : PersistentState) (term vote index : ℕ) (bytes : List ℕ) (o : Option SnapshotHead) → p.term ≤ term → p.term ≤ (with_head term vote index bytes o p).term
head_up p term vote index bytes None up = le_refl p.term
head_up p term vote index bytes (Some head) up = up

-- the member's own snapshot keeps its term
pub head_same : (p : PersistentState) (index : ℕ) (bytes : List ℕ) (o : Option SnapshotHead) → (with_head p.term p.vote index bytes o p).term ≡ p.term
head_same p index bytes None = refl
head_same p index bytes (Some head) = refl

pub snapshot_up : (p : PersistentState) (term vote index : ℕ) (bytes : List ℕ) → p.term ≤ term → p.term ≤ (with_snapshot term vote index bytes p).term
snapshot_up p term vote index bytes up = head_up p term vote index bytes (head_of bytes) up

pub chunk_rounds : (h : At) (event : Event) (from term index offset : ℕ) (is_last : Bool) (bytes : List ℕ) → Goes h event (on_snapshot h.p h.v from term index offset is_last bytes)
chunk_rounds h event from term index offset is_last bytes =
    let w = following from h.v in
    let no : Sent = send from (SnapshotReply h.p.term index false 0) in
    let step = progress (received_of term index h.v.received) offset is_last bytes in
    either (Goes h event) (nat_lt term h.p.term) (does None h.v (no ∷ [])) (if nat_le index h.v.commit then answers h.p w from term index true 0 else takes_chunk h.p h.v from term index step)
    (λ l. says_one h event h.v (no ∷ []) refl refl (one (Says h event h.p h.v) no tt))
    (λ l. either (Goes h event) (nat_le index h.v.commit) (answers h.p w from term index true 0) (takes_chunk h.p h.v from term index step)
    (λ e. answering w true 0 refl)
    (λ e. taking step))
  where
    answering : (w : VolatileState) (done : Bool) (received : ℕ) → w.role ≡ Follower → Goes h event (answers h.p w from term index done received)
    answering w done received role =
        let now = adopted term (ballot h.p) in
        let x : Sent = send from (SnapshotReply term index done received) in
        bows h event term w (x ∷ []) role (one (Says h event (with_ballot now.term now.vote h.p) w) x tt)

    taking : (step : Progress) → Goes h event (takes_chunk h.p h.v from term index step)
    taking (Apart received) = answering (following from h.v) false received refl
    taking TooLong = still h event
    taking (More all) =
        let got : Received = record { term = term; index = index; bytes = all } in
        answering (record (following from h.v) { received = Some got }) false (length all) refl
    taking (Whole all) =
        let now = adopted term (ballot h.p) in
        let w : VolatileState = record (following from h.v) { commit = index; received = None } in
        let q = with_part (SnapshotPart now index all) h.p in
        let x : Sent = send from (SnapshotReply term index true 0) in
        either (Goes h event) (is_none (head_of all)) (does None h.v []) (installs h.p h.v from term index all)
        (λ e. still h event)
        (λ e. ((refl, refl), follows h event q w (x ∷ []) (snapshot_up h.p now.term now.vote index all (adopting term h.p h.v).up) refl (one (Says h event q w) x tt)))

-- ---- rounds

pub confirm_rounds : (h : At) (from term round : ℕ) → Goes h (Got from (Confirm term round)) (on_confirm h.p h.v from term round)
confirm_rounds h from term round =
    let event = Got from (Confirm term round) in
    let now = adopted term (ballot h.p) in
    let w : VolatileState = record (steps_down_for term h.p h.v) { leader = from; heard = h.v.clock } in
    let no : Sent = send from (Confirmed h.p.term false 0) in
    let yes : Sent = send from (Confirmed term true round) in
    either (Goes h event) (nat_lt term h.p.term) (does None h.v (no ∷ [])) (does (ballot_part h.p now) w (yes ∷ []))
    (λ l. says_one h event h.v (no ∷ []) refl refl (one (Says h event h.p h.v) no tt))
    (λ l. stepped h event term now w (yes ∷ []) refl refl refl (one (Says h event (with_ballot now.term now.vote h.p) w) yes (ltb-false term h.p.term l, adopted_term term h.p (ltb-false term h.p.term l), (from, refl))))

pub confirmed_rounds : (h : At) (from term : ℕ) (taken : Bool) (round : ℕ) → Goes h (Got from (Confirmed term taken round)) (on_confirmed h.p h.v from term taken round)
confirmed_rounds h from term false round = adopts_or h (Got from (Confirmed term false round)) term (does None h.v []) (still h (Got from (Confirmed term false round)))
confirmed_rounds h from term true round =
    let event = Got from (Confirmed term true round) in
    let reads = with_round from round h.v.reads in
    let w : VolatileState = record h.v { reads = reads } in
    let counted = is_leader h.v.role && (term == h.p.term) in
    adopts_or h event term (if counted then does None w [] else does None h.v []) (either (Goes h event) counted (does None w []) (does None h.v [])
    (λ c.
    let x = and_parts (is_leader h.v.role) (term == h.p.term) c in
    let old = round_of h.v.reads from in (
      (refl, refl),
      record {
        term = le_refl h.p.term;
        says = All-nil (Says h event h.p w);
        leads = λ l. inl (record {
          role = leader_is h.v.role x.0;
          in_term = refl;
          round = le_refl h.v.reads.round;
          by_one = omega arith;
          confirmed = λ f. ⊎_elim
              (λ (e : round_of reads f ≡ round_of h.v.reads f). inl (omega (arith, e)))
              (λ (e : (f ≡ from) × (round_of reads f ≡ max old round)). ⊎_elim
              (λ (low : old < round). inr (round, omega (arith, e.1, low), ap (λ (t : ℕ). Got from (Confirmed t true round)) (eqb-true term h.p.term x.1) ∙ ap (λ (m : ℕ). Got m (Confirmed h.p.term true round)) (sym e.0)))
              (λ (high : round ≤ old). inl (subst (λ (m : ℕ). round_of reads f ≤ round_of h.v.reads m) (sym e.0) (omega (arith, e.1, high))))
              (cases_lt old round))
              (set_index h.v.reads.confirmed from f (max old round) 0);
          looks = λ look has. inl has;
        });
        stands = λ s. inl (s, refl);
        keeps = λ l m look has. has;
      },
    ))
    (λ c. still h event))
