-- What a leader commits, what it sends, and an entry that it creates.
use Rattle.std.proofs.Common.{◌&&◌, ◌==◌, ◌≡◌, ◌≢◌, ℕ, zero, suc, ◌+◌, ◌-◌, ◌<◌, ◌≤◌, ◌⊎◌, inl, inr, ⊎_elim, Bool, true, List, [], ◌∷◌, ◌++◌, length, take, drop, map, refl, ap, sym, ◌∙◌, arith, subst, Some, slice_get, All, nat_lt, nat_le, if◌then◌else◌}
use Rattle.std.proofs.lemmas.Bool.{eqb-true, or_cases, leb-true, leb-false, and_parts}
use Rattle.std.proofs.lemmas.List.{length-append, length-take}
use Rattle.std.proofs.lemmas.List.Elements.{All-nil}
use Rattle.std.proofs.Math.Seq.{take-length}
use Rattle.cp_parts.specs.declared.log_entry.LogEntry.{LogEntry}
use Rattle.cp_agreement_facts.specs.Entries.{members_in}
use Rattle.cp_agreement_facts.specs.Configurations.{HasQuorum}
use Rattle.cp_agreement_facts.specs.Facts.{KnowsTerm, ChangesAreSingle, configuration_of}
use Rattle.cp_agreement.proofs.Logs.{get-drop}
use Rattle.cp_safety.proofs.Lists.{drop_all}
use Rattle.cp_safety.specs.Tracking as tracking
use Rattle.cp_safety.specs.Tracking.{untracked, untracked_cluster, uncut_step, MatchedUpto, LeaderCommitsByMatch, WinsByVotes, WinsAlone, SendsTruly, TrackedFacts}
use Rattle.cp_safety.specs.Chunks.{IsPiece}
use Rattle.cp_rules.specs.declared.ballot.Ballot.{Ballot}
use Rattle.cp_rules.specs.declared.role.Role.TheVariants.{Follower, Candidate, Leader}
use Rattle.cp_rules.specs.Limits.{batch_entries, batch_bytes, chunk_bytes}
use Rattle.cp_log_rules.specs.Persistent.{PersistentState, last, term_at}
use Rattle.cp_log_rules.specs.Configurations.{config_at}
use Rattle.cp_rules.specs.Persistent.{has_term, members, is_member, others, is_quorum, with_part}
use Rattle.cp_rules.specs.Volatile.{VolatileState, peer}
use Rattle.cp_rules.specs.Local.{is_leader, send}
use Rattle.cp_rules.specs.Terms.{steps_down}
use Rattle.cp_rules.specs.Sending.{within, batch, chunk, is_last_chunk, chunk_from, entries_from, append_to, appends}
use Rattle.cp_rules.specs.Commit.{greatest, holds, may_commit, commit_found, commits_to, commits}
use Rattle.cp_rules.specs.Leadership.{created_part, creates}
use Rattle.cp_rules_facts.specs.Seen.{seen_role, tracked_member}
use Rattle.cp_rules_facts.specs.Soundness.{IsSound, IsPlaced}
use Rattle.cp_rules_facts.proofs.Basics.{either, leader_is, seen_candidate, leader_or_candidate, follower_or_candidate, all_mapped}
use Rattle.cp_rules_facts.proofs.Knowing.{has_known, knows_at, members_are, quorum_is}
use Rattle.cp_rules_facts.proofs.Turns.{Turn, here, core, Truth, Good}

-- ---- the search for the commit

pub found : (test : ℕ → Bool) (low n : ℕ) → (greatest test low n ≡ low) ⊎ ((low < greatest test low n) × (greatest test low n ≤ low + n) × (test (greatest test low n) ≡ true))
found test low zero = inl refl
found test low (suc n) = either (λ i. (i ≡ low) ⊎ ((low < i) × (i ≤ low + suc n) × (test i ≡ true))) (test (low + suc n)) (low + suc n) (greatest test low n)
    (λ e. inr (omega arith, omega arith, e))
    (λ e. ⊎_elim (λ z. inl z) (λ z. inr (z.0, omega (arith, z.1), z.2)) (found test low n))

-- the state after a commit
pub record Commits (v w : VolatileState) (i : ℕ) : Type 0 where
  pub commit : w.commit ≡ i
  pub peers : w.peers ≡ v.peers
  pub received : w.received ≡ v.received
  pub role : (w.role ≡ v.role) ⊎ (w.role ≡ Follower)

pub committing : (me : ℕ) (p : PersistentState) (v : VolatileState) (i : ℕ) → Commits v (commits_to me p v i) i
committing me p v i = either (λ z. Commits v z i) (i == v.commit) v (if is_member me (config_at p i).members then record v { commit = i } else steps_down (record v { commit = i }))
    (λ e. record { commit = sym (eqb-true i v.commit e); peers = refl; received = refl; role = inl refl })
    (λ e. either (λ z. Commits v z i) (is_member me (config_at p i).members) (record v { commit = i }) (steps_down (record v { commit = i }))
    (λ h. record { commit = refl; peers = refl; received = refl; role = inl refl })
    (λ h. record { commit = refl; peers = refl; received = refl; role = inr refl }))

-- where the commit is found: it stays, or rises within the log
pub commit_rises : (me : ℕ) (p : PersistentState) (v : VolatileState) → v.commit ≤ last p → (v.commit ≤ (commits me p v).commit) × ((commits me p v).commit ≤ last p)
commit_rises me p v fits =
    let i = commit_found me p v in
    let c = committing me p v i in
    ⊎_elim
    (λ (z : i ≡ v.commit). (omega (arith, c.commit, z), omega (arith, c.commit, z, fits)))
    (λ z. let low = z.0 in let high = z.1 in (omega (arith, c.commit, low), omega (arith, c.commit, high, fits)))
    (found (may_commit me (term_at p) p.term (members p) v.peers) v.commit (last p - v.commit))

-- ---- what a leader sends

-- entries within the limits begin as the entries do
within_get : (es : List LogEntry) (n b k : ℕ) (e : LogEntry) → slice_get (within es n b) k ≡ Some e → slice_get es k ≡ Some e
within_get [] n b k e is = is
within_get (x ∷ es) n b k e is = either (λ l. slice_get l k ≡ Some e → slice_get (x ∷ es) k ≡ Some e) (nat_lt 0 n && nat_le (length x.bytes) b) (x ∷ within es (n - 1) (b - length x.bytes)) []
    (λ h is. later k (λ j z. within_get es (n - 1) (b - length x.bytes) j e z) is)
    (λ h is. absurd (cc))
    is
  where
    later : (k : ℕ) → ((j : ℕ) → slice_get (within es (n - 1) (b - length x.bytes)) j ≡ Some e → slice_get es j ≡ Some e) → slice_get (x ∷ within es (n - 1) (b - length x.bytes)) k ≡ Some e → slice_get (x ∷ es) k ≡ Some e
    later zero rec is = is
    later (suc k) rec is = rec k is

batch_get : (es : List LogEntry) (k : ℕ) (e : LogEntry) → slice_get (batch es) k ≡ Some e → slice_get es k ≡ Some e
batch_get [] k e is = is
batch_get (x ∷ es) zero e is = is
batch_get (x ∷ es) (suc k) e is = within_get es (batch_entries - 1) (batch_bytes - length x.bytes) k e is

pub own_chunk : (p : PersistentState) (offset : ℕ) → 0 < p.base → offset ≤ length p.snapshot → (p.base ≡ p.base) × (0 < p.base) × IsPiece p.snapshot offset (is_last_chunk p.snapshot offset) (chunk p.snapshot offset)
own_chunk p offset above fits =
    let rest = drop offset p.snapshot in (
      refl,
      above,
      record {
        front = take offset p.snapshot;
        rest = drop chunk_bytes rest;
        text_is = sym (halves offset p.snapshot) ∙ ap (λ l. take offset p.snapshot ++ l) (sym (halves chunk_bytes rest));
        offset_is = omega (arith, length-take offset p.snapshot, fits);
        ends = λ h. drop_all chunk_bytes rest (leb-true (length rest) chunk_bytes h);
      },
    )
  where
    halves : (n : ℕ) (l : List ℕ) → take n l ++ drop n l ≡ l
    halves zero l = refl
    halves (suc n) [] = refl
    halves (suc n) (x ∷ l) = ap (λ r. x ∷ r) (halves n l)

-- to one member, from one that leads in its step
pub sends_one : (t : Turn) (p : PersistentState) (v : VolatileState) (f : ℕ) → IsPlaced (last p) (length p.snapshot) (peer v.peers f) → Truth t true p v (append_to p v f)
sends_one t p v f placed =
    let n = (peer v.peers f).next in
    either (λ b. Truth t true p v (send f b)) (nat_le n p.base) (chunk_from p (peer v.peers f).offset) (entries_from p v n)
    (λ h. (
      record { sender_is = refl; term_is = refl; leading = refl; index_is = refl; index_term_is = refl; members_is = refl },
      own_chunk p (peer v.peers f).offset (let a = placed.first in let b = leb-true n p.base h in omega (arith, a, b)) placed.offset,
    ))
    (λ h. let above : p.base < n = leb-false n p.base h in
    let next = placed.next in (
      record {
        sender_is = refl;
        term_is = refl;
        leading = refl;
        skip = n - 1 - p.base;
        previous_is = omega (arith, above);
        has = knows_at p v (n - 1) (omega (arith, above)) (omega (arith, next));
        piece = λ k e is. sym (get-drop p.log (n - 1 - p.base) k) ∙ batch_get (drop (n - 1 - p.base) p.log) k e is;
        commit_is = refl;
      },
      tt,
    ))

-- to all others
pub sends_all : (t : Turn) (p : PersistentState) (v : VolatileState) → (v.role ≡ Leader → (f : ℕ) → IsPlaced (last p) (length p.snapshot) (peer v.peers f)) → All (Truth t true p v) (appends t.me p v)
sends_all t p v placed = either (All (Truth t true p v)) (is_leader v.role) (map (append_to p v) (others t.me (members p))) []
    (λ h. all_mapped (Truth t true p v) (append_to p v) (others t.me (members p)) (λ f. sends_one t p v f (placed (leader_is v.role h) f)))
    (λ h. All-nil (Truth t true p v))

-- ---- a commit that is found, as a fact

matched_less : (t : Turn) (p : PersistentState) (v : VolatileState) (f n k : ℕ) → MatchedUpto (here t) (core t true p v) f n → k ≤ n → MatchedUpto (here t) (core t true p v) f k
matched_less t p v f n k h le = ⊎_elim
    (λ x. inl (x.0, x.1, let z = x.2 in omega (arith, z, le)))
    (λ x. inr (x.0, x.1, (let z = x.2 in omega (arith, z, le)), x.3))
    h

-- `w` is the leader's state before it looks for the commit
pub commit_facts : (t : Turn) (p : PersistentState) (w : VolatileState) → w.commit ≡ t.v.commit
    → ((f : ℕ) → ((peer w.peers f).matched ≡ 0) ⊎ MatchedUpto (here t) (core t true p (commits t.me p w)) f (peer w.peers f).matched)
    → ((commits t.me p w).commit ≤ t.v.commit) ⊎ LeaderCommitsByMatch (here t) (core t true p (commits t.me p w))
commit_facts t p w same matched =
    let i = commit_found t.me p w in
    let v' = commits t.me p w in
    let c = committing t.me p w i in
    ⊎_elim
    (λ (z : i ≡ w.commit). inl (omega (arith, c.commit, z, same)))
    (λ (z : (w.commit < i) × (i ≤ w.commit + (last p - w.commit)) × (may_commit t.me (term_at p) p.term (members p) w.peers i ≡ true)).
    let a = and_parts (has_term p i p.term) (is_quorum (members p) (holds t.me w.peers i)) z.2 in
    inr (record {
      leads = refl;
      own = subst (λ n. KnowsTerm (untracked (tracked_member p v')) n p.term) (sym c.commit) (has_known p v' i p.term a.0);
      quorum = subst (λ n. HasQuorum (configuration_of (untracked (tracked_member p v'))) (λ u. (u ≡ t.me) ⊎ MatchedUpto (here t) (core t true p v') u n)) (sym c.commit)
          (quorum_is (λ u. (u ≡ t.me) ⊎ MatchedUpto (here t) (core t true p v') u i) (members p) (configuration_of (untracked (tracked_member p v'))) (holds t.me w.peers i)
          (members_are p v') a.1
          (λ f chosen. ⊎_elim
          (λ h. inl (eqb-true f t.me h))
          (λ h. let le = leb-true i (peer w.peers f).matched h in ⊎_elim
          (λ (e : (peer w.peers f).matched ≡ 0). absurd (let low = z.0 in omega (arith, low, le, e)))
          (λ x. inr (matched_less t p v' f (peer w.peers f).matched i x le))
          (matched f))
          (or_cases (f == t.me) (nat_le i (peer w.peers f).matched) chosen)));
    }))
    (found (may_commit t.me (term_at p) p.term (members p) w.peers) w.commit (last p - w.commit))

-- ---- an entry that a leader creates

abbrev pub created_entry : Ballot → List ℕ → LogEntry
created_entry b entry = record { term = b.term; bytes = entry }

abbrev pub created : PersistentState → Ballot → List ℕ → PersistentState
created p b entry = with_part (created_part p b entry) p

-- how the leadership was won or kept, what its matches rest on, and that a change of members is allowed
pub record Creates (t : Turn) (w : VolatileState) (b : Ballot) (entry : List ℕ) : Type 0 where
  pub role : w.role ≡ Leader
  pub commit : w.commit ≡ t.v.commit
  pub received : w.received ≡ t.v.received
  pub positive : 0 < b.term
  pub up : t.p.term ≤ b.term
  pub keeps : t.p.term ≡ b.term → t.p.vote ≢ 0 → b.vote ≡ t.p.vote
  pub elected : (v' : VolatileState) → ((seen_role t.v.role ≡ tracking.Leader) × (t.p.term ≡ b.term)) ⊎ (WinsByVotes (here t) (core t true (created t.p b entry) v') ⊎ WinsAlone (here t) (core t true (created t.p b entry) v'))
  pub matched : (v' : VolatileState) (f : ℕ) → ((peer w.peers f).matched ≡ 0) ⊎ MatchedUpto (here t) (core t true (created t.p b entry) v') f (peer w.peers f).matched
  pub placed : (f : ℕ) → IsPlaced (suc (last t.p)) (length t.p.snapshot) (peer w.peers f)
  pub change : (v' : VolatileState) (ms : List ℕ) → members_in entry ≡ Some ms → ChangesAreSingle (untracked_cluster (here t)) (uncut_step (core t true (created t.p b entry) v')) ms

module _ (t : Turn) (w : VolatileState) (b : Ballot) (entry : List ℕ) (c : Creates t w b entry) where
  created_log : (created t.p b entry).log ≡ t.p.log ++ (created_entry b entry ∷ [])
  created_log = ap (λ l. l ++ (created_entry b entry ∷ [])) (ap (λ n. take n t.p.log) (omega arith) ∙ take-length t.p.log)

  created_last : last (created t.p b entry) ≡ suc (last t.p)
  created_last = omega (arith, ap length created_log, length-append t.p.log (created_entry b entry ∷ []))

  -- the state after the entry is created and what can be is committed
  abbrev pub after_created : VolatileState
  after_created = commits t.me (created t.p b entry) w

  not_candidate : after_created.role ≢ Candidate
  not_candidate h = ⊎_elim
      (λ z. leader_or_candidate after_created.role (z ∙ c.role) h)
      (λ z. follower_or_candidate after_created.role z h)
      (committing t.me (created t.p b entry) w (commit_found t.me (created t.p b entry) w)).role

  pub created_placed : (f : ℕ) → IsPlaced (last (created t.p b entry)) (length t.p.snapshot) (peer after_created.peers f)
  created_placed f = subst (λ l. IsPlaced (last (created t.p b entry)) (length t.p.snapshot) (peer l f)) (sym (committing t.me (created t.p b entry) w (commit_found t.me (created t.p b entry) w)).peers)
      (subst (λ n. IsPlaced n (length t.p.snapshot) (peer w.peers f)) (sym created_last) (c.placed f))

  created_rises : (w.commit ≤ after_created.commit) × (after_created.commit ≤ last (created t.p b entry))
  created_rises = commit_rises t.me (created t.p b entry) w (let a = t.sound.within in omega (arith, a, c.commit, created_last))

  created_facts : TrackedFacts (here t) (core t true (created t.p b entry) after_created)
  created_facts =
      let p' = created t.p b entry in
      let same = committing t.me p' w (commit_found t.me p' w) in
      record {
        named = t.sound.named;
        delivered = t.delivered;
        term = c.up;
        vote = c.keeps;
        leads = λ h. refl;
        elected = λ h. c.elected after_created;
        candidate = λ h. absurd (not_candidate (seen_candidate after_created.role h));
        apart = λ h. absurd (not_candidate (seen_candidate after_created.role h));
        log = inr (
          (λ h. not_candidate (seen_candidate after_created.role h)),
          inl (record { base = (refl, refl, refl); entry = created_entry b entry; own = refl; leading = refl; result = created_log; change = c.change after_created }),
        );
        sends = All-nil (SendsTruly (here t) (core t true p' after_created));
        matched = λ h f. subst (λ l. ((peer l f).matched ≡ 0) ⊎ MatchedUpto (here t) (core t true p' after_created) f (peer l f).matched) (sym same.peers) (c.matched after_created f);
        above_base = let a = t.sound.above_base in let r = created_rises.0 in omega (arith, a, r, c.commit);
        commit = ⊎_elim (λ z. inl z) (λ z. inr (inl z)) (commit_facts t p' w c.commit (c.matched after_created));
      }

  created_sound : IsSound t.me (created t.p b entry) after_created
  created_sound = record {
    named = t.sound.named;
    above_base = let a = t.sound.above_base in let r = created_rises.0 in omega (arith, a, r, c.commit);
    within = created_rises.1;
    no_base = t.sound.no_base;
    voted = λ h. absurd (not_candidate h);
    campaigns = λ h. absurd (not_candidate h);
    leads = λ h. c.positive;
    peers = λ h. created_placed;
  }

  pub creates_good : Good t (creates t.me t.p w b entry)
  creates_good = record {
    facts = created_facts;
    says = sends_all t (created t.p b entry) after_created (λ h. created_placed);
    sound = created_sound;
    snapshot = inl (refl, refl, refl, refl);
    receives = inl ((committing t.me (created t.p b entry) w (commit_found t.me (created t.p b entry) w)).received ∙ c.received);
  }
