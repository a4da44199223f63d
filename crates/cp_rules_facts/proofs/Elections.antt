-- Becoming a candidate, and taking leadership by votes or alone.
use Rattle.std.proofs.Common.{◌||◌, ◌&&◌, ◌==◌, ◌≡◌, ◌≢◌, ℕ, suc, ◌<◌, ◌≤◌, ◌⊎◌, inl, inr, ⊎_elim, Bool, true, false, List, [], ◌∷◌, length, refl, ap, ap₂, sym, ◌∙◌, arith, Some, None, le_refl, true≢false, if◌then◌else◌}
use Rattle.std.proofs.lemmas.Bool.{cases_Bool, or_cases, eqb-true, and_parts}
use Rattle.std.proofs.lemmas.List.Elements.{All-nil}
use Rattle.cp_agreement_facts.specs.Clusters as cluster
use Rattle.cp_agreement_facts.specs.Facts.{configuration_of}
use Rattle.cp_safety.specs.Tracking.{untracked, Counts, WinsByVotes, WinsAlone}
use Rattle.cp_rules.specs.declared.ballot.Ballot.{Ballot}
use Rattle.cp_rules.specs.declared.role.Role.TheVariants.{PreCandidate, Candidate, Leader}
use Rattle.cp_rules.specs.Spelling.{empty_entry}
use Rattle.cp_log_rules.specs.Persistent.{PersistentState, last, with_ballot}
use Rattle.cp_rules.specs.Persistent.{log_end, members, is_member, others, is_quorum}
use Rattle.cp_rules.specs.Volatile.{VolatileState, has_voted, no_votes, new_peer}
use Rattle.cp_rules.specs.Local.{Vote, does, send, is_leader, is_candidate, is_pre_candidate}
use Rattle.cp_rules.specs.Leadership.{leading, takes_leadership}
use Rattle.cp_rules.specs.PreVotes.{with_vote, has_quorum, becomes_candidate, counts_prevote, on_prevote_reply}
use Rattle.cp_rules.specs.Votes.{counts_vote, on_vote_reply}
use Rattle.cp_rules.proofs.SpellingLaws.{empty_sets_none}
use Rattle.cp_rules_facts.specs.Seen.{seen_role, tracked_member}
use Rattle.cp_rules_facts.specs.Soundness.{IsPlaced}
use Rattle.cp_rules_facts.proofs.Basics.{either, candidate_is, pre_candidate_is, seen_leader, set_index, same_everywhere, all_mapped}
use Rattle.cp_rules_facts.proofs.Knowing.{ends, members_are, quorum_is}
use Rattle.cp_rules_facts.proofs.Turns.{Turn, got, here, core, Truth, Good}
use Rattle.cp_rules_facts.proofs.Quiet.{rests, quiet_low, quiet_same, silent}
use Rattle.cp_rules_facts.proofs.Votes.{adopts_or}
use Rattle.cp_rules_facts.proofs.Commits.{created, Creates, creates_good}

-- one that is alone is a quorum
pub alone : (me : ℕ) (ms : List ℕ) → length ms ≡ 1 → is_member me ms ≡ true → is_quorum ms (λ f. f == me) ≡ true
alone me [] e h = absurd (cc)
alone me (x ∷ []) e h = ⊎_elim (λ (z : (x == me) ≡ true). rw z refl) (λ (z : (x == me) ≡ false). absurd (true≢false (sym h ∙ (rw z refl)))) (cases_Bool (x == me))
alone me (x ∷ y ∷ ms) e h = absurd (cc)

-- ---- a candidate

-- `w` is the state with the votes of the pre-election
candidate_good : (t : Turn) (w : VolatileState) → w.commit ≡ t.v.commit → w.received ≡ t.v.received → Good t (becomes_candidate t.me t.p w)
candidate_good t w commit received =
    let p' = with_ballot (suc t.p.term) t.me t.p in
    let v' : VolatileState = record w { role = Candidate; leader = 0; votes = no_votes } in
    let a = t.sound.above_base in
    let b = t.sound.within in
    record {
      facts = rests t false p' v' (inl ((refl, refl, refl), refl)) (omega arith) (λ e ne. absurd (omega (arith, e))) (omega (arith, a, commit)) commit (record {
        leading = λ h. absurd (let z : Candidate ≡ Leader = seen_leader Candidate h in cc);
        elected = λ h. absurd (true≢false (sym h));
        candidate = λ h. inr (record { term = omega arith; counted = λ f. same_everywhere (λ x. x ≡ false) false false refl refl f });
        apart = λ h. refl;
        matched = λ h. absurd (let z : Candidate ≡ Leader = seen_leader Candidate h in cc);
      });
      says = all_mapped (Truth t false p' v') (λ f. send f (Vote (suc t.p.term) (log_end t.p))) (others t.me (members t.p))
          (λ f. ((refl, record { candidate_is = refl; term_is = refl; vote = refl; ends = ends p' v' }), tt));
      sound = record {
        named = t.sound.named;
        above_base = omega (arith, a, commit);
        within = omega (arith, b, commit);
        no_base = t.sound.no_base;
        voted = λ h. refl;
        campaigns = λ h. omega arith;
        leads = λ h. omega arith;
        peers = λ h. absurd (let z : Candidate ≡ Leader = h in cc);
      };
      snapshot = inl (refl, refl, refl, refl);
      receives = inl received;
    }

-- ---- replies

pub prevote_reply_good : (t : Turn) (from term : ℕ) (granted : Bool) → Good t (on_prevote_reply t.me t.p t.v from term granted)
prevote_reply_good t from term false = adopts_or t term (does None t.v []) (silent t)
prevote_reply_good t from term true =
    let w = with_vote from t.v in
    let counted = is_pre_candidate t.v.role && ((term == suc t.p.term) && is_member from (members t.p)) in
    either (Good t) counted (counts_prevote t.me t.p w) (does None t.v [])
    (λ h. either (Good t) (has_quorum t.me (members t.p) w) (becomes_candidate t.me t.p w) (does None w [])
    (λ e. candidate_good t w refl refl)
    (λ e. let pre : t.v.role ≡ PreCandidate = pre_candidate_is t.v.role (and_parts (is_pre_candidate t.v.role) ((term == suc t.p.term) && is_member from (members t.p)) h).0 in
    quiet_low t t.p.term t.p.vote w [] (le_refl t.p.term) (λ z ne. refl) (λ z. let c : PreCandidate ≡ Leader = sym pre ∙ z in cc) (λ z. let c : PreCandidate ≡ Candidate = sym pre ∙ z in cc) refl (inl refl)
    (All-nil (Truth t false t.p w))))
    (λ h. silent t)

-- a leader that begins with its empty entry, however it won
pub leadership : (t : Turn) (w : VolatileState) (term : ℕ) → w.commit ≡ t.v.commit → w.received ≡ t.v.received → 0 < term → t.p.term ≤ term → (t.p.term ≡ term → t.p.vote ≢ 0 → t.me ≡ t.p.vote)
    → ((v' : VolatileState) → let s = core t true (created t.p (record { term = term; vote = t.me }) empty_entry) v' in WinsByVotes (here t) s ⊎ WinsAlone (here t) s)
    → Creates t (leading t.me t.p w) (record { term = term; vote = t.me }) empty_entry
leadership t w term commit received positive up keeps wins = record {
  role = refl;
  commit = commit;
  received = received;
  positive = positive;
  up = up;
  keeps = keeps;
  elected = λ v'. inr (wins v');
  matched = λ v' f. inl (same_everywhere (λ x. x.matched ≡ 0) (new_peer 1) (new_peer (suc (last t.p))) refl refl f);
  placed = λ f. same_everywhere (IsPlaced (suc (last t.p)) (length t.p.snapshot)) (new_peer 1) (new_peer (suc (last t.p)))
      (record { first = omega arith; next = omega arith; matched = omega arith; offset = omega arith })
      (record { first = omega arith; next = omega arith; matched = omega arith; offset = omega arith })
      f;
  change = λ v' ms h. absurd (let z : None ≡ Some ms = sym empty_sets_none ∙ h in cc);
}

-- the yes that came is counted, or one that was counted before
counted_votes : (t : Turn) (from term : ℕ) → got t ≡ Some (cluster.Voted from t.me term) → term ≡ t.p.term → (leads : Bool) (p' : PersistentState) (v' : VolatileState) → t.p.term ≡ p'.term
    → (f : ℕ) → has_voted (with_vote from t.v).votes f ≡ true → Counts (here t) (core t leads p' v') f
counted_votes t from term is same leads p' v' kept f h = ⊎_elim
    (λ z. inl (sym z ∙ h))
    (λ z. inr (is ∙ ap₂ (λ a b. Some (cluster.Voted a t.me b)) (sym z.0) (same ∙ kept)))
    (set_index t.v.votes from f true false)

votes_counted : (t : Turn) (from term : ℕ) → got t ≡ Some (cluster.Voted from t.me term) → term ≡ t.p.term → t.v.role ≡ Candidate → Good t (counts_vote t.me t.p (with_vote from t.v))
votes_counted t from term is same candidate =
    let w = with_vote from t.v in
    let given : Ballot = record { term = t.p.term; vote = t.me } in
    either (Good t) (has_quorum t.me (members t.p) w) (takes_leadership t.me t.p w t.p.term) (does None w [])
    (λ elected. creates_good t (leading t.me t.p w) given empty_entry (leadership t w t.p.term refl refl (t.sound.campaigns candidate) (le_refl t.p.term) (λ e ne. sym (t.sound.voted candidate))
    (λ v'. inl (record {
      role = ap seen_role candidate;
      term = refl;
      vote = refl;
      quorum = quorum_is (λ u. (u ≡ t.me) ⊎ Counts (here t) (core t true (created t.p given empty_entry) v') u) (members t.p) (configuration_of (untracked (tracked_member t.p t.v))) (λ f. (f == t.me) || has_voted w.votes f)
          (members_are t.p t.v) elected
          (λ f chosen. ⊎_elim (λ z. inl (eqb-true f t.me z)) (λ z. inr (counted_votes t from term is same true (created t.p given empty_entry) v' refl f z)) (or_cases (f == t.me) (has_voted w.votes f) chosen));
    }))))
    (λ e. quiet_same t t.p.vote w [] (λ ne. refl) (record { role = refl; peers = refl; commit = refl; received = refl }) (counted_votes t from term is same (is_leader t.v.role) t.p w refl) (All-nil (Truth t (is_leader t.v.role) t.p w)))

pub vote_reply_good : (t : Turn) (from term : ℕ) (granted : Bool) → (granted ≡ true → got t ≡ Some (cluster.Voted from t.me term)) → Good t (on_vote_reply t.me t.p t.v from term granted)
vote_reply_good t from term granted is =
    let counted = granted && (is_candidate t.v.role && ((term == t.p.term) && is_member from (members t.p))) in
    adopts_or t term (if counted then counts_vote t.me t.p (with_vote from t.v) else does None t.v []) (either (Good t) counted (counts_vote t.me t.p (with_vote from t.v)) (does None t.v [])
    (λ h.
    let a = and_parts granted (is_candidate t.v.role && ((term == t.p.term) && is_member from (members t.p))) h in
    let b = and_parts (is_candidate t.v.role) ((term == t.p.term) && is_member from (members t.p)) a.1 in
    let c = and_parts (term == t.p.term) (is_member from (members t.p)) b.1 in
    votes_counted t from term (is a.0) (eqb-true term t.p.term c.0) (candidate_is t.v.role b.0))
    (λ h. silent t))
