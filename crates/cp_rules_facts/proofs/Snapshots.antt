-- A chunk that came.
use Rattle.std.proofs.Common.{◌≡◌, ℕ, ◌-◌, ◌<◌, ◌≤◌, ◌⊎◌, inl, inr, Bool, true, false, List, [], length, drop, refl, ap, ap₂, sym, ◌∙◌, arith, subst, Option, Some, None, is_none, nat_lt, nat_le, le_refl, true≢false, ltb-false, if◌then◌else◌}
use Rattle.std.proofs.lemmas.Bool.{leb-true, leb-false}
use Rattle.std.proofs.lemmas.List.Elements.{All-nil}
use Rattle.cp_agreement_facts.specs.Clusters as cluster
use Rattle.cp_agreement_facts.specs.Facts.{KnowsTerm, InstallsSnapshot}
use Rattle.cp_safety.specs.Tracking.{untracked, untracked_cluster, uncut_step, SendsTruly}
use Rattle.cp_safety.specs.Chunks.{Chunk}
use Rattle.cp_rules.specs.declared.role.Role.TheVariants.{Follower}
use Rattle.cp_rules.specs.Limits.{most_snapshot}
use Rattle.cp_parts.specs.declared.snapshot_head.SnapshotHead.{SnapshotHead}
use Rattle.cp_parts.specs.Heads.{head_of}
use Rattle.cp_log_rules.specs.Persistent as stored
use Rattle.cp_log_rules.specs.Persistent.{PersistentState, entry_at, with_head, with_ballot}
use Rattle.cp_rules.specs.Persistent.{ballot}
use Rattle.cp_rules.specs.Volatile.{VolatileState}
use Rattle.cp_rules.specs.Local.{SnapshotReply, does, reply, send}
use Rattle.cp_rules.specs.Terms.{adopted}
use Rattle.cp_rules.specs.Appends.{following}
use Rattle.cp_rules.specs.Snapshots.{received_of, joined, Progress, Apart, TooLong, More, Whole, progress_of, progress, answers, installs, takes_chunk, on_snapshot}
use Rattle.cp_rules_facts.specs.Seen.{tracked_member, head_term, head_members}
use Rattle.cp_rules_facts.proofs.Basics.{either, follower_or_leader, follower_or_candidate, one}
use Rattle.cp_rules_facts.proofs.Knowing.{has_known, known_has, entry_has}
use Rattle.cp_rules_facts.proofs.Turns.{Turn, got, here, core, Truth, Receives, Left, Good}
use Rattle.cp_rules_facts.proofs.Quiet.{adopting, adopted_term, calm_low, silent, takes_ballot}
use Rattle.cp_rules_facts.proofs.Votes.{plain}

module _ (t : Turn) (from term index offset : ℕ) (is_last : Bool) (bytes : List ℕ) (came_is : t.came ≡ Some (Chunk from term index offset is_last bytes)) (low : t.p.term ≤ term) where
  -- the whole snapshot as which the chunk is read
  whole_got : got t ≡ Some (cluster.Snapshot from term index t.index_term t.members)
  whole_got = rw came_is refl

  -- an answer that is not done
  more : (v : VolatileState) (received : ℕ) → v.role ≡ Follower → v.commit ≡ t.v.commit → Receives t.v t.came v → Good t (answers t.p v from term index false received)
  more v received role commit goes = takes_ballot t term v (reply from (SnapshotReply term index false received)) commit goes (inl role)
      (λ leads. one (Truth t leads (with_ballot (adopted term (ballot t.p)).term (adopted term (ballot t.p)).vote t.p) v) (send from (SnapshotReply term index false received)) (tt, tt))

  -- what is committed is done
  done : index ≤ t.v.commit → Good t (answers t.p (following from t.v) from term index true 0)
  done le =
      let now = adopted term (ballot t.p) in
      let reached : now.term ≡ term = adopted_term term t.p low in
      takes_ballot t term (following from t.v) (reply from (SnapshotReply term index true 0)) refl (inl refl) (inl refl)
      (λ leads. one (Truth t leads (with_ballot now.term now.vote t.p) (following from t.v)) (send from (SnapshotReply term index true 0)) (
        (
          refl,
          sym reached,
          record {
            sender = from;
            index_term = t.index_term;
            members = t.members;
            got = whole_got ∙ ap (λ u. Some (cluster.Snapshot from u index t.index_term t.members)) (sym reached);
            done = inr le;
          },
        ),
        tt,
      ))

  -- the whole snapshot
  installed : (all : List ℕ) (head : SnapshotHead) → head_of all ≡ Some head → (t.index_term ≡ head.term) × (t.members ≡ head.config.members) → t.v.commit < index → Good t (installs t.p t.v from term index all)
  installed all head is same above =
      let now = adopted term (ballot t.p) in
      let ad = adopting term t.p t.v in
      let v' : VolatileState = record (following from t.v) { commit = index; received = None } in
      let p' = with_head now.term now.vote index all (Some head) t.p in
      let same_has = entry_has t.p index head.term (let base = t.sound.above_base in omega (arith, base, above)) in
      let reached : now.term ≡ term = adopted_term term t.p low in
      let base = t.sound.above_base in
      let calm = calm_low t p' v' (follower_or_leader Follower refl) (follower_or_candidate Follower refl) in
      let inst : InstallsSnapshot (untracked_cluster (here t)) (uncut_step (core t false p' v')) = record {
        sender = from;
        got = whole_got ∙ ap (λ u. Some (cluster.Snapshot from u index t.index_term t.members)) (sym reached) ∙ ap₂ (λ a b. Some (cluster.Snapshot from now.term index a b)) same.0 same.1;
        above = above;
        commit = refl;
        log = either (λ l. (KnowsTerm (untracked (tracked_member t.p t.v)) index head.term × (l ≡ drop (index - t.p.base) t.p.log)) ⊎ ((KnowsTerm (untracked (tracked_member t.p t.v)) index head.term → ⊥) × (l ≡ []))) (stored.is_term head.term (entry_at t.p index)) (drop (index - t.p.base) t.p.log) []
            (λ k. inl (has_known t.p t.v index head.term (sym same_has ∙ k), refl))
            (λ k. inr ((λ z. true≢false (sym (known_has t.p t.v index head.term z) ∙ sym same_has ∙ k)), refl));
      } in
      subst (λ (z : PersistentState). Left t false z v' (reply from (SnapshotReply term index true 0))) (ap (λ o. with_head now.term now.vote index all o t.p) (sym is)) (record {
        facts = record {
          named = t.sound.named;
          delivered = t.delivered;
          term = ad.up;
          vote = λ e ne. ad.vote e;
          leads = calm.leading;
          elected = calm.elected;
          candidate = calm.candidate;
          apart = calm.apart;
          log = inr ((λ z. cc), inr (inr (inr inst)));
          sends = All-nil (SendsTruly (here t) (core t false p' v'));
          matched = calm.matched;
          above_base = le_refl index;
          commit = inr (inr (inr inst));
        };
        says = one (Truth t false p' v') (send from (SnapshotReply term index true 0)) ((refl, sym reached, record { sender = from; index_term = head.term; members = head.config.members; got = inst.got; done = inl (inst, refl) }), tt);
        sound = record {
          named = t.sound.named;
          above_base = le_refl index;
          within = omega arith;
          no_base = λ z. absurd (omega (arith, above, z));
          voted = λ h. absurd (follower_or_candidate Follower refl h);
          campaigns = λ h. absurd (follower_or_candidate Follower refl h);
          leads = λ h. absurd (follower_or_leader Follower refl h);
          peers = λ h. absurd (follower_or_leader Follower refl h);
        };
        snapshot = inr (omega (arith, base, above), (head, is, refl, refl));
        receives = inr (inl refl);
      })

  -- what a chunk's progress says of what is joined
  abbrev Says : Option (List ℕ) → Progress → Type 0
  Says o (Apart received) = Unit {0}
  Says o TooLong = Unit {0}
  Says o (More all) = o ≡ Some all
  Says o (Whole all) = (o ≡ Some all) × (is_last ≡ true)

  progress_says : (before o : Option (List ℕ)) → Says o (progress_of is_last before o)
  progress_says before None = tt
  progress_says before (Some all) = either (Says (Some all)) (nat_lt most_snapshot (length all)) TooLong (if is_last then Whole all else More all)
      (λ h. tt)
      (λ h. either (Says (Some all)) is_last (Whole all) (More all) (λ l. (refl, l)) (λ l. refl))

  chunk_taken : (r : Progress) → Says (joined (received_of term index t.v.received) offset bytes) r → t.v.commit < index → Good t (takes_chunk t.p t.v from term index r)
  chunk_taken (Apart received) says above = more (following from t.v) received refl refl (inl refl)
  chunk_taken TooLong says above = silent t
  chunk_taken (More all) says above =
      let kept : VolatileState = record (following from t.v) { received = Some (record { term = term; index = index; bytes = all }) } in
      more kept (length all) refl refl (inr (inr (record { sender = from; term = term; index = index; offset = offset; is_last = is_last; bytes = bytes; all = all; got = came_is; joins = says; received = refl })))
  chunk_taken (Whole all) says above = either (Good t) (is_none (head_of all)) (does None t.v []) (installs t.p t.v from term index all) (λ k. silent t) (λ k. look (head_of all) refl k)
    where
      look : (o : Option SnapshotHead) → head_of all ≡ o → is_none o ≡ false → Good t (installs t.p t.v from term index all)
      look None e k = absurd (true≢false k)
      look (Some head) e k =
          let w = t.whole from term index offset bytes all (came_is ∙ ap (λ l. Some (Chunk from term index offset l bytes)) says.1) says.0 in
          installed all head e (w.0 ∙ ap head_term e, w.1 ∙ ap head_members e) above

pub snapshot_good : (t : Turn) (from term index offset : ℕ) (is_last : Bool) (bytes : List ℕ) → t.came ≡ Some (Chunk from term index offset is_last bytes) → Good t (on_snapshot t.p t.v from term index offset is_last bytes)
snapshot_good t from term index offset is_last bytes came_is =
    let committed = answers t.p (following from t.v) from term index true 0 in
    let before = received_of term index t.v.received in
    let chunk = takes_chunk t.p t.v from term index (progress before offset is_last bytes) in
    either (Good t) (nat_lt term t.p.term) (does None t.v (reply from (SnapshotReply t.p.term index false 0))) (if nat_le index t.v.commit then committed else chunk)
    (λ h. plain t (send from (SnapshotReply t.p.term index false 0)) (λ leads. (tt, tt)))
    (λ h. let low = ltb-false term t.p.term h in either (Good t) (nat_le index t.v.commit) committed chunk
    (λ k. done t from term index offset is_last bytes came_is low (leb-true index t.v.commit k))
    (λ k. chunk_taken t from term index offset is_last bytes came_is low (progress before offset is_last bytes) (progress_says t from term index offset is_last bytes came_is low before (joined before offset bytes)) (leb-false index t.v.commit k)))
