-- What a rule of a tick has done, by its parts.
use Rattle.std.proofs.Common.{◌&&◌, ◌==◌, ◌≡◌, ℕ, suc, ◌-◌, ◌<◌, ◌≤◌, Bool, true, false, List, [], ◌++◌, length, map, refl, sym, ap, subst, arith, ◌∙◌, Option, Some, None, is_none, is_some, true≢false, nat_le, not, if◌then◌else◌}
use Rattle.std.proofs.lemmas.List.{append_assoc, map-append}
use Rattle.std.proofs.lemmas.Option.{same_Some}
use Rattle.std.proofs.lemmas.Bool.{and_parts, leb-false}
use Rattle.std.specs.Option.{option_map}
use Rattle.cp_parts.specs.Heads.{head_of}
use Rattle.cp_message.specs.declared.message.Message.{Message}
use Rattle.cp_parts.specs.declared.part.Part as journal
use Rattle.cp_agreement_facts.specs.Entries.{members_in}
use Rattle.cp_answers.specs.declared.refusal.Refusal.{Refusal}
use Rattle.cp_answers.specs.declared.refusal.Refusal.TheVariants.{NotLeader, IndexEnd, Overloaded}
use Rattle.cp_log_rules.specs.Persistent.{PersistentState, last}
use Rattle.cp_rules.specs.declared.peer.Peer.{Peer}
use Rattle.cp_rules.specs.declared.role.Role.TheVariants.{Leader}
use Rattle.cp_rules.specs.declared.outcome.Outcome.TheVariants.{Done}
use Rattle.cp_rules.specs.Limits.{most_index, most_snapshot, most_uncommitted}
use Rattle.cp_rules.specs.Parts.{part_of}
use Rattle.cp_rules.specs.Persistent.{Part, SnapshotPart, ballot, members, with_part, after_part}
use Rattle.cp_rules.specs.Volatile.{VolatileState, new_peer, peer, silence}
use Rattle.cp_rules.specs.Local.{LocalStep, Sent, does, is_leader}
use Rattle.cp_rules.specs.Leadership.{created_part, takes_leadership}
use Rattle.cp_rules.specs.PreVotes.{may_stand, stands, times_out}
use Rattle.cp_rules.specs.Requests.{refuses, proposes}
use Rattle.cp_rules.specs.Snapshots.{from_start, own_head, own_snapshot}
use Rattle.cp_rules.specs.Spelling.{snapshot_bytes}
use Rattle.cp_rules.specs.Ticks.{is_proposed, confirms_again, beats, expires}
use Rattle.cp_rules_facts.specs.Soundness.{IsPlaced, IsSound, IsSnapshotDue}
use Rattle.cp_rules_facts.proofs.Basics.{either, mapped_place}
use Rattle.cp_rules_facts.proofs.Ticks.{wrote}
use Rattle.cp_replicate.specs.Decisions.{may_expire}
use Rattle.cp_raft_state.specs.declared.did.Did.{Did}
use Rattle.cp_raft_state.specs.declared.seat.Seat.{Seat}
use Rattle.cp_raft_state.specs.Doing.{Does}
use Rattle.cp_raft_state.specs.Messages.{messages_of, sent_by}
use Rattle.cp_raft_state.proofs.OwnSnapshots.{IsOwn, last_kept}
use Rattle.cp_raft.specs.Ticking.{if_fits, own_bytes, own_part, from_new, beaten, beat_sends}
use Rattle.cp_raft.proofs.Ticks.{no_beat, idles_is, confirms_stay, waited}

-- messages behind others
two_sends : (seat : Seat) (before middle after : List Message) (xs ys : List Sent) → middle ≡ before ++ messages_of seat xs → after ≡ middle ++ messages_of seat ys → after ≡ before ++ messages_of seat (xs ++ ys)
two_sends seat before middle after xs ys first second =
    second ∙ ap (λ (l : List Message). l ++ messages_of seat ys) first ∙ append_assoc before (messages_of seat xs) (messages_of seat ys)
    ∙ ap (λ (l : List Message). before ++ l) (sym (map-append (sent_by seat) xs ys))

-- ---- after a snapshot of one's own

module _ (p q : PersistentState) (index : ℕ) (bytes : List ℕ) (own : IsOwn p index bytes) (is : q ≡ with_part (SnapshotPart (ballot p) index bytes) p) where
  last_stays : last q ≡ last p
  last_stays = ap last is ∙ last_kept p index bytes own

  pub room_kept : last p ≤ most_index → last q ≤ most_index
  room_kept room = let e = last_stays in omega (arith, e, room)

  pub placed_kept : (v w : VolatileState) → w ≡ record v { peers = map from_start v.peers } → ((member : ℕ) → IsPlaced (last p) (length p.snapshot) (peer v.peers member))
      → (member : ℕ) → IsPlaced (last q) (length q.snapshot) (peer w.peers member)
  placed_kept v w after placed member =
      let x = placed member in
      let anew : IsPlaced (last p) (length q.snapshot) (from_start (peer v.peers member)) = record { first = x.first; next = x.next; matched = x.matched; offset = omega arith } in
      let same : from_start (peer v.peers member) ≡ peer w.peers member = sym (ap (λ (s : VolatileState). peer s.peers member) after ∙ mapped_place from_start v.peers (new_peer 1) refl member) in
      subst (λ (x : Peer). IsPlaced (last q) (length q.snapshot) x) same (subst (λ (n : ℕ). IsPlaced n (length q.snapshot) (from_start (peer v.peers member))) (sym last_stays) anew)

-- the index of a snapshot is the commit, and these are its bytes
pub own_is : (p : PersistentState) (index commit : ℕ) (bytes whole : List ℕ) → index ≡ commit → bytes ≡ whole → p.base < commit → commit ≤ last p → head_of whole ≡ Some (own_head p commit) → IsOwn p index bytes
own_is p index commit bytes whole same all above within reads =
    subst (λ (i : ℕ). IsOwn p i bytes) (sym same) (subst (IsOwn p commit) (sym all) (record { from = above; to = within; reads_back = reads }))

-- ---- a leader that has written nothing but a snapshot

abbrev pub did_with : Option journal.Part → Did
did_with part = record { part = part; outcome = Done }

abbrev pub own_did : Seat → PersistentState → ℕ → Option (List ℕ) → Did
own_did seat p index o = did_with (option_map (part_of seat.group) (own_part p index o))

pub idled : (seat : Seat) (p : PersistentState) (v now : VolatileState) (may_write : Bool) (machine o : Option (List ℕ)) (did : Did) (before after : List Message)
    → v.role ≡ Leader → o ≡ own_bytes p v.commit may_write machine → did ≡ own_did seat p v.commit o → now ≡ beaten (from_new o v)
    → after ≡ before ++ messages_of seat (beat_sends seat.me (after_part (own_part p v.commit o) p) (from_new o v))
    → Does seat (beats seat.me p (own_snapshot p (does None v []) may_write machine)) did now before after
idled seat p v now may_write machine o did before after leads is did_is state sends =
    subst (λ (s : LocalStep). Does seat s did now before after) (sym (idles_is seat.me p v may_write machine o (ap is_leader leads) (sym is)))
    (record { part = ap (λ (d : Did). d.part) did_is; outcome = ap (λ (d : Did). d.outcome) did_is; state = state; sends = sends; answered = refl; lost = refl })

-- ---- an expiry

-- a leader that has appended beats with what it has sent
beats_more : (me : ℕ) (p : PersistentState) (s : LocalStep) → is_leader s.state.role ≡ true → is_proposed s.outcome ≡ true
    → beats me p s ≡ record s { state = record s.state { beat = s.state.clock }; sends = s.sends ++ confirms_again me (after_part s.part p) s.state.reads }
beats_more me p s leads appended = rw (appended, leads) refl

module _ (seat : Seat) (p : PersistentState) (v between : VolatileState) (entry : List ℕ) (did : Did) (before middle : List Message) (done : Does seat (proposes seat.me p v entry) did between before middle) where
  abbrev expired : LocalStep
  expired = proposes seat.me p v entry

  pub expired_follows : is_leader between.role ≡ false → Does seat (beats seat.me p expired) did between before middle
  expired_follows follows =
      let at : is_leader expired.state.role ≡ false = sym (ap (λ (s : VolatileState). is_leader s.role) done.state) ∙ follows in
      subst (λ (s : LocalStep). Does seat s did between before middle) (sym (no_beat seat.me p expired at)) done

  pub expired_leads : (now : VolatileState) (after : List Message) → members_in entry ≡ None → is_leader between.role ≡ true → now ≡ record between { beat = between.clock } → after ≡ middle ++ messages_of seat (confirms_again seat.me p now.reads)
      → Does seat (beats seat.me p expired) did now before after
  expired_leads now after plain leads state sends =
      let at : is_leader expired.state.role ≡ true = sym (ap (λ (s : VolatileState). is_leader s.role) done.state) ∙ leads in
      let same : now ≡ record expired.state { beat = expired.state.clock } = state ∙ ap (λ (s : VolatileState). record s { beat = s.clock }) done.state in
      let again : confirms_again seat.me p now.reads ≡ confirms_again seat.me (after_part expired.part p) expired.state.reads =
      ap (λ (s : VolatileState). confirms_again seat.me p s.reads) same ∙ sym (confirms_stay seat.me p entry expired.state.reads plain) in
      subst (λ (s : LocalStep). Does seat s did now before after) (sym (beats_more seat.me p expired at refl)) (record {
        part = done.part;
        outcome = done.outcome;
        state = same;
        sends = two_sends seat before middle after expired.sends (confirms_again seat.me p now.reads) done.sends sends ∙ ap (λ (z : List Sent). before ++ messages_of seat (expired.sends ++ z)) again;
        answered = refl;
        lost = refl;
      })

-- a leader has placed all others, with room for an entry
pub placed_with_room : (me : ℕ) (p : PersistentState) (v : VolatileState) → IsSound me p v → v.role ≡ Leader → (member : ℕ) → IsPlaced (suc (last p)) (length p.snapshot) (peer v.peers member)
placed_with_room me p v sound leads member =
    let x = sound.peers leads member in
    let a = x.next in
    let b = x.matched in
    record { first = x.first; next = omega (arith, a); matched = omega (arith, b); offset = x.offset }

-- what may be appended has room
pub expiry_room : (v : VolatileState) (last : ℕ) (may_write : Bool) → may_expire v.role v.leader last v.commit may_write ≡ true → last < most_index
expiry_room v last may_write h =
    let free = (and_parts may_write (is_none (refuses v.role v.leader last v.commit)) h).1 in
    let P : Option Refusal → Type 0 = (λ o. is_none o ≡ true → last < most_index) in
    either P (not (is_leader v.role)) (Some (NotLeader v.leader)) (if nat_le most_index last then Some (IndexEnd last) else if nat_le most_uncommitted (last - v.commit) then Some (Overloaded most_uncommitted) else None)
    (λ a e. absurd (true≢false (sym e)))
    (λ a. either P (nat_le most_index last) (Some (IndexEnd last)) (if nat_le most_uncommitted (last - v.commit) then Some (Overloaded most_uncommitted) else None)
    (λ b e. absurd (true≢false (sym e)))
    (λ b e. leb-false most_index last b))
    free

-- where an expiry is appended, and where it is not
module _ (me : ℕ) (p : PersistentState) (v : VolatileState) (may_write : Bool) (expiry : Option (List ℕ)) (entry : List ℕ) (machine : Option (List ℕ)) (is : expiry ≡ Some entry) where
  abbrev With : Option (List ℕ) → LocalStep
  With o = beats me p (own_snapshot p (expires me p v may_write o) may_write machine)

  pub expiring : may_expire v.role v.leader (last p) v.commit may_write ≡ true → beats me p (proposes me p v entry) ≡ With expiry
  expiring h =
      let chosen : expires me p v may_write (Some entry) ≡ proposes me p v entry = rw h refl in
      sym (ap With is ∙ ap (λ (s : LocalStep). beats me p (own_snapshot p s may_write machine)) chosen ∙ ap (beats me p) (wrote p (proposes me p v entry) (created_part p (ballot p) entry) may_write machine refl))

  pub not_expiring : may_expire v.role v.leader (last p) v.commit may_write ≡ false → beats me p (own_snapshot p (does None v []) may_write machine) ≡ With expiry
  not_expiring h =
      let chosen : expires me p v may_write (Some entry) ≡ does None v [] = rw h refl in
      sym (ap With is ∙ ap (λ (s : LocalStep). beats me p (own_snapshot p s may_write machine)) chosen)

-- ---- a snapshot that is due

fitting : (may_write : Bool) (whole bytes : List ℕ) → Some bytes ≡ if_fits may_write whole → whole ≡ bytes
fitting may_write whole bytes is = either (λ (o : Option (List ℕ)). Some bytes ≡ o → whole ≡ bytes) (may_write && nat_le (length whole) most_snapshot) (Some whole) None
    (λ h e. sym (same_Some bytes whole e))
    (λ h e. absurd (cc))
    is

pub own_due : (p : PersistentState) (v : VolatileState) (may_write : Bool) (machine : Option (List ℕ)) (bytes : List ℕ) → Some bytes ≡ own_bytes p v.commit may_write machine
    → ((m : List ℕ) → machine ≡ Some m → IsSnapshotDue p v m) → (p.base < v.commit) × (head_of bytes ≡ Some (own_head p v.commit))
own_due p v may_write None bytes is due = absurd (cc)
own_due p v may_write (Some m) bytes is due =
    let d = due m refl in
    (d.above, subst (λ (b : List ℕ). head_of b ≡ Some (own_head p v.commit)) (fitting may_write (snapshot_bytes (own_head p v.commit) m) bytes is) d.reads_back)

-- ---- a tick at one that does not lead

quiet_commit : (me : ℕ) (p : PersistentState) (v : VolatileState) (may_write : Bool) → (times_out me p v may_write).part ≡ None → (times_out me p v may_write).state.commit ≡ v.commit
quiet_commit me p v may_write =
    let taking = takes_leadership me p (record v { heard = v.clock }) (suc p.term) in
    let P : LocalStep → Type 0 = (λ s. s.part ≡ None → s.state.commit ≡ v.commit) in
    either P (not (may_stand me (members p) p.term (last p) (silence v))) (does None v []) (if length (members p) == 1 then (if may_write then taking else does None v []) else stands me p v)
    (λ h e. refl)
    (λ h. either P (length (members p) == 1) (if may_write then taking else does None v []) (stands me p v)
    (λ k. either P may_write taking (does None v []) (λ w e. absurd (cc)) (λ w e. refl))
    (λ k e. refl))

module _ (seat : Seat) (p : PersistentState) (v between : VolatileState) (may_write : Bool) (machine : Option (List ℕ)) (did : Did) (before middle : List Message)
    (follows : is_leader v.role ≡ false) (done : Does seat (times_out seat.me p v may_write) did between before middle) where
  abbrev waiting : LocalStep
  waiting = times_out seat.me p v may_write

  pub waited_wrote : is_some did.part ≡ true → Does seat (beats seat.me p (own_snapshot p waiting may_write machine)) did between before middle
  waited_wrote h = look waiting.part refl
    where
      look : (o : Option Part) → waiting.part ≡ o → Does seat (beats seat.me p (own_snapshot p waiting may_write machine)) did between before middle
      look None e = absurd (true≢false (sym h ∙ ap is_some done.part ∙ ap (λ (z : Option Part). is_some (option_map (part_of seat.group) z)) e))
      look (Some x) e = subst (λ (s : LocalStep). Does seat s did between before middle) (sym ((waited seat.me p v may_write machine follows).wrote x e)) done

  pub waited_idle : is_some did.part ≡ false → (o : Option (List ℕ)) (own : Did) (now : VolatileState) → o ≡ own_bytes p v.commit may_write machine → own ≡ own_did seat p v.commit o → now ≡ from_new o between
      → Does seat (beats seat.me p (own_snapshot p waiting may_write machine)) own now before middle
  waited_idle h o own now is own_is state = look waiting.part refl
    where
      look : (x : Option Part) → waiting.part ≡ x → Does seat (beats seat.me p (own_snapshot p waiting may_write machine)) own now before middle
      look (Some x) e = absurd (true≢false (sym (ap (λ (z : Option Part). is_some (option_map (part_of seat.group) z)) e) ∙ sym (ap is_some done.part) ∙ h))
      look None e =
          let commit = quiet_commit seat.me p v may_write e in
          let same : own_bytes p waiting.state.commit may_write machine ≡ o = ap (λ (c : ℕ). own_bytes p c may_write machine) commit ∙ sym is in
          let law = (waited seat.me p v may_write machine follows).idle e
          ∙ ap (λ (b : Option (List ℕ)). does (own_part p waiting.state.commit b) (from_new b waiting.state) waiting.sends) same
          ∙ ap (λ (c : ℕ). does (own_part p c o) (from_new o waiting.state) waiting.sends) commit in
          subst (λ (s : LocalStep). Does seat s own now before middle) (sym law)
          (record { part = ap (λ (d : Did). d.part) own_is; outcome = ap (λ (d : Did). d.outcome) own_is; state = state ∙ ap (from_new o) done.state; sends = done.sends; answered = refl; lost = refl })

-- ---- the clock

pub ticked_sound : (me clock : ℕ) (p : PersistentState) (v w : VolatileState) → w ≡ record v { clock = clock } → IsSound me p v → IsSound me p w
ticked_sound me clock p v w is s = subst (IsSound me p) (sym is) (record { named = s.named; above_base = s.above_base; within = s.within; no_base = s.no_base; voted = s.voted; campaigns = s.campaigns; leads = s.leads; peers = s.peers })

pub ticked_due : (clock : ℕ) (p : PersistentState) (v w : VolatileState) (bytes : List ℕ) → w ≡ record v { clock = clock } → IsSnapshotDue p v bytes → IsSnapshotDue p w bytes
ticked_due clock p v w bytes is d = subst (λ (z : VolatileState). IsSnapshotDue p z bytes) (sym is) (record { above = d.above; reads_back = d.reads_back })
