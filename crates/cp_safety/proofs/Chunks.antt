-- An execution with chunks stands for one with whole snapshots: a member has one snapshot of each index, and leaders of one term are one.
use Rattle.std.proofs.Common.{◌≡◌, ◌≢◌, ℕ, ◌<◌, ◌≤◌, ◌⊎◌, inl, inr, ⊎_elim, Bool, true, false, List, [], ◌∷◌, ◌++◌, length, map, refl, ap, ap₂, sym, ◌∙◌, arith, subst, Some, None, Option, Contains, if◌then◌else◌, le_refl, le_trans, le_of_lt, le_of_eq}
use Rattle.std.proofs.lemmas.Bool.{cases_eq, cases_Bool}
use Rattle.std.proofs.lemmas.List.{append_assoc, append-nil}
use Rattle.std.proofs.lemmas.List.Elements.{Contains-append_left, Contains-append_right, Contains-append_cases}
use Rattle.std.proofs.lemmas.Option.{same_Some}
use Rattle.cp_agreement_facts.specs.Clusters.{Step, Message, Snapshot, Cluster, cluster_after, put}
use Rattle.cp_agreement_facts.specs.Facts.{MeetsFacts}
use Rattle.cp_safety.specs.Tracking.{untracked, untracked_step, TrackedStep, TrackedFacts, MeetsTrackedFacts, restarted, tracked_after, untracked_steps}
use Rattle.cp_safety.specs.Chunks.{SnapshotReader, Received, ChunkedMember, Wire, AsItIs, Chunk, ChunkedStep, chunked_restart, chunked_after, seen_got, seen_sent, seen_step, Joins, IsPiece, SameSnapshot, NewSnapshot, ChunkedFacts, MeetsChunkedFacts, HadSnapshot, MembersThrough, chunked_left, LedThrough}
use Rattle.cp_agreement.proofs.Ghost.{put_same, put_other}
use Rattle.cp_safety.proofs.Lists.{contains_map}
use Rattle.cp_safety.proofs.Executions.{senders}
use Rattle.cp_safety.proofs.Tracking.{tracked_meets, untracked_after}

-- Snapshots of one term have one sender.
tracked_senders : (first : List ℕ) (steps : List TrackedStep) → MeetsTrackedFacts first steps → (f f' t i i' it it' : ℕ) (ms ms' : List ℕ)
    → Contains (tracked_after first steps).sent (Snapshot f t i it ms) → Contains (tracked_after first steps).sent (Snapshot f' t i' it' ms') → f ≡ f'
tracked_senders first steps meets f f' t i i' it it' ms ms' has has' =
    let same : (tracked_after first steps).sent ≡ (cluster_after first (untracked_steps steps)).sent = ap (λ (w : Cluster). w.sent) (untracked_after first steps) in
    senders first (untracked_steps steps) (tracked_meets first steps meets) f f' t i i' it it' ms ms'
    (subst (λ l. Contains l (Snapshot f t i it ms)) same has) (subst (λ l. Contains l (Snapshot f' t i' it' ms')) same has')

-- Lists with equal fronts of one length.
same_front : (a b c d : List ℕ) → length a ≡ length b → a ++ c ≡ b ++ d → a ≡ b
same_front [] [] c d long e = refl
same_front [] (y ∷ b) c d long e = absurd (omega (arith, long))
same_front (x ∷ a) [] c d long e = absurd (omega (arith, long))
same_front (x ∷ a) (y ∷ b) c d long e =
    let head : x ≡ y = cc in
    let tail : a ++ c ≡ b ++ d = cc in
    ap₂ (λ h r. h ∷ r) head (same_front a b c d (omega (arith, long)) tail)

-- what was received is a front of the text
record IsFront (text bytes : List ℕ) : Type 0 where
  rest : List ℕ
  text_is : text ≡ bytes ++ rest

-- A front and the piece that follows it are a front; where the piece is the last, they are the text.
joins_front : (text front bytes : List ℕ) (last : Bool) → IsFront text front → IsPiece text (length front) last bytes
    → IsFront text (front ++ bytes) × (last ≡ true → front ++ bytes ≡ text)
joins_front text front bytes last f p =
    let same : front ≡ p.front = same_front front p.front f.rest (bytes ++ p.rest) (sym p.offset_is) (sym f.text_is ∙ p.text_is) in
    let whole : text ≡ (front ++ bytes) ++ p.rest = p.text_is ∙ ap (λ l. l ++ (bytes ++ p.rest)) (sym same) ∙ sym (append_assoc front bytes p.rest) in (
      record { rest = p.rest; text_is = whole },
      λ e. sym (append-nil (front ++ bytes)) ∙ ap (λ l. (front ++ bytes) ++ l) (sym (p.ends e)) ∙ sym whole,
    )

-- What an execution shows of snapshots: text f i is the one that member f had last of index i.
record Shown (reader : SnapshotReader) (first : List ℕ) (steps : List ChunkedStep) (text : ℕ → ℕ → List ℕ) (sent : List Message) : Type 0 where
  now : (m : ℕ) → text m ((chunked_after first steps).member m).tracked.base ≡ ((chunked_after first steps).member m).snapshot
  begins : (m : ℕ) → 0 < ((chunked_after first steps).member m).tracked.base
      → (reader.term_of ((chunked_after first steps).member m).snapshot ≡ ((chunked_after first steps).member m).tracked.base_term)
      × (reader.members_of ((chunked_after first steps).member m).snapshot ≡ ((chunked_after first steps).member m).tracked.base_members)
  as_it_is : (m : Message) → Contains (chunked_after first steps).sent (AsItIs m) → Contains sent m
  chunk : (f t i offset : ℕ) (last : Bool) (bytes : List ℕ) → Contains (chunked_after first steps).sent (Chunk f t i offset last bytes)
      → IsPiece (text f i) offset last bytes × (i ≤ ((chunked_after first steps).member f).tracked.base)
      × Contains sent (Snapshot f t i (reader.term_of (text f i)) (reader.members_of (text f i))) × HadSnapshot first steps f i (text f i)
  received : (m : ℕ) (r : Received) → ((chunked_after first steps).member m).received ≡ Some r
      → (f : ℕ) × (i : ℕ) × (offset : ℕ) × (last : Bool) × (bytes : List ℕ) × Contains (chunked_after first steps).sent (Chunk f r.term i offset last bytes) × (i ≡ r.index) × IsFront (text f i) r.bytes

record SameStep (p : TrackedStep) (s : ChunkedStep) : Type 0 where
  actor : p.actor ≡ s.actor
  leads : p.leads ≡ s.leads
  after : p.after ≡ s.after.tracked
  cut : p.cut ≡ s.cut

-- At each moment of the execution each member is the one of an execution of tracked members, whose steps are the same.
abbrev SeenThrough : List ℕ → List ChunkedStep → List TrackedStep → Type 0
SeenThrough first [] tracked = tracked ≡ []
SeenThrough first (s ∷ steps) tracked = (p : TrackedStep) × (ps : List TrackedStep) × (tracked ≡ p ∷ ps) × SameStep p s
    × ((m : ℕ) → (tracked_after first tracked).member m ≡ ((chunked_after first (s ∷ steps)).member m).tracked) × SeenThrough first steps ps

-- The execution with whole snapshots, beside the one with chunks.
record Beside (reader : SnapshotReader) (first : List ℕ) (steps : List ChunkedStep) : Type 0 where
  tracked : List TrackedStep
  meets : MeetsTrackedFacts first tracked
  same : (m : ℕ) → (tracked_after first tracked).member m ≡ ((chunked_after first steps).member m).tracked
  text : ℕ → ℕ → List ℕ
  shown : Shown reader first steps text (tracked_after first tracked).sent
  through : SeenThrough first steps tracked

module _ (reader : SnapshotReader) (first : List ℕ) (before : List ChunkedStep) (b : Beside reader first before) (s : ChunkedStep) (facts : ChunkedFacts reader (chunked_after first before) s) where
  -- What a step joins is a front of the text of the chunk's sender, and the whole of it with the last chunk.
  joined_front : (t i : ℕ) (last : Bool) (joined : List ℕ) (j : Joins (chunked_after first before) s t i last joined) → IsFront (b.text j.sender i) joined × (last ≡ true → joined ≡ b.text j.sender i)
  joined_front t i last joined j =
      let came = b.shown.chunk j.sender t i (length j.front) last j.bytes (facts.delivered (Chunk j.sender t i (length j.front) last j.bytes) j.got) in
      let text = b.text j.sender i in
      let front : IsFront text j.front = ⊎_elim
      (λ (e : j.front ≡ []). record { rest = text; text_is = ap (λ l. l ++ text) (sym e) })
      (λ was.
      let (f, i', offset, last', bytes, sent, index, is_front) = b.shown.received s.actor (record { term = t; index = i; bytes = j.front }) was in
      let theirs = b.shown.chunk f t i' offset last' bytes sent in
      let one : f ≡ j.sender = tracked_senders first b.tracked b.meets f j.sender t i' i (reader.term_of (b.text f i')) (reader.term_of text) (reader.members_of (b.text f i')) (reader.members_of text) theirs.2 came.2 in
      subst (λ n. IsFront (b.text n i) j.front) one (subst (λ n. IsFront (b.text f n) j.front) index is_front))
      j.was in
      let both = joins_front text j.front j.bytes last front came.0 in (
        subst (IsFront text) (sym j.joined_is) both.0,
        λ e. j.joined_is ∙ both.1 e,
      )

  -- how the chunk that came is read
  record Reading : Type 0 where
    index_term : ℕ
    members : List ℕ
    delivered : (m : Message) → seen_got index_term members s.got ≡ Some m → Contains (tracked_after first b.tracked).sent m
    joins : (t i : ℕ) (joined : List ℕ) → Joins (chunked_after first before) s t i true joined → (index_term ≡ reader.term_of joined) × (members ≡ reader.members_of joined)

  -- An index term and members by which the chunk that came can be read: those of the sender's text.
  reading : (o : Option Wire) → s.got ≡ o → Reading
  reading None e = record {
    index_term = 0;
    members = [];
    delivered = λ m came. absurd (let h : seen_got 0 [] None ≡ Some m = subst (λ o. seen_got 0 [] o ≡ Some m) e came in cc);
    joins = λ t i joined j. absurd (let h = j.got in cc);
  }
  reading (Some (AsItIs x)) e = record {
    index_term = 0;
    members = [];
    delivered = λ m came. subst (Contains (tracked_after first b.tracked).sent) (same_Some x m (subst (λ o. seen_got 0 [] o ≡ Some m) e came)) (b.shown.as_it_is x (facts.delivered (AsItIs x) e));
    joins = λ t i joined j. absurd (let h = j.got in cc);
  }
  reading (Some (Chunk f t i offset last bytes)) e =
      let it = reader.term_of (b.text f i) in
      let ms = reader.members_of (b.text f i) in
      record {
        index_term = it;
        members = ms;
        delivered = λ m came. subst (Contains (tracked_after first b.tracked).sent) (same_Some (Snapshot f t i it ms) m (subst (λ o. seen_got it ms o ≡ Some m) e came)) (b.shown.chunk f t i offset last bytes (facts.delivered (Chunk f t i offset last bytes) e)).2;
        joins = λ t' i' joined j.
            let got : Some (Chunk f t i offset last bytes) ≡ Some (Chunk j.sender t' i' (length j.front) true j.bytes) = sym e ∙ j.got in
            let ef : f ≡ j.sender = cc in
            let ei : i ≡ i' = cc in
            let whole : joined ≡ b.text f i = (joined_front t' i' true joined j).1 refl ∙ sym (ap₂ b.text ef ei) in
            (ap reader.term_of (sym whole), ap reader.members_of (sym whole));
      }

  abbrev read : Reading
  read = reading s.got refl

  abbrev seen : TrackedStep
  seen = seen_step read.index_term read.members s

  -- Read so, the step meets the facts of tracked members.
  seen_meets : TrackedFacts (tracked_after first b.tracked) seen
  seen_meets = facts.tracked (tracked_after first b.tracked) b.same read.index_term read.members read.delivered read.joins

  abbrev after : List ChunkedStep
  after = s ∷ before

  -- each claim on each member: on the actor, cut off or not, and on everybody else
  each : (P : ℕ → ChunkedMember → Type 0) → (s.cut ≡ true → P s.actor (chunked_restart s.after)) → (s.cut ≡ false → P s.actor s.after)
      → ((m : ℕ) → m ≢ s.actor → P m ((chunked_after first before).member m)) → (m : ℕ) → P m ((chunked_after first after).member m)
  each P cut whole other m = ⊎_elim
      (λ (e : m ≡ s.actor). ⊎_elim
      (λ (c : s.cut ≡ true). subst (P m) (sym (put_same (chunked_after first before).member s.actor (if s.cut then chunked_restart s.after else s.after) m e ∙ rw c refl)) (subst (λ k. P k (chunked_restart s.after)) (sym e) (cut c)))
      (λ (c : s.cut ≡ false). subst (P m) (sym (put_same (chunked_after first before).member s.actor (if s.cut then chunked_restart s.after else s.after) m e ∙ rw c refl)) (subst (λ k. P k s.after) (sym e) (whole c)))
      (cases_Bool s.cut))
      (λ ne. subst (P m) (sym (put_other (chunked_after first before).member s.actor (if s.cut then chunked_restart s.after else s.after) m ne)) (other m ne))
      (cases_eq m s.actor)

  next_same : (m : ℕ) → (tracked_after first (seen ∷ b.tracked)).member m ≡ ((chunked_after first after).member m).tracked
  next_same m = ⊎_elim
      (λ (e : m ≡ s.actor). put_same (tracked_after first b.tracked).member s.actor (if s.cut then restarted s.after.tracked else s.after.tracked) m e
      ∙ ⊎_elim (λ (c : s.cut ≡ true). rw c refl) (λ (c : s.cut ≡ false). rw c refl) (cases_Bool s.cut)
      ∙ sym (ap (λ (x : ChunkedMember). x.tracked) (put_same (chunked_after first before).member s.actor (if s.cut then chunked_restart s.after else s.after) m e)))
      (λ ne. put_other (tracked_after first b.tracked).member s.actor (if s.cut then restarted s.after.tracked else s.after.tracked) m ne ∙ b.same m
      ∙ sym (ap (λ (x : ChunkedMember). x.tracked) (put_other (chunked_after first before).member s.actor (if s.cut then chunked_restart s.after else s.after) m ne)))
      (cases_eq m s.actor)

  abbrev next_text : ℕ → ℕ → List ℕ
  next_text = put b.text s.actor (put (b.text s.actor) s.after.tracked.base s.after.snapshot)

  -- the actor's own text
  text_now : (f i : ℕ) → f ≡ s.actor → i ≡ s.after.tracked.base → next_text f i ≡ s.after.snapshot
  text_now f i ef ei = ap (λ g. g i) (put_same b.text s.actor (put (b.text s.actor) s.after.tracked.base s.after.snapshot) f ef) ∙ put_same (b.text s.actor) s.after.tracked.base s.after.snapshot i ei

  -- The text of an index that a member had reached stays.
  text_stays : (f i : ℕ) → i ≤ ((chunked_after first before).member f).tracked.base → next_text f i ≡ b.text f i
  text_stays f i le = ⊎_elim
      (λ (e : f ≡ s.actor). ⊎_elim
      (λ (at : i ≡ s.after.tracked.base). ⊎_elim
      (λ (same : SameSnapshot (chunked_after first before) s). text_now f i e at ∙ same.snapshot ∙ sym (b.shown.now s.actor) ∙ ap₂ b.text (sym e) (sym same.base ∙ sym at))
      (λ (new : NewSnapshot reader (chunked_after first before) s). absurd (let up = new.above in let low = subst (λ n. i ≤ ((chunked_after first before).member n).tracked.base) e le in omega (arith, up, low, at)))
      facts.snapshots)
      (λ ne. ap (λ g. g i) (put_same b.text s.actor (put (b.text s.actor) s.after.tracked.base s.after.snapshot) f e) ∙ put_other (b.text s.actor) s.after.tracked.base s.after.snapshot i ne ∙ ap (λ k. b.text k i) (sym e))
      (cases_eq i s.after.tracked.base))
      (λ ne. ap (λ g. g i) (put_other b.text s.actor (put (b.text s.actor) s.after.tracked.base s.after.snapshot) f ne))
      (cases_eq f s.actor)

  -- bases never fall
  base_grows : (m : ℕ) → ((chunked_after first before).member m).tracked.base ≤ ((chunked_after first after).member m).tracked.base
  base_grows = each (λ m x. ((chunked_after first before).member m).tracked.base ≤ x.tracked.base) (λ c. up) (λ c. up) (λ m ne. le_refl ((chunked_after first before).member m).tracked.base)
    where
      up : ((chunked_after first before).member s.actor).tracked.base ≤ s.after.tracked.base
      up = ⊎_elim (λ (same : SameSnapshot (chunked_after first before) s). le_of_eq (sym same.base)) (λ (new : NewSnapshot reader (chunked_after first before) s). le_of_lt new.above) facts.snapshots

  -- The actor's snapshot spells what stands with its base.
  own_begins : 0 < s.after.tracked.base → (reader.term_of s.after.snapshot ≡ s.after.tracked.base_term) × (reader.members_of s.after.snapshot ≡ s.after.tracked.base_members)
  own_begins pos = ⊎_elim
      (λ (same : SameSnapshot (chunked_after first before) s).
      let old = b.shown.begins s.actor (subst (λ n. 0 < n) same.base pos) in
      (ap reader.term_of same.snapshot ∙ old.0 ∙ sym same.base_term, ap reader.members_of same.snapshot ∙ old.1 ∙ sym same.base_members))
      (λ (new : NewSnapshot reader (chunked_after first before) s). (new.base_term, new.base_members))
      facts.snapshots

  sent_cases : (x : Wire) → Contains (chunked_after first after).sent x → Contains (chunked_after first before).sent x ⊎ ((s.cut ≡ false) × Contains s.sends x)
  sent_cases x sent = ⊎_elim inl
      (λ new. ⊎_elim
      (λ (c : s.cut ≡ true). absurd (let n = subst (λ z. Contains (if z then [] else s.sends) x) c new in omega (arith, n.1)))
      (λ (c : s.cut ≡ false). inr (c, subst (λ z. Contains (if z then [] else s.sends) x) c new))
      (cases_Bool s.cut))
      (Contains-append_cases (chunked_after first before).sent (if s.cut then [] else s.sends) x sent)

  still_sent : (x : Wire) → Contains (chunked_after first before).sent x → Contains (chunked_after first after).sent x
  still_sent x has = Contains-append_left (chunked_after first before).sent (if s.cut then [] else s.sends) x has

  abbrev sends_seen : List Message
  sends_seen = map (seen_sent s.after.tracked) s.sends

  seen_stays : (m : Message) → Contains (tracked_after first b.tracked).sent m → Contains (tracked_after first (seen ∷ b.tracked)).sent m
  seen_stays m has = Contains-append_left (tracked_after first b.tracked).sent (if s.cut then [] else sends_seen) m has

  seen_now : (x : Wire) → s.cut ≡ false → Contains s.sends x → Contains (tracked_after first (seen ∷ b.tracked)).sent (seen_sent s.after.tracked x)
  seen_now x uncut has = Contains-append_right (tracked_after first b.tracked).sent (if s.cut then [] else sends_seen) (seen_sent s.after.tracked x)
      (subst (λ z. Contains (if z then [] else sends_seen) (seen_sent s.after.tracked x)) (sym uncut) (contains_map (seen_sent s.after.tracked) s.sends x has))

  -- What was sent of a snapshot is a piece of the sender's text, and stands for the whole of it.
  next_chunk : (f t i offset : ℕ) (last : Bool) (bytes : List ℕ) → Contains (chunked_after first after).sent (Chunk f t i offset last bytes)
      → IsPiece (next_text f i) offset last bytes × (i ≤ ((chunked_after first after).member f).tracked.base)
      × Contains (tracked_after first (seen ∷ b.tracked)).sent (Snapshot f t i (reader.term_of (next_text f i)) (reader.members_of (next_text f i))) × HadSnapshot first after f i (next_text f i)
  next_chunk f t i offset last bytes sent = ⊎_elim old new (sent_cases (Chunk f t i offset last bytes) sent)
    where
      old : Contains (chunked_after first before).sent (Chunk f t i offset last bytes)
          → IsPiece (next_text f i) offset last bytes × (i ≤ ((chunked_after first after).member f).tracked.base)
          × Contains (tracked_after first (seen ∷ b.tracked)).sent (Snapshot f t i (reader.term_of (next_text f i)) (reader.members_of (next_text f i))) × HadSnapshot first after f i (next_text f i)
      old has =
          let h = b.shown.chunk f t i offset last bytes has in
          let same = sym (text_stays f i h.1) in (
            subst (λ l. IsPiece l offset last bytes) same h.0,
            le_trans h.1 (base_grows f),
            subst (λ l. Contains (tracked_after first (seen ∷ b.tracked)).sent (Snapshot f t i (reader.term_of l) (reader.members_of l))) same (seen_stays (Snapshot f t i (reader.term_of (b.text f i)) (reader.members_of (b.text f i))) h.2),
            subst (HadSnapshot first after f i) same (inr h.3),
          )

      new : (s.cut ≡ false) × Contains s.sends (Chunk f t i offset last bytes)
          → IsPiece (next_text f i) offset last bytes × (i ≤ ((chunked_after first after).member f).tracked.base)
          × Contains (tracked_after first (seen ∷ b.tracked)).sent (Snapshot f t i (reader.term_of (next_text f i)) (reader.members_of (next_text f i))) × HadSnapshot first after f i (next_text f i)
      new (uncut, has) =
          let c = facts.chunks f t i offset last bytes has in
          let text : next_text f i ≡ s.after.snapshot = text_now f i c.sender_is c.index_is in
          let begins = own_begins c.above in
          let base : ((chunked_after first after).member s.actor).tracked.base ≡ s.after.tracked.base =
          ap (λ (x : ChunkedMember). x.tracked.base) (put_same (chunked_after first before).member s.actor (if s.cut then chunked_restart s.after else s.after) s.actor refl) ∙ rw uncut refl in (
            subst (λ l. IsPiece l offset last bytes) (sym text) c.piece,
            subst (λ n. i ≤ ((chunked_after first after).member n).tracked.base) (sym c.sender_is) (le_of_eq (c.index_is ∙ sym base)),
            subst (λ n. Contains (tracked_after first (seen ∷ b.tracked)).sent (Snapshot f t i n (reader.members_of (next_text f i)))) (sym begins.0 ∙ ap reader.term_of (sym text))
                (subst (λ l. Contains (tracked_after first (seen ∷ b.tracked)).sent (Snapshot f t i s.after.tracked.base_term l)) (sym begins.1 ∙ ap reader.members_of (sym text)) (seen_now (Chunk f t i offset last bytes) uncut has)),
            inl (sym c.sender_is, sym c.index_is, sym text),
          )

  abbrev FrontReceived : Received → Type 0
  FrontReceived r = (f : ℕ) × (i : ℕ) × (offset : ℕ) × (last : Bool) × (bytes : List ℕ) × Contains (chunked_after first after).sent (Chunk f r.term i offset last bytes) × (i ≡ r.index) × IsFront (next_text f i) r.bytes

  -- What was received is a front of the text of one that sent it.
  front_stays : (m : ℕ) (r : Received) → ((chunked_after first before).member m).received ≡ Some r → FrontReceived r
  front_stays m r is =
      let (f, i, offset, last, bytes, sent, index, front) = b.shown.received m r is in
      let h = b.shown.chunk f r.term i offset last bytes sent in
      (f, i, offset, last, bytes, still_sent (Chunk f r.term i offset last bytes) sent, index, subst (λ l. IsFront l r.bytes) (sym (text_stays f i h.1)) front)

  front_now : (r : Received) (last : Bool) → Joins (chunked_after first before) s r.term r.index last r.bytes → FrontReceived r
  front_now r last j =
      let came = facts.delivered (Chunk j.sender r.term r.index (length j.front) last j.bytes) j.got in
      let h = b.shown.chunk j.sender r.term r.index (length j.front) last j.bytes came in (
        j.sender,
        r.index,
        length j.front,
        last,
        j.bytes,
        still_sent (Chunk j.sender r.term r.index (length j.front) last j.bytes) came,
        refl,
        subst (λ l. IsFront l r.bytes) (sym (text_stays j.sender r.index h.1)) (joined_front r.term r.index last r.bytes j).0,
      )

  next_shown : Shown reader first after next_text (tracked_after first (seen ∷ b.tracked)).sent
  next_shown = record {
    now = each (λ m x. next_text m x.tracked.base ≡ x.snapshot) (λ c. text_now s.actor s.after.tracked.base refl refl) (λ c. text_now s.actor s.after.tracked.base refl refl)
        (λ m ne. text_stays m ((chunked_after first before).member m).tracked.base (le_refl ((chunked_after first before).member m).tracked.base) ∙ b.shown.now m);
    begins = each (λ m x. 0 < x.tracked.base → (reader.term_of x.snapshot ≡ x.tracked.base_term) × (reader.members_of x.snapshot ≡ x.tracked.base_members)) (λ c. own_begins) (λ c. own_begins) (λ m ne. b.shown.begins m);
    as_it_is = λ m sent. ⊎_elim (λ old. seen_stays m (b.shown.as_it_is m old)) (λ (new : (s.cut ≡ false) × Contains s.sends (AsItIs m)). seen_now (AsItIs m) new.0 new.1) (sent_cases (AsItIs m) sent);
    chunk = next_chunk;
    received = each (λ m x. (r : Received) → x.received ≡ Some r → FrontReceived r)
        (λ c r is. absurd (cc))
        (λ c r is. ⊎_elim (front_stays s.actor r) (λ j. front_now r j.0 j.1) (facts.received r is))
        (λ m ne r is. front_stays m r is);
  }

  next : Beside reader first after
  next = record {
    tracked = seen ∷ b.tracked;
    meets = (seen_meets, b.meets);
    same = next_same;
    text = next_text;
    shown = next_shown;
    through = (seen, b.tracked, refl, record { actor = refl; leads = refl; after = refl; cut = refl }, next_same, b.through);
  }

-- By induction on the steps.
beside : (reader : SnapshotReader) (first : List ℕ) (steps : List ChunkedStep) → MeetsChunkedFacts reader first steps → Beside reader first steps
beside reader first [] meets = record {
  tracked = [];
  meets = tt;
  same = λ m. refl;
  text = λ f i. [];
  shown = record {
    now = λ m. refl;
    begins = λ m pos. absurd (omega (arith, pos));
    as_it_is = λ m has. absurd (omega (arith, has.1));
    chunk = λ f t i offset last bytes has. absurd (omega (arith, has.1));
    received = λ m r is. absurd (cc);
  };
  through = refl;
}
beside reader first (s ∷ before) meets = next reader first before (beside reader first before meets.1) s meets.0

-- Without what they count, tracked members are the members of an execution that meets the facts.
without_counts : (first : List ℕ) (steps : List ChunkedStep) (tracked : List TrackedStep) → SeenThrough first steps tracked → MembersThrough first steps (untracked_steps tracked)
without_counts first [] tracked through = ap untracked_steps through
without_counts first (s ∷ steps) tracked (p, ps, is, step, same, rest) = (
  untracked_step p,
  untracked_steps ps,
  ap untracked_steps is,
  λ m. sym (ap (λ (w : Cluster). w.member m) (untracked_after first tracked)) ∙ ap untracked (same m),
  without_counts first steps ps rest,
)

pub chunked_executions : (reader : SnapshotReader) (first : List ℕ) (steps : List ChunkedStep) → MeetsChunkedFacts reader first steps
    → (whole_snapshots : List Step) × MeetsFacts first whole_snapshots × MembersThrough first steps whole_snapshots
chunked_executions reader first steps meets =
    let b = beside reader first steps meets in
    (untracked_steps b.tracked, tracked_meets first b.tracked b.meets, without_counts first steps b.tracked b.through)

-- a step without what is counted
untracked_same : (p : TrackedStep) → ((untracked_step p).actor ≡ p.actor) × ((untracked_step p).leads ≡ p.leads)
untracked_same p = ⊎_elim (λ (e : p.cut ≡ true). (rw e refl, rw e refl)) (λ (e : p.cut ≡ false). (rw e refl, rw e refl)) (cases_Bool p.cut)

left_alike : (p : TrackedStep) (s : ChunkedStep) → SameStep p s → (untracked_step p).after ≡ untracked (chunked_left s).tracked
left_alike p s same = ⊎_elim
    (λ (e : s.cut ≡ true). rw (same.cut ∙ e, e) (ap (λ m. untracked (restarted m)) same.after))
    (λ (e : s.cut ≡ false). rw (same.cut ∙ e, e) (ap untracked same.after))
    (cases_Bool s.cut)

led_through : (first : List ℕ) (steps : List ChunkedStep) (tracked : List TrackedStep) → SeenThrough first steps tracked → LedThrough steps (untracked_steps tracked)
led_through first [] tracked through = ap untracked_steps through
led_through first (s ∷ steps) tracked (p, ps, is, step, same, rest) = (
  untracked_step p,
  untracked_steps ps,
  ap untracked_steps is,
  (untracked_same p).0 ∙ step.actor,
  (untracked_same p).1 ∙ step.leads,
  left_alike p s step,
  led_through first steps ps rest,
)

-- The same execution, with who leads in its steps.
pub led_executions : (reader : SnapshotReader) (first : List ℕ) (steps : List ChunkedStep) → MeetsChunkedFacts reader first steps
    → (whole_snapshots : List Step) × MeetsFacts first whole_snapshots × MembersThrough first steps whole_snapshots × LedThrough steps whole_snapshots
led_executions reader first steps meets =
    let b = beside reader first steps meets in
    (untracked_steps b.tracked, tracked_meets first b.tracked b.meets, without_counts first steps b.tracked b.through, led_through first steps b.tracked b.through)

-- What is joined is a snapshot that the sender had.
pub chunks_join : (reader : SnapshotReader) (first : List ℕ) (s : ChunkedStep) (steps : List ChunkedStep) → MeetsChunkedFacts reader first (s ∷ steps)
    → (t i : ℕ) (joined : List ℕ) (j : Joins (chunked_after first steps) s t i true joined) → HadSnapshot first steps j.sender i joined
chunks_join reader first s steps meets t i joined j =
    let b = beside reader first steps meets.1 in
    let came = b.shown.chunk j.sender t i (length j.front) true j.bytes (meets.0.delivered (Chunk j.sender t i (length j.front) true j.bytes) j.got) in
    subst (HadSnapshot first steps j.sender i) (sym ((joined_front reader first steps b s meets.0 t i true joined j).1 refl)) came.3
