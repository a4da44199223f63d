-- What is made of the chunks of one snapshot, and of chunks of many.
use Rattle.std.proofs.Common.{◌≡◌, ◌==◌, ◌&&◌, ◌+◌, ◌*◌, ◌<◌, ◌≤◌, ℕ, zero, suc, ⊎_elim, Bool, true, false, List, [], ◌∷◌, ◌++◌, length, take, drop, refl, ap, sym, ◌∙◌, arith, Option, Some, None, nat_lt, nat_le, if◌then◌else◌, All}
use Rattle.std.proofs.Math.Seq.{take-add}
use Rattle.std.proofs.lemmas.Bool.{cases_Bool, eq-eqb, eqb-true, le-leb, le-ltb, leb-true, lt-leb}
use Rattle.std.proofs.lemmas.List.{length-drop, length-take, length-take-le, take_all, take-append-drop}
use Rattle.std.proofs.lemmas.List.Elements.{All-head, All-tail}
use Rattle.std.proofs.lemmas.Option.{same_Some}
use Rattle.cp_message.specs.declared.snapshot.Chunk.{Chunk}
use Rattle.cp_rules.specs.Limits.{chunk_bytes, most_snapshot}
use Rattle.cp_rules.specs.Volatile.{Received, peer, with_peer}
use Rattle.cp_rules.specs.Local.{does, reply}
use Rattle.cp_rules.specs.Sending.{chunk, is_last_chunk, chunk_from}
use Rattle.cp_rules.specs.Snapshots.{Progress, Apart, TooLong, More, Whole, received_of, joined, progress_of}
use Rattle.cp_election.proofs.Rules.{of_if}
use Rattle.cp_snapshot.specs.Decisions.{joined_to, progress_at, received_with, received_after}
use Rattle.cp_snapshot.specs.Laws.{piece, after_pieces, ChunksMakeTheSnapshot, IsPiece, after_chunks, WholesAreSnapshots, after_reply, RepliesGoAsDecided}

-- ---- chunks of many snapshots

-- these bytes are a front of others
abbrev IsFront : List ℕ → List ℕ → Type 0
IsFront text bytes = bytes ≡ take (length bytes) text

front : (n : ℕ) (text : List ℕ) → IsFront text (take n text)
front zero text = refl
front (suc n) [] = refl
front (suc n) (x ∷ text) = ap (λ y. x ∷ y) (front n text)

-- what goes on at the end of a front is a front again
further : (text before : List ℕ) (offset : ℕ) → IsFront text before → length before ≡ offset → before ++ chunk text offset ≡ take (offset + chunk_bytes) text
further text before offset is e = let f : before ≡ take offset text = is ∙ ap (λ k. take k text) e in ap (λ y. y ++ chunk text offset) f ∙ sym (take-add offset chunk_bytes text)

-- and all of it where it reaches the end
last_of : (text before : List ℕ) (offset : ℕ) → IsFront text before → length before ≡ offset → is_last_chunk text offset ≡ true → before ++ chunk text offset ≡ text
last_of text before offset is e last =
    let f : before ≡ take offset text = is ∙ ap (λ k. take k text) e in
    let l = leb-true (length (drop offset text)) chunk_bytes last in
    ap (λ y. y ++ chunk text offset) f ∙ ap (λ y. take offset text ++ y) (take_all chunk_bytes (drop offset text) l) ∙ take-append-drop offset text

abbrev Sound : List ℕ → Option (List ℕ) → Type 0
Sound text None = Unit {0}
Sound text (Some bytes) = IsFront text bytes

-- what is joined: a front of the text, and all of it with its last chunk
record Joins (text : List ℕ) (is_last : Bool) (bytes : List ℕ) : Type 0 where
  is_front : IsFront text bytes
  is_all : is_last ≡ true → bytes ≡ text

joins : (text : List ℕ) (before : Option (List ℕ)) (offset : ℕ) (bytes : List ℕ) → Sound text before → joined before offset (chunk text offset) ≡ Some bytes → Joins text (is_last_chunk text offset) bytes
joins text before zero bytes sound h =
    let e : take chunk_bytes text ≡ bytes = same_Some (take chunk_bytes text) bytes h in record {
      is_front = rw (← e) (front chunk_bytes text);
      is_all = λ last. sym e ∙ take_all chunk_bytes text (leb-true (length text) chunk_bytes last);
    }
joins text None (suc offset) bytes sound h = absurd (let z : None ≡ Some bytes = h in cc)
joins text (Some b) (suc offset) bytes sound h = ⊎_elim
    (λ (e : (length b == suc offset) ≡ true).
    let s : b ++ chunk text (suc offset) ≡ bytes = same_Some (b ++ chunk text (suc offset)) bytes (rw e at h) in
    let l : length b ≡ suc offset = eqb-true (length b) (suc offset) e in record {
      is_front = rw (← s, further text b (suc offset) sound l) (front (suc offset + chunk_bytes) text);
      is_all = λ last. sym s ∙ last_of text b (suc offset) sound l last;
    })
    (λ (e : (length b == suc offset) ≡ false). absurd (let z : None ≡ Some bytes = rw e at h in cc))
    (cases_Bool (length b == suc offset))

module _ (snapshots : ℕ → ℕ → List ℕ) where
  -- what is received is a front of the snapshot of its term and index
  abbrev IsSound : Option Received → Type 0
  IsSound None = Unit {0}
  IsSound (Some x) = IsFront (snapshots x.term x.index) x.bytes

  of_pair : (term index : ℕ) (before : Option Received) → IsSound before → Sound (snapshots term index) (received_of term index before)
  of_pair term index None sound = tt
  of_pair term index (Some x) sound = ⊎_elim
      (λ (e : ((x.term == term) && (x.index == index)) ≡ true).
      let both = both_true (x.term == term) (x.index == index) e in
      let t : x.term ≡ term = eqb-true x.term term both.0 in
      let i : x.index ≡ index = eqb-true x.index index both.1 in
      rw e (rw (← t, ← i) sound))
      (λ (e : ((x.term == term) && (x.index == index)) ≡ false). rw e tt)
      (cases_Bool ((x.term == term) && (x.index == index)))
    where
      both_true : (a b : Bool) → (a && b) ≡ true → (a ≡ true) × (b ≡ true)
      both_true true true h = (refl, refl)
      both_true true false h = absurd (cc)
      both_true false b h = absurd (cc)

  -- what a chunk brings
  abbrev Brings : List ℕ → Progress → Type 0
  Brings text (Apart received) = Unit {0}
  Brings text TooLong = Unit {0}
  Brings text (More bytes) = IsFront text bytes
  Brings text (Whole bytes) = bytes ≡ text

  bring : (text : List ℕ) (is_last : Bool) (before found : Option (List ℕ)) → ((bytes : List ℕ) → found ≡ Some bytes → Joins text is_last bytes) → Brings text (progress_of is_last before found)
  bring text is_last before None each = tt
  bring text is_last before (Some bytes) each = by_length (nat_lt most_snapshot (length bytes)) is_last (each bytes refl)
    where
      by_length : (long is_last : Bool) → Joins text is_last bytes → Brings text (if long then TooLong else if is_last then Whole bytes else More bytes)
      by_length true is_last j = tt
      by_length false true j = j.is_all refl
      by_length false false j = j.is_front

  brings : (c : Chunk) (before : Option Received) → IsPiece snapshots c → IsSound before → Brings (snapshots c.term c.index) (progress_at c before)
  brings c before is sound =
      let text = snapshots c.term c.index in
      let pair = received_of c.term c.index before in
      rw (is.bytes, is.last) (bring text (is_last_chunk text c.offset) pair (joined pair c.offset (chunk text c.offset)) (λ bytes h. joins text pair c.offset bytes (of_pair c.term c.index before sound) h))

  keeps : (term index : ℕ) (before : Option Received) (r : Progress) → IsSound before → Brings (snapshots term index) r → IsSound (received_with term index before r)
  keeps term index before (Apart received) sound b = sound
  keeps term index before TooLong sound b = sound
  keeps term index before (More bytes) sound b = b
  keeps term index before (Whole bytes) sound b = sound

  kept : (chunks : List Chunk) (before : Option Received) → All (IsPiece snapshots) chunks → IsSound before → IsSound (after_chunks chunks before)
  kept [] before all sound = sound
  kept (c ∷ chunks) before all sound =
      kept chunks (received_after c before) (All-tail (IsPiece snapshots) c chunks all)
      (keeps c.term c.index before (progress_at c before) sound (brings c before (All-head (IsPiece snapshots) c chunks all) sound))

whole_is : (text : List ℕ) (r : Progress) (bytes : List ℕ) → Brings (λ t i. text) text r → r ≡ Whole bytes → bytes ≡ text
whole_is text (Apart received) bytes b h = absurd (cc)
whole_is text TooLong bytes b h = absurd (cc)
whole_is text (More x) bytes b h = absurd (cc)
whole_is text (Whole x) bytes b h = let e : x ≡ bytes = cc in sym e ∙ b

pub wholes_are_snapshots : WholesAreSnapshots
wholes_are_snapshots snapshots chunks c bytes all is h =
    whole_is (snapshots c.term c.index) (progress_at c (after_chunks chunks None)) bytes (brings snapshots c (after_chunks chunks None) is (kept snapshots chunks None all tt)) h

-- ---- the chunks of one snapshot, in their order

module _ (group term index : ℕ) (snapshot : List ℕ) (before : Option Received) where
  abbrev upto : ℕ → Option Received
  upto n = Some (record { term = term; index = index; bytes = take (n * chunk_bytes) snapshot })

  own : (bytes : List ℕ) → received_of term index (Some (record { term = term; index = index; bytes = bytes })) ≡ Some bytes
  own bytes = rw (eq-eqb term term refl, eq-eqb index index refl) refl

  on : (offset : ℕ) (b bytes : List ℕ) → 0 < offset → length b ≡ offset → joined (Some b) offset bytes ≡ Some (b ++ bytes)
  on zero b bytes low e = absurd (omega (arith, low))
  on (suc offset) b bytes low e = rw (eq-eqb (length b) (suc offset) e) refl

  -- a chunk that is not the last
  more_of : (n : ℕ) → length snapshot ≤ most_snapshot → suc n * chunk_bytes < length snapshot → joined_to (is_last_chunk snapshot (n * chunk_bytes)) (take (suc n * chunk_bytes) snapshot) ≡ More (take (suc n * chunk_bytes) snapshot)
  more_of n short low =
      let l = length-take (suc n * chunk_bytes) snapshot in
      let d = length-drop (n * chunk_bytes) snapshot in
      let fits : nat_lt most_snapshot (length (take (suc n * chunk_bytes) snapshot)) ≡ false = le-ltb most_snapshot (length (take (suc n * chunk_bytes) snapshot)) (omega (arith, l, short)) in
      let goes : is_last_chunk snapshot (n * chunk_bytes) ≡ false = lt-leb (length (drop (n * chunk_bytes) snapshot)) chunk_bytes (omega (arith, d, low)) in
      rw (fits, goes) refl

  -- the last one
  whole_of : (n : ℕ) → length snapshot ≤ most_snapshot → length snapshot ≤ suc n * chunk_bytes → joined_to (is_last_chunk snapshot (n * chunk_bytes)) (take (suc n * chunk_bytes) snapshot) ≡ Whole snapshot
  whole_of n short high =
      let d = length-drop (n * chunk_bytes) snapshot in
      let fits : nat_lt most_snapshot (length snapshot) ≡ false = le-ltb most_snapshot (length snapshot) short in
      let ends : is_last_chunk snapshot (n * chunk_bytes) ≡ true = le-leb (length (drop (n * chunk_bytes) snapshot)) chunk_bytes (omega (arith, d, high)) in
      rw (take_all (suc n * chunk_bytes) snapshot high, fits, ends) refl

  -- the n-th chunk, where those before it are received
  nth : (n : ℕ) → length snapshot ≤ most_snapshot → n * chunk_bytes < length snapshot → progress_at (piece group term index snapshot n) (after_pieces group term index snapshot before n) ≡ joined_to (is_last_chunk snapshot (n * chunk_bytes)) (take (suc n * chunk_bytes) snapshot)
  nth zero short low = refl
  nth (suc n) short low =
      let offset = suc n * chunk_bytes in
      let next : suc (suc n) * chunk_bytes ≡ offset + chunk_bytes = omega arith in
      let is_more : progress_at (piece group term index snapshot n) (after_pieces group term index snapshot before n) ≡ More (take offset snapshot) = nth n short (omega (arith, low)) ∙ more_of n short low in
      let received : after_pieces group term index snapshot before (suc n) ≡ upto (suc n) = ap (received_with term index (after_pieces group term index snapshot before n)) is_more in
      let long : length (take offset snapshot) ≡ offset = length-take-le offset snapshot (omega (arith, low)) in
      let joins_on : joined (received_of term index (upto (suc n))) offset (chunk snapshot offset) ≡ Some (take offset snapshot ++ chunk snapshot offset) = rw (own (take offset snapshot)) (on offset (take offset snapshot) (chunk snapshot offset) (omega arith) long) in
      ap (progress_at (piece group term index snapshot (suc n))) received
      ∙ ap (progress_of (is_last_chunk snapshot offset) (received_of term index (upto (suc n)))) joins_on
      ∙ ap (joined_to (is_last_chunk snapshot offset)) (sym (take-add offset chunk_bytes snapshot) ∙ ap (λ k. take k snapshot) (sym next))

pub chunks_make_the_snapshot : ChunksMakeTheSnapshot
chunks_make_the_snapshot group term index snapshot before n short low high =
    nth group term index snapshot before n short low ∙ whole_of group term index snapshot before n short high

-- ---- the reply to a chunk

pub replies_go_as_decided : RepliesGoAsDecided
replies_go_as_decided p v from index received =
    let next = record (peer v.peers from) { offset = received } in
    of_if (after_reply p v from received) ((index == p.base) && (nat_le received (length p.snapshot) && nat_le (peer v.peers from).next p.base)) (Some next) None
    (does None (with_peer from next v) (reply from (chunk_from p received))) (does None v []) refl refl
