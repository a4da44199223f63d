-- Local steps meet the facts with chunks, and leave sound members.
use Rattle.std.proofs.Common.{◌==◌, ◌&&◌, ◌≡◌, ℕ, zero, suc, ◌<◌, ◌⊎◌, inl, inr, ⊎_elim, Bool, true, false, List, [], ◌∷◌, ◌++◌, length, map, refl, ap, ap₂, sym, ◌∙◌, arith, subst, Option, Some, None, unwrap_or, option_map, Contains, All, le_refl}
use Rattle.std.proofs.lemmas.Bool.{cases_Bool, eqb-true, and_parts}
use Rattle.std.proofs.lemmas.Option.{same_Some}
use Rattle.std.proofs.lemmas.List.Elements.{All-nil, All-cons, All-head, All-tail, All-contains}
use Rattle.cp_agreement_facts.specs.Clusters.{Message}
use Rattle.cp_safety.specs.Tracking.{TrackedCluster, TrackedFacts, SendsTruly}
use Rattle.cp_safety.specs.Chunks as chunks
use Rattle.cp_safety.specs.Chunks.{ChunkedMember, ChunkedCluster, ChunkedStep, ChunkedFacts, Wire, AsItIs, Chunk, seen_got, seen_sent, seen_step, Joins, SendsChunk, SameSnapshot, NewSnapshot}
use Rattle.cp_safety.proofs.Lists.{contains_unmap}
use Rattle.cp_log_rules.specs.Persistent.{PersistentState}
use Rattle.cp_rules.specs.Persistent.{after_part}
use Rattle.cp_rules.specs.Volatile.{Received, VolatileState, started}
use Rattle.cp_rules.specs.Local.{Body, PreVote, PreVoteReply, Vote, VoteReply, Append, AppendReply, Snapshot, SnapshotReply, Confirm, Confirmed, Sent, Event, LocalStep}
use Rattle.cp_rules.specs.Snapshots.{joined, received_of}
use Rattle.cp_rules_facts.specs.Seen.{tracked_member, chunked_member, seen_received, wire, sent_wire, step_of, came_by, came_with, chunked_step, head_term, head_members, reader}
use Rattle.cp_rules_facts.specs.Soundness.{IsSound, IsFair}
use Rattle.cp_rules_facts.specs.Laws.{StepsMeetFacts, StaysSound}
use Rattle.cp_rules_facts.proofs.Turns.{Turn, here, core, IsOwnChunk, Truth, KeepsSnapshot, RaisesSnapshot, GoesOn, Receives, Good}
use Rattle.cp_rules_facts.proofs.Quiet.{silent}
use Rattle.cp_rules_facts.proofs.Moved.{moved}
use Rattle.cp_rules_facts.proofs.Steps.{step_good}

-- a step, or nothing where a crash comes between two
any_good : (t : Turn) (event : Option Event) → t.came ≡ came_by t.me event → ((e : Event) → event ≡ Some e → IsFair t.p t.v e) → Good t (step_of t.me t.p t.v event)
any_good t None is fair = silent t
any_good t (Some e) is fair = step_good t e is (fair e refl)

-- ---- chunks as they are joined

-- what is joined begins with what was received, or anew
pub record Front (v : VolatileState) (term index offset : ℕ) (bytes all : List ℕ) : Type 0 where
  pub front : List ℕ
  pub offset_is : length front ≡ offset
  pub was : (front ≡ []) ⊎ (v.received ≡ Some (record { term = term; index = index; bytes = front }))
  pub all_is : all ≡ front ++ bytes

pub front_of : (v : VolatileState) (term index offset : ℕ) (bytes all : List ℕ) → joined (received_of term index v.received) offset bytes ≡ Some all → Front v term index offset bytes all
front_of v term index zero bytes all h = record { front = []; offset_is = refl; was = inl refl; all_is = sym (same_Some bytes all h) }
front_of v term index (suc offset) bytes all h = of_received v.received refl h
  where
    of_bytes : (x : Received) → v.received ≡ Some x → (x.term == term) && (x.index == index) ≡ true → joined (Some x.bytes) (suc offset) bytes ≡ Some all → Front v term index (suc offset) bytes all
    of_bytes x is same h = ⊎_elim
        (λ (e : (length x.bytes == suc offset) ≡ true).
        let a = and_parts (x.term == term) (x.index == index) same in
        record {
          front = x.bytes;
          offset_is = eqb-true (length x.bytes) (suc offset) e;
          was = inr (is ∙ ap₂ (λ u i. let y : Received = record { term = u; index = i; bytes = x.bytes } in Some y) (eqb-true x.term term a.0) (eqb-true x.index index a.1));
          all_is = sym (same_Some (x.bytes ++ bytes) all (rw e at h));
        })
        (λ (e : (length x.bytes == suc offset) ≡ false). absurd (let z : None ≡ Some all = rw e at h in cc))
        (cases_Bool (length x.bytes == suc offset))

    of_received : (o : Option Received) → v.received ≡ o → joined (received_of term index o) (suc offset) bytes ≡ Some all → Front v term index (suc offset) bytes all
    of_received None is h = absurd (cc)
    of_received (Some x) is h = ⊎_elim
        (λ (e : ((x.term == term) && (x.index == index)) ≡ true). of_bytes x is e (rw e at h))
        (λ (e : ((x.term == term) && (x.index == index)) ≡ false). absurd (let z : None ≡ Some all = rw e at h in cc))
        (cases_Bool ((x.term == term) && (x.index == index)))

-- ---- a turn that is there for each step

abbrev pub all_with : VolatileState → Option Wire → Option (List ℕ)
all_with v None = None
all_with v (Some (AsItIs m)) = None
all_with v (Some (Chunk f t i offset last bytes)) = joined (received_of t i v.received) offset bytes

abbrev pub alone_sent : Option Message → List Message
alone_sent None = []
alone_sent (Some m) = m ∷ []

pub alone_delivered : (o : Option Message) (m : Message) → o ≡ Some m → Contains (alone_sent o) m
alone_delivered None m h = absurd (cc)
alone_delivered (Some x) m h = (0, omega arith, same_Some x m h)

abbrev pub own_turn : (me : ℕ) (p : PersistentState) (v : VolatileState) (came : Option Wire) → IsSound me p v → Turn
own_turn me p v came sound =
    let all = unwrap_or (all_with v came) [] in
    record {
      sent = alone_sent (seen_got (reader.term_of all) (reader.members_of all) came);
      me = me;
      p = p;
      v = v;
      came = came;
      index_term = reader.term_of all;
      members = reader.members_of all;
      sound = sound;
      delivered = alone_delivered (seen_got (reader.term_of all) (reader.members_of all) came);
      whole = λ f t i offset bytes joined_ e j. let same : all ≡ joined_ = ap (λ o. unwrap_or o []) (ap (all_with v) e ∙ j) in (ap reader.term_of same, ap reader.members_of same);
    }

-- ---- sound members

start_sound : (me clock : ℕ) (p : PersistentState) (v : VolatileState) → IsSound me p v → IsSound me p (started p.base clock)
start_sound me clock p v s = record {
  named = s.named;
  above_base = le_refl p.base;
  within = omega arith;
  no_base = s.no_base;
  voted = λ h. absurd (cc);
  campaigns = λ h. absurd (cc);
  leads = λ h. absurd (cc);
  peers = λ h. absurd (cc);
}

pub stays_sound : StaysSound
stays_sound = record {
  step = λ me p v event sound fair. (step_good (own_turn me p v (came_with me event) sound) event refl fair).sound;
  start = start_sound;
}

-- ---- the messages of a step

all_seen : (t : Turn) (leads : Bool) (p : PersistentState) (v : VolatileState) (sends : List Sent) → All (Truth t leads p v) sends → All (SendsTruly (here t) (core t leads p v)) (map (seen_sent (tracked_member p v)) (map (sent_wire t.me) sends))
all_seen t leads p v [] all = All-nil (SendsTruly (here t) (core t leads p v))
all_seen t leads p v (x ∷ sends) all =
    let head = All-head (Truth t leads p v) x sends all in
    All-cons (SendsTruly (here t) (core t leads p v)) (seen_sent (tracked_member p v) (sent_wire t.me x)) (map (seen_sent (tracked_member p v)) (map (sent_wire t.me) sends))
    head.0
    (all_seen t leads p v sends (All-tail (Truth t leads p v) x sends all))

-- a chunk that is sent is a piece of the snapshot
abbrev IsSentChunk : ChunkedStep → Wire → Type 0
IsSentChunk s (AsItIs m) = Unit {0}
IsSentChunk s (Chunk f t i offset last bytes) = SendsChunk s f t i offset last bytes

sent_chunk : (s : ChunkedStep) (me to : ℕ) (p : PersistentState) (v : VolatileState) (body : Body) → s.actor ≡ me → s.after ≡ chunked_member p v → IsOwnChunk p body → IsSentChunk s (wire me to body)
sent_chunk s me to p v (PreVote term candidate) actor after own = tt
sent_chunk s me to p v (PreVoteReply term granted) actor after own = tt
sent_chunk s me to p v (Vote term candidate) actor after own = tt
sent_chunk s me to p v (VoteReply term true) actor after own = tt
sent_chunk s me to p v (VoteReply term false) actor after own = tt
sent_chunk s me to p v (Append term previous previous_term commit entries) actor after own = tt
sent_chunk s me to p v (AppendReply term true index) actor after own = tt
sent_chunk s me to p v (AppendReply term false index) actor after own = tt
sent_chunk s me to p v (Snapshot term index offset is_last bytes) actor after own = record {
  sender_is = sym actor;
  index_is = own.0 ∙ ap (λ (m : ChunkedMember). m.tracked.base) (sym after);
  above = subst (λ (m : ChunkedMember). 0 < m.tracked.base) (sym after) own.1;
  piece = subst (λ (m : ChunkedMember). chunks.IsPiece m.snapshot offset is_last bytes) (sym after) own.2;
}
sent_chunk s me to p v (SnapshotReply term index true received) actor after own = tt
sent_chunk s me to p v (SnapshotReply term index false received) actor after own = tt
sent_chunk s me to p v (Confirm term round) actor after own = tt
sent_chunk s me to p v (Confirmed term taken round) actor after own = tt

-- ---- the facts with chunks

module _ (w : ChunkedCluster) (me : ℕ) (p : PersistentState) (v : VolatileState) (event : Option Event) (cut : Bool) (is : w.member me ≡ chunked_member p v) (sound : IsSound me p v) (fair : (e : Event) → event ≡ Some e → IsFair p v e) where
  abbrev did : LocalStep
  did = step_of me p v event

  abbrev taken : ChunkedStep
  taken = chunked_step me cut p v event

  abbrev stored : PersistentState
  stored = after_part did.part p

  good : Good (own_turn me p v (came_by me event) sound) did
  good = any_good (own_turn me p v (came_by me event) sound) event refl fair

  -- what was joined, as the facts say it
  joins : (f t i offset : ℕ) (last : Bool) (bytes all : List ℕ) → came_by me event ≡ Some (Chunk f t i offset last bytes) → joined (received_of t i v.received) offset bytes ≡ Some all → Joins w taken t i last all
  joins f t i offset last bytes all e j =
      let x = front_of v t i offset bytes all j in
      record {
        sender = f;
        front = x.front;
        bytes = bytes;
        got = e ∙ ap (λ n. Some (Chunk f t i n last bytes)) (sym x.offset_is);
        was = ⊎_elim (λ z. inl z) (λ z. inr (ap (λ (m : ChunkedMember). m.received) is ∙ ap (option_map seen_received) z)) x.was;
        joined_is = x.all_is;
      }

  snapshots : (KeepsSnapshot p stored ⊎ RaisesSnapshot p stored) → SameSnapshot w taken ⊎ NewSnapshot reader w taken
  snapshots h = ⊎_elim
      (λ (x : KeepsSnapshot p stored). inl (record {
        base = x.0 ∙ sym (ap (λ (m : ChunkedMember). m.tracked.base) is);
        base_term = x.1 ∙ sym (ap (λ (m : ChunkedMember). m.tracked.base_term) is);
        base_members = ap (λ c. c.members) x.2 ∙ sym (ap (λ (m : ChunkedMember). m.tracked.base_members) is);
        snapshot = x.3 ∙ sym (ap (λ (m : ChunkedMember). m.snapshot) is);
      }))
      (λ (x : RaisesSnapshot p stored). inr (record {
        above = subst (λ n. n < stored.base) (sym (ap (λ (m : ChunkedMember). m.tracked.base) is)) x.0;
        base_term = ap head_term x.1.1 ∙ x.1.2;
        base_members = ap head_members x.1.1 ∙ ap (λ c. c.members) x.1.3;
      }))
      h

  chunk_sent : (f t i offset : ℕ) (last : Bool) (bytes : List ℕ) → Contains taken.sends (Chunk f t i offset last bytes) → SendsChunk taken f t i offset last bytes
  chunk_sent f t i offset last bytes has =
      let x = contains_unmap (sent_wire me) did.sends (Chunk f t i offset last bytes) has in
      let turn = own_turn me p v (came_by me event) sound in
      let true_ = All-contains (Truth turn did.leads stored did.state) did.sends x.0 good.says x.1 in
      subst (IsSentChunk taken) x.2 (sent_chunk taken me x.0.to stored did.state x.0.body refl refl true_.1)

  received_by : (r : chunks.Received) → taken.after.received ≡ Some r → Receives v (came_by me event) did.state → ((w.member me).received ≡ Some r) ⊎ ((last : Bool) × Joins w taken r.term r.index last r.bytes)
  received_by r e h = ⊎_elim
      (λ (x : did.state.received ≡ v.received). inl (ap (λ (m : ChunkedMember). m.received) is ∙ ap (option_map seen_received) (sym x) ∙ e))
      (λ z. ⊎_elim
      (λ (x : did.state.received ≡ None). absurd (let y : None ≡ Some r = sym (ap (option_map seen_received) x) ∙ e in cc))
      (λ (g : GoesOn v (came_by me event) did.state.received).
      let made : chunks.Received = record { term = g.term; index = g.index; bytes = g.all } in
      let same : made ≡ r = same_Some made r (sym (ap (option_map seen_received) g.received) ∙ e) in
      inr (g.is_last, subst (λ (y : chunks.Received). Joins w taken y.term y.index g.is_last y.bytes) same (joins g.sender g.term g.index g.offset g.is_last g.bytes g.all g.got g.joins)))
      z)
      h

  tracked_facts : (x : TrackedCluster) → ((m : ℕ) → x.member m ≡ (w.member m).tracked) → (index_term : ℕ) (members : List ℕ)
      → ((m : Message) → seen_got index_term members taken.got ≡ Some m → Contains x.sent m)
      → ((t i : ℕ) (all : List ℕ) → Joins w taken t i true all → (index_term ≡ reader.term_of all) × (members ≡ reader.members_of all))
      → TrackedFacts x (seen_step index_term members taken)
  tracked_facts x same index_term members delivered whole =
      let turn : Turn = record {
        sent = x.sent;
        me = me;
        p = p;
        v = v;
        came = came_by me event;
        index_term = index_term;
        members = members;
        sound = sound;
        delivered = delivered;
        whole = λ f t i offset bytes all e j. whole t i all (joins f t i offset true bytes all e j);
      } in
      let g = any_good turn event refl fair in
      let s = core turn did.leads stored did.state in
      let sends = map (seen_sent (tracked_member stored did.state)) (map (sent_wire me) did.sends) in
      let at : x.member me ≡ tracked_member p v = same me ∙ ap (λ (m : ChunkedMember). m.tracked) is in
      moved x s sends cut
      (subst (λ b. TrackedFacts (record { member = λ m. b; sent = x.sent }) s) (sym at) g.facts)
      (subst (λ b. All (SendsTruly (record { member = λ m. b; sent = x.sent }) s) sends) (sym at) (all_seen turn did.leads stored did.state did.sends g.says))

  facts : ((x : Wire) → came_by me event ≡ Some x → Contains w.sent x) → ChunkedFacts reader w taken
  facts delivered = record {
    delivered = delivered;
    snapshots = snapshots good.snapshot;
    chunks = chunk_sent;
    received = λ r e. received_by r e good.receives;
    tracked = tracked_facts;
  }

pub steps_meet_facts : StepsMeetFacts
steps_meet_facts w me p v event cut is sound fair delivered = facts w me p v event cut is sound fair delivered
