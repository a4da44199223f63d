-- By induction: what is installed is a snapshot that the chunk's sender had.
use Rattle.std.proofs.Common.{◌≡◌, ℕ, ◌<◌, inl, inr, ⊎_elim, true, List, [], ◌∷◌, refl, ap, sym, ◌∙◌, subst, arith, Option, Some, None, option_map}
use Rattle.std.proofs.lemmas.Bool.{cases_eq}
use Rattle.cp_agreement.proofs.Ghost.{put_same, put_other}
use Rattle.cp_safety.specs.Chunks.{ChunkedMember, ChunkedCluster, Chunk, Joins, HadSnapshot, chunked_after}
use Rattle.cp_safety.proofs.Chunks.{chunks_join}
use Rattle.cp_parts.specs.declared.config.Config.{Config}
use Rattle.cp_log_rules.specs.Persistent.{PersistentState}
use Rattle.cp_rules.specs.Persistent.{after_part}
use Rattle.cp_rules.specs.Spelling.{snapshot_bytes}
use Rattle.cp_rules.specs.Volatile.{VolatileState}
use Rattle.cp_rules.specs.Local.{Event}
use Rattle.cp_rules.specs.Snapshots.{own_head}
use Rattle.cp_rules_facts.specs.Seen.{seen_received, came_by, step_of, reader}
use Rattle.cp_rules_facts.specs.Soundness.{IsSound}
use Rattle.cp_rules_facts.specs.Executions.{Local, LocalCluster, Act, stored_after, left_by, local_after, IsExecution, seen_act, seen_acts}
use Rattle.cp_rules_facts.proofs.Executions.{local_executions}
use Rattle.cp_rules_facts.proofs.Laws.{front_of}
use Rattle.cp_rules_laws.specs.Writes.{After, after, SameBase, KeepsLog, FollowsEntries, MakesEntry, TakesOwn, Installs}
use Rattle.cp_rules_laws.specs.Moments.{IsLocalMoment}
use Rattle.cp_rules_laws.specs.Snapshots.{Property, AreHanded, SnapshotsHave, WasTaken, SnapshotsWereTaken}
use Rattle.cp_rules_laws.proofs.Steps.{steps_write}

-- ---- the induction

abbrev Has : Property → PersistentState → Type 0
Has P p = 0 < p.base → P p.base p.snapshot

record Have (P : Property) (first : Config) (acts : List Act) : Type 0 where
  now : (m : ℕ) → Has P ((local_after first acts).member m).stored
  was : (f i : ℕ) (text : List ℕ) → 0 < i → HadSnapshot first.members (seen_acts first acts) f i text → P i text

module _ (P : Property) (first : Config) (a : Act) (before : List Act) (is : IsExecution first (a ∷ before)) (own : AreHanded P first (a ∷ before)) (old : Have P first before) where
  abbrev w : LocalCluster
  w = local_after first before

  abbrev p : PersistentState
  p = (w.member a.actor).stored

  abbrev v : VolatileState
  v = (w.member a.actor).state

  abbrev seen : ChunkedCluster
  seen = chunked_after first.members (seen_acts first before)

  sound : IsSound a.actor p v
  sound = (local_executions first before is.1).sound a.actor is.0.named

  -- what is installed was there
  installed : (e : Event) (x : After) → a.event ≡ Some e → Installs p v e x → Has P x.stored
  installed e x event_is t above =
      let f = front_of v t.term t.index t.offset t.chunk t.all t.joins in
      let j : Joins seen (seen_act w a) t.term t.index true t.all = record {
        sender = t.from;
        front = f.front;
        bytes = t.chunk;
        got = ap (came_by a.actor) (event_is ∙ ap (λ (y : Event). Some y) t.event_is) ∙ ap (λ n. Some (Chunk t.from t.term t.index n true t.chunk)) (sym f.offset_is);
        was = ⊎_elim (λ z. inl z) (λ z. inr (ap (λ (m : ChunkedMember). m.received) ((local_executions first before is.1).same a.actor) ∙ ap (option_map seen_received) z)) f.was;
        joined_is = f.all_is;
      } in
      let had = chunks_join reader first.members (seen_act w a) (seen_acts first before) (local_executions first (a ∷ before) is).meets t.term t.index t.all j in
      let up = t.above in
      subst (λ (z : PersistentState). P z.base z.snapshot) (sym t.stored) (old.was j.sender t.index t.all (omega (arith, up)) had)

  own_has : (e : Event) (x : After) → a.event ≡ Some e → TakesOwn p v e x → Has P x.stored
  own_has e x event_is t above = subst (λ (y : PersistentState). P y.base y.snapshot) (sym t.stored) (own.0 v.commit (snapshot_bytes (own_head p v.commit) t.machine) (record {
    clock = t.clock;
    may_write = t.may_write;
    expiry = t.expiry;
    machine = t.machine;
    event_is = event_is ∙ ap (λ (y : Event). Some y) t.event_is;
    index_is = refl;
    text_is = refl;
  }))

  same_has : (q : PersistentState) → SameBase p q → Has P q
  same_has q x above = subst (λ (i : ℕ). P i q.snapshot) (sym x.base) (subst (λ (l : List ℕ). P p.base l) (sym x.snapshot) (old.now a.actor (subst (λ (i : ℕ). 0 < i) x.base above)))

  stepped : (event : Option Event) → a.event ≡ event → Has P (after_part (step_of a.actor p v event).part p)
  stepped None event_is = old.now a.actor
  stepped (Some e) event_is =
      let x = after p (step_of a.actor p v (Some e)) in
      ⊎_elim
      (λ (t : KeepsLog p x). same_has x.stored t.base)
      (λ z. ⊎_elim
      (λ (t : FollowsEntries p v e x). same_has x.stored t.base)
      (λ z. ⊎_elim
      (λ (t : MakesEntry p e x). same_has x.stored t.base)
      (λ z. ⊎_elim
      (λ (t : TakesOwn p v e x). own_has e x event_is t)
      (λ (t : Installs p v e x). installed e x event_is t)
      z)
      z)
      z)
      (steps_write a.actor p v e sound (is.0.fair e event_is)).log

  next : Have P first (a ∷ before)
  next = record {
    now = λ m. ⊎_elim
        (λ (e : m ≡ a.actor). subst (λ (l : Local). Has P l.stored) (sym (put_same w.member a.actor (left_by w a) m e)) (stepped a.event refl))
        (λ (ne : m ≡ a.actor → ⊥). subst (λ (l : Local). Has P l.stored) (sym (put_other w.member a.actor (left_by w a) m ne)) (old.now m))
        (cases_eq m a.actor);
    was = λ f i text positive h. ⊎_elim
        (λ (x : (a.actor ≡ f) × ((stored_after w a).base ≡ i) × ((stored_after w a).snapshot ≡ text)).
        subst (λ (n : ℕ). P n text) x.1 (subst (λ (l : List ℕ). P (stored_after w a).base l) x.2 (stepped a.event refl (subst (λ (n : ℕ). 0 < n) (sym x.1) positive))))
        (λ (x : HadSnapshot first.members (seen_acts first before) f i text). old.was f i text positive x)
        h;
  }

have : (P : Property) (first : Config) (acts : List Act) → IsExecution first acts → AreHanded P first acts → Have P first acts
have P first [] is own = record { now = λ m above. absurd (omega (arith, above)); was = λ f i text positive h. absurd h }
have P first (a ∷ before) is own = next P first a before is own (have P first before is.1 own.1)

pub snapshots_have : SnapshotsHave
snapshots_have P first [] is own v moment m = subst (λ (x : LocalCluster). Has P (x.member m).stored) (sym moment) ((have P first [] is own).now m)
snapshots_have P first (a ∷ before) is own v moment m = ⊎_elim
    (λ (now : v ≡ local_after first (a ∷ before)). subst (λ (x : LocalCluster). Has P (x.member m).stored) (sym now) ((have P first (a ∷ before) is own).now m))
    (λ (old : IsLocalMoment first before v). snapshots_have P first before is.1 own.1 v old m)
    moment

-- ---- without a property

inside : (first : Config) (all acts : List Act) → ((i : ℕ) (text : List ℕ) → WasTaken first acts i text → WasTaken first all i text) → AreHanded (WasTaken first all) first acts
inside first all [] within = tt
inside first all (a ∷ before) within = (λ index text takes. within index text (inl takes), inside first all before (λ i text h. within i text (inr h)))

pub snapshots_were_taken : SnapshotsWereTaken
snapshots_were_taken first acts is m above = (have (WasTaken first acts) first acts is (inside first acts acts (λ i text h. h))).now m above
