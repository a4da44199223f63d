-- What the words on stored state say: the terms that are known, the end of the log, the configuration.
use Rattle.std.proofs.Common.{◌==◌, ◌≡◌, ◌≢◌, ℕ, suc, ◌+◌, ◌-◌, ◌*◌, ◌<◌, ◌≤◌, inl, inr, ⊎_elim, Bool, true, false, List, [], ◌∷◌, length, refl, ap, sym, ◌∙◌, arith, subst, Option, Some, None, unwrap_or, slice_get, nat_lt, nat_le, le_refl, true≢false, ltb-true, if◌then◌else◌, option_map, count_by}
use Rattle.std.proofs.lemmas.Bool.{cases_Bool, eq-eqb, eqb-true, leb-true, ne_eqb, lt-ltb}
use Rattle.std.proofs.lemmas.Option.{slice_get_within}
use Rattle.cp_parts.specs.declared.log_entry.LogEntry.{LogEntry}
use Rattle.cp_agreement_facts.specs.Entries.{members_in}
use Rattle.cp_agreement_facts.specs.Configurations as lists
use Rattle.cp_agreement_facts.specs.Configurations.{HasQuorum, members_or}
use Rattle.cp_agreement_facts.specs.Facts.{KnowsTerm, LogEndsAt, configuration_of}
use Rattle.cp_agreement_facts.specs.Logs.{IsUpToDate}
use Rattle.cp_agreement.proofs.Logs.{has_place}
use Rattle.cp_safety.specs.Tracking.{untracked}
use Rattle.cp_rules.specs.declared.log_end.LogEnd.{LogEnd}
use Rattle.cp_parts.specs.declared.config.Config.{Config}
use Rattle.cp_parts.specs.Configs.{config_in}
use Rattle.cp_log_rules.specs.Persistent as stored
use Rattle.cp_log_rules.specs.Persistent.{PersistentState, last, entry_at, term_at}
use Rattle.cp_log_rules.specs.Configurations.{config_or, config_after}
use Rattle.cp_rules.proofs.SpellingLaws.{config_members}
use Rattle.cp_rules.specs.Persistent.{is_term, has_term, known_term, log_end, members, is_quorum}
use Rattle.cp_rules.specs.Volatile.{VolatileState}
use Rattle.cp_rules.specs.PreVotes.{is_up_to_date}
use Rattle.cp_rules_facts.specs.Seen.{tracked_member}
use Rattle.cp_rules_facts.proofs.Basics.{either}

-- ---- terms

-- so many entries after the base
pub term_behind : (p : PersistentState) (n : ℕ) → term_at p (suc (p.base + n)) ≡ option_map (λ e. e.term) (slice_get p.log n)
term_behind p n =
    let a : (suc (p.base + n) == p.base) ≡ false = ne_eqb (suc (p.base + n)) p.base (λ z. omega (arith, z)) in
    let b : nat_lt p.base (suc (p.base + n)) ≡ true = lt-ltb p.base (suc (p.base + n)) (omega arith) in
    let c : suc (p.base + n) - p.base - 1 ≡ n = omega arith in
    rw (a, b, c) refl

-- a term that the log has is known
pub has_known : (p : PersistentState) (v : VolatileState) (i t : ℕ) → has_term p i t ≡ true → KnowsTerm (untracked (tracked_member p v)) i t
has_known p v i t h = ⊎_elim
    (λ (e : (i == p.base) ≡ true). let z : (p.base_term == t) ≡ true = sym (ap (λ c. is_term t (if c then Some p.base_term else option_map (λ x. x.term) (entry_at p i))) e) ∙ h in
    inl (eqb-true i p.base e, sym (eqb-true p.base_term t z)))
    (λ (e : (i == p.base) ≡ false). ⊎_elim
    (λ (f : nat_lt p.base i ≡ true). in_log (i - p.base - 1) (ltb-true p.base i f) refl (slice_get p.log (i - p.base - 1)) refl
    (sym (ap (λ c. is_term t (option_map (λ x. x.term) (if c then slice_get p.log (i - p.base - 1) else None))) f) ∙ behind e))
    (λ (f : nat_lt p.base i ≡ false). absurd (true≢false (sym (behind e) ∙ ap (λ c. is_term t (option_map (λ x. x.term) (if c then slice_get p.log (i - p.base - 1) else None))) f)))
    (cases_Bool (nat_lt p.base i)))
    (cases_Bool (i == p.base))
  where
    behind : (i == p.base) ≡ false → is_term t (option_map (λ x. x.term) (entry_at p i)) ≡ true
    behind e = sym (ap (λ c. is_term t (if c then Some p.base_term else option_map (λ x. x.term) (entry_at p i))) e) ∙ h

    in_log : (k : ℕ) → p.base < i → k ≡ i - p.base - 1 → (o : Option LogEntry) → slice_get p.log k ≡ o → is_term t (option_map (λ e. e.term) o) ≡ true → KnowsTerm (untracked (tracked_member p v)) i t
    in_log k less e None is h = absurd (true≢false (sym h))
    in_log k less e (Some x) is h = inr (k, omega (arith, e, less), (x, is, eqb-true x.term t h))

-- what the log has after the base
pub has_at : (p : PersistentState) (n t : ℕ) → has_term p (suc (p.base + n)) t ≡ is_term t (option_map (λ e. e.term) (slice_get p.log n))
has_at p n t = ap (is_term t) (term_behind p n)

-- the term of an entry above the base, as a snapshot asks for it
pub entry_has : (p : PersistentState) (i t : ℕ) → p.base < i → stored.is_term t (entry_at p i) ≡ has_term p i t
entry_has p i t less =
    let a : (i == p.base) ≡ false = ne_eqb i p.base (λ z. omega (arith, z, less)) in
    same (entry_at p i) ∙ sym (ap (λ c. is_term t (if c then Some p.base_term else option_map (λ x. x.term) (entry_at p i))) a)
  where
    same : (o : Option LogEntry) → stored.is_term t o ≡ is_term t (option_map (λ x. x.term) o)
    same None = refl
    same (Some x) = refl

-- and the other way round
pub known_has : (p : PersistentState) (v : VolatileState) (i t : ℕ) → KnowsTerm (untracked (tracked_member p v)) i t → has_term p i t ≡ true
known_has p v i t k = ⊎_elim
    (λ (z : (i ≡ p.base) × (t ≡ p.base_term)).
    let a : (p.base == p.base) ≡ true = eq-eqb p.base p.base refl in
    let c : has_term p p.base p.base_term ≡ true = ap (λ c. is_term p.base_term (if c then Some p.base_term else option_map (λ x. x.term) (entry_at p p.base))) a ∙ eq-eqb p.base_term p.base_term refl in
    rw (z.0, z.1) c)
    (λ (z : (k : ℕ) × (i ≡ suc (p.base + k)) × ((e : LogEntry) × (slice_get p.log k ≡ Some e) × (e.term ≡ t))). rw z.1 (has_at p z.0 t ∙ (rw z.2.1 (eq-eqb z.2.0.term t z.2.2))))
    k

pub known_within : (p : PersistentState) (v : VolatileState) (i t : ℕ) → KnowsTerm (untracked (tracked_member p v)) i t → (p.base ≤ i) × (i ≤ last p)
known_within p v i t k = ⊎_elim
    (λ z. let e = z.0 in (omega (arith, e), omega (arith, e)))
    (λ z. let e = z.1 in let less = slice_get_within p.log z.0 z.2.0 z.2.1 in (omega (arith, e), omega (arith, e, less)))
    k

-- the term of an index from the base to the last one
pub knows_has : (p : PersistentState) (i : ℕ) → p.base ≤ i → i ≤ last p → has_term p i (known_term p i) ≡ true
knows_has p i low high = either (λ o. is_term (unwrap_or o 0) o ≡ true) (i == p.base) (Some p.base_term) (option_map (λ x. x.term) (entry_at p i))
    (λ h. eq-eqb p.base_term p.base_term refl)
    (λ h.
    let ne : i ≢ p.base = (λ z. true≢false (sym (eq-eqb i p.base z) ∙ h)) in
    let less : p.base < i = omega (arith, ne, low) in
    let x = has_place p.log (i - p.base - 1) (omega (arith, less, high)) in
    let there : entry_at p i ≡ Some x.0 = ap (λ c. if c then slice_get p.log (i - p.base - 1) else None) (lt-ltb p.base i less) ∙ x.1 in
    ap (λ (o : Option LogEntry). is_term (unwrap_or (option_map (λ y. y.term) o) 0) (option_map (λ y. y.term) o)) there ∙ eq-eqb x.0.term x.0.term refl)

pub knows_at : (p : PersistentState) (v : VolatileState) (i : ℕ) → p.base ≤ i → i ≤ last p → KnowsTerm (untracked (tracked_member p v)) i (known_term p i)
knows_at p v i low high = has_known p v i (known_term p i) (knows_has p i low high)

pub ends : (p : PersistentState) (v : VolatileState) → LogEndsAt (untracked (tracked_member p v)) (log_end p).term (log_end p).index
ends p v = (refl, knows_at p v (last p) (omega arith) (le_refl (last p)))

pub up_to_date : (a b : LogEnd) → is_up_to_date a b ≡ true → IsUpToDate a.term a.index b.term b.index
up_to_date a b h = ⊎_elim
    (λ (e : (a.term == b.term) ≡ true). inr (sym (eqb-true a.term b.term e), leb-true b.index a.index (from_true (a.term == b.term) (nat_le b.index a.index) (nat_lt b.term a.term) e h)))
    (λ (e : (a.term == b.term) ≡ false). inl (ltb-true b.term a.term (from_false (a.term == b.term) (nat_le b.index a.index) (nat_lt b.term a.term) e h)))
    (cases_Bool (a.term == b.term))
  where
    from_true : (c x y : Bool) → c ≡ true → (if c then x else y) ≡ true → x ≡ true
    from_true c x y e h = rw e at h

    from_false : (c x y : Bool) → c ≡ false → (if c then x else y) ≡ true → y ≡ true
    from_false c x y e h = rw e at h

-- ---- configurations

-- an entry's configuration has the members that the entry spells
one_configured : (before : Config) (at : ℕ) (bytes : List ℕ) → (config_or (config_in at bytes) before).members ≡ members_or (members_in bytes) before.members
one_configured before at bytes = look (config_in at bytes) ∙ ap (λ o. members_or o before.members) (config_members at bytes)
  where
    look : (o : Option Config) → (config_or o before).members ≡ members_or (option_map (λ (c : Config). c.members) o) before.members
    look None = refl
    look (Some c) = refl

pub configured_members : (before : Config) (at : ℕ) (log : List LogEntry) → (config_after before at log).members ≡ lists.configuration_after before.members log
unfolding config_after
configured_members before at [] = refl
configured_members before at (e ∷ log) =
    configured_members (config_or (config_in (at + 1) e.bytes) before) (at + 1) log ∙ ap (λ m. lists.configuration_after m log) (one_configured before (at + 1) e.bytes)

pub members_are : (p : PersistentState) (v : VolatileState) → members p ≡ configuration_of (untracked (tracked_member p v))
members_are p v = configured_members p.base_config p.base p.log

pub quorum_is : (P : ℕ → Type 0) (ms ns : List ℕ) (test : ℕ → Bool) → ms ≡ ns → is_quorum ms test ≡ true → ((m : ℕ) → test m ≡ true → P m) → HasQuorum ns P
quorum_is P ms ns test e h each = subst (λ l. HasQuorum l P) e (test, ltb-true (length ms) (2 * count_by test ms) h, each)
