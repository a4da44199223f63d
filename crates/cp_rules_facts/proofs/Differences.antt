-- The first entry that differs.
use Rattle.std.proofs.Common.{◌≡◌, ◌≢◌, ℕ, zero, suc, ◌+◌, ◌-◌, ◌<◌, ◌≤◌, ◌⊎◌, inl, inr, ⊎_elim, true, false, List, [], ◌∷◌, ◌++◌, length, take, drop, refl, ap, ap₂, sym, ◌∙◌, arith, subst, Option, Some, None, slice_get, true≢false, option_map}
use Rattle.std.proofs.lemmas.Bool.{eq-eqb, cases_lt, cases_Bool, eqb-true}
use Rattle.std.proofs.lemmas.Option.{same_Some, slice_get_within}
use Rattle.cp_parts.specs.declared.log_entry.LogEntry.{LogEntry}
use Rattle.cp_agreement_facts.specs.Logs.{HasTerm, HasTerms, Replaces}
use Rattle.cp_agreement.proofs.Logs.{has_place, replaced_low, replaced_high}
use Rattle.cp_safety.proofs.Lists.{has_term_within}
use Rattle.cp_log_rules.specs.Persistent.{PersistentState, term_at}
use Rattle.cp_rules.specs.Persistent.{is_term, has_term}
use Rattle.cp_rules.specs.Appends.{Difference, difference}
use Rattle.cp_rules_facts.proofs.Knowing.{has_at}

in_log : (p : PersistentState) (n t : ℕ) → has_term p (suc (p.base + n)) t ≡ true → HasTerm p.log (suc n) t
in_log p n t h = look (slice_get p.log n) refl (sym (has_at p n t) ∙ h)
  where
    look : (o : Option LogEntry) → slice_get p.log n ≡ o → is_term t (option_map (λ e. e.term) o) ≡ true → HasTerm p.log (suc n) t
    look None is h = absurd (true≢false (sym h))
    look (Some e) is h = (e, is, eqb-true e.term t h)

not_in_log : (p : PersistentState) (n t : ℕ) → n ≤ length p.log → has_term p (suc (p.base + n)) t ≡ false → (length p.log ≡ n) ⊎ ((e : LogEntry) × (slice_get p.log n ≡ Some e) × (e.term ≢ t))
not_in_log p n t le h = look (slice_get p.log n) refl (sym (has_at p n t) ∙ h)
  where
    look : (o : Option LogEntry) → slice_get p.log n ≡ o → is_term t (option_map (λ e. e.term) o) ≡ false → (length p.log ≡ n) ⊎ ((e : LogEntry) × (slice_get p.log n ≡ Some e) × (e.term ≢ t))
    look None is h = ⊎_elim
        (λ (low : n < length p.log). let x = has_place p.log n low in let z : None ≡ Some x.0 = sym is ∙ x.1 in absurd (cc))
        (λ (high : length p.log ≤ n). inl (omega (arith, le, high)))
        (cases_lt n (length p.log))
    look (Some e) is h = inr (e, is, λ z. true≢false (sym (eq-eqb e.term t z) ∙ h))

-- What is found, among entries that follow an index.
pub record Differs (p : PersistentState) (after : ℕ) (es : List LogEntry) (d : Difference) : Type 0 where
  pub k : ℕ
  pub entry : LogEntry
  pub after_is : d.after ≡ after + k
  pub entries_are : d.entries ≡ drop k es
  pub there : slice_get es k ≡ Some entry
  pub same : (j : ℕ) (e : LogEntry) → j < k → slice_get es j ≡ Some e → has_term p (suc (after + j)) e.term ≡ true
  pub differs : has_term p (suc (after + k)) entry.term ≡ false

pub differs_at : (p : PersistentState) (after : ℕ) (es : List LogEntry) (d : Difference) → difference (term_at p) after es ≡ Some d → Differs p after es d
differs_at p after [] d h = absurd (cc)
differs_at p after (e ∷ es) d h = ⊎_elim
    (λ (z : has_term p (suc after) e.term ≡ true).
    let x = differs_at p (suc after) es d (rw z at h) in record {
      k = suc x.k;
      entry = x.entry;
      after_is = omega (arith, x.after_is);
      entries_are = x.entries_are;
      there = x.there;
      same = λ j f less is. later x j f less is z;
      differs = subst (λ n. has_term p (suc n) x.entry.term ≡ false) (omega arith) x.differs;
    })
    (λ (z : has_term p (suc after) e.term ≡ false).
    let same : record { after = after; entries = e ∷ es } ≡ d = same_Some (record { after = after; entries = e ∷ es }) d (rw z at h) in
    record {
      k = 0;
      entry = e;
      after_is = let a : d.after ≡ after = ap (λ x. x.after) (sym same) in omega (arith, a);
      entries_are = ap (λ x. x.entries) (sym same);
      there = refl;
      same = λ j f less is. absurd (omega (arith, less));
      differs = subst (λ n. has_term p (suc n) e.term ≡ false) (omega arith) z;
    })
    (cases_Bool (has_term p (suc after) e.term))
  where
    later : (x : Differs p (suc after) es d) → (j : ℕ) (f : LogEntry) → j < suc x.k → slice_get (e ∷ es) j ≡ Some f → has_term p (suc after) e.term ≡ true → has_term p (suc (after + j)) f.term ≡ true
    later x zero f less is z = rw (sym (same_Some e f is)) (subst (λ n. has_term p (suc n) e.term ≡ true) (omega arith) z)
    later x (suc j) f less is z = subst (λ n. has_term p (suc n) f.term ≡ true) (omega arith) (x.same j f (omega (arith, less)) is)

none_differs : (p : PersistentState) (after : ℕ) (es : List LogEntry) → difference (term_at p) after es ≡ None → (k : ℕ) (e : LogEntry) → slice_get es k ≡ Some e → has_term p (suc (after + k)) e.term ≡ true
none_differs p after [] h k e is = absurd (cc)
none_differs p after (x ∷ es) h k e is = ⊎_elim
    (λ (z : has_term p (suc after) x.term ≡ true). at_place k is z (λ j w. none_differs p (suc after) es (rw z at h) j e w))
    (λ (z : has_term p (suc after) x.term ≡ false). let w : Some (record { after = after; entries = x ∷ es }) ≡ None = rw z at h in absurd (cc))
    (cases_Bool (has_term p (suc after) x.term))
  where
    at_place : (k : ℕ) → slice_get (x ∷ es) k ≡ Some e → has_term p (suc after) x.term ≡ true → ((j : ℕ) → slice_get es j ≡ Some e → has_term p (suc (suc after + j)) e.term ≡ true) → has_term p (suc (after + k)) e.term ≡ true
    at_place zero is z rec = rw (sym (same_Some x e is)) (subst (λ n. has_term p (suc n) x.term ≡ true) (omega arith) z)
    at_place (suc j) is z rec = subst (λ n. has_term p (suc n) e.term ≡ true) (omega arith) (rec j is)

-- ---- logs that have the terms of entries

-- after a replacement from the first entry that differs the log has the terms of all
pub replaced_terms : (l es after : List LogEntry) (q : ℕ) (r : Replaces l q es after) → HasTerms after q es (length es)
replaced_terms l es after q r k e less is = ⊎_elim
    (λ (low : k < r.kept). let x = r.same k e low is in (x.0, replaced_low l after q es r (q + k) (omega (arith, low)) ∙ x.1, x.2))
    (λ (high : r.kept ≤ k). (e, ap (slice_get after) (omega (arith, high)) ∙ replaced_high l after q es r (k - r.kept) ∙ ap (slice_get es) (omega (arith, high)) ∙ is, refl))
    (cases_lt k r.kept)

-- such a log reaches as far as the entries do
pub reaches : (log es : List LogEntry) (q : ℕ) → HasTerms log q es (length es) → q ≤ length log → q + length es ≤ length log
reaches log [] q terms fits = omega (arith, fits)
reaches log (e ∷ es) q terms fits =
    let last = has_place (e ∷ es) (length es) (omega arith) in
    let n = has_term_within log (suc (q + length es)) last.0.term (terms (length es) last.0 (omega arith) last.1) in
    omega (arith, n)

-- ---- the difference that is found replaces the log as the facts say

-- The index that the entries follow is q entries after the base.
pub replacing : (p : PersistentState) (q : ℕ) (es : List LogEntry) (d : Difference) → q ≤ length p.log → difference (term_at p) (p.base + q) es ≡ Some d → Replaces p.log q es (take (d.after - p.base) p.log ++ d.entries)
replacing p q es d fits h =
    let x = differs_at p (p.base + q) es d h in
    record {
      kept = x.k;
      entry = x.entry;
      there = x.there;
      same = λ j e less is. in_log p (q + j) e.term (subst (λ n. has_term p (suc n) e.term ≡ true) (omega arith) (x.same j e less is));
      differs = not_in_log p (q + x.k) x.entry.term (far x.k x.same (λ j less. has_place es j (let z = slice_get_within es x.k x.entry x.there in omega (arith, z, less)))) (subst (λ n. has_term p (suc n) x.entry.term ≡ false) (omega arith) x.differs);
      result = ap₂ (λ n l. take n p.log ++ l) (omega (arith, x.after_is)) x.entries_are;
    }
  where
    far : (k : ℕ) → ((j : ℕ) (e : LogEntry) → j < k → slice_get es j ≡ Some e → has_term p (suc (p.base + q + j)) e.term ≡ true) → ((j : ℕ) → j < k → (e : LogEntry) × (slice_get es j ≡ Some e)) → q + k ≤ length p.log
    far zero same there = omega (arith, fits)
    far (suc k) same there =
        let e = there k (omega arith) in
        let x = in_log p (q + k) e.0.term (subst (λ n. has_term p (suc n) e.0.term ≡ true) (omega arith) (same k e.0 (omega arith) e.1)) in
        let z = slice_get_within p.log (q + k) x.0 x.1 in omega (arith, z)

pub none_replaced : (p : PersistentState) (q : ℕ) (es : List LogEntry) → difference (term_at p) (p.base + q) es ≡ None → HasTerms p.log q es (length es)
none_replaced p q es h k e less is = in_log p (q + k) e.term (subst (λ n. has_term p (suc n) e.term ≡ true) (omega arith) (none_differs p (p.base + q) es h k e is))
