-- The whole log that a member with a snapshot stands for.
use Rattle.std.proofs.Common.{◌≡◌, ◌≢◌, ℕ, zero, suc, ◌+◌, ◌-◌, ◌<◌, ◌≤◌, ◌⊎◌, inl, inr, ⊎_elim, List, [], ◌∷◌, ◌++◌, length, take, drop, ap, ap₂, sym, ◌∙◌, arith, subst, Some, slice_get, take-append-drop, length-drop, length-take, zero-add}
use Rattle.std.proofs.lemmas.Bool.{cases_lt, cases_eq}
use Rattle.std.proofs.lemmas.Option.{slice_get_within, same_Some}
use Rattle.cp_parts.specs.declared.log_entry.LogEntry.{LogEntry}
use Rattle.cp_agreement_facts.specs.Configurations.{configuration_after}
use Rattle.cp_agreement_facts.specs.Logs.{EndsAt, HasTerm, HasTerms}
use Rattle.cp_agreement_facts.specs.Clusters.{Member}
use Rattle.cp_agreement_facts.specs.Facts.{KnowsTerm, LogEndsAt, configuration_of}
use Rattle.cp_safety.specs.Standing.{StandsForLog}
use Rattle.cp_agreement.proofs.Logs.{Share, get-append_left, get-drop, get-take, has_place}
use Rattle.cp_safety.proofs.Lists.{configuration_after-append, has_term_same}

module _ (first : List ℕ) (b : Member) (l : List LogEntry) (fit : StandsForLog first b l) where
  -- the log after the base
  pub at_log : (k : ℕ) → slice_get b.log k ≡ slice_get l (b.base + k)
  at_log k = ap (λ r. slice_get r k) fit.log ∙ get-drop l b.base k

  pub whole_length : length l ≡ b.base + length b.log
  whole_length = omega (arith, fit.fits, length-drop b.base l, ap length fit.log)

  -- What the member knows, the whole log has.
  pub knows_has : (i t : ℕ) → KnowsTerm b i t → HasTerm l i t
  knows_has i t (inl (ei, et)) = subst (λ n. HasTerm l n t) (sym ei) (subst (λ u. HasTerm l b.base u) (sym et) fit.base_term)
  knows_has i t (inr (k, e, (x, at, xt))) = subst (λ n. HasTerm l n t) (sym e) (x, sym (at_log k) ∙ at, xt)

  -- What the whole log has from the base on, the member knows.
  pub has_knows : (i t : ℕ) → b.base ≤ i → HasTerm l i t → KnowsTerm b i t
  has_knows i t le has = ⊎_elim
      (λ (e : i ≡ b.base). inl (e, has_term_same l b.base t b.base_term (subst (λ n. HasTerm l n t) e has) fit.base_term))
      (λ ne. past i (omega (arith, ne)) has)
      (cases_eq i b.base)
    where
      past : (i : ℕ) → b.base < i → HasTerm l i t → KnowsTerm b i t
      past zero less has = absurd (omega arith)
      past (suc j) less has = inr (j - b.base, omega arith, (has.0, at_log (j - b.base) ∙ ap (slice_get l) (omega arith) ∙ has.1, has.2))

  pub ends_has : (t i : ℕ) → LogEndsAt b t i → EndsAt l t i
  ends_has t i (e, knows) = (omega (arith, whole_length), knows_has i t knows)

  -- One configuration.
  pub members_is : configuration_of b ≡ configuration_after first l
  members_is = ap₂ configuration_after fit.members fit.log ∙ sym (configuration_after-append first (take b.base l) (drop b.base l)) ∙ ap (configuration_after first) (take-append-drop b.base l)

-- A replacement keeps the front before it.
pub keep_front : (l rest : List LogEntry) (n m : ℕ) → m ≤ n → m ≤ length l → Share m (take n l ++ rest) l
keep_front l rest n m le fits k less =
    let x = has_place l k (omega arith) in
    (x.0, get-append_left (take n l) rest k (omega (arith, length-take n l)) ∙ get-take l n k (omega arith) ∙ x.1, x.1)

pub keep_push : (l : List LogEntry) (e : LogEntry) (m : ℕ) → m ≤ length l → Share m (l ++ (e ∷ [])) l
keep_push l e m fits k less = let x = has_place l k (omega arith) in (x.0, get-append_left l (e ∷ []) k (omega arith) ∙ x.1, x.1)

-- where the entries first differ from the log, or that they don't
pub record Difference (l es : List LogEntry) : Type 0 where
  pub d : ℕ
  pub entry : LogEntry
  pub there : slice_get es d ≡ Some entry
  pub same : HasTerms l 0 es d
  pub differs : (length l ≡ 0 + d) ⊎ ((e : LogEntry) × (slice_get l (0 + d) ≡ Some e) × (e.term ≢ entry.term))

-- The first difference is found by search.
pub first_difference : (l es : List LogEntry) (n : ℕ) → n ≤ length es → HasTerms l 0 es n ⊎ Difference l es
first_difference l es zero le = inl (λ k e less is. absurd (omega arith))
first_difference l es (suc n) le = ⊎_elim more inr (first_difference l es n (omega arith))
  where
    more : HasTerms l 0 es n → HasTerms l 0 es (suc n) ⊎ Difference l es
    more same =
        let y = has_place es n (omega arith) in
        ⊎_elim
        (λ (h : n < length l).
        let x = has_place l n h in
        let at : slice_get l (0 + n) ≡ Some x.0 = ap (slice_get l) (zero-add n) ∙ x.1 in
        ⊎_elim
        (λ (e : x.0.term ≡ y.0.term). inl (λ k f less is. ⊎_elim
        (λ (z : k < n). same k f z is)
        (λ (z : n ≤ k). let kn : k ≡ n = omega arith in
        (x.0, ap (λ j. slice_get l (0 + j)) kn ∙ at, e ∙ ap (λ q. q.term) (same_Some y.0 f (sym y.1 ∙ ap (slice_get es) (sym kn) ∙ is))))
        (cases_lt k n)))
        (λ ne. inr (record { d = n; entry = y.0; there = y.1; same = same; differs = inr (x.0, at, ne) }))
        (cases_eq x.0.term y.0.term))
        (λ (h : length l ≤ n). ⊎_elim
        (λ (z : length l < n).
        let v = has_place es (length l) (omega (arith, z, le)) in
        let w = same (length l) v.0 z v.1 in
        absurd (omega (arith, slice_get_within l (0 + length l) w.0 w.1)))
        (λ (z : n ≤ length l). inr (record { d = n; entry = y.0; there = y.1; same = same; differs = inl (omega arith) }))
        (cases_lt (length l) n))
        (cases_lt n (length l))
