-- Changes of rows as an ordered map makes them.
use Rattle.std.proofs.Common.{◌≡◌, List, [], ◌∷◌, ◌++◌, refl, ap, sym, ◌∙◌, subst, append_assoc}
use Rattle.std.specs.declared.cmp.Ordering.{Ordering}
use Rattle.std.specs.declared.cmp.Ordering.TheVariants.{Less, Greater}
use Rattle.std.specs.Ordering.{ordering_reverse}
use Rattle.std.specs.Cmp.{IsTotalOrder}
use Rattle.std.specs.List.{AllByRecursion}
use Rattle.std.specs.Map.{keys_of}
use Rattle.std.specs.List.Sorted.{IsStrictlySortedBy}
use Rattle.cp_group_state.specs.Rows.{put}
use Rattle.cp_group_state.specs.Invariants.{IsRising}

module _ {K : Type 0} (cmp : K → K → Ordering) (total : IsTotalOrder cmp) where
  turned : (k b : K) → cmp b k ≡ Less → cmp k b ≡ Greater
  turned k b h = total.antisymm k b ∙ ap ordering_reverse h

module _ {K X : Type 0} where
  all-here : (P : K → Type 0) (front rest : List (K × X)) (e : K × X) → AllByRecursion P (keys_of (front ++ e ∷ rest)) → P e.0
  all-here P [] rest e all = all.0
  all-here P (f ∷ fs) rest e all = all-here P fs rest e all.1

module _ {K X : Type 0} (cmp : K → K → Ordering) (total : IsTotalOrder cmp) where
  -- a row whose key is above those in front goes to the end
  pub put_last : (front rest : List (K × X)) (k : K) (x : X) → IsRising cmp (front ++ (k, x) ∷ rest) → put cmp front k x ≡ front ++ (k, x) ∷ []
  unfolding IsStrictlySortedBy
  put_last [] rest k x h = refl
  put_last (e ∷ es) rest k x h = rw (turned cmp total k e.0 (all-here (λ y. cmp e.0 y ≡ Less) es rest (k, x) h.0)) (ap (λ (r : List (K × X)). e ∷ r) (put_last es rest k x h.1))

  -- what stands and what is to come are the same rows, when the first row to come is appended
  pub goes_on : (stand next left rest rows : List (K × X)) (k : K) (x : X) → ((rest : List (K × X)) → IsRising cmp (stand ++ (k, x) ∷ rest) → next ≡ stand ++ (k, x) ∷ []) → IsRising cmp rows → stand ++ left ≡ rows → left ≡ (k, x) ∷ rest → next ++ rest ≡ rows
  goes_on stand next left rest rows k x put rising all first =
      let whole : stand ++ (k, x) ∷ rest ≡ rows = ap (λ (r : List (K × X)). stand ++ r) (sym first) ∙ all in
      ap (λ (r : List (K × X)). r ++ rest) (put rest (subst (λ r. IsRising cmp r) (sym whole) rising)) ∙ append_assoc stand ((k, x) ∷ []) rest ∙ whole

-- one row that is put behind none rises
pub rises_one : {K X : Type 0} (cmp : K → K → Ordering) (none rows : List (K × X)) (e : K × X) → none ≡ [] → rows ≡ none ++ e ∷ [] → IsRising cmp rows
unfolding IsStrictlySortedBy
rises_one cmp none rows e empty pushed =
    let one : rows ≡ e ∷ [] = pushed ∙ ap (λ r. r ++ e ∷ []) empty in
    let rising : IsRising cmp (e ∷ []) = (tt, tt) in
    subst (λ r. IsRising cmp r) (sym one) rising
