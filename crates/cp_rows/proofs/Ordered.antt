-- Rows in rising order of their keys: a write in place is a put, and so is a row behind all others.
use Rattle.std.proofs.Common.{◌≡◌, Bool, true, false, List, [], ◌∷◌, ◌++◌, ◌&&◌, Some, None, Option, refl, ap, sym, ◌∙◌, subst, append_assoc, cond}
use Rattle.std.specs.Prelude.{IsSome, All}
use Rattle.std.specs.declared.cmp.Ordering.{Ordering}
use Rattle.std.specs.declared.cmp.Ordering.TheVariants.{Less, Equal, Greater}
use Rattle.std.specs.Ordering.{match_ordering, is_eq, is_lt, ordering_reverse}
use Rattle.std.specs.Cmp.{IsTotalOrder}
use Rattle.std.specs.BTreeMap.{is_at}
use Rattle.std.proofs.lemmas.List.Elements.{All-head, All-tail}
use Rattle.std.specs.List.{AllByRecursion}
use Rattle.std.specs.Map.{keys_of, set_value}
use Rattle.std.specs.List.Sorted.{IsStrictlySortedBy}
use Rattle.cp_base.proofs.Tests.{no_true, first_true}
use Rattle.cp_group_state.specs.Rows.{find, put}
use Rattle.cp_group_state.specs.Invariants.{IsRising}
use Rattle.cp_rows.specs.Behind.{is_above}

pub some_of : {X : Type 0} (o : Option X) → IsSome o → (x : X) × (o ≡ Some x)
some_of None h = cc
some_of (Some x) h = (x, refl)

is_less : (o : Ordering) → is_lt o ≡ true → o ≡ Less
is_less Less h = refl
is_less Equal h = cc
is_less Greater h = cc

and_second : (a b : Bool) → (a && b) ≡ true → b ≡ true
and_second true b h = h
and_second false b h = absurd (no_true (sym h))

and_none : (a b : Bool) → b ≡ false → (a && b) ≡ false
and_none true b h = h
and_none false b h = refl

module _ {K : Type 0} (cmp : K → K → Ordering) (total : IsTotalOrder cmp) where
  turned : (k b : K) → cmp b k ≡ Less → cmp k b ≡ Greater
  turned k b h = total.antisymm k b ∙ ap ordering_reverse h

  -- what isn't above the last is below whatever is above it
  below_last : (q last k : K) → is_lt (cmp last q) ≡ false → is_lt (cmp last k) ≡ true → is_lt (cmp q k) ≡ true
  below_last q last k far near = by (cmp q last) refl where
    by : (o : Ordering) → cmp q last ≡ o → is_lt (cmp q k) ≡ true
    by Less h = rw (total.trans q last k h (is_less (cmp last k) near)) refl
    by Equal h = rw (total.congr q last k h) near
    by Greater h = let less : cmp last q ≡ Less = total.antisymm last q ∙ ap ordering_reverse h in absurd (no_true (sym (ap is_lt less) ∙ far))

module _ {K X : Type 0} (cmp : K → K → Ordering) (total : IsTotalOrder cmp) where
  above_where : (rows : List (K × X)) (last k : K) → All (λ q. is_lt (cmp last q) ≡ false) (keys_of rows) → is_lt (cmp last k) ≡ true → is_above cmp rows k ≡ true
  above_where [] last k all near = refl
  above_where (e ∷ es) last k all near =
      rw (below_last cmp total e.0 last k (All-head (λ q. is_lt (cmp last q) ≡ false) e.0 (keys_of es) all) near) (above_where es last k (All-tail (λ q. is_lt (cmp last q) ≡ false) e.0 (keys_of es) all) near)

  not_above : (rows : List (K × X)) (last k : K) (x : X) → find cmp rows last ≡ Some x → is_lt (cmp last k) ≡ false → is_above cmp rows k ≡ false
  not_above [] last k x h far = cc
  not_above (e ∷ es) last k x h far = by (cmp last e.0) refl h (λ g. not_above es last k x g far) where
    by : (o : Ordering) → cmp last e.0 ≡ o → cond (is_eq o) (Some e.1) (find cmp es last) ≡ Some x → (find cmp es last ≡ Some x → is_above cmp es k ≡ false) → is_above cmp (e ∷ es) k ≡ false
    by Equal i h rest = let apart : is_lt (cmp e.0 k) ≡ false = ap is_lt (sym (total.congr last e.0 k i)) ∙ far in rw apart refl
    by Less i h rest = and_none (is_lt (cmp e.0 k)) (is_above cmp es k) (rest h)
    by Greater i h rest = and_none (is_lt (cmp e.0 k)) (is_above cmp es k) (rest h)

  -- the last key decides
  pub above_last : (rows : List (K × X)) (last k : K) (x : X) → All (λ q. is_lt (cmp last q) ≡ false) (keys_of rows) → find cmp rows last ≡ Some x → is_above cmp rows k ≡ is_lt (cmp last k)
  above_last rows last k x all there = by (is_lt (cmp last k)) refl where
    by : (b : Bool) → is_lt (cmp last k) ≡ b → is_above cmp rows k ≡ b
    by true h = above_where rows last k all h
    by false h = not_above rows last k x there h

  -- a row with a key above all others comes last
  pub put_last : (rows : List (K × X)) (k : K) (x : X) → is_above cmp rows k ≡ true → put cmp rows k x ≡ rows ++ (k, x) ∷ []
  put_last [] k x h = refl
  put_last (e ∷ es) k x h =
      let far : cmp k e.0 ≡ Greater = turned cmp total k e.0 (is_less (cmp e.0 k) (first_true (is_lt (cmp e.0 k)) (is_above cmp es k) h)) in
      rw far (ap (λ (r : List (K × X)). e ∷ r) (put_last es k x (and_second (is_lt (cmp e.0 k)) (is_above cmp es k) h)))

  above_all : (a b : K) (rows : List (K × X)) → cmp a b ≡ Less → AllByRecursion (λ y. cmp b y ≡ Less) (keys_of rows) → AllByRecursion (λ y. cmp a y ≡ Less) (keys_of rows)
  above_all a b [] l all = tt
  above_all a b (e ∷ es) l all = (total.trans a b e.0 l all.0, above_all a b es l all.1)

  less_none : (k : K) (rows : List (K × X)) → AllByRecursion (λ y. cmp k y ≡ Less) (keys_of rows) → find cmp rows k ≡ None
  less_none k [] all = refl
  less_none k (f ∷ fs) all = rw all.0 (less_none k fs all.1)

  -- a write of the row under a key that is there is a put
  pub put_there : (rows : List (K × X)) (k : K) (old x : X) → IsRising cmp rows → find cmp rows k ≡ Some old → set_value (is_at (cmp k)) rows x ≡ put cmp rows k x
  unfolding IsStrictlySortedBy
  put_there [] k old x h there = cc
  put_there (e ∷ es) k old x h there = by (put_there es k old x h.1) (cmp k e.0) refl there where
    none_some : None ≡ Some old → ⊥
    none_some e = cc

    by : (find cmp es k ≡ Some old → set_value (is_at (cmp k)) es x ≡ put cmp es k x) → (o : Ordering) → cmp k e.0 ≡ o → cond (is_eq o) (Some e.1) (find cmp es k) ≡ Some old
        → cond (is_eq o) ((e.0, x) ∷ es) (e ∷ set_value (is_at (cmp k)) es x) ≡ match_ordering o ((k, x) ∷ e ∷ es) ((e.0, x) ∷ es) (e ∷ put cmp es k x)
    by rest Less i there = absurd (none_some (sym (less_none k es (above_all k e.0 es i h.0)) ∙ there))
    by rest Equal i there = refl
    by rest Greater i there = ap (λ (r : List (K × X)). e ∷ r) (rest there)

  all_here : (P : K → Type 0) (front rest : List (K × X)) (e : K × X) → AllByRecursion P (keys_of (front ++ e ∷ rest)) → P e.0
  all_here P [] rest e all = all.0
  all_here P (f ∷ fs) rest e all = all_here P fs rest e all.1

  -- a row among rising ones is above those in front of it
  pub above_front : (front rest : List (K × X)) (k : K) (x : X) → IsRising cmp (front ++ (k, x) ∷ rest) → is_above cmp front k ≡ true
  unfolding IsStrictlySortedBy
  above_front [] rest k x h = refl
  above_front (e ∷ es) rest k x h = rw (all_here (λ y. cmp e.0 y ≡ Less) es rest (k, x) h.0) (above_front es rest k x h.1)

  -- rows don't rise where one of them isn't above those in front of it
  pub out_of_order : (front left rest rows : List (K × X)) (k : K) (x : X) → is_above cmp front k ≡ false → front ++ left ≡ rows → left ≡ (k, x) ∷ rest → IsRising cmp rows → ⊥
  out_of_order front left rest rows k x apart all first rising =
      let whole : rows ≡ front ++ (k, x) ∷ rest = sym all ∙ ap (λ (r : List (K × X)). front ++ r) first in
      no_true (sym (above_front front rest k x (subst (λ r. IsRising cmp r) whole rising)) ∙ apart)

module _ {K X : Type 0} where
  -- what stands and what is left are the same rows, when the first that is left is put behind
  pub goes_on : (stand next left rest rows : List (K × X)) (k : K) (x : X) → next ≡ stand ++ (k, x) ∷ [] → stand ++ left ≡ rows → left ≡ (k, x) ∷ rest → next ++ rest ≡ rows
  goes_on stand next left rest rows k x put all first =
      ap (λ (r : List (K × X)). r ++ rest) put ∙ append_assoc stand ((k, x) ∷ []) rest ∙ ap (λ (r : List (K × X)). stand ++ r) (sym first) ∙ all
