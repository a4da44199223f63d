-- Rows by rising keys are those of which each is behind the one before it.
use Rattle.std.proofs.Common.{◌≡◌, ℕ, suc, ◌+◌, ◌-◌, true, List, [], ◌∷◌, ◌++◌, length, Option, Some, refl, ap, sym, ◌∙◌, subst, append_assoc, arith}
use Rattle.std.specs.Prelude.{slice_get}
use Rattle.std.proofs.lemmas.List.{append-nil}
use Rattle.std.specs.List.{AllByRecursion}
use Rattle.std.specs.List.Sorted.{IsStrictlySortedBy}
use Rattle.std.specs.Map.{keys_of}
use Rattle.std.specs.declared.cmp.Ordering.{Ordering}
use Rattle.std.specs.declared.cmp.Ordering.TheVariants.{Less, Equal, Greater}
use Rattle.std.specs.Ordering.{is_lt}
use Rattle.std.specs.Cmp.{IsTotalOrder}
use Rattle.cp_grammar.specs.Grammar.{Grammar}
use Rattle.cp_grammar.specs.Lists.{ItemsFit}
use Rattle.cp_group_state.specs.Invariants.{IsRising}
use Rattle.cp_state_bytes.specs.Keys.{last_of, follows, is_behind}

pub is_less : (o : Ordering) → is_lt o ≡ true → o ≡ Less
is_less Less h = refl
is_less Equal h = cc
is_less Greater h = cc

get_push : {A : Type 0} (xs : List A) (x : A) → slice_get (xs ++ x ∷ []) (length xs) ≡ Some x
get_push [] x = refl
get_push (y ∷ ys) x = get_push ys x

length_push : {A : Type 0} (xs : List A) (x : A) → length (xs ++ x ∷ []) ≡ suc (length xs)
length_push [] x = refl
length_push (y ∷ ys) x = ap suc (length_push ys x)

pub last_push : {A : Type 0} (xs : List A) (x : A) → last_of (xs ++ x ∷ []) ≡ Some x
last_push xs x = let n : length (xs ++ x ∷ []) - 1 ≡ length xs = omega (arith, length_push xs x) in rw n (get_push xs x)

module _ {K X : Type 0} (cmp : K → K → Ordering) where
  pub behind_push : (front : List (K × X)) (e : K × X) (k : K) → is_behind cmp (front ++ e ∷ []) k ≡ is_lt (cmp e.0 k)
  behind_push front e k = ap (λ (o : Option (K × X)). follows cmp o k) (last_push front e)

  above_all : IsTotalOrder cmp → (a b : K) (rows : List (K × X)) → cmp a b ≡ Less → AllByRecursion (λ y. cmp b y ≡ Less) (keys_of rows) → AllByRecursion (λ y. cmp a y ≡ Less) (keys_of rows)
  above_all total a b [] l all = tt
  above_all total a b (e ∷ es) l all = (total.trans a b e.0 l all.0, above_all total a b es l all.1)

-- P is what holds of each row alone, and Q of the rows up to it.
module _ {K X : Type 0} (cmp : K → K → Ordering) (total : IsTotalOrder cmp) (item : List (K × X) → Grammar ℕ (K × X)) (P : K × X → Type 0) (Q : List (K × X) → Type 0) where
  module _ (fits : (before rest : List (K × X)) (e : K × X) → Q (before ++ e ∷ rest) → P e → is_behind cmp before e.0 ≡ true → (item before).Fits e) where
    rest_fit : (front : List (K × X)) (e : K × X) (xs : List (K × X)) → Q ((front ++ e ∷ []) ++ xs) → AllByRecursion P xs → IsRising cmp (e ∷ xs) → ItemsFit item (front ++ e ∷ []) xs
    unfolding ItemsFit IsStrictlySortedBy
    rest_fit front e [] q all rising = tt
    rest_fit front e (x ∷ xs) q all rising =
        let first : is_behind cmp (front ++ e ∷ []) x.0 ≡ true = behind_push cmp front e x.0 ∙ ap is_lt rising.0.0 in
        (fits (front ++ e ∷ []) xs x q all.0 first, rest_fit (front ++ e ∷ []) x xs (subst Q (sym (append_assoc (front ++ e ∷ []) (x ∷ []) xs)) q) all.1 rising.1)

    pub rows_fit : (xs : List (K × X)) → Q xs → AllByRecursion P xs → IsRising cmp xs → ItemsFit item [] xs
    unfolding ItemsFit IsStrictlySortedBy
    rows_fit [] q all rising = tt
    rows_fit (x ∷ xs) q all rising = (fits [] xs x q all.0 refl, rest_fit [] x xs q all.1 rising)

  module _ (facts : (before : List (K × X)) (e : K × X) → Q before → (item before).Fits e → P e × (is_behind cmp before e.0 ≡ true) × Q (before ++ e ∷ [])) where
    rest_rises : (front : List (K × X)) (e : K × X) (xs : List (K × X)) → Q (front ++ e ∷ []) → ItemsFit item (front ++ e ∷ []) xs → AllByRecursion P xs × IsRising cmp (e ∷ xs) × Q ((front ++ e ∷ []) ++ xs)
    unfolding ItemsFit IsStrictlySortedBy
    rest_rises front e [] q fit = (tt, (tt, tt), subst Q (sym (append-nil (front ++ e ∷ []))) q)
    rest_rises front e (x ∷ xs) q fit =
        let f = facts (front ++ e ∷ []) x q fit.0 in
        let r = rest_rises (front ++ e ∷ []) x xs f.2 fit.1 in
        let less : cmp e.0 x.0 ≡ Less = is_less (cmp e.0 x.0) (sym (behind_push cmp front e x.0) ∙ f.1) in
        ((f.0, r.0), ((less, above_all cmp total e.0 x.0 xs less r.1.0), r.1), subst Q (append_assoc (front ++ e ∷ []) (x ∷ []) xs) r.2)

    pub rows_rise : (xs : List (K × X)) → Q [] → ItemsFit item [] xs → AllByRecursion P xs × IsRising cmp xs × Q xs
    unfolding ItemsFit IsStrictlySortedBy
    rows_rise [] q fit = (tt, tt, q)
    rows_rise (x ∷ xs) q fit =
        let f = facts [] x q fit.0 in
        let r = rest_rises [] x xs f.2 fit.1 in
        ((f.0, r.0), r.1, r.2)
