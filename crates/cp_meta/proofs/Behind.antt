-- Rows by rising numbers are those of which each is behind the one before it.
use Rattle.std.proofs.Common.{◌≡◌, ℕ, zero, suc, ◌+◌, ◌-◌, ◌<◌, ◌≤◌, true, List, [], ◌∷◌, ◌++◌, length, Option, Some, None, refl, ap, sym, ◌∙◌, arith}
use Rattle.std.specs.Prelude.{slice_get, nat_lt}
use Rattle.std.specs.Option.{option_map}
use Rattle.std.specs.List.{AllByRecursion}
use Rattle.std.specs.List.Sorted.{IsStrictlySortedBy}
use Rattle.std.specs.Map.{keys_of}
use Rattle.std.specs.declared.cmp.Ordering.TheVariants.{Less}
use Rattle.std.specs.Ordering.{nat_cmp}
use Rattle.std.specs.Cmp.{nat_cmp_is}
use Rattle.std.proofs.lemmas.Cmp.{nat_cmp_total}
use Rattle.std.proofs.lemmas.Map.Entries.{length-keys_of}
use Rattle.std.proofs.lemmas.Bool.Decides.{nat_tests}
use Rattle.cp_grammar.specs.Grammar.{Grammar}
use Rattle.cp_grammar.specs.Lists.{ItemsFit}
use Rattle.cp_grammar.specs.Common.{last_number, or_zero}
use Rattle.cp_group_state.specs.Invariants.{IsRising}
use Rattle.cp_group_state.proofs.Keyed.{number_key}
use Rattle.cp_group_state.proofs.Rising.{above-all}
use Rattle.cp_meta.specs.Rows.{last_of, follows, is_behind}

get_push : {A : Type 0} (xs : List A) (x : A) → slice_get (xs ++ x ∷ []) (length xs) ≡ Some x
get_push [] x = refl
get_push (y ∷ ys) x = get_push ys x

length_push : {A : Type 0} (xs : List A) (x : A) → length (xs ++ x ∷ []) ≡ suc (length xs)
length_push [] x = refl
length_push (y ∷ ys) x = ap suc (length_push ys x)

last_push : {A : Type 0} (xs : List A) (x : A) → last_of (xs ++ x ∷ []) ≡ Some x
last_push xs x = let n : length (xs ++ x ∷ []) - 1 ≡ length xs = omega (arith, length_push xs x) in rw n (get_push xs x)

less_true : (a b : ℕ) → nat_cmp a b ≡ Less → nat_lt a b ≡ true
less_true a b h = grind (arith, nat_tests)

test_less : (a b : ℕ) → nat_lt a b ≡ true → a < b
test_less a b h = grind (arith, nat_tests)

true_less : (a b : ℕ) → nat_lt a b ≡ true → nat_cmp a b ≡ Less
true_less a b h = sym (nat_cmp_is a b Less (test_less a b h))

module _ {X : Type 0} where
  behind_push : (front : List (ℕ × X)) (e : ℕ × X) (k : ℕ) → is_behind (front ++ e ∷ []) k ≡ nat_lt e.0 k
  behind_push front e k = ap (λ (o : Option (ℕ × X)). follows o k) (last_push front e)

-- P is what holds of each row alone
module _ {X : Type 0} (item : List (ℕ × X) → Grammar ℕ (ℕ × X)) (P : ℕ × X → Type 0) where
  module _ (fits : (before : List (ℕ × X)) (e : ℕ × X) → P e → is_behind before e.0 ≡ true → (item before).Fits e) where
    rest_fit : (front : List (ℕ × X)) (e : ℕ × X) (xs : List (ℕ × X)) → AllByRecursion P xs → IsRising nat_cmp (e ∷ xs) → ItemsFit item (front ++ e ∷ []) xs
    unfolding ItemsFit IsStrictlySortedBy
    rest_fit front e [] all rising = tt
    rest_fit front e (x ∷ xs) all rising = (fits (front ++ e ∷ []) x all.0 (behind_push front e x.0 ∙ less_true e.0 x.0 rising.0.0), rest_fit (front ++ e ∷ []) x xs all.1 rising.1)

    pub rows_fit : (xs : List (ℕ × X)) → AllByRecursion P xs → IsRising nat_cmp xs → ItemsFit item [] xs
    unfolding ItemsFit IsStrictlySortedBy
    rows_fit [] all rising = tt
    rows_fit (x ∷ xs) all rising = (fits [] x all.0 refl, rest_fit [] x xs all.1 rising)

  module _ (facts : (before : List (ℕ × X)) (e : ℕ × X) → (item before).Fits e → P e × (is_behind before e.0 ≡ true)) where
    rest_rises : (front : List (ℕ × X)) (e : ℕ × X) (xs : List (ℕ × X)) → ItemsFit item (front ++ e ∷ []) xs → AllByRecursion P xs × IsRising nat_cmp (e ∷ xs)
    unfolding ItemsFit IsStrictlySortedBy
    rest_rises front e [] fit = (tt, (tt, tt))
    rest_rises front e (x ∷ xs) fit =
        let f = facts (front ++ e ∷ []) x fit.0 in
        let r = rest_rises (front ++ e ∷ []) x xs fit.1 in
        let less : nat_cmp e.0 x.0 ≡ Less = true_less e.0 x.0 (sym (behind_push front e x.0) ∙ f.1) in
        ((f.0, r.0), ((less, above-all nat_cmp number_key nat_cmp_total e.0 x.0 xs less r.1.0), r.1))

    pub rows_rise : (xs : List (ℕ × X)) → ItemsFit item [] xs → AllByRecursion P xs × IsRising nat_cmp xs
    unfolding ItemsFit IsStrictlySortedBy
    rows_rise [] fit = (tt, tt)
    rows_rise (x ∷ xs) fit =
        let f = facts [] x fit.0 in
        let r = rest_rises [] x xs fit.1 in
        ((f.0, r.0), r.1)

-- ---- the last number

get_key : {X : Type 0} (rows : List (ℕ × X)) (k : ℕ) → slice_get (keys_of rows) k ≡ option_map (λ e. e.0) (slice_get rows k)
get_key [] zero = refl
get_key [] (suc k) = refl
get_key (e ∷ es) zero = refl
get_key (e ∷ es) (suc k) = get_key es k

last_key : {X : Type 0} (rows : List (ℕ × X)) → last_number (keys_of rows) ≡ or_zero (option_map (λ e. e.0) (last_of rows))
last_key rows = rw (length-keys_of rows) (ap or_zero (get_key rows (length rows - 1)))

pub last_is : {X : Type 0} (rows : List (ℕ × X)) (e : ℕ × X) → last_of rows ≡ Some e → last_number (keys_of rows) ≡ e.0
last_is {X} rows e is = last_key rows ∙ ap (λ (o : Option (ℕ × X)). or_zero (option_map (λ e. e.0) o)) is

pub last_none : {X : Type 0} (rows : List (ℕ × X)) → last_of rows ≡ None → last_number (keys_of rows) ≡ 0
last_none {X} rows is = last_key rows ∙ ap (λ (o : Option (ℕ × X)). or_zero (option_map (λ e. e.0) o)) is

pub above_last : {X : Type 0} (rows : List (ℕ × X)) (n : ℕ) → 1 ≤ n → is_behind rows n ≡ true → nat_lt (last_number (keys_of rows)) n ≡ true
above_last {X} rows n some behind = by (last_of rows) refl behind where
  some_true : (n : ℕ) → 1 ≤ n → nat_lt 0 n ≡ true
  some_true n h = grind (arith, nat_tests)

  by : (o : Option (ℕ × X)) → last_of rows ≡ o → follows o n ≡ true → nat_lt (last_number (keys_of rows)) n ≡ true
  by None is h = rw (last_none rows is) (some_true n some)
  by (Some e) is h = rw (last_is rows e is) h

pub behind_last : {X : Type 0} (rows : List (ℕ × X)) (n : ℕ) → nat_lt (last_number (keys_of rows)) n ≡ true → is_behind rows n ≡ true
behind_last {X} rows n above = by (last_of rows) refl where
  by : (o : Option (ℕ × X)) → last_of rows ≡ o → follows o n ≡ true
  by None is = refl
  by (Some e) is = ap (λ (k : ℕ). nat_lt k n) (sym (last_is rows e is)) ∙ above
