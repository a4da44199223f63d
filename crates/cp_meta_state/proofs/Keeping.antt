-- Rows under numbers: what each of them keeps, and how many they are, after a change.
use Rattle.std.proofs.Common.{◌≡◌, ℕ, ◌+◌, ◌<◌, ◌≤◌, Bool, true, false, List, [], ◌∷◌, length, Some, None, Option, refl, ap, sym, ◌∙◌, subst, arith, cond, is_some}
use Rattle.std.specs.Prelude.{nat_lt}
use Rattle.std.specs.declared.cmp.Ordering.{Ordering}
use Rattle.std.specs.declared.cmp.Ordering.TheVariants.{Less, Equal, Greater}
use Rattle.std.specs.Ordering.{match_ordering, is_eq, nat_cmp}
use Rattle.std.specs.BTreeMap.{is_at}
use Rattle.std.specs.List.{filter, AllByRecursion}
use Rattle.std.specs.List.Sorted.{IsStrictlySortedBy}
use Rattle.std.specs.Map.{keys_of}
use Rattle.std.proofs.lemmas.Cmp.{nat_cmp_total}
use Rattle.std.proofs.lemmas.Option.{none-some}
use Rattle.std.proofs.lemmas.Bool.Decides.{nat_tests}
use Rattle.cp_base.proofs.Tests.{same_some, no_true}
use Rattle.cp_group_state.specs.Rows.{find, put, without}
use Rattle.cp_group_state.specs.Invariants.{IsRising}
use Rattle.cp_group_state.proofs.Keyed.{number_key, pair_same}
use Rattle.cp_group_state.proofs.Rising.{less-none, above-all}
use Rattle.cp_group_state.proofs.Walk.{either}

pub test_less : (a b : ℕ) → nat_lt a b ≡ true → a < b
test_less a b h = grind (arith, nat_tests)

pub test_not_less : (a b : ℕ) → nat_lt a b ≡ false → b ≤ a
test_not_less a b h = grind (arith, nat_tests)

module _ {X : Type 0} (P : ℕ × X → Type 0) where
  pub each-put : (rows : List (ℕ × X)) (k : ℕ) (x : X) → P (k, x) → AllByRecursion P rows → AllByRecursion P (put nat_cmp rows k x)
  each-put [] k x p h = (p, tt)
  each-put (e ∷ es) k x p h = by (each-put es k x p h.1) (nat_cmp k e.0) refl where
    by : AllByRecursion P (put nat_cmp es k x) → (o : Ordering) → nat_cmp k e.0 ≡ o → AllByRecursion P (match_ordering o ((k, x) ∷ e ∷ es) ((e.0, x) ∷ es) (e ∷ put nat_cmp es k x))
    by rest Less i = (p, h)
    by rest Equal i = (subst (λ (j : ℕ). P (j, x)) (number_key.same k e.0 i) p, h.1)
    by rest Greater i = (h.0, rest)

  pub each-without : (rows : List (ℕ × X)) (k : ℕ) → AllByRecursion P rows → AllByRecursion P (without nat_cmp rows k)
  each-without [] k h = tt
  each-without (e ∷ es) k h = either (AllByRecursion P) (is_at (nat_cmp k) e.0) es (e ∷ without nat_cmp es k) h.1 (h.0, each-without es k h.1)

  -- the row that is found under a number
  pub each-find : (rows : List (ℕ × X)) (k : ℕ) (x : X) → AllByRecursion P rows → find nat_cmp rows k ≡ Some x → P (k, x)
  each-find [] k x h is = absurd (none-some x is)
  each-find (e ∷ es) k x h is = by (nat_cmp k e.0) refl is (each-find es k x h.1) where
    by : (o : Ordering) → nat_cmp k e.0 ≡ o → cond (is_eq o) (Some e.1) (find nat_cmp es k) ≡ Some x → (find nat_cmp es k ≡ Some x → P (k, x)) → P (k, x)
    by Less i is rest = rest is
    by Equal i is rest = subst P (pair_same e (k, x) (sym (number_key.same k e.0 i)) (same_some is)) h.0
    by Greater i is rest = rest is

-- ---- how many rows

pub longer-put : {X : Type 0} (rows : List (ℕ × X)) (k : ℕ) (x : X) → length (put nat_cmp rows k x) ≤ length rows + 1
longer-put [] k x = omega arith
longer-put {X} (e ∷ es) k x = by (longer-put es k x) (nat_cmp k e.0) where
  by : length (put nat_cmp es k x) ≤ length es + 1 → (o : Ordering) → length (match_ordering o ((k, x) ∷ e ∷ es) ((e.0, x) ∷ es) (e ∷ put nat_cmp es k x)) ≤ length (e ∷ es) + 1
  by rest Less = omega arith
  by rest Equal = omega arith
  by rest Greater = omega (arith, rest)

pub shorter-without : {X : Type 0} (rows : List (ℕ × X)) (k : ℕ) → length (without nat_cmp rows k) ≤ length rows
shorter-without [] k = omega arith
shorter-without {X} (e ∷ es) k = either (λ (r : List (ℕ × X)). length r ≤ length (e ∷ es)) (is_at (nat_cmp k) e.0) es (e ∷ without nat_cmp es k)
    (omega arith) (let rest = shorter-without es k in omega (arith, rest))

-- as many rows as before, where one is there
pub same-put : {X : Type 0} (rows : List (ℕ × X)) (k : ℕ) (x : X) → IsRising nat_cmp rows → is_some (find nat_cmp rows k) ≡ true → length (put nat_cmp rows k x) ≡ length rows
unfolding IsStrictlySortedBy
same-put [] k x r there = absurd (no_true (sym there))
same-put {X} (e ∷ es) k x r there = by (same-put es k x r.1) (nat_cmp k e.0) refl there where
  by : (is_some (find nat_cmp es k) ≡ true → length (put nat_cmp es k x) ≡ length es) → (o : Ordering) → nat_cmp k e.0 ≡ o → is_some (cond (is_eq o) (Some e.1) (find nat_cmp es k)) ≡ true
      → length (match_ordering o ((k, x) ∷ e ∷ es) ((e.0, x) ∷ es) (e ∷ put nat_cmp es k x)) ≡ length (e ∷ es)
  by rest Less i there = absurd (no_true (sym there ∙ ap is_some (less-none nat_cmp number_key nat_cmp_total k es (above-all nat_cmp number_key nat_cmp_total k e.0 es i r.0))))
  by rest Equal i there = refl
  by rest Greater i there = let more = rest there in omega (arith, more)

-- ---- how many rows with a property of the row

module _ {X : Type 0} (test : X → Bool) where
  abbrev pub tally : List (ℕ × X) → ℕ
  tally rows = length (filter (λ e. test e.1) rows)

  tally-cons : (e : ℕ × X) (es : List (ℕ × X)) (b : Bool) → test e.1 ≡ b → tally (e ∷ es) ≡ cond b 1 0 + tally es
  tally-cons e es true is = rw is (omega arith)
  tally-cons e es false is = rw is (omega arith)

  few : (b : Bool) → cond b 1 0 ≤ 1
  few true = omega arith
  few false = omega arith

  -- a row that is put adds one at most
  pub tally-put : (rows : List (ℕ × X)) (k : ℕ) (x : X) (b : Bool) → test x ≡ b → tally (put nat_cmp rows k x) ≤ tally rows + cond b 1 0
  tally-put [] k x b is = let t = tally-cons (k, x) [] b is in omega (arith, t)
  tally-put (e ∷ es) k x b is = by (tally-put es k x b is) (nat_cmp k e.0) where
    by : tally (put nat_cmp es k x) ≤ tally es + cond b 1 0 → (o : Ordering) → tally (match_ordering o ((k, x) ∷ e ∷ es) ((e.0, x) ∷ es) (e ∷ put nat_cmp es k x)) ≤ tally (e ∷ es) + cond b 1 0
    by rest Less = let t = tally-cons (k, x) (e ∷ es) b is in omega (arith, t)
    by rest Equal = let t = tally-cons (e.0, x) es b is in let u = tally-cons e es (test e.1) refl in omega (arith, t, u)
    by rest Greater = let t = tally-cons e (put nat_cmp es k x) (test e.1) refl in let u = tally-cons e es (test e.1) refl in omega (arith, t, u, rest)

  -- one that has the property goes
  pub tally-without : (rows : List (ℕ × X)) (k : ℕ) (x : X) → find nat_cmp rows k ≡ Some x → test x ≡ true → tally (without nat_cmp rows k) + 1 ≡ tally rows
  tally-without [] k x is has = absurd (none-some x is)
  tally-without (e ∷ es) k x is has = by (nat_cmp k e.0) is (tally-without es k x) where
    by : (o : Ordering) → cond (is_eq o) (Some e.1) (find nat_cmp es k) ≡ Some x → (find nat_cmp es k ≡ Some x → test x ≡ true → tally (without nat_cmp es k) + 1 ≡ tally es) → tally (cond (is_eq o) es (e ∷ without nat_cmp es k)) + 1 ≡ tally (e ∷ es)
    by Equal i rest = let t = tally-cons e es true (ap test (same_some i) ∙ has) in omega (arith, t)
    by Less i rest = let t = tally-cons e (without nat_cmp es k) (test e.1) refl in let u = tally-cons e es (test e.1) refl in let r = rest i has in omega (arith, t, u, r)
    by Greater i rest = let t = tally-cons e (without nat_cmp es k) (test e.1) refl in let u = tally-cons e es (test e.1) refl in let r = rest i has in omega (arith, t, u, r)

  pub tally-shorter : (rows : List (ℕ × X)) (k : ℕ) → tally (without nat_cmp rows k) ≤ tally rows
  tally-shorter [] k = omega arith
  tally-shorter (e ∷ es) k = by (tally-shorter es k) (is_at (nat_cmp k) e.0) where
    by : tally (without nat_cmp es k) ≤ tally es → (b : Bool) → tally (cond b es (e ∷ without nat_cmp es k)) ≤ tally (e ∷ es)
    by rest true = let u = tally-cons e es (test e.1) refl in omega (arith, u)
    by rest false = let t = tally-cons e (without nat_cmp es k) (test e.1) refl in let u = tally-cons e es (test e.1) refl in omega (arith, t, u, rest)

  -- as many as before, where the row that is there has the property as the new one has it
  pub tally-same : (rows : List (ℕ × X)) (k : ℕ) (old x : X) → IsRising nat_cmp rows → find nat_cmp rows k ≡ Some old → test x ≡ test old → tally (put nat_cmp rows k x) ≡ tally rows
  unfolding IsStrictlySortedBy
  tally-same [] k old x r is same = absurd (none-some old is)
  tally-same (e ∷ es) k old x r is same = by (tally-same es k old x r.1) (nat_cmp k e.0) refl is where
    by : (find nat_cmp es k ≡ Some old → test x ≡ test old → tally (put nat_cmp es k x) ≡ tally es) → (o : Ordering) → nat_cmp k e.0 ≡ o → cond (is_eq o) (Some e.1) (find nat_cmp es k) ≡ Some old
        → tally (match_ordering o ((k, x) ∷ e ∷ es) ((e.0, x) ∷ es) (e ∷ put nat_cmp es k x)) ≡ tally (e ∷ es)
    by rest Less i there = absurd (none-some old (sym (less-none nat_cmp number_key nat_cmp_total k es (above-all nat_cmp number_key nat_cmp_total k e.0 es i r.0)) ∙ there))
    by rest Equal i there = let t = tally-cons (e.0, x) es (test e.1) (same ∙ ap test (sym (same_some there))) in let u = tally-cons e es (test e.1) refl in omega (arith, t, u)
    by rest Greater i there = let t = tally-cons e (put nat_cmp es k x) (test e.1) refl in let u = tally-cons e es (test e.1) refl in let m = rest there same in omega (arith, t, u, m)
