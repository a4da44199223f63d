-- A configuration has at most eight members but oneself, whether one is in it or not: members rise from 1 to 9.
use Rattle.std.proofs.Common.{◌≡◌, ◌≢◌, ◌==◌, ◌≤◌, ◌<◌, ◌+◌, ◌-◌, ℕ, suc, Bool, true, false, List, [], ◌∷◌, ◌++◌, length, refl, ap, ◌∙◌, arith, ltb-true, ltb-false, ⊎_elim, nat_lt}
use Rattle.std.specs.Prelude.{Some, slice_get}
use Rattle.std.proofs.lemmas.Bool.{cases_Bool}
use Rattle.std.proofs.lemmas.Bool.Decides.{nat_tests}
use Rattle.std.proofs.lemmas.List.{length-append}
use Rattle.cp_grammar.specs.Lists.{ItemsFit}
use Rattle.cp_grammar.specs.Common as common
use Rattle.cp_grammar.specs.Common.{member_after, last_number, or_zero}
use Rattle.cp_log_rules.specs.Persistent.{PersistentState}
use Rattle.cp_rules.specs.Persistent.{members, others}
use Rattle.cp_rules_ranges.specs.Ranges.{IsMember, StoredIsInRange}
use Rattle.cp_rules_ranges.proofs.Members.{after_fits}

-- ---- a front of a configuration, and what follows it

get_last : (xs : List ℕ) (x : ℕ) → slice_get (xs ++ x ∷ []) (length xs) ≡ Some x
get_last [] x = refl
get_last (y ∷ xs) x = get_last xs x

last_pushed : (before : List ℕ) (m : ℕ) → last_number (before ++ m ∷ []) ≡ m
last_pushed before m =
    let len : length (before ++ m ∷ []) - 1 ≡ length before = omega (arith, length-append before (m ∷ [])) in
    ap or_zero (ap (λ place. slice_get (before ++ m ∷ []) place) len ∙ get_last before m)

-- what follows has room up to 9
up_to_nine : (before ms : List ℕ) → last_number before ≤ 9 → ItemsFit member_after before ms → length ms + last_number before ≤ 9
unfolding member_after ItemsFit
up_to_nine before [] small fits = omega (arith, small)
up_to_nine before (m ∷ ms) small fits =
    let rest = up_to_nine (before ++ m ∷ []) ms (omega (arith, last_pushed before m, fits.0.0)) fits.1 in
    let above : last_number before < m = ltb-true (last_number before) m fits.0.1 in
    omega (arith, rest, last_pushed before m, above)

-- ---- the others

others_less : (me : ℕ) (ms : List ℕ) → length (others me ms) ≤ length ms
others_less me [] = omega arith
others_less me (m ∷ ms) = look (others_less me ms) (m == me) refl
  where
    look : length (others me ms) ≤ length ms → (t : Bool) → (m == me) ≡ t → length (others me (m ∷ ms)) ≤ suc (length ms)
    look rest true is = rw is (omega (arith, rest))
    look rest false is = rw is (omega (arith, rest))

past_another : (n k m me low : ℕ) → m ≢ me → low < m → low < me → k + m ≤ 9 → n ≤ k → (m < me → n + m ≤ 8) → suc n + low ≤ 8
past_another n k m me low apart above below few less more = ⊎_elim
    (λ (h : nat_lt m me ≡ true). let least : n + m ≤ 8 = more (ltb-true m me h) in omega (arith, least, above))
    (λ (h : nat_lt m me ≡ false). let greater : me ≤ m = ltb-false m me h in omega (arith, greater, apart, below, few, less))
    (cases_Bool (nat_lt m me))

-- one more in front
before_others : (me m low : ℕ) (ms : List ℕ) → low < m → low < me → length ms + m ≤ 9 → (m < me → length (others me ms) + m ≤ 8) → length (others me (m ∷ ms)) + low ≤ 8
before_others me m low ms above below few more = look (m == me) refl
  where
    rest : length (others me ms) ≤ length ms
    rest = others_less me ms

    look : (t : Bool) → (m == me) ≡ t → length (others me (m ∷ ms)) + low ≤ 8
    look true is = rw is (omega (arith, rest, above, few))
    look false is = let apart : m ≢ me = grind (arith, nat_tests) in rw is (past_another (length (others me ms)) (length ms) m me low apart above below few rest more)

few_others : (me : ℕ) (before ms : List ℕ) → me ≤ 9 → last_number before < me → ItemsFit member_after before ms → length (others me ms) + last_number before ≤ 8
unfolding member_after ItemsFit
few_others me before [] small low fits = omega (arith, small, low)
few_others me before (m ∷ ms) small low fits =
    let pushed : last_number (before ++ m ∷ []) ≡ m = last_pushed before m in
    let few : length ms + last_number (before ++ m ∷ []) ≤ 9 = up_to_nine (before ++ m ∷ []) ms (omega (arith, pushed, fits.0.0)) fits.1 in
    let above : last_number before < m = ltb-true (last_number before) m fits.0.1 in
    before_others me m (last_number before) ms above low (omega (arith, few, pushed))
    (λ (h : m < me). let more : length (others me ms) + last_number (before ++ m ∷ []) ≤ 8 = few_others me (before ++ m ∷ []) ms small (omega (arith, pushed, h)) fits.1 in omega (arith, more, pushed))

in_configuration : (me : ℕ) (ms : List ℕ) → IsMember me → common.members.Fits ms → length (others me ms) ≤ 8
unfolding common.members
in_configuration me ms is fits = let few : length (others me ms) + 0 ≤ 8 = few_others me [] ms is.last (omega (arith, is.first)) fits.1.1 in omega (arith, few)

pub others_few : (me : ℕ) (p : PersistentState) → IsMember me → StoredIsInRange p → length (others me (members p)) ≤ 8
others_few me p is range = in_configuration me (members p) is (after_fits p.base_config p.base p.log range.members)
