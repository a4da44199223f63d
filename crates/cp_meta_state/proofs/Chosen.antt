-- Members by rising number, and those that a new group stands on.
use Rattle.std.proofs.Common.{◌≡◌, ℕ, zero, suc, ◌+◌, ◌-◌, ◌^◌, ◌<◌, ◌≤◌, Bool, true, false, inl, inr, List, [], ◌∷◌, ◌++◌, length, Some, refl, ap, sym, ◌∙◌, subst, arith, cond}
use Rattle.std.specs.Prelude.{◌==◌, nat_lt, nat_le, slice_get}
use Rattle.std.specs.declared.cmp.Ordering.TheVariants.{Less}
use Rattle.std.specs.Ordering.{nat_cmp}
use Rattle.std.specs.List.{filter, AllByRecursion}
use Rattle.std.specs.List.Sorted.{IsStrictlySortedBy}
use Rattle.std.specs.Map.{keys_of}
use Rattle.std.proofs.lemmas.Bool.Decides.{nat_tests}
use Rattle.std.proofs.lemmas.List.{length-append}
use Rattle.std.proofs.lemmas.Map.Entries.{length-keys_of}
use Rattle.cp_base.proofs.Tests.{no_true}
use Rattle.cp_base.specs.declared.limits.TheConstants.{MOST_MEMBER}
use Rattle.cp_grammar.specs.Lists.{ItemsFit}
use Rattle.cp_grammar.specs.Common as spelled
use Rattle.cp_grammar.specs.Common.{last_number, member_after}
use Rattle.cp_group_state.specs.Invariants.{IsRising}
use Rattle.cp_group_state.proofs.Walk.{either}
use Rattle.cp_meta_state.specs.MetaState.{MetaState, Standing, Standings, Groups, Moves, numbers, is_active, those, active}
use Rattle.cp_meta_state.specs.Loads.{loaded, is_before, lightest}
use Rattle.cp_meta_state.specs.Creating.{chosen}
use Rattle.cp_meta_state.specs.Ranges.{MemberFits}
use Rattle.cp_meta_state.proofs.Among.{Among, each-weaker}
use Rattle.cp_meta_state.proofs.Keeping.{test_not_less}
use Rattle.cp_meta_state.proofs.Walk.{keys-loaded}

-- numbers of members, each above the one before it, the first above `b`
abbrev pub AreMembers : ℕ → List ℕ → Type 0
AreMembers b [] = Unit {0}
AreMembers b (m ∷ ms) = (b < m) × ((m ≤ MOST_MEMBER) × AreMembers m ms)

lower : (a b : ℕ) (ms : List ℕ) → a ≤ b → AreMembers b ms → AreMembers a ms
lower a b [] le h = tt
lower a b (m ∷ ms) le h = (let less = h.0 in omega (arith, le, less), h.1)

pub few_members : (b : ℕ) (ms : List ℕ) → b ≤ MOST_MEMBER → AreMembers b ms → length ms + b ≤ MOST_MEMBER
few_members b [] le h = omega (arith, le)
few_members b (m ∷ ms) le h = let rest = few_members m ms h.1.0 h.1.1 in let less = h.0 in omega (arith, rest, less)

-- ---- their spelling

get-last : (xs : List ℕ) (x : ℕ) → slice_get (xs ++ x ∷ []) (length xs) ≡ Some x
get-last [] x = refl
get-last (y ∷ xs) x = get-last xs x

last-push : (before : List ℕ) (m : ℕ) → last_number (before ++ m ∷ []) ≡ m
last-push before m =
    let place : length (before ++ m ∷ []) - 1 ≡ length before = omega (arith, length-append before (m ∷ [])) in
    rw (place, get-last before m) refl

less_true : (a b : ℕ) → a < b → nat_lt a b ≡ true
less_true a b h = grind (arith, nat_tests)

le_true : (a b : ℕ) → a ≤ b → nat_le a b ≡ true
le_true a b h = grind (arith, nat_tests)

items_fit : (before ms : List ℕ) → AreMembers (last_number before) ms → ItemsFit member_after before ms
unfolding ItemsFit member_after
items_fit before [] h = tt
items_fit before (m ∷ ms) h = ((h.1.0, less_true (last_number before) m h.0), items_fit (before ++ m ∷ []) ms (subst (λ (b : ℕ). AreMembers b ms) (sym (last-push before m)) h.1.1))

pub members_fit : (ms : List ℕ) → AreMembers 0 ms → 1 ≤ length ms → spelled.members.Fits ms
unfolding spelled.members
members_fit ms h some = let few = few_members 0 ms (omega arith) h in ((omega (arith, few), le_true 1 (length ms) some), (refl, items_fit [] ms h))

-- ---- those of a state

less_is : (a b : ℕ) → nat_cmp a b ≡ Less → a < b
less_is a b h = grind (arith, nat_tests)

pub are_members : {X : Type 0} (b : ℕ) (rows : List (ℕ × X)) → AllByRecursion (λ (k : ℕ). b < k) (keys_of rows) → IsRising nat_cmp rows → AllByRecursion (λ (e : ℕ × X). e.0 ≤ MOST_MEMBER) rows → AreMembers b (keys_of rows)
unfolding IsStrictlySortedBy
are_members b [] above rising fit = tt
are_members b (e ∷ es) above rising fit = (above.0, (fit.0, are_members e.0 es (each-weaker (λ (k : ℕ). nat_cmp e.0 k ≡ Less) (λ (k : ℕ). e.0 < k) (λ k l. less_is e.0 k l) (keys_of es) rising.0) rising.1 fit.1))

above_none : (rows : Standings) → AllByRecursion MemberFits rows → AllByRecursion (λ (k : ℕ). 0 < k) (keys_of rows)
above_none [] h = tt
above_none (e ∷ es) h = (let least = h.0.least in omega (arith, least), above_none es h.1)

pub all_are_members : (rows : Standings) → IsRising nat_cmp rows → AllByRecursion MemberFits rows → AreMembers 0 (keys_of rows)
all_are_members rows rising fit = are_members 0 rows (above_none rows fit) rising (each-weaker MemberFits (λ (e : ℕ × Standing). e.0 ≤ MOST_MEMBER) (λ e h. h.most) rows fit)

pub some_are_members : {X : Type 0} (b : ℕ) (test : ℕ × X → Bool) (rows : List (ℕ × X)) → AreMembers b (keys_of rows) → AreMembers b (keys_of (filter test rows))
some_are_members b test [] h = tt
some_are_members {X} b test (e ∷ es) h = either (λ (rows : List (ℕ × X)). AreMembers b (keys_of rows)) (test e) (e ∷ filter test es) (filter test es)
    (h.0, (h.1.0, some_are_members e.0 test es h.1.1)) (lower b e.0 (keys_of (filter test es)) (let less = h.0 in omega (arith, less)) (some_are_members e.0 test es h.1.1))

pub numbers_are_members : (n from b : ℕ) → b < from → n + from ≤ MOST_MEMBER + 1 → AreMembers b (numbers n from)
numbers_are_members zero from b less few = tt
numbers_are_members (suc n) from b less few = (less, (omega (arith, few), numbers_are_members n (from + 1) from (omega arith) (omega (arith, few))))

pub length-numbers : (n from : ℕ) → length (numbers n from) ≡ n
length-numbers zero from = refl
length-numbers (suc n) from = let rest = length-numbers n (from + 1) in omega (arith, rest)

-- ---- those of least load

not_itself : (x u : ℕ) → is_before (x, u) (x, u) ≡ false
not_itself x u = grind (arith, nat_tests)

before_least : (a b p q m n : ℕ) → is_before (p, q) (m, n) ≡ true → is_before (a, b) (m, n) ≡ false → is_before (a, b) (p, q) ≡ false
before_least a b p q m n f g = grind (arith, nat_tests)

-- one that no other comes before
least : (p : ℕ × ℕ) (ps : List (ℕ × ℕ)) → (m : ℕ × ℕ) × (Among m (p ∷ ps) × AllByRecursion (λ (a : ℕ × ℕ). is_before a m ≡ false) (p ∷ ps))
least p [] = (p, (inl refl, (not_itself p.0 p.1, tt)))
least p (q ∷ qs) = by (least q qs) where
  pick : (m : ℕ × ℕ) → Among m (q ∷ qs) → AllByRecursion (λ (a : ℕ × ℕ). is_before a m ≡ false) (q ∷ qs) → (b : Bool) → is_before p m ≡ b
      → (m : ℕ × ℕ) × (Among m (p ∷ q ∷ qs) × AllByRecursion (λ (a : ℕ × ℕ). is_before a m ≡ false) (p ∷ q ∷ qs))
  pick m at all true is = (p, (inl refl, (not_itself p.0 p.1, each-weaker (λ (a : ℕ × ℕ). is_before a m ≡ false) (λ (a : ℕ × ℕ). is_before a p ≡ false) (λ a far. before_least a.0 a.1 p.0 p.1 m.0 m.1 is far) (q ∷ qs) all)))
  pick m at all false is = (m, (inr at, (is, all)))

  by : (m : ℕ × ℕ) × (Among m (q ∷ qs) × AllByRecursion (λ (a : ℕ × ℕ). is_before a m ≡ false) (q ∷ qs)) → (m : ℕ × ℕ) × (Among m (p ∷ q ∷ qs) × AllByRecursion (λ (a : ℕ × ℕ). is_before a m ≡ false) (p ∷ q ∷ qs))
  by r = pick r.0 r.1.0 r.1.1 (is_before p r.0) refl

none_pass : {X : Type 0} (test : X → Bool) (xs : List X) → AllByRecursion (λ (x : X). test x ≡ false) xs → length (filter test xs) ≡ 0
none_pass test [] h = refl
none_pass test (x ∷ xs) h = rw h.0 (none_pass test xs h.1)

one_passes : {X : Type 0} (test : X → Bool) (xs : List X) (x : X) → Among x xs → test x ≡ true → 1 ≤ length (filter test xs)
one_passes test [] x at is = absurd at
one_passes {X} test (y ∷ ys) x (inl same) is = let here : test y ≡ true = ap test (sym same) ∙ is in rw here (omega arith)
one_passes {X} test (y ∷ ys) x (inr behind) is = either (λ (r : List X). 1 ≤ length r) (test y) (y ∷ filter test ys) (filter test ys) (omega arith) (one_passes test ys x behind is)

some_lightest : (size : ℕ) (ps : List (ℕ × ℕ)) → 1 ≤ size → 1 ≤ length ps → 1 ≤ length (lightest size ps)
some_lightest size [] some any = absurd (omega (arith, any))
some_lightest size (p ∷ ps) some any =
    let l = least p ps in
    let none : length (filter (λ a. is_before a l.0) (p ∷ ps)) ≡ 0 = none_pass (λ a. is_before a l.0) (p ∷ ps) l.1.1 in
    let passes : nat_lt (length (filter (λ a. is_before a l.0) (p ∷ ps))) size ≡ true = less_true _ _ (omega (arith, none, some)) in
    let kept : 1 ≤ length (filter (λ m. nat_lt (length (filter (λ a. is_before a m) (p ∷ ps))) size) (p ∷ ps)) = one_passes (λ m. nat_lt (length (filter (λ a. is_before a m) (p ∷ ps))) size) (p ∷ ps) l.0 l.1.0 passes in
    let long = length-keys_of (filter (λ m. nat_lt (length (filter (λ a. is_before a m) (p ∷ ps))) size) (p ∷ ps)) in
    omega (arith, kept, long)

length-loaded : (groups : Groups) (moves : Moves) (ms : List ℕ) → length (loaded groups moves ms) ≡ length ms
length-loaded groups moves [] = refl
length-loaded groups moves (m ∷ ms) = let rest = length-loaded groups moves ms in omega (arith, rest)

-- the members of a new group are in order, and there are some
pub chosen_fit : (size : ℕ) (s : MetaState) → 1 ≤ size → nat_lt (length (active s)) size ≡ false → IsRising nat_cmp s.members → AllByRecursion MemberFits s.members → spelled.members.Fits (chosen size s)
chosen_fit size s some enough rising fit =
    let ms : AreMembers 0 (active s) = some_are_members 0 (λ e. is_active e.1) s.members (all_are_members s.members rising fit) in
    let ps : AreMembers 0 (keys_of (loaded s.groups s.moves (active s))) = subst (λ (r : List ℕ). AreMembers 0 r) (sym (keys-loaded s.groups s.moves (active s))) ms in
    let long : size ≤ length (active s) = test_not_less (length (active s)) size enough in
    let any : 1 ≤ length (loaded s.groups s.moves (active s)) = omega (arith, long, some, length-loaded s.groups s.moves (active s)) in
    members_fit (chosen size s)
    (some_are_members 0 (λ m. nat_lt (length (filter (λ a. is_before a m) (loaded s.groups s.moves (active s)))) size) (loaded s.groups s.moves (active s)) ps)
    (some_lightest size (loaded s.groups s.moves (active s)) some any)
