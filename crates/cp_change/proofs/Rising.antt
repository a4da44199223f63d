-- A change leaves members by rising number, one at least.
use Rattle.std.proofs.Common.{◌≡◌, ◌≢◌, ◌==◌, ◌<◌, ◌≤◌, ◌&&◌, ◌||◌, not, ℕ, ⊎_elim, Bool, true, false, List, [], ◌∷◌, length, refl, Option, Some, None, true≢false, nat_lt, if◌then◌else◌, arith}
use Rattle.std.proofs.lemmas.Bool.{cases_Bool, lt-ltb, ltb-true, ltb-false, eqb-false, and_parts}
use Rattle.cp_rules.specs.declared.change.Change.{Change}
use Rattle.cp_rules.specs.Persistent.{is_member}
use Rattle.cp_rules.specs.Changes.{may_change, with_member, without_member}
use Rattle.cp_change.specs.Decisions.{unfit}
use Rattle.cp_change.specs.Laws.{is_rising, AreMembers, ChangesLeaveMembers}

-- ---- rising members, as facts

record Rises (lowest m : ℕ) (ms : List ℕ) : Type 0 where
  above : lowest < m
  below : m < 10
  rest : is_rising m ms ≡ true

rises : (lowest m : ℕ) (ms : List ℕ) → is_rising lowest (m ∷ ms) ≡ true → Rises lowest m ms
rises lowest m ms h =
    let a = and_parts (nat_lt lowest m) (nat_lt m 10 && is_rising m ms) h in
    let b = and_parts (nat_lt m 10) (is_rising m ms) a.1 in
    record { above = ltb-true lowest m a.0; below = ltb-true m 10 b.0; rest = b.1 }

risen : (lowest m : ℕ) (ms : List ℕ) → lowest < m → m < 10 → is_rising m ms ≡ true → is_rising lowest (m ∷ ms) ≡ true
risen lowest m ms above below rest = rw (lt-ltb lowest m above, lt-ltb m 10 below) rest

-- a bound that is lower
lower : (low lowest : ℕ) (ms : List ℕ) → low < lowest → is_rising lowest ms ≡ true → is_rising low ms ≡ true
lower low lowest [] less h = refl
lower low lowest (m ∷ ms) less h = let r = rises lowest m ms h in let a = r.above in risen low m ms (omega (arith, a, less)) r.below r.rest

-- ---- one more

more_rise : (lowest x : ℕ) (ms : List ℕ) → lowest < x → x < 10 → is_member x ms ≡ false → is_rising lowest ms ≡ true → is_rising lowest (with_member x ms) ≡ true
more_rise lowest x [] above below absent h = risen lowest x [] above below refl
more_rise lowest x (m ∷ ms) above below absent h = ⊎_elim
    (λ (less : nat_lt x m ≡ true).
    let r = rises lowest m ms h in
    rw less (risen lowest x (m ∷ ms) above below (risen x m ms (ltb-true x m less) r.below r.rest)))
    (λ (not_less : nat_lt x m ≡ false).
    let r = rises lowest m ms h in
    let apart = neither (m == x) (is_member x ms) absent in
    let le = ltb-false x m not_less in
    rw not_less (risen lowest m (with_member x ms) r.above r.below (more_rise m x ms (strictly m x le apart.0) below apart.1 r.rest)))
    (cases_Bool (nat_lt x m))
  where
    neither : (a b : Bool) → (a || b) ≡ false → (a ≡ false) × (b ≡ false)
    neither false false h = (refl, refl)
    neither false true h = absurd (true≢false h)
    neither true b h = absurd (true≢false h)

    strictly : (m x : ℕ) → m ≤ x → (m == x) ≡ false → m < x
    strictly m x le h = let ne : m ≢ x = eqb-false m x h in omega (arith, le, ne)

with_some : (x : ℕ) (ms : List ℕ) → 0 < length (with_member x ms)
with_some x [] = omega arith
with_some x (m ∷ ms) = ⊎_elim
    (λ (h : nat_lt x m ≡ true). rw h (omega arith))
    (λ (h : nat_lt x m ≡ false). rw h (omega arith))
    (cases_Bool (nat_lt x m))

-- ---- one less

fewer_rise : (lowest x : ℕ) (ms : List ℕ) → is_rising lowest ms ≡ true → is_rising lowest (without_member x ms) ≡ true
fewer_rise lowest x [] h = refl
fewer_rise lowest x (m ∷ ms) h = ⊎_elim
    (λ (e : (m == x) ≡ true). let r = rises lowest m ms h in rw e (lower lowest m ms r.above r.rest))
    (λ (e : (m == x) ≡ false). let r = rises lowest m ms h in rw e (risen lowest m (without_member x ms) r.above r.below (fewer_rise m x ms r.rest)))
    (cases_Bool (m == x))

without_some : (x : ℕ) (ms : List ℕ) → 1 < length ms → 0 < length (without_member x ms)
without_some x [] h = absurd (omega (arith, h))
without_some x (m ∷ ms) h = ⊎_elim
    (λ (e : (m == x) ≡ true). rw e (omega (arith, h)))
    (λ (e : (m == x) ≡ false). rw e (omega arith))
    (cases_Bool (m == x))

-- ---- a change that is not refused

unrefused : {A : Type 0} (c : Bool) (x : A) (next : Option A) → (if c then Some x else next) ≡ None → (c ≡ false) × (next ≡ None)
unrefused true x next h = absurd (cc)
unrefused false x next h = (refl, h)

fit : (index : ℕ) (members : List ℕ) (change : Change) (commit committed_term term : ℕ) → may_change index members change commit committed_term term ≡ None → unfit change members ≡ None
fit index members change commit committed_term term h =
    let a = unrefused (not (change.expected == index)) _ _ h in
    let b = unrefused (nat_lt commit index) _ _ a.1 in
    (unrefused (not (committed_term == term)) _ _ b.1).1

leaves : (add : Bool) (x : ℕ) (members : List ℕ) → unfit (record { add = add; member = record { 0 = x }; expected = 0 }) members ≡ None → 0 < x → x < 10 → AreMembers members → AreMembers (if add then with_member x members else without_member x members)
leaves true x members h low high are = let a = unrefused (is_member x members) _ _ h in record { rising = more_rise 0 x members low high a.0 are.rising; some = with_some x members }
leaves false x members h low high are =
    let a = unrefused (not (is_member x members)) _ _ h in
    let b = unrefused (length members == 1) _ _ a.1 in
    record { rising = fewer_rise 0 x members are.rising; some = without_some x members (several (length members) are.some b.0) }
  where
    several : (n : ℕ) → 0 < n → (n == 1) ≡ false → 1 < n
    several n some h = let ne : n ≢ 1 = eqb-false n 1 h in omega (arith, some, ne)

pub changes_leave_members : ChangesLeaveMembers
changes_leave_members index members change commit committed_term term allowed low high are =
    leaves change.add change.member.0 members (fit index members change commit committed_term term allowed) (omega (arith, low)) (omega (arith, high)) are
