-- Walks over the rows of a list.
use Rattle.std.proofs.Common.{◌≡◌, ℕ, suc, ◌-◌, ◌^◌, ◌<◌, ◌≤◌, ◌⊎◌, inl, inr, min, arith, not, length, true, false, List, [], ◌∷◌, ◌++◌, refl, ap, sym, ◌∙◌, append_assoc}
use Rattle.std.specs.Prelude.{nat_lt, nat_le, ◌==◌}
use Rattle.std.proofs.lemmas.Bool.{cases_lt}
use Rattle.std.proofs.lemmas.Bool.Decides.{nat_tests}
use Rattle.std.specs.List.{fold}
use Rattle.std.specs.Ordering.{nat_cmp}
use Rattle.cp_group_state.specs.Rows.{put}
use Rattle.cp_meta_state.specs.declared.rows.Standing.{Standing}
use Rattle.cp_meta_state.specs.declared.rows.GroupRow.{GroupRow}
use Rattle.cp_meta_state.specs.MetaState.{Standings, Groups, Moves, is_active, is_leaving, is_in, those}
use Rattle.cp_meta_state.specs.Leaving.{move_away, one_for}

-- one more active member
pub active_more : (done next total : List ℕ) (m : ℕ) (how : Standing) (left rest : Standings) → left ≡ (m, how) ∷ rest → is_active how ≡ true → next ≡ done ++ m ∷ [] → done ++ those is_active left ≡ total → next ++ those is_active rest ≡ total
active_more done next total m how left rest first is push so_far =
    ap (λ (r : List ℕ). r ++ those is_active rest) push
    ∙ append_assoc done (m ∷ []) (those is_active rest)
    ∙ ap (λ (r : List ℕ). done ++ r) (sym (head m how rest is))
    ∙ ap (λ (r : Standings). done ++ those is_active r) (sym first)
    ∙ so_far
  where
    head : (m : ℕ) (how : Standing) (rest : Standings) → is_active how ≡ true → those is_active ((m, how) ∷ rest) ≡ m ∷ those is_active rest
    head m how rest is = rw is refl

-- a member that is leaving, one that isn't, and none
pub some_leaving : (m : ℕ) (how : Standing) (left rest all : Standings) → left ≡ (m, how) ∷ rest → is_leaving how ≡ true → those is_leaving left ≡ those is_leaving all → true ≡ not (length (those is_leaving all) == 0)
some_leaving m how left rest all first is so_far =
    sym (some (length (those is_leaving rest)))
    ∙ ap (λ (ms : List ℕ). not (length ms == 0)) (sym head ∙ sym (ap (λ (r : Standings). those is_leaving r) first) ∙ so_far)
  where
    head : those is_leaving ((m, how) ∷ rest) ≡ m ∷ those is_leaving rest
    head = rw is refl

    some : (n : ℕ) → not (suc n == 0) ≡ true
    some n = grind (arith, nat_tests)

pub not_leaving : (m : ℕ) (how : Standing) (left rest all : Standings) → left ≡ (m, how) ∷ rest → is_leaving how ≡ false → those is_leaving left ≡ those is_leaving all → those is_leaving rest ≡ those is_leaving all
not_leaving m how left rest all first is so_far = sym behind ∙ sym (ap (λ (r : Standings). those is_leaving r) first) ∙ so_far where
  behind : those is_leaving ((m, how) ∷ rest) ≡ those is_leaving rest
  behind = rw is refl

pub none_leaving : (left all : Standings) → left ≡ [] → those is_leaving left ≡ those is_leaving all → false ≡ not (length (those is_leaving all) == 0)
none_leaving left all none so_far = sym (ap (λ (ms : List ℕ). not (length ms == 0)) (sym so_far ∙ ap (λ (r : Standings). those is_leaving r) none))

-- a group with the member gets a move
pub one_away : (m : ℕ) (groups : Groups) (others : List ℕ) (moves next total : Moves) (group : ℕ) (row : GroupRow) (add : ℕ) (left rest : Groups)
    → left ≡ (group, row) ∷ rest → is_in row.members m ≡ true → add ≡ one_for row.members groups moves others
    → next ≡ put nat_cmp moves group (record { plan = row.index; add = add; remove = m })
    → fold (move_away m groups others) moves left ≡ total → fold (move_away m groups others) next rest ≡ total
one_away m groups others moves next total group row add left rest first is chosen made so_far =
    ap (λ (t : Moves). fold (move_away m groups others) t rest) (made ∙ ap (λ (a : ℕ). put nat_cmp moves group (record { plan = row.index; add = a; remove = m })) chosen ∙ sym (moved m groups others moves group row is))
    ∙ ap (λ (r : Groups). fold (move_away m groups others) moves r) (sym first)
    ∙ so_far
  where
    moved : (m : ℕ) (groups : Groups) (others : List ℕ) (moves : Moves) (group : ℕ) (row : GroupRow) → is_in row.members m ≡ true
        → move_away m groups others moves (group, row) ≡ put nat_cmp moves group (record { plan = row.index; add = one_for row.members groups moves others; remove = m })
    moved m groups others moves group row is = rw is refl

-- a group without the member gets none
pub none_away : (m : ℕ) (groups : Groups) (others : List ℕ) (moves total : Moves) (group : ℕ) (row : GroupRow) (left rest : Groups)
    → left ≡ (group, row) ∷ rest → is_in row.members m ≡ false → fold (move_away m groups others) moves left ≡ total → fold (move_away m groups others) moves rest ≡ total
none_away m groups others moves total group row left rest first is so_far =
    ap (λ (t : Moves). fold (move_away m groups others) t rest) (sym (stays m groups others moves group row is))
    ∙ ap (λ (r : Groups). fold (move_away m groups others) moves r) (sym first)
    ∙ so_far
  where
    stays : (m : ℕ) (groups : Groups) (others : List ℕ) (moves : Moves) (group : ℕ) (row : GroupRow) → is_in row.members m ≡ false → move_away m groups others moves (group, row) ≡ moves
    stays m groups others moves group row is = rw is refl

pub all_away : (m : ℕ) (groups : Groups) (others : List ℕ) (moves total : Moves) (left : Groups) → left ≡ [] → fold (move_away m groups others) moves left ≡ total → moves ≡ total
all_away m groups others moves total left none so_far = ap (λ (r : Groups). fold (move_away m groups others) moves r) (sym none) ∙ so_far

-- ---- how many groups are given up

least : (n : ℕ) → (n < 2 ^ 64) ⊎ (2 ^ 64 ≤ n) → (min n (2 ^ 64 - 1) ≡ n) ⊎ ((2 ^ 64 - 1 ≤ min n (2 ^ 64 - 1)) × (2 ^ 64 ≤ n))
least n (inl few) = inl (omega (arith, few))
least n (inr more) = inr (omega (arith, more), more)

test_of_less : (a b : ℕ) → a < b → nat_lt a b ≡ true
test_of_less a b h = grind (arith, nat_tests)

test_of_more : (a b : ℕ) → b ≤ a → nat_lt a b ≡ false
test_of_more a b h = grind (arith, nat_tests)

test_of_le : (a b : ℕ) → a ≤ b → nat_le a b ≡ true
test_of_le a b h = grind (arith, nat_tests)

test_of_above : (a b : ℕ) → b < a → nat_le a b ≡ false
test_of_above a b h = grind (arith, nat_tests)

pub few_told : (n : ℕ) → nat_lt (min n (2 ^ 64 - 1)) 10000 ≡ nat_lt n 10000
few_told n = by (least n (cases_lt n (2 ^ 64))) where
  by : (min n (2 ^ 64 - 1) ≡ n) ⊎ ((2 ^ 64 - 1 ≤ min n (2 ^ 64 - 1)) × (2 ^ 64 ≤ n)) → nat_lt (min n (2 ^ 64 - 1)) 10000 ≡ nat_lt n 10000
  by (inl same) = ap (λ (k : ℕ). nat_lt k 10000) same
  by (inr more) = let l = more.0 in let m = more.1 in test_of_more (min n (2 ^ 64 - 1)) 10000 (omega (arith, l)) ∙ sym (test_of_more n 10000 (omega (arith, m)))

pub few_still : (n : ℕ) → nat_le (min n (2 ^ 64 - 1)) 10000 ≡ nat_le n 10000
few_still n = by (least n (cases_lt n (2 ^ 64))) where
  by : (min n (2 ^ 64 - 1) ≡ n) ⊎ ((2 ^ 64 - 1 ≤ min n (2 ^ 64 - 1)) × (2 ^ 64 ≤ n)) → nat_le (min n (2 ^ 64 - 1)) 10000 ≡ nat_le n 10000
  by (inl same) = ap (λ (k : ℕ). nat_le k 10000) same
  by (inr more) = let l = more.0 in let m = more.1 in test_of_above (min n (2 ^ 64 - 1)) 10000 (omega (arith, l)) ∙ sym (test_of_above n 10000 (omega (arith, m)))
