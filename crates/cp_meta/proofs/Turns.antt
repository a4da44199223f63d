-- One turn of a member that takes over groups.
use Rattle.std.proofs.Common.{◌≡◌, ℕ, zero, suc, ◌+◌, ◌-◌, ◌<◌, ◌≤◌, true, false, List, Option, Some, None, refl, ap, sym, ◌∙◌, arith}
use Rattle.std.specs.Prelude.{nat_lt}
use Rattle.std.specs.Option.{option_map}
use Rattle.std.specs.List.{find}
use Rattle.std.specs.Ordering.{nat_cmp}
use Rattle.std.proofs.lemmas.Bool.Decides.{nat_tests}
use Rattle.cp_group_state.specs.Rows.{put}
use Rattle.cp_meta_state.specs.declared.rows.GroupRow.{GroupRow}
use Rattle.cp_meta_state.specs.declared.rows.MoveRow.{MoveRow}
use Rattle.cp_meta_state.specs.MetaState.{Groups, Moves}
use Rattle.cp_meta_state.specs.Loads.{load}
use Rattle.cp_meta_state.specs.Joining.{can_move, giver, next_for, take_next, take_over}
use Rattle.cp_meta.specs.Turns.{move_for, next_move}

some-none : (x : ℕ × MoveRow) → Some x ≡ None → ⊥
some-none x e = cc

the-same : (x y : ℕ × MoveRow) → Some x ≡ Some y → x ≡ y
the-same x y e = cc

taken : (m from : ℕ) (o : Option (ℕ × GroupRow)) (rest : Moves → Moves) (moves : Moves) (x : ℕ × MoveRow) → option_map (move_for from m) o ≡ Some x → take_next m from o rest moves ≡ rest (put nat_cmp moves x.0 x.1)
taken m from None rest moves x e = cc
taken m from (Some g) rest moves x e = ap (λ (y : ℕ × MoveRow). rest (put nat_cmp moves y.0 y.1)) (the-same (move_for from m g) x e)

not-taken : (m from : ℕ) (o : Option (ℕ × GroupRow)) (rest : Moves → Moves) (moves : Moves) → option_map (move_for from m) o ≡ None → take_next m from o rest moves ≡ moves
not-taken m from None rest moves e = refl
not-taken m from (Some g) rest moves e = absurd (some-none _ e)

-- a move is made, and there is one turn less
pub one_turn : (left : ℕ) (m : ℕ) (members : List ℕ) (groups : Groups) (moves next total : Moves) (x : ℕ × MoveRow) → 0 < left → next_move m members groups moves ≡ Some x → next ≡ put nat_cmp moves x.0 x.1
    → take_over left m members groups moves ≡ total → take_over (left - 1) m members groups next ≡ total
one_turn zero m members groups moves next total x some is made so_far = absurd (omega (arith, some))
one_turn (suc n) m members groups moves next total x some is made so_far =
    let back : suc n - 1 ≡ n = omega arith in
    ap (λ (k : ℕ). take_over k m members groups next) back
    ∙ ap (λ (t : Moves). take_over n m members groups t) made
    ∙ sym (taken m (giver members groups moves).0 (next_for m (giver members groups moves) groups moves) (take_over n m members groups) moves x is)
    ∙ so_far

-- there is no move left to be made
pub last_turn : (left : ℕ) (m : ℕ) (members : List ℕ) (groups : Groups) (moves total : Moves) → 0 < left → next_move m members groups moves ≡ None
    → take_over left m members groups moves ≡ total → moves ≡ total
last_turn zero m members groups moves total some is so_far = absurd (omega (arith, some))
last_turn (suc n) m members groups moves total some is so_far = sym (not-taken m (giver members groups moves).0 (next_for m (giver members groups moves) groups moves) (take_over n m members groups) moves is) ∙ so_far

pub no_turn : (left : ℕ) (m : ℕ) (members : List ℕ) (groups : Groups) (moves total : Moves) → left ≤ 0 → take_over left m members groups moves ≡ total → moves ≡ total
no_turn zero m members groups moves total none so_far = so_far
no_turn (suc n) m members groups moves total none so_far = absurd (omega (arith, none))

-- ---- the next move

less_than : (l f : ℕ) → l < f - 1 → nat_lt (l + 1) f ≡ true
less_than l f h = grind (arith, nat_tests)

not_less_than : (l f : ℕ) → f - 1 ≤ l → nat_lt (l + 1) f ≡ false
not_less_than l f h = grind (arith, nat_tests)

pub next_some : (m : ℕ) (members : List ℕ) (groups : Groups) (moves : Moves) (from : ℕ × ℕ) (x : Option (ℕ × MoveRow)) → from ≡ giver members groups moves → load groups moves m < from.1 - 1
    → x ≡ option_map (move_for from.0 m) (find (can_move from.0 m moves) groups) → x ≡ next_move m members groups moves
next_some m members groups moves from x is less found =
    found ∙ ap (λ (o : Option (ℕ × GroupRow)). option_map (move_for from.0 m) o) (sym (takes (less_than (load groups moves m) from.1 less))) ∙ ap (λ (f : ℕ × ℕ). option_map (move_for f.0 m) (next_for m f groups moves)) is
  where
    takes : nat_lt (load groups moves m + 1) from.1 ≡ true → next_for m from groups moves ≡ find (can_move from.0 m moves) groups
    takes h = rw h refl

pub next_none : (m : ℕ) (members : List ℕ) (groups : Groups) (moves : Moves) (from : ℕ × ℕ) → from ≡ giver members groups moves → from.1 - 1 ≤ load groups moves m → None ≡ next_move m members groups moves
next_none m members groups moves from is more =
    ap (λ (o : Option (ℕ × GroupRow)). option_map (move_for from.0 m) o) (sym (takes (not_less_than (load groups moves m) from.1 more))) ∙ ap (λ (f : ℕ × ℕ). option_map (move_for f.0 m) (next_for m f groups moves)) is
  where
    takes : nat_lt (load groups moves m + 1) from.1 ≡ false → next_for m from groups moves ≡ None
    takes h = rw h refl
