-- Rows without those of closed sessions.
use Rattle.std.proofs.Common.{◌≡◌, ℕ, Bool, true, false, not, ◌||◌, List, [], ◌∷◌, refl, sym, ap, ◌∙◌, cond, arith}
use Rattle.std.specs.Prelude.{◌==◌}
use Rattle.std.specs.List.{filter, AllByRecursion}
use Rattle.std.specs.List.Sorted.{IsStrictlySortedBy}
use Rattle.std.specs.declared.cmp.Ordering.TheVariants.{Less}
use Rattle.std.specs.Map.{keys_of}
use Rattle.std.specs.Ordering.{nat_cmp, is_eq}
use Rattle.std.proofs.lemmas.Bool.Decides.{nat_tests}
use Rattle.cp_group_state.specs.declared.rows.SessionRow.{SessionRow}
use Rattle.cp_group_state.specs.Rows.{without}
use Rattle.cp_group_state.specs.Sessions.{is_among}
use Rattle.cp_group_state.specs.Invariants.{IsRising}
use Rattle.cp_session.specs.Closings.{without_session, closed_each}

number_test : (s x : ℕ) → is_eq (nat_cmp s x) ≡ (s == x)
number_test s x = grind (arith, nat_tests)

above_apart : (s x y : ℕ) → (s == x) ≡ true → nat_cmp x y ≡ Less → (s == y) ≡ false
above_apart s x y e l = grind (arith, nat_tests)

all_others : (s x : ℕ) (rows : List (ℕ × SessionRow)) → (s == x) ≡ true → AllByRecursion (λ y. nat_cmp x y ≡ Less) (keys_of rows) → without_session s rows ≡ rows
all_others s x [] e all = refl
all_others s x (f ∷ fs) e all = rw (above_apart s x f.0 e all.0) (ap (λ (r : List (ℕ × SessionRow)). f ∷ r) (all_others s x fs e all.1))

-- a row that is taken out by its key is the only one of its session
pub without_one : (rows : List (ℕ × SessionRow)) (s : ℕ) → IsRising nat_cmp rows → without nat_cmp rows s ≡ without_session s rows
unfolding IsStrictlySortedBy
without_one [] s h = refl
without_one (e ∷ es) s h = rw (number_test s e.0) (by (without_one es s h.1) (s == e.0) refl) where
  by : without nat_cmp es s ≡ without_session s es → (b : Bool) → (s == e.0) ≡ b → cond b es (e ∷ without nat_cmp es s) ≡ cond (not b) (e ∷ without_session s es) (without_session s es)
  by rest true i = sym (all_others s e.0 es i h.0)
  by rest false i = ap (λ (r : List (ℕ × SessionRow)). e ∷ r) rest

none_closed : (rows : List (ℕ × SessionRow)) → filter (λ e. not (is_among [] e.0)) rows ≡ rows
none_closed [] = refl
none_closed (e ∷ es) = ap (λ (r : List (ℕ × SessionRow)). e ∷ r) (none_closed es)

one_closed : (rows : List (ℕ × SessionRow)) (s : ℕ) (sessions : List ℕ) → filter (λ e. not (is_among sessions e.0)) (without_session s rows) ≡ filter (λ e. not (is_among (s ∷ sessions) e.0)) rows
one_closed [] s sessions = refl
one_closed (e ∷ es) s sessions = by (one_closed es s sessions) (s == e.0) (is_among sessions e.0) refl where
  by : filter (λ x. not (is_among sessions x.0)) (without_session s es) ≡ filter (λ x. not (is_among (s ∷ sessions) x.0)) es
      → (b c : Bool) → is_among sessions e.0 ≡ c → filter (λ x. not (is_among sessions x.0)) (cond (not b) (e ∷ without_session s es) (without_session s es))
      ≡ cond (not (b || is_among sessions e.0)) (e ∷ filter (λ x. not (is_among (s ∷ sessions) x.0)) es) (filter (λ x. not (is_among (s ∷ sessions) x.0)) es)
  by rest true c h = rest
  by rest false true h = rw h rest
  by rest false false h = rw h (ap (λ (r : List (ℕ × SessionRow)). e ∷ r) rest)

-- one after the other they go as together
pub closed_all : (sessions : List ℕ) (rows : List (ℕ × SessionRow)) → closed_each sessions rows ≡ filter (λ e. not (is_among sessions e.0)) rows
closed_all [] rows = sym (none_closed rows)
closed_all (s ∷ sessions) rows = closed_all sessions (without_session s rows) ∙ one_closed rows s sessions

-- one goes alone
pub closed_one : (s : ℕ) (rows : List (ℕ × SessionRow)) → without_session s rows ≡ filter (λ e. not (is_among (s ∷ []) e.0)) rows
closed_one s rows = closed_all (s ∷ []) rows
