-- What a part changes, and what it leaves.
use Rattle.std.proofs.Common.{◌≡◌, ◌≢◌, ℕ, List, [], ◌∷◌, cond, refl, ◌∙◌, ap, arith}
use Rattle.std.specs.Prelude.{Bool, true, false, Option, Some}
use Rattle.std.specs.Ordering.{nat_cmp}
use Rattle.std.specs.BTreeMap.{is_at}
use Rattle.std.specs.Map.{lookup, set_value}
use Rattle.std.proofs.lemmas.Bool.Decides.{nat_tests}
use Rattle.cp_log_rules.specs.Persistent.{PersistentState}
use Rattle.cp_log_rules.specs.Durable.{DurableState, group_at, group_in, with_group}

apart : (g h k : ℕ) → h ≢ g → is_at (nat_cmp g) k ≡ true → is_at (nat_cmp h) k ≡ false
apart g h k other is = grind (arith, nat_tests)

module _ {X : Type 0} (p : ℕ → Bool) where
  here : (is : Bool) (e : ℕ × X) (es set : List (ℕ × X)) (r w : X) → p e.0 ≡ is → (lookup p es ≡ Some r → lookup p set ≡ Some w) → cond is (Some e.1) (lookup p es) ≡ Some r → lookup p (cond is ((e.0, w) ∷ es) (e ∷ set)) ≡ Some w
  here true e es set r w test on is = rw test refl
  here false e es set r w test on is = rw test (on is)

  -- the value that was set is found
  pub set_here : (es : List (ℕ × X)) (r w : X) → lookup p es ≡ Some r → lookup p (set_value p es w) ≡ Some w
  set_here [] r w is = absurd cc
  set_here (e ∷ es) r w is = here (p e.0) e es (set_value p es w) r w refl (set_here es r w) is

  there : (q : ℕ → Bool) (is : Bool) (e : ℕ × X) (es set : List (ℕ × X)) (w : X) → (is ≡ true → q e.0 ≡ false) → lookup q set ≡ lookup q es → lookup q (cond is ((e.0, w) ∷ es) (e ∷ set)) ≡ cond (q e.0) (Some e.1) (lookup q es)
  there q true e es set w other on = rw (other refl) refl
  there q false e es set w other on = ap (λ (o : Option X). cond (q e.0) (Some e.1) o) on

  -- and another is as it was
  pub set_there : (q : ℕ → Bool) → ((k : ℕ) → p k ≡ true → q k ≡ false) → (es : List (ℕ × X)) (w : X) → lookup q (set_value p es w) ≡ lookup q es
  set_there q other [] w = refl
  set_there q other (e ∷ es) w = there q (p e.0) e es (set_value p es w) w (λ is. other e.0 is) (set_there q other es w)

-- A change of one group changes that group.
pub group_changed : (g : ℕ) (change : PersistentState → PersistentState) (s : DurableState) (r : PersistentState) → group_at s g ≡ Some r → group_at (with_group g change s) g ≡ Some (change r)
group_changed g change s r is =
    set_here (is_at (nat_cmp g)) s.groups r (change (group_in s g)) is ∙ rw is refl

-- It leaves the others.
pub others_stay : (g h : ℕ) (change : PersistentState → PersistentState) (s : DurableState) → h ≢ g → group_at (with_group g change s) h ≡ group_at s h
others_stay g h change s other = set_there (is_at (nat_cmp g)) (is_at (nat_cmp h)) (λ k is. apart g h k other is) s.groups (change (group_in s g))
