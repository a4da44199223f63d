-- The rows of a map, and what they stand for.
use Rattle.std.proofs.Common.{◌≡◌, ℕ, List, [], ◌∷◌, cond, refl, sym, ◌∙◌, ap, arith}
use Rattle.std.specs.Prelude.{Bool, true, false, ◌||◌, Option, Some, None}
use Rattle.std.specs.Option.{option_map}
use Rattle.std.specs.declared.cmp.Ordering.{Ordering}
use Rattle.std.specs.declared.cmp.Ordering.TheVariants as ordering
use Rattle.std.specs.Ordering.{match_ordering, nat_cmp}
use Rattle.std.specs.BTreeMap.{insert_entry, is_at}
use Rattle.std.specs.BTreeSet.{insert_key}
use Rattle.std.specs.List.{list_any}
use Rattle.std.specs.Map.{keys_of, lookup, remove_entry, set_value}
use Rattle.std.specs.Set.{remove_key}
use Rattle.std.proofs.lemmas.Bool.Decides.{nat_tests}
use Rattle.std.proofs.lemmas.Map.Steps.{set_value_same}
use Rattle.cp_log_rules.specs.Persistent.{PersistentState}
use Rattle.cp_log_rules.specs.Durable.{changed_at, or_nobody}
use Rattle.cp_log.specs.declared.row.Row.{Row}
use Rattle.cp_log.specs.Rows.{rows_of, state_of}

module _ (test : ℕ → Bool) where
  lookup_one : (is : Bool) (row : Row) (o : Option Row) (p : Option PersistentState) → p ≡ option_map state_of o → cond is (Some (state_of row)) p ≡ option_map state_of (cond is (Some row) o)
  lookup_one true row o p rest = refl
  lookup_one false row o p rest = rest

  pub lookup_rows : (es : List (ℕ × Row)) → lookup test (rows_of es) ≡ option_map state_of (lookup test es)
  lookup_rows [] = refl
  lookup_rows (e ∷ es) = lookup_one (test e.0) e.1 (lookup test es) (lookup test (rows_of es)) (lookup_rows es)

  set_one : (is : Bool) (e : ℕ × Row) (es set : List (ℕ × Row)) (w : Row) (p : List (ℕ × PersistentState)) → rows_of set ≡ p → rows_of (cond is ((e.0, w) ∷ es) (e ∷ set)) ≡ cond is ((e.0, state_of w) ∷ rows_of es) ((e.0, state_of e.1) ∷ p)
  set_one true e es set w p rest = refl
  set_one false e es set w p rest = ap (λ (l : List (ℕ × PersistentState)). (e.0, state_of e.1) ∷ l) rest

  pub set_rows : (es : List (ℕ × Row)) (w : Row) → rows_of (set_value test es w) ≡ set_value test (rows_of es) (state_of w)
  set_rows [] w = refl
  set_rows (e ∷ es) w = set_one (test e.0) e es (set_value test es w) w (set_value test (rows_of es) (state_of w)) (set_rows es w)

-- one row changed is one group changed
pub row_changed : (group : ℕ) (old new : List (ℕ × Row)) (row w : Row) (change : PersistentState → PersistentState) → lookup (is_at (nat_cmp group)) old ≡ Some row → new ≡ set_value (is_at (nat_cmp group)) old w
    → state_of w ≡ change (state_of row) → rows_of new ≡ changed_at group change (rows_of old)
row_changed group old new row w change found set is =
    let test : ℕ → Bool = is_at (nat_cmp group) in
    let there : or_nobody (lookup test (rows_of old)) ≡ state_of row = ap or_nobody (lookup_rows test old ∙ ap (option_map state_of) found) in
    ap rows_of set ∙ set_rows test old w ∙ ap (set_value test (rows_of old)) (is ∙ ap change (sym there))

pub row_same : (group : ℕ) (old new : List (ℕ × Row)) (row w : Row) → lookup (is_at (nat_cmp group)) old ≡ Some row → new ≡ set_value (is_at (nat_cmp group)) old w → state_of w ≡ state_of row → rows_of new ≡ rows_of old
row_same group old new row w found set is =
    let test : ℕ → Bool = is_at (nat_cmp group) in
    ap rows_of set ∙ set_rows test old w ∙ set_value_same test (rows_of old) (state_of w) (lookup_rows test old ∙ ap (option_map state_of) found ∙ ap Some (sym is))

-- ---- rows that come and go

module _ (group : ℕ) where
  insert_one : (o : Ordering) (v : Row) (e : ℕ × Row) (es put : List (ℕ × Row)) (p : List (ℕ × PersistentState)) → rows_of put ≡ p
      → rows_of (match_ordering o ((group, v) ∷ e ∷ es) ((e.0, v) ∷ es) (e ∷ put)) ≡ match_ordering o ((group, state_of v) ∷ (e.0, state_of e.1) ∷ rows_of es) ((e.0, state_of v) ∷ rows_of es) ((e.0, state_of e.1) ∷ p)
  insert_one ordering.Less v e es put p rest = refl
  insert_one ordering.Equal v e es put p rest = refl
  insert_one ordering.Greater v e es put p rest = ap (λ (l : List (ℕ × PersistentState)). (e.0, state_of e.1) ∷ l) rest

  pub insert_rows : (es : List (ℕ × Row)) (v : Row) → rows_of (insert_entry nat_cmp es group v) ≡ insert_entry nat_cmp (rows_of es) group (state_of v)
  insert_rows [] v = refl
  insert_rows (e ∷ es) v = insert_one (nat_cmp group e.0) v e es (insert_entry nat_cmp es group v) (insert_entry nat_cmp (rows_of es) group (state_of v)) (insert_rows es v)

module _ (test : ℕ → Bool) where
  remove_one : (is : Bool) (e : ℕ × Row) (es less : List (ℕ × Row)) (p : List (ℕ × PersistentState)) → rows_of less ≡ p → rows_of (cond is es (e ∷ less)) ≡ cond is (rows_of es) ((e.0, state_of e.1) ∷ p)
  remove_one true e es less p rest = refl
  remove_one false e es less p rest = ap (λ (l : List (ℕ × PersistentState)). (e.0, state_of e.1) ∷ l) rest

  pub remove_rows : (es : List (ℕ × Row)) → rows_of (remove_entry test es) ≡ remove_entry test (rows_of es)
  remove_rows [] = refl
  remove_rows (e ∷ es) = remove_one (test e.0) e es (remove_entry test es) (remove_entry test (rows_of es)) (remove_rows es)

  keys_one : {X : Type 0} (is : Bool) (e : ℕ × X) (es less : List (ℕ × X)) (p : List ℕ) → keys_of less ≡ p → keys_of (cond is es (e ∷ less)) ≡ cond is (keys_of es) (e.0 ∷ p)
  keys_one true e es less p rest = refl
  keys_one false e es less p rest = ap (λ (l : List ℕ). e.0 ∷ l) rest

  pub remove_keys : {X : Type 0} (es : List (ℕ × X)) → keys_of (remove_entry test es) ≡ remove_key test (keys_of es)
  remove_keys [] = refl
  remove_keys (e ∷ es) = keys_one (test e.0) e es (remove_entry test es) (remove_key test (keys_of es)) (remove_keys es)

pub keys_rows : (es : List (ℕ × Row)) → keys_of (rows_of es) ≡ keys_of es
keys_rows [] = refl
keys_rows (e ∷ es) = ap (λ (l : List ℕ). e.0 ∷ l) (keys_rows es)

-- ---- what came goes again

here_is : (g : ℕ) → is_at (nat_cmp g) g ≡ true
here_is g = grind (arith, nat_tests)

module _ {X : Type 0} (g : ℕ) (v : X) where
  back_one : (o : Ordering) (is : Bool) (e : ℕ × X) (es put : List (ℕ × X)) → nat_cmp g e.0 ≡ o → is_at (nat_cmp g) e.0 ≡ is → (is ≡ true → ⊥) → remove_entry (is_at (nat_cmp g)) put ≡ es
      → remove_entry (is_at (nat_cmp g)) (match_ordering o ((g, v) ∷ e ∷ es) ((e.0, v) ∷ es) (e ∷ put)) ≡ e ∷ es
  back_one ordering.Less is e es put compares tests other rest = rw (here_is g) refl
  back_one ordering.Equal is e es put compares tests other rest = absurd (other (sym tests ∙ rw compares refl))
  back_one ordering.Greater is e es put compares tests other rest = rw compares (ap (λ (l : List (ℕ × X)). e ∷ l) rest)

  absent_one : (is : Bool) (x : X) (o : Option X) → cond is (Some x) o ≡ None → is ≡ true → ⊥
  absent_one true x o none found = cc
  absent_one false x o none found = cc

  absent_rest : (is : Bool) (x : X) (o : Option X) → cond is (Some x) o ≡ None → o ≡ None
  absent_rest true x o none = cc
  absent_rest false x o none = none

  pub entry_back : (es : List (ℕ × X)) → lookup (is_at (nat_cmp g)) es ≡ None → remove_entry (is_at (nat_cmp g)) (insert_entry nat_cmp es g v) ≡ es
  entry_back [] none = rw (here_is g) refl
  entry_back (e ∷ es) none =
      let test : Bool = is_at (nat_cmp g) e.0 in
      back_one (nat_cmp g e.0) test e es (insert_entry nat_cmp es g v) refl refl (absent_one test e.1 (lookup (is_at (nat_cmp g)) es) none) (entry_back es (absent_rest test e.1 (lookup (is_at (nat_cmp g)) es) none))

module _ (g : ℕ) where
  key_one : (o : Ordering) (is : Bool) (k : ℕ) (ks put : List ℕ) → nat_cmp g k ≡ o → is_at (nat_cmp g) k ≡ is → (is ≡ true → ⊥) → remove_key (is_at (nat_cmp g)) put ≡ ks
      → remove_key (is_at (nat_cmp g)) (match_ordering o (g ∷ k ∷ ks) (k ∷ ks) (k ∷ put)) ≡ k ∷ ks
  key_one ordering.Less is k ks put compares tests other rest = rw (here_is g) refl
  key_one ordering.Equal is k ks put compares tests other rest = absurd (other (sym tests ∙ rw compares refl))
  key_one ordering.Greater is k ks put compares tests other rest = rw compares (ap (λ (l : List ℕ). k ∷ l) rest)

  outside_one : (is rest : Bool) → (is || rest) ≡ false → is ≡ true → ⊥
  outside_one true rest none found = cc
  outside_one false rest none found = cc

  outside_rest : (is rest : Bool) → (is || rest) ≡ false → rest ≡ false
  outside_rest true rest none = cc
  outside_rest false rest none = none

  pub key_back : (ks : List ℕ) → list_any (is_at (nat_cmp g)) ks ≡ false → remove_key (is_at (nat_cmp g)) (insert_key nat_cmp ks g) ≡ ks
  key_back [] none = rw (here_is g) refl
  key_back (k ∷ ks) none =
      let test : Bool = is_at (nat_cmp g) k in
      let rest : Bool = list_any (is_at (nat_cmp g)) ks in
      key_one (nat_cmp g k) test k ks (insert_key nat_cmp ks g) refl refl (outside_one test rest none) (key_back ks (outside_rest test rest none))
